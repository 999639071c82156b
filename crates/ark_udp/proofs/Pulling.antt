-- A ring whose received frames are taken one by one.
use Rattle.std.proofs.Common.{◌≡◌, ℕ, ◌≤◌, List, [], ◌∷◌, ◌++◌, length, map, drop, Some, None, refl, sym, ap, ◌∙◌, subst, arith, append_assoc, append-nil}
use Rattle.std.specs.Prelude.{All, slice_get}
use Rattle.std.proofs.lemmas.List.Elements.{recursion_from_All}
use Rattle.ark_packet.specs.declared.own.Own.{Own}
use Rattle.ark_region.specs.Frames.{Space}
use Rattle.ark_vic.specs.Queue.{Queue}
use Rattle.ark_vic.specs.declared.descriptor.Completion.{Completion}
use Rattle.ark_udp.specs.Socket.{Socket}
use Rattle.ark_udp.specs.Received.{with_received, all_received, frame_in, again, posted_again}

pub none_left : {X : Type 0} (xs : List X) → slice_get xs 0 ≡ None → xs ≡ []
none_left [] e = refl
none_left (x ∷ xs) e = cc

pub first_of : {X : Type 0} (xs : List X) (x : X) → slice_get xs 0 ≡ Some x → xs ≡ x ∷ drop 1 xs
first_of [] x e = cc
first_of (y ∷ xs) x e = let same : y ≡ x = cc in ap (λ z. z ∷ xs) same

pub no_length : {X : Type 0} (xs : List X) → length xs ≤ 0 → xs ≡ []
no_length [] e = refl
no_length (x ∷ xs) e = absurd (omega (arith, e))

pub holds_first : {X : Type 0} (P : X → Type 0) (xs : List X) (x : X) → slice_get xs 0 ≡ Some x → All P xs → P x
holds_first P xs x first all = (recursion_from_All P (x ∷ drop 1 xs) (subst (All P) (first_of xs x first) all)).0

abbrev pub with_unreaped : Queue → List Completion → Queue
with_unreaped q us = record q { unreaped = us }

-- a ring with nothing unreaped
pub all_posted : (q : Queue) → q.unreaped ≡ [] → posted_again q ≡ q
all_posted q none =
    ap (λ us. record q { posted = q.posted ++ map again us; unreaped = [] }) none ∙ ap (λ ps. record q { posted = ps; unreaped = [] }) (append-nil q.posted)
    ∙ ap (λ us. record q { unreaped = us }) (sym none)

-- a completion's buffer is posted again
abbrev pub with_again : Completion → Queue → Queue
with_again c q = record q { posted = q.posted ++ again c ∷ [] }

-- its oldest completion is reaped, and posted again
pub posted_one : (q : Queue) (c : Completion) → slice_get q.unreaped 0 ≡ Some c → posted_again (record q { posted = q.posted ++ again c ∷ []; unreaped = drop 1 q.unreaped }) ≡ posted_again q
posted_one q c first =
    ap (λ ps. record q { posted = ps; unreaped = [] }) (append_assoc q.posted (again c ∷ []) (map again (drop 1 q.unreaped)))
    ∙ sym (ap (λ us. record q { posted = q.posted ++ map again us; unreaped = [] }) (first_of q.unreaped c first))

module _ (own : Own) (space : Space) where
  -- what sockets keep of the frames of these completions
  abbrev pub gets : List Completion → List Socket → List Socket
  gets done sockets = all_received own (map (frame_in space) done) sockets

  pub got_one : (us : List Completion) (c : Completion) (old new : List Socket) (frame : List ℕ) → slice_get us 0 ≡ Some c → frame ≡ frame_in space c → new ≡ with_received own frame old
      → gets (drop 1 us) new ≡ gets us old
  got_one us c old new frame first is e =
      ap (gets (drop 1 us)) (e ∙ ap (λ f. with_received own f old) is) ∙ sym (ap (λ x. gets x old) (first_of us c first))
