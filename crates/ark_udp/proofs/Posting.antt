-- A frame that is posted in a new buffer.
use Rattle.std.proofs.Common.{◌≡◌, ⊎_elim, ℕ, ◌+◌, ◌≤◌, ◌<◌, Bool, true, false, List, [], ◌∷◌, ◌++◌, length, replicate, sym, ap, ◌∙◌, subst, arith}
use Rattle.std.specs.Prelude.{IsTrue, ◌↔◌}
use Rattle.std.proofs.lemmas.Bool.{false≢true}
use Rattle.std.proofs.lemmas.List.{append-nil, drop_all, length-replicate}
use Rattle.ark_region.specs.Frames.{Piece, Space, Apart, IsTaken, IsLeastPlace, LiesInRegion, Wrote, bytes_of, frames_of, put}
use Rattle.ark_region.proofs.Putting.{at_or_below}
use Rattle.ark_vic.specs.Queue.{Queue, members}
use Rattle.ark_udp.specs.Sent.{IsPosted, reaped, sending}

-- a reaped ring that is not full
pub not_full : (q x : Queue) (b : Bool) → x ≡ reaped q → b ≡ false → (IsTrue b ↔ (x.size ≤ members x)) → length q.posted < q.size
not_full q x b is off full =
    ⊎_elim (λ le. absurd (false≢true (sym off ∙ full.1 le)))
    (λ lt. let less : members (reaped q) < (reaped q).size = subst (λ y. members y < y.size) is lt in omega (arith, less)) (at_or_below x.size (members x))

whole_put : (xs ys : List ℕ) → length xs ≤ length ys → put xs 0 ys ≡ ys
whole_put xs ys le =
    ap (λ zs. ys ++ zs) (drop_all (0 + length ys) xs (let more : length xs ≤ 0 + length ys = omega (arith, le) in more)) ∙ append-nil ys

abbrev pub posting : Piece → Queue → Queue
posting b q = record q { posted = q.posted ++ sending b ∷ [] }

pub is_posted : (frame : List ℕ) (old mid new : Space) (before after : Queue) (b : Piece) (len : ℕ) → b.len ≡ len → length frame ≡ b.len
    → IsLeastPlace (IsTaken old.taken) (length old.taken) (frames_of len) b.start → LiesInRegion mid.taken b → mid.taken ≡ put old.taken b.start (replicate (frames_of len) true)
    → bytes_of mid b ≡ replicate len 0 → ((a : Piece) → Apart b a → bytes_of mid a ≡ bytes_of old a) → Wrote mid new b 0 frame
    → after ≡ record before { posted = before.posted ++ sending b ∷ [] } → IsPosted frame old new before after
is_posted frame old mid new before after b len is whole place lies taken clear others wrote posted = record {
  buffer = b;
  whole = sym whole;
  place = subst (λ n. IsLeastPlace (IsTaken old.taken) (length old.taken) (frames_of n) b.start) (sym is) place;
  lies = subst (λ t. LiesInRegion t b) (sym wrote.taken) lies;
  taken = wrote.taken ∙ taken ∙ ap (λ n. put old.taken b.start (replicate (frames_of n) true)) (sym is);
  bytes =
      let size = ap length clear in let zeros = length-replicate {A = ℕ} len 0 in
      wrote.here ∙ whole_put (bytes_of mid b) frame (let le : length (bytes_of mid b) ≤ length frame = omega (arith, size, zeros, whole, is) in le);
  others = λ a apart. wrote.others a apart ∙ others a apart;
  posted = posted;
}
