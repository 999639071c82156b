-- No frame is in two buffers: what another object has keeps its bytes where a buffer is written.
use Rattle.std.proofs.Common.{◌≡◌, inl, inr, ℕ, ◌+◌, ◌*◌, ◌<◌, ◌≤◌, true, false, cond, List, [], ◌∷◌, refl, sym, ◌∙◌, ap, arith, bytes_eq}
use Rattle.std.specs.Prelude.{Some, find, is_some, slice_index_or}
use Rattle.std.specs.List.{AllByRecursion}
use Rattle.std.proofs.lemmas.Bool.{false≢true}
use Rattle.ark_region.specs.Frames.{Piece, Apart, Covers, frames_of}
use Rattle.ark_machine.specs.Bytes.{Frames}
use Rattle.ark_machine.specs.Objects
use Rattle.ark_machine.specs.Objects.{Object, Buffer, buffer_frames, object_frames}
use Rattle.ark_machine.specs.Machine.{Held, at}
use Rattle.ark_held.specs.Totals.{bit, total, covers, object_covers}
use Rattle.ark_held.specs.Around.{Around, piece_of}
use Rattle.ark_held.specs.Held.{Holds}
use Rattle.ark_held.specs.Keeps.{Within, any_label}
use Rattle.ark_held.proofs.Lists.{by_test, some_same}
use Rattle.ark_held.proofs.Members.{In}
use Rattle.ark_held.proofs.Placing.{has_covers}
use Rattle.ark_held.proofs.Taking.{bit_most}
use Rattle.ark_held.proofs.Staying.{within_by}

covered : (j : ℕ) (f : Frames) → f.0 ≤ j → j < f.0 + f.1 → bit (covers j f) ≡ 1
covered j f low high = ap bit (has_covers j f (low, high))

each_clear : (T : ℕ → Type 0) (fs : List Frames) → ((j : ℕ) → T j → total (λ f. bit (covers j f)) fs ≡ 0) → AllByRecursion (λ f. (j : ℕ) → T j → bit (covers j f) ≡ 0) fs
each_clear T [] none = tt
each_clear T (f ∷ fs) none = (λ j has. (let e = none j has in omega (arith, e)), each_clear T fs (λ j has. (let e = none j has in omega (arith, e))))

-- a piece has none of these frames
abbrev pub Spares : (ℕ → Type 0) → Piece → Type 0
Spares T p = (j : ℕ) → T j → Covers p j → ⊥

-- what has none of these frames spares them
pub within_spares : (T : ℕ → Type 0) (o : Object) → ((j : ℕ) → T j → object_covers j o ≡ 0) → Within any_label (Spares T) o
within_spares T o clear = within_by (Spares T) (λ f. (j : ℕ) → T j → bit (covers j f) ≡ 0)
    (λ b none j has its. let one = covered j (buffer_frames b) its.0 its.1 in let zero = none j has in (let z : ⊥ = omega (arith, one, zero) in z))
    (λ f none j has its.
    let size : frames_of (512 * f.1) ≡ f.1 = omega arith in
    let below = its.1 in
    let one = covered j f its.0 (omega (arith, size, below)) in
    let zero = none j has in
    let z : ⊥ = omega (arith, one, zero) in z)
    o (each_clear T (object_frames o) clear)

-- what has none of a buffer's frames keeps its bytes
pub within_clear : (w : Piece) (o : Object) → ((j : ℕ) → Covers w j → object_covers j o ≡ 0) → Within any_label (Apart w) o
within_clear w o clear = within_spares (Covers w) o clear

-- Members of a list, and what they come to.

pub in_total : (f : Held → ℕ) (hs : List Held) (g : Held) → In hs g → f g ≤ total f hs
in_total f [] g inn = absurd inn
in_total f (z ∷ zs) g (inl e) = let same : f z ≡ f g = ap f e in omega (arith, same)
in_total f (z ∷ zs) g (inr inn) = let rest = in_total f zs g inn in omega (arith, rest)

pub two_total : (f : Held → ℕ) (hs : List Held) (h g : Held) → In hs h → In hs g → (h ≡ g → ⊥) → f h + f g ≤ total f hs
two_total f [] h g a b apart = absurd a
two_total f (z ∷ zs) h g (inl a) (inl b) apart = absurd (apart (sym a ∙ b))
two_total f (z ∷ zs) h g (inl a) (inr b) apart = let same : f z ≡ f h = ap f a in let rest = in_total f zs g b in omega (arith, same, rest)
two_total f (z ∷ zs) h g (inr a) (inl b) apart = let same : f z ≡ f g = ap f b in let rest = in_total f zs h a in omega (arith, same, rest)
two_total f (z ∷ zs) h g (inr a) (inr b) apart = let rest = two_total f zs h g a b apart in omega (arith, rest)

-- what is found under a label is one of them, and has the label
pub found_in : (l : List ℕ) (hs : List Held) (h : Held) → find (λ z. bytes_eq l z.label) hs ≡ Some h → In hs h × (bytes_eq l h.label ≡ true)
found_in l [] h is = absurd (false≢true (ap is_some is))
found_in l (z ∷ zs) h is = by_test (λ t. bytes_eq l z.label ≡ t → In (z ∷ zs) h × (bytes_eq l h.label ≡ true)) (bytes_eq l z.label)
    (λ yes q. let e : z ≡ h = some_same (Some z) z h refl (sym (ap (λ b. cond b (Some z) (find (λ g. bytes_eq l g.label) zs)) q) ∙ is) in (inl e, ap (λ (g : Held). bytes_eq l g.label) (sym e) ∙ q))
    (λ no q. let r = found_in l zs h (sym (ap (λ b. cond b (Some z) (find (λ g. bytes_eq l g.label) zs)) q) ∙ is) in (inr r.0, r.1)) refl

-- the frames of an object are its own, and it has each once
module _ (x : Around) (holds : Holds x) (l : List ℕ) (h : Held) (there : at x.machine l ≡ Some h) (j : ℕ) where
  pub most_covered : object_covers j h.object ≤ 1
  most_covered =
      let own = in_total (λ z. object_covers j z.object) x.machine.held h (found_in l x.machine.held h there).0 in
      let was = holds.taken j in
      let most = bit_most (slice_index_or x.tables.memory.taken j false) in
      omega (arith, own, was, most)

  pub other_spared : object_covers j h.object ≡ 1 → (g : Held) → In x.machine.held g → bytes_eq l g.label ≡ false → object_covers j g.object ≡ 0
  other_spared one g inn apart =
      let its = found_in l x.machine.held h there in
      let two = two_total (λ z. object_covers j z.object) x.machine.held h g its.0 inn (λ e. false≢true (sym apart ∙ ap (λ (z : Held). bytes_eq l z.label) (sym e) ∙ its.1)) in
      let was = holds.taken j in
      let most = bit_most (slice_index_or x.tables.memory.taken j false) in
      omega (arith, two, one, was, most)

-- as are those of a buffer
module _ (x : Around) (holds : Holds x) (l : List ℕ) (h : Held) (b : Buffer) (there : at x.machine l ≡ Some h) (object : h.object ≡ Objects.buffer b) (j : ℕ) (has : Covers (piece_of b) j) where
  its_frame : object_covers j h.object ≡ 1
  its_frame = let one = covered j (buffer_frames b) has.0 has.1 in ap (object_covers j) object ∙ omega (arith, one)

  pub other_clear : (g : Held) → In x.machine.held g → bytes_eq l g.label ≡ false → object_covers j g.object ≡ 0
  other_clear = other_spared x holds l h there j its_frame
