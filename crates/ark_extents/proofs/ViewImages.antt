-- What a stop may leave of a view is what it may leave of its blocks.
use Rattle.std.proofs.Common.{◌≡◌, inl, inr, ⊎_elim, ℕ, zero, suc, ◌<◌, Bool, true, false, List, [], ◌∷◌, Option, Some, None, length, get_or, refl, sym, ◌∙◌, ap, subst, arith, ◌==◌, if◌then◌else◌}
use Rattle.std.specs.Prelude.{option_map}
use Rattle.std.proofs.lemmas.Bool.{cases_eq, eqb-true, eqb-false}
use Rattle.ark_media.specs.Journal.{Event, Read, Write, Sync, Out, History, block, current}
use Rattle.ark_media.specs.Calls.{Told, GivesBlock}
use Rattle.ark_media.specs.Stops.{MayHold}
use Rattle.ark_extents.specs.Blocks.{AreDistinct}
use Rattle.ark_extents.specs.Views.{place_in, view_image, view_events, view_history, read_at, write_at, view_told, ArePlaced, IsLeftAlike}
use Rattle.ark_extents.specs.ViewLaws.{some_map}
use Rattle.ark_media.proofs.Stopping.{current_same, current_other}

-- what a place says
pub data Placed (blocks : List ℕ) (n : ℕ) : Option ℕ → Type 0 where
  there : (k : ℕ) → k < length blocks → get_or blocks k 0 ≡ n → Placed blocks n (Some k)
  nowhere : ((k : ℕ) → k < length blocks → get_or blocks k 0 ≡ n → ⊥) → Placed blocks n None

placed_more : (m n : ℕ) (blocks : List ℕ) (o : Option ℕ) → (m ≡ n → ⊥) → Placed blocks n o → Placed (m ∷ blocks) n (option_map (λ k. suc k) o)
placed_more m n blocks o ne (there k lt is) = there (suc k) (omega arith) is
placed_more m n blocks o ne (nowhere none) = nowhere out
  where
    out : (k : ℕ) → k < length (m ∷ blocks) → get_or (m ∷ blocks) k 0 ≡ n → ⊥
    out zero lt is = ne is
    out (suc k) lt is = none k (omega arith) is

placed_by : (m n : ℕ) (blocks : List ℕ) (o : Option ℕ) → Placed blocks n o → (b : Bool) → (m == n) ≡ b → Placed (m ∷ blocks) n (if b then Some 0 else option_map (λ k. suc k) o)
placed_by m n blocks o rest true is = there 0 (omega arith) (eqb-true m n is)
placed_by m n blocks o rest false is = placed_more m n blocks o (eqb-false m n is) rest

pub placed : (blocks : List ℕ) (n : ℕ) → Placed blocks n (place_in blocks n)
placed [] n = nowhere (λ k lt is. omega arith)
placed (m ∷ blocks) n = placed_by m n blocks (place_in blocks n) (placed blocks n) (m == n) refl

current_read : (b : List (List ℕ)) (o : Option ℕ) (ok : Bool) (rest : List Event) → current b (read_at o ok rest) ≡ current b rest
current_read b (Some i) ok rest = refl
current_read b None ok rest = refl

may_read : (Torn : List ℕ → List ℕ → Type 0) (b : List (List ℕ)) (o : Option ℕ) (ok : Bool) (rest : List Event) (k : ℕ) (content : List ℕ)
    → (MayHold Torn b (read_at o ok rest) k content → MayHold Torn b rest k content) × (MayHold Torn b rest k content → MayHold Torn b (read_at o ok rest) k content)
may_read Torn b (Some i) ok rest k content = (λ x. x, λ x. x)
may_read Torn b None ok rest k content = (λ x. x, λ x. x)

current_missed : (b : List (List ℕ)) (o : Option ℕ) (c : List ℕ) (ok : Bool) (rest : List Event) → current b (write_at o c false ok rest) ≡ current b rest
current_missed b (Some i) c ok rest = refl
current_missed b None c ok rest = refl

module _ (base : List (List ℕ)) (blocks : List ℕ) (distinct : AreDistinct blocks) (inside : (k : ℕ) → k < length blocks → get_or blocks k 0 < length base) where
  view_block : (image : List (List ℕ)) (l : List ℕ) (k : ℕ) → k < length l → block (view_image l image) k ≡ block image (get_or l k 0)
  view_block image [] k lt = absurd (omega arith)
  view_block image (n ∷ l) zero lt = refl
  view_block image (n ∷ l) (suc k) lt = view_block image l k (omega arith)

  view_size : (image : List (List ℕ)) (l : List ℕ) → length (view_image l image) ≡ length l
  view_size image [] = refl
  view_size image (n ∷ l) = ap (λ (m : ℕ). suc m) (view_size image l)

  -- a write, given the rest
  current_write : (n : ℕ) (c : List ℕ) (ok : Bool) (j : List Event) (k : ℕ) → k < length blocks
      → block (current (view_image blocks base) (view_events blocks j)) k ≡ block (current base j) (get_or blocks k 0)
      → (o : Option ℕ) → Placed blocks n o → block (current (view_image blocks base) (write_at o c true ok (view_events blocks j))) k ≡ block (current base (Write n c true ok ∷ j)) (get_or blocks k 0)
  current_write n c ok j k lt rest o (there i in_list is) = elim (cases_eq k i) [
    | inl same ↦
        let here : block (current (view_image blocks base) (Write i c true ok ∷ view_events blocks j)) i ≡ c = current_same (view_image blocks base) (view_events blocks j) i c ok (omega (arith, view_size base blocks, in_list)) in
        let below : n < length base = subst (λ (m : ℕ). m < length base) is (inside i in_list) in
        let there_too : block (current base (Write n c true ok ∷ j)) n ≡ c = current_same base j n c ok below in
        subst (λ (m : ℕ). block (current (view_image blocks base) (Write i c true ok ∷ view_events blocks j)) m ≡ block (current base (Write n c true ok ∷ j)) (get_or blocks m 0)) (sym same)
        (here ∙ sym (ap (λ (m : ℕ). block (current base (Write n c true ok ∷ j)) m) is ∙ there_too))
    | inr ne ↦
        current_other (view_image blocks base) (view_events blocks j) i k c true ok ne ∙ rest
        ∙ sym (current_other base j n (get_or blocks k 0) c true ok (λ same. ne (distinct k i lt in_list (same ∙ sym is))))
  ]
  current_write n c ok j k lt rest o (nowhere none) = rest ∙ sym (current_other base j n (get_or blocks k 0) c true ok (none k lt))

  may_write : (Torn : List ℕ → List ℕ → Type 0) (n : ℕ) (c : List ℕ) (took ok : Bool) (j : List Event) (k : ℕ) (content : List ℕ) → k < length blocks
      → (MayHold Torn (view_image blocks base) (view_events blocks j) k content → MayHold Torn base j (get_or blocks k 0) content)
      → (o : Option ℕ) → Placed blocks n o → MayHold Torn (view_image blocks base) (write_at o c took ok (view_events blocks j)) k content → MayHold Torn base (Write n c took ok ∷ j) (get_or blocks k 0) content
  may_write Torn n c took ok j k content lt rest o (there i in_list is) left = ⊎_elim
      (λ here. inl (subst (λ (m : ℕ). n ≡ get_or blocks m 0) here.0 (sym is), here.1))
      (λ old. inr (rest old)) left
  may_write Torn n c took ok j k content lt rest o (nowhere none) left = inr (rest left)

  write_may : (Torn : List ℕ → List ℕ → Type 0) (n : ℕ) (c : List ℕ) (took ok : Bool) (j : List Event) (k : ℕ) (content : List ℕ) → k < length blocks
      → (MayHold Torn base j (get_or blocks k 0) content → MayHold Torn (view_image blocks base) (view_events blocks j) k content)
      → (o : Option ℕ) → Placed blocks n o → MayHold Torn base (Write n c took ok ∷ j) (get_or blocks k 0) content → MayHold Torn (view_image blocks base) (write_at o c took ok (view_events blocks j)) k content
  write_may Torn n c took ok j k content lt rest o (there i in_list is) left = ⊎_elim
      (λ here. inl (distinct i k in_list lt (is ∙ here.0), here.1))
      (λ old. inr (rest old)) left
  write_may Torn n c took ok j k content lt rest o (nowhere none) left = ⊎_elim (λ here. absurd (none k lt (sym here.0))) rest left

  -- the current content
  pub view_current : (j : List Event) (k : ℕ) → k < length blocks → block (current (view_image blocks base) (view_events blocks j)) k ≡ block (current base j) (get_or blocks k 0)
  view_current [] k lt = view_block base blocks k lt
  view_current (Read n ok ∷ j) k lt = ap (λ (x : List (List ℕ)). block x k) (current_read (view_image blocks base) (place_in blocks n) ok (view_events blocks j)) ∙ view_current j k lt
  view_current (Sync ok ∷ j) k lt = view_current j k lt
  view_current (Out bytes ∷ j) k lt = view_current j k lt
  view_current (Write n c false ok ∷ j) k lt = ap (λ (x : List (List ℕ)). block x k) (current_missed (view_image blocks base) (place_in blocks n) c ok (view_events blocks j)) ∙ view_current j k lt
  view_current (Write n c true ok ∷ j) k lt = current_write n c ok j k lt (view_current j k lt) (place_in blocks n) (placed blocks n)

  -- and what a stop may leave, both ways
  pub view_may : (Torn : List ℕ → List ℕ → Type 0) (j : List Event) (k : ℕ) (content : List ℕ) → k < length blocks
      → MayHold Torn (view_image blocks base) (view_events blocks j) k content → MayHold Torn base j (get_or blocks k 0) content
  view_may Torn [] k content lt is = is ∙ view_block base blocks k lt
  view_may Torn (Read n ok ∷ j) k content lt left = view_may Torn j k content lt ((may_read Torn (view_image blocks base) (place_in blocks n) ok (view_events blocks j) k content).0 left)
  view_may Torn (Sync true ∷ j) k content lt is = is ∙ view_current j k lt
  view_may Torn (Sync false ∷ j) k content lt left = view_may Torn j k content lt left
  view_may Torn (Out bytes ∷ j) k content lt left = view_may Torn j k content lt left
  view_may Torn (Write n c took ok ∷ j) k content lt left = may_write Torn n c took ok j k content lt (view_may Torn j k content lt) (place_in blocks n) (placed blocks n) left

  pub may_view : (Torn : List ℕ → List ℕ → Type 0) (j : List Event) (k : ℕ) (content : List ℕ) → k < length blocks
      → MayHold Torn base j (get_or blocks k 0) content → MayHold Torn (view_image blocks base) (view_events blocks j) k content
  may_view Torn [] k content lt is = is ∙ sym (view_block base blocks k lt)
  may_view Torn (Read n ok ∷ j) k content lt left = (may_read Torn (view_image blocks base) (place_in blocks n) ok (view_events blocks j) k content).1 (may_view Torn j k content lt left)
  may_view Torn (Sync true ∷ j) k content lt is = is ∙ sym (view_current j k lt)
  may_view Torn (Sync false ∷ j) k content lt left = may_view Torn j k content lt left
  may_view Torn (Out bytes ∷ j) k content lt left = may_view Torn j k content lt left
  may_view Torn (Write n c took ok ∷ j) k content lt left = write_may Torn n c took ok j k content lt (may_view Torn j k content lt) (place_in blocks n) (placed blocks n) left

module _ (blocks : List ℕ) (distinct : AreDistinct blocks) where
  place_is : (k : ℕ) → k < length blocks → (o : Option ℕ) → Placed blocks (get_or blocks k 0) o → o ≡ Some k
  place_is k lt o (there i in_list is) = ap (λ (m : ℕ). Some m) (distinct i k in_list lt is)
  place_is k lt o (nowhere none) = absurd (none k lt refl)

  -- each of the blocks is at its own place
  pub placed_blocks : ArePlaced blocks
  placed_blocks k lt = place_is k lt (place_in blocks (get_or blocks k 0)) (placed blocks (get_or blocks k 0))

-- blocks that are each at their own place are distinct
pub distinct_placed : (blocks : List ℕ) → ArePlaced blocks → AreDistinct blocks
distinct_placed blocks placed i k li lk e =
    let same : Some i ≡ Some k = sym (placed i li) ∙ ap (place_in blocks) e ∙ placed k lk in cc

-- a read of the disk is a read of the view
pub honest_view : (blocks : List ℕ) → ArePlaced blocks → (told : Told) (k : ℕ) (out : List ℕ) → k < length blocks
    → ((h : History) → told.history ≡ Some h → (i : ℕ) → i < length blocks → get_or blocks i 0 < length h.base)
    → GivesBlock told.history (get_or blocks k 0) out → GivesBlock (view_told blocks told).history k out
honest_view blocks placed told k out lt inside honest = record {
  told = λ h is.
      let x = some_map (view_history blocks) told.history h is in
      honest.told x.0 x.1 ∙ sym (view_current x.0.base blocks (distinct_placed blocks placed) (inside x.0 x.1) x.0.journal k lt)
      ∙ ap (λ (y : History). block (current y.base y.journal) k) x.2;
}

-- both ways, at any history of a disk that has the blocks
pub left_alike : (Torn : List ℕ → List ℕ → Type 0) (blocks : List ℕ) (size : ℕ) → AreDistinct blocks → ((k : ℕ) → k < length blocks → get_or blocks k 0 < size) → IsLeftAlike Torn blocks size
left_alike Torn blocks size distinct inside h is k lt content =
    let within : (i : ℕ) → i < length blocks → get_or blocks i 0 < length h.base = λ i li. subst (λ (m : ℕ). get_or blocks i 0 < m) (sym is) (inside i li) in
    (view_may h.base blocks distinct within Torn h.journal k content lt, may_view h.base blocks distinct within Torn h.journal k content lt)
