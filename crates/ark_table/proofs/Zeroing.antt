-- Zeros that are written to blocks, one after another.
use Rattle.std.proofs.Common.{◌≡◌, ℕ, ◌+◌, ◌<◌, List, [], ◌∷◌, ◌++◌, Bool, true, false, length, take, drop, get_or, refl, sym, ◌∙◌, ap, subst}
use Rattle.std.specs.Prelude.{Result, Ok, Err, is_ok}
use Rattle.std.specs.Result.{IsErr}
use Rattle.std.proofs.lemmas.List.{take_more, take-append-drop}
use Rattle.ark_media.specs.Journal.{Event, zero_block}
use Rattle.ark_media.specs.Calls.{Call, Told, Tells, Writes, Went}
use Rattle.ark_media.proofs.Planning.{went_then, went_stop}
use Rattle.ark_table.specs.Plans.{zero_calls}

-- a result that is an error is no success
pub failed_ok : {T E : Type 0} (r : Result T E) → IsErr r → is_ok r ≡ false
failed_ok (Ok x) bad = absurd (cc (bad))
failed_ok (Err e) bad = refl

zero_calls-append : (xs ys : List ℕ) → zero_calls (xs ++ ys) ≡ zero_calls xs ++ zero_calls ys
zero_calls-append [] ys = refl
zero_calls-append (x ∷ xs) ys = ap (λ (l : List Call). Writes x zero_block ∷ l) (zero_calls-append xs ys)

module _ {D : Type 0} (goes : D → List Event → D → Type 0) (more : (a b c : D) (es fs : List Event) → goes a es b → goes b fs c → goes a (es ++ fs) c) where
  -- one block more, which may fail
  pub zero_more : (blocks : List ℕ) (i n : ℕ) (ok : Bool) (a b c : D) → i < length blocks → get_or blocks i 0 ≡ n → Went goes (zero_calls (take i blocks)) true a b → Went goes (Writes n zero_block ∷ []) ok b c
      → Went goes (zero_calls (take (i + 1) blocks)) ok a c
  zero_more blocks i n ok a b c lt at first next = subst (λ (l : List Call). Went goes l ok a c)
      (ap (λ (x : ℕ). zero_calls (take i blocks) ++ (Writes x zero_block ∷ [])) (sym at) ∙ sym (zero_calls-append (take i blocks) (get_or blocks i 0 ∷ [])) ∙ ap zero_calls (sym (take_more blocks i 0 lt)))
      (went_then goes more (zero_calls (take i blocks)) (Writes n zero_block ∷ []) ok a b c first next)

  -- and none after one that failed
  pub zeros_stop : (blocks : List ℕ) (i : ℕ) (a b : D) → Went goes (zero_calls (take i blocks)) false a b → Went goes (zero_calls blocks) false a b
  zeros_stop blocks i a b first = subst (λ (l : List Call). Went goes l false a b) (sym (zero_calls-append (take i blocks) (drop i blocks)) ∙ ap zero_calls (take-append-drop i blocks))
      (went_stop goes (zero_calls (take i blocks)) (zero_calls (drop i blocks)) a b first)

module _ {D : Type 0} (goes : D → List Event → D → Type 0) (told : D → Told) (tells : (a b : D) (es : List Event) → goes a es b → Tells es (told a) (told b)) where
  -- a disk that went by calls has as many blocks
  pub same_blocks : (plan : List Call) (ok : Bool) (a b : D) → Went goes plan ok a b → (told b).blocks ≡ (told a).blocks
  same_blocks plan ok a b went = (tells a b went.events went.goes_on).blocks

-- a write, with its block's number and its content said otherwise
pub written_at : {D : Type 0} (goes : D → List Event → D → Type 0) (n i : ℕ) (content other : List ℕ) (ok : Bool) (a b : D) → n ≡ i → content ≡ other → Went goes (Writes n content ∷ []) ok a b
    → Went goes (Writes i other ∷ []) ok a b
written_at goes n i content other ok a b at is went = subst (λ (k : ℕ). Went goes (Writes k other ∷ []) ok a b) at (subst (λ (t : List ℕ). Went goes (Writes n t ∷ []) ok a b) is went)
