-- Reads of blocks: how they are joined, and that they leave the image.
use Rattle.std.proofs.Common.{◌≡◌, inl, inr, ℕ, ◌+◌, ◌≤◌, Bool, true, false, List, [], ◌∷◌, ◌++◌, map, length, take, Option, Some, refl, sym, ◌∙◌, ap, subst}
use Rattle.std.specs.Prelude.{Result, Ok, Err, is_ok}
use Rattle.std.specs.Result.{IsErr}
use Rattle.std.proofs.lemmas.List.{map-append}
use Rattle.ark_media.specs.Journal.{Event, History, onto, current}
use Rattle.ark_media.specs.Calls.{Call, Reads, Told, Tells, Makes, Went, OnTold}
use Rattle.ark_media.proofs.Planning.{went_then}
use Rattle.ark_media.proofs.Stopping.{length-current}
use Rattle.ark_media.specs.declared.outside.DiskFailed.{DiskFailed}
use Rattle.ark_base.specs.declared.kind.Kind.{Kind}
use Rattle.ark_chain.specs.declared.surveying.Seen.{Seen}
use Rattle.ark_chain.specs.declared.surveying.SurveyFault.{SurveyFault}
use Rattle.ark_chain.specs.Survey.{block_at, reads, reads_at, is_read, last_of, ends_of, Rise, HasSurveyed}
use Rattle.ark_chain.specs.Walking.{HasLooked}
use Rattle.ark_chain.proofs.Places.{last_none, last_some}

pub failed_ok : {T E : Type 0} (r : Result T E) → IsErr r → is_ok r ≡ false
failed_ok (Ok x) bad = absurd (cc (bad))
failed_ok (Err e) bad = refl

pub reads_leave : (base : List (List ℕ)) (blocks : List ℕ) (ok : Bool) (es j : List Event) → Makes (reads blocks) ok es → current base (onto es j) ≡ current base j
reads_leave base [] ok [] j makes = refl
reads_leave base [] ok (e ∷ es) j makes = absurd makes
reads_leave base (n ∷ ns) ok [] j makes = absurd makes
reads_leave base (n ∷ ns) ok (e ∷ es) j (inl h) = reads_leave base ns ok es (e ∷ j) h.1 ∙ ap (λ (x : Event). current base (x ∷ j)) h.0
reads_leave base (n ∷ ns) ok (e ∷ es) j (inr h) = ap (λ (l : List Event). current base (onto l (e ∷ j))) h.2 ∙ ap (λ (x : Event). current base (x ∷ j)) h.0

module _ {D : Type 0} (goes : D → List Event → D → Type 0) where
  pub none_read : ((d : D) → goes d [] d) → (d : D) → Went goes [] true d d
  none_read none d = record { events = []; makes = refl; goes_on = none d }

  pub one_read : (room start u n : ℕ) (ok : Bool) (a b : D) → n ≡ block_at room start u → Went goes (Reads n ∷ []) ok a b → Went goes (reads_at room start (u ∷ [])) ok a b
  one_read room start u n ok a b is went = subst (λ (k : ℕ). Went goes (Reads k ∷ []) ok a b) is went

  pub no_last : ((d : D) → goes d [] d) → (room start u n : ℕ) → n ≡ 0 → (d : D) → Went goes (reads_at room start (last_of u n)) true d d
  no_last none room start u n is d = subst (λ (l : List ℕ). Went goes (reads_at room start l) true d d) (sym (last_none u n is)) (none_read none d)

  pub the_last : (room start u n k : ℕ) (ok : Bool) (a b : D) → 1 ≤ n → k ≡ block_at room start (u + n) → Went goes (Reads k ∷ []) ok a b → Went goes (reads_at room start (last_of u n)) ok a b
  the_last room start u n k ok a b some is went = subst (λ (l : List ℕ). Went goes (reads_at room start l) ok a b) (sym (last_some u n some)) (one_read room start (u + n) k ok a b is went)

  pub reads_then : ((a b c : D) (es fs : List Event) → goes a es b → goes b fs c → goes a (es ++ fs) c) → (room start : ℕ) (xs ys : List ℕ) (ok : Bool) (a b c : D)
      → Went goes (reads_at room start xs) true a b → Went goes (reads_at room start ys) ok b c → Went goes (reads_at room start (xs ++ ys)) ok a c
  reads_then more room start xs ys ok a b c first rest = subst (λ (l : List Call). Went goes l ok a c)
      (sym (map-append (λ n. Reads n) (map (λ u. block_at room start u) xs) (map (λ u. block_at room start u) ys)) ∙ ap (λ (l : List ℕ). reads l) (sym (map-append (λ u. block_at room start u) xs ys)))
      (went_then goes more (reads_at room start xs) (reads_at room start ys) ok a b c first rest)

-- a read of an entry's ends failed
pub looked_stop : {D : Type 0} (goes : D → List Event → D → Type 0) (room start behind : ℕ) (result : Result (Option ℕ) DiskFailed) (a b : D) → IsErr result → (places : List ℕ)
    → Went goes (reads_at room start places) false a b → Rise behind places room → (len n : ℕ) → places ≡ take n (ends_of behind len) → HasLooked goes room start behind result a b
looked_stop goes room start behind (Ok x) a b bad places went once len n are = absurd (cc (bad))
looked_stop goes room start behind (Err e) a b bad places went once len n are = record { places = places; went = went; once = once; ends = (len, n, are) }

module _ {D : Type 0} (goes : D → List Event → D → Type 0) (told : D → Told) (tells : (a b : D) (es : List Event) → goes a es b → Tells es (told a) (told b)) where
  -- what was so of the image is so of it after reads
  pub still_told : (blocks : List ℕ) (ok : Bool) (a b : D) → Went goes (reads blocks) ok a b → (Holds : List (List ℕ) → Type 0) → OnTold (told a) Holds → OnTold (told b) Holds
  still_told blocks ok a b went Holds was h is =
      let r = (tells a b went.events went.goes_on).adds.told h is in
      subst Holds (sym (ap (λ (j : List Event). current h.base j) r.2 ∙ reads_leave h.base blocks ok went.events r.0 went.makes)) (was (record { base = h.base; journal = r.0 }) r.1)

  pub same_blocks : (plan : List Call) (ok : Bool) (a b : D) → Went goes plan ok a b → (told b).blocks ≡ (told a).blocks
  same_blocks plan ok a b went = (tells a b went.events went.goes_on).blocks

  pub image_long : ((d : D) (h : History) → (told d).history ≡ Some h → length h.base ≡ (told d).blocks) → (plan : List Call) (ok : Bool) (a b : D) → Went goes plan ok a b → (blocks : ℕ) → blocks ≡ (told a).blocks
      → (h : History) → (told b).history ≡ Some h → length (current h.base h.journal) ≡ blocks
  image_long size_is plan ok a b went blocks are h is = length-current h.base h.journal ∙ size_is b h is ∙ same_blocks plan ok a b went ∙ sym are

-- a survey's reads leave the number of blocks
pub survey_blocks : {D : Type 0} (goes : D → List Event → D → Type 0) (told : D → Told) (tells : (a b : D) (es : List Event) → goes a es b → Tells es (told a) (told b)) (kind : Kind) (result : Result Seen SurveyFault) (lengths : List ℕ) (a b : D)
    → HasSurveyed goes told kind result lengths a b → (told b).blocks ≡ (told a).blocks
survey_blocks goes told tells kind result lengths a b surveyed = same_blocks goes told tells (Reads 0 ∷ reads_at surveyed.room surveyed.start surveyed.places) (is_read result) a b surveyed.went
