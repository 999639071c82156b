-- What the getters of a parse that succeeds read.
use Rattle.std.proofs.Common.{◌≡◌, ◌≢◌, ◌∙◌, ◌≤◌, ◌<◌, ℕ, zero, suc, List, [], ◌∷◌, Option, Some, None, String, Global, length, map, option_map, option_to_list, option_and_then, refl, sym, ap, ap₂, subst, Result, Err, codes, string_bytes, slice_get, get_or, arith}
use Rattle.std.proofs.lemmas.Str.{IsUtf8-string_bytes}
use Rattle.clap.specs.Walk.{Row, first_of}
use Rattle.clap.specs.Simple.{matches_of}
use Rattle.clap.specs.Faults.{fault_of}
use Rattle.ark_words.specs.Apps.{run_app, check_app, work_app}
use Rattle.ark_words.specs.Sorted.{Text, Sorted, sorted, SortsTo}
use Rattle.ark_words.proofs.RowLemmas.{row}
use Rattle.ark_words.proofs.Standing.{Agrees, Fits}
use Rattle.ark_words.proofs.Ends.{AllText}
use Rattle.ark_words.proofs.Commands.{device_only, three, check_agrees, run_agrees, work_agrees}

pub all_text : (words : List (String Global)) → AllText (map string_bytes words)
all_text [] = tt
all_text (w ∷ words) = (IsUtf8-string_bytes w, all_text words)

first_word : (id : Text) (o : Option Text) → option_and_then (λ (r : Row). slice_get r.values 0) (option_map (row id) o) ≡ o
first_word id None = refl
first_word id (Some v) = refl

no_some : {X : Type 0} (x : X) → Some x ≡ None → ⊥
no_some x e = cc

-- lists by their elements
at_most_one : (xs : List Text) → length xs ≤ 1 → xs ≡ option_to_list (slice_get xs 0)
at_most_one [] le = refl
at_most_one (x ∷ []) le = refl
at_most_one (x ∷ y ∷ xs) le = absurd (omega arith)

none : (xs : List Text) → length xs ≤ 0 → xs ≡ []
none [] le = refl
none (x ∷ xs) le = absurd (omega arith)

just_one : (xs : List Text) (a : Text) → length xs ≡ 1 → Some a ≡ slice_get xs 0 → xs ≡ a ∷ []
just_one [] a n e = absurd (omega arith)
just_one (x ∷ []) a n e = cc
just_one (x ∷ y ∷ xs) a n e = absurd (omega arith)

just_three : (xs : List Text) (a b d : Text) → length xs ≡ 3 → Some a ≡ slice_get xs 0 → Some b ≡ slice_get xs 1 → Some d ≡ slice_get xs 2 → xs ≡ a ∷ b ∷ d ∷ []
just_three [] a b d n e f g = absurd (omega arith)
just_three (x ∷ []) a b d n e f g = absurd (omega arith)
just_three (x ∷ y ∷ []) a b d n e f g = absurd (omega arith)
just_three (x ∷ y ∷ z ∷ []) a b d n e f g = cc
just_three (x ∷ y ∷ z ∷ w ∷ xs) a b d n e f g = absurd (omega arith)

there : (xs : List Text) (k : ℕ) → k < length xs → slice_get xs k ≡ None → ⊥
there [] k lt e = absurd (omega arith)
there (x ∷ xs) zero lt e = no_some x e
there (x ∷ xs) (suc k) lt e = there xs k (omega arith) e

-- the sorted words of a parse with no fault, and what a getter reads of them
pub record Parsed (ids : List Text) (most : ℕ) (rows : List Row) (words : List Text) : Type 0 where
  pub s : Sorted
  pub is : sorted words ≡ Some s
  pub fits : Fits ids most s
  pub new : first_of (codes "new") rows ≡ slice_get s.new 0
  pub plain : (k : ℕ) → k < length ids → first_of (get_or ids k []) rows ≡ slice_get s.plain k

parsed : (ids : List Text) (most : ℕ) (kinds : Rattle.clap.specs.Kinds.Kinds) (rows : List Row) (words : List Text) → Agrees ids most kinds rows (sorted words) → kinds ≡ [] → Parsed ids most rows words
parsed ids most kinds rows words a e =
    let found = a.sound e in
    let s = found.0 in
    record {
      s = s;
      is = found.1;
      fits = found.2;
      new = ap (option_and_then (λ (r : Row). slice_get r.values 0)) (found.3).0 ∙ first_word (codes "new") (slice_get s.new 0);
      plain = λ k lt. ap (option_and_then (λ (r : Row). slice_get r.values 0)) ((found.3).1 k lt) ∙ first_word (get_or ids k []) (slice_get s.plain k);
    }

sorts : (words : List Text) (most count : ℕ) (s r : Sorted) → sorted words ≡ Some s → length s.new ≤ most → length s.plain ≡ count → s ≡ r → SortsTo words most count r
sorts words most count s r e f g same = subst (SortsTo words most count) same (record { is = e; new = f; plain = g })

abbrev sorted_of : List Text → List Text → Sorted
sorted_of a b = record { new = a; plain = b }

-- the fault that a `?` hands on
pub handed_on : {T E : Type 0} (r : Result T E) (x y z : E) → r ≡ Err x → x ≡ z → r ≡ Err y → z ≡ y
handed_on r x y z a b d = cc

-- `run`
pub run_parsed : (words : List Text) → AllText words → fault_of run_app words ≡ [] → Parsed device_only 1 (matches_of run_app words) words
run_parsed words texts e = parsed device_only 1 _ _ words (run_agrees words texts) e

pub run_sorts : (words : List Text) (new : Option Text) (device : Text) → AllText words → fault_of run_app words ≡ []
    → new ≡ first_of (codes "new") (matches_of run_app words) → Some device ≡ first_of (codes "device") (matches_of run_app words)
    → SortsTo words 1 1 (record { new = option_to_list new; plain = device ∷ [] })
run_sorts words new device texts e f g =
    let p = run_parsed words texts e in
    let s = p.s in
    let new_is : s.new ≡ option_to_list new = at_most_one s.new p.fits.new ∙ ap option_to_list (sym (f ∙ p.new)) in
    let plain_is : s.plain ≡ device ∷ [] = just_one s.plain device p.fits.plain (g ∙ p.plain 0 (omega arith)) in
    sorts words 1 1 s (sorted_of (option_to_list new) (device ∷ [])) p.is p.fits.new p.fits.plain (ap₂ sorted_of new_is plain_is)

pub run_has_device : (words : List Text) → AllText words → fault_of run_app words ≡ [] → None ≡ first_of (codes "device") (matches_of run_app words) → ⊥
run_has_device words texts e f =
    let p = run_parsed words texts e in
    there (p.s).plain 0 (omega (arith, p.fits.plain)) (sym (f ∙ p.plain 0 (omega arith)))

pub run_fails : (words : List Text) → AllText words → fault_of run_app words ≢ [] → (s : Sorted) → SortsTo words 1 1 s → ⊥
run_fails words texts bad s h = bad ((run_agrees words texts).complete s h.is (record { new = h.new; plain = h.plain }))

-- `check`
pub check_parsed : (words : List Text) → AllText words → fault_of check_app words ≡ [] → Parsed device_only 0 (matches_of check_app words) words
check_parsed words texts e = parsed device_only 0 _ _ words (check_agrees words texts) e

pub check_sorts : (words : List Text) (device : Text) → AllText words → fault_of check_app words ≡ []
    → Some device ≡ first_of (codes "device") (matches_of check_app words) → SortsTo words 0 1 (record { new = []; plain = device ∷ [] })
check_sorts words device texts e g =
    let p = check_parsed words texts e in
    let s = p.s in
    let new_is : s.new ≡ [] = none s.new p.fits.new in
    let plain_is : s.plain ≡ device ∷ [] = just_one s.plain device p.fits.plain (g ∙ p.plain 0 (omega arith)) in
    sorts words 0 1 s (sorted_of [] (device ∷ [])) p.is p.fits.new p.fits.plain (ap₂ sorted_of new_is plain_is)

pub check_has_device : (words : List Text) → AllText words → fault_of check_app words ≡ [] → None ≡ first_of (codes "device") (matches_of check_app words) → ⊥
check_has_device words texts e f =
    let p = check_parsed words texts e in
    there (p.s).plain 0 (omega (arith, p.fits.plain)) (sym (f ∙ p.plain 0 (omega arith)))

pub check_fails : (words : List Text) → AllText words → fault_of check_app words ≢ [] → (s : Sorted) → SortsTo words 0 1 s → ⊥
check_fails words texts bad s h = bad ((check_agrees words texts).complete s h.is (record { new = h.new; plain = h.plain }))

-- `work`
pub work_parsed : (words : List Text) → AllText words → fault_of work_app words ≡ [] → Parsed three 0 (matches_of work_app words) words
work_parsed words texts e = parsed three 0 _ _ words (work_agrees words texts) e

pub work_sorts : (words : List Text) (seed lines device : Text) → AllText words → fault_of work_app words ≡ []
    → Some seed ≡ first_of (codes "seed") (matches_of work_app words) → Some lines ≡ first_of (codes "lines") (matches_of work_app words)
    → Some device ≡ first_of (codes "device") (matches_of work_app words) → SortsTo words 0 3 (record { new = []; plain = seed ∷ lines ∷ device ∷ [] })
work_sorts words seed lines device texts e f g h =
    let p = work_parsed words texts e in
    let s = p.s in
    let new_is : s.new ≡ [] = none s.new p.fits.new in
    let plain_is : s.plain ≡ seed ∷ lines ∷ device ∷ [] =
    just_three s.plain seed lines device p.fits.plain (f ∙ p.plain 0 (omega arith)) (g ∙ p.plain 1 (omega arith)) (h ∙ p.plain 2 (omega arith)) in
    sorts words 0 3 s (sorted_of [] (seed ∷ lines ∷ device ∷ [])) p.is p.fits.new p.fits.plain (ap₂ sorted_of new_is plain_is)

pub work_has : (words : List Text) → AllText words → fault_of work_app words ≡ [] → (k : ℕ) → k < 3 → None ≡ first_of (get_or three k []) (matches_of work_app words) → ⊥
work_has words texts e k lt f =
    let p = work_parsed words texts e in
    there (p.s).plain k (omega (arith, p.fits.plain)) (sym (f ∙ p.plain k lt))

pub work_fails : (words : List Text) → AllText words → fault_of work_app words ≢ [] → (s : Sorted) → SortsTo words 0 3 s → ⊥
work_fails words texts bad s h = bad ((work_agrees words texts).complete s h.is (record { new = h.new; plain = h.plain }))
