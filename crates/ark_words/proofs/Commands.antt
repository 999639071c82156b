-- The three commands, as clap builds them.
use Rattle.std.proofs.Common.{◌≡◌, ◌≢◌, ◌<◌, ◌||◌, ℕ, zero, suc, Bool, true, false, cond, not, List, [], ◌∷◌, Some, refl, sym, codes, get_or, arith, ne_eqb, bytes_eq, subst, true≢false}
use Rattle.std.proofs.lemmas.Bool.{or_parts, not-false}
use Rattle.clap.specs.Walk.{Row, Rule, arg_by_id, arg_by_index, nothing_held, with_default}
use Rattle.clap.specs.Simple.{built, matches_of}
use Rattle.clap.specs.Takes.{is_given}
use Rattle.clap.specs.Faults.{default_fault, defaults_fault, fault_of}
use Rattle.clap.proofs.FaultLemmas.{leaf_fault}
use Rattle.ark_words.specs.Apps.{run_app, check_app, work_app}
use Rattle.ark_words.specs.Sorted.{Text, sorted}
use Rattle.ark_words.proofs.Table.{Table, taken, refused, new_built, word_built, is_lacking}
use Rattle.ark_words.proofs.Standing.{Agrees}
use Rattle.ark_words.proofs.Ends.{AllText}
use Rattle.ark_words.proofs.Law.{law}

-- ---- no argument has a default

or_true : (b : Bool) → (b || true) ≡ true
or_true true = refl
or_true false = refl

same_either : {X : Type 0} (b : Bool) (x : X) → cond b x x ≡ x
same_either true x = refl
same_either false x = refl

pub new_default : (rows : List Row) → (default_fault rows new_built ≡ []) × (with_default rows new_built ≡ rows)
new_default rows = (rw or_true refl, same_either _ rows)

word_default : (rows : List Row) (i : ℕ) (id : Text) → (default_fault rows (word_built i id) ≡ []) × (with_default rows (word_built i id) ≡ rows)
word_default rows i id = (rw or_true refl, same_either _ rows)

-- ---- the plain words of a command

is_there : (b : Bool) → (not b || false) ≡ false → b ≡ true
is_there true e = refl
is_there false e = absurd (true≢false e)

abbrev pub device_only : List Text
device_only = codes "device" ∷ []

abbrev pub three : List Text
three = codes "seed" ∷ codes "lines" ∷ codes "device" ∷ []

-- ---- `check`

abbrev check_rules : List Rule
check_rules = word_built 1 (codes "device") ∷ []

check_table : Table check_rules device_only 0
unfolding defaults_fault
check_table = record {
  short = λ x. refl;
  long = λ name e. refl;
  new = refused refl;
  index = index;
  id = id;
  past = λ k le. rw (ne_eqb 1 (suc k) (λ e. omega arith)) refl;
  apart = apart;
  apart_new = apart_new;
  few = omega arith;
  no_defaults = λ rows. rw ((word_default rows 1 (codes "device")).0) refl;
  no_default = λ rows. (word_default rows 1 (codes "device")).1;
  complete = λ rows h. rw (h 0 (omega arith)) refl;
  given = given;
}
  where
    index : (k : ℕ) → k < 1 → arg_by_index check_rules (suc k) ≡ Some (word_built (suc k) (get_or device_only k []))
    index zero lt = refl
    index (suc k) lt = absurd (omega arith)

    id : (k : ℕ) → k < 1 → arg_by_id check_rules (get_or device_only k []) ≡ Some (word_built (suc k) (get_or device_only k []))
    id zero lt = refl
    id (suc k) lt = absurd (omega arith)

    apart : (j k : ℕ) → j < 1 → k < 1 → j ≢ k → bytes_eq (get_or device_only j []) (get_or device_only k []) ≡ false
    apart j k a b ne = absurd (ne (omega arith))

    apart_new : (k : ℕ) → k < 1 → (bytes_eq (codes "new") (get_or device_only k []) ≡ false) × (bytes_eq (get_or device_only k []) (codes "new") ≡ false)
    apart_new zero lt = (refl, refl)
    apart_new (suc k) lt = absurd (omega arith)

    given : (rows : List Row) → is_lacking rows check_rules ≡ false → (k : ℕ) → k < 1 → is_given (get_or device_only k []) rows ≡ true
    given rows e zero lt = is_there _ e
    given rows e (suc k) lt = absurd (omega arith)

-- ---- `run`

abbrev run_rules : List Rule
run_rules = new_built ∷ word_built 1 (codes "device") ∷ []

run_table : Table run_rules device_only 1
unfolding defaults_fault
run_table = record {
  short = λ x. refl;
  long = λ name e. rw e refl;
  new = taken refl refl;
  index = index;
  id = id;
  past = λ k le. rw (ne_eqb 1 (suc k) (λ e. omega arith)) refl;
  apart = apart;
  apart_new = apart_new;
  few = omega arith;
  no_defaults = λ rows. rw ((new_default rows).0, (new_default rows).1, (word_default rows 1 (codes "device")).0) refl;
  no_default = λ rows. rw ((new_default rows).1) ((word_default rows 1 (codes "device")).1);
  complete = λ rows h. rw (h 0 (omega arith)) refl;
  given = given;
}
  where
    index : (k : ℕ) → k < 1 → arg_by_index run_rules (suc k) ≡ Some (word_built (suc k) (get_or device_only k []))
    index zero lt = refl
    index (suc k) lt = absurd (omega arith)

    id : (k : ℕ) → k < 1 → arg_by_id run_rules (get_or device_only k []) ≡ Some (word_built (suc k) (get_or device_only k []))
    id zero lt = refl
    id (suc k) lt = absurd (omega arith)

    apart : (j k : ℕ) → j < 1 → k < 1 → j ≢ k → bytes_eq (get_or device_only j []) (get_or device_only k []) ≡ false
    apart j k a b ne = absurd (ne (omega arith))

    apart_new : (k : ℕ) → k < 1 → (bytes_eq (codes "new") (get_or device_only k []) ≡ false) × (bytes_eq (get_or device_only k []) (codes "new") ≡ false)
    apart_new zero lt = (refl, refl)
    apart_new (suc k) lt = absurd (omega arith)

    given : (rows : List Row) → is_lacking rows run_rules ≡ false → (k : ℕ) → k < 1 → is_given (get_or device_only k []) rows ≡ true
    given rows e zero lt = is_there _ e
    given rows e (suc k) lt = absurd (omega arith)

-- ---- `work`

abbrev work_rules : List Rule
work_rules = word_built 1 (codes "seed") ∷ word_built 2 (codes "lines") ∷ word_built 3 (codes "device") ∷ []

work_table : Table work_rules three 0
unfolding defaults_fault
work_table = record {
  short = λ x. refl;
  long = λ name e. refl;
  new = refused refl;
  index = index;
  id = id;
  past = λ k le. rw (ne_eqb 1 (suc k) (λ e. omega arith), ne_eqb 2 (suc k) (λ e. omega arith), ne_eqb 3 (suc k) (λ e. omega arith)) refl;
  apart = apart;
  apart_new = apart_new;
  few = omega arith;
  no_defaults = λ rows. rw ((word_default rows 1 (codes "seed")).0, (word_default rows 1 (codes "seed")).1, (word_default rows 2 (codes "lines")).0, (word_default rows 2 (codes "lines")).1, (word_default rows 3 (codes "device")).0) refl;
  no_default = λ rows. rw ((word_default rows 1 (codes "seed")).1, (word_default rows 2 (codes "lines")).1) ((word_default rows 3 (codes "device")).1);
  complete = λ rows h. rw (h 0 (omega arith), h 1 (omega arith), h 2 (omega arith)) refl;
  given = given;
}
  where
    index : (k : ℕ) → k < 3 → arg_by_index work_rules (suc k) ≡ Some (word_built (suc k) (get_or three k []))
    index zero lt = refl
    index (suc zero) lt = refl
    index (suc (suc zero)) lt = refl
    index (suc (suc (suc k))) lt = absurd (omega arith)

    id : (k : ℕ) → k < 3 → arg_by_id work_rules (get_or three k []) ≡ Some (word_built (suc k) (get_or three k []))
    id zero lt = refl
    id (suc zero) lt = refl
    id (suc (suc zero)) lt = refl
    id (suc (suc (suc k))) lt = absurd (omega arith)

    apart : (j k : ℕ) → j < 3 → k < 3 → j ≢ k → bytes_eq (get_or three j []) (get_or three k []) ≡ false
    apart zero zero a b ne = absurd (ne refl)
    apart zero (suc zero) a b ne = refl
    apart zero (suc (suc zero)) a b ne = refl
    apart (suc zero) zero a b ne = refl
    apart (suc zero) (suc zero) a b ne = absurd (ne refl)
    apart (suc zero) (suc (suc zero)) a b ne = refl
    apart (suc (suc zero)) zero a b ne = refl
    apart (suc (suc zero)) (suc zero) a b ne = refl
    apart (suc (suc zero)) (suc (suc zero)) a b ne = absurd (ne refl)
    apart (suc (suc (suc j))) k a b ne = absurd (omega arith)
    apart j (suc (suc (suc k))) a b ne = absurd (omega arith)

    apart_new : (k : ℕ) → k < 3 → (bytes_eq (codes "new") (get_or three k []) ≡ false) × (bytes_eq (get_or three k []) (codes "new") ≡ false)
    apart_new zero lt = (refl, refl)
    apart_new (suc zero) lt = (refl, refl)
    apart_new (suc (suc zero)) lt = (refl, refl)
    apart_new (suc (suc (suc k))) lt = absurd (omega arith)

    given : (rows : List Row) → is_lacking rows work_rules ≡ false → (k : ℕ) → k < 3 → is_given (get_or three k []) rows ≡ true
    given rows e zero lt = not-false _ (or_parts _ _ e).0
    given rows e (suc zero) lt = not-false _ (or_parts _ _ (or_parts _ _ e).1).0
    given rows e (suc (suc zero)) lt = is_there _ (or_parts _ _ (or_parts _ _ e).1).1
    given rows e (suc (suc (suc k))) lt = absurd (omega arith)

-- ---- what clap makes of the words

pub check_agrees : (words : List Text) → AllText words → Agrees device_only 0 (fault_of check_app words) (matches_of check_app words) (sorted words)
check_agrees words texts =
    subst (λ kinds. Agrees device_only 0 kinds (matches_of check_app words) (sorted words)) (sym (leaf_fault (built check_app) nothing_held words refl))
    (law (codes "check") check_rules device_only 0 check_table words texts)

pub run_agrees : (words : List Text) → AllText words → Agrees device_only 1 (fault_of run_app words) (matches_of run_app words) (sorted words)
run_agrees words texts =
    subst (λ kinds. Agrees device_only 1 kinds (matches_of run_app words) (sorted words)) (sym (leaf_fault (built run_app) nothing_held words refl))
    (law (codes "run") run_rules device_only 1 run_table words texts)

pub work_agrees : (words : List Text) → AllText words → Agrees three 0 (fault_of work_app words) (matches_of work_app words) (sorted words)
work_agrees words texts =
    subst (λ kinds. Agrees three 0 kinds (matches_of work_app words) (sorted words)) (sym (leaf_fault (built work_app) nothing_held words refl))
    (law (codes "work") work_rules three 0 work_table words texts)
