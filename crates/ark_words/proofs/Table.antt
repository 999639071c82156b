-- The arguments of a command as clap builds them: at most one `--new`, and plain words that are wanted.
use Rattle.std.proofs.Common.{◌≡◌, ◌≢◌, ◌≤◌, ◌<◌, ◌&&◌, ℕ, suc, Bool, true, false, not, List, [], Some, None, length, get_or, fold, codes, bytes_eq}
use Rattle.std.specs.List.{list_any}
use Rattle.clap.specs.Walk.{Row, Rule, arg_by_id, arg_by_index, arg_by_long, arg_by_short, with_default}
use Rattle.clap.specs.Simple.{Shape, filled, new_shape, with_index}
use Rattle.clap.specs.Takes.{is_given}
use Rattle.clap.specs.Faults.{defaults_fault}
use Rattle.ark_words.specs.Apps.{new_option, wanted}
use Rattle.ark_words.specs.Sorted.{Text}

abbrev pub new_built : Rule
new_built = filled new_option

abbrev pub word_built : ℕ → Text → Rule
word_built i id = with_index i (filled (wanted id))

abbrev pub shape_with : Text → List Rule → Shape
shape_with name rules = record (new_shape name) {
  rules = rules;
  no_binary_name = true;
  disable_help_flag = true;
  disable_version_flag = true;
  disable_help_subcommand = true;
  is_built = true;
}

abbrev pub is_lacking : List Row → List Rule → Bool
is_lacking rows c = list_any (λ a. a.required && not (is_given a.id rows)) c

-- the command takes `--new`, or does not
pub data TakesNew (c : List Rule) : ℕ → Type 0 where
  taken : arg_by_long c (codes "new") ≡ Some new_built → arg_by_id c (codes "new") ≡ Some new_built → TakesNew c 1
  refused : arg_by_long c (codes "new") ≡ None → TakesNew c 0

-- c has `--new`, `most` times, and the plain words of these names
pub record Table (c : List Rule) (ids : List Text) (most : ℕ) : Type 0 where
  pub short : (x : ℕ) → arg_by_short c x ≡ None
  pub long : (name : Text) → bytes_eq (codes "new") name ≡ false → arg_by_long c name ≡ None
  pub new : TakesNew c most
  pub index : (k : ℕ) → k < length ids → arg_by_index c (suc k) ≡ Some (word_built (suc k) (get_or ids k []))
  pub id : (k : ℕ) → k < length ids → arg_by_id c (get_or ids k []) ≡ Some (word_built (suc k) (get_or ids k []))
  pub past : (k : ℕ) → length ids ≤ k → arg_by_index c (suc k) ≡ None
  pub apart : (j k : ℕ) → j < length ids → k < length ids → j ≢ k → bytes_eq (get_or ids j []) (get_or ids k []) ≡ false
  pub apart_new : (k : ℕ) → k < length ids → (bytes_eq (codes "new") (get_or ids k []) ≡ false) × (bytes_eq (get_or ids k []) (codes "new") ≡ false)
  pub few : length ids ≤ 3
  pub no_defaults : (rows : List Row) → defaults_fault rows c ≡ []
  pub no_default : (rows : List Row) → fold with_default rows c ≡ rows
  pub complete : (rows : List Row) → ((k : ℕ) → k < length ids → is_given (get_or ids k []) rows ≡ true) → is_lacking rows c ≡ false
  pub given : (rows : List Row) → is_lacking rows c ≡ false → (k : ℕ) → k < length ids → is_given (get_or ids k []) rows ≡ true
