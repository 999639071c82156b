-- Words sorted into the values of `--new` and the plain words.
use Rattle.std.specs.Prelude.{◌≡◌, ◌≤◌, ℕ, Bool, true, false, List, [], ◌∷◌, Option, Some, None, if◌then◌else◌, ◌==◌, take, drop, length, option_map, bytes_eq, codes}

abbrev pub Text : Type 0
Text = List ℕ

-- the values given to `--new`, and the plain words, each in the order of the words
pub record Sorted : Type 0 where
  pub new : List Text
  pub plain : List Text

abbrev pub no_words : Sorted
no_words = record { new = []; plain = [] }

abbrev pub with_new : Text → Option Sorted → Option Sorted
with_new value = option_map (λ (s : Sorted). record s { new = value ∷ s.new })

abbrev pub with_plain : Text → Option Sorted → Option Sorted
with_plain word = option_map (λ (s : Sorted). record s { plain = word ∷ s.plain })

-- what a word is before `--`
pub data Kind : Type 0 where
  -- `--`, which ends the options
  ends : Kind
  -- `--new`, whose value is the next word
  new : Kind
  -- `--new=`, with what follows it
  new_is : Text → Kind
  -- another word that begins with `-` and is longer than one byte
  fault : Kind
  plain : Kind

-- begins with `-` (45), and is longer than one byte
abbrev pub is_dashed : Text → Bool
is_dashed [] = false
is_dashed (c ∷ []) = false
is_dashed (c ∷ d ∷ rest) = c == 45

abbrev pub begins_with_new_is : Text → Bool
begins_with_new_is word = bytes_eq (codes "--new=") (take 6 word)

abbrev pub kind_of : Text → Kind
kind_of word =
    if bytes_eq (codes "--") word then ends
    else (if bytes_eq (codes "--new") word then new
    else (if begins_with_new_is word then new_is (drop 6 word)
    else (if is_dashed word then fault else plain)))

-- a word of a kind before others, whose sorting may begin with the value of a `--new`
abbrev pub sorted_word : Kind → Text → List Text → (Bool → Option Sorted) → Option Sorted
sorted_word ends word rest sort = Some (record { new = []; plain = rest })
sorted_word new word rest sort = sort true
sorted_word (new_is value) word rest sort = with_new value (sort false)
sorted_word fault word rest sort = None
sorted_word plain word rest sort = with_plain word (sort false)

-- the words from left to right, where `awaited` says that the first is the value of a `--new` before it; None where one
-- of them is a fault, or begins with `-` where a value is awaited
abbrev pub sorted_from : (awaited : Bool) → List Text → Option Sorted
sorted_from true [] = None
sorted_from true (value ∷ rest) = if is_dashed value then None else with_new value (sorted_from false rest)
sorted_from false [] = Some no_words
sorted_from false (word ∷ rest) = sorted_word (kind_of word) word rest (λ awaited. sorted_from awaited rest)

abbrev pub sorted : List Text → Option Sorted
sorted words = sorted_from false words

-- the words sort into at most so many for `--new`, and so many plain ones
pub record SortsTo (words : List Text) (most count : ℕ) (s : Sorted) : Type 0 where
  pub is : sorted words ≡ Some s
  pub new : length s.new ≤ most
  pub plain : length s.plain ≡ count
