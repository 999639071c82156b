-- What a word gives when it is read as an argument, as functions on words.
use Rattle.std.specs.Prelude.{◌≡◌, ℕ, ◌+◌, ◌*◌, ◌/◌, ◌%◌, Bool, ◌&&◌, ◌==◌, nat_le, bytes_eq, if◌then◌else◌, List, [], ◌∷◌, length, codes, decimal, Option, Some, None}
use Rattle.std.specs.List.{list_all}
use Rattle.std.specs.Str.Parse.{digits_value}
use Rattle.hex.specs.Hex.{is_hex_digit}
use Rattle.ark_base.specs.Name.{is_name}
use Rattle.ark_base.specs.declared.kind.Kind.{Kind}
use Rattle.ark_base.specs.declared.kind.Kind.TheVariants as kind
use Rattle.ark_filters.specs.declared.filter.Direction.{Direction}
use Rattle.ark_filters.specs.declared.filter.Direction.TheVariants as direction
use Rattle.ark_filters.specs.declared.filter.Proto.{Proto}
use Rattle.ark_filters.specs.declared.filter.Proto.TheVariants as proto
use Rattle.ark_script.specs.declared.step.Side.{Side}
use Rattle.ark_script.specs.declared.step.Side.TheVariants as side
use Rattle.ark_script.specs.Line.{spelled}
use Rattle.ark_script.specs.Words.{parts_of}
use Rattle.ark_script.specs.Arguments.{is_size}

-- the second step, if the first gave a value
infixl 10 ◌>>=◌
abbrev pub ◌>>=◌ : {A B : Type 0} → Option A → (A → Option B) → Option B
None >>= f = None
(Some x) >>= f = f x

-- what a function returned, seen by view, is what reading gives
abbrev pub Gives : {X Y : Type 0} → (X → Y) → Option X → Option Y → Type 0
Gives view None read = read ≡ None
Gives view (Some x) read = read ≡ Some (view x)

-- the words, if there are just so many
unfoldable pub one_of : List (List ℕ) → Option (List ℕ)
one_of [] = None
one_of (a ∷ []) = Some a
one_of (a ∷ b ∷ rest) = None

unfoldable pub two_of : List (List ℕ) → Option (List ℕ × List ℕ)
two_of [] = None
two_of (a ∷ rest) = one_of rest >>= λ b. Some (a, b)

unfoldable pub three_of : List (List ℕ) → Option (List ℕ × List ℕ × List ℕ)
three_of [] = None
three_of (a ∷ rest) = two_of rest >>= λ p. Some (a, p.0, p.1)

unfoldable pub four_of : List (List ℕ) → Option (List ℕ × List ℕ × List ℕ × List ℕ)
four_of [] = None
four_of (a ∷ rest) = three_of rest >>= λ p. Some (a, p.0, p.1, p.2)

unfoldable pub five_of : List (List ℕ) → Option (List ℕ × List ℕ × List ℕ × List ℕ × List ℕ)
five_of [] = None
five_of (a ∷ rest) = four_of rest >>= λ p. Some (a, p.0, p.1, p.2, p.3)

unfoldable pub six_of : List (List ℕ) → Option (List ℕ × List ℕ × List ℕ × List ℕ × List ℕ × List ℕ)
six_of [] = None
six_of (a ∷ rest) = five_of rest >>= λ p. Some (a, p.0, p.1, p.2, p.3, p.4)

unfoldable pub name_of : List ℕ → Option (List ℕ)
name_of word = if is_name word then Some word else None

unfoldable pub optional_of : List ℕ → Option (Option (List ℕ))
optional_of word = if bytes_eq word (codes "-") then Some None else name_of word >>= λ name. Some (Some name)

unfoldable pub number_of : ℕ → ℕ → List ℕ → Option ℕ
number_of low high word =
    if bytes_eq (decimal (digits_value 10 word)) word && (nat_le low (digits_value 10 word) && nat_le (digits_value 10 word) high)
    then Some (digits_value 10 word) else None

unfoldable pub size_of : List ℕ → Option ℕ
size_of word = number_of 2 256 word >>= λ n. if is_size n then Some n else None

abbrev pub is_hex : ℕ → ℕ → List ℕ → Bool
is_hex fewest most word = ((length word % 2 == 0 && nat_le fewest (length word / 2)) && nat_le (length word / 2) most) && list_all is_hex_digit word

unfoldable pub hex_of : ℕ → ℕ → List ℕ → Option (List ℕ)
hex_of fewest most word = if is_hex fewest most word then Some (spelled word) else None

unfoldable pub hex0_of : ℕ → List ℕ → Option (List ℕ)
hex0_of most word = if bytes_eq word (codes "-") then Some [] else hex_of 1 most word

abbrev pub big_pair : List ℕ → ℕ
big_pair (high ∷ low ∷ []) = 256 * high + low
big_pair _ = 0

unfoldable pub type_of : List ℕ → Option ℕ
type_of word = hex_of 2 2 word >>= λ bytes. Some (big_pair bytes)

unfoldable pub kind_of : List ℕ → Option Kind
kind_of word =
    if bytes_eq word (codes "raw") then Some kind.Raw
    else if bytes_eq word (codes "log") then Some kind.Log
    else if bytes_eq word (codes "queue") then Some kind.Queue
    else None

unfoldable pub side_of : List ℕ → Option Side
side_of word =
    if bytes_eq word (codes "rx") then Some side.Rx
    else if bytes_eq word (codes "tx") then Some side.Tx
    else if bytes_eq word (codes "io") then Some side.Io
    else None

unfoldable pub direction_of : List ℕ → Option Direction
direction_of word =
    if bytes_eq word (codes "rx") then Some direction.Rx
    else if bytes_eq word (codes "tx") then Some direction.Tx
    else None

unfoldable pub proto_of : List ℕ → Option Proto
proto_of word =
    if bytes_eq word (codes "eth") then Some proto.Eth
    else if bytes_eq word (codes "ip") then Some proto.Ip
    else if bytes_eq word (codes "udp") then Some proto.Udp
    else if bytes_eq word (codes "tcp") then Some proto.Tcp
    else None

unfoldable pub ip_of : List ℕ → Option (List ℕ)
ip_of word = do
  parts ← four_of (parts_of 46 word)
  a ← number_of 0 255 parts.0
  b ← number_of 0 255 parts.1
  c ← number_of 0 255 parts.2
  d ← number_of 0 255 parts.3
  Some (a ∷ b ∷ c ∷ d ∷ [])
