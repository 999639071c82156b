-- How a word of a line spells an argument.
use Rattle.std.specs.Prelude.{◌≡◌, ℕ, ◌+◌, ◌*◌, ◌≤◌, Bool, true, nat_eq, List, [], ◌∷◌, length, codes, decimal, Option, Some, None}
use Rattle.std.specs.List.{list_all, list_any}
use Rattle.hex.specs.Hex.{is_hex_digit}
use Rattle.ark_base.specs.Name.{is_name}
use Rattle.ark_base.specs.declared.kind.Kind.{Kind}
use Rattle.ark_base.specs.declared.kind.Kind.TheVariants as kind
use Rattle.ark_filters.specs.declared.filter.Direction.{Direction}
use Rattle.ark_filters.specs.declared.filter.Direction.TheVariants as direction
use Rattle.ark_filters.specs.declared.filter.Proto.{Proto}
use Rattle.ark_filters.specs.declared.filter.Proto.TheVariants as proto
use Rattle.ark_script.specs.declared.step.Side.{Side}
use Rattle.ark_script.specs.declared.step.Side.TheVariants as side
use Rattle.ark_script.specs.Line.{spelled}
use Rattle.ark_script.specs.Words.{parts_of}

abbrev pub IsName : List ℕ → List ℕ → Type 0
IsName name word = (word ≡ name) × (is_name name ≡ true)

-- a name, or `-` for none
abbrev pub IsOptional : Option (List ℕ) → List ℕ → Type 0
IsOptional None word = word ≡ codes "-"
IsOptional (Some name) word = IsName name word

-- a number in decimal, with no sign and no zeros in front, from the lowest to the highest
abbrev pub IsNumber : ℕ → ℕ → ℕ → List ℕ → Type 0
IsNumber low high n word = (word ≡ decimal n) × (low ≤ n) × (n ≤ high)

-- the powers of two from 2 to 256
abbrev pub sizes : List ℕ
sizes = 2 ∷ 4 ∷ 8 ∷ 16 ∷ 32 ∷ 64 ∷ 128 ∷ 256 ∷ []

abbrev pub is_size : ℕ → Bool
is_size n = list_any (nat_eq n) sizes

abbrev pub IsRingSize : ℕ → List ℕ → Type 0
IsRingSize n word = IsNumber 2 256 n word × (is_size n ≡ true)

-- two hex digits for each byte, from the fewest to the most bytes
abbrev pub IsHex : ℕ → ℕ → List ℕ → List ℕ → Type 0
IsHex fewest most bytes word =
    (list_all is_hex_digit word ≡ true) × (length word ≡ 2 * length bytes) × (spelled word ≡ bytes)
    × (fewest ≤ length bytes) × (length bytes ≤ most)

-- the same, or `-` for no bytes
abbrev pub IsHex0 : ℕ → List ℕ → List ℕ → Type 0
IsHex0 most [] word = word ≡ codes "-"
IsHex0 most (b ∷ bs) word = IsHex 1 most (b ∷ bs) word

abbrev pub IsMacWord : List ℕ → List ℕ → Type 0
IsMacWord mac word = IsHex 6 6 mac word

-- two bytes, the high one first
abbrev pub IsType : ℕ → List ℕ → Type 0
IsType n word = (high low : ℕ) × IsHex 2 2 (high ∷ low ∷ []) word × (n ≡ 256 * high + low)

abbrev pub IsKind : Kind → List ℕ → Type 0
IsKind kind.Raw word = word ≡ codes "raw"
IsKind kind.Log word = word ≡ codes "log"
IsKind kind.Queue word = word ≡ codes "queue"

-- the fewest blocks of an area: a log or queue has one for its head
abbrev pub fewest_blocks : Kind → ℕ
fewest_blocks kind.Raw = 1
fewest_blocks kind.Log = 2
fewest_blocks kind.Queue = 2

abbrev pub IsSide : Side → List ℕ → Type 0
IsSide side.Rx word = word ≡ codes "rx"
IsSide side.Tx word = word ≡ codes "tx"
IsSide side.Io word = word ≡ codes "io"

abbrev pub IsDirection : Direction → List ℕ → Type 0
IsDirection direction.Rx word = word ≡ codes "rx"
IsDirection direction.Tx word = word ≡ codes "tx"

abbrev pub IsProto : Proto → List ℕ → Type 0
IsProto proto.Eth word = word ≡ codes "eth"
IsProto proto.Ip word = word ≡ codes "ip"
IsProto proto.Udp word = word ≡ codes "udp"
IsProto proto.Tcp word = word ≡ codes "tcp"

-- four numbers up to 255 with dots between them
abbrev pub AreOctets : List ℕ → List (List ℕ) → Type 0
AreOctets (a ∷ b ∷ c ∷ d ∷ []) (w ∷ x ∷ y ∷ z ∷ []) =
    IsNumber 0 255 a w × IsNumber 0 255 b x × IsNumber 0 255 c y × IsNumber 0 255 d z
AreOctets _ _ = ⊥

abbrev pub IsIp : List ℕ → List ℕ → Type 0
IsIp ip word = AreOctets ip (parts_of 46 word)
