-- The two lists of a filter.
use Rattle.std.specs.Prelude.{◌≡◌, ◌⊎◌, ℕ, ◌-◌, ◌≤◌, List, [], ◌∷◌, ◌++◌, length, replicate, codes}
use Rattle.ark_filters.specs.declared.filter.Peers.{Peers}
use Rattle.ark_filters.specs.declared.filter.Services.{Services}
use Rattle.ark_filters.specs.declared.filter.Proto.{Proto}
use Rattle.ark_filters.specs.declared.filter.Proto.TheVariants as proto
use Rattle.ark_script.specs.Arguments.{IsNumber, IsMacWord, IsIp, IsType}
use Rattle.ark_script.specs.Words.{parts_of}

-- the items, one word for each
abbrev pub EachIs : {A : Type 0} → (A → List ℕ → Type 0) → List A → List (List ℕ) → Type 0
EachIs P [] [] = Unit {0}
EachIs P [] (word ∷ words) = ⊥
EachIs P (x ∷ xs) [] = ⊥
EachIs P (x ∷ xs) (word ∷ words) = P x word × EachIs P xs words

-- eight places: the items, and then this
abbrev pub eight_places : {A : Type 0} → A → List A → List A
eight_places none items = items ++ replicate (8 - length items) none

-- a MAC address, or an IPv4 address with two zeros behind it
abbrev pub IsPeer : Proto → List ℕ → List ℕ → Type 0
IsPeer proto.Eth peer word = IsMacWord peer word
IsPeer _ peer word = (ip : List ℕ) × IsIp ip word × (peer ≡ ip ++ (0 ∷ (0 ∷ [])))

abbrev pub no_peer : List ℕ
no_peer = 0 ∷ 0 ∷ 0 ∷ 0 ∷ 0 ∷ 0 ∷ []

abbrev pub peers_are : List (List ℕ) → Peers
peers_are items = record { count = length items; items = eight_places no_peer items }

-- `*` for all, or at most eight with commas between them
abbrev pub ArePeers : Proto → Peers → List ℕ → Type 0
ArePeers p peers word =
    ((word ≡ codes "*") × (peers ≡ peers_are []))
    ⊎ ((items : List (List ℕ)) × EachIs (IsPeer p) items (parts_of 44 word) × (length items ≤ 8) × (peers ≡ peers_are items))

-- a first and a last port
abbrev pub ArePorts : ℕ × ℕ → List (List ℕ) → Type 0
ArePorts range (word ∷ []) = IsNumber 0 65535 range.0 word × (range.1 ≡ range.0)
ArePorts range (first ∷ last ∷ []) = IsNumber 0 65535 range.0 first × IsNumber range.0 65535 range.1 last
ArePorts range _ = ⊥

-- a type, the number of a protocol, or one port or two with `-` between them
abbrev pub IsService : Proto → ℕ × ℕ → List ℕ → Type 0
IsService proto.Eth range word = IsType range.0 word × (range.1 ≡ range.0)
IsService proto.Ip range word = IsNumber 0 255 range.0 word × (range.1 ≡ range.0)
IsService _ range word = ArePorts range (parts_of 45 word)

abbrev pub services_are : List (ℕ × ℕ) → Services
services_are items = record { count = length items; items = eight_places (0, 0) items }

abbrev pub AreServices : Proto → Services → List ℕ → Type 0
AreServices p services word =
    ((word ≡ codes "*") × (services ≡ services_are []))
    ⊎ ((items : List (ℕ × ℕ)) × EachIs (IsService p) items (parts_of 44 word) × (length items ≤ 8) × (services ≡ services_are items))
