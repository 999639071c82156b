-- Cards that a door watches, and cards that a rate paces.
use Rattle.std.specs.Prelude.{ℕ, Bool, false, ◌&&◌, ◌||◌, List, nat_eq, Option, Some, None, is_some}
use Rattle.std.specs.List.{list_any}
use Rattle.ark_objects.specs.Held.{at}
use Rattle.ark_caps.specs.declared.capability.CapKind.{CapKind}
use Rattle.ark_caps.specs.declared.capability.CapKind.TheVariants as cap_kind
use Rattle.ark_vic.specs.Pace.{Pace}
use Rattle.ark_held.specs.Words.{Labels}
use Rattle.ark_held.specs.declared.card.StorageCard.{StorageCard}
use Rattle.ark_held.specs.declared.network_card.NetworkCard.{NetworkCard}

abbrev pub is_key : ℕ → Option ℕ → Bool
is_key key None = false
is_key key (Some k) = nat_eq k key

-- whether the door of a key watches a storage card
abbrev pub is_card_seen : ℕ → Option StorageCard → Bool
is_card_seen door None = false
is_card_seen door (Some c) = is_key door c.door

-- whether it watches a side of a network card
abbrev pub is_net_seen : ℕ → Option NetworkCard → Bool
is_net_seen door None = false
is_net_seen door (Some c) = is_key door c.rx.door || is_key door c.tx.door

-- whether it watches the object of this kind and key
abbrev pub is_seen_by : List (Option StorageCard) → List (Option NetworkCard) → ℕ → CapKind → ℕ → Bool
is_seen_by cards nets door cap_kind.Vsic key = is_card_seen door (at cards key)
is_seen_by cards nets door cap_kind.Vnic key = is_net_seen door (at nets key)
is_seen_by cards nets door _ key = false

-- whether it watches one of those under these labels
abbrev pub sees_any : List (Option StorageCard) → List (Option NetworkCard) → ℕ → Labels → Bool
sees_any cards nets door labels = list_any (λ p. is_seen_by cards nets door p.1.kind p.1.key) labels

-- whether a queue has a pace that the rate of a key gave, by the key of the rate that gave it one last
abbrev pub is_given : ℕ → ℕ → Option Pace → Bool
is_given rate last pace = is_some pace && nat_eq last rate

-- whether the rate of a key paces a storage card
abbrev pub is_pace_of : ℕ → Option StorageCard → Bool
is_pace_of rate None = false
is_pace_of rate (Some c) = is_given rate c.rate c.vsic.pace

-- whether it paces a side of a network card
abbrev pub is_net_paced : ℕ → Option NetworkCard → Bool
is_net_paced rate None = false
is_net_paced rate (Some c) = is_given rate c.rx.rate c.vnic.rx_pace || is_given rate c.tx.rate c.vnic.tx_pace

-- whether it paces the object of this kind and key
abbrev pub is_paced_by : List (Option StorageCard) → List (Option NetworkCard) → ℕ → CapKind → ℕ → Bool
is_paced_by cards nets rate cap_kind.Vsic key = is_pace_of rate (at cards key)
is_paced_by cards nets rate cap_kind.Vnic key = is_net_paced rate (at nets key)
is_paced_by cards nets rate _ key = false

-- whether it paces one of those under these labels
abbrev pub paces_any : List (Option StorageCard) → List (Option NetworkCard) → ℕ → Labels → Bool
paces_any cards nets rate labels = list_any (λ p. is_paced_by cards nets rate p.1.kind p.1.key) labels
