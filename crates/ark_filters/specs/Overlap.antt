-- When two receive filters overlap: some frame matches both.
use Rattle.std.specs.Prelude.{◌≡◌, ℕ, ◌<◌, ◌≤◌, List, take, length, slice_index, Bool, true, ◌&&◌, ◌||◌, nat_eq, nat_le}
use Rattle.std.specs.List.{list_any}
use Rattle.ark_packet.specs.declared.own.Own.{Own}
use Rattle.ark_filters.specs.declared.filter.Filter.{Filter}
use Rattle.ark_filters.specs.declared.filter.Peers.{Peers}
use Rattle.ark_filters.specs.declared.filter.Services.{Services}
use Rattle.ark_filters.specs.declared.layer.Layer.{Layer}
use Rattle.ark_filters.specs.declared.layer.Layer.TheVariants.{Types, Protocols, Ports}
use Rattle.ark_filters.specs.Layer.{layer_of}
use Rattle.ark_filters.specs.Filter.{is_peer, is_service}
use Rattle.ark_filters.specs.In.{is_in}

-- Some frame, the same for both, matches the one and the other.
pub record Overlaps (f g : Filter) (own : Own) : Type 0 where
  pub frame : List ℕ
  pub at_least : 14 ≤ length frame
  pub at_most : length frame ≤ 1514
  pub octets : (i : ℕ) → slice_index frame i < 256
  pub first : is_in f frame own ≡ true
  pub second : is_in g frame own ≡ true

-- The same, told by the lists alone. Some peer is one of these and of those: these are all, or one of them is one of those.
abbrev pub peers_meet : Peers → Peers → Bool
peers_meet a b = nat_eq a.count 0 || list_any (λ item. is_peer b item) (take a.count a.items)

-- two ranges have a number in common
abbrev pub ranges_meet : ℕ × ℕ → ℕ × ℕ → Bool
ranges_meet a b = nat_le a.0 b.1 && nat_le b.0 a.1

-- some service is in the range
abbrev pub range_meets : Services → ℕ × ℕ → Bool
range_meets services range = nat_eq services.count 0 || list_any (λ item. ranges_meet item range) (take services.count services.items)

abbrev pub services_meet : Services → Services → Bool
services_meet a b = nat_eq a.count 0 || list_any (λ item. range_meets b item) (take a.count a.items)

abbrev pub both_meet : Filter → Filter → Bool
both_meet f g = peers_meet f.peers g.peers && services_meet f.services g.services

-- peers of IPv4 in common, and the other filter's protocol among the first one's
abbrev pub protocol_meets : Filter → Filter → ℕ → Bool
protocol_meets f g protocol = peers_meet f.peers g.peers && is_service f.services protocol

-- Between a filter of Ethernet and one of IPv4 the type alone tells: the one's peers are MAC addresses, the other's IPv4 ones.
abbrev pub meets_under : Layer → Layer → Filter → Filter → Bool
meets_under Types Types f g = both_meet f g
meets_under Types Protocols f g = is_service f.services 2048
meets_under Types (Ports number least) f g = is_service f.services 2048
meets_under Protocols Types f g = is_service g.services 2048
meets_under Protocols Protocols f g = both_meet f g
meets_under Protocols (Ports number least) f g = protocol_meets f g number
meets_under (Ports number least) Types f g = is_service g.services 2048
meets_under (Ports number least) Protocols f g = protocol_meets g f number
meets_under (Ports number least) (Ports other header) f g = nat_eq number other && both_meet f g

-- The lists of two receive filters meet.
abbrev pub meets : Filter → Filter → Bool
meets f g = meets_under (layer_of f.proto) (layer_of g.proto) f g
