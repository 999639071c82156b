-- Peers and services of a filter.
use Rattle.std.specs.Prelude.{ℕ, ◌≤◌, List, take, Bool, ◌&&◌, ◌||◌, nat_eq, nat_le, bytes_eq}
use Rattle.std.specs.List.{list_any}
use Rattle.ark_filters.specs.declared.filter.Filter.{Filter}
use Rattle.ark_filters.specs.declared.filter.Peers.{Peers}
use Rattle.ark_filters.specs.declared.filter.Services.{Services}

-- one of the items, or there are none: then every peer
abbrev pub is_peer : Peers → List ℕ → Bool
is_peer peers peer = nat_eq peers.count 0 || list_any (λ item. bytes_eq item peer) (take peers.count peers.items)

abbrev pub is_between : ℕ × ℕ → ℕ → Bool
is_between item number = nat_le item.0 number && nat_le number item.1

-- from the first to the last number of one of the items, or there are none: then every service
abbrev pub is_service : Services → ℕ → Bool
is_service services number = nat_eq services.count 0 || list_any (λ item. is_between item number) (take services.count services.items)

-- the counts are of items that are there
pub record Counted (filter : Filter) : Type 0 where
  pub peers : filter.peers.count ≤ 8
  pub services : filter.services.count ≤ 8
