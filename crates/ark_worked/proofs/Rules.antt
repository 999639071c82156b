-- What worked scripts on network cards are made of: bytes by their hex digits, addresses, and filters.
use Rattle.std.proofs.Common.{ℕ, List, [], ◌∷◌, ◌++◌, replicate}
use Rattle.std.specs.Prelude.{codes}
use Rattle.ark_packet.specs.declared.own.Own.{Own}
use Rattle.ark_filters.specs.declared.filter.Direction.{Direction}
use Rattle.ark_filters.specs.declared.filter.Filter.{Filter}
use Rattle.ark_filters.specs.declared.filter.Peers.{Peers}
use Rattle.ark_filters.specs.declared.filter.Proto.{Proto}
use Rattle.ark_filters.specs.declared.filter.Services.{Services}
use Rattle.ark_script.specs.Line.{spelled}

-- this end at an address; the gateway's address is the own one's neighbour
abbrev pub own_at : List ℕ → Own
own_at ip = record { mac = spelled (codes "020000000001"); ip = ip; gateway = spelled (codes "020000000002") }

abbrev pub all_peers : Peers
all_peers = record { count = 0; items = replicate 8 (replicate 6 0) }

-- one address of IPv4
abbrev pub one_peer : List ℕ → Peers
one_peer ip = record { count = 1; items = (ip ++ (0 ∷ 0 ∷ [])) ∷ replicate 7 (replicate 6 0) }

abbrev pub all_services : Services
all_services = record { count = 0; items = replicate 8 (0, 0) }

abbrev pub between : ℕ → ℕ → Services
between low high = record { count = 1; items = (low, high) ∷ replicate 7 (0, 0) }

-- a filter of these peers' frames with these services
abbrev pub rule_from : Peers → Direction → Proto → Services → Filter
rule_from peers direction proto services = record { direction = direction; proto = proto; peers = peers; services = services }

-- of every peer's
abbrev pub rule : Direction → Proto → Services → Filter
rule direction proto services = rule_from all_peers direction proto services
