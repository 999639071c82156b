-- Filters side by side, by the definitions.
use Rattle.std.proofs.Common.{◌≡◌, ℕ, ◌≤◌, List, [], ◌∷◌, true, false, replicate, refl, arith}
use Rattle.std.proofs.lemmas.List.Elements.{All-cons, All-nil}
use Rattle.ark_packet.specs.declared.own.Own.{Own}
use Rattle.ark_filters.specs.declared.filter.Filter.{Filter}
use Rattle.ark_filters.specs.declared.filter.Peers.{Peers}
use Rattle.ark_filters.specs.declared.filter.Services.{Services}
use Rattle.ark_filters.specs.declared.filter.Direction.TheVariants.{Rx}
use Rattle.ark_filters.specs.declared.filter.Proto.{Proto}
use Rattle.ark_filters.specs.declared.filter.Proto.TheVariants.{Eth, Ip, Udp, Tcp}
use Rattle.ark_filters.specs.Overlap.{Overlaps, meets}
use Rattle.ark_filters.specs.Rule.{IsPadded, IsServiceOf, IsReceiveRule}
use Rattle.ark_filters.proofs.Overlapping.{some_own, some_is_own, meets_overlap}
use Rattle.ark_filters.proofs.Together.{overlap_meets, both_ways}

-- every peer
all : Peers
all = record { count = 0; items = replicate 8 (replicate 6 0) }

one : List ℕ → Peers
one peer = record { count = 1; items = peer ∷ replicate 7 (replicate 6 0) }

range : ℕ → ℕ → Services
range low high = record { count = 1; items = (low, high) ∷ replicate 7 (0, 0) }

every : Services
every = record { count = 0; items = replicate 8 (0, 0) }

receive : Proto → Peers → Services → Filter
receive proto peers services = record { direction = Rx; proto = proto; peers = peers; services = services }

near : List ℕ
near = 10 ∷ (0 ∷ (0 ∷ (2 ∷ (0 ∷ (0 ∷ [])))))

far : List ℕ
far = 10 ∷ (0 ∷ (0 ∷ (3 ∷ (0 ∷ (0 ∷ [])))))

-- beside every peer's ports 100 to 200 of UDP
first : Filter
unfolding receive all range
first = receive Udp all (range 100 200)

from_200 : Filter
unfolding receive all range
from_200 = receive Udp all (range 200 300)

from_201 : Filter
unfolding receive all range
from_201 = receive Udp all (range 201 300)

touching : meets first from_200 ≡ true
unfolding first from_200 receive all range
touching = refl

beyond : meets first from_201 ≡ false
unfolding first from_201 receive all range
beyond = refl

is_rule : (low high : ℕ) → low ≤ high → high ≤ 65535 → IsReceiveRule (receive Udp all (range low high))
unfolding receive all range
is_rule low high rising most = record {
  rule = record {
    few_peers = omega arith;
    few_services = omega arith;
    room_peers = refl;
    room_services = refl;
    peers = All-nil IsPadded;
    services = All-cons (IsServiceOf Udp) (low, high) [] (record { rising = rising; most = most }) (All-nil (IsServiceOf Udp));
    no_peers = refl;
    no_services = refl;
  };
  direction = refl;
}

first_rule : IsReceiveRule first
unfolding first
first_rule = is_rule 100 200 (omega arith) (omega arith)

rule_from_200 : IsReceiveRule from_200
unfolding from_200
rule_from_200 = is_rule 200 300 (omega arith) (omega arith)

rule_from_201 : IsReceiveRule from_201
unfolding from_201
rule_from_201 = is_rule 201 300 (omega arith) (omega arith)

-- port 200 is of both: some frame is let through by both
both_pass : Overlaps first from_200 some_own
both_pass = meets_overlap first from_200 some_own first_rule.direction rule_from_200.direction first_rule.rule rule_from_200.rule some_is_own touching

met_again : meets first from_200 ≡ true
met_again = overlap_meets first from_200 some_own first_rule.direction rule_from_200.direction both_pass

met_turned : meets from_200 first ≡ true
met_turned = both_ways first from_200 first_rule rule_from_200 touching

-- no frame is let through by both, whatever this end's addresses
none_pass : (own : Own) → Overlaps first from_201 own → ⊥
none_pass own both = let met : meets first from_201 ≡ true = overlap_meets first from_201 own first_rule.direction rule_from_201.direction both in absurd (cc (met, beyond))

of_type_800 : meets first (receive Eth all (range 2048 2048)) ≡ true
unfolding first receive all range
of_type_800 = refl

of_type_806 : meets first (receive Eth all (range 2054 2054)) ≡ false
unfolding first receive all range
of_type_806 = refl

other_protocol : meets first (receive Tcp all (range 100 200)) ≡ false
unfolding first receive all range
other_protocol = refl

of_protocol_17 : meets first (receive Ip (one near) (range 17 17)) ≡ true
unfolding first receive all one near range
of_protocol_17 = refl

of_protocol_6 : meets first (receive Ip (one near) (range 6 6)) ≡ false
unfolding first receive all one near range
of_protocol_6 = refl

-- other peers
apart : meets (receive Tcp (one near) every) (receive Tcp (one far) every) ≡ false
unfolding receive one near far every
apart = refl

same : meets (receive Tcp (one near) every) (receive Ip (one near) every) ≡ true
unfolding receive one near every
same = refl
