-- Receive filters by their parts.
use Rattle.std.proofs.Common.{◌≡◌, ℕ, List, Bool, sym, ap}
use Rattle.ark_packet.specs.Frame.{target_of, source_of, proto_of, packet_in}
use Rattle.ark_packet.specs.declared.own.Own.{Own}
use Rattle.ark_filters.specs.declared.filter.Filter.{Filter}
use Rattle.ark_filters.specs.declared.filter.Peers.{Peers}
use Rattle.ark_filters.specs.declared.filter.Services.{Services}
use Rattle.ark_filters.specs.declared.filter.Direction.TheVariants.{Rx}
use Rattle.ark_filters.specs.declared.filter.Proto.{Proto}
use Rattle.ark_filters.specs.declared.layer.Layer.{Layer}
use Rattle.ark_filters.specs.In.{match_under}

abbrev pub receive : Proto → Peers → Services → Filter
receive proto peers services = record { direction = Rx; proto = proto; peers = peers; services = services }

pub is_receive : (f : Filter) → f.direction ≡ Rx → receive f.proto f.peers f.services ≡ f
is_receive f h = ap (λ d. record { direction = d; proto = f.proto; peers = f.peers; services = f.services }) (sym h)

-- the frame of these bytes matches the filter, as one of this layer
abbrev pub in_under : Layer → Filter → List ℕ → Own → Bool
in_under layer f bytes own = match_under f layer (source_of bytes) (target_of bytes) (proto_of bytes) (packet_in bytes) own
