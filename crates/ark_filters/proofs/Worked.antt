-- Filters on a frame, by the definitions.
use Rattle.std.proofs.Common.{◌≡◌, ℕ, List, [], ◌∷◌, true, false, replicate, refl}
use Rattle.ark_packet.specs.declared.own.Own.{Own}
use Rattle.ark_filters.specs.declared.filter.Filter.{Filter}
use Rattle.ark_filters.specs.declared.filter.Direction.{Direction}
use Rattle.ark_filters.specs.declared.filter.Direction.TheVariants.{Rx, Tx}
use Rattle.ark_filters.specs.declared.filter.Proto.{Proto}
use Rattle.ark_filters.specs.declared.filter.Proto.TheVariants.{Eth, Ip, Udp, Tcp}
use Rattle.ark_filters.specs.In.{is_in}

-- a datagram from port 7 of 10.0.0.2 to port 8080 of 10.0.0.1
datagram : List ℕ
datagram =
    2 ∷ (0 ∷ (0 ∷ (0 ∷ (0 ∷ (1 ∷ (2 ∷ (0 ∷ (0 ∷ (0 ∷ (0 ∷ (2 ∷ (8 ∷ (0 ∷ (69 ∷ (0 ∷ (0 ∷ (30 ∷ (0 ∷ (0 ∷ (0 ∷ (0 ∷ (64 ∷ (17 ∷ (102 ∷ (205 ∷ (10 ∷ (0 ∷ (0 ∷ (2 ∷
    (10 ∷ (0 ∷ (0 ∷ (1 ∷ (0 ∷ (7 ∷ (31 ∷ (144 ∷ (0 ∷ (10 ∷ (99 ∷ (215 ∷ (104 ∷ (105 ∷ [])))))))))))))))))))))))))))))))))))))))))))

-- the frame's destination and its source
receiver : Own
receiver = record { mac = 2 ∷ (0 ∷ (0 ∷ (0 ∷ (0 ∷ (1 ∷ []))))); ip = 10 ∷ (0 ∷ (0 ∷ (1 ∷ []))); gateway = replicate 6 0 }

sender : Own
sender = record { mac = 2 ∷ (0 ∷ (0 ∷ (0 ∷ (0 ∷ (2 ∷ []))))); ip = 10 ∷ (0 ∷ (0 ∷ (2 ∷ []))); gateway = replicate 6 0 }

-- a filter with one peer and one pair of services
filter_of : Direction → Proto → List ℕ → ℕ → ℕ → Filter
filter_of direction proto peer low high = record {
  direction = direction;
  proto = proto;
  peers = record { count = 1; items = peer ∷ replicate 7 (replicate 6 0) };
  services = record { count = 1; items = (low, high) ∷ replicate 7 (0, 0) };
}

-- 10.0.0.2 as a peer
peer : List ℕ
peer = 10 ∷ (0 ∷ (0 ∷ (2 ∷ (0 ∷ (0 ∷ [])))))

comes_in : is_in (filter_of Rx Udp peer 8000 8080) datagram receiver ≡ true
unfolding filter_of datagram receiver peer
comes_in = refl

other_port : is_in (filter_of Rx Udp peer 7 8079) datagram receiver ≡ false
unfolding filter_of datagram receiver peer
other_port = refl

other_side : is_in (filter_of Rx Udp peer 8000 8080) datagram sender ≡ false
unfolding filter_of datagram sender peer
other_side = refl

goes_out : is_in (filter_of Tx Udp (10 ∷ (0 ∷ (0 ∷ (1 ∷ (0 ∷ (0 ∷ [])))))) 7 7) datagram sender ≡ true
unfolding filter_of datagram sender
goes_out = refl

no_tcp : is_in (filter_of Rx Tcp peer 8000 8080) datagram receiver ≡ false
unfolding filter_of datagram receiver peer
no_tcp = refl

of_protocol_17 : is_in (filter_of Rx Ip peer 17 17) datagram receiver ≡ true
unfolding filter_of datagram receiver peer
of_protocol_17 = refl

of_type_800 : is_in (filter_of Rx Eth (2 ∷ (0 ∷ (0 ∷ (0 ∷ (0 ∷ (2 ∷ [])))))) 2048 2048) datagram receiver ≡ true
unfolding filter_of datagram receiver
of_type_800 = refl
