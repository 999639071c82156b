-- A filter for every peer and one range of services.
use Rattle.std.proofs.Common.{ℕ, [], ◌∷◌, replicate, refl, arith}
use Rattle.std.proofs.lemmas.List.Elements.{All-nil, All-cons}
use Rattle.ark_filters.specs.declared.filter.Filter.{Filter}
use Rattle.ark_filters.specs.declared.filter.Direction.{Direction}
use Rattle.ark_filters.specs.declared.filter.Proto.{Proto}
use Rattle.ark_filters.specs.Rule.{IsPeerOf, IsServiceOf, IsRule}

abbrev pub single : Direction → Proto → ℕ → ℕ → Filter
single direction proto first last = record {
  direction = direction;
  proto = proto;
  peers = record { count = 0; items = replicate 8 (replicate 6 0) };
  services = record { count = 1; items = (first, last) ∷ replicate 7 (0, 0) };
}

pub single_rule : (direction : Direction) (proto : Proto) (first last : ℕ) → IsServiceOf proto (first, last) → IsRule (single direction proto first last)
single_rule direction proto first last h = record {
  few_peers = omega arith;
  few_services = omega arith;
  room_peers = refl;
  room_services = refl;
  peers = All-nil (IsPeerOf proto);
  services = All-cons (IsServiceOf proto) (first, last) [] h (All-nil (IsServiceOf proto));
  no_peers = refl;
  no_services = refl;
}
