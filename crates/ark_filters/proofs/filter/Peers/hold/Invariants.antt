use Rattle.std.proofs.Common.{◌≡◌, bytes_eq, drop}
use Rattle.std.specs.List.{list_any}
use Rattle.ark_filters.proofs.filter.Peers.hold.Given as goal

abbrev pub invariant-loop-item : goal.invariant-loop-item
invariant-loop-item l = list_any (λ item. bytes_eq item l.peer) (drop l.item-index l.item-items) ≡ list_any (λ item. bytes_eq item l.peer) l.item-items
