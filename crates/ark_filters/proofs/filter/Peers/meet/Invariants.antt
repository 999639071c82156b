use Rattle.std.proofs.Common.{◌≡◌, drop}
use Rattle.std.specs.List.{list_any}
use Rattle.ark_filters.specs.Filter.{is_peer}
use Rattle.ark_filters.proofs.filter.Peers.meet.Given as goal

abbrev pub invariant-loop-item : goal.invariant-loop-item
invariant-loop-item l = list_any (λ item. is_peer l.others item) (drop l.item-index l.item-items) ≡ list_any (λ item. is_peer l.others item) l.item-items
