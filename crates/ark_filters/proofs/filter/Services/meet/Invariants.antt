use Rattle.std.proofs.Common.{◌≡◌, drop}
use Rattle.std.specs.List.{list_any}
use Rattle.ark_filters.specs.Overlap.{range_meets}
use Rattle.ark_filters.proofs.filter.Services.meet.Given as goal

abbrev pub invariant-loop-item : goal.invariant-loop-item
invariant-loop-item l = list_any (λ item. range_meets l.others item) (drop l.item-index l.item-items) ≡ list_any (λ item. range_meets l.others item) l.item-items
