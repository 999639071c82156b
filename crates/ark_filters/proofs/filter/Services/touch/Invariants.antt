use Rattle.std.proofs.Common.{◌≡◌, drop}
use Rattle.std.specs.List.{list_any}
use Rattle.ark_filters.specs.Overlap.{ranges_meet}
use Rattle.ark_filters.proofs.filter.Services.touch.Given as goal

abbrev pub invariant-loop-item : goal.invariant-loop-item
invariant-loop-item l = list_any (λ item. ranges_meet item l.range) (drop l.item-index l.item-items) ≡ list_any (λ item. ranges_meet item l.range) l.item-items
