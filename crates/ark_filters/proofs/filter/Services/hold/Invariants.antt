use Rattle.std.proofs.Common.{◌≡◌, drop}
use Rattle.std.specs.List.{list_any}
use Rattle.ark_filters.specs.Filter.{is_between}
use Rattle.ark_filters.proofs.filter.Services.hold.Given as goal

abbrev pub invariant-loop-item : goal.invariant-loop-item
invariant-loop-item l = list_any (λ item. is_between item l.number) (drop l.item-index l.item-items) ≡ list_any (λ item. is_between item l.number) l.item-items
