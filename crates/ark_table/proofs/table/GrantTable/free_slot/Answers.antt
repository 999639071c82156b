use Rattle.std.proofs.Common.{◌∙◌, sym, ap, not}
use Rattle.std.specs.Prelude.{is_some}
use Rattle.std.specs.List.{position}
use Rattle.ark_table.proofs.Places.{least_free, none_free}
use Rattle.ark_table.proofs.table.GrantTable.free_slot.Goals as goal

pub returns-in_err-place-clause-full : goal.returns-in_err-place-clause-full
returns-in_err-place-clause-full c none = none_free c.self.inside.slots.items c.args.self.now c.self.view_is c.self.invariant
    (sym (c.first_free.ensures ∙ ap (λ l. position (λ o. not (is_some o)) l) c.deref.ensures.value) ∙ c.in_err-place.was)

pub returns-clause-least : goal.returns-clause-least
returns-clause-least c = least_free c.self.inside.slots.items c.args.self.now c.in_ok-place.place c.self.view_is c.self.invariant
    (sym (c.first_free.ensures ∙ ap (λ l. position (λ o. not (is_some o)) l) c.deref.ensures.value) ∙ c.in_ok-place.was)
