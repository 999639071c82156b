use Rattle.std.proofs.Common.{rules, sym, ◌∙◌, ap}
use Rattle.std.specs.Prelude.{option_map}
use Rattle.ark_held.specs.OpenLogs.{is_open_by}
use Rattle.ark_held.proofs.Seeing.{find_at, find_to}
use Rattle.ark_held.proofs.app.App.open_on.Goals as goal

pub returns-then-has_open : goal.returns-then-has_open
returns-then-has_open c =
    sym (ap (λ o. option_map (λ p. p.1) o) (find_at (λ p. is_open_by c.args.self.now.devices.cards c.args.grant p.1.kind p.1.key) c.args.self.now.labels c.loop-place.place (c.in-Some.field-0-0, c.in-Some.cap) (search rules) c.loop-place.invariant (sym c.has_open.ensures ∙ c.if-has_open.true)))

pub loop-place-preserved : goal.loop-place-preserved
loop-place-preserved c =
    find_to (λ p. is_open_by c.args.self.now.devices.cards c.args.grant p.1.kind p.1.key) c.args.self.now.labels c.loop-place.place (c.in-Some.field-0-0, c.in-Some.cap) (search rules) c.loop-place.invariant (sym c.has_open.ensures ∙ c.if-has_open.false)
