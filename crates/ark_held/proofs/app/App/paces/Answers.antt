use Rattle.std.proofs.Common.{rules, sym, ◌∙◌}
use Rattle.ark_held.specs.Seen.{is_paced_by}
use Rattle.ark_held.proofs.Seeing.{any_at, none_to}
use Rattle.ark_held.proofs.app.App.paces.Goals as goal

pub returns-then-is_paced : goal.returns-then-is_paced
returns-then-is_paced c =
    sym (any_at (λ p. is_paced_by c.args.self.now.devices.cards c.args.self.now.devices.nets.cards c.args.rate p.1.kind p.1.key) c.args.self.now.labels c.loop-place.place (c.in-Some.field-0-0, c.in-Some.cap) (search rules) (sym c.is_paced.ensures ∙ c.if-is_paced.true))

pub loop-place-preserved : goal.loop-place-preserved
loop-place-preserved c =
    none_to (λ p. is_paced_by c.args.self.now.devices.cards c.args.self.now.devices.nets.cards c.args.rate p.1.kind p.1.key) c.args.self.now.labels c.loop-place.place (c.in-Some.field-0-0, c.in-Some.cap) (search rules) c.loop-place.invariant (sym c.is_paced.ensures ∙ c.if-is_paced.false)
