use Rattle.std.proofs.Common.{rules, sym, ◌∙◌}
use Rattle.ark_held.specs.Seen.{is_seen_by}
use Rattle.ark_held.proofs.Seeing.{any_at, none_to}
use Rattle.ark_held.proofs.app.App.watches.Goals as goal

pub returns-then-is_seen : goal.returns-then-is_seen
returns-then-is_seen c =
    sym (any_at (λ p. is_seen_by c.args.self.now.devices.cards c.args.self.now.devices.nets.cards c.args.door p.1.kind p.1.key) c.args.self.now.labels c.loop-place.place (c.in-Some.field-0-0, c.in-Some.cap) (search rules) (sym c.is_seen.ensures ∙ c.if-is_seen.true))

pub loop-place-preserved : goal.loop-place-preserved
loop-place-preserved c =
    none_to (λ p. is_seen_by c.args.self.now.devices.cards c.args.self.now.devices.nets.cards c.args.door p.1.kind p.1.key) c.args.self.now.labels c.loop-place.place (c.in-Some.field-0-0, c.in-Some.cap) (search rules) c.loop-place.invariant (sym c.is_seen.ensures ∙ c.if-is_seen.false)
