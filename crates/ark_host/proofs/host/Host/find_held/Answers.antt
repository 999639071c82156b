use Rattle.std.proofs.Common.{rules, sym, ◌∙◌}
use Rattle.ark_host.proofs.GivingUp.{back_unmade, back_none, back_failed, back_busy}
use Rattle.ark_host.proofs.host.Host.find_held.Goals as goal

pub returns-in_default-clause-refused : goal.returns-in_default-clause-refused
returns-in_default-clause-refused c = back_unmade c.args.self.now c.args.name.now c.args.label.now (search rules)

pub returns-in-Err-clause-refused : goal.returns-in-Err-clause-refused
returns-in-Err-clause-refused c = back_none c.args.self.now c.args.name.now c.args.label.now c.in-Some.place c.index-app.result.now (search rules) (sym c.index-app.ensures) (search rules) c.in-Err.refusal (search rules)

pub returns-then-self-clause-refused : goal.returns-then-self-clause-refused
returns-then-self-clause-refused c =
    back_failed c.args.self.now c.args.name.now c.args.label.now c.in-Some.place c.index-app.result.now (search rules) (sym c.index-app.ensures) c.in-Ok.area.0 c.in-Ok.area.1 (search rules) (search rules)

pub returns-then-is_some-clause-refused : goal.returns-then-is_some-clause-refused
returns-then-is_some-clause-refused c =
    back_busy c.args.self.now c.args.name.now c.args.label.now c.in-Some.place c.index-app.result.now (search rules) (sym c.index-app.ensures) c.in-Ok.area.0 c.in-Ok.area.1 (search rules) c.if-self.false
    c.open_on.result (sym c.is_some.ensures ∙ c.if-is_some.true) c.open_on.ensures
