use Rattle.std.proofs.Common.{rules, sym, ◌∙◌}
use Rattle.ark_own.proofs.GivingUpRates.{no_rate_there, rate_busy, rate_done}
use Rattle.ark_own.proofs.dropping.drop_rate.Goals as goal

pub returns-then-is_none-clause-acts : goal.returns-then-is_none-clause-acts
returns-then-is_none-clause-acts c = λ t. no_rate_there t c.args.app.now c.args.app.now c.args.label.now c.args.cap c.requires.labelled c.requires.rate _ (search rules)

pub returns-then-paces-clause-acts : goal.returns-then-paces-clause-acts
returns-then-paces-clause-acts c = λ t. rate_busy t c.args.app.now c.args.app.now c.args.label.now c.args.cap c.requires.labelled c.requires.rate (sym c.paces.ensures ∙ c.if-paces.true)

pub returns-clause-acts : goal.returns-clause-acts
returns-clause-acts c = λ t.
    rate_done t c.args.app.now c.remove_rate.new.self c.args.label.now c.args.cap c.requires.labelled c.requires.rate (sym c.paces.ensures ∙ c.if-paces.false)
    c.remove_rate.ensures.labels c.remove_rate.ensures.rates c.remove_rate.ensures.cards c.remove_rate.ensures.doors c.remove_rate.ensures.nets c.remove_rate.ensures.areas c.remove_rate.ensures.name c.remove_rate.ensures.store
