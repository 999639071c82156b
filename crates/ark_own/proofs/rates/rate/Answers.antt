use Rattle.std.proofs.Common.{rules, refl}
use Rattle.ark_own.proofs.MakingRates.{rate_taken, rate_full, rate_done}
use Rattle.ark_own.proofs.rates.rate.Goals as goal

pub returns-then-is_some-clause-acts : goal.returns-then-is_some-clause-acts
returns-then-is_some-clause-acts c = λ t. rate_taken t c.args.app.now c.args.label.now c.args.per_tick c.args.burst c.args.grant (search rules)

pub returns-then-len-ge-LABELS-clause-acts : goal.returns-then-len-ge-LABELS-clause-acts
returns-then-len-ge-LABELS-clause-acts c = λ t. rate_full t c.args.app.now c.args.label.now c.args.per_tick c.args.burst c.args.grant (search rules) (search rules)

pub returns-clause-acts : goal.returns-clause-acts
returns-clause-acts c = λ t. rate_done t c.args.app.now c.args.label.now c.args.per_tick c.args.burst c.args.grant (search rules) (search rules) _ c.put-key.result c.put-key.ensures.vacant c.put-key.ensures.changes (search rules) refl refl refl refl refl refl
