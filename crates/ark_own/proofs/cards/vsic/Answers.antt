use Rattle.std.proofs.Common.{rules, refl}
use Rattle.ark_own.proofs.MakingCards.{vsic_taken, vsic_full, vsic_many, vsic_lacks, vsic_done}
use Rattle.ark_held.proofs.Bindings.{bound_new}
use Rattle.ark_own.proofs.cards.vsic.Goals as goal

pub returns-then-is_some-clause-acts : goal.returns-then-is_some-clause-acts
returns-then-is_some-clause-acts c = λ t. vsic_taken t c.args.app.now c.args.label.now c.args.size c.args.grant (search rules)

pub returns-then-len-ge-LABELS-clause-acts : goal.returns-then-len-ge-LABELS-clause-acts
returns-then-len-ge-LABELS-clause-acts c = λ t. vsic_full t c.args.app.now c.args.label.now c.args.size c.args.grant (search rules) (search rules)

pub returns-then-count_cards-ge-CARDS-clause-acts : goal.returns-then-count_cards-ge-CARDS-clause-acts
returns-then-count_cards-ge-CARDS-clause-acts c = λ t. vsic_many t c.args.app.now c.args.label.now c.args.size c.args.grant (search rules) (search rules) (search rules)

pub returns-in_default-clause-acts : goal.returns-in_default-clause-acts
returns-in_default-clause-acts c = λ t. vsic_lacks t c.args.app.now c.args.label.now c.args.size c.args.grant (search rules) (search rules) (search rules)

pub returns-clause-acts : goal.returns-clause-acts
returns-clause-acts c = λ t. vsic_done t c.args.app.now c.args.label.now c.args.size c.args.grant (search rules) (search rules) (search rules) _ c.add_card-key.result c.in-Ok.vsic (search rules) (search rules) (search rules) c.add_card-key.ensures.vacant c.add_card-key.ensures.changes (search rules) c.add_card-key.ensures.doors c.add_card-key.ensures.rates c.add_card-key.ensures.nets refl refl refl

pub invariant_of-app-clause-bound : goal.invariant_of-app-clause-bound
invariant_of-app-clause-bound c = bound_new c.args.app.now.areas c.args.app.now.devices.cards _ c.add_card-key.result c.args.app.now.bound _ c.add_card-key.ensures.changes (search rules)
