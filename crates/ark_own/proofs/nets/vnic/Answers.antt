use Rattle.std.proofs.Common.{rules, refl}
use Rattle.ark_own.proofs.MakingNets.{whole, vnic_taken, vnic_full, vnic_many, vnic_away, vnic_lacks, vnic_done}
use Rattle.ark_own.proofs.nets.vnic.Goals as goal

pub returns-then-is_some-clause-acts : goal.returns-then-is_some-clause-acts
returns-then-is_some-clause-acts c = λ t. vnic_taken t c.args.app.now c.args.label.now c.args.rx c.args.tx c.args.grant c.args.has_nic (search rules)

pub returns-then-len-ge-LABELS-clause-acts : goal.returns-then-len-ge-LABELS-clause-acts
returns-then-len-ge-LABELS-clause-acts c = λ t. vnic_full t c.args.app.now c.args.label.now c.args.rx c.args.tx c.args.grant c.args.has_nic (search rules) (search rules)

pub returns-then-count_cards-ge-CARDS-clause-acts : goal.returns-then-count_cards-ge-CARDS-clause-acts
returns-then-count_cards-ge-CARDS-clause-acts c = λ t. vnic_many t c.args.app.now c.args.label.now c.args.rx c.args.tx c.args.grant c.args.has_nic (search rules) (search rules) (search rules)

pub returns-then-not-has_nic-clause-acts : goal.returns-then-not-has_nic-clause-acts
returns-then-not-has_nic-clause-acts c = λ t. vnic_away t c.args.app.now c.args.label.now c.args.rx c.args.tx c.args.grant c.args.has_nic (search rules) (search rules) (search rules) (search rules)

pub returns-in_default-clause-acts : goal.returns-in_default-clause-acts
returns-in_default-clause-acts c = λ t. vnic_lacks t c.args.app.now c.args.label.now c.args.rx c.args.tx c.args.grant c.args.has_nic (search rules) (search rules) (search rules) (search rules)

pub returns-clause-acts : goal.returns-clause-acts
returns-clause-acts c = λ t.
    vnic_done t c.args.app.now c.args.label.now c.args.rx c.args.tx c.args.grant c.args.has_nic (search rules) (search rules) (search rules) (search rules) _ c.add-key.result c.in-Ok.vnic
    (whole c.in-Ok.vnic c.args.grant c.args.rx c.args.tx c.in-Ok.ensures.grant (search rules) (search rules) c.in-Ok.ensures.rx_pace c.in-Ok.ensures.tx_pace) c.add-key.ensures.vacant c.add-key.ensures.changes (search rules) refl refl refl refl refl refl
