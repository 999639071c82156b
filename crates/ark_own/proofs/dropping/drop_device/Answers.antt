use Rattle.std.proofs.Common.{[], sym, subst}
use Rattle.ark_base.specs.declared.refusal.Refusal.{Refusal}
use Rattle.ark_caps.specs.Labels.{value_at}
use Rattle.ark_script.specs.declared.said.Said.TheVariants as said
use Rattle.ark_machine.specs.Control as rows
use Rattle.ark_held.specs.Does.{Acts}
use Rattle.ark_own.proofs.GivingUp.{cap_found, cap_missing, no_label, other_kind}
use Rattle.ark_own.proofs.dropping.drop_device.Goals as goal

pub returns-in-Err-clause-acts : goal.returns-in-Err-clause-acts
returns-in-Err-clause-acts c = λ t.
    let why = cap_missing c.args.label.now c.in-Err.refusal (value_at c.args.app.now.labels c.args.label.now) c.in-Err.ensures.cap in
    subst (λ (e : Refusal). Acts t c.args.app.now c.args.app.now (λ m g. rows.drop m c.args.label.now g) [] (said.Refused e) []) (sym why.0) (no_label t c.args.app.now c.args.label.now why.1)

pub returns-in_default-clause-acts : goal.returns-in_default-clause-acts
returns-in_default-clause-acts c = λ t.
    other_kind t c.args.app.now c.args.label.now c.in-Ok.cap (cap_found c.args.label.now c.in-Ok.cap (value_at c.args.app.now.labels c.args.label.now) c.in-Ok.ensures.cap) c.requires.other c.in_default.not-Vsic c.in_default.not-Door c.in_default.not-Rate c.requires.no_net
