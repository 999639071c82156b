use Rattle.std.proofs.Common.{[], sym, ap, subst}
use Rattle.ark_base.specs.declared.kind.Kind.TheVariants as kind
use Rattle.ark_base.specs.declared.refusal.Refusal.{Refusal}
use Rattle.ark_script.specs.declared.said.Said.TheVariants as said
use Rattle.ark_machine.specs.Logs as logs
use Rattle.ark_held.specs.Does.{Acts}
use Rattle.ark_held.specs.declared.app.App.{App}
use Rattle.ark_held.specs.declared.store.Store.{Store}
use Rattle.ark_logs.proofs.Gives as of
use Rattle.ark_logs.proofs.accepting.trim.Goals as goal

pub returns-in-Err-clause-acts : goal.returns-in-Err-clause-acts
returns-in-Err-clause-acts c = λ t. of.trim_not_open t c.args.app.now c.args.label.now c.args.n c.in-Err.refusal c.in-Err.ensures.found

pub trim-requires : goal.trim-requires
trim-requires c = record { there = of.open_of_at c.args.app.now c.args.label.now kind.Log c.in-Ok.at c.in-Ok.ensures.found }

pub returns-in-Ok-trim-clause-acts : goal.returns-in-Ok-trim-clause-acts
returns-in-Ok-trim-clause-acts c = λ t.
    let e = c.in-Ok-trim.ensures in
    of.trim_done t c.args.app.now c.args.label.now c.args.n c.in-Ok.at c.in-Ok.ensures.found c.trim.new.self e.accepted (ap (λ (z : Store). z.region) e.store) (ap (λ (z : Store). z.buffers) e.store) e.labels e.areas e.doors e.rates e.nets e.name

pub returns-in-Err-trim-clause-acts : goal.returns-in-Err-trim-clause-acts
returns-in-Err-trim-clause-acts c = λ t.
    let e = c.in-Err-trim.ensures in
    subst (λ (z : App). Acts t c.args.app.now z (λ m g. logs.trim_row m c.args.label.now c.args.n g) [] (said.Refused c.refusal_of.result) []) (sym e.same)
    (subst (λ (x : Refusal). Acts t c.args.app.now c.args.app.now (λ m g. logs.trim_row m c.args.label.now c.args.n g) [] (said.Refused x) []) (sym c.refusal_of.ensures.refusal)
    (of.trim_refused t c.args.app.now c.args.label.now c.args.n c.in-Ok.at c.in-Ok.ensures.found c.in-Err-trim.refusal e.refused))
