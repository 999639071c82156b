use Rattle.std.proofs.Common.{[], sym, subst}
use Rattle.ark_base.specs.declared.kind.Kind.TheVariants as kind
use Rattle.ark_base.specs.declared.refusal.Refusal.{Refusal}
use Rattle.ark_script.specs.declared.said.Said.TheVariants as said
use Rattle.ark_machine.specs.Logs as logs
use Rattle.ark_held.specs.Does.{Acts}
use Rattle.ark_held.specs.declared.app.App.{App}
use Rattle.ark_logs.proofs.Gives as of
use Rattle.ark_logs.proofs.accepting.pop.Goals as goal

pub returns-in-Err-clause-acts : goal.returns-in-Err-clause-acts
returns-in-Err-clause-acts c = λ t. of.pop_not_open t c.args.app.now c.args.label.now c.in-Err.refusal c.in-Err.ensures.found

pub pop-requires : goal.pop-requires
pop-requires c = record { there = of.open_of_at c.args.app.now c.args.label.now kind.Queue c.in-Ok.at c.in-Ok.ensures.found }

pub returns-in-Ok-pop-clause-acts : goal.returns-in-Ok-pop-clause-acts
returns-in-Ok-pop-clause-acts c = λ t.
    let e = c.in-Ok-pop.ensures in
    of.pop_done t c.args.app.now c.args.label.now c.in-Ok.at c.in-Ok.ensures.found c.pop.new.self c.in-Ok-pop.number e.accepted e.length e.buffers e.labels e.areas e.doors e.rates e.nets e.name

pub returns-in-Err-pop-clause-acts : goal.returns-in-Err-pop-clause-acts
returns-in-Err-pop-clause-acts c = λ t.
    let e = c.in-Err-pop.ensures in
    subst (λ (z : App). Acts t c.args.app.now z (λ m g. logs.pop_row m c.args.label.now g) [] (said.Refused c.refusal_of.result) []) (sym e.same)
    (subst (λ (x : Refusal). Acts t c.args.app.now c.args.app.now (λ m g. logs.pop_row m c.args.label.now g) [] (said.Refused x) []) (sym c.refusal_of.ensures.refusal)
    (of.pop_refused t c.args.app.now c.args.label.now c.in-Ok.at c.in-Ok.ensures.found c.in-Err-pop.refusal e.refused))
