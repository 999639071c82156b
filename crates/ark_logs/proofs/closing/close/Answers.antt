use Rattle.std.proofs.Common.{[], sym, subst}
use Rattle.ark_script.specs.declared.said.Said.TheVariants as said
use Rattle.ark_base.specs.declared.refusal.Refusal.{Refusal}
use Rattle.ark_held.specs.declared.app.App.{App}
use Rattle.ark_held.specs.Does.{Acts}
use Rattle.ark_machine.specs.Logs as logs
use Rattle.ark_logs.proofs.OfLogs.{open_there_at}
use Rattle.ark_logs.proofs.Closes as of
use Rattle.ark_logs.proofs.closing.close.Goals as goal

pub returns-in-Err-clause-acts : goal.returns-in-Err-clause-acts
returns-in-Err-clause-acts c = λ t. of.not_open t c.args.app.now c.args.label.now c.in-Err.refusal c.in-Err.ensures.found

pub close_log-requires : goal.close_log-requires
close_log-requires c = record { there = open_there_at c.args.app.now.labels c.args.app.now.devices.cards c.args.label.now c.in-Ok.at c.in-Ok.ensures.found }

pub returns-in-Ok-close_log-clause-acts : goal.returns-in-Ok-close_log-clause-acts
returns-in-Ok-close_log-clause-acts c = λ t.
    let e = c.in-Ok-close_log.ensures in
    of.close_done t c.args.app.now c.args.label.now c.in-Ok.at c.in-Ok.ensures.found c.close_log.new.self e.closed e.length e.buffers e.labels e.areas e.doors e.rates e.nets e.name

pub returns-in-Err-close_log-clause-acts : goal.returns-in-Err-close_log-clause-acts
returns-in-Err-close_log-clause-acts c = λ t.
    let e = c.in-Err-close_log.ensures in
    subst (λ (z : App). Acts t c.args.app.now z (λ m g. logs.close m c.args.label.now g) [] (said.Refused c.in-Err-close_log.refusal) []) (sym e.same)
    (subst (λ (x : Refusal). Acts t c.args.app.now c.args.app.now (λ m g. logs.close m c.args.label.now g) [] (said.Refused x) []) (sym e.busy)
    (of.is_busy t c.args.app.now c.args.label.now c.in-Ok.at c.in-Ok.ensures.found e.waits))
