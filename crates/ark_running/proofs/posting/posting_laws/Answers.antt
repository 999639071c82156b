use Rattle.std.proofs.Common.{sym, subst}
use Rattle.ark_log.specs.Polled.{Around}
use Rattle.ark_running.specs.Running.{IsRunning}
use Rattle.ark_running.proofs.Begins.{begins, starts}
use Rattle.ark_running.proofs.Beside.{polled_leaves}
use Rattle.ark_running.proofs.GoesOn.{goes_on}
use Rattle.ark_running.proofs.posting.posting_laws.Goals as goal

pub returns : goal.returns
returns c = record {
  rests = λ h blocks p g o old new result runs nothing. subst (λ (n : Around). IsRunning h blocks n.space n.ring n.chain p g o) (sym nothing.same) runs;
  begins = begins;
  starts = starts;
  goes_on = goes_on;
  beside = λ h blocks p g o old new result runs polls. (polled_leaves h blocks p g o old new result runs polls).beside;
  frames = λ h blocks p g o old new result runs polls. (polled_leaves h blocks p g o old new result runs polls).taken;
}
