use Rattle.std.proofs.Common.{sym, subst, rules}
use Rattle.ark_memory.specs.declared.schedule.Turn.{Turn}
use Rattle.ark_memory.specs.Plan.{IsTurn}
use Rattle.ark_memory.proofs.Failing.{is_turn}
use Rattle.ark_memory.proofs.schedule.Schedule.next.Goals as goal

pub returns-clause-due : goal.returns-clause-due
returns-clause-due c =
    let s = c.args.self.now in
    subst (λ (t : Turn). IsTurn t s.made s.calls) (sym c.planned.ensures) (is_turn c.deref.result.now s.made s.made s.calls (search rules))
