use Rattle.std.proofs.Common.{[]}
use Rattle.std.specs.Prelude.{Ok}
use Rattle.ark_script.specs.Line.{line_of}
use Rattle.ark_answer.proofs.SaidLines.{said_refused}
use Rattle.ark_answer.proofs.serving.answer.Goals as goal

pub returns-in-Ok-clause-answers : goal.returns-in-Ok-clause-answers
returns-in-Ok-clause-answers g c =
    let step = c.step.ensures.answers in
    record {
      events = step.events;
      goes_on = step.goes_on;
      does = record { meaning = Ok (line_of c.in-Ok.step); says = c.in-Ok.ensures.means; steps = step.does };
    }

pub returns-in-Err-clause-answers : goal.returns-in-Err-clause-answers
returns-in-Err-clause-answers g c = record {
  events = [];
  goes_on = g.met.D.Disk.goes_none c.args.disk.now;
  does = said_refused c.args.line.now c.args.host.now (g.D.Disk.told c.args.disk.now) c.in-Err.refusal _ _ c.refuse.ensures.said c.refuse.ensures.none c.in-Err.ensures.means;
}
