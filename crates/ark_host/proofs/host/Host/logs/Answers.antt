use Rattle.std.proofs.Common.{[]}
use Rattle.ark_host.proofs.Groups.{unbuilt_logs}
use Rattle.ark_host.proofs.Words.{unbuilt_answered}
use Rattle.ark_host.proofs.Lifting.{quiet_steps}
use Rattle.ark_host.proofs.host.Host.logs.Goals as goal

pub returns-in_default-clause-answers : goal.returns-in_default-clause-answers
returns-in_default-clause-answers g c =
    let told = g.D.Disk.told c.args.disk.now in
    record {
      events = [];
      goes_on = g.met.D.Disk.goes_none c.args.disk.now;
      does = quiet_steps c.args.self.now c.args.self.now told _ _ _ _ c.say.ensures.said c.say.ensures.none
          (λ s h st. unbuilt_answered c.args.self.now told.blocks h s c.args.step.now
          (unbuilt_logs c.args.step.now c.requires.group c.in_default.not-Log c.in_default.not-Queue c.in_default.not-Close c.in_default.not-Walk c.in_default.not-Append c.in_default.not-Push c.in_default.not-Trim c.in_default.not-Pop c.in_default.not-Poll) st);
    }
