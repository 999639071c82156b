use Rattle.std.proofs.Common.{[]}
use Rattle.ark_host.proofs.Addresses.{nic_answered}
use Rattle.ark_host.proofs.Groups.{unbuilt_network}
use Rattle.ark_host.proofs.Lifting.{quiet_steps}
use Rattle.ark_host.proofs.Words.{unbuilt_answered}
use Rattle.ark_host.proofs.host.Host.network.Goals as goal

pub returns-in-Nic-clause-answers : goal.returns-in-Nic-clause-answers
returns-in-Nic-clause-answers g c =
    let told = g.D.Disk.told c.args.disk.now in
    let nic = c.nic-said in
    rw c.in-Nic.is (record {
      events = [];
      goes_on = g.met.D.Disk.goes_none c.args.disk.now;
      does = quiet_steps c.args.self.now nic.new.self told _ _ _ _ c.say.ensures.said c.say.ensures.none
          (λ s h st. nic_answered nic.new.self told.blocks h s c.in-Nic.own nic.result [] (nic.ensures.turned told.blocks h s st));
    })

pub returns-in_default-clause-answers : goal.returns-in_default-clause-answers
returns-in_default-clause-answers g c =
    let told = g.D.Disk.told c.args.disk.now in
    record {
      events = [];
      goes_on = g.met.D.Disk.goes_none c.args.disk.now;
      does = quiet_steps c.args.self.now c.args.self.now told _ _ _ _ c.say-in_default.ensures.said c.say-in_default.ensures.none
          (λ s h st. unbuilt_answered c.args.self.now told.blocks h s c.args.step.now
          (unbuilt_network c.args.step.now c.requires.group c.in_default.not-Nic c.in_default.not-Vnic c.in_default.not-Post c.in_default.not-Take) st);
    }

pub returns-in-Nic-clause-inside : goal.returns-in-Nic-clause-inside
returns-in-Nic-clause-inside g c = c.nic-said.ensures.inside (g.D.Disk.told c.args.disk.now).blocks c.requires.inside
