use Rattle.std.proofs.Common.{refl, sym, []}
use Rattle.ark_host.proofs.GivingUp.{steps_back, steps_net, steps_own}
use Rattle.ark_host.proofs.host.Host.drop_object.Goals as goal

pub returns-in-Err-clause-answers : goal.returns-in-Err-clause-answers
returns-in-Err-clause-answers g c = record {
  events = [];
  goes_on = g.met.D.Disk.goes_none c.args.disk.now;
  does = steps_back c.args.self.now c.args.name.now c.args.label.now c.args.self.now (g.D.Disk.told c.args.disk.now) c.in-Err.refusal c.in-Err.ensures.refused c.in-Err.ensures.early refl refl refl refl refl refl refl;
}

pub returns-in-Ok-Device-clause-answers : goal.returns-in-Ok-Device-clause-answers
returns-in-Ok-Device-clause-answers g c = record {
  events = [];
  goes_on = g.met.D.Disk.goes_none c.args.disk.now;
  does = steps_own c.args.self.now c.args.name.now c.args.label.now c.in-Ok-Device.place c.index_mut-in-Ok-Device.result.now (rw c.in-Ok-Device.field-0-is at c.in-Ok-Device.ensures.found) (sym c.index_mut-in-Ok-Device.ensures.value) _ (g.D.Disk.told c.args.disk.now) c.drop_device-said.new.app c.drop_device-said.result
      c.drop_device-said.ensures.enough refl refl refl refl refl refl refl (c.drop_device-said.ensures.acts (g.D.Disk.told c.args.disk.now));
}

pub returns-in-Ok-Net-clause-answers : goal.returns-in-Ok-Net-clause-answers
returns-in-Ok-Net-clause-answers g c = record {
  events = [];
  goes_on = g.met.D.Disk.goes_none c.args.disk.now;
  does = steps_net c.args.self.now c.args.name.now c.args.label.now c.in-Ok-Net.place c.index_mut.result.now (rw c.in-Ok-Net.field-0-is at c.in-Ok-Net.ensures.found) (sym c.index_mut.ensures.value) _ (g.D.Disk.told c.args.disk.now) c.drop_net-said.new.app c.drop_net-said.result
      c.drop_net-said.ensures.enough refl refl refl refl refl refl refl c.drop_net-said.ensures.acts;
}
