use Rattle.std.proofs.Common.{[]}
use Rattle.ark_host.proofs.Groups.{unbuilt_control}
use Rattle.ark_host.proofs.Words.{app_answered, tick_answered, unbuilt_answered}
use Rattle.ark_host.proofs.Lifting.{quiet_steps, said_steps}
use Rattle.ark_host.proofs.host.Host.control.Goals as goal

pub returns-in-App-clause-answers : goal.returns-in-App-clause-answers
returns-in-App-clause-answers g c =
    let told = g.D.Disk.told c.args.disk.now in
    let app = c.make_app-said in
    record {
      events = [];
      goes_on = g.met.D.Disk.goes_none c.args.disk.now;
      does = rw c.in-App.is (quiet_steps c.args.self.now app.new.self told _ _ _ _ c.say.ensures.said c.say.ensures.none
          (λ s h st. app_answered app.new.self told.blocks h s c.in-App.name c.in-App.frames [] app.result [] (app.ensures.turned told.blocks h s st)));
    }

pub returns-in-Vsa-clause-answers : goal.returns-in-Vsa-clause-answers
returns-in-Vsa-clause-answers g c =
    let vsa = c.vsa-said.ensures.answers in
    record {
      events = vsa.events;
      goes_on = vsa.goes_on;
      does = rw c.in-Vsa.is (said_steps c.args.self.now c.vsa-said.new.self (g.D.Disk.told c.vsa-said.new.disk) _ vsa.events _ _ _
          c.say-in-Vsa.ensures.said c.say-in-Vsa.ensures.none vsa.does);
    }

pub returns-in-Drop-clause-answers : goal.returns-in-Drop-clause-answers
returns-in-Drop-clause-answers g c =
    let drop = c.drop_object-said.ensures.answers in
    record {
      events = drop.events;
      goes_on = drop.goes_on;
      does = rw c.in-Drop.is (said_steps c.args.self.now c.drop_object-said.new.self (g.D.Disk.told c.drop_object-said.new.disk) _ drop.events _ _ _
          c.say-in-Drop.ensures.said c.say-in-Drop.ensures.none drop.does);
    }

pub returns-in-Grow-clause-answers : goal.returns-in-Grow-clause-answers
returns-in-Grow-clause-answers g c =
    let grow = c.grow-said.ensures.answers in
    record {
      events = grow.events;
      goes_on = grow.goes_on;
      does = rw c.in-Grow.is (said_steps c.args.self.now c.grow-said.new.self (g.D.Disk.told c.grow-said.new.disk) _ grow.events _ _ _
          c.say-in-Grow.ensures.said c.say-in-Grow.ensures.none grow.does);
    }

pub returns-in-Tick-clause-answers : goal.returns-in-Tick-clause-answers
returns-in-Tick-clause-answers g c =
    let told = g.D.Disk.told c.args.disk.now in
    let tick = c.tick-said in
    record {
      events = [];
      goes_on = g.met.D.Disk.goes_none c.args.disk.now;
      does = rw c.in-Tick.is (quiet_steps c.args.self.now tick.new.self told _ _ _ _ c.say-in-Tick.ensures.said c.say-in-Tick.ensures.none
          (λ s h st. tick_answered tick.new.self told.blocks h s c.in-Tick.ticks tick.result [] (tick.ensures.turned told.blocks h s st)));
    }

pub returns-in_default-clause-answers : goal.returns-in_default-clause-answers
returns-in_default-clause-answers g c =
    let told = g.D.Disk.told c.args.disk.now in
    record {
      events = [];
      goes_on = g.met.D.Disk.goes_none c.args.disk.now;
      does = quiet_steps c.args.self.now c.args.self.now told _ _ _ _ c.say-in_default.ensures.said c.say-in_default.ensures.none
          (λ s h st. unbuilt_answered c.args.self.now told.blocks h s c.args.step.now
          (unbuilt_control c.args.step.now c.requires.group c.in_default.not-App c.in_default.not-Vsa c.in_default.not-Grow c.in_default.not-Drop c.in_default.not-Tick) st);
    }

pub vsa-said-requires-clause-some : goal.vsa-said-requires-clause-some
vsa-said-requires-clause-some g c = (rw c.in-Vsa.is at c.requires.ranges).0

pub grow-said-requires-clause-some : goal.grow-said-requires-clause-some
grow-said-requires-clause-some g c = (rw c.in-Grow.is at c.requires.ranges).0

pub returns-in-App-clause-inside : goal.returns-in-App-clause-inside
returns-in-App-clause-inside g c = c.make_app-said.ensures.inside (g.D.Disk.told c.args.disk.now).blocks c.requires.inside

pub returns-in-Tick-clause-inside : goal.returns-in-Tick-clause-inside
returns-in-Tick-clause-inside g c = c.tick-said.ensures.inside (g.D.Disk.told c.args.disk.now).blocks c.requires.inside
