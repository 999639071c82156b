use Rattle.std.proofs.Common.{inr, sym, subst, refl}
use Rattle.std.specs.Prelude.{Some}
use Rattle.ark_host.specs.Inside.{IsInside}
use Rattle.ark_cli.specs.Opening.{new_device}
use Rattle.ark_cli.proofs.Runs.{open_run, runs_not, script_cause, made_stands}
use Rattle.ark_cli.proofs.Stops.{made_fits}
use Rattle.ark_cli.proofs.command.run_made.Goals as goal

pub returns-in-Err-clause-runs : goal.returns-in-Err-clause-runs
returns-in-Err-clause-runs g c =
    runs_not (Some c.args.blocks) c.args.device.now (g.W.Disk.told c.args.world.now) (g.W.Disk.told c.open_new.new.world) (g.W.Outside.beside c.args.world.now) (g.W.Outside.beside c.open_new.new.world) c.in-Err.status
    (made_fits c.args.blocks c.requires.low c.requires.high) c.in-Err.ensures.failed

pub returns-in-Ok-clause-runs : goal.returns-in-Ok-clause-runs
returns-in-Ok-clause-runs g c =
    inr (inr (
      new_device c.args.blocks,
      refl,
      open_run (new_device c.args.blocks) c.args.device.now (g.W.Disk.told c.args.world.now) (g.W.Disk.told c.open_new.new.world) (g.W.Disk.told c.run_script.new.world)
          (g.W.Outside.beside c.args.world.now) (g.W.Outside.beside c.open_new.new.world) (g.W.Outside.beside c.run_script.new.world)
          c.args.host.now c.args.line.now c.run_script.result c.in-Ok.ensures.ready
          (made_stands c.args.blocks c.args.device.now (g.W.Disk.told c.args.world.now) (g.W.Disk.told c.open_new.new.world) (g.W.Outside.beside c.args.world.now) (g.W.Outside.beside c.open_new.new.world) c.args.host.now c.requires.low c.requires.high c.in-Ok.ensures.ready c.requires.host)
          c.requires.line c.run_script.ensures.runs,
    ))

pub returns-in-Ok-clause-cause : goal.returns-in-Ok-clause-cause
returns-in-Ok-clause-cause g c =
    script_cause (new_device c.args.blocks) c.args.device.now _ _ (g.W.Disk.told c.args.world.now) (g.W.Disk.told c.open_new.new.world) (g.W.Disk.told c.run_script.new.world)
    (g.W.Outside.beside c.args.world.now) (g.W.Outside.beside c.open_new.new.world) (g.W.Outside.beside c.run_script.new.world)
    c.run_script.result c.in-Ok.ensures.ready.since c.in-Ok.ensures.unfailed c.run_script.ensures.cause

pub run_script-requires-clause-inside : goal.run_script-requires-clause-inside
run_script-requires-clause-inside g c = subst (λ n. IsInside n c.args.host.now) (sym c.in-Ok.ensures.ready.since.blocks) c.requires.inside
