use Rattle.std.proofs.Common.{inr, refl}
use Rattle.std.specs.Prelude.{None}
use Rattle.ark_cli.specs.Opening.{old_device}
use Rattle.ark_cli.proofs.Runs.{open_run, runs_not, script_cause}
use Rattle.ark_cli.proofs.Stops.{old_fits}
use Rattle.ark_cli.proofs.command.run_found.Goals as goal

pub returns-in-Err-clause-runs : goal.returns-in-Err-clause-runs
returns-in-Err-clause-runs g c =
    runs_not None c.args.device.now (g.W.Disk.told c.args.world.now) (g.W.Disk.told c.open_attached.new.world) (g.W.Outside.beside c.args.world.now) (g.W.Outside.beside c.open_attached.new.world) c.in-Err.status old_fits c.in-Err.ensures.failed

pub returns-in-Ok-clause-runs : goal.returns-in-Ok-clause-runs
returns-in-Ok-clause-runs g c =
    let r = c.in-Ok.ensures.ready in
    inr (inr (
      old_device r.image,
      refl,
      open_run (old_device r.image) c.args.device.now (g.W.Disk.told c.args.world.now) (g.W.Disk.told c.open_attached.new.world) (g.W.Disk.told c.run_script.new.world)
          (g.W.Outside.beside c.args.world.now) (g.W.Outside.beside c.open_attached.new.world) (g.W.Outside.beside c.run_script.new.world)
          _ c.args.line.now c.run_script.result r.ready r.stands c.requires.line c.run_script.ensures.runs,
    ))

pub returns-in-Ok-clause-cause : goal.returns-in-Ok-clause-cause
returns-in-Ok-clause-cause g c =
    let r = c.in-Ok.ensures.ready in
    script_cause (old_device r.image) c.args.device.now _ _ (g.W.Disk.told c.args.world.now) (g.W.Disk.told c.open_attached.new.world) (g.W.Disk.told c.run_script.new.world)
    (g.W.Outside.beside c.args.world.now) (g.W.Outside.beside c.open_attached.new.world) (g.W.Outside.beside c.run_script.new.world)
    c.run_script.result r.ready.since c.in-Ok.ensures.unfailed c.run_script.ensures.cause
