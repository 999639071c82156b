use Rattle.std.proofs.Common.{Err, ap, refl}
use Rattle.ark_table.specs.declared.fault.LoadFault.{LoadFault}
use Rattle.ark_table.specs.declared.fault.LoadFault.TheVariants.{Damaged}
use Rattle.ark_table.proofs.Front.{same_fault}
use Rattle.ark_host.proofs.InDevice.{loaded_inside}
use Rattle.ark_host.proofs.Starting.{all_loaded}
use Rattle.ark_host.proofs.host.Host.load.Goals as goal

pub returns-in-Ok-clause-loaded : goal.returns-in-Ok-clause-loaded
returns-in-Ok-clause-loaded g c =
    let ok = c.in-Ok.ensures in
    all_loaded (g.D.Disk.told c.load.new.disk) _ (λ h told. g.met.D.Disk.size_is c.load.new.disk h told) ok.table c.new.ensures.items ok.settled refl refl ok.own ok.rising ok.free

pub returns-in-Ok-clause-inside : goal.returns-in-Ok-clause-inside
returns-in-Ok-clause-inside g c =
    let ok = c.in-Ok.ensures in
    loaded_inside (g.D.Disk.told c.load.new.disk).blocks c.new.result.items c.in-Ok.plane.free c.in-Ok.plane.table c.in-Ok.plane.failed ok.low ok.high c.new.ensures.items ok.free ok.shared

pub returns-in-Err-clause-damaged : goal.returns-in-Err-clause-damaged
returns-in-Err-clause-damaged g c bad same h told = c.in-Err.ensures.damaged bad (ap (λ (x : LoadFault). Err x) (same_fault c.in-Err.fault (Damaged bad) same)) h told
