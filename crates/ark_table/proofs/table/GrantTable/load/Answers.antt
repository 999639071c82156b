use Rattle.std.proofs.Common.{Err, ap}
use Rattle.ark_table.specs.declared.fault.LoadFault.{LoadFault}
use Rattle.ark_table.specs.declared.fault.LoadFault.TheVariants.{Damaged}
use Rattle.ark_table.proofs.Front.{same_fault}
use Rattle.ark_table.proofs.table.GrantTable.load.Goals as goal

pub returns-in-Err-clause-damaged : goal.returns-in-Err-clause-damaged
returns-in-Err-clause-damaged g c bad same h told = c.in-Err.ensures.damaged bad (ap (λ (x : LoadFault). Err x) (same_fault c.in-Err.fault (Damaged bad) same)) h told
