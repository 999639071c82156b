use Rattle.std.proofs.Common.{◌≡◌, true, take}
use Rattle.ark_media.specs.Calls.{Went}
use Rattle.ark_table.specs.Plans.{zero_calls}
use Rattle.ark_table.proofs.granting.write_zeros.Given as goal

abbrev pub invariant-loop-off : goal.invariant-loop-off
invariant-loop-off g l = record {
  went : Went g.D.Disk.goes (zero_calls (take l.off l.spans)) true l.initial.disk l.disk;
  blocks : (g.D.Disk.told l.disk).blocks ≡ (g.D.Disk.told l.initial.disk).blocks;
}
