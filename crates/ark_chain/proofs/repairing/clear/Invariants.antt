use Rattle.std.proofs.Common.{◌≡◌, true, take}
use Rattle.ark_media.specs.Calls.{Went}
use Rattle.ark_chain.specs.Repair.{clears}
use Rattle.ark_chain.proofs.repairing.clear.Given as goal

abbrev pub invariant-loop-i : goal.invariant-loop-i
invariant-loop-i g l = record {
  went : Went g.D.Disk.goes (clears (take l.i l.blocks.items)) true l.fn.disk l.disk;
  blocks : (g.D.Disk.told l.disk).blocks ≡ (g.D.Disk.told l.fn.disk).blocks;
}
