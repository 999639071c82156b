use Rattle.std.proofs.Common.{◌≡◌, true}
use Rattle.ark_media.specs.Calls.{Went, OnTold}
use Rattle.ark_chain.specs.Survey.{reads_at}
use Rattle.ark_chain.specs.Single.{AreRead, behind}
use Rattle.ark_chain.proofs.single.read_on.Given as goal

abbrev pub invariant-loop-k : goal.invariant-loop-k
invariant-loop-k g l = record {
  went : Went g.D.Disk.goes (reads_at l.from.room l.from.start (behind l.k)) true l.fn.disk l.disk;
  blocks : (g.D.Disk.told l.disk).blocks ≡ (g.D.Disk.told l.fn.disk).blocks;
  bytes : OnTold (g.D.Disk.told l.disk) (λ image. AreRead l.from.room l.from.start 1 l.fn.out image → AreRead l.from.room l.from.start l.k l.out image);
}
