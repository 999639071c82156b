use Rattle.std.proofs.Common.{◌≡◌, ◌∷◌, true}
use Rattle.ark_media.specs.Calls.{Went, OnTold}
use Rattle.ark_chain.specs.Survey.{reads_at}
use Rattle.ark_chain.specs.Single.{HasPart, behind}
use Rattle.ark_chain.proofs.payload.read_payload.Given as goal

abbrev pub invariant-loop-k : goal.invariant-loop-k
invariant-loop-k g l = record {
  went : Went g.D.Disk.goes (reads_at l.from.room l.from.start (0 ∷ behind l.k)) true l.fn.disk l.disk;
  blocks : (g.D.Disk.told l.disk).blocks ≡ (g.D.Disk.told l.fn.disk).blocks;
  part : OnTold (g.D.Disk.told l.disk) (HasPart l.from.room l.from.start l.len l.k l.out);
}
