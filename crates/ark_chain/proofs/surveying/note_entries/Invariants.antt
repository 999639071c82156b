use Rattle.std.proofs.Common.{◌≡◌, true, length}
use Rattle.ark_media.specs.Calls.{Went, OnTold}
use Rattle.ark_chain.specs.Survey.{reads_at, all_ends, Rise}
use Rattle.ark_chain.specs.Walking.{HasEntries}
use Rattle.ark_chain.proofs.Walked.{AreStanding}
use Rattle.ark_chain.proofs.surveying.note_entries.Given as goal

abbrev pub invariant-loop-taken : goal.invariant-loop-taken
invariant-loop-taken g l = record {
  went : Went g.D.Disk.goes (reads_at l.from.room l.from.start (all_ends 0 l.lengths.items)) true l.fn.disk l.disk;
  once : Rise 0 (all_ends 0 l.lengths.items) l.used;
  entries : HasEntries l.from.room l.first l.lengths.items l.used;
  count : length l.lengths.items ≡ l.taken;
  capacity : l.lengths.capacity ≡ l.fn.lengths.capacity;
  blocks : (g.D.Disk.told l.disk).blocks ≡ (g.D.Disk.told l.fn.disk).blocks;
  standing : OnTold (g.D.Disk.told l.disk) (AreStanding l.from.room l.from.start l.first l.lengths.items l.used);
}
