use Rattle.std.proofs.Common.{◌≡◌, ◌+◌, true, Some, length}
use Rattle.ark_media.specs.Journal.{History, current}
use Rattle.ark_media.specs.Calls.{Went}
use Rattle.ark_table.specs.Loading.{read_calls, AreRight}
use Rattle.ark_table.specs.Stated.{areas}
use Rattle.ark_table.proofs.Front.{IsFront}
use Rattle.ark_table.proofs.loading.load_slots.Given as goal

abbrev pub invariant-loop-i : goal.invariant-loop-i
invariant-loop-i g l = record {
  went : Went g.D.Disk.goes (read_calls l.i) true l.fn.disk l.disk;
  count : length l.slots.items + 1 ≡ l.i;
  blocks : (g.D.Disk.told l.disk).blocks ≡ (g.D.Disk.told l.fn.disk).blocks;
  right : AreRight (g.D.Disk.told l.fn.disk).blocks (areas l.slots.items);
  front : (h : History) → (g.D.Disk.told l.disk).history ≡ Some h → IsFront (current h.base h.journal) (areas l.slots.items);
}
