use Rattle.std.proofs.Common.{◌≡◌, ◌≤◌, ◌-◌, ◌∷◌, ◌++◌, [], Ok, length}
use Rattle.ark_table.specs.Table.{slots_in}
use Rattle.ark_check.specs.Report.{device_line}
use Rattle.ark_check.specs.Putting.{PutsText}
use Rattle.ark_check.proofs.Lines.{first_lines}
use Rattle.ark_check.proofs.report.put_report.Given as goal

abbrev pub invariant-loop-i : goal.invariant-loop-i
invariant-loop-i g l = record {
  low : 1 ≤ l.i;
  room : l.lengths.capacity ≡ l.fn.lengths.capacity;
  puts : PutsText (g.W.Disk.told l.fn.world) (g.W.Disk.told l.world) (g.W.Outside.beside l.fn.world) (g.W.Outside.beside l.world)
      (λ image. (device_line (length image) (length (slots_in 1 l.table)) ++ 10 ∷ []) ++ first_lines image l.table (l.i - 1)) (Ok tt);
}
