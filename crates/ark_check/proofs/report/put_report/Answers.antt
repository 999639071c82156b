use Rattle.std.proofs.Common.{◌<◌, ◌+◌, ◌-◌, ◌∙◌, ℕ, List, ◌∷◌, ◌++◌, [], Ok, Err, length, sym, ap, arith, refl}
use Rattle.ark_table.specs.Table.{slots_in}
use Rattle.ark_check.specs.Report.{device_line}
use Rattle.ark_check.specs.Putting.{report_text}
use Rattle.ark_check.proofs.Lines.{first_lines, lines_text, report_front, report_more}
use Rattle.ark_check.proofs.Pieces.{puts_as, puts_then, puts_front}
use Rattle.ark_check.proofs.report.put_report.Goals as goal

pub returns-in-Err : goal.returns-in-Err
returns-in-Err g c =
    let table = c.args.table.now in
    record {
      puts = puts_front _ _ _ _ _ c.in-Err.status c.in-Err.ensures.puts (report_text table)
          (λ image. (lines_text image (slots_in 1 table), ap (λ n. (device_line (length image) n ++ 10 ∷ []) ++ lines_text image (slots_in 1 table)) (sym c.used.ensures.used)));
    }

pub returns-in-Err-put_slot : goal.returns-in-Err-put_slot
returns-in-Err-put_slot g c =
    let table = c.args.table.now in
    let i = c.loop-i.i in
    let status = c.in-Err-put_slot.status in
    let lt : i - 1 < length table = omega (arith, c.used.ensures.size, c.loop-i-test.true, c.loop-i.invariant.low) in
    record {
      puts = puts_front _ _ _ _ _ status
          (puts_then _ _ _ _ _ (Err status) c.in-Err-put_slot.ensures.puts _ _ _ c.loop-i.invariant.puts) (report_text table)
          (λ image. report_front image table (device_line (length image) (length (slots_in 1 table)) ++ 10 ∷ []) i c.loop-i.invariant.low lt);
    }

pub loop-i-preserved : goal.loop-i-preserved
loop-i-preserved g c =
    let table = c.args.table.now in
    let i = c.loop-i.i in
    let device : List (List ℕ) → List ℕ = λ image. device_line (length image) (length (slots_in 1 table)) ++ 10 ∷ [] in
    let lt : i - 1 < length table = omega (arith, c.used.ensures.size, c.loop-i-test.true, c.loop-i.invariant.low) in
    record {
      low = omega arith;
      room = c.put_slot.ensures.kept ∙ c.loop-i.invariant.room;
      puts = puts_as _ _ _ _ _ (Ok tt)
          (puts_then _ _ _ _ _ (Ok tt) c.in_default-put_slot.ensures.puts _ _ _ c.loop-i.invariant.puts) (λ image. device image ++ first_lines image table (i + 1 - 1))
          (λ h told whole. report_more _ table (device _) i (i + 1) c.loop-i.invariant.low lt refl);
    }
