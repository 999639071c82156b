use Rattle.std.proofs.Common.{◌∙◌, ◌-◌, ⊎_elim, [], sym, ap, arith}
use Rattle.std.specs.Prelude.{Option}
use Rattle.ark_media.specs.Journal.{AllBlocks, current}
use Rattle.ark_table.specs.Area.{Area}
use Rattle.ark_table.specs.Stated.{stated}
use Rattle.ark_table.specs.Standing.{slot_in}
use Rattle.ark_extents.specs.Views.{view_image}
use Rattle.ark_check.specs.Reading.{AreContents}
use Rattle.ark_check.specs.Putting.{slot_text}
use Rattle.ark_check.proofs.Areas.{area_short, right_at}
use Rattle.ark_check.proofs.Lines.{line_of}
use Rattle.ark_check.proofs.Pieces.{puts_as, puts_then, puts_none, puts_read, puts_unread, so_before}
use Rattle.ark_check.proofs.report.put_slot.Goals as goal

pub returns-in_default-clause-puts : goal.returns-in_default-clause-puts
returns-in_default-clause-puts g c = puts_as _ _ _ _ _ _ (puts_none (g.W.Disk.told c.args.world.now) (g.W.Outside.beside c.args.world.now)) (slot_text c.args.i (slot_in c.args.table.now c.args.i))
    (λ h told whole. ap (λ (o : Option Area). slot_text c.args.i o (current h.base h.journal)) (sym (⊎_elim (λ zero. absurd (omega (arith, zero, c.requires.low))) (λ none. none) c.in_default.ensures.slot)))

pub read_contents-requires-clause-room : goal.read_contents-requires-clause-room
read_contents-requires-clause-room g c =
    let blocks = (g.W.Disk.told c.args.world.now).blocks in
    let short = area_short blocks c.in-Some.slot.now (right_at blocks c.args.table.now (c.args.i - 1) (stated c.in-Some.slot.now) c.in-Some.ensures.slot.1 c.requires.right) in
    omega (arith, short, c.requires.room)

pub returns-in-Err-clause-puts : goal.returns-in-Err-clause-puts
returns-in-Err-clause-puts g c =
    let w = c.in-Err.ensures.went in
    puts_unread _ _ _ _ w.events (g.met.W.Disk.goes_told c.args.world.now c.read_contents.new.disk w.events w.goes_on) (g.met.W.Outside.goes_means c.args.world.now c.read_contents.new.disk w.events w.goes_on)
    (slot_text c.args.i (slot_in c.args.table.now c.args.i)) w.does

pub returns-clause-puts : goal.returns-clause-puts
returns-clause-puts g c =
    let w = c.in-Ok.ensures.went in
    let w0 = c.args.world.now in
    let w1 = c.read_contents.new.disk in
    let w2 = c.put_line.new.world in
    let told = g.W.Disk.told in
    let beside = g.W.Outside.beside in
    let line = c.put_line.ensures.puts in
    let result = c.put_line.result in
    let read = puts_read (told w0) (told w1) (beside w0) (beside w1) w.events (g.met.W.Disk.goes_told w0 w1 w.events w.goes_on) (g.met.W.Outside.goes_means w0 w1 w.events w.goes_on) w.does in
    puts_as _ _ _ _ _ result (puts_then (told w1) (told w2) (beside w1) (beside w2) _ result line (told w0) (beside w0) (λ image. []) read) (slot_text c.args.i (slot_in c.args.table.now c.args.i))
    (λ h told_after whole.
    let image = current h.base h.journal in
    let slot = c.in-Some.slot.now in
    let is = so_before (told w1) (told w2) (beside w1) (beside w2) _ result line (λ x. AllBlocks x → AreContents slot.kind (view_image slot.spans x) c.in-Ok.contents) c.in-Ok.ensures.found h told_after whole in
    c.print_slot-end.ensures.text ∙ line_of image c.args.i slot c.in-Ok.contents is ∙ ap (λ (o : Option Area). slot_text c.args.i o image) (sym c.in-Some.ensures.slot.1))
