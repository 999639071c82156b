use Rattle.std.proofs.Common.{◌<◌, ◌≤◌, ◌+◌, ◌-◌, ◌%◌, ℕ, false, List, All, refl, sym, ap, subst, length, arith, add-one}
use Rattle.ark_media.specs.Calls.{Went}
use Rattle.ark_chain.specs.Survey.{reads}
use Rattle.ark_chain.specs.Repair.{outside}
use Rattle.ark_chain.proofs.Looking.{failed_ok, none_read}
use Rattle.ark_chain.proofs.Clearing.{Noting, outside_more, outside_stop, reads_more, note_more, note_none}
use Rattle.ark_chain.proofs.repairing.note_outside.Goals as goal
use Rattle.ark_chain.proofs.repairing.note_outside.Goals.{then-behind-used+in_ok-note, else-behind-used}

pub returns-in_err-note-clause-went : goal.returns-in_err-note-clause-went
returns-in_err-note-clause-went g c =
    let room = c.args.from.now.room in
    let start = c.args.from.now.start in
    let used = c.args.used in
    let q = c.loop-q.q in
    let past : used ≤ (q + room - start) % room = omega (arith, c.if-behind-used.true, c.behind.ensures) in
    subst (λ ok. Went g.D.Disk.goes (reads (outside room start used room)) ok c.args.disk.now c.note.new.disk) (sym (failed_ok c.from_residual.result c.from_residual.ensures.0))
    (outside_stop g.D.Disk.goes room start used (q + 1) c.args.disk.now c.note.new.disk (omega (arith, c.loop-q-test.true))
    (reads_more g.D.Disk.goes g.met.D.Disk.goes_more (outside room start used q) (outside room start used (q + 1)) (q + 1) false c.args.disk.now c.loop-q.disk c.note.new.disk
    (outside_more room start used q (q + 1) (add-one q) past) c.loop-q.invariant.went c.in_err-note.ensures.went))

pub loop-q-init : goal.loop-q-init
loop-q-init g c = record {
  went = none_read g.D.Disk.goes g.met.D.Disk.goes_none c.args.disk.now;
  blocks = refl;
  within = subst (λ (l : List ℕ). All (λ m. m < (g.D.Disk.told c.args.disk.now).blocks) l) (sym c.requires.empty) (λ k d lt. absurd (omega (arith, lt)));
  few = omega (arith, ap (λ l. length l) c.requires.empty);
  capacity = refl;
  noted_is = λ h told. c.requires.empty;
}

pub note-requires-clause-within : goal.note-requires-clause-within
note-requires-clause-within g c =
    subst (λ (n : ℕ). All (λ m. m < n) c.loop-q.noted.items) (sym c.loop-q.invariant.blocks) c.loop-q.invariant.within

pub loop-q-preserved : goal.loop-q-preserved
loop-q-preserved g c =
    let goes = g.D.Disk.goes in
    let told = g.D.Disk.told in
    let room = c.args.from.now.room in
    let start = c.args.from.now.start in
    let used = c.args.used in
    let q = c.loop-q.q in
    let i = c.loop-q.invariant in
    let old = c.args.disk.now in
    let before = c.args.noted.now in
    elim c.if-behind-used.branch [
      | then-behind-used+in_ok-note w ↦ subst (λ d. Noting goes told room start used (q + 1) old d before c.if-behind-used.noted) (sym w.disk-is)
          (subst (λ b. Noting goes told room start used (q + 1) old w.note.new.disk before b) (sym w.noted-is)
          (note_more goes told g.met.D.Disk.goes_more g.met.D.Disk.goes_told room start used q old c.loop-q.disk w.note.new.disk before c.loop-q.noted w.note.new.noted
          (omega (arith, w.if-behind-used.true, c.behind.ensures)) i w.in_ok-note.ensures.went w.in_ok-note.ensures.within w.in_ok-note.ensures.few w.in_ok-note.ensures.kept w.in_ok-note.ensures.noted))
      | else-behind-used w ↦ subst (λ d. Noting goes told room start used (q + 1) old d before c.if-behind-used.noted) (sym w.disk-is)
          (subst (λ b. Noting goes told room start used (q + 1) old c.loop-q.disk before b) (sym w.noted-is)
          (note_none goes told room start used q old c.loop-q.disk before c.loop-q.noted (omega (arith, w.if-behind-used.false, c.behind.ensures)) i))
    ]
