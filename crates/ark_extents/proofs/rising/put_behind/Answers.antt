use Rattle.std.proofs.Common.{◌≡◌, ◌<◌, ◌-◌, ◌+◌, ◌∙◌, get_or, sym, subst, arith}
use Rattle.std.proofs.lemmas.List.{get_or_default}
use Rattle.ark_base.specs.declared.block.Span.{Span}
use Rattle.ark_extents.specs.Runs.{no_run}
use Rattle.ark_extents.proofs.RisingRuns.{joined_rising, joined_has, put_rising, put_has}
use Rattle.ark_extents.proofs.rising.put_behind.Goals.{then-i-gt0+else-end-from, else-i-gt0}
use Rattle.ark_extents.proofs.rising.put_behind.Goals as goal

pub returns-then-end-from-clause-rising : goal.returns-then-end-from-clause-rising
returns-then-end-from-clause-rising c =
    joined_rising c.args.runs.now.items c.args.i c.args.run c.index-last.result.now c.requires.within c.if-i-gt0.true c.index-last.ensures (sym c.end.ensures ∙ c.if-end-from.true ∙ c.from.ensures) c.requires.some c.requires.fits
    c.requires.front c.requires.rising

pub returns-then-end-from-clause-blocks : goal.returns-then-end-from-clause-blocks
returns-then-end-from-clause-blocks c =
    joined_has c.args.runs.now.items c.args.i c.args.run c.index-last.result.now c.requires.within c.if-i-gt0.true c.index-last.ensures (sym c.end.ensures ∙ c.if-end-from.true ∙ c.from.ensures) c.requires.some c.requires.fits

-- the run does not go on with the last one
ends_apart : (c : goal.After-put) → 0 < c.args.i → (get_or c.args.runs.now.items (c.args.i - 1) no_run).start + (get_or c.args.runs.now.items (c.args.i - 1) no_run).len ≡ c.args.run.start → ⊥
ends_apart c some e = elim c.if-i-gt0.branch [
  | then-i-gt0+else-end-from w ↦
      let same = w.index-last.ensures ∙ get_or_default c.args.runs.now.items (c.args.i - 1) w.index-last.result.now no_run (omega (arith, c.requires.within, some)) in
      w.if-end-from.false (w.end.ensures ∙ subst (λ (s : Span). s.start + s.len ≡ c.args.run.start) (sym same) e ∙ sym w.from.ensures)
  | else-i-gt0 w ↦ omega arith
]

pub returns-clause-rising : goal.returns-clause-rising
returns-clause-rising c =
    put_rising c.args.runs.now.items c.put.new.runs.items c.args.i c.args.run c.put.ensures.items c.requires.within c.requires.fits c.requires.front c.requires.before c.requires.rising (ends_apart c)

pub returns-clause-blocks : goal.returns-clause-blocks
returns-clause-blocks c = put_has c.args.runs.now.items c.put.new.runs.items c.args.i c.args.run c.put.ensures.items
