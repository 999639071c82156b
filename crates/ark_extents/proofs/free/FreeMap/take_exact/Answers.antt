use Rattle.std.proofs.Common.{◌∙◌, ℕ, List, sym, subst, arith, refl, true≢false}
use Rattle.ark_base.specs.declared.block.Span.{Span}
use Rattle.ark_extents.specs.Free.{AnyHas}
use Rattle.ark_extents.proofs.FreeBlocks.{count_runs, among_from, among_to, loses_from}
use Rattle.ark_extents.proofs.free.FreeMap.take_exact.Goals as goal

pub returns-then-not-has_all-clause-free : goal.returns-then-not-has_all-clause-free
returns-then-not-has_all-clause-free c = (
  λ t. absurd (true≢false (sym t)),
  λ all. sym c.if-not-has_all.true ∙ c.has_all.ensures.had.1
      (subst (λ (l : List Span). (n : ℕ) → AnyHas c.as_slice-pieces.result.now n → AnyHas l n) (sym c.deref.ensures.value)
      (among_to c.self.inside.runs.items c.as_slice-pieces.result.now c.args.self.now c.args.spans.now c.self.view_is c.as_slice-pieces.ensures.blocks all)),
)

pub cut_all-requires-clause-room : goal.cut_all-requires-clause-room
cut_all-requires-clause-room c =
    let count = count_runs c.self.inside.runs.items c.args.self.now c.self.view_is c.self.invariant.0 in
    omega (arith, count, c.requires.room, c.as_slice-pieces.ensures.few, c.self.invariant.2)

pub invariant_of-self : goal.invariant_of-self
invariant_of-self c =
    let count = count_runs c.self.inside.runs.items c.args.self.now c.self.view_is c.self.invariant.0 in (
      c.cut_all.ensures.rising,
      omega (arith, count, c.requires.room, c.as_slice-pieces.ensures.few, c.cut_all.ensures.len),
      omega (arith, c.cut_all.ensures.capacity, c.self.invariant.2),
    )

pub returns-clause-free : goal.returns-clause-free
returns-clause-free c = (
  λ _. among_from c.self.inside.runs.items c.as_slice-pieces.result.now c.args.self.now c.args.spans.now c.self.view_is c.as_slice-pieces.ensures.blocks
      (subst (λ (l : List Span). (n : ℕ) → AnyHas c.as_slice-pieces.result.now n → AnyHas l n) c.deref.ensures.value (c.has_all.ensures.had.0 c.if-not-has_all.false)),
  λ _. refl,
)

pub returns-clause-taken : goal.returns-clause-taken
returns-clause-taken c _ =
    loses_from c.self.inside.runs.items c.as_slice-pieces.result.now c.args.self.now c.args.spans.now c.self.view_is c.as_slice-pieces.ensures.blocks c.cut_all.new.runs.items c.cut_all.ensures.lost
