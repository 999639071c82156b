use Rattle.std.proofs.Common.{◌≡◌, ◌∙◌, ◌++◌, ◌+◌, ◌<◌, ◌-◌, take, set, sym, ap, length, get_or, arith}
use Rattle.std.specs.List.{range_with_len}
use Rattle.ark_extents.specs.Blocks.{blocks_of, runs_of}
use Rattle.ark_extents.specs.Runs.{no_run}
use Rattle.ark_extents.proofs.Building.{IsBuilt, lengthened, appended}
use Rattle.ark_extents.proofs.builder.RunBuilder.add.Goals.{then-self-gt0+else-end-from, else-self-gt0}
use Rattle.ark_extents.proofs.builder.RunBuilder.add.Goals as goal

pub invariant_of-self : goal.invariant_of-self
invariant_of-self c =
    let b = c.self.inside in
    let it = lengthened b.runs b.count c.args.run c.self.invariant.0 c.self.invariant.2 c.if-self-gt0.true (sym c.end.ensures ∙ c.if-end-from.true ∙ c.from.ensures) in
    (it.size, c.self.invariant.1, it.longest)

pub returns-then-end-from-clause-blocks : goal.returns-then-end-from-clause-blocks
returns-then-end-from-clause-blocks c =
    let b = c.self.inside in
    let it = lengthened b.runs b.count c.args.run c.self.invariant.0 c.self.invariant.2 c.if-self-gt0.true (sym c.end.ensures ∙ c.if-end-from.true ∙ c.from.ensures) in
    it.same ∙ ap (λ t. t ++ range_with_len c.args.run.start c.args.run.len) c.self.view_is

pub returns-then-end-from-clause-room : goal.returns-then-end-from-clause-room
returns-then-end-from-clause-room c =
    let b = c.self.inside in
    let it = lengthened b.runs b.count c.args.run c.self.invariant.0 c.self.invariant.2 c.if-self-gt0.true (sym c.end.ensures ∙ c.if-end-from.true ∙ c.from.ensures) in
    let new = ap length it.longest in
    let old = ap length c.self.invariant.2 in
    let seen = ap (λ t. length (runs_of t)) c.self.view_is in
    omega (arith, new, old, seen, it.size, c.self.invariant.0)

-- the run does not go on with the last one
ends_apart : (c : goal.After-self-1) → 0 < c.self.inside.count
    → (get_or c.self.inside.runs (c.self.inside.count - 1) no_run).start + (get_or c.self.inside.runs (c.self.inside.count - 1) no_run).len ≡ c.args.run.start → ⊥
ends_apart c some e = elim c.if-self-gt0.branch [
  | then-self-gt0+else-end-from w ↦ w.if-end-from.false (w.end.ensures ∙ e ∙ sym w.from.ensures)
  | else-self-gt0 w ↦ omega arith
]

put_behind : (c : goal.After-self-1) → IsBuilt (take (c.self.inside.count + 1) (set c.self.inside.runs c.self.inside.count c.args.run)) (c.self.inside.count + 1)
    (blocks_of (take c.self.inside.count c.self.inside.runs) ++ range_with_len c.args.run.start c.args.run.len)
put_behind c =
    let b = c.self.inside in
    let old = ap length c.self.invariant.2 in
    let seen = ap (λ t. length (runs_of t)) c.self.view_is in
    let few : b.count < 32 = omega (arith, old, seen, c.self.invariant.0, c.requires.room) in
    appended b.runs b.count c.args.run c.self.invariant.0 c.self.invariant.2 (omega arith) c.requires.some (ends_apart c)

pub invariant_of-self-2 : goal.invariant_of-self-2
invariant_of-self-2 c =
    let it = put_behind c in
    let old = ap length c.self.invariant.2 in
    let seen = ap (λ t. length (runs_of t)) c.self.view_is in
    (it.size, omega (arith, old, seen, c.self.invariant.0, c.requires.room), it.longest)

pub returns-clause-blocks : goal.returns-clause-blocks
returns-clause-blocks c = (put_behind c).same ∙ ap (λ t. t ++ range_with_len c.args.run.start c.args.run.len) c.self.view_is

pub returns-clause-room : goal.returns-clause-room
returns-clause-room c =
    let it = put_behind c in
    let new = ap length it.longest in
    let old = ap length c.self.invariant.2 in
    let seen = ap (λ t. length (runs_of t)) c.self.view_is in
    omega (arith, new, old, seen, it.size, c.self.invariant.0)
