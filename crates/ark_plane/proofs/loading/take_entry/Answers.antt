use Rattle.std.proofs.Common.{sym, ◌∙◌, ◌≤◌, subst}
use Rattle.std.proofs.lemmas.Bool.{false≢true}
use Rattle.ark_table.specs.Standing.{slot_in}
use Rattle.ark_plane.proofs.Unused.{taken_some, lost_some, spelled_some}
use Rattle.ark_plane.proofs.loading.take_entry.Goals as goal

pub returns-then-take_exact-clause-taken : goal.returns-then-take_exact-clause-taken
returns-then-take_exact-clause-taken c =
    taken_some (slot_in c.args.table.now c.args.i) c.in-Some.slot.now c.args.free.now c.take_exact.new.self c.in-Some.ensures.slot.1 (c.take_exact.ensures.free.0 c.if-take_exact.true) (c.take_exact.ensures.taken c.if-take_exact.true)

pub returns-else-take_exact-clause-fault : goal.returns-else-take_exact-clause-fault
returns-else-take_exact-clause-fault c = (
  c.from.ensures,
  lost_some (slot_in c.args.table.now c.args.i) c.in-Some.slot.now c.args.free.now c.in-Some.ensures.slot.1 (λ among. false≢true (sym c.if-take_exact.false ∙ c.take_exact.ensures.free.1 among)),
)

pub returns-then-take_exact-clause-spelled : goal.returns-then-take_exact-clause-spelled
returns-then-take_exact-clause-spelled c =
    spelled_some (slot_in c.args.table.now c.args.i) c.in-Some.slot.now c.in-Some.ensures.slot.1 (subst (λ n. n ≤ 16) c.runs.ensures.runs c.runs.ensures.few) c.blocks-2.ensures.distinct
