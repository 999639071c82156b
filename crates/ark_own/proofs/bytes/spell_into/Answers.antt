use Rattle.std.proofs.Common.{◌≡◌, Some, subst, rules, arith}
use Rattle.ark_region.specs.Frames.{Piece, Wrote}
use Rattle.ark_objects.specs.Held.{at}
use Rattle.ark_script.specs.Line.{spelled}
use Rattle.ark_held.proofs.Rights.{right_lies, right_within}
use Rattle.ark_held.proofs.Storing.{same_in, same_right}
use Rattle.ark_own.proofs.bytes.spell_into.Goals as goal

pub spell_part-requires-clause-lies : goal.spell_part-requires-clause-lies
spell_part-requires-clause-lies c = right_lies c.args.store.now.region.taken c.args.store.now.buffers c.args.key c.in-Some.buffer.now c.in-Some-buf.right c.args.store.now.lie (search rules) c.in-Some-buf.is

pub spell_part-requires-clause-within : goal.spell_part-requires-clause-within
spell_part-requires-clause-within c =
    let within = right_within c.args.store.now.region.taken c.args.store.now.buffers c.args.key c.in-Some.buffer.now c.in-Some-buf.right c.args.store.now.lie (search rules) c.in-Some-buf.is _ c.requires.here in
    omega (arith, within)

pub invariant_of-store : goal.invariant_of-store
invariant_of-store c = record { lie = same_in c.args.store.now.region.taken c.spell_part.new.region.taken c.args.store.now.buffers c.spell_part.ensures.wrote.taken c.args.store.now.lie }

pub returns-clause-wrote : goal.returns-clause-wrote
returns-clause-wrote c = λ right is.
    let there : at c.args.store.now.buffers c.args.key ≡ Some c.in-Some.buffer.now = search rules in
    subst (λ (p : Piece). Wrote c.args.store.now.region c.spell_part.new.region p c.args.at (spelled c.args.hex.now.digits.now))
    (same_right c.args.store.now.buffers c.args.key c.in-Some.buffer.now c.in-Some-buf.right right there c.in-Some-buf.is is) c.spell_part.ensures.wrote
