use Rattle.std.proofs.Common.{arith}
use Rattle.ark_forms.proofs.Parts.{found_position, no_position}
use Rattle.ark_forms.proofs.split.short_place.Goals as goal

pub returns-then-b-byte : goal.returns-then-b-byte
returns-then-b-byte c = found_position c.args.byte c.args.bytes.now c.loop-i.i c.loop-i-test.true c.loop-i.invariant c.if-b-byte.true

pub returns : goal.returns
returns c = no_position c.args.byte c.args.bytes.now (λ j below. c.loop-i.invariant j (omega (arith, c.loop-i-test.false)))
