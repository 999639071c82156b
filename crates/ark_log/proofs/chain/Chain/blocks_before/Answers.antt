use Rattle.std.proofs.Common.{◌≡◌, ◌+◌, sym, ap, ◌∙◌, arith}
use Rattle.std.specs.Prelude.{slice_get, Some}
use Rattle.std.specs.Option.{option_copied}
use Rattle.ark_log.proofs.Placed.{sum_more, sum_within}
use Rattle.ark_log.proofs.chain.Chain.blocks_before.Goals as goal

pub overflow_add-blocks : goal.overflow_add-blocks
overflow_add-blocks c =
    let lengths = c.self.inside.lengths.items in
    let len = c.in-Some.len.now in
    let here : slice_get lengths c.loop-i.i ≡ Some len = sym c.get.ensures ∙ ap option_copied c.in-Some.is in
    let within = sum_within lengths c.loop-i.i len here in
    let right = c.self.invariant.2 in
    omega (arith, within, c.loop-i.invariant, c.entry_blocks-blocks.ensures, right.used_is, right.fits, right.few)

pub loop-i-preserved : goal.loop-i-preserved
loop-i-preserved c =
    let lengths = c.self.inside.lengths.items in
    let len = c.in-Some.len.now in
    let here : slice_get lengths c.loop-i.i ≡ Some len = sym c.get.ensures ∙ ap option_copied c.in-Some.is in
    (λ i. c.loop-i.invariant i + c.entry_blocks-blocks.ensures i) ∙ sym (sum_more lengths c.loop-i.i len here)
