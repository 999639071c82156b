use Rattle.std.proofs.Common.{◌≡◌, ◌+◌, sym, ap, ◌∙◌, subst, arith, get_or}
use Rattle.std.specs.Option.{option_copied}
use Rattle.std.proofs.lemmas.Option.{get_or_from_slice_get}
use Rattle.std.proofs.Math.Path.{transport}
use Rattle.ark_entry.specs.Entry.{entry_blocks}
use Rattle.ark_log.specs.Open.{IsRight}
use Rattle.ark_log.specs.Oldest.{Adds}
use Rattle.ark_log.specs.Acked.{with_one_more}
use Rattle.ark_log.specs.contracts.chain.Chain.{the_view}
use Rattle.ark_log.proofs.Placed.{is_past, sum_within}
use Rattle.ark_log.proofs.Acking.{has_length, right_added}
use Rattle.ark_log.proofs.Turns.{few_entries}
use Rattle.ark_log.proofs.chain.Chain.acknowledge_append.Goals as goal

pub unreachable-requires : goal.unreachable-requires
unreachable-requires c =
    let v = the_view c.self.inside in
    let less = has_length v c.self.invariant.2 (subst Adds (sym c.self.view_is) c.requires) in
    let past = is_past v.lengths v.count (sym c.get.ensures ∙ ap option_copied c.in_default.is) in
    omega (arith, less, past)

pub overflow_add-self : goal.overflow_add-self
overflow_add-self c =
    let v = the_view c.self.inside in
    let right = c.self.invariant.2 in
    let less = has_length v right (subst Adds (sym c.self.view_is) c.requires) in
    let few = few_entries v.lengths in
    omega (arith, less, few, right.used_is, right.fits, right.few)

pub overflow_add-self-2 : goal.overflow_add-self-2
overflow_add-self-2 c =
    let v = the_view c.self.inside in
    let right = c.self.invariant.2 in
    let within = sum_within v.lengths v.count c.in-Some.len.now (sym c.get.ensures ∙ ap option_copied c.in-Some.is) in
    omega (arith, within, c.entry_blocks-blocks.ensures, right.stored_is, right.used_is, right.fits, right.few)

pub invariant_of-self : goal.invariant_of-self
invariant_of-self c =
    let v = the_view c.self.inside in
    let is = get_or_from_slice_get v.lengths v.count c.in-Some.len.now 0 (sym c.get.ensures ∙ ap option_copied c.in-Some.is) in
    let size : entry_blocks (get_or v.lengths v.count 0) ≡ c.entry_blocks-blocks.result = ap entry_blocks is ∙ sym c.entry_blocks-blocks.ensures in
    let left = ap (λ b. b.items) c.pop_front.ensures.items in (
      c.self.invariant.0,
      ap (λ b. b.capacity) c.pop_front.ensures.items ∙ c.self.invariant.1,
      transport (λ i. IsRight (record v { count = v.count + 1; stored = v.stored + size i; waiting = sym left i; done = 0 })) (right_added v c.self.invariant.2 (subst Adds (sym c.self.view_is) c.requires)),
    )

pub returns-clause-chain : goal.returns-clause-chain
returns-clause-chain c =
    let v = the_view c.self.inside in
    let is = get_or_from_slice_get v.lengths v.count c.in-Some.len.now 0 (sym c.get.ensures ∙ ap option_copied c.in-Some.is) in
    let size : entry_blocks (get_or v.lengths v.count 0) ≡ c.entry_blocks-blocks.result = ap entry_blocks is ∙ sym c.entry_blocks-blocks.ensures in
    let left = ap (λ b. b.items) c.pop_front.ensures.items in
    (λ i. record v { count = v.count + 1; stored = v.stored + sym size i; waiting = left i; done = 0 }) ∙ ap with_one_more c.self.view_is
