use Rattle.std.proofs.Common.{◌≡◌, ◌+◌, ◌-◌, ◌%◌, ◌<◌, sym, ap, ◌∙◌, subst, arith}
use Rattle.std.specs.Prelude.{slice_get, Some}
use Rattle.std.specs.Option.{option_copied}
use Rattle.ark_chain.specs.declared.reading.Reading.{Reading}
use Rattle.ark_log.specs.Open.{OpenChain}
use Rattle.ark_log.specs.Walked.{IsEntryAt, place_of, blocks_before}
use Rattle.ark_log.specs.contracts.chain.Chain.{the_view}
use Rattle.ark_log.proofs.Turns.{coming_within}
use Rattle.ark_log.proofs.Placed.{entry_is, is_past}
use Rattle.ark_log.proofs.chain.Chain.entry_at.Goals as goal

pub overflow_sub-at : goal.overflow_sub-at
overflow_sub-at c = let up = coming_within (the_view c.self.inside) c.self.invariant.2 in omega (arith, up.0, c.if-n-self.false)

pub unreachable-requires : goal.unreachable-requires
unreachable-requires c =
    let right = c.self.invariant.2 in
    let past = is_past c.self.inside.lengths.items (c.args.n - c.self.inside.first) (sym c.get.ensures ∙ ap option_copied c.in_default.is) in
    let up = coming_within (the_view c.self.inside) right in
    omega (arith, past, up.0, right.counted, c.if-n-self.false, c.if-n-self-2.false, c.from.ensures)

pub returns-clause-some : goal.returns-clause-some
returns-clause-some c =
    let v = the_view c.self.inside in
    let here : slice_get v.lengths (c.args.n - v.first) ≡ Some c.in-Some.len.now = sym c.get.ensures ∙ ap option_copied c.in-Some.is in
    let low : c.args.n < v.first + v.count = omega (arith, c.if-n-self-2.false, c.from.ensures) in
    let before : c.blocks_before.result ≡ blocks_before v (c.args.n - v.first) = c.blocks_before.ensures.blocks ∙ ap (λ (x : OpenChain). blocks_before x (c.args.n - v.first)) (sym c.self.view_is) in
    let start : c.index-start.result ≡ place_of v c.args.n = c.index-start.ensures ∙ ap (λ (r : Reading). (r.start + c.blocks_before.result) % r.room) (c.reading.ensures ∙ ap (λ (x : OpenChain). record { start = x.start; room = x.room }) (sym c.self.view_is)) ∙ ap (λ b. (v.start + b) % v.room) before in
    subst (λ x. IsEntryAt x c.args.n c.in-Some.len.now (record { start = c.index-start.result; room = v.room })) c.self.view_is
    (entry_is v c.args.n c.in-Some.len.now _ c.self.invariant.2 (omega (arith, c.if-n-self.false)) low here (λ i. record { start = start i; room = v.room }))
