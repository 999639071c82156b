use Rattle.std.proofs.Common.{◌≡◌, ◌+◌, ◌-◌, ◌%◌, sym, ap, ◌∙◌, subst, arith, length, drop}
use Rattle.std.proofs.Math.Path.{transport}
use Rattle.ark_chain.specs.declared.reading.Reading.{Reading}
use Rattle.ark_log.specs.Open.{OpenChain, IsRight}
use Rattle.ark_log.specs.Oldest.{DropsTo}
use Rattle.ark_log.specs.Walked.{blocks_before}
use Rattle.ark_log.specs.contracts.chain.Chain.{the_view}
use Rattle.ark_log.proofs.Acking.{dropped_within, freed_within, right_dropped}
use Rattle.ark_log.proofs.chain.Chain.acknowledge_drop.Goals as goal

pub overflow_sub-self-2 : goal.overflow_sub-self-2
overflow_sub-self-2 c =
    let v = the_view c.self.inside in
    let within = freed_within v c.args.n c.self.invariant.2 (subst (λ x. DropsTo x c.args.n) (sym c.self.view_is) c.requires) in
    let freed : c.blocks_before-freed.result ≡ blocks_before v (c.args.n - v.first) = c.blocks_before-freed.ensures.blocks ∙ ap (λ (x : OpenChain). blocks_before x (c.args.n - v.first)) (sym c.self.view_is) in
    omega (arith, within, freed)

pub invariant_of-self : goal.invariant_of-self
invariant_of-self c =
    let v = the_view c.self.inside in
    let right = c.self.invariant.2 in
    let drops = subst (λ x. DropsTo x c.args.n) (sym c.self.view_is) c.requires in
    let within = dropped_within v c.args.n right drops in
    let k = c.args.n - v.first in
    let freed : c.blocks_before-freed.result ≡ blocks_before v k = c.blocks_before-freed.ensures.blocks ∙ ap (λ (x : OpenChain). blocks_before x k) (sym c.self.view_is) in
    let start : c.index-start.result ≡ (v.start + blocks_before v k) % v.room =
    c.index-start.ensures ∙ ap (λ (r : Reading). (r.start + c.blocks_before-freed.result) % r.room) (c.reading.ensures ∙ ap (λ (x : OpenChain). record { start = x.start; room = x.room }) (sym c.self.view_is)) ∙ ap (λ b. (v.start + b) % v.room) freed in
    let cut : length v.lengths - (c.len.result - k) ≡ k = omega (arith, c.len.ensures.len, within.0, within.1, right.counted) in
    let rest : c.truncate_front.new.self.items ≡ drop k v.lengths = ap (λ b. b.items) c.truncate_front.ensures ∙ ap (λ m. drop m v.lengths) cut in
    let left = ap (λ b. b.items) c.pop_front.ensures.items in (
      ap (λ b. b.capacity) c.truncate_front.ensures ∙ c.self.invariant.0,
      ap (λ b. b.capacity) c.pop_front.ensures.items ∙ c.self.invariant.1,
      transport (λ i. IsRight (record v { first = c.args.n; start = sym start i; count = v.count - k; lengths = sym rest i; stored = v.stored - sym freed i; used = v.used - sym freed i; waiting = sym left i; done = 0 })) (right_dropped v c.args.n right drops),
    )
