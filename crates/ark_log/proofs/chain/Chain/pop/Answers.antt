use Rattle.std.proofs.Common.{◌+◌, ◌*◌, refl, sym, ap, ◌∙◌, subst}
use Rattle.ark_entry.specs.Entry.{entry_blocks}
use Rattle.ark_log.specs.Open.{OpenChain}
use Rattle.ark_log.specs.Refused.{Admits, IsNextToPop}
use Rattle.ark_log.specs.Buffers.{HasNoPlace}
use Rattle.ark_log.specs.Waits.{WaitsToPop}
use Rattle.ark_log.specs.contracts.chain.Chain.{the_view}
use Rattle.ark_log.proofs.Turns.{right_waits}
use Rattle.ark_log.proofs.Accepted.{pops}
use Rattle.ark_log.proofs.chain.Chain.pop.Goals as goal

pub invariant_of-self : goal.invariant_of-self
invariant_of-self c =
    let v = the_view c.self.inside in
    let admitted : Admits v = subst Admits (sym c.self.view_is) c.in_ok-admit.ensures.ok in
    let next : IsNextToPop v c.in-Some.len = subst (λ x. IsNextToPop x c.in-Some.len) (sym c.self.view_is) c.in-Some.ensures.some in (
      c.self.invariant.0,
      ap (λ b. b.capacity) c.enqueue.ensures ∙ c.self.invariant.1,
      right_waits v _ c.enqueue.new.waiting.items (v.coming + 1) c.self.invariant.2 admitted.1 (ap (λ b. b.items) c.enqueue.ensures) (refl, next.there) refl refl (next.short, (refl, c.in-Some-new_buffer.ensures.len ∙ ap (λ n. 512 * n) c.entry_blocks.ensures)),
    )

pub returns-clause-accepted : goal.returns-clause-accepted
returns-clause-accepted c =
    let v = the_view c.self.inside in
    let next : IsNextToPop v c.in-Some.len = subst (λ x. IsNextToPop x c.in-Some.len) (sym c.self.view_is) c.in-Some.ensures.some in
    subst (λ (x : OpenChain). WaitsToPop x (record v { waiting = c.enqueue.new.waiting.items; coming = v.coming + 1 }) c.args.region.now c.new_buffer.new.region) c.self.view_is
    (pops v c.enqueue.new.waiting.items c.entry_blocks.result v.coming c.in-Some.len c.args.region.now c.new_buffer.new.region c.in-Some-new_buffer.buf c.in-Some-new_buffer.ensures.len c.in-Some-new_buffer.ensures.made next.is c.entry_blocks.ensures (ap (λ b. b.items) c.enqueue.ensures))

pub returns-in_default-new_buffer-clause-refused : goal.returns-in_default-new_buffer-clause-refused
returns-in_default-new_buffer-clause-refused c =
    let next = c.in-Some.ensures.some in (
      c.in_ok-admit.ensures.ok,
      (
        next.there,
        subst (λ n. HasNoPlace c.args.region.now.taken (512 * n)) (c.entry_blocks.ensures ∙ ap entry_blocks next.is) c.in_default-new_buffer.ensures.none,
      ),
    )
