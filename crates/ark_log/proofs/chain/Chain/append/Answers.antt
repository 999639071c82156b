use Rattle.std.proofs.Common.{◌≡◌, ◌≤◌, ◌<◌, ◌+◌, ◌%◌, ◌^◌, refl, sym, ap, ◌∙◌, arith, subst, length}
use Rattle.ark_entry.specs.Entry.{entry_blocks}
use Rattle.ark_chain.proofs.Walked.{pushed}
use Rattle.ark_chain.specs.declared.reading.Reading.{Reading}
use Rattle.ark_log.specs.declared.command.Command.TheVariants as command
use Rattle.ark_log.specs.Open.{OpenChain}
use Rattle.ark_log.specs.Refused.{Admits, next_number}
use Rattle.ark_log.specs.Waits.{WaitsToAppend}
use Rattle.ark_log.specs.contracts.chain.Chain.{the_view}
use Rattle.ark_log.proofs.Turns.{right_adds, fits_more}
use Rattle.ark_log.proofs.Accepted.{appends}
use Rattle.ark_log.proofs.chain.Chain.append.Goals as goal

pub invariant_of-self : goal.invariant_of-self
invariant_of-self c =
    let v = the_view c.self.inside in
    let right = c.self.invariant.2 in
    let len = length c.args.payload.now in
    let blocks = c.entry_blocks-blocks.result in
    let number = c.next_number-number.result in
    let admitted : Admits v = subst Admits (sym c.self.view_is) c.in_ok-admit.ensures.ok in
    let named : number ≡ next_number v = c.next_number-number.ensures ∙ ap next_number (sym c.self.view_is) in
    let size : blocks ≡ entry_blocks len = c.entry_blocks-blocks.ensures in
    let some : 1 ≤ blocks = omega (arith, size) in
    let fits : v.used + blocks ≤ v.room = omega (arith, c.if-blocks-self.false, right.fits) in
    let low : next_number v ≤ 2 ^ 62 = omega (arith, c.if-number-gt-LAST.false, named) in
    let more : length v.lengths < c.self.inside.lengths.capacity = omega (arith, fits_more v blocks right some fits, c.self.invariant.0) in (
      ap (λ b. b.capacity) c.push_back.ensures.items ∙ c.self.invariant.0,
      ap (λ b. b.capacity) c.enqueue.ensures ∙ c.self.invariant.1,
      right_adds v _ c.enqueue.new.waiting.items c.push_back.new.self.items len blocks right admitted.1 (ap (λ b. b.items) c.enqueue.ensures) (pushed c.self.inside.lengths c.push_back.new.self len c.push_back.ensures.items more) size c.requires.short
          fits low (ap (λ n. command.Append n) named) (c.requires.short, (refl, c.in-Some.ensures.len)),
    )

pub returns-clause-accepted : goal.returns-clause-accepted
returns-clause-accepted c =
    let v = the_view c.self.inside in
    let right = c.self.invariant.2 in
    let len = length c.args.payload.now in
    let blocks = c.entry_blocks-blocks.result in
    let number = c.next_number-number.result in
    let named : number ≡ next_number v = c.next_number-number.ensures ∙ ap next_number (sym c.self.view_is) in
    let size : blocks ≡ entry_blocks len = c.entry_blocks-blocks.ensures in
    let some : 1 ≤ blocks = omega (arith, size) in
    let fits : v.used + blocks ≤ v.room = omega (arith, c.if-blocks-self.false, right.fits) in
    let more : length v.lengths < c.self.inside.lengths.capacity = omega (arith, fits_more v blocks right some fits, c.self.invariant.0) in
    let behind : c.index-next.result ≡ (v.start + (v.used + blocks)) % v.room = c.index-next.ensures ∙ ap (λ (r : Reading). (r.start + (v.used + blocks)) % r.room) c.reading.ensures ∙ ap (λ (x : OpenChain). (x.start + (v.used + blocks)) % x.room) (sym c.self.view_is) in
    subst (λ (x : OpenChain). WaitsToAppend c.args.payload.now x (record v { lengths = c.push_back.new.self.items; used = v.used + blocks; waiting = c.enqueue.new.waiting.items }) c.args.region.now c.new_entry.new.region) c.self.view_is
    (appends c.args.payload.now v c.enqueue.new.waiting.items c.push_back.new.self.items blocks number c.index-next.result c.args.region.now c.new_entry.new.region c.in-Some.buf c.in-Some.ensures.len c.in-Some.ensures.made named size behind (ap (λ b. b.items) c.enqueue.ensures)
    (pushed c.self.inside.lengths c.push_back.new.self len c.push_back.ensures.items more))
