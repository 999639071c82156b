use Rattle.std.proofs.Common.{◌≡◌, ◌<◌, ◌+◌, ◌-◌, ◌*◌, ◌%◌, ◌++◌, ◌∷◌, [], sym, ap, ◌∙◌, subst, arith, length, Some, None}
use Rattle.ark_vic.specs.declared.descriptor.Job.TheVariants as job
use Rattle.ark_entry.specs.Entry.{entry_blocks}
use Rattle.ark_chain.specs.declared.reading.Reading.{Reading}
use Rattle.ark_chain.specs.Survey.{block_at}
use Rattle.ark_log.specs.Open.{OpenChain}
use Rattle.ark_log.specs.Stages.{described, oldest}
use Rattle.ark_log.specs.contracts.chain.Chain.{the_view}
use Rattle.ark_log.proofs.Lent.{right_with, first_buffer, behind_place}
use Rattle.ark_log.proofs.chain.Chain.post_mark.Goals as goal

pub overflow_sub-from : goal.overflow_sub-from
overflow_sub-from c =
    let v = the_view c.self.inside in
    let some : 0 < length v.waiting = subst (λ (x : OpenChain). 0 < length x.waiting) (sym c.self.view_is) c.requires.some in
    let own = first_buffer v c.in-Some.buf c.self.invariant.2 some (sym c.in-Some.is ∙ c.replace_first.ensures.buf) in
    omega (arith, own.1, c.len-from.ensures)

pub invariant_of-self : goal.invariant_of-self
invariant_of-self c = (
  c.self.invariant.0,
  ap (λ b. b.capacity) c.replace_first.ensures.waiting ∙ c.self.invariant.1,
  right_with (the_view c.self.inside) None c.replace_first.new.waiting.items c.self.invariant.2 (ap (λ b. b.items) c.replace_first.ensures.waiting) tt,
)

pub returns-clause-ring : goal.returns-clause-ring
returns-clause-ring c =
    let v = the_view c.self.inside in
    let now = c.args.self.now in
    let some : 0 < length v.waiting = subst (λ (x : OpenChain). 0 < length x.waiting) (sym c.self.view_is) c.requires.some in
    let its : Some c.in-Some.buf ≡ (oldest v).buf = sym c.in-Some.is ∙ c.replace_first.ensures.buf in
    let own = first_buffer v c.in-Some.buf c.self.invariant.2 some its in
    let size : c.entry_blocks-more.result ≡ entry_blocks (oldest now).len = c.entry_blocks-more.ensures ∙ ap entry_blocks c.requires.is in
    let same : (oldest v).len ≡ (oldest now).len = ap (λ (x : OpenChain). (oldest x).len) c.self.view_is in
    let from : c.len-from.result - 512 ≡ 512 * (entry_blocks (oldest now).len - 1) = omega (arith, c.len-from.ensures, own.1, ap entry_blocks same) in
    let first : c.place-first.result ≡ block_at now.room now.start (now.stored + (entry_blocks (oldest now).len - 1)) =
    c.place-first.ensures.place ∙ ap (λ s. block_at v.room s (c.entry_blocks-more.result - 1)) (c.index.ensures ∙ ap (λ (r : Reading). (r.start + v.stored) % r.room) c.reading.ensures ∙ ap (λ (x : OpenChain). (x.start + v.stored) % x.room) (sym c.self.view_is))
    ∙ behind_place v.room v.start v.stored (c.entry_blocks-more.result - 1)
    ∙ ap (λ (x : OpenChain). block_at x.room x.start (x.stored + (c.entry_blocks-more.result - 1))) c.self.view_is ∙ ap (λ n. block_at now.room now.start (now.stored + (n - 1))) size in
    let grant = ap (λ (x : OpenChain). x.grant) c.self.view_is in
    let buf = its ∙ ap (λ (x : OpenChain). (oldest x).buf) c.self.view_is in
    c.post.ensures ∙ (λ i. record c.args.ring.now { posted = c.args.ring.now.posted ++ described (grant i) job.Write (first i) 1 (from i) (buf i) ∷ [] })
