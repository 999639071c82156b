use Rattle.std.proofs.Common.{◌≡◌, ◌≤◌, ◌+◌, ◌-◌, ◌∙◌, true, false, sym, ap, subst, arith}
use Rattle.ark_media.specs.Journal.{block, current}
use Rattle.ark_media.specs.Calls.{Went}
use Rattle.ark_entry.specs.Entry.{entry_blocks, is_marked}
use Rattle.ark_entry.proofs.Readings.{some_block}
use Rattle.ark_chain.specs.Survey.{block_at, reads_at, last_of}
use Rattle.ark_chain.proofs.Looking.{failed_ok, no_last, the_last}
use Rattle.ark_chain.proofs.next.is_ended.Goals as goal

pub returns-then-more-eq0-clause-went : goal.returns-then-more-eq0-clause-went
returns-then-more-eq0-clause-went g c =
    no_last g.D.Disk.goes g.met.D.Disk.goes_none c.args.from.now.room c.args.from.now.start c.args.used (entry_blocks c.args.len - 1) (ap (λ n. n - 1) (sym c.entry_blocks-more.ensures) ∙ c.if-more-eq0.true) c.args.disk.now

pub returns-then-more-eq0-clause-marked : goal.returns-then-more-eq0-clause-marked
returns-then-more-eq0-clause-marked g c h is same =
    let some : 1 ≤ entry_blocks c.args.len = some_block c.args.len in
    let one : c.args.used ≡ c.args.used + entry_blocks c.args.len - 1 = omega (arith, some, c.if-more-eq0.true, c.entry_blocks-more.ensures) in
    c.marked.ensures ∙ ap is_marked (sym same ∙ ap (λ u. block (current h.base h.journal) (block_at c.args.from.now.room c.args.from.now.start u)) one)

pub returns-in_err-read-clause-went : goal.returns-in_err-read-clause-went
returns-in_err-read-clause-went g c =
    let room = c.args.from.now.room in
    let start = c.args.from.now.start in
    subst (λ ok. Went g.D.Disk.goes (reads_at room start (last_of c.args.used (entry_blocks c.args.len - 1))) ok c.args.disk.now c.read.new.self) (sym (failed_ok c.from_residual.result c.from_residual.ensures.0))
    (the_last g.D.Disk.goes room start c.args.used (entry_blocks c.args.len - 1) c.place.result false c.args.disk.now c.read.new.self (omega (arith, c.if-more-eq0.false, c.entry_blocks-more.ensures))
    (c.place.ensures.place ∙ ap (λ n. block_at room start (c.args.used + (n - 1))) c.entry_blocks-more.ensures) c.in_err-read.ensures.went)

pub returns-clause-went : goal.returns-clause-went
returns-clause-went g c =
    let room = c.args.from.now.room in
    let start = c.args.from.now.start in
    the_last g.D.Disk.goes room start c.args.used (entry_blocks c.args.len - 1) c.place.result true c.args.disk.now c.read.new.self (omega (arith, c.if-more-eq0.false, c.entry_blocks-more.ensures))
    (c.place.ensures.place ∙ ap (λ n. block_at room start (c.args.used + (n - 1))) c.entry_blocks-more.ensures) c.in_ok-read.ensures.went

pub returns-clause-marked : goal.returns-clause-marked
returns-clause-marked g c h is same =
    let room = c.args.from.now.room in
    let start = c.args.from.now.start in
    let some : 1 ≤ entry_blocks c.args.len = some_block c.args.len in
    let last : c.args.used + (c.entry_blocks-more.result - 1) ≡ c.args.used + entry_blocks c.args.len - 1 = omega (arith, some, c.entry_blocks-more.ensures) in
    c.marked-2.ensures ∙ ap is_marked (c.in_ok-read.ensures.honest.told h is ∙ ap (block (current h.base h.journal)) (c.place.ensures.place ∙ ap (block_at room start) last))
