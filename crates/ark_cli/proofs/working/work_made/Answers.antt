use Rattle.std.proofs.Common.{ℕ, List, [], length, sym, ap, subst, arith}
use Rattle.ark_media.specs.Going.{rose_from}
use Rattle.ark_host.specs.Inside.{IsInside}
use Rattle.ark_report.specs.Counted.{CountedSoFar}
use Rattle.ark_cli.proofs.NoneFailed.{unfailed_then, unfailed_kept, unfailed_put}
use Rattle.ark_cli.proofs.GeneratedRuns.{script_length, works_not, works_done, works_cut}
use Rattle.ark_cli.proofs.working.work_made.Goals as goal

pub returns-in-Err-clause-works : goal.returns-in-Err-clause-works
returns-in-Err-clause-works g c =
    works_not c.args.seed c.args.lines c.args.device.now (g.W.Disk.told c.args.world.now) (g.W.Disk.told c.make_new.new.world) (g.W.Outside.beside c.args.world.now) (g.W.Outside.beside c.make_new.new.world) c.in-Err.status c.in-Err.ensures.failed

pub returns-in-Ok-clause-works : goal.returns-in-Ok-clause-works
returns-in-Ok-clause-works g c =
    let w0 = c.args.world.now in
    let w1 = c.make_new.new.world in
    let w2 = c.count_replies-tally.new.disk in
    let w3 = c.put_summary.new.world in
    let counted = c.count_replies-tally.ensures.counts in
    let all = subst (λ (l : List (List ℕ)). CountedSoFar c.args.host.now l [] counted.events c.count_replies-tally.new.host (g.W.Disk.told w2) c.count_replies-tally.result) c.new-script.ensures counted.does in
    works_done c.args.seed c.args.lines c.args.device.now (g.W.Disk.told w0) (g.W.Disk.told w1) (g.W.Disk.told w2) (g.W.Disk.told w3) (g.W.Outside.beside w0) (g.W.Outside.beside w1) (g.W.Outside.beside w2) (g.W.Outside.beside w3)
    c.args.host.now c.count_replies-tally.new.host c.count_replies-tally.result counted.events c.in_default.ensures.formatted c.requires.host all
    (g.met.W.Disk.goes_told w1 w2 counted.events counted.goes_on) (g.met.W.Outside.goes_means w1 w2 counted.events counted.goes_on) c.put_summary.ensures.keeps c.put_summary.ensures.cause.later c.in-Ok.ensures.puts

pub returns-in-Err-put_summary-clause-works : goal.returns-in-Err-put_summary-clause-works
returns-in-Err-put_summary-clause-works g c =
    let w0 = c.args.world.now in
    let w1 = c.make_new.new.world in
    let w2 = c.count_replies-tally.new.disk in
    let w3 = c.put_summary.new.world in
    let counted = c.count_replies-tally.ensures.counts in
    let all = subst (λ (l : List (List ℕ)). CountedSoFar c.args.host.now l [] counted.events c.count_replies-tally.new.host (g.W.Disk.told w2) c.count_replies-tally.result) c.new-script.ensures counted.does in
    works_cut c.args.seed c.args.lines c.args.device.now (g.W.Disk.told w0) (g.W.Disk.told w1) (g.W.Disk.told w2) (g.W.Disk.told w3) (g.W.Outside.beside w0) (g.W.Outside.beside w1) (g.W.Outside.beside w2) (g.W.Outside.beside w3)
    c.args.host.now c.count_replies-tally.new.host c.count_replies-tally.result counted.events c.in_default.ensures.formatted c.requires.host all
    (g.met.W.Disk.goes_told w1 w2 counted.events counted.goes_on) (g.met.W.Outside.goes_means w1 w2 counted.events counted.goes_on) c.put_summary.ensures.keeps c.put_summary.ensures.cause.later c.in-Err-put_summary.ensures.puts

pub count_replies-tally-requires-clause-inside : goal.count_replies-tally-requires-clause-inside
count_replies-tally-requires-clause-inside g c = subst (λ (n : ℕ). IsInside n c.args.host.now) (sym c.in_default.ensures.formatted.since.blocks) c.requires.inside

pub count_replies-tally-requires-clause-few : goal.count_replies-tally-requires-clause-few
count_replies-tally-requires-clause-few g c =
    omega (arith, c.requires.none, c.requires.few, ap (λ (l : List (List ℕ)). length l) c.new-script.ensures, script_length c.args.seed c.args.lines)

pub returns-in-Ok-clause-cause : goal.returns-in-Ok-clause-cause
returns-in-Ok-clause-cause g c =
    let w1 = c.make_new.new.world in
    let w2 = c.count_replies-tally.new.disk in
    let b0 = g.W.Outside.beside c.args.world.now in
    let b1 = g.W.Outside.beside w1 in
    let b2 = g.W.Outside.beside w2 in
    let b3 = g.W.Outside.beside c.put_summary.new.world in
    let counted = c.count_replies-tally.ensures.counts in
    unfailed_then b0 b2 b3 (unfailed_then b0 b1 b2 c.in_default.ensures.unfailed (unfailed_kept b1 b2 (g.met.W.Outside.goes_means w1 w2 counted.events counted.goes_on)))
    (unfailed_put b2 b3 c.put_summary.ensures.keeps c.in-Ok.ensures.cause.worked)

pub returns-in-Err-put_summary-clause-cause : goal.returns-in-Err-put_summary-clause-cause
returns-in-Err-put_summary-clause-cause g c =
    let w1 = c.make_new.new.world in
    let w2 = c.count_replies-tally.new.disk in
    let b0 = g.W.Outside.beside c.args.world.now in
    let b1 = g.W.Outside.beside w1 in
    let b2 = g.W.Outside.beside w2 in
    let b3 = g.W.Outside.beside c.put_summary.new.world in
    let counted = c.count_replies-tally.ensures.counts in
    let kept = g.met.W.Outside.goes_means w1 w2 counted.events counted.goes_on in
    rose_from b0.sink_faults b2.sink_faults b3.sink_faults (omega (arith, c.in_default.ensures.formatted.since.sink, kept.sink)) c.in-Err-put_summary.ensures.cause.failed
