use Rattle.std.proofs.Common.{[], ◌∷◌, ◌∙◌, subst}
use Rattle.std.specs.Prelude.{is_ok}
use Rattle.std.proofs.lemmas.Result.{on_ok_weaker}
use Rattle.ark_media.specs.Journal.{Out}
use Rattle.ark_media.specs.Calls.{Puts}
use Rattle.ark_media.proofs.Composing.{goes_kept, goes_put, goes_then}
use Rattle.ark_cli.proofs.PutLines.{line_put}
use Rattle.ark_cli.proofs.NoneFailed.{unfailed_then, unfailed_kept, unfailed_put}
use Rattle.ark_cli.proofs.script.answer_line.Goals as goal

pub returns-clause-puts : goal.returns-clause-puts
returns-clause-puts g c =
    let served = c.serve_line.ensures.serves in
    let w0 = c.args.world.now in
    let w1 = c.serve_line.new.disk in
    let w2 = c.put.new.self in
    let puts = subst (λ b. Puts (g.W.Disk.told w1) (g.W.Disk.told w2) b (is_ok c.put.result)) (c.bytes.ensures ∙ c.print.ensures.text) c.put.ensures.puts in
    let first = goes_kept (g.W.Disk.told w0) (g.W.Disk.told w1) (g.W.Outside.beside w0) (g.W.Outside.beside w1) served.events
    (g.met.W.Disk.goes_told w0 w1 served.events served.goes_on) (g.met.W.Outside.goes_means w0 w1 served.events served.goes_on) in
    let then = goes_put (g.W.Disk.told w1) (g.W.Disk.told w2) (g.W.Outside.beside w1) (g.W.Outside.beside w2) puts.part puts.rests c.put.ensures.keeps c.put.ensures.cause.later in
    record {
      events = _;
      goes = goes_then served.events (Out puts.part ∷ []) [] [] (g.W.Disk.told w0) (g.W.Disk.told w1) (g.W.Disk.told w2) (g.W.Outside.beside w0) (g.W.Outside.beside w1) (g.W.Outside.beside w2) first then;
      does = λ whole e. line_put c.args.host.now whole served.events (g.W.Disk.told w1) (g.W.Disk.told w2) c.serve_line.new.host _ _ (served.does whole e) (is_ok c.put.result) c.serve_line.ensures.said puts;
    }

pub returns-clause-unfailed : goal.returns-clause-unfailed
returns-clause-unfailed g c =
    let served = c.serve_line.ensures.serves in
    let w0 = c.args.world.now in
    let w1 = c.serve_line.new.disk in
    let b0 = g.W.Outside.beside w0 in
    let b1 = g.W.Outside.beside w1 in
    let b2 = g.W.Outside.beside c.put.new.self in
    on_ok_weaker c.put.result
    (λ worked. unfailed_then b0 b1 b2 (unfailed_kept b0 b1 (g.met.W.Outside.goes_means w0 w1 served.events served.goes_on)) (unfailed_put b1 b2 c.put.ensures.keeps worked)) c.put.ensures.cause.worked
