use Rattle.std.proofs.Common.{◌++◌, [], true, false, refl, sym, subst, take, drop, arith, rules}
use Rattle.std.proofs.lemmas.Result.{err_from_is_err_and}
use Rattle.std.proofs.lemmas.List.{take_all, take_rest, take-append-drop}
use Rattle.std.proofs.Math.Seq.{take-add}
use Rattle.ark_media.proofs.Composing.{goes_none, goes_then}
use Rattle.ark_host.specs.Inside.{IsInside}
use Rattle.ark_cli.specs.Session.{FeedsMore}
use Rattle.ark_cli.proofs.FedLines.{feeds_none, feeds_then}
use Rattle.ark_cli.proofs.NoneFailed.{none_failed, unfailed_then}
use Rattle.ark_cli.proofs.script.run_bytes.Goals as goal

pub loop-at-init : goal.loop-at-init
loop-at-init g c =
    let told = g.W.Disk.told c.args.world.now in
    let beside = g.W.Outside.beside c.args.world.now in
    record {
      feeds = record {
        events = [];
        goes = goes_none told told beside beside refl refl;
        does = λ s fed added f. feeds_none s fed added c.args.host.now told c.args.line.now f;
      };
      unfailed = none_failed beside;
      sound = c.requires.sound;
      inside = c.requires.inside;
      counted = omega arith;
      within = omega arith;
    }

pub returns-in_err-at-clause-feeds : goal.returns-in_err-at-clause-feeds
returns-in_err-at-clause-feeds g c =
    let p = err_from_is_err_and c.from_residual.result c.from_residual.ensures.1 in
    let before = c.loop-at.invariant.feeds in
    let now = c.in_err-at.ensures.feeds in
    let w0 = c.args.world.now in
    let w1 = c.loop-at.world in
    let w2 = c.run_piece.new.world in
    let i = c.loop-at.at in
    let bytes = c.args.bytes.now in
    rw p.1 (record {
      events = before.events ++ now.events;
      goes = goes_then before.events now.events [] [] (g.W.Disk.told w0) (g.W.Disk.told w1) (g.W.Disk.told w2) (g.W.Outside.beside w0) (g.W.Outside.beside w1) (g.W.Outside.beside w2) before.goes now.goes;
      does = λ s fed added f.
          let first = before.does s fed added f in
          subst (λ b. FeedsMore s fed b added (before.events ++ now.events) c.run_piece.new.host (g.W.Disk.told w2) c.run_piece.new.line false) (take-append-drop i bytes)
          (feeds_then s fed added (take i bytes) (drop i bytes) before.events now.events c.loop-at.host c.run_piece.new.host (g.W.Disk.told w1) (g.W.Disk.told w2) c.loop-at.line c.run_piece.new.line false
          first (subst (λ b. FeedsMore s (fed ++ take i bytes) b (added ++ before.events) now.events c.run_piece.new.host (g.W.Disk.told w2) c.run_piece.new.line false) (take_rest bytes i)
          (now.does s (fed ++ take i bytes) (added ++ before.events) (first.done refl))));
    })

pub loop-at-preserved : goal.loop-at-preserved
loop-at-preserved g c =
    let before = c.loop-at.invariant.feeds in
    let now = c.in_ok-at.ensures.feeds in
    let w0 = c.args.world.now in
    let w1 = c.loop-at.world in
    let w2 = c.run_piece.new.world in
    let i = c.loop-at.at in
    let n = c.in_ok-at.field-0 in
    let bytes = c.args.bytes.now in
    record {
      feeds = record {
        events = before.events ++ now.events;
        goes = goes_then before.events now.events [] [] (g.W.Disk.told w0) (g.W.Disk.told w1) (g.W.Disk.told w2) (g.W.Outside.beside w0) (g.W.Outside.beside w1) (g.W.Outside.beside w2) before.goes now.goes;
        does = λ s fed added f.
            let first = before.does s fed added f in
            subst (λ b. FeedsMore s fed b added (before.events ++ now.events) c.run_piece.new.host (g.W.Disk.told w2) c.run_piece.new.line true) (sym (take-add i n bytes))
            (feeds_then s fed added (take i bytes) (take n (drop i bytes)) before.events now.events c.loop-at.host c.run_piece.new.host (g.W.Disk.told w1) (g.W.Disk.told w2) c.loop-at.line c.run_piece.new.line true
            first (subst (λ b. FeedsMore s (fed ++ take i bytes) (take n b) (added ++ before.events) now.events c.run_piece.new.host (g.W.Disk.told w2) c.run_piece.new.line true) (take_rest bytes i)
            (now.does s (fed ++ take i bytes) (added ++ before.events) (first.done refl))));
      };
      unfailed = unfailed_then (g.W.Outside.beside w0) (g.W.Outside.beside w1) (g.W.Outside.beside w2) c.loop-at.invariant.unfailed c.in_ok-at.ensures.unfailed;
      sound = c.run_piece.ensures.sound;
      inside = subst (λ n. IsInside n c.run_piece.new.host) before.goes.tells.blocks c.run_piece.ensures.inside;
      counted = search rules;
      within = search rules;
    }

pub returns-clause-feeds : goal.returns-clause-feeds
returns-clause-feeds g c =
    let before = c.loop-at.invariant.feeds in
    let bytes = c.args.bytes.now in
    record {
      events = before.events;
      goes = before.goes;
      does = λ s fed added f.
          subst (λ b. FeedsMore s fed b added before.events c.loop-at.host (g.W.Disk.told c.loop-at.world) c.loop-at.line true)
          (take_all c.loop-at.at bytes (search rules)) (before.does s fed added f);
    }

pub run_piece-requires-clause-inside : goal.run_piece-requires-clause-inside
run_piece-requires-clause-inside g c = subst (λ n. IsInside n c.loop-at.host) (sym c.loop-at.invariant.feeds.goes.tells.blocks) c.loop-at.invariant.inside

pub returns-in_err-at-clause-inside : goal.returns-in_err-at-clause-inside
returns-in_err-at-clause-inside g c = subst (λ n. IsInside n c.run_piece.new.host) c.loop-at.invariant.feeds.goes.tells.blocks c.run_piece.ensures.inside
