use Rattle.std.proofs.Common.{get_or, sym, arith, true≢false}
use Rattle.std.proofs.lemmas.Bool.{leb-true, le-leb}
use Rattle.std.proofs.lemmas.List.{get_or_default}
use Rattle.ark_extents.specs.Runs.{no_run}
use Rattle.ark_extents.proofs.Pieces.{any_at}
use Rattle.ark_extents.proofs.RisingRuns.{cut_inside, cut_begins, cut_ends}
use Rattle.ark_extents.proofs.rising.has_piece.Goals as goal

pub returns-then-i-runs : goal.returns-then-i-runs
returns-then-i-runs c = record {
  had = (
    λ t. absurd (true≢false (sym t)),
    λ had. absurd (omega (arith, cut_inside c.args.runs.now c.place_of-i.result c.args.piece c.requires.rising c.place_of-i.ensures.place c.requires.some had)),
  );
}

pub returns-then-piece-run : goal.returns-then-piece-run
returns-then-piece-run c =
    let run = get_or c.args.runs.now c.place_of-i.result no_run in
    let is = get_or_default c.args.runs.now c.place_of-i.result no_run run c.if-i-runs.false in
    record {
      had = (
        λ t. absurd (true≢false (sym t)),
        λ had. absurd (omega (arith, cut_begins c.args.runs.now c.place_of-i.result c.args.piece c.requires.rising c.place_of-i.ensures.place c.requires.some had run is)),
      );
    }

pub returns : goal.returns
returns c =
    let run = get_or c.args.runs.now c.place_of-i.result no_run in
    let is = get_or_default c.args.runs.now c.place_of-i.result no_run run c.if-i-runs.false in
    record {
      had = (
        λ t n h.
            let within = leb-true c.end.result c.end-2.result t in
            any_at c.args.runs.now c.place_of-i.result no_run n c.if-i-runs.false (omega (arith, h.0, c.if-piece-run.false), omega (arith, h.1, within, c.end.ensures, c.end-2.ensures)),
        λ had. le-leb c.end.result c.end-2.result
            (omega (arith, c.end.ensures, c.end-2.ensures, cut_ends c.args.runs.now c.place_of-i.result c.args.piece c.requires.rising c.place_of-i.ensures.place c.requires.some had run is)),
      );
    }
