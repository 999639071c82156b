use Rattle.std.proofs.Common.{◌+◌, ◌∙◌, List, ℕ, [], ◌∷◌, true, false, map, sym, subst, arith}
use Rattle.ark_media.specs.Calls.{Went}
use Rattle.ark_chain.specs.Survey.{block_at, reads_at}
use Rattle.ark_chain.specs.Single.{HasPart, behind}
use Rattle.ark_chain.proofs.Looking.{reads_then, still_told, same_blocks}
use Rattle.ark_chain.proofs.Payloads.{behind_more, read_stop}
use Rattle.ark_chain.proofs.payload.read_payload.Goals as goal

pub returns-in_err-read_part-2-clause-went : goal.returns-in_err-read_part-2-clause-went
returns-in_err-read_part-2-clause-went g c =
    let room = c.args.from.now.room in
    let start = c.args.from.now.start in
    let k = c.loop-k.k in
    read_stop g.D.Disk.goes room start _ (k + 1) c.from_residual-in_err-read_part-2.result c.args.disk.now c.read_part-in-loop-k.new.disk c.from_residual-in_err-read_part-2.ensures.0 (omega (arith, c.loop-k-test.true))
    (subst (λ (l : List ℕ). Went g.D.Disk.goes (reads_at room start (0 ∷ l)) false c.args.disk.now c.read_part-in-loop-k.new.disk) (sym (behind_more k c.loop-k.auto.k))
    (reads_then g.D.Disk.goes g.met.D.Disk.goes_more room start (0 ∷ behind k) (k ∷ []) false c.args.disk.now c.loop-k.disk c.read_part-in-loop-k.new.disk c.loop-k.invariant.went c.in_err-read_part-2.ensures.went))

pub loop-k-preserved : goal.loop-k-preserved
loop-k-preserved g c =
    let room = c.args.from.now.room in
    let start = c.args.from.now.start in
    let k = c.loop-k.k in
    let went = c.in_ok-read_part-2.ensures.went in
    record {
      went = subst (λ (l : List ℕ). Went g.D.Disk.goes (reads_at room start (0 ∷ l)) true c.args.disk.now c.read_part-in-loop-k.new.disk) (sym (behind_more k c.loop-k.auto.k))
          (reads_then g.D.Disk.goes g.met.D.Disk.goes_more room start (0 ∷ behind k) (k ∷ []) true c.args.disk.now c.loop-k.disk c.read_part-in-loop-k.new.disk c.loop-k.invariant.went went);
      blocks = same_blocks g.D.Disk.goes g.D.Disk.told g.met.D.Disk.goes_told _ true c.loop-k.disk c.read_part-in-loop-k.new.disk went ∙ c.loop-k.invariant.blocks;
      part = λ h told. c.in_ok-read_part-2.ensures.part h told
          (still_told g.D.Disk.goes g.D.Disk.told g.met.D.Disk.goes_told (map (λ u. block_at room start u) (k ∷ [])) true c.loop-k.disk c.read_part-in-loop-k.new.disk went (HasPart room start c.args.len k c.loop-k.out) c.loop-k.invariant.part h told);
    }
