use Rattle.std.proofs.Common.{◌≡◌, ◌+◌, ◌∙◌, List, ℕ, [], ◌∷◌, true, false, map, refl, sym, subst, arith}
use Rattle.ark_media.specs.Journal.{current}
use Rattle.ark_media.specs.Calls.{Went}
use Rattle.ark_chain.specs.Survey.{block_at, reads_at}
use Rattle.ark_chain.specs.Single.{AreRead, behind}
use Rattle.ark_chain.proofs.Looking.{none_read, reads_then, still_told, same_blocks}
use Rattle.ark_chain.proofs.Payloads.{next_read, read_on_stop, behind_more}
use Rattle.ark_chain.proofs.single.read_on.Goals as goal

pub loop-k-init : goal.loop-k-init
loop-k-init g c = record {
  went = none_read g.D.Disk.goes g.met.D.Disk.goes_none c.args.disk.now;
  blocks = refl;
  bytes = λ h told first. first;
}

pub read_block-requires-clause-inside : goal.read_block-requires-clause-inside
read_block-requires-clause-inside g c = c.requires.inside ∙ sym c.loop-k.invariant.blocks

pub returns-in_err-read_block-clause-went : goal.returns-in_err-read_block-clause-went
returns-in_err-read_block-clause-went g c =
    let room = c.args.from.now.room in
    let start = c.args.from.now.start in
    let k = c.loop-k.k in
    read_on_stop g.D.Disk.goes room start c.args.blocks (k + 1) c.from_residual.result c.args.disk.now c.read_block.new.disk c.from_residual.ensures.0 (omega (arith, c.loop-k-test.true))
    (subst (λ (l : List ℕ). Went g.D.Disk.goes (reads_at room start l) false c.args.disk.now c.read_block.new.disk) (sym (behind_more k c.loop-k.auto.k))
    (reads_then g.D.Disk.goes g.met.D.Disk.goes_more room start (behind k) (k ∷ []) false c.args.disk.now c.loop-k.disk c.read_block.new.disk c.loop-k.invariant.went c.in_err-read_block.ensures.went))

pub loop-k-preserved : goal.loop-k-preserved
loop-k-preserved g c =
    let room = c.args.from.now.room in
    let start = c.args.from.now.start in
    let k = c.loop-k.k in
    let went = c.in_ok-read_block.ensures.went in
    record {
      went = subst (λ (l : List ℕ). Went g.D.Disk.goes (reads_at room start l) true c.args.disk.now c.read_block.new.disk) (sym (behind_more k c.loop-k.auto.k))
          (reads_then g.D.Disk.goes g.met.D.Disk.goes_more room start (behind k) (k ∷ []) true c.args.disk.now c.loop-k.disk c.read_block.new.disk c.loop-k.invariant.went went);
      blocks = same_blocks g.D.Disk.goes g.D.Disk.told g.met.D.Disk.goes_told _ true c.loop-k.disk c.read_block.new.disk went ∙ c.loop-k.invariant.blocks;
      bytes = λ h told first. next_read room start c.loop-k.out c.read_block.new.out (current h.base h.journal) k (c.in_ok-read_block.ensures.block h told)
          (still_told g.D.Disk.goes g.D.Disk.told g.met.D.Disk.goes_told (map (λ u. block_at room start u) (k ∷ [])) true c.loop-k.disk c.read_block.new.disk went (λ image. AreRead room start 1 c.args.out.now image → AreRead room start k c.loop-k.out image) c.loop-k.invariant.bytes h told first);
    }

pub returns-clause-went : goal.returns-clause-went
returns-clause-went g c =
    let all : c.loop-k.k ≡ c.args.blocks = omega (arith, c.loop-k.auto.k-end c.requires.some, c.loop-k-test.false) in
    record { count = c.loop-k.k; few = omega (arith, all); all = all; went = c.loop-k.invariant.went }

pub returns-clause-bytes : goal.returns-clause-bytes
returns-clause-bytes g c h is =
    let all : c.loop-k.k ≡ c.args.blocks = omega (arith, c.loop-k.auto.k-end c.requires.some, c.loop-k-test.false) in
    subst (λ n. AreRead c.args.from.now.room c.args.from.now.start 1 c.args.out.now (current h.base h.journal) → AreRead c.args.from.now.room c.args.from.now.start n c.loop-k.out (current h.base h.journal)) all (c.loop-k.invariant.bytes h is)
