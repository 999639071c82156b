use Rattle.std.proofs.Common.{◌≡◌, ◌<◌, ◌+◌, ◌∙◌, [], ◌∷◌, true, false, refl, sym, ap, subst, length, take, get_or, arith}
use Rattle.std.proofs.lemmas.Option.{slice_get_within, get_or_from_slice_get}
use Rattle.std.proofs.Math.Seq.{take-length}
use Rattle.ark_media.specs.Journal.{zero_block}
use Rattle.ark_media.specs.Calls.{Went, Writes}
use Rattle.ark_table.specs.Plans.{zero_calls}
use Rattle.ark_table.proofs.Zeroing.{failed_ok, zero_more, zeros_stop, same_blocks}
use Rattle.ark_table.proofs.granting.write_zeros.Goals as goal

pub loop-off-init : goal.loop-off-init
loop-off-init g c = record { went = record { events = []; makes = refl; goes_on = g.met.D.Disk.goes_none c.args.disk.now }; blocks = refl }

pub write-requires-clause-inside : goal.write-requires-clause-inside
write-requires-clause-inside g c =
    let at = sym c.in-Some.ensures.block in
    let spans = c.args.spans.now in
    let is : get_or spans c.loop-off.off 0 ≡ c.in-Some.n = get_or_from_slice_get spans c.loop-off.off c.in-Some.n 0 at in
    let low : get_or spans c.loop-off.off 0 < (g.D.Disk.told c.args.disk.now).blocks = c.requires.inside c.loop-off.off 0 (slice_get_within spans c.loop-off.off c.in-Some.n at) in
    omega (arith, low, is, c.loop-off.invariant.blocks)

pub loop-off-preserved : goal.loop-off-preserved
loop-off-preserved g c =
    let at = sym c.in-Some.ensures.block in
    let spans = c.args.spans.now in
    record {
      went = zero_more g.D.Disk.goes g.met.D.Disk.goes_more spans c.loop-off.off c.in-Some.n true c.args.disk.now c.loop-off.disk c.write.new.self (slice_get_within spans c.loop-off.off c.in-Some.n at)
          (get_or_from_slice_get spans c.loop-off.off c.in-Some.n 0 at) c.loop-off.invariant.went c.in_ok-write.ensures.went;
      blocks = same_blocks g.D.Disk.goes g.D.Disk.told g.met.D.Disk.goes_told (Writes c.in-Some.n zero_block ∷ []) true c.loop-off.disk c.write.new.self c.in_ok-write.ensures.went ∙ c.loop-off.invariant.blocks;
    }

pub returns-in_err-write : goal.returns-in_err-write
returns-in_err-write g c =
    let at = sym c.in-Some.ensures.block in
    let spans = c.args.spans.now in
    record {
      went = subst (λ ok. Went g.D.Disk.goes (zero_calls spans) ok c.args.disk.now c.write.new.self) (sym (failed_ok c.from_residual.result c.from_residual.ensures.0))
          (zeros_stop g.D.Disk.goes g.met.D.Disk.goes_more spans (c.loop-off.off + 1) c.args.disk.now c.write.new.self
          (zero_more g.D.Disk.goes g.met.D.Disk.goes_more spans c.loop-off.off c.in-Some.n false c.args.disk.now c.loop-off.disk c.write.new.self (slice_get_within spans c.loop-off.off c.in-Some.n at)
          (get_or_from_slice_get spans c.loop-off.off c.in-Some.n 0 at) c.loop-off.invariant.went c.in_err-write.ensures.went));
    }

pub returns : goal.returns
returns g c =
    let spans = c.args.spans.now in
    let all : c.loop-off.off ≡ length spans = omega (arith, c.loop-off.auto.off-end, c.loop-off-test.false, c.blocks-off-end.ensures.blocks) in
    record { went = subst (λ l. Went g.D.Disk.goes (zero_calls l) true c.args.disk.now c.loop-off.disk) (ap (λ k. take k spans) all ∙ take-length spans) c.loop-off.invariant.went }
