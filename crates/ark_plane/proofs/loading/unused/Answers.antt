use Rattle.std.proofs.Common.{rules, ◌≡◌, ◌+◌, ◌∙◌, ℕ, List, ap, sym, subst, arith, take, length}
use Rattle.std.proofs.Math.Seq.{take-length}
use Rattle.ark_table.specs.Standing.{Table}
use Rattle.ark_plane.specs.Loading.{IsUnused, AreApartOn}
use Rattle.ark_plane.proofs.Unused.{unused_first, entry_unused, entry_misfit}
use Rattle.ark_plane.proofs.LoadedShared.{apart_first, entry_apart, loaded_shared}
use Rattle.ark_plane.proofs.loading.unused.Goals as goal

pub loop-place-init : goal.loop-place-init
loop-place-init c = record {
  free = subst (λ (f : List ℕ). IsUnused c.args.blocks (take 0 c.args.table.now) f) (sym c.in-Ok.ensures.free) (unused_first c.args.blocks c.args.table.now);
  apart = apart_first c.args.blocks c.args.table.now;
}

pub returns-in-Err-clause-fault : goal.returns-in-Err-clause-fault
returns-in-Err-clause-fault c =
    entry_misfit c.args.blocks c.args.table.now c.loop-place.place (c.loop-place.place + 1) c.loop-place.free c.in-Err.fault c.in-Err.ensures.fault c.loop-place.invariant.free

pub loop-place-preserved : goal.loop-place-preserved
loop-place-preserved c = record {
  free = entry_unused c.args.blocks c.args.table.now c.loop-place.place c.loop-place.free c.take_entry.new.free c.in_default-take_entry.ensures.taken c.loop-place.invariant.free;
  apart = entry_apart c.args.blocks c.args.table.now c.loop-place.place c.loop-place.invariant.apart c.loop-place.free c.take_entry.new.free c.requires.low c.in_default-take_entry.ensures.taken c.in_default-take_entry.ensures.spelled c.loop-place.invariant.free;
}

pub returns-clause-free : goal.returns-clause-free
returns-clause-free c =
    let all : c.loop-place.place ≡ length c.args.table.now = omega (arith, c.loop-place-test.false, c.loop-place.auto.place-end, c.used.ensures.size) in
    subst (λ (t : Table). IsUnused c.args.blocks t c.loop-place.free) (ap (λ n. take n c.args.table.now) all ∙ take-length c.args.table.now) c.loop-place.invariant.free

pub returns-clause-shared : goal.returns-clause-shared
returns-clause-shared c =
    let all : c.loop-place.place ≡ length c.args.table.now = omega (arith, c.loop-place-test.false, c.loop-place.auto.place-end, c.used.ensures.size) in
    let whole : take c.loop-place.place c.args.table.now ≡ c.args.table.now = ap (λ n. take n c.args.table.now) all ∙ take-length c.args.table.now in
    loaded_shared c.args.blocks c.args.table.now c.used.ensures.size (subst (λ (t : Table). AreApartOn c.args.blocks t) whole c.loop-place.invariant.apart) c.loop-place.free
    (search rules) (returns-clause-free c)
