use Rattle.std.proofs.Common.{◌≡◌, ◌≤◌, ◌+◌, ◌∙◌, ℕ, suc, [], ◌∷◌, true, Err, length, ⊎_elim, sym, ap, subst, arith}
use Rattle.std.specs.Prelude.{is_ok}
use Rattle.std.proofs.lemmas.Bool.{false≢true}
use Rattle.std.proofs.lemmas.List.{length-map}
use Rattle.ark_media.specs.Journal.{current}
use Rattle.ark_media.specs.Calls.{Went, Reads}
use Rattle.ark_media.proofs.Planning.{went_then}
use Rattle.ark_media.proofs.Stopping.{length-current}
use Rattle.ark_table.specs.declared.fault.LoadFault.{LoadFault}
use Rattle.ark_table.specs.declared.fault.LoadFault.TheVariants.{Damaged}
use Rattle.ark_table.specs.Loading.{IsRightIf, read_calls, is_read}
use Rattle.ark_table.specs.Stated.{areas, stated_if}
use Rattle.ark_table.proofs.Zeroing.{same_blocks}
use Rattle.ark_table.proofs.Front.{not_device, too_small, too_large, same_fault, same_bad, slot_more, slot_bad, front_whole, still_front, read_size, longer, right_more}
use Rattle.ark_table.proofs.loading.load_slots.Goals as goal

pub returns-then-size-lt130-clause-damaged : goal.returns-then-size-lt130-clause-damaged
returns-then-size-lt130-clause-damaged g c bad same h told =
    let image = current h.base h.journal in
    let long : length image ≡ c.blocks-size.result = length-current h.base h.journal ∙ g.met.D.Disk.size_is c.args.disk.now h told ∙ sym c.blocks-size.ensures in
    not_device image (⊎_elim (λ low. too_small image (omega (arith, low, long))) (λ high. too_large image (omega (arith, high.1, long))) c.then-size-lt130.either) ∙ ap (λ (b : ℕ). Err b) (same_bad 0 bad same)

pub returns-in-Err-clause-went : goal.returns-in-Err-clause-went
returns-in-Err-clause-went g c = record { count = 1; few = omega arith; went = c.in-Err.ensures.went; all = tt; stops = λ bad same. omega arith }

pub returns-in_default-clause-went : goal.returns-in_default-clause-went
returns-in_default-clause-went g c = record { count = 1; few = omega arith; went = c.in-Ok-true.ensures.went; all = tt; stops = λ bad same. omega arith }

pub returns-in-Err-load_next-clause-went : goal.returns-in-Err-load_next-clause-went
returns-in-Err-load_next-clause-went g c =
    let i = c.loop-i.i in
    let next : suc i ≡ i + 1 = omega arith in
    let ok = is_read c.load_next.result in
    record {
      count = suc i;
      few = omega (arith, c.loop-i-test.true);
      went = went_then g.D.Disk.goes g.met.D.Disk.goes_more (read_calls i) (Reads i ∷ []) _ c.args.disk.now c.loop-i.disk c.load_next.new.disk c.loop-i.invariant.went c.in-Err-load_next.ensures.went;
      all = tt;
      stops = λ bad same. let at = (c.in-Err-load_next.ensures.damaged bad (ap (λ (x : LoadFault). Err x) (same_fault c.in-Err-load_next.fault (Damaged bad) same))).0 in omega (arith, at);
    }

pub returns-in-Err-load_next-clause-damaged : goal.returns-in-Err-load_next-clause-damaged
returns-in-Err-load_next-clause-damaged g c bad same h told =
    let i = c.loop-i.i in
    let slots = c.loop-i.slots.items in
    let d = c.in-Err-load_next.ensures.damaged bad (ap (λ (x : LoadFault). Err x) (same_fault c.in-Err-load_next.fault (Damaged bad) same)) in
    let went = c.in-Err-load_next.ensures.went in
    let front = still_front g.D.Disk.goes g.D.Disk.told g.met.D.Disk.goes_told g.met.D.Disk.size_is i _ c.loop-i.disk c.load_next.new.disk (areas slots) went c.loop-i.invariant.front h told in
    slot_bad (current h.base h.journal) slots i (g.D.Disk.told c.loop-i.disk).blocks c.loop-i.invariant.count c.loop-i-test.true
    (read_size g.D.Disk.goes g.D.Disk.told g.met.D.Disk.goes_told g.met.D.Disk.size_is i _ c.loop-i.disk c.load_next.new.disk went h told) front (d.1 h told) ∙ ap (λ (b : ℕ). Err b) (sym d.0)

pub loop-i-preserved : goal.loop-i-preserved
loop-i-preserved g c =
    let i = c.loop-i.i in
    let slots = c.loop-i.slots.items in
    let next : suc i ≡ i + 1 = omega arith in
    let e = c.in_default-load_next.ensures in
    let x = e.more.0 in
    record {
      went = subst (λ (k : ℕ). Went g.D.Disk.goes (read_calls k) true c.args.disk.now c.load_next.new.disk) next
          (went_then g.D.Disk.goes g.met.D.Disk.goes_more (read_calls i) (Reads i ∷ []) true c.args.disk.now c.loop-i.disk c.load_next.new.disk c.loop-i.invariant.went e.went);
      count = omega (arith, longer slots c.load_next.new.slots.items x e.more.1, c.loop-i.invariant.count);
      blocks = same_blocks g.D.Disk.goes g.D.Disk.told g.met.D.Disk.goes_told (Reads i ∷ []) true c.loop-i.disk c.load_next.new.disk e.went ∙ c.loop-i.invariant.blocks;
      right = right_more (g.D.Disk.told c.args.disk.now).blocks slots c.load_next.new.slots.items x e.more.1
          (subst (λ n. IsRightIf n (stated_if x)) c.loop-i.invariant.blocks e.more.2) c.loop-i.invariant.right;
      front = λ h told. slot_more (current h.base h.journal) slots c.load_next.new.slots.items x i (g.D.Disk.told c.loop-i.disk).blocks c.loop-i.invariant.count c.loop-i-test.true e.more.1
          (read_size g.D.Disk.goes g.D.Disk.told g.met.D.Disk.goes_told g.met.D.Disk.size_is i true c.loop-i.disk c.load_next.new.disk e.went h told)
          (still_front g.D.Disk.goes g.D.Disk.told g.met.D.Disk.goes_told g.met.D.Disk.size_is i true c.loop-i.disk c.load_next.new.disk (areas slots) e.went c.loop-i.invariant.front h told)
          (e.more.3 h told);
    }

pub returns-clause-went : goal.returns-clause-went
returns-clause-went g c =
    let end : c.loop-i.i ≤ 129 = c.loop-i.auto.i-end (omega arith) in
    record {
      count = c.loop-i.i;
      few = end;
      went = c.loop-i.invariant.went;
      all = omega (arith, end, c.loop-i-test.false);
      stops = λ bad same. absurd (false≢true (sym (ap is_ok same)));
    }

pub returns-clause-table : goal.returns-clause-table
returns-clause-table g c h told =
    let end : c.loop-i.i ≤ 129 = c.loop-i.auto.i-end (omega arith) in
    let slots = c.loop-i.slots.items in
    front_whole (current h.base h.journal) (areas slots) (omega (arith, length-map slots stated_if, c.loop-i.invariant.count, end, c.loop-i-test.false)) (c.loop-i.invariant.front h told)
