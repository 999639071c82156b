-- What stands at each moment of a change of the table.
use Rattle.std.proofs.Common.{◌≡◌, ◌⊎◌, inl, inr, ⊎_elim, ℕ, zero, suc, ◌+◌, ◌-◌, ◌<◌, ◌≤◌, List, [], ◌∷◌, ◌++◌, Bool, true, false, length, set, get_or, drop, Some, None, refl, sym, ◌∙◌, ap, subst, arith, Contains}
use Rattle.std.specs.Prelude.{nat_le}
use Rattle.std.specs.List.{list_all}
use Rattle.std.proofs.lemmas.Bool.{cases_eq, and_parts, leb-true, false≢true}
use Rattle.std.proofs.lemmas.List.Elements.{Contains-append_right}
use Rattle.ark_base.specs.declared.block.Span.{Span}
use Rattle.ark_base.specs.Name.{is_name}
use Rattle.ark_media.specs.Journal.{Event, Write, Sync, History, block, zero_block, current}
use Rattle.ark_media.specs.Calls.{Syncs, Makes}
use Rattle.ark_media.specs.Standing.{after, MayStand}
use Rattle.ark_media.specs.Stops.{Whole}
use Rattle.ark_media.proofs.Stopping.{length-current, current_same, current_other, other_write}
use Rattle.ark_extents.specs.Blocks.{blocks_of}
use Rattle.ark_extents.specs.Runs.{are_spans}
use Rattle.ark_extents.specs.Free.{AnyHas}
use Rattle.ark_extents.proofs.RunLemmas.{blocks_of-runs_of}
use Rattle.ark_extents.proofs.Holding.{has_contained}
use Rattle.ark_table.specs.Area.{Area, is_area, is_data, area_bytes}
use Rattle.ark_table.specs.Table.{HasTable}
use Rattle.ark_table.specs.Plans.{spelled, zero_calls, slot_calls, grant_calls, remove_calls}
use Rattle.ark_table.specs.Standing.{Table, IsTableOf, SlotChange, changed, creates, grows, removes, grown_area, IsTried, IsWritten, Spare, IsUnderWay, GoesThrough, CanCreate, CanGrow, with_slot}
use Rattle.ark_table.proofs.Changing.{removed_table, added_table, grown_table}
use Rattle.ark_table.proofs.Standing.{Image, written_left, written_later, stays_once, stays_tried, synced}

first_same : (e f : Event) (es fs : List Event) → e ∷ es ≡ f ∷ fs → e ≡ f
first_same e f es fs same = ap (λ (l : List Event). get_or l 0 e) same

rest_same : (e f : Event) (es fs : List Event) → e ∷ es ≡ f ∷ fs → es ≡ fs
rest_same e f es fs same = ap (λ (l : List Event). drop 1 l) same

no_more : (e : Event) (es : List Event) → e ∷ es ≡ [] → ⊥
no_more e es same = absurd (omega (arith, ap (λ (l : List Event). length l) same))

-- the events of a sync write nothing
sync_writes_none : (ok : Bool) (es : List Event) → Makes (Syncs ∷ []) ok es → (n : ℕ) → IsWritten n es → ⊥
sync_writes_none ok [] makes n is = is
sync_writes_none ok (e ∷ []) (inl h) n is = subst (λ (x : Event). IsWritten n (x ∷ [])) h.0 is
sync_writes_none ok (e ∷ (f ∷ es)) (inl h) n is = absurd h.1
sync_writes_none ok (e ∷ es) (inr h) n is = subst (λ (x : Event). IsWritten n (x ∷ [])) h.0 (subst (λ (l : List Event). IsWritten n (e ∷ l)) h.2 is)

-- zeros behind the table spare it
zero_spares : (m : ℕ) → 129 ≤ m → (took ok : Bool) → Spare [] (Write m zero_block took ok ∷ [])
zero_spares m low took ok n (inl at) = (subst (λ (x : ℕ). 129 ≤ x) at low, λ has. omega (arith, has.1))
zero_spares m low took ok n (inr never) = absurd never

-- A change that fits into each image, of as many blocks, that has the table.
module _ (table : Table) (c : SlotChange) (size : ℕ) (low : 1 ≤ c.index) (high : c.index ≤ 128)
    (fits : (image : Image) → HasTable table image → length image ≡ size → HasTable (changed c table) (set image c.index (spelled c.area)))
    (inside : (n : ℕ) → Contains c.added n → (129 ≤ n) × (n < size)) where
  -- a stop leaves only zeros of the added blocks
  abbrev AreSettled : History → Type 0
  AreSettled g = (n : ℕ) (content : List ℕ) → Contains c.added n → MayStand g n content → content ≡ zero_block

  tried_write : (g : History) → length g.base ≡ size → IsTableOf g table → AreSettled g → (took ok : Bool) → IsTried (after g (Write c.index (spelled c.area) took ok ∷ [])) table c
  tried_write g same is settled took ok = record {
    low = low;
    high = high;
    image = current g.base g.journal;
    size = length-current g.base g.journal;
    before = is.has;
    later = fits (current g.base g.journal) is.has (length-current g.base g.journal ∙ same);
    slot = λ content may. ⊎_elim (λ here. inr here.1) (λ left. inl (is.settled c.index content (omega (arith, high)) left)) may;
    others = λ n content lt ne may. is.settled n content lt (other_write Whole g.base g.journal c.index n (spelled c.area) took ok ne content may);
    zeros = λ n content has may.
        settled n content has (other_write Whole g.base g.journal c.index n (spelled c.area) took ok (λ at. omega (arith, at, high, (inside n has).0)) content may);
    inside = λ n has. ((inside n has).0, omega (arith, (inside n has).1, same));
  }

  -- a front of what comes after the slot was written is under way
  fronts : (g : History) (took good ok : Bool) (es : List Event) → IsTableOf g table → IsTried (after g (Write c.index (spelled c.area) took good ∷ [])) table c → Makes (Syncs ∷ []) ok es ⊎ (es ≡ [])
      → (front back : List Event) → Write c.index (spelled c.area) took good ∷ es ≡ front ++ back → IsUnderWay g table c front
  fronts g took good ok es is tried rest [] back at = inl is
  fronts g took good ok es is tried rest (f ∷ front) back at =
      subst (λ (x : Event). IsUnderWay g table c (x ∷ front)) (first_same (Write c.index (spelled c.area) took good) f es (front ++ back) at)
      (inr (inl refl, stays_tried (after g (Write c.index (spelled c.area) took good ∷ [])) table c front tried (λ n written. absurd (none n (subst (λ (l : List Event). IsWritten n l) (sym split) (written_left n front back written))))))
    where
      split : es ≡ front ++ back
      split = rest_same (Write c.index (spelled c.area) took good) f es (front ++ back) at

      none : (n : ℕ) → IsWritten n es → ⊥
      none n written = ⊎_elim (λ makes. sync_writes_none ok es makes n written) (λ empty. subst (λ (l : List Event). IsWritten n l) empty written) rest

  -- the write of the slot, and its sync
  slot_goes : (g : History) (ok : Bool) (es : List Event) → length g.base ≡ size → IsTableOf g table → AreSettled g → Makes (slot_calls c.index c.area) ok es → GoesThrough g table c ok es
  slot_goes g ok [] same is settled makes = absurd makes
  slot_goes g ok (e ∷ es) same is settled (inr (comes, bad, none)) =
      subst (λ (x : Event). GoesThrough g table c ok (x ∷ es)) (sym comes.2) (subst (λ (l : List Event). GoesThrough g table c ok (Write c.index (spelled c.area) comes.0 false ∷ l)) (sym none) (record {
        each = fronts g comes.0 false ok [] is tried (inr refl);
        done = λ good. absurd (false≢true (sym bad ∙ good));
        failed = λ _. inr tried;
      }))
    where
      tried : IsTried (after g (Write c.index (spelled c.area) comes.0 false ∷ [])) table c
      tried = tried_write g same is settled comes.0 false
  slot_goes g ok (e ∷ es) same is settled (inl (comes, rest)) = subst (λ (x : Event). GoesThrough g table c ok (x ∷ es)) (sym comes.2) (record {
    each = fronts g comes.0 true ok es is tried (inl rest);
    done = λ good. finish es rest good;
    failed = λ _. inr (stays_tried (after g (Write c.index (spelled c.area) comes.0 true ∷ [])) table c es tried (λ n written. absurd (sync_writes_none ok es rest n written)));
  })
    where
      tried : IsTried (after g (Write c.index (spelled c.area) comes.0 true ∷ [])) table c
      tried = tried_write g same is settled comes.0 true

      has : (took : Bool) → took ≡ true → HasTable (changed c table) (current g.base (Write c.index (spelled c.area) took true ∷ g.journal))
      has took so = subst (λ (t : Bool). HasTable (changed c table) (current g.base (Write c.index (spelled c.area) t true ∷ g.journal))) (sym so)
          (fits (current g.base g.journal) is.has (length-current g.base g.journal ∙ same))

      finish : (fs : List Event) → Makes (Syncs ∷ []) ok fs → ok ≡ true → IsTableOf (after g (Write c.index (spelled c.area) comes.0 true ∷ fs)) (changed c table)
      finish [] none good = absurd none
      finish (f ∷ []) (inl h) good = subst (λ (x : Event). IsTableOf (after g (Write c.index (spelled c.area) comes.0 true ∷ x ∷ [])) (changed c table)) (sym h.0)
          (synced (after g (Write c.index (spelled c.area) comes.0 true ∷ [])) (changed c table) (has comes.0 (comes.1 refl)))
      finish (f ∷ (d ∷ fs)) (inl h) good = absurd h.1
      finish (f ∷ fs) (inr h) good = absurd (false≢true (sym h.1 ∙ good))

  -- one event more before, over which the table stands
  goes_cons : (g : History) (e : Event) (ok : Bool) (es : List Event) → IsTableOf g table → GoesThrough (after g (e ∷ [])) table c ok es → GoesThrough g table c ok (e ∷ es)
  goes_cons g e ok es is goes = record { each = moment; done = goes.done; failed = goes.failed }
    where
      moment : (front back : List Event) → e ∷ es ≡ front ++ back → IsUnderWay g table c front
      moment [] back at = inl is
      moment (f ∷ front) back at = subst (λ (x : Event). IsUnderWay g table c (x ∷ front)) (first_same e f es (front ++ back) at)
          (⊎_elim (λ stands. inl stands) (λ tried. inr (written_later c.index e front tried.0, tried.1)) (goes.each front back (rest_same e f es (front ++ back) at)))

  -- one event that failed, over which the table stands
  goes_last : (g : History) (e : Event) (ok : Bool) (es : List Event) → IsTableOf g table → IsTableOf (after g (e ∷ [])) table → ok ≡ false → es ≡ [] → GoesThrough g table c ok (e ∷ es)
  goes_last g e ok es is next bad none = goes_cons g e ok es is (subst (λ (l : List Event). GoesThrough (after g (e ∷ [])) table c ok l) (sym none) (record {
    each = last;
    done = λ good. absurd (false≢true (sym bad ∙ good));
    failed = λ _. inl next;
  }))
    where
      last : (front back : List Event) → [] ≡ front ++ back → IsUnderWay (after g (e ∷ [])) table c front
      last [] back at = inl next
      last (f ∷ front) back at = absurd (no_more f (front ++ back) (sym at))

  -- the sync before the slot is written
  sync_goes : (g : History) (ok : Bool) (es : List Event) → length g.base ≡ size → IsTableOf g table → ((n : ℕ) → Contains c.added n → block (current g.base g.journal) n ≡ zero_block)
      → Makes (Syncs ∷ slot_calls c.index c.area) ok es → GoesThrough g table c ok es
  sync_goes g ok [] same is zeros makes = absurd makes
  sync_goes g ok (e ∷ es) same is zeros (inr (comes, bad, none)) = goes_last g e ok es is
      (subst (λ (x : Event). IsTableOf (after g (x ∷ [])) table) (sym comes) (stays_once g table (Sync false) is (λ n written. absurd written))) bad none
  sync_goes g ok (e ∷ es) same is zeros (inl (comes, rest)) = goes_cons g e ok es is (subst (λ (x : Event). GoesThrough (after g (x ∷ [])) table c ok es) (sym comes)
      (slot_goes (after g (Sync true ∷ [])) ok es same (stays_once g table (Sync true) is (λ n written. absurd written)) (λ n content has may. may ∙ zeros n has) rest))

  -- one of the added blocks is still to be written, or is zero
  abbrev AreDone : History → List ℕ → Type 0
  AreDone g blocks = (n : ℕ) → Contains c.added n → Contains blocks n ⊎ (block (current g.base g.journal) n ≡ zero_block)

  -- the zeros, before all else
  zeros_go : (blocks : List ℕ) (g : History) (ok : Bool) (es : List Event) → length g.base ≡ size → IsTableOf g table → ((n : ℕ) → Contains blocks n → Contains c.added n) → AreDone g blocks
      → Makes (zero_calls blocks ++ (Syncs ∷ slot_calls c.index c.area)) ok es → GoesThrough g table c ok es
  zeros_go [] g ok es same is among zeros makes = sync_goes g ok es same is (λ n has. ⊎_elim (λ (more : Contains [] n). absurd (omega (arith, more.1))) (λ is_zero. is_zero) (zeros n has)) makes
  zeros_go (m ∷ blocks) g ok [] same is among zeros makes = absurd makes
  zeros_go (m ∷ blocks) g ok (e ∷ es) same is among zeros (inr (comes, bad, none)) = goes_last g e ok es is
      (subst (λ (x : Event). IsTableOf (after g (x ∷ [])) table) (sym comes.2) (stays_once g table (Write m zero_block comes.0 false) is (zero_spares m (inside m (among m (0, omega arith, refl))).0 comes.0 false))) bad none
  zeros_go (m ∷ blocks) g ok (e ∷ es) same is among zeros (inl (comes, rest)) = goes_cons g e ok es is (subst (λ (x : Event). GoesThrough (after g (x ∷ [])) table c ok es) (sym comes.2)
      (zeros_go blocks (after g (Write m zero_block comes.0 true ∷ [])) ok es same (stays_once g table (Write m zero_block comes.0 true) is (zero_spares m there.0 comes.0 true))
      (λ n has. among n (suc has.0, omega (arith, has.1), has.2)) next rest))
    where
      there : (129 ≤ m) × (m < size)
      there = inside m (among m (0, omega arith, refl))

      fewer : (n : ℕ) → (n ≡ m → ⊥) → Contains (m ∷ blocks) n → Contains blocks n
      fewer n ne (zero, lt, at) = absurd (ne (sym at))
      fewer n ne (suc k, lt, at) = (k, omega (arith, lt), at)

      next : AreDone (after g (Write m zero_block comes.0 true ∷ [])) blocks
      next n has = elim (cases_eq n m) [
        | inl at ↦ inr (subst (λ (t : Bool). block (current g.base (Write m zero_block t true ∷ g.journal)) n ≡ zero_block) (sym (comes.1 refl))
            (subst (λ (x : ℕ). block (current g.base (Write m zero_block true true ∷ g.journal)) x ≡ zero_block) (sym at) (current_same g.base g.journal m zero_block true (omega (arith, there.1, same)))))
        | inr ne ↦ ⊎_elim (λ more. inl (fewer n ne more)) (λ done. inr (current_other g.base g.journal m n zero_block comes.0 true ne ∙ done)) (zeros n has)
      ]

  -- a grant goes through
  pub grant_goes : (h : History) (ok : Bool) (es : List Event) → length h.base ≡ size → IsTableOf h table → Makes (zero_calls c.added ++ (Syncs ∷ slot_calls c.index c.area)) ok es → GoesThrough h table c ok es
  grant_goes h ok es same is makes = zeros_go c.added h ok es same is (λ n has. has) (λ n has. inl has) makes

  -- and so does a change that adds no block
  pub bare_goes : (h : History) (ok : Bool) (es : List Event) → length h.base ≡ size → IsTableOf h table → c.added ≡ [] → Makes (slot_calls c.index c.area) ok es → GoesThrough h table c ok es
  bare_goes h ok es same is none makes = slot_goes h ok es same is
      (λ n content has may. absurd (omega (arith, has.1, ap (λ (l : List ℕ). length l) none))) makes

-- the blocks of runs of the data part lie in it
data_has : (size : ℕ) (runs : List Span) → list_all (is_data size) runs ≡ true → (n : ℕ) → AnyHas runs n → (129 ≤ n) × (n < size)
data_has size [] kept n has = absurd has
data_has size (run ∷ runs) kept n (inl has) =
    let here = and_parts (nat_le 129 run.start) (nat_le (run.start + run.len) size) (and_parts (is_data size run) (list_all (is_data size) runs) kept).0 in
    (omega (arith, has.0, leb-true 129 run.start here.0), omega (arith, has.1, leb-true (run.start + run.len) size here.1))
data_has size (run ∷ runs) kept n (inr has) = data_has size runs (and_parts (is_data size run) (list_all (is_data size) runs) kept).1 n has

pub area_inside : (size : ℕ) (a : Area) → is_area size a ≡ true → (n : ℕ) → Contains (blocks_of a.runs) n → (129 ≤ n) × (n < size)
area_inside size a kept n has =
    let one = and_parts (is_name a.app) _ kept in
    let two = and_parts (is_name a.label) _ one.1 in
    let three = and_parts (are_spans a.runs) _ two.1 in
    data_has size a.runs (and_parts (list_all (is_data size) a.runs) _ three.1).0 n (has_contained a.runs n has)

one_more : (i : ℕ) → 1 ≤ i → i - 1 + 1 ≡ i
one_more i low = omega (arith, low)

pub created : (h : History) (table : Table) (i : ℕ) (a : Area) (ok : Bool) (es : List Event) → IsTableOf h table → CanCreate (length h.base) table i a → Makes (grant_calls i a (blocks_of a.runs)) ok es
    → GoesThrough h table (creates i a) ok es
created h table i a ok es is can makes = grant_goes table (creates i a) (length h.base) can.low can.high fits (area_inside (length h.base) a can.right) h ok es refl is makes
  where
    fits : (image : Image) → HasTable table image → length image ≡ length h.base → HasTable (with_slot table i (Some a)) (set image i (area_bytes a))
    fits image has same = subst (λ (k : ℕ). HasTable (set table (i - 1) (Some a)) (set image k (area_bytes a))) (one_more i can.low)
        (added_table table image (i - 1) has (omega (arith, can.low, can.high)) a can.free (subst (λ (k : ℕ). is_area k a ≡ true) (sym same) can.right) can.together can.few)

pub grown : (h : History) (table : Table) (i : ℕ) (a : Area) (more : List ℕ) (ok : Bool) (es : List Event) → IsTableOf h table → CanGrow (length h.base) table i a more
    → Makes (grant_calls i (grown_area a more) more) ok es → GoesThrough h table (grows i a more) ok es
grown h table i a more ok es is can makes = grant_goes table (grows i a more) (length h.base) can.low can.high fits added h ok es refl is makes
  where
    fits : (image : Image) → HasTable table image → length image ≡ length h.base → HasTable (with_slot table i (Some (grown_area a more))) (set image i (area_bytes (grown_area a more)))
    fits image has same = subst (λ (k : ℕ). HasTable (set table (i - 1) (Some (grown_area a more))) (set image k (area_bytes (grown_area a more)))) (one_more i can.low)
        (grown_table table image (i - 1) has (omega (arith, can.low, can.high)) a (grown_area a more) can.used refl (subst (λ (k : ℕ). is_area k (grown_area a more) ≡ true) (sym same) can.right) can.together)

    added : (n : ℕ) → Contains more n → (129 ≤ n) × (n < length h.base)
    added n has = area_inside (length h.base) (grown_area a more) can.right n
        (subst (λ (l : List ℕ). Contains l n) (sym (blocks_of-runs_of (blocks_of a.runs ++ more))) (Contains-append_right (blocks_of a.runs) more n has))

pub removed : (h : History) (table : Table) (i : ℕ) (ok : Bool) (es : List Event) → IsTableOf h table → 1 ≤ i → i ≤ 128 → Makes (remove_calls i) ok es → GoesThrough h table (removes i) ok es
removed h table i ok es is low high makes = bare_goes table (removes i) (length h.base) low high fits (λ n has. absurd (omega (arith, has.1))) h ok es refl is refl makes
  where
    fits : (image : Image) → HasTable table image → length image ≡ length h.base → HasTable (with_slot table i None) (set image i zero_block)
    fits image has same = subst (λ (k : ℕ). HasTable (set table (i - 1) None) (set image k zero_block)) (one_more i low)
        (removed_table table image (i - 1) has (omega (arith, low, high)))
