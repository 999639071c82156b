-- What stays of how the blocks of a device are shared, as slots come and go.
use Rattle.std.proofs.Common.{◌≡◌, ⊎_elim, ℕ, ◌+◌, ◌-◌, ◌<◌, ◌≤◌, Bool, true, false, cond, ◌==◌, List, [], ◌∷◌, ◌++◌, length, take, drop, get_or, refl, sym, ◌∙◌, ap, subst, arith, All, Contains}
use Rattle.std.specs.Prelude.{Option, Some, None}
use Rattle.std.specs.List.Sorted.{IsStrictlyIncreasing}
use Rattle.std.proofs.lemmas.Bool.{false≢true}
use Rattle.std.proofs.lemmas.Bool.Decides.{nat_tests}
use Rattle.std.proofs.lemmas.List.{length-take-le}
use Rattle.std.proofs.lemmas.List.Elements.{Contains-get_or, Contains-push_cases}
use Rattle.ark_base.specs.declared.kind.Kind.{Kind}
use Rattle.ark_extents.specs.Blocks.{blocks_of, runs_of, ShareNoBlock}
use Rattle.ark_extents.specs.Free.{free_at_first, Gains}
use Rattle.ark_extents.proofs.RunLemmas.{blocks_of-runs_of}
use Rattle.ark_table.specs.Area.{Area}
use Rattle.ark_table.specs.Slots.{Slot, area_of}
use Rattle.ark_table.specs.Standing.{Table, slot_in, with_slot, grown_area}
use Rattle.ark_table.specs.Using.{IsLeastFree}
use Rattle.ark_machine.specs.Plane.{Plane, free_slot, lowest, max_slots, max_runs}
use Rattle.ark_machine.specs.Granting.{new_slot, with_more, without_slot}
use Rattle.ark_machine.specs.Grants.{GrantsApart, has_index}
use Rattle.ark_machine.proofs.Grants.{new_fits, makes_apart, grows_apart, free_index}
use Rattle.ark_held.proofs.Members.{contains_in, in_contains}
use Rattle.ark_plane.specs.Shared.{slots_on, HasBlocks, IsShared}
use Rattle.ark_plane.specs.Tables.{table_of, with_longer}
use Rattle.ark_plane.proofs.Freeing.{free_after, free_without}
use Rattle.ark_plane.proofs.Tests.{by_test}
use Rattle.ark_plane.proofs.Lengthened.{longer, one_index, of_map, granted_longer, table_longer}
use Rattle.ark_plane.proofs.Tabling.{fit_in, free_index_at, slots_room, used_index_at, least_slot, table_more, slot_there}
use Rattle.ark_plane.proofs.Removed.{rest_agrees, rest_table, stayed}
use Rattle.ark_plane.proofs.Complement.{few_free}
use Rattle.ark_plane.proofs.Given.{not_free, given_free}
use Rattle.ark_plane.proofs.Freeing.{free_none}

-- a slot that has blocks is in use
pub in_use : (o : Option Area) (spans : List ℕ) → HasBlocks o spans → (a : Area) × (o ≡ Some a) × (a.runs ≡ runs_of spans)
in_use None spans has = absurd has
in_use (Some a) spans has = (a, refl, has)

-- the lowest blocks are as many as were asked for, where so many are free

pub lowest_many : (n : ℕ) (free blocks : List ℕ) → n ≤ length free → blocks ≡ take n free → length blocks ≡ n
lowest_many n free blocks enough is = ap (λ (bs : List ℕ). length bs) is ∙ length-take-le n free enough

pub lowest_again : (n : ℕ) (free blocks : List ℕ) → n ≤ length free → blocks ≡ take n free → blocks ≡ take (length blocks) free
lowest_again n free blocks enough is = is ∙ ap (λ k. take k free) (sym (lowest_many n free blocks enough is))

-- nothing is granted
pub fresh_shared : (size : ℕ) (table : Table) (free : List ℕ) (failed : Bool) → table ≡ table_of [] → free ≡ free_at_first size → IsShared size table free failed
fresh_shared size table free failed none all = record {
  slots = [];
  table = none;
  apart = record { fit = tt; apart = tt };
  few = λ t among. absurd (contains_in [] t among);
  free = λ no. free_none (free_at_first size) ∙ sym all;
}

module _ (size : ℕ) (table : Table) (free : List ℕ) (failed : Bool) (sh : IsShared size table free failed) where
  -- what no longer counts as free once the table failed
  pub failed_shared : (rest : List ℕ) → IsShared size table rest true
  failed_shared rest = record { slots = sh.slots; table = sh.table; apart = sh.apart; few = sh.few; free = λ no. absurd (false≢true (sym no)) }

  -- A new slot takes the lowest free blocks.
  module _ (n i : ℕ) (a l : List ℕ) (z : Kind) (least : IsLeastFree table i) (settled : failed ≡ false) (compact : length (runs_of (take n free)) ≤ max_runs) where
    abbrev p : Plane
    p = slots_on size sh.slots

    abbrev slot : Slot
    slot = new_slot p a l z n

    entry : slot_in (table_of sh.slots) i ≡ None
    entry = ap (λ (t : Table). slot_in t i) (sym sh.table) ∙ least.free

    unused : has_index sh.slots i ≡ false
    unused = free_index_at size sh.slots i sh.apart entry

    few : length sh.slots < max_slots
    few = let low = least.low in let high = least.high in slots_room size sh.slots (i - 1) sh.apart (omega (arith, low, high)) entry

    its_slot : free_slot p ≡ i
    its_slot = let high = least.high in least_slot sh.slots max_slots 1 i least.low (omega (arith, high)) unused (λ j low below. by j low below (slot_in table j) refl)
      where
        by : (j : ℕ) → 1 ≤ j → j < i → (o : Option Area) → slot_in table j ≡ o → has_index sh.slots j ≡ true
        by j low below None is = absurd (least.least j low below is)
        by j low below (Some x) is = used_index_at size sh.slots j x sh.apart.fit low (ap (λ (t : Table). slot_in t j) (sym sh.table) ∙ is)

    blocks : slot.blocks ≡ take n free
    blocks = ap (λ (f : List ℕ). take n f) (sh.free settled)

    more_few : (t : Slot) → Contains (sh.slots ++ slot ∷ []) t → length (runs_of t.blocks) ≤ max_runs
    more_few t among = ⊎_elim (λ old. sh.few t old)
        (λ new. subst (λ (u : Slot). length (runs_of u.blocks) ≤ max_runs) new (subst (λ (bs : List ℕ). length (runs_of bs) ≤ max_runs) (sym blocks) compact))
        (Contains-push_cases sh.slots slot t among)

    pub granted_shared : (spans rest : List ℕ) (now : Table) → spans ≡ take n free → rest ≡ drop n free → now ≡ with_slot table i (Some (record { app = a; label = l; kind = z; runs = runs_of spans })) → IsShared size now rest failed
    granted_shared spans rest now taken left is = record {
      slots = sh.slots ++ slot ∷ [];
      table =
          is
          ∙ ap (λ (t : Table). with_slot t i (Some (record { app = a; label = l; kind = z; runs = runs_of spans }))) sh.table
          ∙ ap (λ (bs : List ℕ). with_slot (table_of sh.slots) i (Some (record { app = a; label = l; kind = z; runs = runs_of bs }))) (taken ∙ sym blocks)
          ∙ ap (λ k. with_slot (table_of sh.slots) k (Some (area_of slot))) (sym its_slot)
          ∙ sym (table_more size sh.slots slot sh.apart.fit (new_fits p a l z n few) (free_index p max_slots refl few));
      apart = makes_apart p a l z n sh.apart few;
      few = more_few;
      free = λ no. free_after p slot n refl ∙ ap (λ (f : List ℕ). drop n f) (sh.free settled) ∙ sym left;
    }

  -- a slot in use is one of the table
  pub used_high : (i : ℕ) (area : Area) → 1 ≤ i → slot_in table i ≡ Some area → i ≤ 128
  used_high i area low used =
      let f = slot_there size sh.slots (i - 1) area sh.apart.fit (ap (λ (t : Table). slot_in t i) (sym sh.table) ∙ used) in
      let high : f.0.index ≤ 128 = (fit_in size sh.slots f.0 sh.apart.fit f.1).index_high in
      omega (arith, high, f.2, low)

  -- A slot gets the lowest free blocks behind its own.
  module _ (n i : ℕ) (area : Area) (low : 1 ≤ i) (used : slot_in table i ≡ Some area) (settled : failed ≡ false) (more : List ℕ) (taken : more ≡ take n free) (compact : length (runs_of (blocks_of area.runs ++ more)) ≤ max_runs) where
    growing : (t : Slot) × Contains sh.slots t × (t.index ≡ i) × (area_of t ≡ area)
    growing =
        let f = slot_there size sh.slots (i - 1) area sh.apart.fit (ap (λ (t : Table). slot_in t i) (sym sh.table) ∙ used) in
        (f.0, in_contains sh.slots f.0 f.1, omega (arith, f.2, low), f.3)

    abbrev grown : Slot
    grown = growing.0

    lowest_more : lowest (slots_on size sh.slots) n ≡ more
    lowest_more = ap (λ (f : List ℕ). take n f) (sh.free settled) ∙ sym taken

    grown_compact : length (runs_of (grown.blocks ++ more)) ≤ max_runs
    grown_compact = subst (λ (bs : List ℕ). length (runs_of (bs ++ more)) ≤ max_runs) (ap (λ (x : Area). blocks_of x.runs) (sym growing.3) ∙ blocks_of-runs_of grown.blocks) compact

    grown_few : (u : Slot) → Contains (with_longer grown more sh.slots) u → length (runs_of u.blocks) ≤ max_runs
    grown_few u among =
        let from = of_map (longer grown more) sh.slots u (contains_in (with_longer grown more sh.slots) u among) in
        subst (λ (x : Slot). length (runs_of x.blocks) ≤ max_runs) from.2
        (by_test (from.0.index == grown.index) (λ b. (from.0.index == grown.index) ≡ b → length (runs_of (cond b (with_more from.0 more) from.0).blocks) ≤ max_runs)
        (λ yes q.
        let index : grown.index ≡ from.0.index = grind (arith, nat_tests, q) in
        subst (λ (x : Slot). length (runs_of (x.blocks ++ more)) ≤ max_runs) (one_index sh.slots grown from.0 sh.apart.apart (contains_in sh.slots grown growing.1) from.1 index) grown_compact)
        (λ no q. sh.few from.0 (in_contains sh.slots from.0 from.1)) refl)

    pub grown_shared : (rest : List ℕ) (now : Table) → rest ≡ drop n free → now ≡ with_slot table i (Some (grown_area area more)) → IsShared size now rest failed
    grown_shared rest now left is =
        let its = contains_in sh.slots grown growing.1 in
        record {
          slots = with_longer grown more sh.slots;
          table =
              is
              ∙ ap (λ (t : Table). with_slot t i (Some (grown_area area more))) sh.table
              ∙ (λ k. with_slot (table_of sh.slots) (sym growing.2 k) (Some (grown_area (sym growing.3 k) more)))
              ∙ sym (table_longer grown more size sh.slots sh.apart.fit sh.apart.apart its);
          apart = subst (λ (bs : List ℕ). GrantsApart (slots_on size (with_longer grown bs sh.slots))) lowest_more (grows_apart (slots_on size sh.slots) n grown sh.apart);
          few = grown_few;
          free = λ no.
              free_without (slots_on size sh.slots) (with_longer grown more sh.slots) more n (λ k. granted_longer grown more k sh.slots sh.apart.apart its) (taken ∙ ap (λ (f : List ℕ). take n f) (sym (sh.free settled)))
              ∙ ap (λ (f : List ℕ). drop n f) (sh.free settled) ∙ sym left;
        }

  -- A slot goes.
  module _ (i : ℕ) (area : Area) (spans : List ℕ) (low : 1 ≤ i) (used : slot_in table i ≡ Some area) (runs : area.runs ≡ runs_of spans) where
    there : (t : Slot) × Contains sh.slots t × (t.index ≡ i) × (t.blocks ≡ spans)
    there =
        let f = slot_there size sh.slots (i - 1) area sh.apart.fit (ap (λ (t : Table). slot_in t i) (sym sh.table) ∙ used) in (
          f.0,
          in_contains sh.slots f.0 f.1,
          omega (arith, f.2, low),
          sym (blocks_of-runs_of f.0.blocks) ∙ ap (λ (x : Area). blocks_of x.runs) f.3 ∙ ap blocks_of runs ∙ blocks_of-runs_of spans,
        )

    pub spans_inside : All (λ n. n < size) spans
    spans_inside k d lt =
        let among : Contains there.0.blocks (get_or spans k d) = subst (λ (bs : List ℕ). Contains bs (get_or spans k d)) (sym there.3) (Contains-get_or spans k d lt) in
        ((fit_in size sh.slots there.0 sh.apart.fit (contains_in sh.slots there.0 there.1)).data_part (get_or spans k d) among).1

    rest_is : with_slot table i None ≡ table_of (without_slot there.0 sh.slots)
    rest_is =
        ap (λ (t : Table). with_slot t i None) sh.table
        ∙ ap (λ k. with_slot (table_of sh.slots) k None) (sym there.2)
        ∙ rest_table size sh.slots sh.apart there.0 there.1

    rest_few : (t : Slot) → Contains (without_slot there.0 sh.slots) t → length (runs_of t.blocks) ≤ max_runs
    rest_few t among = sh.few t (stayed size sh.slots sh.apart there.0 there.1 t among).0

    pub lost_shared : (now : Table) (rest : List ℕ) → now ≡ with_slot table i None → IsShared size now rest true
    lost_shared now rest is = record {
      slots = without_slot there.0 sh.slots;
      table = is ∙ rest_is;
      apart = rest_agrees size sh.slots sh.apart there.0 there.1;
      few = rest_few;
      free = λ no. absurd (false≢true (sym no));
    }

    module _ (settled : failed ≡ false) where
      pub give_room : length (runs_of free) + 16 ≤ 4096
      give_room = subst (λ (bs : List ℕ). length (runs_of bs) + 16 ≤ 4096) (sh.free settled) (few_free size sh.slots sh.apart sh.few)

      pub give_taken : ShareNoBlock spans free
      give_taken n its free_one =
          not_free size sh.slots sh.apart there.0 there.1 n (subst (λ (bs : List ℕ). Contains bs n) (sym there.3) its) (subst (λ (bs : List ℕ). Contains bs n) (sym (sh.free settled)) free_one)

      pub given_shared : (now : Table) (rest : List ℕ) → now ≡ with_slot table i None → Gains free rest spans → IsStrictlyIncreasing rest → IsShared size now rest failed
      given_shared now rest is gains rises = record {
        slots = without_slot there.0 sh.slots;
        table = is ∙ rest_is;
        apart = rest_agrees size sh.slots sh.apart there.0 there.1;
        few = rest_few;
        free = λ no. given_free size sh.slots sh.apart there.0 there.1 free rest (sh.free settled) (subst (λ (bs : List ℕ). Gains free rest bs) (sym there.3) gains) rises;
      }
