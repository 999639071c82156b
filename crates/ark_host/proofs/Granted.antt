-- An area that is granted, or whose granting failed: what the host stands for after the device calls.
use Rattle.std.proofs.Common.{◌≡◌, inl, inr, ⊎_elim, ℕ, ◌+◌, ◌-◌, ◌^◌, ◌<◌, ◌≤◌, Bool, true, false, not, cond, ◌&&◌, ◌||◌, List, [], ◌∷◌, ◌++◌, length, map, take, drop, replicate, get_or, set, nat_eq, nat_le, nat_lt, refl, sym, ◌∙◌, ap, subst, arith, bytes_eq, append-nil, Contains, get_or-set_same}
use Rattle.std.specs.Prelude.{Option, Some, None, Ok, slice_get, find, is_some, count_by}
use Rattle.std.specs.Option.{option_or}
use Rattle.std.specs.Map.{lookup}
use Rattle.std.proofs.lemmas.Bool.{false≢true}
use Rattle.std.proofs.lemmas.Bool.Decides.{nat_tests}
use Rattle.std.proofs.lemmas.List.{length-append, length-map, length-replicate, length-take, get_or-map, get_or-replicate, map-append}
use Rattle.std.proofs.lemmas.List.Folds.{find-append}
use Rattle.std.proofs.lemmas.List.Elements.{Contains-get_or, Contains-push_cases}
use Rattle.std.proofs.lemmas.Slice.Eq.{bytes_eq-Decides}
use Rattle.ark_base.specs.Name.{is_name}
use Rattle.ark_base.specs.declared.kind.Kind.{Kind}
use Rattle.ark_base.specs.declared.kind.Kind.TheVariants as kind
use Rattle.ark_base.specs.declared.refusal.Refusal.TheVariants as r
use Rattle.ark_media.specs.Journal.{Event, History, block, current, zero_block}
use Rattle.ark_media.specs.Calls.{Makes as Made}
use Rattle.ark_media.specs.Stops.{Whole}
use Rattle.ark_media.proofs.Stopping.{now_may}
use Rattle.ark_extents.specs.Blocks.{runs_of}
use Rattle.ark_extents.proofs.RunLemmas.{blocks_of-runs_of}
use Rattle.ark_caps.specs.Labels.{value_at}
use Rattle.ark_caps.specs.declared.capability.Capability.{Capability}
use Rattle.ark_table.specs.Area.{Area, is_free, least_blocks}
use Rattle.ark_table.specs.Slots.{Slot, area_of, IsRight}
use Rattle.ark_table.specs.Table.{Together, area_at, is_of, slots_in, IsSlotBlock}
use Rattle.ark_table.specs.Plans.{grant_calls}
use Rattle.ark_table.specs.Standing.{Table, with_slot, IsTableOf, IsUnderWay, GoesThrough, CanCreate, creates}
use Rattle.ark_table.proofs.Spelling.{keeps_rules, is_not_free}
use Rattle.ark_table.proofs.Moments.{created}
use Rattle.ark_script.specs.Arguments.{fewest_blocks}
use Rattle.ark_script.specs.Line as w
use Rattle.ark_script.specs.Line.{Line}
use Rattle.ark_script.specs.declared.said.Said.TheVariants as said
use Rattle.ark_machine.specs.Objects.{Object, Raw}
use Rattle.ark_machine.specs.Machine.{Machine, at, with_new, each_object, holding}
use Rattle.ark_machine.specs.Areas as areas
use Rattle.ark_machine.specs.Told.{own_slots}
use Rattle.ark_machine.specs.Row.{settled, synced, synced_by}
use Rattle.ark_machine.specs.Plane.{Plane, Change, makes, is_slot_of, slot_of, free_slot, is_granted, max_slots, max_runs}
use Rattle.ark_machine.specs.Granting.{new_slot}
use Rattle.ark_machine.specs.Grants.{SlotFits, SlotsFit, SlotsAgree}
use Rattle.ark_machine.specs.System.{System, machine_of}
use Rattle.ark_machine.specs.Follow.{Follow, ends_of}
use Rattle.ark_machine.specs.Recovers.{begun}
use Rattle.ark_machine.proofs.Grants.{makes_apart, new_fits, free_index, lowest_free}
use Rattle.ark_media.specs.Standing.{after, MayStand}
use Rattle.ark_held.specs.Areas.{IsRaw, AreFullIf}
use Rattle.ark_held.specs.Around.{Around}
use Rattle.ark_held.specs.Beside.{AreBeside}
use Rattle.ark_held.specs.Held.{Holds, is_area_cap}
use Rattle.ark_held.specs.Totals.{bit}
use Rattle.ark_held.specs.Keeps.{SameAt}
use Rattle.ark_held.specs.Words.{Labels, AreaList, room_under, limit_if, new_area_cap, with_area, area_in}
use Rattle.ark_held.proofs.Lists.{lookup_last, number_cases, lt_true}
use Rattle.ark_held.proofs.Besides.{same_beside}
use Rattle.ark_held.proofs.Passing as passing
use Rattle.ark_held.proofs.Settling.{has_synced, synced_alone, settles}
use Rattle.ark_held.proofs.Adding.{added_last}
use Rattle.ark_held.proofs.Granted.{IsNewArea, granted, slot_other}
use Rattle.ark_held.proofs.Doing.{same_tables}
use Rattle.ark_held.specs.declared.app.App.{App}
use Rattle.ark_host.specs.declared.host.Host.{Host}
use Rattle.ark_plane.specs.Tables.{table_of, slot_count}
use Rattle.ark_host.specs.Tabled.{TableStands, StandsBeside}
use Rattle.ark_host.specs.Stored.{stored_slots}
use Rattle.ark_host.specs.Stands.{Stands, RowDone, IsHeld, IsAdmitted, AreNamed, around, app_of, area_count, vsa_row}
use Rattle.ark_plane.proofs.Tests.{bytes_eq-same, by_test}
use Rattle.ark_held.proofs.Members.{in_contains}
use Rattle.ark_plane.proofs.Lists.{first_found}
use Rattle.ark_plane.proofs.Sharing.{has}
use Rattle.ark_plane.proofs.Freeing.{free_after}
use Rattle.ark_host.proofs.Storing.{own_set}
use Rattle.ark_plane.proofs.Tabling.{free_at, slot_there, table_more, table_size, owned_counted, count_more}
use Rattle.ark_host.proofs.Standing.{slot_names, slot_based, slot_data}
use Rattle.ark_host.proofs.Setting.{with_set, set_apps, set_now, set_here}
use Rattle.ark_host.proofs.Apps.{held_there}
use Rattle.ark_host.proofs.Granting.{full, refuses, few_slots, its_slot, done_row, fault_row, vsa_begins}
use Rattle.ark_host.proofs.Fronts.{its_own}
use Rattle.ark_host.proofs.Contents.{zeros_listed}
use Rattle.ark_host.proofs.Placing.{names_set, set_at}
use Rattle.ark_host.proofs.Planned.{ended_sync, made_fault, made_sync, grant_beside, grant_syncs, grant_follows}

unlabelled_by : (labels : Labels) (areas : AreaList) (o : Option Capability) → room_under labels areas o ≡ None → o ≡ None
unlabelled_by labels areas None h = refl
unlabelled_by labels areas (Some c) h = absurd (false≢true (sym (ap is_some h)))

few_areas : (labels : Labels) (areas : AreaList) (o : Option Capability) → room_under labels areas o ≡ None → length areas < 8
few_areas labels areas (Some c) h = absurd (false≢true (sym (ap is_some h)))
few_areas labels areas None h = by_test (nat_le 8 (length areas)) (λ b. nat_le 8 (length areas) ≡ b → length areas < 8)
    (λ yes q. absurd (false≢true (sym (sym (ap is_some (both (nat_le 64 (length labels)) (nat_le 8 (length areas)) q)) ∙ ap is_some h)))) (λ no q. grind (arith, nat_tests)) refl
  where
    both : (b c : Bool) → c ≡ true → limit_if (b || c) ≡ Some r.Limit
    both true c is = refl
    both false c is = ap limit_if is

settled_new : (m : Machine) (l : List ℕ) (x : Object) → each_object settled (with_new m l x) ≡ with_new (each_object settled m) l (settled x)
settled_new m l x = λ i. record m { serial = m.serial + 1; held = map-append (λ g. holding (settled g.object) g) m.held ((record { label = l; serial = m.serial; object = x }) ∷ []) i }

-- a kind's fewest blocks are those that a slot of it asks for
fewest_is : (k : Kind) → least_blocks k ≡ fewest_blocks k
fewest_is kind.Raw = refl
fewest_is kind.Log = refl
fewest_is kind.Queue = refl

some_fewest : (k : Kind) → 1 ≤ fewest_blocks k
some_fewest kind.Raw = omega arith
some_fewest kind.Log = omega arith
some_fewest kind.Queue = omega arith

pub synced_made : (b : Bool) (m : Machine) → (synced b m).made ≡ m.made
synced_made true m = refl
synced_made false m = refl

pub synced_now : (b : Bool) (m : Machine) → (synced b m).now ≡ m.now
synced_now true m = refl
synced_now false m = refl

module _ (host : Host) (size : ℕ) (past : History) (s : System) (a l : List ℕ) (n : ℕ) (k : Kind) (i place : ℕ) (app : App) (st : Stands host size past s) (small : size < 2 ^ 32) (some : fewest_blocks k ≤ n) (app_name : is_name a ≡ true) (label_name : is_name l ≡ true)
    (ok : IsAdmitted host a l n place i) (there : get_or host.apps.items place app ≡ app) (compact : length (runs_of (take n host.plane.free)) ≤ max_runs) (spans : List ℕ) (taken : spans ≡ take n host.plane.free) where
  abbrev line : Line
  line = w.vsa a l n k

  h : IsHeld host.grants past s a app
  h = held_there s host size past a st place app ok.place there

  open_one : (at (machine_of s a) l ≡ None) × (full s a ≡ false)
  open_one = refuses host.grants past s a l app h None (sym (ok.room app there))

  few : length s.plane.slots < max_slots
  few = few_slots host size past s a l n k st h.holds.made open_one.0 open_one.1 i ok.slot

  abbrev pub slot : Slot
  slot = new_slot s.plane a l k n

  slot_index : slot.index ≡ i
  slot_index = its_slot host size past s a l n k st h.holds.made open_one.0 open_one.1 i ok.slot

  slot_blocks : slot.blocks ≡ spans
  slot_blocks = ap (λ (f : List ℕ). take n f) (st.plane.free ok.settled) ∙ sym taken

  count : length slot.blocks ≡ n
  count = ap (λ (f : List ℕ). length (take n f)) (st.plane.free ok.settled) ∙ length-take n host.plane.free ∙ (let space = ok.space in grind (arith, nat_tests))

  pub has_some : 1 ≤ length slot.blocks
  has_some = omega (arith, some, count, some_fewest k)

  fits : SlotFits size slot
  fits = subst (λ (m : ℕ). SlotFits m slot) st.plane.size (new_fits s.plane a l k n few)

  not_granted : (m : ℕ) → Contains slot.blocks m → is_granted s.plane.slots m ≡ false
  not_granted m new = lowest_free s.plane n m (has slot.blocks m new)

  pub agree : SlotsAgree size (slot ∷ s.plane.slots)
  agree = record {
    fit = (fits, subst (λ (m : ℕ). SlotsFit m s.plane.slots) st.plane.size st.plane.apart.fit);
    apart = ((free_index s.plane max_slots refl few, λ m e. lowest_free s.plane n m e), st.plane.apart.apart);
  }

  -- the change that the line begins
  pub begins : begun s (Some (Ok line)) ≡ Some (makes slot)
  begins = vsa_begins host size past s a l n k st h.holds.made open_one.0 open_one.1 i ok.slot ok.settled ok.space compact

  unlabelled : value_at app.labels l ≡ None
  unlabelled = unlabelled_by app.labels app.areas (value_at app.labels l) (ok.room app there)

  no_slot : slot_of s.plane a l ≡ None
  no_slot = h.holds.unlisted l (ap is_area_cap unlabelled)

  apart_held : (u : Slot) → Contains s.plane.slots u → (m : ℕ) → Contains slot.blocks m → Contains u.blocks m → ⊥
  apart_held u held m new old = false≢true (sym (not_granted m new) ∙ its_own s u m held old)

  -- The slot may be made.

  right : IsRight (length past.base) slot
  right = record {
    app = app_name;
    label = label_name;
    some = omega (arith, fewest_is k, some, count);
    data_part = λ m new. let d = fits.data_part m new in (d.0, omega (arith, d.1, st.based));
    distinct = fits.distinct;
    few_runs = subst (λ (bs : List ℕ). length (runs_of bs) ≤ 16) (sym (slot_blocks ∙ taken)) compact;
  }

  together : (j : ℕ) (b : Area) → area_at (table_of s.plane.slots) j ≡ Some b → Together (area_of slot) b
  together j b is =
      let found = slot_there s.plane.size s.plane.slots j b st.plane.apart.fit is in
      let held = in_contains s.plane.slots found.0 found.1 in
      subst (λ (x : Area). Together (area_of slot) x) found.3 (record {
        apart = λ m new old. apart_held found.0 held m (subst (λ (bs : List ℕ). Contains bs m) (blocks_of-runs_of slot.blocks) new) (subst (λ (bs : List ℕ). Contains bs m) (blocks_of-runs_of found.0.blocks) old);
        differ = λ apps labels. false≢true (ap is_some (sym no_slot ∙ ap (λ (x : List ℕ). slot_of s.plane x l) apps ∙ ap (λ (x : List ℕ). slot_of s.plane found.0.app x) labels ∙ st.plane.named found.0 held));
      })

  few_owned : count_by (is_of a) (table_of s.plane.slots) + 1 ≤ 8
  few_owned =
      let areas = few_areas app.labels app.areas (value_at app.labels l) (ok.room app there) in
      let counted = owned_counted s.plane.size a s.plane.slots st.plane.apart.fit st.plane.apart.apart in
      let its : app_of host.apps.items a ≡ Some app = (first_found (λ x. bytes_eq a x.name) host.apps.items place app ok.place).1 ∙ ap (λ x. Some x) there in
      let most : slot_count a s.plane.slots ≤ length app.areas = subst (λ (o : Option App). slot_count a s.plane.slots ≤ area_count o) its (st.plane.counted a) in
      omega (arith, areas, counted, most)

  free_entry : area_at (table_of s.plane.slots) (slot.index - 1) ≡ None
  free_entry = free_at s.plane.size s.plane.slots slot.index st.plane.apart.fit fits.index_low (free_index s.plane max_slots refl few)

  can : CanCreate (length past.base) (table_of s.plane.slots) slot.index (area_of slot)
  can = record {
    low = fits.index_low;
    high = fits.index_high;
    free = free_entry;
    right = keeps_rules (length past.base) slot (omega (arith, small, st.based)) right;
    together = together;
    few = few_owned;
  }

  table : IsTableOf past (table_of s.plane.slots)
  table = subst (λ (u : Option Change). TableStands past s.plane.slots u) (st.plane.settled ok.settled) st.table

  -- What came of the calls.

  module _ (well : Bool) (es : List Event) (made : Made (grant_calls i (record { app = a; label = l; kind = k; runs = runs_of spans }) spans) well es) where
    calls : Made (grant_calls slot.index (area_of slot) slot.blocks) well es
    calls = subst (λ (bs : List ℕ). Made (grant_calls slot.index (record { app = a; label = l; kind = k; runs = runs_of bs }) bs) well es) (sym slot_blocks)
        (subst (λ (j : ℕ). Made (grant_calls j (record { app = a; label = l; kind = k; runs = runs_of spans }) spans) well es) (sym slot_index) made)

    pub goes : GoesThrough past (table_of s.plane.slots) (creates slot.index (area_of slot)) well es
    goes = created past (table_of s.plane.slots) slot.index (area_of slot) well es table can (subst (λ (bs : List ℕ). Made (grant_calls slot.index (area_of slot) bs) well es) (sym (blocks_of-runs_of slot.blocks)) calls)

    follows : Follow s a line (areas.grant_calls n) es
    follows = subst (λ (j : ℕ). Follow s a line (areas.grant_calls j) es) count
        (grant_follows s a line slot.index (area_of slot) (ap (λ b. slice_get (cond b (free_slot s.plane ∷ []) []) 0) (few_test few)) refl 0 slot.blocks well es
        (λ j m is. ap (λ z. slice_get slot.blocks z) (let same : 0 + j ≡ j = omega arith in same) ∙ is) calls)
      where
        few_test : length s.plane.slots < max_slots → nat_lt (length s.plane.slots) max_slots ≡ true
        few_test lt = lt_true (length s.plane.slots) max_slots lt

    -- no block of a slot that is held was written
    pub beside : (t : Slot) → Contains s.plane.slots t → AreBeside t.blocks es
    beside t held = grant_beside t.blocks slot.index (area_of slot) slot.blocks well es
        (λ low. let d = (slot_data host size past s st t slot.index held low).0 in let high = fits.index_high in absurd (omega (arith, d, high)))
        (λ m new old. apart_held t held m new old) calls

    sync : ended_sync (ends_of es) ≡ has_synced es
    sync = made_sync (grant_calls i (record { app = a; label = l; kind = k; runs = runs_of spans }) spans) well es made

    -- what the application holds, with its machine after these calls
    abbrev then : Around
    then = record (around s past a h.numbers app (machine_of s a)) { history = after past es }

    passed : Holds then
    passed = passing.beside (around s past a h.numbers app (machine_of s a)) es (record {
      beside = λ k t is. beside t (slot_names s.plane.slots a k t is).0;
      inside = λ k t m is among. slot_based host size past s st t m (slot_names s.plane.slots a k t is).0 among;
    }) h.holds

    heeded : (b : Bool) → has_synced es ≡ b → Holds (record then { machine = synced b (machine_of s a) })
    heeded false is = passed
    heeded true is = settles then passed (λ k t at j lt c left.
        let held = (slot_names s.plane.slots a k t at).0 in
        let among = Contains-get_or t.blocks j 0 lt in
        synced_alone past.base t.blocks es past.journal (get_or t.blocks j 0) (slot_based host size past s st t (get_or t.blocks j 0) held among) among (beside t held) is c left)

    same_others : (b k : List ℕ) (t : Slot) → slot_of s.plane b k ≡ Some t → SameAt past (after past es) t.blocks
    same_others b k t is =
        let held = (slot_names s.plane.slots b k t is).0 in
        same_beside past es t.blocks (λ m among. slot_based host size past s st t m held among) (beside t held)

    -- A call failed: the table has failed from now on, and a stop decides whether the slot is there.

    module _ (now : Host) (items : now.apps.items ≡ host.apps.items) (kept : now.plane.table ≡ host.plane.table) (failed : now.plane.failed ≡ true) (grants : now.grants ≡ host.grants) (clock : now.clock ≡ host.clock) (addresses : now.plane.own ≡ host.plane.own) (bad : well ≡ false) where
      abbrev lost : Plane
      lost = record s.plane { failed = true; unsettled = Some (makes slot) }

      abbrev left : Machine
      left = synced_by (ends_of es) (machine_of s a)

      left_is : left ≡ synced (has_synced es) (machine_of s a)
      left_is = ap (λ b. synced b (machine_of s a)) sync

      left_made : left.made ≡ true
      left_made = synced_made (ended_sync (ends_of es)) (machine_of s a) ∙ h.holds.made

      left_held : IsHeld now.grants (after past es) (with_set s lost a left) a app
      left_held = record {
        numbers = h.numbers;
        holds = subst (λ (m : Machine). Holds (around (with_set s lost a left) (after past es) a h.numbers app m)) (sym (set_here s lost a left left_made))
            (subst (λ (m : Machine). Holds (record then { machine = m })) (sym left_is) (heeded (has_synced es) refl));
        below = λ k g is. let lt = h.below k g is in omega (arith, lt, grants);
        unused = λ g le. h.unused g (omega (arith, le, grants));
      }

      same_app : (b : List ℕ) → app_of now.apps.items b ≡ app_of host.apps.items b
      same_app b = ap (λ (xs : List App). app_of xs b) items

      pub vsa_lost : RowDone now size (after past es) s a line (vsa_row s a l n k es (said.Refused r.DeviceFault)) es (said.Refused r.DeviceFault) []
      vsa_lost = rw (fault_row host size past s a l n k st h.holds.made open_one.0 open_one.1 i ok.slot ok.settled ok.space compact es (said.Refused r.DeviceFault) (made_fault _ well es made ∙ ap not bad)) (record {
        said = refl;
        bytes = refl;
        calls = follows;
        none = λ want. absurd (false≢true want);
        stands = record {
          plane = record {
            size = st.plane.size;
            own = st.plane.own ∙ sym addresses;
            filters = st.plane.filters;
            apps = st.plane.apps ∙ ap (λ (xs : List App). map (λ x. x.name) xs) (sym items);
            table = kept ∙ st.plane.table;
            failed = sym failed;
            free = λ no. absurd (false≢true (sym no ∙ failed));
            settled = λ no. absurd (false≢true (sym no ∙ failed));
            beside = (agree, has_some);
            apart = st.plane.apart;
            named = st.plane.named;
            counted = λ b. subst (λ (o : Option App). slot_count b s.plane.slots ≤ area_count o) (sym (same_app b)) (st.plane.counted b);
          };
          based = st.based;
          table = goes.failed bad;
          now = st.now ∙ sym clock;
          machines = set_apps s lost a left left_made host.grants now.grants past (after past es) host.apps.items now.apps.items app (omega (arith, grants)) refl left_held
              (λ b q. same_app b ∙ ap (λ (c : List ℕ). app_of host.apps.items c) ((bytes_eq-Decides b a).0 q) ∙ (first_found (λ x. bytes_eq a x.name) host.apps.items place app ok.place).1 ∙ ap (λ x. Some x) there)
              (λ b q. same_app b) (λ b k q. refl) (λ b k t q is. same_others b k t is) st.plane.apart st.plane.named (λ b q. refl) st.machines;
          same_now = set_now s lost a left left_made (synced_now (ended_sync (ends_of es)) (machine_of s a) ∙ st.same_now a) st.same_now;
        };
      })

    -- Each call succeeded: the slot is there, with its zeros.

    module _ (good : well ≡ true) where
      stands_now : IsTableOf (after past es) (with_slot (table_of s.plane.slots) slot.index (Some (area_of slot)))
      stands_now = goes.done good

      -- the table as it was has no slot there
      not_before : IsTableOf (after past es) (table_of s.plane.slots) → ⊥
      not_before was =
          let low = fits.index_low in
          let high = fits.index_high in
          let image = current past.base (after past es).journal in
          let old : is_free (block image (slot.index - 1 + 1)) ≡ true = subst (λ (o : Option Area). IsSlotBlock (length image) (block image (slot.index - 1 + 1)) o) free_entry (was.has.says (slot.index - 1) (omega (arith, low, high))) in
          let new = subst (λ (o : Option Area). IsSlotBlock (length image) (block image (slot.index - 1 + 1)) o)
          (get_or-set_same (table_of s.plane.slots) (slot.index - 1) (Some (area_of slot)) None (omega (arith, low, high, table_size s.plane.slots))) (stands_now.has.says (slot.index - 1) (omega (arith, low, high))) in
          false≢true (sym (ap is_free new.1 ∙ is_not_free slot) ∙ old)

      zero_left : (k : ℕ) (c : List ℕ) → Contains slot.blocks k → MayStand (after past es) k c → c ≡ zero_block
      zero_left k c among left = by (goes.each es [] (sym (append-nil es)))
        where
          by : IsUnderWay past (table_of s.plane.slots) (creates slot.index (area_of slot)) es → c ≡ zero_block
          by (inl was) = absurd (not_before was)
          by (inr under) = under.1.zeros k c (subst (λ (bs : List ℕ). Contains bs k) (sym (blocks_of-runs_of slot.blocks)) among) left

      zero_now : (k : ℕ) → Contains slot.blocks k → block (current past.base (after past es).journal) k ≡ zero_block
      zero_now k among = zero_left k _ among (now_may Whole (λ c. refl) past.base (after past es).journal k (let d = (fits.data_part k among).1 in omega (arith, d, st.based)))

      abbrev zeros : Raw
      zeros = record { content = replicate n zero_block; maybe = map (λ b. b ∷ []) (replicate n zero_block) }

      zero_content : IsRaw (after past es) slot.blocks zeros
      zero_content = record {
        size = length-replicate n zero_block ∙ sym count;
        content = λ k lt. get_or-replicate n k zero_block [] (omega (arith, lt, count)) ∙ sym (zero_now (get_or slot.blocks k 0) (Contains-get_or slot.blocks k 0 lt));
        choices = length-map (replicate n zero_block) (λ b. b ∷ []) ∙ length-replicate n zero_block ∙ sym count;
        maybe = λ k lt c left.
            let is = zero_left (get_or slot.blocks k 0) c (Contains-get_or slot.blocks k 0 lt) left in
            let long = length-replicate n zero_block in
            subst (λ (cs : List (List ℕ)). Contains cs c) (sym (get_or-map (λ b. b ∷ []) (replicate n zero_block) k [] [] (omega (arith, lt, count, long))))
            (0, omega arith, get_or-replicate n k zero_block [] (omega (arith, lt, count)) ∙ sym is);
      }

      -- its zeros are whole blocks
      zeros_full : AreFullIf (after past es) slot.blocks
      zeros_full whole k lt c left = ap (λ (b : List ℕ). length b) (zero_left (get_or slot.blocks k 0) c (Contains-get_or slot.blocks k 0 lt) left)

      two_blocks : 2 ≤ fewest_blocks k → 2 ≤ length slot.blocks
      two_blocks asked = omega (arith, asked, some, count)

      -- the object under the new label
      new_one : (z : Kind) → slot.kind ≡ z → IsNewArea (after past es) slot (settled (areas.new_area z n))
      new_one kind.Raw its = (its, zero_content)
      new_one kind.Log its = (its, (λ e. cc (e)), sym count, two_blocks (subst (λ (y : Kind). 2 ≤ fewest_blocks y) (sym its) (omega arith)), refl, zeros_listed (after past es) slot.blocks kind.Log n has_some zero_now zero_left, zeros_full)
      new_one kind.Queue its = (its, (λ e. cc (e)), sym count, two_blocks (subst (λ (y : Kind). 2 ≤ fewest_blocks y) (sym its) (omega arith)), refl, zeros_listed (after past es) slot.blocks kind.Queue n has_some zero_now zero_left, zeros_full)

      module _ (now : Host) (app1 : App) (labels : app1.labels ≡ app.labels ++ (l, new_area_cap host.grants) ∷ []) (held : app1.areas ≡ with_area app.areas host.grants (record { kind = k; slot = i; spans = spans })) (region : app1.store.region ≡ app.store.region) (buffers : app1.store.buffers ≡ app.store.buffers) (devices : app1.devices ≡ app.devices) (name : app1.name ≡ app.name)
          (items : now.apps.items ≡ set host.apps.items place app1) (free : now.plane.free ≡ drop n host.plane.free) (tables : now.plane.table ≡ with_slot host.plane.table i (Some (record { app = a; label = l; kind = k; runs = runs_of spans }))) (failed : now.plane.failed ≡ host.plane.failed)
          (grants : now.grants ≡ host.grants + 1) (clock : now.clock ≡ host.clock) (addresses : now.plane.own ≡ host.plane.own) where
        abbrev plane : Plane
        plane = record s.plane { slots = s.plane.slots ++ slot ∷ [] }

        abbrev one : Machine
        one = synced_by (ends_of es) (with_new (machine_of s a) l (areas.new_area k n))

        synced_yes : has_synced es ≡ true
        synced_yes = grant_syncs slot.index (area_of slot) slot.blocks es (subst (λ (b : Bool). Made (grant_calls slot.index (area_of slot) slot.blocks) b es) good calls)

        one_is : one ≡ with_new (each_object settled (machine_of s a)) l (settled (areas.new_area k n))
        one_is =
            ap (λ b. synced b (with_new (machine_of s a) l (areas.new_area k n))) (sync ∙ synced_yes) ∙ settled_new (machine_of s a) l (areas.new_area k n)

        one_made : one.made ≡ true
        one_made = ap (λ (m : Machine). m.made) one_is ∙ h.holds.made

        one_now : one.now ≡ s.now
        one_now = ap (λ (m : Machine). m.now) one_is ∙ st.same_now a

        abbrev later : System
        later = with_set s plane a one

        more_areas : app1.areas ≡ app.areas ++ (host.grants, area_in slot) ∷ []
        more_areas =
            held
            ∙ ap (λ (j : ℕ). with_area app.areas host.grants (record { kind = k; slot = j; spans = spans })) (sym slot_index)
            ∙ ap (λ (bs : List ℕ). with_area app.areas host.grants (record { kind = k; slot = slot.index; spans = bs })) (sym slot_blocks)
            ∙ added_last host.grants (area_in slot) app.areas (h.unused host.grants (omega arith))

        new_number : (k : ℕ) → slice_get h.numbers k ≡ Some host.grants → ⊥
        new_number k is = let lt = h.below k host.grants is in absurd (omega (arith, lt))

        own : IsHeld now.grants (after past es) later a app1
        own = record {
          numbers = h.numbers ++ host.grants ∷ [];
          holds = granted (record then { machine = each_object settled (machine_of s a) }) (around later (after past es) a (h.numbers ++ host.grants ∷ []) app1 (machine_of later a)) (heeded true synced_yes) l host.grants slot (settled (areas.new_area k n))
              unlabelled (h.unused host.grants (omega arith)) new_number refl refl (new_one k refl)
              refl refl refl labels more_areas (same_tables app1.store app.store app1.devices app.devices region buffers devices) refl refl refl (set_here s plane a one one_made ∙ one_is);
          below = λ k g is. elim (number_cases h.numbers host.grants k g is) [
            | inl old ↦ let lt = h.below k g old in omega (arith, lt, grants)
            | inr new ↦ omega (arith, new.1, grants)
          ];
          unused = λ g le.
              let other : nat_eq g host.grants ≡ false = grind (arith, nat_tests, grants, le) in
              ap (λ (es : AreaList). lookup (nat_eq g) es) more_areas
              ∙ lookup_last (nat_eq g) app.areas (host.grants, area_in slot) (h.unused g (omega (arith, grants, le)))
              ∙ ap (λ b. cond b (Some (area_in slot)) None) other;
        }

        -- the new slot has a label that had none
        all_named : AreNamed plane
        all_named t among = ⊎_elim
            (λ old. find-append (λ u. is_slot_of t.app t.label u) s.plane.slots (slot ∷ []) ∙ ap (λ o. option_or o (find (λ u. is_slot_of t.app t.label u) (slot ∷ []))) (st.plane.named t old))
            (λ new. subst (λ (v : Slot). slot_of plane v.app v.label ≡ Some v) new
            (find-append (λ u. is_slot_of a l u) s.plane.slots (slot ∷ []) ∙ ap (λ o. option_or o (find (λ u. is_slot_of a l u) (slot ∷ []))) no_slot ∙ ap (λ b. cond b (Some slot) None) (ap (λ b. b && bytes_eq l l) (bytes_eq-same a) ∙ bytes_eq-same l))) (Contains-push_cases s.plane.slots slot t among)

        more_slots : table_of plane.slots ≡ with_slot (table_of s.plane.slots) slot.index (Some (area_of slot))
        more_slots = table_more size s.plane.slots slot (subst (λ (m : ℕ). SlotsFit m s.plane.slots) st.plane.size st.plane.apart.fit) fits (free_index s.plane max_slots refl few)

        -- the new slot is none of another application's
        same_stored : (b : List ℕ) → bytes_eq b a ≡ false → stored_slots b plane.slots ≡ stored_slots b s.plane.slots
        same_stored b apart =
            ap (λ (t : Table). own_slots b (slots_in 1 t)) more_slots
            ∙ own_set b (table_of s.plane.slots) 1 (slot.index - 1) (Some (area_of slot)) (ap (λ (o : Option Area). is_of b o) free_entry) apart

        its_table : now.plane.table ≡ table_of plane.slots
        its_table =
            tables
            ∙ ap (λ (t : Table). with_slot t i (Some (record { app = a; label = l; kind = k; runs = runs_of spans }))) st.plane.table
            ∙ ap (λ j. with_slot (table_of s.plane.slots) j (Some (record { app = a; label = l; kind = k; runs = runs_of spans }))) (sym slot_index)
            ∙ ap (λ (bs : List ℕ). with_slot (table_of s.plane.slots) slot.index (Some (record { app = a; label = l; kind = k; runs = runs_of bs }))) (sym slot_blocks)
            ∙ sym more_slots

        now_app : (b : List ℕ) → app_of now.apps.items b ≡ cond (bytes_eq b a) (Some app1) (app_of host.apps.items b)
        now_app b = ap (λ (xs : List App). app_of xs b) items ∙ set_at host.apps.items a place app app1 ok.place there name b

        -- a slot more is an area more of its application
        all_counted : (b : List ℕ) → slot_count b plane.slots ≤ area_count (app_of now.apps.items b)
        all_counted b = subst (λ (o : Option App). slot_count b plane.slots ≤ area_count o) (sym (now_app b)) (by_test (bytes_eq b a) (λ t. bytes_eq b a ≡ t → slot_count b plane.slots ≤ area_count (cond t (Some app1) (app_of host.apps.items b)))
            (λ yes q.
            let same : b ≡ a = (bytes_eq-Decides b a).0 q in
            let its : app_of host.apps.items b ≡ Some app = ap (λ (c : List ℕ). app_of host.apps.items c) same ∙ (first_found (λ x. bytes_eq a x.name) host.apps.items place app ok.place).1 ∙ ap (λ x. Some x) there in
            let most : slot_count b s.plane.slots ≤ length app.areas = subst (λ (o : Option App). slot_count b s.plane.slots ≤ area_count o) its (st.plane.counted b) in
            let more : slot_count b plane.slots ≡ slot_count b s.plane.slots + bit (bytes_eq b a) = count_more b s.plane.slots slot in
            let one_more : bit (bytes_eq b a) ≡ 1 = ap bit q in
            let longer : length app1.areas ≡ length app.areas + 1 = ap (λ (xs : AreaList). length xs) more_areas ∙ length-append app.areas ((host.grants, area_in slot) ∷ []) in
            omega (arith, most, more, one_more, longer))
            (λ no q.
            let more : slot_count b plane.slots ≡ slot_count b s.plane.slots + bit (bytes_eq b a) = count_more b s.plane.slots slot in
            let none : bit (bytes_eq b a) ≡ 0 = ap bit q in
            let most = st.plane.counted b in
            omega (arith, more, none, most)) refl)

        pub vsa_granted : RowDone now size (after past es) s a line (vsa_row s a l n k es said.Ok) es said.Ok []
        vsa_granted = rw (done_row host size past s a l n k st h.holds.made open_one.0 open_one.1 i ok.slot ok.settled ok.space compact es said.Ok (made_fault _ well es made ∙ ap not good)) (record {
          said = refl;
          bytes = refl;
          calls = follows;
          none = λ want. absurd (false≢true want);
          stands = record {
            plane = record {
              size = st.plane.size;
              own = st.plane.own ∙ sym addresses;
              filters = st.plane.filters;
              apps = st.plane.apps ∙ sym (ap (λ (xs : List App). map (λ x. x.name) xs) items ∙ names_set host.apps.items a place app app1 ok.place there name);
              table = its_table;
              failed = st.plane.failed ∙ sym failed;
              free = λ no. free_after s.plane slot n refl ∙ ap (λ (f : List ℕ). drop n f) (st.plane.free ok.settled) ∙ sym free;
              settled = λ no. st.plane.settled (sym failed ∙ no);
              beside = subst (λ (u : Option Change). StandsBeside size plane.slots u) (sym (st.plane.settled ok.settled)) tt;
              apart = makes_apart s.plane a l k n st.plane.apart few;
              named = all_named;
              counted = all_counted;
            };
            based = st.based;
            table = subst (λ (u : Option Change). TableStands (after past es) plane.slots u) (sym (st.plane.settled ok.settled)) (subst (λ (t : Table). IsTableOf (after past es) t) (sym more_slots) stands_now);
            now = st.now ∙ sym clock;
            machines = set_apps s plane a one one_made host.grants now.grants past (after past es) host.apps.items now.apps.items app1 (omega (arith, grants)) refl own
                (λ b q. now_app b ∙ ap (λ t. cond t (Some app1) (app_of host.apps.items b)) q)
                (λ b q. now_app b ∙ ap (λ t. cond t (Some app1) (app_of host.apps.items b)) q)
                (λ b k q. slot_other b k s.plane.slots slot q) (λ b k t q is. same_others b k t is) st.plane.apart st.plane.named same_stored st.machines;
            same_now = set_now s plane a one one_made one_now st.same_now;
          };
        })
