-- An area that has grown, or that failed to: what the host stands for after the device calls.
use Rattle.std.proofs.Common.{◌≡◌, inl, inr, ℕ, ◌+◌, ◌-◌, ◌^◌, ◌<◌, ◌≤◌, Bool, true, false, not, cond, ◌==◌, List, [], ◌∷◌, ◌++◌, length, map, take, drop, replicate, get_or, set, refl, sym, ◌∙◌, ap, subst, arith, bytes_eq, append-nil, get_or-set_same, Contains}
use Rattle.std.specs.Prelude.{Option, Some, None, Ok, slice_get, find, is_some, option_map, nat_eq}
use Rattle.std.specs.Map.{lookup}
use Rattle.std.proofs.lemmas.Bool.{false≢true, and_parts, cases_lt}
use Rattle.std.proofs.lemmas.Bool.Decides.{nat_tests}
use Rattle.std.proofs.lemmas.List.{length-append, length-map, length-replicate, length-take, get_or-map, get_or-replicate}
use Rattle.std.proofs.Math.ListN.{get_or-append}
use Rattle.std.proofs.Math.Seq.{get_or-append_right}
use Rattle.std.proofs.lemmas.List.Elements.{Contains-get_or, Contains-append_cases, Contains-append_right}
use Rattle.std.proofs.lemmas.Slice.Eq.{bytes_eq-Decides}
use Rattle.ark_base.specs.Name.{is_name}
use Rattle.ark_base.specs.declared.kind.Kind.{Kind}
use Rattle.ark_base.specs.declared.refusal.Refusal.TheVariants as r
use Rattle.ark_media.specs.Journal.{Event, History, block, current, zero_block}
use Rattle.ark_media.specs.Calls.{Makes as Made}
use Rattle.ark_media.specs.Stops.{Whole}
use Rattle.ark_media.specs.Standing.{after, MayStand}
use Rattle.ark_media.proofs.Stopping.{now_may, length-current}
use Rattle.ark_extents.specs.Blocks.{blocks_of, runs_of}
use Rattle.ark_extents.proofs.RunLemmas.{blocks_of-runs_of}
use Rattle.ark_table.specs.Area.{Area, area_bytes, area_in, is_area, least_blocks}
use Rattle.ark_table.specs.Slots.{Slot, area_of, IsRight}
use Rattle.ark_table.specs.Table.{Together, area_at, is_of, slots_in, IsSlotBlock}
use Rattle.ark_table.specs.Standing.{Table, slot_in, with_slot, grown_area, grow_calls, IsTableOf, IsUnderWay, GoesThrough, CanGrow, grows as adds}
use Rattle.ark_table.proofs.Spelling.{keeps_rules, spelled_is_read}
use Rattle.ark_table.proofs.Moments.{grown as goes_grown}
use Rattle.ark_script.specs.Line as w
use Rattle.ark_script.specs.Line.{Line}
use Rattle.ark_script.specs.declared.said.Said.TheVariants as said
use Rattle.ark_machine.specs.Objects
use Rattle.ark_machine.specs.Objects.{Object, Raw}
use Rattle.ark_machine.specs.Machine.{Machine, Held, with_object, each_object, holding}
use Rattle.ark_machine.specs.Areas as areas
use Rattle.ark_machine.specs.Row.{settled, synced, synced_by}
use Rattle.ark_machine.specs.Plane.{Plane, Change, grows, slot_of, lowest, is_granted, max_runs}
use Rattle.ark_machine.specs.Granting.{with_more, plane_after, changed, failed_change}
use Rattle.ark_machine.specs.Grants.{SlotFits, SlotsAgree}
use Rattle.ark_machine.specs.Told.{own_slots}
use Rattle.ark_machine.specs.System.{System, machine_of}
use Rattle.ark_machine.specs.Follow.{Follow, ends_of, own_index, grown_content}
use Rattle.ark_machine.specs.Recovers.{begun}
use Rattle.ark_machine.proofs.Grants.{grows_apart, lowest_free}
use Rattle.ark_held.specs.Areas.{IsRaw}
use Rattle.ark_held.specs.Around.{Around}
use Rattle.ark_held.specs.Beside.{AreBeside}
use Rattle.ark_held.specs.Held.{Holds}
use Rattle.ark_held.specs.Keeps.{SameAt}
use Rattle.ark_held.specs.Words.{AreaList, with_spans}
use Rattle.ark_held.proofs.Lists.{name_same, other_name, some_same}
use Rattle.ark_held.proofs.Members.{contains_in, in_contains}
use Rattle.ark_held.proofs.Besides.{same_beside, same_history}
use Rattle.ark_held.proofs.Passing as passing
use Rattle.ark_held.proofs.Settling.{has_synced, synced_alone, settles}
use Rattle.ark_held.proofs.Spanning.{spans_counted, spans_unused}
use Rattle.ark_held.proofs.Written.{area_grown}
use Rattle.ark_held.proofs.Granted.{not_but}
use Rattle.ark_held.proofs.Doing.{same_tables}
use Rattle.ark_held.specs.declared.app.App.{App}
use Rattle.ark_held.specs.declared.areas.Area.{Area as Kept}
use Rattle.ark_own.proofs.OfGrants.{IsGrantOf}
use Rattle.ark_host.specs.declared.host.Host.{Host}
use Rattle.ark_host.specs.declared.host.grow.Growth.{Growth}
use Rattle.ark_plane.specs.Tables.{table_of, with_longer, slot_count}
use Rattle.ark_host.specs.Tabled.{TableStands, StandsBeside}
use Rattle.ark_host.specs.Stored.{stored_slots}
use Rattle.ark_host.specs.Stands.{Stands, RowDone, IsHeld, AreNamed, around, app_of, area_count}
use Rattle.ark_host.specs.Growing.{grow_row, MayGrow}
use Rattle.ark_plane.proofs.Tests.{by_test}
use Rattle.ark_plane.proofs.Lists.{first_found}
use Rattle.ark_plane.proofs.Sharing.{has, one_slot}
use Rattle.ark_plane.proofs.Freeing.{free_without}
use Rattle.ark_host.proofs.Storing.{own_set}
use Rattle.ark_plane.proofs.Tabling.{slot_there, area_there, table_size, fit_in}
use Rattle.ark_plane.proofs.Lengthened.{longer, its_longer, one_index, in_map, of_map, area_longer, find_longer, count_longer, granted_longer}
use Rattle.ark_host.proofs.Standing.{slot_names, slot_based, slot_data, slot_fits}
use Rattle.ark_host.proofs.Setting.{with_set, set_apps, set_now, set_here}
use Rattle.ark_host.proofs.Fronts.{its_own, some_slot}
use Rattle.ark_host.proofs.Placing.{names_set, set_at, set_counted}
use Rattle.ark_host.proofs.Planned.{ended_sync, made_fault, made_sync, grant_beside, grant_syncs, grant_follows}
use Rattle.ark_host.proofs.Granted.{synced_made, synced_now}
use Rattle.ark_host.proofs.Recovering.{grown_table}
use Rattle.ark_host.proofs.OfGrants.{held, in_use}
use Rattle.ark_host.proofs.GrowRows.{grown_row, lost_row, grow_begins}

-- a machine with another object, after a sync
settled_object : (m : Machine) (l : List ℕ) (o : Object) → each_object settled (with_object m l o) ≡ with_object (each_object settled m) l (settled o)
settled_object m l o = λ i. record m { held = by m.held i }
  where
    one : (b : Bool) (d : Held) → holding (settled (cond b (holding o d) d).object) (cond b (holding o d) d) ≡ cond b (holding (settled o) (holding (settled d.object) d)) (holding (settled d.object) d)
    one true d = refl
    one false d = refl

    by : (hs : List Held) → map (λ d. holding (settled d.object) d) (map (λ d. cond (bytes_eq l d.label) (holding o d) d) hs) ≡ map (λ d. cond (bytes_eq l d.label) (holding (settled o) d) d) (map (λ d. holding (settled d.object) d) hs)
    by [] = refl
    by (d ∷ ds) = λ i. one (bytes_eq l d.label) d i ∷ by ds i

settled_at : (l : List ℕ) (hs : List Held) (d : Held) → find (λ z. bytes_eq l z.label) hs ≡ Some d → find (λ z. bytes_eq l z.label) (map (λ z. holding (settled z.object) z) hs) ≡ Some (holding (settled d.object) d)
settled_at l [] d is = absurd (false≢true (ap is_some is))
settled_at l (h ∷ hs) d is = by_test (bytes_eq l h.label)
    (λ b. cond b (Some h) (find (λ z. bytes_eq l z.label) hs) ≡ Some d → cond b (Some (holding (settled h.object) h)) (find (λ z. bytes_eq l z.label) (map (λ z. holding (settled z.object) z) hs)) ≡ Some (holding (settled d.object) d))
    (λ yes e. ap (λ o. option_map (λ (z : Held). holding (settled z.object) z) o) e) (λ no e. settled_at l hs d e) is

module _ (host : Host) (size : ℕ) (past : History) (s : System) (a l : List ℕ) (n : ℕ) (g : Growth) (app : App) (st : Stands host size past s) (small : size < 2 ^ 32) (some : 1 ≤ n) (ok : MayGrow host a l n g) (there : get_or host.apps.items g.place app ≡ app)
    (h : IsHeld host.grants past s a app) (f : IsGrantOf (around s past a h.numbers app (machine_of s a)) l g.grant g.area) where
  abbrev line : Line
  line = w.grow a l n

  abbrev x : Around
  x = around s past a h.numbers app (machine_of s a)

  abbrev t : Slot
  t = f.area.slot

  abbrev more : List ℕ
  more = lowest s.plane n

  pub mine : Contains s.plane.slots t × (a ≡ t.app) × (l ≡ t.label)
  mine = held host size past s a l app st h g.grant g.area f

  its_slot : t.index ≡ g.area.slot
  its_slot = ap (λ (z : Kept). z.slot) f.its_area

  placed : slot_of s.plane a l ≡ Some t
  placed = f.area.placed

  its_use : slot_in host.plane.table g.area.slot ≡ Some (area_of t)
  its_use = in_use host size past s a l app st h g.grant g.area f

  new_blocks : more ≡ g.more
  new_blocks = ap (λ (bs : List ℕ). take n bs) (st.plane.free ok.settled) ∙ sym ok.more

  count : length more ≡ n
  count = ap (λ (bs : List ℕ). length (take n bs)) (st.plane.free ok.settled) ∙ length-take n host.plane.free ∙ (let space = ok.space in grind (arith, nat_tests))

  -- its area has few runs with the new blocks
  pub its_area : ok.joins.area ≡ area_of t
  its_area = some_same (slot_in host.plane.table g.area.slot) ok.joins.area (area_of t) ok.joins.used its_use

  compact : length (runs_of (t.blocks ++ take n host.plane.free)) ≤ max_runs
  compact = subst (λ (bs : List ℕ). length (runs_of (bs ++ take n host.plane.free)) ≤ max_runs) (ap (λ (z : Area). blocks_of z.runs) its_area ∙ blocks_of-runs_of t.blocks)
      (subst (λ (bs : List ℕ). length (runs_of (blocks_of ok.joins.area.runs ++ bs)) ≤ max_runs) ok.more ok.joins.few)

  -- the change that the line begins
  pub begins : begun s (Some (Ok line)) ≡ Some (grows t more)
  begins = grow_begins host size past s a l n st h.holds.made f.area.held f.area.raw f.area.there f.area.object ok.settled ok.space t placed compact

  abbrev plane : Plane
  plane = record s.plane { slots = with_longer t more s.plane.slots }

  apart : SlotsAgree s.plane.size plane.slots
  apart = grows_apart s.plane n t st.plane.apart

  pub agree : SlotsAgree size (with_longer t more s.plane.slots)
  agree = subst (λ (k : ℕ). SlotsAgree k plane.slots) st.plane.size apart

  not_granted : (k : ℕ) → Contains more k → is_granted s.plane.slots k ≡ false
  not_granted k new = lowest_free s.plane n k (has more k new)

  apart_held : (u : Slot) → Contains s.plane.slots u → (k : ℕ) → Contains more k → Contains u.blocks k → ⊥
  apart_held u held k new old = false≢true (sym (not_granted k new) ∙ its_own s u k held old)

  beyond_table : (k : ℕ) → Contains more k → (129 ≤ k) × (k < size)
  beyond_table k new =
      let longer_fits = slot_in_fits (longer t more t) (in_contains plane.slots (longer t more t) (in_map (longer t more) s.plane.slots t (contains_in s.plane.slots t mine.0))) in
      longer_fits.data_part k (subst (λ (u : Slot). Contains u.blocks k) (sym (its_longer t more)) (Contains-append_right t.blocks more k new))
    where
      slot_in_fits : (u : Slot) → Contains plane.slots u → SlotFits size u
      slot_in_fits u among = fit_in size plane.slots u agree.fit (contains_in plane.slots u among)

  its_fit : SlotFits size (with_more t more)
  its_fit = subst (λ (u : Slot). SlotFits size u) (its_longer t more)
      (fit_in size plane.slots (longer t more t) agree.fit (in_map (longer t more) s.plane.slots t (contains_in s.plane.slots t mine.0)))

  -- The slot may get the blocks.

  table : IsTableOf past (table_of s.plane.slots)
  table = subst (λ (u : Option Change). TableStands past s.plane.slots u) (st.plane.settled ok.settled) st.table

  -- what stands in it keeps the rules, its names too
  kept : is_area (length past.base) (area_of t) ≡ true
  kept =
      let fits = slot_fits host size past s st t mine.0 in
      let low = fits.index_low in
      let high = fits.index_high in
      let at : area_at (table_of s.plane.slots) (t.index - 1) ≡ Some (area_of t) = area_there s.plane.size s.plane.slots st.plane.apart.fit st.plane.apart.apart t (contains_in s.plane.slots t mine.0) in
      subst (λ (k : ℕ). is_area k (area_of t) ≡ true) (length-current past.base past.journal)
      (subst (λ (o : Option Area). IsSlotBlock (length (current past.base past.journal)) (block (current past.base past.journal) (t.index - 1 + 1)) o) at (table.has.says (t.index - 1) (omega (arith, low, high)))).0

  right : IsRight (length past.base) (with_more t more)
  right = record {
    app = (and_parts (is_name t.app) _ kept).0;
    label = (and_parts (is_name t.label) _ (and_parts (is_name t.app) _ kept).1).0;
    some = subst (λ (k : Kind). least_blocks k ≤ length (t.blocks ++ more)) (sym f.raw) (let long = length-append t.blocks more in omega (arith, some, count, long));
    data_part = λ k new. let d = its_fit.data_part k new in (d.0, omega (arith, d.1, st.based));
    distinct = its_fit.distinct;
    few_runs = subst (λ (bs : List ℕ). length (runs_of (t.blocks ++ take n bs)) ≤ 16) (sym (st.plane.free ok.settled)) compact;
  }

  together : (k : ℕ) (b : Area) → (k ≡ t.index - 1 → ⊥) → area_at (table_of s.plane.slots) k ≡ Some b → Together (grown_area (area_of t) more) b
  together k b differ is =
      let found = slot_there s.plane.size s.plane.slots k b st.plane.apart.fit is in
      let u = found.0 in
      let other = in_contains s.plane.slots u found.1 in
      let apart_from : u ≡ t → ⊥ = λ e. (let index : k + 1 ≡ t.index = sym found.2 ∙ ap (λ (z : Slot). z.index) e in differ (omega (arith, index))) in
      subst (λ (z : Area). Together z b) (area_longer t more)
      (subst (λ (z : Area). Together (area_of (with_more t more)) z) found.3 (record {
        apart = λ m new old. one_of m u other apart_from (subst (λ (bs : List ℕ). Contains bs m) (blocks_of-runs_of (t.blocks ++ more)) new) (subst (λ (bs : List ℕ). Contains bs m) (blocks_of-runs_of u.blocks) old);
        differ = λ apps labels. apart_from (some_slot u t (sym (st.plane.named u other) ∙ ap (λ (z : List ℕ). slot_of s.plane z u.label) (sym apps) ∙ ap (λ (z : List ℕ). slot_of s.plane t.app z) (sym labels) ∙ st.plane.named t mine.0));
      }))
    where
      one_of : (m : ℕ) (u : Slot) → Contains s.plane.slots u → (u ≡ t → ⊥) → Contains (t.blocks ++ more) m → Contains u.blocks m → ⊥
      one_of m u other apart_from new old = elim (Contains-append_cases t.blocks more m new) [
        | inl own ↦ apart_from (sym (one_slot s.plane.slots t u m st.plane.apart.apart mine.0 other own old))
        | inr added ↦ apart_held u other m added old
      ]

  at_slot : area_at (table_of s.plane.slots) (t.index - 1) ≡ Some (area_of t)
  at_slot = area_there s.plane.size s.plane.slots st.plane.apart.fit st.plane.apart.apart t (contains_in s.plane.slots t mine.0)

  can : CanGrow (length past.base) (table_of s.plane.slots) t.index (area_of t) more
  can = record {
    low = its_fit.index_low;
    high = its_fit.index_high;
    used = at_slot;
    right = subst (λ (z : Area). is_area (length past.base) z ≡ true) (area_longer t more) (keeps_rules (length past.base) (with_more t more) (omega (arith, small, st.based)) right);
    together = together;
  }

  -- What came of the calls.

  module _ (well : Bool) (es : List Event) (made : Made (grow_calls g.area.slot (area_of t) g.more) well es) where
    calls : Made (grow_calls t.index (area_of t) more) well es
    calls = subst (λ (bs : List ℕ). Made (grow_calls t.index (area_of t) bs) well es) (sym new_blocks)
        (subst (λ (k : ℕ). Made (grow_calls k (area_of t) g.more) well es) (sym its_slot) made)

    pub goes : GoesThrough past (table_of s.plane.slots) (adds t.index (area_of t) more) well es
    goes = goes_grown past (table_of s.plane.slots) t.index (area_of t) more well es table can calls

    follows : Follow s a line (areas.grant_calls n) es
    follows = subst (λ (j : ℕ). Follow s a line (areas.grant_calls j) es) count
        (grant_follows s a line t.index (grown_area (area_of t) more) (ap (λ o. slice_get (own_index o) 0) placed)
        (ap (λ o. grown_content o more) placed ∙ ap area_bytes (area_longer t more)) 0 more well es
        (λ j m is. ap (λ z. slice_get more z) (let same : 0 + j ≡ j = omega arith in same) ∙ is) calls)

    -- no block of a slot that is held was written
    pub beside : (u : Slot) → Contains s.plane.slots u → AreBeside u.blocks es
    beside u held = grant_beside u.blocks t.index (grown_area (area_of t) more) more well es
        (λ low. let d = (slot_data host size past s st u t.index held low).0 in let high = its_fit.index_high in absurd (omega (arith, d, high)))
        (λ m new old. apart_held u held m new old) calls

    sync : ended_sync (ends_of es) ≡ has_synced es
    sync = made_sync (grow_calls t.index (area_of t) more) well es calls

    -- what the application holds, with its machine after these calls
    abbrev then : Around
    then = record x { history = after past es }

    passed : Holds then
    passed = passing.beside x es (record {
      beside = λ k u is. beside u (slot_names s.plane.slots a k u is).0;
      inside = λ k u m is among. slot_based host size past s st u m (slot_names s.plane.slots a k u is).0 among;
    }) h.holds

    alone : has_synced es ≡ true → (u : Slot) → Contains s.plane.slots u → (j : ℕ) → j < length u.blocks → (c : List ℕ) → MayStand (after past es) (get_or u.blocks j 0) c → c ≡ block (current past.base (after past es).journal) (get_or u.blocks j 0)
    alone is u held j lt c left =
        let among = Contains-get_or u.blocks j 0 lt in
        synced_alone past.base u.blocks es past.journal (get_or u.blocks j 0) (slot_based host size past s st u (get_or u.blocks j 0) held among) among (beside u held) is c left

    heeded : (b : Bool) → has_synced es ≡ b → Holds (record then { machine = synced b (machine_of s a) })
    heeded false is = passed
    heeded true is = settles then passed (λ k u at j lt c left. alone is u (slot_names s.plane.slots a k u at).0 j lt c left)

    same_others : (b k : List ℕ) (u : Slot) → slot_of s.plane b k ≡ Some u → SameAt past (after past es) u.blocks
    same_others b k u is =
        let held = (slot_names s.plane.slots b k u is).0 in
        same_beside past es u.blocks (λ m among. slot_based host size past s st u m held among) (beside u held)

    -- A call failed: the table has failed from now on, and a stop decides whether the slot has the blocks.

    module _ (now : Host) (items : now.apps.items ≡ host.apps.items) (kept_table : now.plane.table ≡ host.plane.table) (failed : now.plane.failed ≡ true) (grants : now.grants ≡ host.grants) (clock : now.clock ≡ host.clock) (addresses : now.plane.own ≡ host.plane.own) (bad : well ≡ false) where
      abbrev lost : Plane
      lost = record s.plane { failed = true; unsettled = Some (grows t more) }

      lost_is : plane_after s.plane (machine_of s a) line (said.Refused r.DeviceFault) ≡ lost
      lost_is = ap (λ (o : Option Slot). failed_change s.plane (option_map (λ u. grows u more) o)) placed

      abbrev left : Machine
      left = synced_by (ends_of es) (machine_of s a)

      left_is : left ≡ synced (has_synced es) (machine_of s a)
      left_is = ap (λ b. synced b (machine_of s a)) sync

      left_made : left.made ≡ true
      left_made = synced_made (ended_sync (ends_of es)) (machine_of s a) ∙ h.holds.made

      left_held : IsHeld now.grants (after past es) (with_set s lost a left) a app
      left_held = record {
        numbers = h.numbers;
        holds = subst (λ (m : Machine). Holds (around (with_set s lost a left) (after past es) a h.numbers app m)) (sym (set_here s lost a left left_made))
            (subst (λ (m : Machine). Holds (record then { machine = m })) (sym left_is) (heeded (has_synced es) refl));
        below = λ k z is. let lt = h.below k z is in omega (arith, lt, grants);
        unused = λ z le. h.unused z (omega (arith, le, grants));
      }

      same_app : (b : List ℕ) → app_of now.apps.items b ≡ app_of host.apps.items b
      same_app b = ap (λ (xs : List App). app_of xs b) items

      its_stands : Stands now size (after past es) (with_set s lost a left)
      its_stands = record {
        plane = record {
          size = st.plane.size;
          own = st.plane.own ∙ sym addresses;
          filters = st.plane.filters;
          apps = st.plane.apps ∙ ap (λ (xs : List App). map (λ z. z.name) xs) (sym items);
          table = kept_table ∙ st.plane.table;
          failed = sym failed;
          free = λ no. absurd (false≢true (sym no ∙ failed));
          settled = λ no. absurd (false≢true (sym no ∙ failed));
          beside = (mine.0, f.raw, agree, λ k e. lowest_free s.plane n k e);
          apart = st.plane.apart;
          named = st.plane.named;
          counted = λ b. subst (λ (o : Option App). slot_count b s.plane.slots ≤ area_count o) (sym (same_app b)) (st.plane.counted b);
        };
        based = st.based;
        table = goes.failed bad;
        now = st.now ∙ sym clock;
        machines = set_apps s lost a left left_made host.grants now.grants past (after past es) host.apps.items now.apps.items app (omega (arith, grants)) refl left_held
            (λ b q. same_app b ∙ ap (λ (c : List ℕ). app_of host.apps.items c) ((bytes_eq-Decides b a).0 q) ∙ (first_found (λ z. bytes_eq a z.name) host.apps.items g.place app ok.place).1 ∙ ap (λ z. Some z) there)
            (λ b q. same_app b) (λ b k q. refl) (λ b k u q is. same_others b k u is) st.plane.apart st.plane.named (λ b q. refl) st.machines;
        same_now = set_now s lost a left left_made (synced_now (ended_sync (ends_of es)) (machine_of s a) ∙ st.same_now a) st.same_now;
      }

      pub grow_lost : RowDone now size (after past es) s a line (grow_row s a l n es (said.Refused r.DeviceFault)) es (said.Refused r.DeviceFault) []
      grow_lost = rw (lost_row host size past s a l n st h.holds.made f.area.held f.area.raw f.area.there f.area.object ok.settled ok.space t placed compact es (said.Refused r.DeviceFault) (made_fault _ well es made ∙ ap not bad)) (record {
        said = refl;
        bytes = refl;
        calls = follows;
        none = λ want. absurd (false≢true want);
        stands = subst (λ (p : Plane). Stands now size (after past es) (with_set s p a left)) (sym lost_is) its_stands;
      })

    -- Each call succeeded: the slot has the blocks, which are zero.

    module _ (good : well ≡ true) where
      stands_now : IsTableOf (after past es) (with_slot (table_of s.plane.slots) t.index (Some (grown_area (area_of t) more)))
      stands_now = goes.done good

      -- the table as it was has a shorter area in the slot
      not_before : IsTableOf (after past es) (table_of s.plane.slots) → ⊥
      not_before was =
          let low = its_fit.index_low in
          let high = its_fit.index_high in
          let image = current past.base (after past es).journal in
          let size_is : length image ≡ length past.base = length-current past.base (after past es).journal in
          let few : length image < 2 ^ 32 = omega (arith, size_is, st.based, small) in
          let old = subst (λ (o : Option Area). IsSlotBlock (length image) (block image (t.index - 1 + 1)) o) at_slot (was.has.says (t.index - 1) (omega (arith, low, high))) in
          let new = subst (λ (o : Option Area). IsSlotBlock (length image) (block image (t.index - 1 + 1)) o)
          (get_or-set_same (table_of s.plane.slots) (t.index - 1) (Some (grown_area (area_of t) more)) None (omega (arith, low, high, table_size s.plane.slots))) (stands_now.has.says (t.index - 1) (omega (arith, low, high))) in
          let same : area_of t ≡ grown_area (area_of t) more =
          sym (spelled_is_read (length image) (area_of t) few old.0) ∙ ap area_in (sym old.1 ∙ new.1) ∙ spelled_is_read (length image) (grown_area (area_of t) more) few new.0 in
          let longs : length (blocks_of (runs_of t.blocks)) ≡ length (blocks_of (runs_of t.blocks) ++ more) =
          ap (λ (z : Area). length (blocks_of z.runs)) same ∙ ap (λ (bs : List ℕ). length bs) (blocks_of-runs_of (blocks_of (runs_of t.blocks) ++ more)) in
          let sum = length-append (blocks_of (runs_of t.blocks)) more in
          omega (arith, longs, sum, count, some)

      zero_left : (k : ℕ) (c : List ℕ) → Contains more k → MayStand (after past es) k c → c ≡ zero_block
      zero_left k c among left = by (goes.each es [] (sym (append-nil es)))
        where
          by : IsUnderWay past (table_of s.plane.slots) (adds t.index (area_of t) more) es → c ≡ zero_block
          by (inl was) = absurd (not_before was)
          by (inr under) = under.1.zeros k c among left

      zero_now : (k : ℕ) → Contains more k → block (current past.base (after past es).journal) k ≡ zero_block
      zero_now k among = zero_left k _ among (now_may Whole (λ c. refl) past.base (after past es).journal k (let d = (beyond_table k among).1 in omega (arith, d, st.based)))

      synced_yes : has_synced es ≡ true
      synced_yes = grant_syncs t.index (grown_area (area_of t) more) more es (subst (λ (b : Bool). Made (grow_calls t.index (area_of t) more) b es) good calls)

      abbrev old_raw : Raw
      old_raw = f.area.raw

      abbrev new_content : List (List ℕ)
      new_content = old_raw.content ++ replicate n zero_block

      abbrev q : Raw
      q = record { content = new_content; maybe = map (λ b. b ∷ []) new_content }

      -- each block is the one that stands there, its own or a zero block
      at_place : (k : ℕ) → k < length (t.blocks ++ more) → get_or new_content k [] ≡ block (current past.base (after past es).journal) (get_or (t.blocks ++ more) k 0)
      at_place k lt = elim (cases_lt k (length t.blocks)) [
        | inl own ↦
            get_or-append old_raw.content (replicate n zero_block) [] k (omega (arith, own, f.area.fits.size)) ∙ f.area.fits.content k own
            ∙ sym (same_others a l t placed k own).0
            ∙ ap (λ m. block (current past.base (after past es).journal) m) (sym (get_or-append t.blocks more 0 k own))
        | inr past_own ↦ (
            let size_is = f.area.fits.size in
            let long = length-append t.blocks more in
            let near : k - length t.blocks < length more = omega (arith, lt, long, past_own) in
            let sames : k - length old_raw.content ≡ k - length t.blocks = omega (arith, size_is) in
            get_or-append_right old_raw.content (replicate n zero_block) k [] (omega (arith, past_own, size_is)) ∙ ap (λ j. get_or (replicate n zero_block) j []) sames
            ∙ get_or-replicate n (k - length t.blocks) zero_block [] (omega (arith, near, count))
            ∙ sym (zero_now (get_or more (k - length t.blocks) 0) (Contains-get_or more (k - length t.blocks) 0 near))
            ∙ ap (λ m. block (current past.base (after past es).journal) m) (sym (get_or-append_right t.blocks more k 0 past_own))
            )
      ]

      -- and a stop leaves no other
      left_place : (k : ℕ) → k < length (t.blocks ++ more) → (c : List ℕ) → MayStand (after past es) (get_or (t.blocks ++ more) k 0) c → c ≡ block (current past.base (after past es).journal) (get_or (t.blocks ++ more) k 0)
      left_place k lt c left = elim (cases_lt k (length t.blocks)) [
        | inl own ↦
            let here = get_or-append t.blocks more 0 k own in
            alone synced_yes t mine.0 k own c (subst (λ m. MayStand (after past es) m c) here left) ∙ ap (λ m. block (current past.base (after past es).journal) m) (sym here)
        | inr past_own ↦ (
            let long = length-append t.blocks more in
            let near : k - length t.blocks < length more = omega (arith, lt, long, past_own) in
            let here = get_or-append_right t.blocks more k 0 past_own in
            let among = Contains-get_or more (k - length t.blocks) 0 near in
            zero_left (get_or more (k - length t.blocks) 0) c among (subst (λ m. MayStand (after past es) m c) here left)
            ∙ sym (zero_now (get_or more (k - length t.blocks) 0) among) ∙ ap (λ m. block (current past.base (after past es).journal) m) (sym here)
            )
      ]

      new_size : length new_content ≡ length (t.blocks ++ more)
      new_size =
          let one = length-append old_raw.content (replicate n zero_block) in
          let two = length-append t.blocks more in
          let three = length-replicate n zero_block in
          let four = f.area.fits.size in
          omega (arith, one, two, three, four, count)

      its_fits : IsRaw (after past es) (t.blocks ++ more) q
      its_fits = record {
        size = new_size;
        content = at_place;
        choices = length-map new_content (λ b. b ∷ []) ∙ new_size;
        maybe = λ k lt c left.
            subst (λ (cs : List (List ℕ)). Contains cs c) (sym (get_or-map (λ b. b ∷ []) new_content k [] [] (omega (arith, lt, new_size))))
            (0, omega arith, at_place k lt ∙ sym (left_place k lt c left));
      }

      module _ (now : Host) (app1 : App) (labels : app1.labels ≡ app.labels) (areas_are : app1.areas ≡ with_spans app.areas g.grant g.spans) (region : app1.store.region ≡ app.store.region) (buffers : app1.store.buffers ≡ app.store.buffers) (devices : app1.devices ≡ app.devices) (name : app1.name ≡ app.name)
          (items : now.apps.items ≡ set host.apps.items g.place app1) (free : now.plane.free ≡ drop n host.plane.free) (tables : now.plane.table ≡ with_slot host.plane.table g.area.slot (Some (grown_area (area_of t) g.more))) (failed : now.plane.failed ≡ host.plane.failed)
          (grants : now.grants ≡ host.grants) (clock : now.clock ≡ host.clock) (addresses : now.plane.own ≡ host.plane.own) where
        abbrev one : Machine
        one = synced_by (ends_of es) (with_object (machine_of s a) l (Objects.raw (areas.grown n old_raw)))

        one_is : one ≡ with_object (each_object settled (machine_of s a)) l (Objects.raw q)
        one_is = ap (λ b. synced b (with_object (machine_of s a) l (Objects.raw (areas.grown n old_raw)))) (sync ∙ synced_yes) ∙ settled_object (machine_of s a) l (Objects.raw (areas.grown n old_raw))

        one_made : one.made ≡ true
        one_made = ap (λ (m : Machine). m.made) one_is ∙ h.holds.made

        one_now : one.now ≡ s.now
        one_now = ap (λ (m : Machine). m.now) one_is ∙ st.same_now a

        abbrev later : System
        later = with_set s plane a one

        its_spans : app1.areas ≡ with_spans app.areas f.cap.grant (t.blocks ++ more)
        its_spans =
            areas_are ∙ ap (λ i. with_spans app.areas i g.spans) (sym f.its_grant)
            ∙ ap (λ (bs : List ℕ). with_spans app.areas f.cap.grant bs)
            (ok.spans ∙ ap (λ (bs : List ℕ). bs ++ g.more) (ap (λ (z : Kept). z.spans) (sym f.its_area)) ∙ ap (λ (bs : List ℕ). t.blocks ++ bs) (sym new_blocks))

        -- a slot that is another one stays
        stays : (b k : List ℕ) → ((u : Slot) → slot_of s.plane b k ≡ Some u → u ≡ t → ⊥) → slot_of plane b k ≡ slot_of s.plane b k
        stays b k other = find_longer t more b k s.plane.slots ∙ by (slot_of s.plane b k) refl
          where
            by : (o : Option Slot) → slot_of s.plane b k ≡ o → option_map (longer t more) o ≡ o
            by None is = refl
            by (Some u) is = ap (λ z. Some z) (by_test (u.index == t.index) (λ c. (u.index == t.index) ≡ c → cond c (with_more u more) u ≡ u)
                (λ yes e.
                let index : u.index ≡ t.index = grind (arith, nat_tests, e) in
                let held = (slot_names s.plane.slots b k u is).0 in
                absurd (other u is (one_index s.plane.slots u t st.plane.apart.apart (contains_in s.plane.slots u held) (contains_in s.plane.slots t mine.0) index)))
                (λ no e. refl) refl)

        own : IsHeld now.grants (after past es) later a app1
        own = record {
          numbers = h.numbers;
          holds = area_grown (record then { machine = each_object settled (machine_of s a) }) (around later (after past es) a h.numbers app1 (machine_of later a)) (heeded true synced_yes) l t more
              (record old_raw { maybe = map (λ b. b ∷ []) old_raw.content }) q (holding (settled f.area.held.object) f.area.held)
              (settled_at l (machine_of s a).held f.area.held f.area.there) (ap settled f.area.object) placed f.cap f.label its_fits
              refl refl labels its_spans (same_tables app1.store app.store app1.devices app.devices region buffers devices) refl
              (find_longer t more a l s.plane.slots ∙ ap (λ o. option_map (longer t more) o) placed ∙ ap (λ z. Some z) (its_longer t more))
              (λ k apart_label. stays a k (λ u is e. false≢true (sym (not_but l k apart_label) ∙ name_same l k (mine.2 ∙ ap (λ (z : Slot). z.label) (sym e) ∙ sym (slot_names s.plane.slots a k u is).2))))
              refl (λ k u apart_label is. same_history (after past es) u.blocks) (set_here s plane a one one_made ∙ one_is);
          below = λ k z is. let lt = h.below k z is in omega (arith, lt, grants);
          unused = λ z le. ap (λ (xs : AreaList). lookup (nat_eq z) xs) areas_are ∙ spans_unused g.grant g.spans z app.areas (h.unused z (omega (arith, le, grants)));
        }

        -- a slot keeps its name
        all_named : AreNamed plane
        all_named v among =
            let from = of_map (longer t more) s.plane.slots v (contains_in plane.slots v among) in
            subst (λ (z : Slot). slot_of plane z.app z.label ≡ Some z) from.2 (by from.0 (st.plane.named from.0 (in_contains s.plane.slots from.0 from.1)))
          where
            by : (u : Slot) → slot_of s.plane u.app u.label ≡ Some u → slot_of plane (longer t more u).app (longer t more u).label ≡ Some (longer t more u)
            by u is =
                let found : slot_of plane u.app u.label ≡ Some (longer t more u) = find_longer t more u.app u.label s.plane.slots ∙ ap (λ o. option_map (longer t more) o) is in
                by_test (u.index == t.index) (λ c. (u.index == t.index) ≡ c → slot_of plane (cond c (with_more u more) u).app (cond c (with_more u more) u).label ≡ Some (cond c (with_more u more) u))
                (λ yes e. found ∙ ap (λ c. Some (cond c (with_more u more) u)) e) (λ no e. found ∙ ap (λ c. Some (cond c (with_more u more) u)) e) refl

        its_table : now.plane.table ≡ table_of plane.slots
        its_table =
            tables ∙ ap (λ (z : Table). with_slot z g.area.slot (Some (grown_area (area_of t) g.more))) st.plane.table
            ∙ ap (λ i. with_slot (table_of s.plane.slots) i (Some (grown_area (area_of t) g.more))) (sym its_slot)
            ∙ ap (λ (bs : List ℕ). with_slot (table_of s.plane.slots) t.index (Some (grown_area (area_of t) bs))) (sym new_blocks)
            ∙ sym (grown_table host size past s st t more mine.0)

        now_app : (b : List ℕ) → app_of now.apps.items b ≡ cond (bytes_eq b a) (Some app1) (app_of host.apps.items b)
        now_app b = ap (λ (xs : List App). app_of xs b) items ∙ set_at host.apps.items a g.place app app1 ok.place there name b

        all_counted : (b : List ℕ) → slot_count b plane.slots ≤ area_count (app_of now.apps.items b)
        all_counted b =
            let same : area_count (app_of now.apps.items b) ≡ area_count (app_of host.apps.items b) =
            ap area_count (now_app b) ∙ set_counted host.apps.items a g.place app app1 ok.place there b (ap (λ (xs : AreaList). length xs) areas_are ∙ spans_counted g.grant g.spans app.areas) in
            let slots = count_longer t more b s.plane.slots in
            let most = st.plane.counted b in
            omega (arith, same, slots, most)

        -- the longer slot is none of another application's
        same_stored : (b : List ℕ) → bytes_eq b a ≡ false → stored_slots b plane.slots ≡ stored_slots b s.plane.slots
        same_stored b other =
            let none : bytes_eq b t.app ≡ false = ap (λ (n : List ℕ). bytes_eq b n) (sym mine.1) ∙ other in
            ap (λ (z : Table). own_slots b (slots_in 1 z)) (grown_table host size past s st t more mine.0)
            ∙ own_set b (table_of s.plane.slots) 1 (t.index - 1) (Some (grown_area (area_of t) more)) (ap (λ (o : Option Area). is_of b o) at_slot ∙ none) none

        its_stands_now : Stands now size (after past es) later
        its_stands_now = record {
          plane = record {
            size = st.plane.size;
            own = st.plane.own ∙ sym addresses;
            filters = st.plane.filters;
            apps = st.plane.apps ∙ sym (ap (λ (xs : List App). map (λ z. z.name) xs) items ∙ names_set host.apps.items a g.place app app1 ok.place there name);
            table = its_table;
            failed = st.plane.failed ∙ sym failed;
            free = λ no. free_without s.plane plane.slots more n (λ k. granted_longer t more k s.plane.slots st.plane.apart.apart (contains_in s.plane.slots t mine.0)) refl ∙ ap (λ (bs : List ℕ). drop n bs) (st.plane.free ok.settled) ∙ sym free;
            settled = λ no. st.plane.settled (sym failed ∙ no);
            beside = subst (λ (u : Option Change). StandsBeside size plane.slots u) (sym (st.plane.settled ok.settled)) tt;
            apart = apart;
            named = all_named;
            counted = all_counted;
          };
          based = st.based;
          table = subst (λ (u : Option Change). TableStands (after past es) plane.slots u) (sym (st.plane.settled ok.settled)) (subst (λ (z : Table). IsTableOf (after past es) z) (sym (grown_table host size past s st t more mine.0)) stands_now);
          now = st.now ∙ sym clock;
          machines = set_apps s plane a one one_made host.grants now.grants past (after past es) host.apps.items now.apps.items app1 (omega (arith, grants)) refl own
              (λ b e. now_app b ∙ ap (λ z. cond z (Some app1) (app_of host.apps.items b)) e)
              (λ b e. now_app b ∙ ap (λ z. cond z (Some app1) (app_of host.apps.items b)) e)
              (λ b k e. stays b k (λ u is same. other_name b a e ((slot_names s.plane.slots b k u is).1 ∙ ap (λ (z : Slot). z.app) same ∙ sym mine.1)))
              (λ b k u e is. same_others b k u is) st.plane.apart st.plane.named same_stored st.machines;
          same_now = set_now s plane a one one_made one_now st.same_now;
        }

        plane_is : plane_after s.plane (machine_of s a) line said.Ok ≡ plane
        plane_is = ap (λ (o : Option Slot). changed s.plane (option_map (λ u. grows u more) o)) placed

        pub grow_done : RowDone now size (after past es) s a line (grow_row s a l n es said.Ok) es said.Ok []
        grow_done = rw (grown_row host size past s a l n st h.holds.made f.area.held f.area.raw f.area.there f.area.object ok.settled ok.space t placed compact es said.Ok (made_fault _ well es made ∙ ap not good)) (record {
          said = refl;
          bytes = refl;
          calls = follows;
          none = λ want. absurd (false≢true want);
          stands = subst (λ (p : Plane). Stands now size (after past es) (with_set s p a one)) (sym plane_is) its_stands_now;
        })
