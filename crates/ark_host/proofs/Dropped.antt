-- An area that is given up, also where its slot could not be removed: what the host stands for after the device calls.
use Rattle.std.proofs.Common.{◌≡◌, ℕ, ◌-◌, ◌≤◌, Bool, true, false, not, cond, ◌&&◌, List, [], ◌∷◌, length, map, get_or, set, nat_eq, refl, sym, ◌∙◌, ap, subst, arith, bytes_eq, Contains}
use Rattle.std.specs.Prelude.{Option, Some, None, Ok, slice_get, find, is_some, option_map}
use Rattle.std.specs.Map.{lookup}
use Rattle.std.specs.List.Sorted.{IsStrictlyIncreasing}
use Rattle.std.proofs.Math.Bool.{and-false}
use Rattle.std.proofs.lemmas.Bool.{false≢true, and_parts}
use Rattle.std.proofs.lemmas.List.Elements.{Contains-get_or}
use Rattle.std.proofs.lemmas.Slice.Eq.{bytes_eq-Decides}
use Rattle.ark_base.specs.declared.refusal.Refusal.TheVariants as r
use Rattle.ark_media.specs.Journal.{Event, History, zero_block}
use Rattle.ark_media.specs.Calls as calls
use Rattle.ark_media.specs.Calls.{Makes as Made}
use Rattle.ark_extents.specs.Free.{Gains}
use Rattle.ark_caps.specs.Labels.{value_at}
use Rattle.ark_table.specs.Area.{Area}
use Rattle.ark_table.specs.Slots.{Slot}
use Rattle.ark_table.specs.Table.{is_of, slots_in}
use Rattle.ark_table.specs.Plans.{remove_calls}
use Rattle.ark_table.specs.Standing.{Table, with_slot, IsTableOf, IsUnsettled, GoesThrough, removes}
use Rattle.ark_table.proofs.Moments.{removed}
use Rattle.ark_script.specs.Line as w
use Rattle.ark_script.specs.Line.{Line}
use Rattle.ark_script.specs.declared.said.Said.TheVariants as said
use Rattle.ark_machine.specs.Objects.{Object}
use Rattle.ark_machine.specs.Machine.{Machine, Held, at, object_at, serial_at, each_object, without}
use Rattle.ark_machine.specs.Control.{lets_go}
use Rattle.ark_machine.specs.Row.{synced, synced_by, writes_slot, syncs}
use Rattle.ark_machine.specs.Plane.{Plane, Change, drops, slot_of, is_slot_of, free_blocks}
use Rattle.ark_machine.specs.Granting.{change_of, changed, failed_change, without_slot, without_label}
use Rattle.ark_machine.specs.Grants.{SlotFits, SlotsAgree, GrantsApart}
use Rattle.ark_machine.specs.System.{System, machine_of}
use Rattle.ark_machine.specs.Follow.{Follow, ended, ends_of, slots_for, own_index}
use Rattle.ark_machine.specs.Recovers.{begun}
use Rattle.ark_media.specs.Standing.{after}
use Rattle.ark_held.specs.Around.{Around}
use Rattle.ark_held.specs.Beside.{AreBeside}
use Rattle.ark_held.specs.Held.{Holds}
use Rattle.ark_held.specs.Totals.{bit}
use Rattle.ark_held.specs.Keeps.{SameAt}
use Rattle.ark_held.specs.Words.{Labels, AreaList, area_in, without_area}
use Rattle.ark_held.specs.Kept.{Tables}
use Rattle.ark_held.specs.Beyond.{tables_of}
use Rattle.ark_held.proofs.Lists.{turned, not_some}
use Rattle.ark_held.proofs.Members.{contains_in}
use Rattle.ark_held.proofs.Besides.{same_beside}
use Rattle.ark_held.proofs.Creating.{but}
use Rattle.ark_held.proofs.Granted.{not_but}
use Rattle.ark_held.proofs.Passing as passing
use Rattle.ark_held.proofs.Settling.{has_synced, synced_alone, settles}
use Rattle.ark_held.proofs.Losing.{numbered}
use Rattle.ark_held.proofs.Removing.{others_gone, others_was}
use Rattle.ark_held.proofs.Unbound.{LosesArea, unbound_all, area_tables}
use Rattle.ark_held.proofs.Without.{one_fewer, without_none}
use Rattle.ark_held.proofs.Dropped.{IsClosed, dropped, synced_given_up, synced_at}
use Rattle.ark_held.specs.declared.app.App.{App}
use Rattle.ark_host.specs.declared.host.Host.{Host}
use Rattle.ark_plane.specs.Tables.{table_of, slot_count}
use Rattle.ark_host.specs.Tabled.{LeavesObject, TableStands, StandsBeside}
use Rattle.ark_machine.specs.Told.{own_slots}
use Rattle.ark_host.specs.Stored.{stored_slots}
use Rattle.ark_host.proofs.Storing.{own_set}
use Rattle.ark_plane.proofs.Tabling.{area_there}
use Rattle.ark_host.specs.Stands.{Stands, RowDone, IsHeld, MayGo, AreNamed, AtApp, around, app_of, area_count, drop_row}
use Rattle.ark_plane.proofs.Tests.{by_test}
use Rattle.ark_plane.proofs.Lists.{first_found}
use Rattle.ark_host.proofs.Standing.{slot_names, slot_based, slot_data}
use Rattle.ark_host.proofs.Setting.{with_set, set_apps, set_now, set_here}
use Rattle.ark_host.proofs.Apps.{held_there}
use Rattle.ark_host.proofs.Granted.{synced_made, synced_now}
use Rattle.ark_host.proofs.Staying.{left_stays}
use Rattle.ark_host.proofs.Placing.{names_set, set_at}
use Rattle.ark_host.proofs.Planned.{ended_sync, made_fault, made_sync, made_beside, writes_at, syncs_at, step}
use Rattle.ark_plane.proofs.Removed.{fits, stayed, rest_agrees, front_agrees, front_table, rest_table, counted_front, name_gone, name_stays}
use Rattle.ark_plane.proofs.Given.{given_free}
use Rattle.ark_host.proofs.Dropping.{HoldsArea, under_as, done_row, fault_row, drop_begins}
use Rattle.ark_caps.specs.declared.capability.Capability.{Capability}

module _ (host : Host) (size : ℕ) (past : History) (s : System) (a l : List ℕ) (place grant index : ℕ) (app : App) (st : Stands host size past s) (ok : MayGo host a l place grant index) (there : get_or host.apps.items place app ≡ app) where
  abbrev line : Line
  line = w.drop a l

  abbrev h : IsHeld host.grants past s a app
  h = held_there s host size past a st place app ok.place there

  abbrev f : HoldsArea past s a l app grant index
  f = under_as host size past s a l app st h (Ok (grant, index)) (sym (ok.area app there))

  its_closed : IsClosed f.held.object
  its_closed = f.shut (ok.shut app there)

  abbrev pub slot : Slot
  slot = f.t

  pub slot_held : Contains s.plane.slots slot
  slot_held = (slot_names s.plane.slots a l slot f.named).0

  its_app : a ≡ slot.app
  its_app = (slot_names s.plane.slots a l slot f.named).1

  its_label : l ≡ slot.label
  its_label = (slot_names s.plane.slots a l slot f.named).2

  pub agree : SlotsAgree size s.plane.slots
  agree = subst (λ (k : ℕ). SlotsAgree k s.plane.slots) st.plane.size st.plane.apart

  fine : s.plane.failed ≡ false
  fine = st.plane.failed ∙ ok.settled

  table : IsTableOf past (table_of s.plane.slots)
  table = subst (λ (u : Option Change). TableStands past s.plane.slots u) (st.plane.settled ok.settled) st.table

  abbrev rest : List Slot
  rest = without_slot slot s.plane.slots

  -- the change that the line begins
  pub begins : begun s (Some (Ok line)) ≡ Some (drops slot (object_at (machine_of s a) l))
  begins = drop_begins s a l h.holds.made f.held slot f.there its_closed f.named fine

  slot_fits : SlotFits size slot
  slot_fits = fits size s.plane.slots agree slot slot_held

  -- What came of the calls.

  module _ (well : Bool) (es : List Event) (made : Made (remove_calls index) well es) where
    calls_made : Made (remove_calls slot.index) well es
    calls_made = subst (λ (k : ℕ). Made (remove_calls k) well es) (sym f.index) made

    pub goes : GoesThrough past (table_of s.plane.slots) (removes slot.index) well es
    goes = removed past (table_of s.plane.slots) slot.index well es table slot_fits.index_low slot_fits.index_high calls_made

    own_place : slice_get (slots_for s.plane a line) 0 ≡ Some slot.index
    own_place = ap (λ (o : Option Slot). slice_get (own_index o) 0) f.named

    last_sync : (xs : List Event) → Made (calls.Syncs ∷ []) well xs → Follow s a line (syncs ∷ []) xs
    last_sync [] m = absurd m
    last_sync (e ∷ xs) m = step s a line syncs [] calls.Syncs [] well e xs refl (λ b is. syncs_at s a line b e is) (none xs) m
      where
        none : (zs : List Event) → Made [] well zs → Follow s a line [] zs
        none [] m = ended
        none (z ∷ zs) m = absurd m

    pub follows_from : (xs : List Event) → Made (remove_calls slot.index) well xs → Follow s a line (writes_slot ∷ syncs ∷ []) xs
    follows_from [] m = absurd m
    follows_from (e ∷ xs) m = step s a line writes_slot (syncs ∷ []) (calls.Writes slot.index zero_block) (calls.Syncs ∷ []) well e xs refl
        (λ b is. writes_at s a line (slice_get (slots_for s.plane a line) 0) slot.index zero_block zero_block b e is own_place refl) (last_sync xs) m

    -- no block of a slot that is held was written
    pub beside : (u : Slot) → Contains s.plane.slots u → AreBeside u.blocks es
    beside u held = made_beside u.blocks (remove_calls slot.index) well es
        ((λ low. let d = (slot_data host size past s st u slot.index held low).0 in let high = slot_fits.index_high in omega (arith, d, high)), tt) calls_made

    sync : ended_sync (ends_of es) ≡ has_synced es
    sync = made_sync (remove_calls slot.index) well es calls_made

    same_others : (b k : List ℕ) (u : Slot) → slot_of s.plane b k ≡ Some u → SameAt past (after past es) u.blocks
    same_others b k u is =
        let held = (slot_names s.plane.slots b k u is).0 in
        same_beside past es u.blocks (λ m among. slot_based host size past s st u m held among) (beside u held)

    -- what the application holds, with its machine after these calls
    abbrev then : Machine → Around
    then m = record (around s past a h.numbers app m) { history = after past es }

    passed : Holds (then (machine_of s a))
    passed = passing.beside (around s past a h.numbers app (machine_of s a)) es (record {
      beside = λ k u is. beside u (slot_names s.plane.slots a k u is).0;
      inside = λ k u m is among. slot_based host size past s st u m (slot_names s.plane.slots a k u is).0 among;
    }) h.holds

    heeded : (b : Bool) → has_synced es ≡ b → Holds (then (synced b (machine_of s a)))
    heeded false is = passed
    heeded true is = settles (then (machine_of s a)) passed (λ k u at j lt c left.
        let held = (slot_names s.plane.slots a k u at).0 in
        let among = Contains-get_or u.blocks j 0 lt in
        synced_alone past.base u.blocks es past.journal (get_or u.blocks j 0) (slot_based host size past s st u (get_or u.blocks j 0) held among) among (beside u held) is c left)

    change_is : change_of s.plane (machine_of s a) line ≡ Some (drops slot (object_at (machine_of s a) l))
    change_is = ap (λ (o : Option Slot). option_map (λ u. drops u (object_at (machine_of s a) l)) o) f.named

    -- The application without the area, beside the slots that stay.

    abbrev one : Machine
    one = synced_by (ends_of es) (each_object (lets_go l (serial_at (machine_of s a) l)) (without (machine_of s a) l))

    module _ (now : Host) (app1 : App) (loses : LosesArea app app1 l grant)
        (items : now.apps.items ≡ set host.apps.items place app1) (tables : now.plane.table ≡ with_slot host.plane.table index None) (grants : now.grants ≡ host.grants) (clock : now.clock ≡ host.clock) (addresses : now.plane.own ≡ host.plane.own)
        (p : Plane) (slots : p.slots ≡ rest) where
      abbrev later : System
      later = with_set s p a one

      other_slot : (b k : List ℕ) → is_slot_of b k slot ≡ false → slot_of p b k ≡ slot_of s.plane b k
      other_slot b k apart = ap (λ (ts : List Slot). find (λ v. is_slot_of b k v) ts) slots ∙ name_stays size s.plane.slots agree slot slot_held st.plane.named b k apart

      gone_slot : slot_of p a l ≡ None
      gone_slot =
          ap (λ (ts : List Slot). find (λ v. is_slot_of a l v) ts) slots
          ∙ ap (λ (b : List ℕ). find (λ v. is_slot_of b l v) rest) its_app
          ∙ ap (λ (k : List ℕ). find (λ v. is_slot_of slot.app k v) rest) its_label
          ∙ name_gone size s.plane.slots agree slot slot_held st.plane.named

      other_label : (k : List ℕ) → but l k ≡ true → is_slot_of a k slot ≡ false
      other_label k apart = ap (λ b. bytes_eq a slot.app && b) (ap (λ z. bytes_eq k z) (sym its_label) ∙ turned l k (not_but l k apart)) ∙ and-false (bytes_eq a slot.app)

      -- without the area, and with all cards and doors as they were
      abbrev middle : Machine → Around
      middle m = record (around later (after past es) a h.numbers app1 (without m l)) { tables = tables_of app.store app.devices }

      middle_holds : (b : Bool) (m : Machine) → m ≡ synced b (machine_of s a) → Holds (then m) → Holds (middle m)
      middle_holds b m is holds =
          let g : (z : Held) × (at m l ≡ Some z) × IsClosed z.object = subst (λ (n : Machine). (z : Held) × (at n l ≡ Some z) × IsClosed z.object) (sym is)
          (synced_at b (machine_of s a) l f.held f.there its_closed) in
          dropped (then m) (middle m) holds l f.cap f.labelled f.its_kind (area_in slot) f.kept g.0 g.1 g.2
          refl refl loses.labels (loses.areas ∙ ap (λ n. without_area app.areas n) (sym f.its_grant)) (ap (λ (n : ℕ). lookup (nat_eq n) app1.areas) f.its_grant ∙ loses.gone) refl refl refl
          (λ k apart. other_slot a k (other_label k apart)) gone_slot refl

      -- no label that stays has its grant
      gone_grant : (k : List ℕ) (c : Capability) → value_at app1.labels k ≡ Some c → c.grant ≡ f.cap.grant → ⊥
      gone_grant k c is same =
          let there = ap (λ (ls : Labels). value_at ls k) (sym loses.labels) ∙ is in
          let was = others_was l k c app.labels there in
          not_some (value_at app1.labels l) c (ap (λ (ls : Labels). value_at ls l) loses.labels ∙ others_gone l app.labels)
          (subst (λ (z : List ℕ). value_at app1.labels z ≡ Some c) (sym (h.holds.own.grants l k f.cap c f.labelled was (sym same))) is)

      -- no card is bound to it any more
      holds_gone : (b : Bool) (m : Machine) → m ≡ synced b (machine_of s a) → Holds (then m) → Holds (around later (after past es) a h.numbers app1 (each_object (lets_go l (serial_at (machine_of s a) l)) (without m l)))
      holds_gone b m is holds =
          subst (λ (z : Tables). Holds (record (around later (after past es) a h.numbers app1 (each_object (lets_go l (serial_at (machine_of s a) l)) (without m l))) { tables = z })) (sym (area_tables app app1 l grant f.cap.grant f.its_grant loses))
          (unbound_all (middle m) (middle_holds b m is holds) l (serial_at (machine_of s a) l) f.cap.grant (numbered (around s past a h.numbers app (machine_of s a)) l f.cap f.held h.holds f.labelled f.there)
          (ap (λ (ls : Labels). value_at ls l) loses.labels ∙ others_gone l app.labels) gone_grant)

      one_is : one ≡ each_object (lets_go l (serial_at (machine_of s a) l)) (without (synced (has_synced es) (machine_of s a)) l)
      one_is = ap (λ b. synced b (each_object (lets_go l (serial_at (machine_of s a) l)) (without (machine_of s a) l))) sync ∙ synced_given_up (has_synced es) (machine_of s a) l (serial_at (machine_of s a) l)

      one_made : one.made ≡ true
      one_made = ap (λ (m : Machine). m.made) one_is ∙ synced_made (has_synced es) (machine_of s a) ∙ h.holds.made

      one_now : one.now ≡ s.now
      one_now = ap (λ (m : Machine). m.now) one_is ∙ synced_now (has_synced es) (machine_of s a) ∙ st.same_now a

      own : IsHeld now.grants (after past es) later a app1
      own = record {
        numbers = h.numbers;
        holds = subst (λ (m : Machine). Holds (around later (after past es) a h.numbers app1 m)) (sym (set_here s p a one one_made ∙ one_is))
            (holds_gone (has_synced es) (synced (has_synced es) (machine_of s a)) refl (heeded (has_synced es) refl));
        below = λ k g is. let lt = h.below k g is in omega (arith, lt, grants);
        unused = λ g le. ap (λ (xs : AreaList). lookup (nat_eq g) xs) loses.areas ∙ without_none app.areas grant g (h.unused g (omega (arith, le, grants)));
      }

      now_app : (b : List ℕ) → app_of now.apps.items b ≡ cond (bytes_eq b a) (Some app1) (app_of host.apps.items b)
      now_app b = ap (λ (xs : List App). app_of xs b) items ∙ set_at host.apps.items a place app app1 ok.place there loses.name b

      -- a slot fewer is an area fewer of its application
      all_counted : (b : List ℕ) → slot_count b p.slots ≤ area_count (app_of now.apps.items b)
      all_counted b = subst (λ (o : Option App). slot_count b p.slots ≤ area_count o) (sym (now_app b)) (by_test (bytes_eq b a) (λ t. bytes_eq b a ≡ t → slot_count b p.slots ≤ area_count (cond t (Some app1) (app_of host.apps.items b)))
          (λ yes q.
          let same : b ≡ a = (bytes_eq-Decides b a).0 q in
          let its : app_of host.apps.items b ≡ Some app = ap (λ (c : List ℕ). app_of host.apps.items c) same ∙ (first_found (λ x. bytes_eq a x.name) host.apps.items place app ok.place).1 ∙ ap (λ x. Some x) there in
          let most : slot_count b s.plane.slots ≤ length app.areas = subst (λ (o : Option App). slot_count b s.plane.slots ≤ area_count o) its (st.plane.counted b) in
          let fewer = counted_front size slot b s.plane.slots agree.apart (contains_in s.plane.slots slot slot_held) in
          let one_less : bit (bytes_eq b slot.app) ≡ 1 = ap bit (ap (λ (c : List ℕ). bytes_eq b c) (sym its_app) ∙ q) in
          let counts : slot_count b p.slots ≡ slot_count b rest = ap (λ (ts : List Slot). slot_count b ts) slots in
          let shorter = one_fewer app.areas f.cap.grant (area_in slot) f.kept in
          let lengths : length app1.areas ≡ length (without_area app.areas f.cap.grant) = ap (λ (xs : AreaList). length xs) (loses.areas ∙ ap (λ n. without_area app.areas n) (sym f.its_grant)) in
          omega (arith, most, fewer, one_less, counts, shorter, lengths))
          (λ no q.
          let fewer = counted_front size slot b s.plane.slots agree.apart (contains_in s.plane.slots slot slot_held) in
          let counts : slot_count b p.slots ≡ slot_count b rest = ap (λ (ts : List Slot). slot_count b ts) slots in
          let most = st.plane.counted b in
          omega (arith, fewer, counts, most)) refl)

      its_table : now.plane.table ≡ table_of p.slots
      its_table =
          tables
          ∙ ap (λ (t : Table). with_slot t index None) st.plane.table
          ∙ ap (λ k. with_slot (table_of s.plane.slots) k None) (sym f.index)
          ∙ rest_table size s.plane.slots agree slot slot_held
          ∙ ap (λ (ts : List Slot). table_of ts) (sym slots)

      -- a slot that stays was there
      was_there : (u : Slot) → Contains p.slots u → Contains s.plane.slots u
      was_there u among = (stayed size s.plane.slots agree slot slot_held u (subst (λ (ts : List Slot). Contains ts u) slots among)).0

      all_named : AreNamed p
      all_named u among =
          other_slot u.app u.label (by_test (is_slot_of u.app u.label slot) (λ b. is_slot_of u.app u.label slot ≡ b → b ≡ false)
          (λ yes q. absurd (false≢true (sym (ap is_some (twice u among q)))))
          (λ no q. refl) refl) ∙ st.plane.named u (was_there u among)
        where
          -- no slot that stays has the name and the label of the one that goes
          twice : (v : Slot) → Contains p.slots v → is_slot_of v.app v.label slot ≡ true → ◌≡◌ {A = Option Slot} (Some v) None
          twice v has q = absurd ((stayed size s.plane.slots agree slot slot_held v (subst (λ (ts : List Slot). Contains ts v) slots has)).1
              (ap (λ (z : Slot). z.index) (some_same v slot (sym (st.plane.named v (was_there v has)) ∙ names v q ∙ st.plane.named slot slot_held))))
            where
              some_same : (x y : Slot) → Some x ≡ Some y → x ≡ y
              some_same x y e = cc

              names : (z : Slot) → is_slot_of z.app z.label slot ≡ true → slot_of s.plane z.app z.label ≡ slot_of s.plane slot.app slot.label
              names z e =
                  let both = and_parts (bytes_eq z.app slot.app) (bytes_eq z.label slot.label) e in
                  ap (λ (b : List ℕ). slot_of s.plane b z.label) ((bytes_eq-Decides z.app slot.app).0 both.0) ∙ ap (λ (k : List ℕ). slot_of s.plane slot.app k) ((bytes_eq-Decides z.label slot.label).0 both.1)

      all_apart : p.size ≡ s.plane.size → GrantsApart p
      all_apart same = subst (λ (n : ℕ). SlotsAgree n p.slots) (sym (same ∙ st.plane.size)) (subst (λ (ts : List Slot). SlotsAgree size ts) (sym slots) (rest_agrees size s.plane.slots agree slot slot_held))

      names_now : map (λ (x : App). x.name) now.apps.items ≡ s.plane.apps
      names_now = ap (λ (xs : List App). map (λ (x : App). x.name) xs) items ∙ names_set host.apps.items a place app app1 ok.place there loses.name ∙ sym st.plane.apps

      -- the slot that goes is none of another application's
      same_stored : (b : List ℕ) → bytes_eq b a ≡ false → stored_slots b p.slots ≡ stored_slots b s.plane.slots
      same_stored b apart =
          ap (λ (t : Table). own_slots b (slots_in 1 t)) (ap (λ (ts : List Slot). table_of ts) slots ∙ sym (rest_table size s.plane.slots agree slot slot_held))
          ∙ own_set b (table_of s.plane.slots) 1 (slot.index - 1) None
          (ap (λ (o : Option Area). is_of b o) (area_there size s.plane.slots agree.fit agree.apart slot (contains_in s.plane.slots slot slot_held)) ∙ ap (λ (z : List ℕ). bytes_eq b z) (sym its_app) ∙ apart) refl

      machines_now : (b : List ℕ) → AtApp now.grants (after past es) later b (app_of now.apps.items b)
      machines_now = set_apps s p a one one_made host.grants now.grants past (after past es) host.apps.items now.apps.items app1 (omega (arith, grants)) refl own
          (λ b q. now_app b ∙ ap (λ t. cond t (Some app1) (app_of host.apps.items b)) q)
          (λ b q. now_app b ∙ ap (λ t. cond t (Some app1) (app_of host.apps.items b)) q)
          (λ b k q. other_slot b k (ap (λ t. t && bytes_eq k slot.label) (ap (λ z. bytes_eq b z) (sym its_app) ∙ q)))
          (λ b k u q is. same_others b k u is) st.plane.apart st.plane.named same_stored st.machines

    -- A call failed: the slot is held no more, the table has failed, and a stop decides whether the slot is there.

    module _ (now : Host) (app1 : App) (loses : LosesArea app app1 l grant)
        (items : now.apps.items ≡ set host.apps.items place app1) (tables : now.plane.table ≡ with_slot host.plane.table index None) (grants : now.grants ≡ host.grants) (clock : now.clock ≡ host.clock) (addresses : now.plane.own ≡ host.plane.own) where
      module _ (failed : now.plane.failed ≡ true) (bad : well ≡ false) where
        abbrev lost : Plane
        lost = record s.plane { failed = true; unsettled = Some (drops slot (object_at (machine_of s a) l)); slots = rest }

        leaves : LeavesObject (after past es) slot (object_at (machine_of s a) l)
        leaves =
            let object : object_at (machine_of s a) l ≡ Some f.held.object = ap (λ (o : Option Held). option_map (λ (z : Held). z.object) o) f.there in
            subst (λ (o : Option Object). LeavesObject (after past es) slot o) (sym object)
            (left_stays past slot (Some f.held.object) es (record { inside = λ n among. slot_based host size past s st slot n slot_held among; left = f.left }) (beside slot slot_held))

        pub drop_lost : RowDone now size (after past es) s a line (drop_row s a l es (said.Refused r.DeviceFault)) es (said.Refused r.DeviceFault) []
        drop_lost = rw (fault_row s a l h.holds.made f.held slot f.there its_closed f.named fine es (said.Refused r.DeviceFault) (made_fault (remove_calls slot.index) well es calls_made ∙ ap not bad)) (record {
          said = refl;
          bytes = refl;
          calls = follows_from es calls_made;
          none = λ want. absurd (false≢true want);
          stands = subst (λ (c : Option Change). Stands now size (after past es) (with_set s (failed_change s.plane c) a one)) (sym change_is) (record {
            plane = record {
              size = st.plane.size;
              own = st.plane.own ∙ sym addresses;
              filters = st.plane.filters;
              apps = sym (names_now now app1 loses items tables grants clock addresses lost refl);
              table = its_table now app1 loses items tables grants clock addresses lost refl;
              failed = sym failed;
              free = λ no. absurd (false≢true (sym no ∙ failed));
              settled = λ no. absurd (false≢true (sym no ∙ failed));
              beside = front_agrees size s.plane.slots agree slot slot_held;
              apart = all_apart now app1 loses items tables grants clock addresses lost refl refl;
              named = all_named now app1 loses items tables grants clock addresses lost refl;
              counted = all_counted now app1 loses items tables grants clock addresses lost refl;
            };
            based = st.based;
            table = (subst (λ (t : Table). IsUnsettled (after past es) t (removes slot.index)) (sym (front_table size s.plane.slots agree slot slot_held)) (goes.failed bad), leaves);
            now = st.now ∙ sym clock;
            machines = machines_now now app1 loses items tables grants clock addresses lost refl;
            same_now = set_now s lost a one (one_made now app1 loses items tables grants clock addresses lost refl) (one_now now app1 loses items tables grants clock addresses lost refl) st.same_now;
          });
        })

      -- Each call succeeded: its blocks are free.

      module _ (failed : now.plane.failed ≡ host.plane.failed) (good : well ≡ true) (gains : Gains host.plane.free now.plane.free slot.blocks) (rises : IsStrictlyIncreasing now.plane.free) where
        abbrev done : Plane
        done = without_label (record s.plane { slots = rest }) a l

        free_now : free_blocks done ≡ now.plane.free
        free_now = given_free s.plane.size s.plane.slots st.plane.apart slot slot_held host.plane.free now.plane.free (st.plane.free ok.settled) gains rises

        no_filters : done.filters ≡ []
        no_filters = rw st.plane.filters refl

        pub drop_done : RowDone now size (after past es) s a line (drop_row s a l es said.Ok) es said.Ok []
        drop_done = rw (done_row s a l h.holds.made f.held slot f.there its_closed f.named fine es said.Ok (made_fault (remove_calls slot.index) well es calls_made ∙ ap not good)) (record {
          said = refl;
          bytes = refl;
          calls = follows_from es calls_made;
          none = λ want. absurd (false≢true want);
          stands = subst (λ (c : Option Change). Stands now size (after past es) (with_set s (without_label (changed s.plane c) a l) a one)) (sym change_is) (record {
            plane = record {
              size = st.plane.size;
              own = st.plane.own ∙ sym addresses;
              filters = no_filters;
              apps = sym (names_now now app1 loses items tables grants clock addresses done refl);
              table = its_table now app1 loses items tables grants clock addresses done refl;
              failed = st.plane.failed ∙ sym failed;
              free = λ no. free_now;
              settled = λ no. st.plane.settled (sym failed ∙ no);
              beside = subst (λ (u : Option Change). StandsBeside size rest u) (sym (st.plane.settled ok.settled)) tt;
              apart = all_apart now app1 loses items tables grants clock addresses done refl refl;
              named = all_named now app1 loses items tables grants clock addresses done refl;
              counted = all_counted now app1 loses items tables grants clock addresses done refl;
            };
            based = st.based;
            table = subst (λ (u : Option Change). TableStands (after past es) rest u) (sym (st.plane.settled ok.settled)) (subst (λ (t : Table). IsTableOf (after past es) t) (rest_table size s.plane.slots agree slot slot_held) (goes.done good));
            now = st.now ∙ sym clock;
            machines = machines_now now app1 loses items tables grants clock addresses done refl;
            same_now = set_now s done a one (one_made now app1 loses items tables grants clock addresses done refl) (one_now now app1 loses items tables grants clock addresses done refl) st.same_now;
          });
        })
