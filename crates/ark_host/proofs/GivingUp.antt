-- The word `drop` over a host: its refusals, an area that is given up, and one whose slot could not be removed.
use Rattle.std.proofs.Common.{◌≡◌, ℕ, Bool, true, false, not, List, [], ◌+◌, map, set, get_or, refl, sym, ◌∙◌, ap, subst, bytes_eq, arith}
use Rattle.std.specs.Prelude.{Option, Some, None, Ok, Err, if◌then◌else◌, filter as select, is_some, option_map, position}
use Rattle.std.specs.List.Sorted.{IsStrictlyIncreasing}
use Rattle.std.proofs.lemmas.Bool.{false≢true}
use Rattle.ark_base.specs.declared.refusal.Refusal.{Refusal}
use Rattle.ark_base.specs.declared.refusal.Refusal.TheVariants as r
use Rattle.ark_media.specs.Journal.{Event, History}
use Rattle.ark_media.specs.Calls.{Told, Makes as Made}
use Rattle.ark_media.proofs.Planning.{makes_devices}
use Rattle.ark_media.specs.Standing.{after}
use Rattle.ark_extents.specs.Blocks.{blocks_of, runs_of}
use Rattle.ark_extents.specs.Free.{Gains}
use Rattle.ark_extents.proofs.RunLemmas.{blocks_of-runs_of}
use Rattle.ark_caps.specs.Labels.{value_at}
use Rattle.ark_table.specs.Area.{Area}
use Rattle.ark_table.specs.Slots.{Slot, area_of}
use Rattle.ark_table.specs.Plans.{remove_calls}
use Rattle.ark_table.specs.Standing.{Table, slot_in, with_slot}
use Rattle.ark_script.specs.Line as w
use Rattle.ark_script.specs.Text.{wants_memory}
use Rattle.ark_script.specs.declared.said.Said.{Said}
use Rattle.ark_script.specs.declared.said.Said.TheVariants as said
use Rattle.ark_machine.specs.Machine.{Machine, object_at}
use Rattle.ark_machine.specs.Control as control
use Rattle.ark_machine.specs.Plane.{Plane, LiveFilter, drops, slot_of}
use Rattle.ark_machine.specs.Granting.{plane_after, changed, failed_change, without_label, is_filter_of, is_on, assigned}
use Rattle.ark_machine.specs.Step.{step}
use Rattle.ark_machine.specs.System.{System, machine_of}
use Rattle.ark_machine.specs.Fronts.{AtEachFront}
use Rattle.ark_caps.specs.declared.capability.Capability.{Capability}
use Rattle.ark_caps.specs.declared.capability.CapKind.{CapKind}
use Rattle.ark_caps.specs.declared.capability.CapKind.TheVariants as cap_kind
use Rattle.ark_held.specs.Does.{Acts, GivesUpNet}
use Rattle.ark_held.specs.Held.{is_shared, is_shared_kind, is_area, is_area_cap, is_net, is_net_kind}
use Rattle.ark_held.specs.Words.{slot_under}
use Rattle.ark_held.proofs.Members.{contains_in}
use Rattle.ark_held.specs.declared.app.App.{App}
use Rattle.ark_host.specs.declared.host.Host.{Host}
use Rattle.ark_plane.specs.Tables.{table_of}
use Rattle.ark_host.specs.Stands.{Stands, Stood, Steps, RowDone, LineDone, IsHeld, IsHeldBack, IsEarly, IsItsNet, IsItsOwn, MayGo, drop_row}
use Rattle.ark_host.proofs.Standing.{refused, same_apps, slot_fits}
use Rattle.ark_host.proofs.Apps.{not_made, held_there}
use Rattle.ark_host.proofs.Lifting.{acted_by, quiet_steps}
use Rattle.ark_held.specs.OpenLogs.{opened_on}
use Rattle.ark_held.proofs.Unbound.{LosesArea}
use Rattle.ark_host.proofs.Contents.{logs_open}
use Rattle.ark_host.proofs.Recovering.{removed_fronts}
use Rattle.ark_host.proofs.Stepping.{early_enough}
use Rattle.ark_plane.proofs.Tabling.{area_there}
use Rattle.ark_host.proofs.Dropping.{HoldsArea, Under, HeldBack, under_as, drop_unmade, drop_missing, drop_failed, drop_busy}
use Rattle.ark_host.proofs.Dropped.{slot, slot_held, agree, begins, goes, beside, drop_lost, drop_done}

-- the turn of a line is its row
drop_answered : (host : Host) (size : ℕ) (past : History) (s : System) (a l : List ℕ) (es : List Event) (reply : Said) (shown : List ℕ) → wants_memory reply ≡ false
    → RowDone host size past s a (w.drop a l) (drop_row s a l es reply) es reply shown → LineDone host size past s (Ok (w.drop a l)) es reply shown
unfolding step
drop_answered host size past s a l es reply shown has t = record { said = t.said; bytes = t.bytes; calls = t.calls; none = t.none; memory = rw has tt; stands = t.stands }

early_plane : (e : Refusal) (p : Plane) (m : Machine) (a l : List ℕ) → IsEarly e → plane_after p m (w.drop a l) (said.Refused e) ≡ p
early_plane r.DeviceFault p m a l early = absurd early
early_plane _ p m a l early = refl

-- Refusals.

module _ (host : Host) (a l : List ℕ) where
  pub steps_back : (now : Host) (told : Told) (e : Refusal) → IsHeldBack host a l e → IsEarly e → now.apps.items ≡ host.apps.items → now.plane.free ≡ host.plane.free → now.plane.table ≡ host.plane.table → now.plane.failed ≡ host.plane.failed → now.grants ≡ host.grants → now.clock ≡ host.clock → now.plane.own ≡ host.plane.own
      → Steps host now told (Ok (w.drop a l)) [] (said.Refused e) []
  steps_back now told e is early apps free table failed grants clock addresses =
      quiet_steps host now told (Ok (w.drop a l)) (said.Refused e) (said.Refused e) [] refl refl
      (λ s h st. drop_answered now told.blocks h s a l [] (said.Refused e) [] (early_enough e early)
      (refused now told.blocks h s a (w.drop a l) _ e (early_plane e s.plane (machine_of s a) a l early) (is told.blocks h s st) (same_apps host now told.blocks h s apps free table failed grants clock addresses st)))

  pub back_unmade : position (λ app. bytes_eq a app.name) host.apps.items ≡ None → IsHeldBack host a l r.NoApplication
  back_unmade none size h s st = drop_unmade s a l (not_made s host size h a st none)

  module _ (place : ℕ) (app : App) (at : position (λ x. bytes_eq a x.name) host.apps.items ≡ Some place) (there : get_or host.apps.items place app ≡ app) where
    -- the application has no area there, nor anything else that it gives up
    pub back_none : is_shared (value_at app.labels l) ≡ true → (e : Refusal) → Err e ≡ slot_under app.labels app.areas l → IsHeldBack host a l e
    back_none shared e is size past s st =
        let h = held_there s host size past a st place app at there in
        by e h.holds.made (under_as host size past s a l app st h (Err e) is)
      where
        by : (x : Refusal) → (machine_of s a).made ≡ true → Under host size past s a l app st (held_there s host size past a st place app at there) (Err x) → HeldBack s a l x
        by (r.NoGrant k) made m = subst (λ (z : List ℕ). HeldBack s a l (r.NoGrant z)) (sym m.0) (drop_missing s a l made m.1)
        by r.WrongKind made m = absurd (false≢true (sym m ∙ shared))
        by _ made m = absurd m

    pub back_failed : (grant index : ℕ) → Ok (grant, index) ≡ slot_under app.labels app.areas l → host.plane.failed ≡ true → IsHeldBack host a l r.TableFailed
    back_failed grant index is bad size past s st =
        let h = held_there s host size past a st place app at there in
        let f : HoldsArea past s a l app grant index = under_as host size past s a l app st h (Ok (grant, index)) is in
        drop_failed s a l h.holds.made f.held f.t f.there f.area f.named (st.plane.failed ∙ bad)

    -- its log is open on a card
    pub back_busy : (grant index : ℕ) → Ok (grant, index) ≡ slot_under app.labels app.areas l → host.plane.failed ≡ false → (o : Option Capability) → is_some o ≡ true → o ≡ option_map (λ p. p.1) (opened_on app.devices.cards grant app.labels)
        → IsHeldBack host a l r.Busy
    back_busy grant index is well o some found size past s st =
        let h = held_there s host size past a st place app at there in
        let f : HoldsArea past s a l app grant index = under_as host size past s a l app st h (Ok (grant, index)) is in
        by (opened_on app.devices.cards grant app.labels) refl (ap is_some (sym found) ∙ some) f h
      where
        by : (z : Option (List ℕ × Capability)) → opened_on app.devices.cards grant app.labels ≡ z → is_some (option_map (λ p. p.1) z) ≡ true → (f : HoldsArea past s a l app grant index) → (h : IsHeld host.grants past s a app) → HeldBack s a l r.Busy
        by (Some p) e there_is f h = drop_busy s a l h.holds.made f.held f.t f.there f.area f.named (st.plane.failed ∙ well) (f.used p e)
        by None e there_is f h = absurd (false≢true there_is)

-- The device was called.

module _ (host : Host) (a l : List ℕ) (place grant index : ℕ) (app : App) (ok : MayGo host a l place grant index) (there : get_or host.apps.items place app ≡ app) where
  -- the slot is the one of the table, with its blocks
  its_area : (size : ℕ) (past : History) (s : System) (st : Stands host size past s) → slot_in host.plane.table index ≡ Some (area_of (slot host size past s a l place grant index app st ok there))
  its_area size past s st =
      let h = held_there s host size past a st place app ok.place there in
      let f : HoldsArea past s a l app grant index = under_as host size past s a l app st h (Ok (grant, index)) (sym (ok.area app there)) in
      ap (λ (t : Table). slot_in t index) st.plane.table
      ∙ ap (λ k. slot_in (table_of s.plane.slots) k) (sym f.index)
      ∙ area_there s.plane.size s.plane.slots st.plane.apart.fit st.plane.apart.apart f.t (contains_in s.plane.slots f.t (slot_held host size past s a l place grant index app st ok there))

  -- so there is one
  pub back_gone : (e : Refusal) → slot_in host.plane.table index ≡ None → IsHeldBack host a l e
  back_gone e none size past s st = absurd (false≢true (ap is_some (sym none ∙ its_area size past s st)))

  pub back_zero : (e : Refusal) → index ≡ 0 → IsHeldBack host a l e
  back_zero e zero size past s st =
      let h = held_there s host size past a st place app ok.place there in
      let f : HoldsArea past s a l app grant index = under_as host size past s a l app st h (Ok (grant, index)) (sym (ok.area app there)) in
      let low = (slot_fits host size past s st f.t (slot_held host size past s a l place grant index app st ok there)).index_low in
      absurd (omega (arith, low, f.index, zero))

  module _ (now : Host) (told : Told) (es : List Event) (app1 : App) (loses : LosesArea app app1 l grant)
      (items : now.apps.items ≡ set host.apps.items place app1) (tables : now.plane.table ≡ with_slot host.plane.table index None) (grants : now.grants ≡ host.grants) (clock : now.clock ≡ host.clock) (addresses : now.plane.own ≡ host.plane.own) where
    fronts : (well : Bool) → Made (remove_calls index) well es → (s : System) (h : History) → Stood host told h es s → AtEachFront h.base h.journal s (Some (Ok (w.drop a l))) es
    fronts well made s h stood =
        removed_fronts host told.blocks h s stood.stands (Some (Ok (w.drop a l))) (slot host told.blocks h s a l place grant index app stood.stands ok there) (object_at (machine_of s a) l) well es
        (agree host told.blocks h s a l place grant index app stood.stands ok there) (slot_held host told.blocks h s a l place grant index app stood.stands ok there)
        (begins host told.blocks h s a l place grant index app stood.stands ok there)
        (goes host told.blocks h s a l place grant index app stood.stands ok there well es made)
        (logs_open host told.blocks h s stood.stands es (λ u held. beside host told.blocks h s a l place grant index app stood.stands ok there well es made u held))

    pub steps_gone_lost : Made (remove_calls index) false es → now.plane.failed ≡ true → Steps host now told (Ok (w.drop a l)) es (said.Refused r.DeviceFault) []
    steps_gone_lost made failed = record {
      devices = makes_devices (remove_calls index) false es made;
      answered = λ s h stood. drop_answered now told.blocks (after h es) s a l es (said.Refused r.DeviceFault) [] refl
          (drop_lost host told.blocks h s a l place grant index app stood.stands ok there false es made now app1 loses items tables grants clock addresses failed refl);
      fronts = fronts false made;
    }

    pub steps_gone : Made (remove_calls index) true es → now.plane.failed ≡ host.plane.failed → (area : Area) (spans : List ℕ) → slot_in host.plane.table index ≡ Some area → area.runs ≡ runs_of spans → Gains host.plane.free now.plane.free spans → IsStrictlyIncreasing now.plane.free
        → Steps host now told (Ok (w.drop a l)) es said.Ok []
    steps_gone made failed area spans used runs gains rises = record {
      devices = makes_devices (remove_calls index) true es made;
      answered = λ s h stood. drop_answered now told.blocks (after h es) s a l es said.Ok [] refl
          (drop_done host told.blocks h s a l place grant index app stood.stands ok there true es made now app1 loses items tables grants clock addresses failed refl
          (subst (λ (bs : List ℕ). Gains host.plane.free now.plane.free bs) (sym (same_blocks told.blocks h s stood.stands)) gains) rises);
      fronts = fronts true made;
    }
      where
        same_some : (x y : Area) → Some x ≡ Some y → x ≡ y
        same_some x y e = cc

        same_blocks : (size : ℕ) (past : History) (s : System) (st : Stands host size past s) → (slot host size past s a l place grant index app st ok there).blocks ≡ spans
        same_blocks size past s st =
            let t = slot host size past s a l place grant index app st ok there in
            sym (blocks_of-runs_of t.blocks) ∙ ap (λ (x : Area). blocks_of x.runs) (same_some (area_of t) area (sym (its_area size past s st) ∙ used)) ∙ ap blocks_of runs ∙ blocks_of-runs_of spans

-- What the application alone knows of.

plane_stays : (p : Plane) (m : Machine) (a l : List ℕ) → slot_of p a l ≡ None → p.filters ≡ [] → (x : Said) → plane_after p m (w.drop a l) x ≡ p
plane_stays p m a l no_slot none said.Ok =
    ap (λ (o : Option Slot). without_label (changed p (option_map (λ t. drops t (object_at m l)) o)) a l) no_slot
    ∙ ap (λ (fs : List LiveFilter). record p { filters = map (λ f. if is_on a l f then assigned None f else f) (select (λ f. not (is_filter_of a l f)) fs) }) none
    ∙ ap (λ (fs : List LiveFilter). record p { filters = fs }) (sym none)
plane_stays p m a l no_slot none (said.Refused e) = by e
  where
    by : (e : Refusal) → plane_after p m (w.drop a l) (said.Refused e) ≡ p
    by r.DeviceFault = ap (λ (o : Option Slot). failed_change p (option_map (λ t. drops t (object_at m l)) o)) no_slot
    by _ = refl
plane_stays p m a l no_slot none _ = refl

unshared : (o : Option Capability) → is_shared o ≡ false → is_area_cap o ≡ false
unshared None is = refl
unshared (Some c) is = by c.kind is
  where
    by : (k : CapKind) → is_shared_kind k ≡ false → is_area k ≡ false
    by cap_kind.Vsa is = is
    by _ is = refl

module _ (host : Host) (a l : List ℕ) (place : ℕ) (app : App) (own : IsItsOwn host a l place) (there : get_or host.apps.items place app ≡ app) (now : Host) (told : Told) (app1 : App) (reply : Said) where
  -- it goes, or is refused, as in its application
  pub steps_own : wants_memory reply ≡ false → now.apps.items ≡ set host.apps.items place app1 → now.plane.free ≡ host.plane.free → now.grants ≡ host.grants + 1 → now.plane.table ≡ host.plane.table → now.plane.failed ≡ host.plane.failed → now.clock ≡ host.clock → now.plane.own ≡ host.plane.own
      → Acts told app app1 (λ m g. control.drop m l g) [] reply [] → Steps host now told (Ok (w.drop a l)) [] reply []
  unfolding step
  steps_own enough items free grants table failed clock addresses acts =
      acted_by host now told a (w.drop a l) place app app1 [] reply [] refl refl
      (λ s past st h x. plane_stays s.plane (machine_of s a) a l (h.holds.unlisted l (unshared (value_at app.labels l) (own.own app there))) st.plane.filters x)
      (λ m g none lacks. absurd (false≢true lacks)) own.place there (λ no. enough) items free grants table failed clock addresses refl (λ r g rules tick came nic is fresh sited h. (acts host.grants host.clock).does r g tick came is fresh sited h)

-- A network card.

net_area : (o : Option Capability) → is_net o ≡ true → is_area_cap o ≡ false
net_area None net = refl
net_area (Some c) net = by c.kind net
  where
    by : (k : CapKind) → is_net_kind k ≡ true → is_area k ≡ false
    by cap_kind.Vsa net = absurd (false≢true net)
    by _ net = refl

module _ (host : Host) (a l : List ℕ) (place : ℕ) (app : App) (own : IsItsNet host a l place) (there : get_or host.apps.items place app ≡ app) (now : Host) (told : Told) (app1 : App) (reply : Said) where
  -- it goes, or is refused, as in its application
  pub steps_net : wants_memory reply ≡ false → now.apps.items ≡ set host.apps.items place app1 → now.plane.free ≡ host.plane.free → now.grants ≡ host.grants + 1 → now.plane.table ≡ host.plane.table → now.plane.failed ≡ host.plane.failed → now.clock ≡ host.clock → now.plane.own ≡ host.plane.own
      → GivesUpNet app app1 (λ m g. control.drop m l g) reply → Steps host now told (Ok (w.drop a l)) [] reply []
  unfolding step
  steps_net enough items free grants table failed clock addresses gives =
      acted_by host now told a (w.drop a l) place app app1 [] reply [] refl refl
      (λ s past st h x. plane_stays s.plane (machine_of s a) a l (h.holds.unlisted l (net_area (value_at app.labels l) (own.net app there))) st.plane.filters x)
      (λ m g none lacks. absurd (false≢true lacks)) own.place there (λ no. enough) items free grants table failed clock addresses refl (λ r g rules tick came nic is fresh sited h. gives r g host.grants rules came h)
