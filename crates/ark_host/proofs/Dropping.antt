-- The row of `drop`, as a host comes to it: what is under the label, its refusals, and what it is with the device events of a removal.
use Rattle.std.proofs.Common.{◌≡◌, ℕ, true, false, List, [], ◌∷◌, nat_eq, refl, sym, ◌∙◌, ap, subst, Contains}
use Rattle.std.specs.Prelude.{Option, Some, None, Result, Ok, Err, is_some}
use Rattle.std.specs.Map.{lookup}
use Rattle.ark_base.specs.declared.refusal.Refusal.{Refusal}
use Rattle.ark_base.specs.declared.refusal.Refusal.TheVariants as r
use Rattle.ark_base.specs.declared.kind.Kind.{Kind}
use Rattle.ark_base.specs.declared.kind.Kind.TheVariants as kind
use Rattle.ark_media.specs.Journal.{Event, History}
use Rattle.ark_entry.specs.Found.{found_of}
use Rattle.ark_caladan.specs.Chain.{Log, Opened, lists}
use Rattle.ark_caps.specs.Labels.{value_at}
use Rattle.ark_caps.specs.declared.capability.Capability.{Capability}
use Rattle.ark_caps.specs.declared.capability.CapKind.{CapKind}
use Rattle.ark_caps.specs.declared.capability.CapKind.TheVariants as cap_kind
use Rattle.ark_table.specs.Slots.{Slot}
use Rattle.ark_script.specs.Line as w
use Rattle.ark_script.specs.declared.said.Said.{Said}
use Rattle.ark_script.specs.declared.said.Said.TheVariants as said
use Rattle.ark_machine.specs.Objects
use Rattle.ark_machine.specs.Objects.{Object, is_vsa, is_buffer}
use Rattle.ark_machine.specs.Machine.{Held, at, object_at, serial_at, each_object, without}
use Rattle.ark_machine.specs.Control.{is_in_use, lets_go}
use Rattle.ark_machine.specs.Row.{Row, says, answer, has_fault, synced_by, writes_slot, syncs}
use Rattle.ark_machine.specs.Step.{step}
use Rattle.ark_machine.specs.Plane.{drops, slot_of}
use Rattle.ark_machine.specs.System.{System, machine_of}
use Rattle.ark_machine.specs.Recovers.{begun, begun_with}
use Rattle.ark_machine.specs.Follow.{ends_of}
use Rattle.ark_held.specs.Words.{area_in, grant_slot, slot_of_kind, slot_of_cap, slot_under}
use Rattle.ark_held.specs.Areas.{MayShow, OpensToLists}
use Rattle.ark_held.specs.OpenLogs.{opened_on}
use Rattle.ark_held.specs.Around.{Around}
use Rattle.ark_held.specs.Held.{IsObjectOf, AtLabel, is_shared, is_shared_kind}
use Rattle.ark_held.proofs.Lists.{not_some, some_same}
use Rattle.ark_held.proofs.OpenCards.{open_there, is_there, shut}
use Rattle.ark_held.proofs.Dropped.{IsClosed}
use Rattle.ark_held.proofs.Finding.{found}
use Rattle.ark_held.specs.declared.areas.Area.{Area}
use Rattle.ark_held.specs.declared.app.App.{App}
use Rattle.ark_host.specs.declared.host.Host.{Host}
use Rattle.ark_host.specs.Tabled.{LeavesAs}
use Rattle.ark_host.specs.Stands.{Stands, IsHeld, beyond, around, drop_row}

-- an area that is held under a label, by its grant and slot: it is in use where the code finds a card on which it is open
pub record HoldsArea (past : History) (s : System) (a l : List ℕ) (app : App) (grant slot : ℕ) : Type 0 where
  pub cap : Capability
  pub labelled : value_at app.labels l ≡ Some cap
  pub its_kind : cap.kind ≡ cap_kind.Vsa
  pub its_grant : cap.grant ≡ grant
  pub held : Held
  pub there : at (machine_of s a) l ≡ Some held
  pub area : (is_buffer held.object ≡ false) × (is_vsa held.object ≡ true)
  pub shut : opened_on app.devices.cards grant app.labels ≡ None → IsClosed held.object
  pub used : (p : List ℕ × Capability) → opened_on app.devices.cards grant app.labels ≡ Some p → is_in_use (machine_of s a) l held.object ≡ true
  pub t : Slot
  pub named : slot_of s.plane a l ≡ Some t
  pub index : t.index ≡ slot
  pub kept : lookup (nat_eq cap.grant) app.areas ≡ Some (area_in t)
  pub left : LeavesAs past t.blocks t.kind (Some held.object)

module _ (host : Host) (size : ℕ) (past : History) (s : System) (a l : List ℕ) (app : App) (st : Stands host size past s) (h : IsHeld host.grants past s a app) where
  abbrev x : Around
  x = around s past a h.numbers app (machine_of s a)

  -- what is found, and what the machine has there
  abbrev pub Under : Result (ℕ × ℕ) Refusal → Type 0
  Under (Ok p) = HoldsArea past s a l app p.0 p.1
  Under (Err (r.NoGrant k)) = (k ≡ l) × (at (machine_of s a) l ≡ None)
  Under (Err r.WrongKind) = is_shared (value_at app.labels l) ≡ false
  Under (Err _) = ⊥

  as_log : (blocks : List ℕ) (k : Kind) (g : Log) → k ≡ g.kind → (g.kind ≡ kind.Raw → ⊥) → OpensToLists past blocks g → LeavesAs past blocks k (Some (Objects.log g))
  as_log blocks kind.Raw g same none opens = absurd (none (sym same))
  as_log blocks kind.Log g same none opens = subst (λ (k : Kind). (contents : List (List ℕ)) → MayShow past blocks contents → Contains (lists g) (found_of k contents)) (sym same) opens
  as_log blocks kind.Queue g same none opens = subst (λ (k : Kind). (contents : List (List ℕ)) → MayShow past blocks contents → Contains (lists g) (found_of k contents)) (sym same) opens

  -- it is in use where it is found open
  in_use : (c : Capability) → value_at app.labels l ≡ Some c → (p : List ℕ × Capability) → opened_on app.devices.cards c.grant app.labels ≡ Some p → (g : Held) → at (machine_of s a) l ≡ Some g → is_in_use (machine_of s a) l g.object ≡ true
  in_use c is p found g there =
      let r = beyond s past a h.numbers (machine_of s a) in
      let o = open_there r app h.holds l c is p found in
      let same : g ≡ o.held = some_same (at (machine_of s a) l) g o.held there (is_there r app h.holds l c is p found) in
      ap (λ (z : Held). is_in_use (machine_of s a) l z.object) same ∙ ap (λ (z : Object). is_in_use (machine_of s a) l z) o.object ∙ ap (λ (z : Option Opened). is_some z) o.is_open

  area_found : (c : Capability) (g : Held) (o : Object) (t : Slot) → value_at app.labels l ≡ Some c → at (machine_of s a) l ≡ Some g → g.object ≡ o → c.kind ≡ cap_kind.Vsa → lookup (nat_eq c.grant) app.areas ≡ Some (area_in t) → slot_of s.plane a l ≡ Some t → (is_buffer o ≡ false) × (is_vsa o ≡ true) → (opened_on app.devices.cards c.grant app.labels ≡ None → IsClosed o) → LeavesAs past t.blocks t.kind (Some o)
      → Under (slot_of_kind app.areas c.kind c.grant)
  area_found c g o t is there same its_kind kept named plain closed left =
      subst (λ (k : CapKind). Under (slot_of_kind app.areas k c.grant)) (sym its_kind)
      (subst (λ (o : Option Area). Under (grant_slot c.grant o)) (sym kept)
      (record {
        cap = c;
        labelled = is;
        its_kind = its_kind;
        its_grant = refl;
        held = g;
        there = there;
        area = subst (λ (z : Object). (is_buffer z ≡ false) × (is_vsa z ≡ true)) (sym same) plain;
        shut = λ none. subst (λ (z : Object). IsClosed z) (sym same) (closed none);
        used = λ p found. in_use c is p found g there;
        t = t;
        named = named;
        index = refl;
        kept = kept;
        left = subst (λ (z : Object). LeavesAs past t.blocks t.kind (Some z)) (sym same) left;
      }))

  of_kind : (c : Capability) (k : CapKind) → c.kind ≡ k → Under (slot_of_kind app.areas k c.grant) → Under (slot_of_kind app.areas c.kind c.grant)
  of_kind c k its u = subst (λ (z : CapKind). Under (slot_of_kind app.areas z c.grant)) (sym its) u

  plain : (c : Capability) (k : CapKind) → value_at app.labels l ≡ Some c → c.kind ≡ k → is_shared_kind k ≡ false → is_shared (value_at app.labels l) ≡ false
  plain c k is its other = ap is_shared is ∙ ap is_shared_kind its ∙ other

  by_object : (c : Capability) (g : Held) (o : Object) → value_at app.labels l ≡ Some c → at (machine_of s a) l ≡ Some g → g.object ≡ o → IsObjectOf x l c o → Under (slot_of_kind app.areas c.kind c.grant)
  by_object c g (Objects.raw z) is there same f =
      area_found c g (Objects.raw z) f.slot is there same f.its_kind f.kept f.there (refl, refl) (λ none. tt)
      (subst (λ (k : Kind). LeavesAs past f.slot.blocks k (Some (Objects.raw z))) (sym f.raw) (λ k lt c left. f.fits.maybe k lt c left))
  by_object c g (Objects.log z) is there same f =
      area_found c g (Objects.log z) f.slot is there same f.its_kind f.kept f.there (refl, refl) (shut (beyond s past a h.numbers (machine_of s a)) app h.holds l c is f.slot.blocks z z.opened refl f.opened) (as_log f.slot.blocks f.slot.kind z f.same_kind f.no_raw f.listed.left)
  by_object c g (Objects.vsic z) is there same f = of_kind c cap_kind.Vsic f.its_kind (plain c cap_kind.Vsic is f.its_kind refl)
  by_object c g (Objects.vnic z) is there same f = of_kind c cap_kind.Vnic f.its_kind (plain c cap_kind.Vnic is f.its_kind refl)
  by_object c g (Objects.filter z q) is there same f = absurd (not_some None f.live refl f.kept)
  by_object c g (Objects.door z) is there same f = of_kind c cap_kind.Door f.its_kind (plain c cap_kind.Door is f.its_kind refl)
  by_object c g (Objects.rate z q) is there same f = of_kind c cap_kind.Rate f.its_kind (plain c cap_kind.Rate is f.its_kind refl)
  by_object c g (Objects.buffer z) is there same f = of_kind c cap_kind.Buf f.its_kind (plain c cap_kind.Buf is f.its_kind refl)
  by_object c g (Objects.socket z) is there same f = of_kind c cap_kind.Sock f.its_kind (plain c cap_kind.Sock is f.its_kind refl)

  by_label : (c : Option Capability) (o : Option Held) → value_at app.labels l ≡ c → at (machine_of s a) l ≡ o → AtLabel x l c o → Under (slot_of_cap app.areas l c)
  by_label None None is there m = (refl, there)
  by_label (Some c) (Some g) is there m = by_object c g g.object is there refl m.object
  by_label None (Some g) is there m = absurd m
  by_label (Some c) None is there m = absurd m

  pub under : Under (slot_under app.labels app.areas l)
  under = by_label (value_at app.labels l) (at (machine_of s a) l) refl refl (found x l app.labels (machine_of s a).held h.holds.held)

  pub under_as : (o : Result (ℕ × ℕ) Refusal) → o ≡ slot_under app.labels app.areas l → Under o
  under_as o is = subst (λ (z : Result (ℕ × ℕ) Refusal). Under z) (sym is) under

module _ (s : System) (a l : List ℕ) where
  -- the line is refused so before any device call
  abbrev pub HeldBack : Refusal → Type 0
  HeldBack e = drop_row s a l [] (said.Refused e) ≡ says (machine_of s a) (said.Refused e)

  pub drop_unmade : (machine_of s a).made ≡ false → HeldBack r.NoApplication
  unfolding answer
  drop_unmade made = rw made refl

  module _ (made : (machine_of s a).made ≡ true) where
    pub drop_missing : at (machine_of s a) l ≡ None → HeldBack (r.NoGrant l)
    unfolding answer
    drop_missing none = rw (made, none) refl

    module _ (g : Held) (t : Slot) (there : at (machine_of s a) l ≡ Some g) (plain : (is_buffer g.object ≡ false) × (is_vsa g.object ≡ true)) (named : slot_of s.plane a l ≡ Some t) where
      pub drop_failed : s.plane.failed ≡ true → HeldBack r.TableFailed
      unfolding answer
      drop_failed bad = let b = plain.0 in let v = plain.1 in rw (made, there, b, v, named, bad) refl

      pub drop_busy : s.plane.failed ≡ false → is_in_use (machine_of s a) l g.object ≡ true → HeldBack r.Busy
      unfolding answer
      drop_busy fine used = let b = plain.0 in let v = plain.1 in rw (made, there, b, v, used, named, fine) refl

    module _ (g : Held) (t : Slot) (there : at (machine_of s a) l ≡ Some g) (closed : IsClosed g.object) (named : slot_of s.plane a l ≡ Some t) where
      -- an area is no buffer, and it is not in use where no card is open on it
      facts : (o : Object) → IsClosed o → (is_buffer o ≡ false) × (is_vsa o ≡ true) × (is_in_use (machine_of s a) l o ≡ false)
      facts (Objects.raw z) c = (refl, refl, refl)
      facts (Objects.log z) c = (refl, refl, ap (λ (o : Option Opened). is_some o) c)
      facts _ c = absurd c

      no_buffer : is_buffer g.object ≡ false
      no_buffer = (facts g.object closed).0

      area : is_vsa g.object ≡ true
      area = (facts g.object closed).1

      unused : is_in_use (machine_of s a) l g.object ≡ false
      unused = (facts g.object closed).2

      module _ (fine : s.plane.failed ≡ false) where
        -- the row where each call succeeded
        pub done_row : (es : List Event) (reply : Said) → has_fault (ends_of es) ≡ false
            → drop_row s a l es reply ≡ record { machine = synced_by (ends_of es) (each_object (lets_go l (serial_at (machine_of s a) l)) (without (machine_of s a) l)); said = said.Ok; bytes = []; calls = writes_slot ∷ syncs ∷ [] }
        unfolding answer
        done_row es reply well = let b = no_buffer in let v = area in let u = unused in rw (made, there, b, v, u, named, fine, well) refl

        -- and where one failed
        pub fault_row : (es : List Event) (reply : Said) → has_fault (ends_of es) ≡ true
            → drop_row s a l es reply ≡ record { machine = synced_by (ends_of es) (each_object (lets_go l (serial_at (machine_of s a) l)) (without (machine_of s a) l)); said = said.Refused r.DeviceFault; bytes = []; calls = writes_slot ∷ syncs ∷ [] }
        unfolding answer
        fault_row es reply bad = let b = no_buffer in let v = area in let u = unused in rw (made, there, b, v, u, named, fine, bad) refl

        change_is : begun_with s (w.drop a l) a (writes_slot ∷ syncs ∷ []) ≡ Some (drops t (object_at (machine_of s a) l))
        change_is = rw named refl

        -- the change that the line begins
        pub drop_begins : begun s (Some (Ok (w.drop a l))) ≡ Some (drops t (object_at (machine_of s a) l))
        unfolding step
        drop_begins = ap (λ (row : Row). begun_with s (w.drop a l) a row.calls) (done_row [] said.Ok refl) ∙ change_is
