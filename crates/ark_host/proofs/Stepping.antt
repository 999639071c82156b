-- The word `vsa` over a host: its refusals, an area that is granted, and one whose granting failed.
use Rattle.std.proofs.Common.{◌≡◌, ℕ, ◌+◌, ◌^◌, ◌<◌, ◌≤◌, Bool, true, false, ◌||◌, List, [], ◌∷◌, ◌++◌, length, take, drop, set, get_or, nat_le, refl, sym, ap, subst, bytes_eq}
use Rattle.std.specs.Prelude.{Option, Some, None, Ok, position, is_some, unwrap_or}
use Rattle.std.proofs.lemmas.Bool.{false≢true}
use Rattle.ark_base.specs.Name.{is_name}
use Rattle.ark_base.specs.declared.kind.Kind.{Kind}
use Rattle.ark_base.specs.declared.refusal.Refusal.{Refusal}
use Rattle.ark_base.specs.declared.refusal.Refusal.TheVariants as r
use Rattle.ark_media.specs.Journal.{Event, History}
use Rattle.ark_media.specs.Calls.{Told, Makes as Made}
use Rattle.ark_media.proofs.Planning.{makes_devices}
use Rattle.ark_extents.specs.Blocks.{blocks_of, runs_of}
use Rattle.ark_caps.specs.Labels.{value_at}
use Rattle.ark_caps.specs.declared.capability.Capability.{Capability}
use Rattle.ark_table.specs.Area.{Area}
use Rattle.ark_table.specs.Plans.{create_calls, grant_calls}
use Rattle.ark_table.specs.Standing.{with_slot}
use Rattle.ark_table.specs.Using.{IsLeastFree, IsFull}
use Rattle.ark_script.specs.Arguments.{fewest_blocks}
use Rattle.ark_script.specs.Line as w
use Rattle.ark_script.specs.Text.{IsNamed, wants_memory}
use Rattle.ark_script.specs.declared.said.Said.TheVariants as said
use Rattle.ark_machine.specs.Machine.{Machine}
use Rattle.ark_machine.specs.Plane.{Plane, max_runs}
use Rattle.ark_machine.specs.Granting.{plane_after}
use Rattle.ark_machine.specs.System.{System, machine_of}
use Rattle.ark_machine.specs.Fronts.{AtEachFront}
use Rattle.ark_media.specs.Standing.{after}
use Rattle.ark_held.specs.Words.{Labels, AreaList, no_room, room_under, limit_if, new_area_cap, with_area}
use Rattle.ark_held.specs.declared.app.App.{App}
use Rattle.ark_plane.specs.Room.{HasNoRoom}
use Rattle.ark_plane.specs.declared.plane.Plane.{Plane as HostPlane}
use Rattle.ark_host.specs.declared.host.Host.{Host}
use Rattle.ark_host.specs.Stands.{Stood, Steps, IsRefused, IsEarly, IsAdmitted}
use Rattle.ark_host.proofs.Standing.{refused, same_apps}
use Rattle.ark_host.proofs.Apps.{not_made}
use Rattle.ark_host.proofs.Lifting.{quiet_steps}
use Rattle.ark_host.proofs.Words.{vsa_answered}
use Rattle.ark_host.proofs.Contents.{logs_open}
use Rattle.ark_host.proofs.Recovering.{made_fronts}
use Rattle.ark_host.proofs.Granting.{Refuses, Says, refused_by, vsa_unmade, vsa_taken, vsa_full, vsa_slots, vsa_failed, vsa_no_space, vsa_scattered}
use Rattle.ark_host.proofs.Granted.{slot, has_some, agree, begins, goes, beside, vsa_lost, vsa_granted}

-- Refusals.

early_plane : (e : Refusal) (p : Plane) (m : Machine) (a l : List ℕ) (n : ℕ) (k : Kind) → IsEarly e → plane_after p m (w.vsa a l n k) (said.Refused e) ≡ p
early_plane r.DeviceFault p m a l n k early = absurd early
early_plane _ p m a l n k early = refl

pub early_enough : (e : Refusal) → IsEarly e → wants_memory (said.Refused e) ≡ false
early_enough r.NoMemory early = absurd early
early_enough _ early = refl

-- what a plane refuses

pub early_no_room : (p : HostPlane) (n : ℕ) (e : Refusal) → HasNoRoom p n e → IsEarly e
early_no_room p n r.TableFailed why = tt
early_no_room p n r.NoSpace why = tt
early_no_room p n r.Scattered why = tt
early_no_room p n _ why = absurd why

pub named_no_room : (p : HostPlane) (n : ℕ) (e : Refusal) → HasNoRoom p n e → IsNamed e
named_no_room p n r.TableFailed why = tt
named_no_room p n r.NoSpace why = tt
named_no_room p n r.Scattered why = tt
named_no_room p n _ why = absurd why

-- what an application refuses
pub early_room : (labels : Labels) (areas : AreaList) (l : List ℕ) (e : Refusal) → Some e ≡ no_room labels areas l → IsEarly e
early_room labels areas l e is = by (value_at labels l) is
  where
    same : (x y : Refusal) → Some x ≡ Some y → y ≡ x
    same x y h = sym (ap (λ o. unwrap_or o x) h)

    limited : (b : Bool) → Some e ≡ limit_if b → IsEarly e
    limited true h = subst (λ (x : Refusal). IsEarly x) (same e r.Limit h) tt
    limited false h = absurd (false≢true (sym (ap is_some h)))

    by : (o : Option Capability) → Some e ≡ room_under labels areas o → IsEarly e
    by (Some c) h = subst (λ (x : Refusal). IsEarly x) (same e r.NameTaken h) tt
    by None h = limited (nat_le 64 (length labels) || nat_le 8 (length areas)) h

module _ (host : Host) (a l : List ℕ) (n : ℕ) where
  pub steps_refused : (k : Kind) (now : Host) (told : Told) (e : Refusal) → IsRefused host a l n e → IsEarly e → now.apps.items ≡ host.apps.items → now.plane.free ≡ host.plane.free → now.plane.table ≡ host.plane.table → now.plane.failed ≡ host.plane.failed → now.grants ≡ host.grants → now.clock ≡ host.clock → now.plane.own ≡ host.plane.own
      → Steps host now told (Ok (w.vsa a l n k)) [] (said.Refused e) []
  steps_refused k now told e is early apps free table failed grants clock addresses =
      quiet_steps host now told (Ok (w.vsa a l n k)) (said.Refused e) (said.Refused e) [] refl refl
      (λ s h st. vsa_answered now told.blocks h s a l n k [] (said.Refused e) [] (early_enough e early)
      (refused now told.blocks h s a (w.vsa a l n k) _ e (early_plane e s.plane (machine_of s a) a l n k early) (is k told.blocks h s st) (same_apps host now told.blocks h s apps free table failed grants clock addresses st)))

  pub refused_unmade : position (λ app. bytes_eq a app.name) host.apps.items ≡ None → IsRefused host a l n r.NoApplication
  refused_unmade none k size h s st = vsa_unmade host size h s a l n k st (not_made s host size h a st none)

  module _ (place : ℕ) (app : App) (at : position (λ x. bytes_eq a x.name) host.apps.items ≡ Some place) (there : get_or host.apps.items place app ≡ app) where
    pub refused_app : (e : Refusal) → Some e ≡ no_room app.labels app.areas l → IsRefused host a l n e
    refused_app e is k size h s st = let m = refused_by host size h s a l place app st at there (Some e) is in by e m.0 m.1
      where
        by : (x : Refusal) → (machine_of s a).made ≡ true → Refuses s a l (Some x) → Says host size h s a l n k st x
        by r.NameTaken made m = vsa_taken host size h s a l n k st made m.0 m.1
        by r.Limit made m = vsa_full host size h s a l n k st made m.0 m.1
        by _ made m = absurd m

    module _ (none : None ≡ no_room app.labels app.areas l) where
      pub refused_full : IsFull host.plane.table → IsRefused host a l n r.Limit
      refused_full all k size h s st = let m = refused_by host size h s a l place app st at there None none in vsa_slots host size h s a l n k st m.0 m.1.0 all

      module _ (i : ℕ) (least : IsLeastFree host.plane.table i) where
        refused_failed : host.plane.failed ≡ true → IsRefused host a l n r.TableFailed
        refused_failed bad k size h s st = let m = refused_by host size h s a l place app st at there None none in vsa_failed host size h s a l n k st m.0 m.1.0 m.1.1 i least bad

        refused_space : host.plane.failed ≡ false → length host.plane.free < n → IsRefused host a l n r.NoSpace
        refused_space fine less k size h s st = let m = refused_by host size h s a l place app st at there None none in vsa_no_space host size h s a l n k st m.0 m.1.0 m.1.1 i least fine less

        -- the free blocks stand in too many runs
        refused_scattered : host.plane.failed ≡ false → n ≤ length host.plane.free → max_runs < length (runs_of (take n host.plane.free)) → IsRefused host a l n r.Scattered
        refused_scattered fine enough many k size h s st = let m = refused_by host size h s a l place app st at there None none in vsa_scattered host size h s a l n k st m.0 m.1.0 m.1.1 i least fine enough many

        pub refused_room : (e : Refusal) → HasNoRoom host.plane n e → IsRefused host a l n e
        refused_room r.TableFailed why = refused_failed why
        refused_room r.NoSpace why = refused_space why.0 why.1
        refused_room r.Scattered why = refused_scattered why.0 why.1 why.2
        refused_room _ why = absurd why

-- The device was called.

module _ (host now : Host) (told : Told) (a l : List ℕ) (n : ℕ) (k : Kind) (i place : ℕ) (app : App) (small : told.blocks < 2 ^ 32) (some : fewest_blocks k ≤ n) (app_name : is_name a ≡ true) (label_name : is_name l ≡ true)
    (ok : IsAdmitted host a l n place i) (there : get_or host.apps.items place app ≡ app) (compact : length (runs_of (take n host.plane.free)) ≤ max_runs) (spans : List ℕ) (taken : spans ≡ take n host.plane.free) (es : List Event) where
  abbrev plan : Bool → Type 0
  plan well = Made (grant_calls i (record { app = a; label = l; kind = k; runs = runs_of spans }) spans) well es

  fronts : (well : Bool) → plan well → (s : System) (h : History) → Stood host told h es s → AtEachFront h.base h.journal s (Some (Ok (w.vsa a l n k))) es
  fronts well made s h stood = made_fronts host told.blocks h s stood.stands (Some (Ok (w.vsa a l n k))) (slot host told.blocks h s a l n k i place app stood.stands small some app_name label_name ok there compact spans taken) well es
      (agree host told.blocks h s a l n k i place app stood.stands small some app_name label_name ok there compact spans taken)
      (has_some host told.blocks h s a l n k i place app stood.stands small some app_name label_name ok there compact spans taken)
      (begins host told.blocks h s a l n k i place app stood.stands small some app_name label_name ok there compact spans taken)
      (goes host told.blocks h s a l n k i place app stood.stands small some app_name label_name ok there compact spans taken well es made)
      (logs_open host told.blocks h s stood.stands es (beside host told.blocks h s a l n k i place app stood.stands small some app_name label_name ok there compact spans taken well es made))

  pub steps_lost : plan false → now.apps.items ≡ host.apps.items → now.plane.table ≡ host.plane.table → now.plane.failed ≡ true → now.grants ≡ host.grants → now.clock ≡ host.clock → now.plane.own ≡ host.plane.own → Steps host now told (Ok (w.vsa a l n k)) es (said.Refused r.DeviceFault) []
  steps_lost made items kept failed grants clock addresses = record {
    devices = makes_devices _ false es made;
    answered = λ s h stood. vsa_answered now told.blocks (after h es) s a l n k es (said.Refused r.DeviceFault) [] refl
        (vsa_lost host told.blocks h s a l n k i place app stood.stands small some app_name label_name ok there compact spans taken false es made now items kept failed grants clock addresses refl);
    fronts = fronts false made;
  }

  pub steps_granted : plan true → (app1 : App) → app1.labels ≡ app.labels ++ (l, new_area_cap host.grants) ∷ [] → app1.areas ≡ with_area app.areas host.grants (record { kind = k; slot = i; spans = spans }) → app1.store.region ≡ app.store.region → app1.store.buffers ≡ app.store.buffers → app1.devices ≡ app.devices → app1.name ≡ app.name
      → now.apps.items ≡ set host.apps.items place app1 → now.plane.free ≡ drop n host.plane.free → now.plane.table ≡ with_slot host.plane.table i (Some (record { app = a; label = l; kind = k; runs = runs_of spans })) → now.plane.failed ≡ host.plane.failed → now.grants ≡ host.grants + 1 → now.clock ≡ host.clock → now.plane.own ≡ host.plane.own
      → Steps host now told (Ok (w.vsa a l n k)) es said.Ok []
  steps_granted made app1 labels held region buffers devices name items free tables failed grants clock addresses = record {
    devices = makes_devices _ true es made;
    answered = λ s h stood. vsa_answered now told.blocks (after h es) s a l n k es said.Ok [] refl
        (vsa_granted host told.blocks h s a l n k i place app stood.stands small some app_name label_name ok there compact spans taken true es made refl now app1 labels held region buffers devices name items free tables failed grants clock addresses);
    fronts = fronts true made;
  }

-- the calls of a slot that says so
pub granting_of : (i : ℕ) (area said : Area) (spans : List ℕ) (well ended : Bool) (es : List Event) → area ≡ said → blocks_of said.runs ≡ spans → well ≡ ended → Made (create_calls i area) well es → Made (grant_calls i said spans) ended es
granting_of i area said spans well ended es same blocks is made =
    subst (λ (b : Bool). Made (grant_calls i said spans) b es) is
    (subst (λ (bs : List ℕ). Made (grant_calls i said bs) well es) blocks (subst (λ (x : Area). Made (create_calls i x) well es) same made))
