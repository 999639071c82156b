-- The word `grow` over a host: its refusals, an area that has grown, and one that failed to.
use Rattle.std.proofs.Common.{◌≡◌, ◌⊎◌, inl, inr, ℕ, ◌^◌, ◌<◌, ◌≤◌, Bool, true, false, List, [], ◌++◌, length, take, drop, set, get_or, nat_le, refl, sym, ◌∙◌, ap, subst, arith, bytes_eq}
use Rattle.std.specs.Prelude.{Option, Some, None, Result, Ok, Err, position, is_some, is_none, IsSome, nat_eq}
use Rattle.std.proofs.lemmas.Bool.{false≢true}
use Rattle.std.proofs.lemmas.Bool.Decides.{nat_tests}
use Rattle.std.specs.Map.{lookup}
use Rattle.ark_base.specs.declared.kind.Kind.{Kind}
use Rattle.ark_base.specs.declared.kind.Kind.TheVariants as kind
use Rattle.ark_base.specs.declared.refusal.Refusal.{Refusal}
use Rattle.ark_base.specs.declared.refusal.Refusal.TheVariants as r
use Rattle.ark_media.specs.Journal.{Event, History}
use Rattle.ark_media.specs.Calls.{Told, Makes as Made}
use Rattle.ark_media.specs.Standing.{after}
use Rattle.ark_media.proofs.Planning.{makes_devices}
use Rattle.ark_extents.specs.Blocks.{blocks_of, runs_of, ShareNoBlock}
use Rattle.ark_extents.proofs.RunLemmas.{blocks_of-runs_of}
use Rattle.ark_caps.specs.Labels.{value_at}
use Rattle.ark_caps.specs.declared.capability.Capability.{Capability}
use Rattle.ark_caps.specs.declared.capability.CapKind.{CapKind}
use Rattle.ark_caps.specs.declared.capability.CapKind.TheVariants as cap_kind
use Rattle.ark_table.specs.Area.{Area}
use Rattle.ark_table.specs.Slots.{area_of}
use Rattle.ark_table.specs.Standing.{slot_in, with_slot, grown_area, grow_calls}
use Rattle.ark_script.specs.Line as w
use Rattle.ark_script.specs.Text.{wants_memory}
use Rattle.ark_script.specs.declared.said.Said.{Said}
use Rattle.ark_script.specs.declared.said.Said.TheVariants as said
use Rattle.ark_machine.specs.Machine.{Machine}
use Rattle.ark_machine.specs.Step.{step}
use Rattle.ark_machine.specs.Plane.{Plane, lowest, max_runs}
use Rattle.ark_machine.specs.Granting.{plane_after}
use Rattle.ark_machine.specs.System.{System, machine_of}
use Rattle.ark_machine.specs.Fronts.{AtEachFront}
use Rattle.ark_held.specs.Words.{Labels, AreaList, grant_if_raw, found_grant, grant_of, grant_under, grant_at, with_spans}
use Rattle.ark_held.specs.declared.app.App.{App}
use Rattle.ark_held.specs.declared.areas.Area.{Area as Kept}
use Rattle.ark_held.proofs.Lists.{some_same}
use Rattle.ark_own.proofs.OfGrants.{IsGrantOf, Lacks}
use Rattle.ark_plane.specs.Room.{HasNoRoom}
use Rattle.ark_host.specs.declared.host.Host.{Host}
use Rattle.ark_host.specs.declared.host.grow.Growth.{Growth}
use Rattle.ark_host.specs.Stands.{Stands, Stood, RowDone, LineDone, Steps, IsHeld, IsEarly, around}
use Rattle.ark_host.specs.Growing.{grow_row, IsGrowRefused, MayGrow}
use Rattle.ark_plane.proofs.Tests.{by_test}
use Rattle.ark_host.proofs.Standing.{refused, same_apps, slot_fits}
use Rattle.ark_host.proofs.Apps.{not_made, held_there}
use Rattle.ark_host.proofs.Lifting.{quiet_steps}
use Rattle.ark_host.proofs.Stepping.{early_enough}
use Rattle.ark_host.proofs.Contents.{logs_open}
use Rattle.ark_host.proofs.Recovering.{grown_fronts}
use Rattle.ark_host.proofs.OfGrants.{lacks, granted_at, held, in_use, apart_free, more_runs}
use Rattle.ark_host.proofs.GrowRows.{Says, grow_unmade, grow_missing, grow_kind, grow_failed, grow_no_space, grow_scattered}
use Rattle.ark_host.proofs.Grown.{mine, its_area, agree, begins, goes, beside, grow_lost, grow_done}

-- the turn of a `grow` line is its row
grow_answered : (host : Host) (size : ℕ) (past : History) (s : System) (a l : List ℕ) (n : ℕ) (es : List Event) (reply : Said) (shown : List ℕ) → wants_memory reply ≡ false
    → RowDone host size past s a (w.grow a l n) (grow_row s a l n es reply) es reply shown → LineDone host size past s (Ok (w.grow a l n)) es reply shown
unfolding step
grow_answered host size past s a l n es reply shown has t = record { said = t.said; bytes = t.bytes; calls = t.calls; none = t.none; memory = rw has tt; stands = t.stands }

early_plane : (e : Refusal) (p : Plane) (m : Machine) (a l : List ℕ) (n : ℕ) → IsEarly e → plane_after p m (w.grow a l n) (said.Refused e) ≡ p
early_plane r.DeviceFault p m a l n early = absurd early
early_plane _ p m a l n early = refl

-- what an application says of its areas comes before any device call

err_same : (x y : Refusal) → ◌≡◌ {A = Result (ℕ × Kept) Refusal} (Err x) (Err y) → x ≡ y
err_same x y e = cc (e)

early_wrong : (e : Refusal) → ◌≡◌ {A = Result (ℕ × Kept) Refusal} (Err r.WrongKind) (Err e) → IsEarly e
early_wrong e is = subst (λ (z : Refusal). IsEarly z) (err_same r.WrongKind e is) tt

early_raw : (k : Kind) (g : ℕ) (a : Kept) (e : Refusal) → grant_if_raw k g a ≡ Err e → IsEarly e
early_raw kind.Raw g a e is = absurd (cc (is))
early_raw kind.Log g a e is = early_wrong e is
early_raw kind.Queue g a e is = early_wrong e is

early_found : (g : ℕ) (o : Option Kept) (e : Refusal) → found_grant g o ≡ Err e → IsEarly e
early_found g None e is = early_wrong e is
early_found g (Some a) e is = early_raw a.kind g a e is

early_kind : (areas : AreaList) (k : CapKind) (g : ℕ) (e : Refusal) → grant_of areas k g ≡ Err e → IsEarly e
early_kind areas cap_kind.Vsa g e is = early_found g (lookup (nat_eq g) areas) e is
early_kind areas _ g e is = early_wrong e is

early_under : (areas : AreaList) (l : List ℕ) (c : Option Capability) (e : Refusal) → grant_under areas l c ≡ Err e → IsEarly e
early_under areas l None e is = subst (λ (z : Refusal). IsEarly z) (err_same (r.NoGrant l) e is) tt
early_under areas l (Some c) e is = early_kind areas c.kind c.grant e is

pub early_grant : (labels : Labels) (areas : AreaList) (l : List ℕ) (e : Refusal) → Err e ≡ grant_at labels areas l → IsEarly e
early_grant labels areas l e is = early_under areas l (value_at labels l) e (sym is)

absent : (i : ℕ) (o : Option Area) (b : Area) → (i ≡ 0) ⊎ (o ≡ None) → o ≡ Some b → 1 ≤ i → ⊥
absent i o b (inl none) used low = omega (arith, none, low)
absent i o b (inr free) used low = false≢true (ap is_some (sym free ∙ used))

-- blocks that were put behind others, or that could not be
pub not_joined : (o : Option (List ℕ)) → is_none o ≡ true → IsSome o → ⊥
not_joined None none some = false≢true some
not_joined (Some bs) none some = false≢true none

pub joined : (o : Option (List ℕ)) → is_none o ≡ false → IsSome o
joined None none = absurd (false≢true (sym none))
joined (Some bs) none = refl

too_many : (k : ℕ) → (k ≤ 16 → ⊥) → 16 < k
too_many k more = by_test (nat_le k 16) (λ b. nat_le k 16 ≡ b → 16 < k) (λ yes q. absurd (more (grind (arith, nat_tests, q)))) (λ other q. grind (arith, nat_tests, q)) refl

module _ (host : Host) (a l : List ℕ) (n : ℕ) where
  pub grow_refused : (now : Host) (told : Told) (e : Refusal) → IsGrowRefused host a l n e → IsEarly e → now.apps.items ≡ host.apps.items → now.plane.free ≡ host.plane.free → now.plane.table ≡ host.plane.table → now.plane.failed ≡ host.plane.failed → now.grants ≡ host.grants → now.clock ≡ host.clock → now.plane.own ≡ host.plane.own
      → Steps host now told (Ok (w.grow a l n)) [] (said.Refused e) []
  grow_refused now told e is early apps free table failed grants clock addresses =
      quiet_steps host now told (Ok (w.grow a l n)) (said.Refused e) (said.Refused e) [] refl refl
      (λ s h st. grow_answered now told.blocks h s a l n [] (said.Refused e) [] (early_enough e early)
      (refused now told.blocks h s a (w.grow a l n) _ e (early_plane e s.plane (machine_of s a) a l n early) (is told.blocks h s st) (same_apps host now told.blocks h s apps free table failed grants clock addresses st)))

  pub unmade_refused : position (λ app. bytes_eq a app.name) host.apps.items ≡ None → IsGrowRefused host a l n r.NoApplication
  unmade_refused none size h s st = grow_unmade host size h s a l n st (not_made s host size h a st none)

  module _ (place : ℕ) (app : App) (at : position (λ x. bytes_eq a x.name) host.apps.items ≡ Some place) (there : get_or host.apps.items place app ≡ app) where
    its : (size : ℕ) (h : History) (s : System) → Stands host size h s → IsHeld host.grants h s a app
    its size h s st = held_there s host size h a st place app at there

    pub grant_refused : (e : Refusal) → Err e ≡ grant_at app.labels app.areas l → IsGrowRefused host a l n e
    grant_refused e is size h s st = by e (lacks host size h s a l app st (its size h s st) e (sym is))
      where
        by : (z : Refusal) → Lacks (around s h a (its size h s st).numbers app (machine_of s a)) l z → Says host size h s a l n st z
        by (r.NoGrant k) m = subst (λ (z : List ℕ). Says host size h s a l n st (r.NoGrant z)) (sym m.0) (grow_missing host size h s a l n st (its size h s st).holds.made m.1)
        by r.WrongKind m = grow_kind host size h s a l n st (its size h s st).holds.made m.held m.there m.other
        by _ m = absurd m

    module _ (grant : ℕ) (kept : Kept) (is : grant_at app.labels app.areas l ≡ Ok (grant, kept)) where
      failed_refused : host.plane.failed ≡ true → IsGrowRefused host a l n r.TableFailed
      failed_refused bad size h s st =
          let own = its size h s st in
          let f = granted_at host size h s a l app st own grant kept is in
          grow_failed host size h s a l n st own.holds.made f.area.held f.area.raw f.area.there f.area.object bad

      module _ (fine : host.plane.failed ≡ false) where
        space_refused : length host.plane.free < n → IsGrowRefused host a l n r.NoSpace
        space_refused less size h s st =
            let own = its size h s st in
            let f = granted_at host size h s a l app st own grant kept is in
            grow_no_space host size h s a l n st own.holds.made f.area.held f.area.raw f.area.there f.area.object fine less

        module _ (enough : n ≤ length host.plane.free) where
          -- the free blocks alone stand in too many runs
          many_refused : max_runs < length (runs_of (take n host.plane.free)) → IsGrowRefused host a l n r.Scattered
          many_refused many size h s st =
              let own = its size h s st in
              let f = granted_at host size h s a l app st own grant kept is in
              let more = more_runs f.area.slot.blocks (take n host.plane.free) in
              grow_scattered host size h s a l n st own.holds.made f.area.held f.area.raw f.area.there f.area.object fine enough f.area.slot f.area.placed (omega (arith, many, more))

          -- the table has the slot, whatever stands for the host
          pub slot_refused : (e : Refusal) → (kept.slot ≡ 0) ⊎ (slot_in host.plane.table kept.slot ≡ None) → IsGrowRefused host a l n e
          slot_refused e none size h s st =
              let own = its size h s st in
              let f = granted_at host size h s a l app st own grant kept is in
              let low = (slot_fits host size h s st f.area.slot (held host size h s a l app st own grant kept f).0).index_low in
              absurd (absent kept.slot (slot_in host.plane.table kept.slot) (area_of f.area.slot) none (in_use host size h s a l app st own grant kept f) (let same = ap (λ (z : Kept). z.slot) f.its_area in omega (arith, low, same)))

          -- its blocks and the free ones stand in too many runs: they share none
          pub join_refused : (area : Area) → slot_in host.plane.table kept.slot ≡ Some area → (ShareNoBlock (blocks_of area.runs) (take n host.plane.free) × (length (runs_of (blocks_of area.runs ++ take n host.plane.free)) ≤ 16) → ⊥) → IsGrowRefused host a l n r.Scattered
          join_refused area used apart_and_few size h s st =
              let own = its size h s st in
              let f = granted_at host size h s a l app st own grant kept is in
              let same : blocks_of area.runs ≡ f.area.slot.blocks = ap (λ (z : Area). blocks_of z.runs) (some_same (slot_in host.plane.table kept.slot) area (area_of f.area.slot) used (in_use host size h s a l app st own grant kept f)) ∙ blocks_of-runs_of f.area.slot.blocks in
              let apart = apart_free host size h s a l app st own grant kept f n fine in
              grow_scattered host size h s a l n st own.holds.made f.area.held f.area.raw f.area.there f.area.object fine enough f.area.slot f.area.placed
              (too_many (length (runs_of (f.area.slot.blocks ++ take n host.plane.free)))
              (λ few. apart_and_few (subst (λ (bs : List ℕ). ShareNoBlock bs (take n host.plane.free)) (sym same) apart, subst (λ (bs : List ℕ). length (runs_of (bs ++ take n host.plane.free)) ≤ 16) (sym same) few)))

          -- so do those of the area as its application keeps it
          pub own_refused : (ShareNoBlock kept.spans (take n host.plane.free) × (length (runs_of (kept.spans ++ take n host.plane.free)) ≤ 16) → ⊥) → IsGrowRefused host a l n r.Scattered
          own_refused apart_and_few size h s st =
              let own = its size h s st in
              let f = granted_at host size h s a l app st own grant kept is in
              let same : f.area.slot.blocks ≡ kept.spans = ap (λ (z : Kept). z.spans) f.its_area in
              let apart = apart_free host size h s a l app st own grant kept f n fine in
              grow_scattered host size h s a l n st own.holds.made f.area.held f.area.raw f.area.there f.area.object fine enough f.area.slot f.area.placed
              (too_many (length (runs_of (f.area.slot.blocks ++ take n host.plane.free)))
              (λ few. apart_and_few (subst (λ (bs : List ℕ). ShareNoBlock bs (take n host.plane.free)) same apart, subst (λ (bs : List ℕ). length (runs_of (bs ++ take n host.plane.free)) ≤ 16) same few)))

      -- the plane has no room
      pub room_refused : (e : Refusal) → HasNoRoom host.plane n e → IsGrowRefused host a l n e
      room_refused r.TableFailed why = failed_refused why
      room_refused r.NoSpace why = space_refused why.0 why.1
      room_refused r.Scattered why = many_refused why.0 why.1 why.2
      room_refused _ why = absurd why

-- The device was called.

module _ (host now : Host) (told : Told) (a l : List ℕ) (n : ℕ) (g : Growth) (app : App) (small : told.blocks < 2 ^ 32) (some : 1 ≤ n) (ok : MayGrow host a l n g) (there : get_or host.apps.items g.place app ≡ app) (es : List Event) where
  abbrev plan : Bool → Type 0
  plan well = Made (grow_calls g.area.slot ok.joins.area g.more) well es

  module _ (s : System) (h : History) (stood : Stood host told h es s) where
    abbrev own : IsHeld host.grants h s a app
    own = held_there s host told.blocks h a stood.stands g.place app ok.place there

    abbrev f : IsGrantOf (around s h a own.numbers app (machine_of s a)) l g.grant g.area
    f = granted_at host told.blocks h s a l app stood.stands own g.grant g.area (ok.area app there)

    same_area : ok.joins.area ≡ area_of f.area.slot
    same_area = its_area host told.blocks h s a l n g app stood.stands small some ok there own f

    calls : (well : Bool) → plan well → Made (grow_calls g.area.slot (area_of f.area.slot) g.more) well es
    calls well made = subst (λ (z : Area). Made (grow_calls g.area.slot z g.more) well es) same_area made

    fronts : (well : Bool) → plan well → AtEachFront h.base h.journal s (Some (Ok (w.grow a l n))) es
    fronts well made = grown_fronts host told.blocks h s stood.stands (Some (Ok (w.grow a l n))) f.area.slot (lowest s.plane n) well es
        (mine host told.blocks h s a l n g app stood.stands small some ok there own f).0 f.raw
        (agree host told.blocks h s a l n g app stood.stands small some ok there own f)
        (begins host told.blocks h s a l n g app stood.stands small some ok there own f)
        (goes host told.blocks h s a l n g app stood.stands small some ok there own f well es (calls well made))
        (logs_open host told.blocks h s stood.stands es (beside host told.blocks h s a l n g app stood.stands small some ok there own f well es (calls well made)))

  pub lost_steps : plan false → now.apps.items ≡ host.apps.items → now.plane.table ≡ host.plane.table → now.plane.failed ≡ true → now.grants ≡ host.grants → now.clock ≡ host.clock → now.plane.own ≡ host.plane.own → Steps host now told (Ok (w.grow a l n)) es (said.Refused r.DeviceFault) []
  lost_steps made items kept failed grants clock addresses = record {
    devices = makes_devices _ false es made;
    answered = λ s h stood. grow_answered now told.blocks (after h es) s a l n es (said.Refused r.DeviceFault) [] refl
        (grow_lost host told.blocks h s a l n g app stood.stands small some ok there (own s h stood) (f s h stood) false es (calls s h stood false made) now items kept failed grants clock addresses refl);
    fronts = λ s h stood. fronts s h stood false made;
  }

  pub done_steps : plan true → (app1 : App) → app1.labels ≡ app.labels → app1.areas ≡ with_spans app.areas g.grant g.spans → app1.store.region ≡ app.store.region → app1.store.buffers ≡ app.store.buffers → app1.devices ≡ app.devices → app1.name ≡ app.name
      → now.apps.items ≡ set host.apps.items g.place app1 → now.plane.free ≡ drop n host.plane.free → now.plane.table ≡ with_slot host.plane.table g.area.slot (Some (grown_area ok.joins.area g.more)) → now.plane.failed ≡ host.plane.failed → now.grants ≡ host.grants → now.clock ≡ host.clock → now.plane.own ≡ host.plane.own
      → Steps host now told (Ok (w.grow a l n)) es said.Ok []
  done_steps made app1 labels areas region buffers devices name items free tables failed grants clock addresses = record {
    devices = makes_devices _ true es made;
    answered = λ s h stood. grow_answered now told.blocks (after h es) s a l n es said.Ok [] refl
        (grow_done host told.blocks h s a l n g app stood.stands small some ok there (own s h stood) (f s h stood) true es (calls s h stood true made) refl now app1 labels areas region buffers devices name items free
        (tables ∙ ap (λ (z : Area). with_slot host.plane.table g.area.slot (Some (grown_area z g.more))) (same_area s h stood)) failed grants clock addresses);
    fronts = λ s h stood. fronts s h stood true made;
  }
