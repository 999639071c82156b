-- Raw areas, as words on cards come to their rows.
use Rattle.std.proofs.Common.{◌≡◌, ℕ, List, length, refl, sym, ◌∙◌, ap, subst}
use Rattle.std.specs.Prelude.{Option, Some, None, Result, Ok, Err, slice_get}
use Rattle.ark_base.specs.declared.kind.Kind.{Kind}
use Rattle.ark_base.specs.declared.kind.Kind.TheVariants as kind
use Rattle.ark_base.specs.declared.refusal.Refusal.{Refusal}
use Rattle.ark_base.specs.declared.refusal.Refusal.TheVariants as r
use Rattle.ark_caps.specs.Labels.{value_at}
use Rattle.ark_caps.specs.declared.capability.Capability.{Capability}
use Rattle.ark_caps.specs.declared.capability.CapKind.{CapKind}
use Rattle.ark_caps.specs.declared.capability.CapKind.TheVariants as cap_kind
use Rattle.ark_machine.specs.Objects
use Rattle.ark_machine.specs.Objects.{Object, Raw, as_raw}
use Rattle.ark_machine.specs.Machine.{Held, at}
use Rattle.ark_held.specs.Around.{Around}
use Rattle.ark_held.specs.Areas.{IsArea}
use Rattle.ark_held.specs.Held.{IsObjectOf, AtLabel, Holds}
use Rattle.ark_held.specs.declared.areas.Area.{Area}
use Rattle.ark_held.proofs.Finding.{found}
use Rattle.ark_own.specs.Keys.{raw_area, raw_under, raw_granted, raw_found, if_raw}
use Rattle.ark_own.specs.declared.keys.RawArea.{RawArea}

pub record HasRaw (x : Around) (l : List ℕ) (a : RawArea) : Type 0 where
  pub held : Held
  pub cap : Capability
  pub raw : Raw
  pub label : value_at x.labels l ≡ Some cap
  pub grant_is : cap.grant ≡ a.grant
  pub there : at x.machine l ≡ Some held
  pub object : held.object ≡ Objects.raw raw
  pub serial : slice_get x.numbers held.serial ≡ Some cap.grant
  pub fits : IsArea x l cap raw
  pub blocks : length fits.slot.blocks ≡ a.blocks

abbrev pub HasNone : Around → List ℕ → Refusal → Type 0
HasNone x l (r.NoGrant k) = (k ≡ l) × (at x.machine l ≡ None)
HasNone x l r.WrongKind = (h : Held) × (at x.machine l ≡ Some h) × (as_raw h.object ≡ None)
HasNone x l _ = ⊥

abbrev pub FoundAs : Around → List ℕ → Result RawArea Refusal → Type 0
FoundAs x l (Ok a) = HasRaw x l a
FoundAs x l (Err e) = HasNone x l e

not_raw : (k : Kind) (a : RawArea) → (k ≡ kind.Raw → ⊥) → if_raw k a ≡ Err r.WrongKind
not_raw kind.Raw a no_raw = absurd (no_raw refl)
not_raw kind.Log a no_raw = refl
not_raw kind.Queue a no_raw = refl

module _ (x : Around) (l : List ℕ) where
  no_raw : (c : Capability) (k : CapKind) (h : Held) (o : Object) → c.kind ≡ k → raw_granted x.areas k c.grant ≡ Err r.WrongKind → h.object ≡ o → at x.machine l ≡ Some h → as_raw o ≡ None → FoundAs x l (raw_granted x.areas c.kind c.grant)
  no_raw c k h o its_kind wrong is there other =
      subst (λ (z : CapKind). FoundAs x l (raw_granted x.areas z c.grant)) (sym its_kind) (subst (λ (z : Result RawArea Refusal). FoundAs x l z) (sym wrong) (h, there, ap as_raw is ∙ other))

  by_object : (c : Capability) (h : Held) (o : Object) → value_at x.labels l ≡ Some c → h.object ≡ o → at x.machine l ≡ Some h → slice_get x.numbers h.serial ≡ Some c.grant → IsObjectOf x l c o → FoundAs x l (raw_granted x.areas c.kind c.grant)
  by_object c h (Objects.raw z) label is there serial f =
      subst (λ (k : CapKind). FoundAs x l (raw_granted x.areas k c.grant)) (sym f.its_kind)
      (subst (λ (b : Option Area). FoundAs x l (raw_found c.grant b)) (sym f.kept)
      (subst (λ (k : Kind). FoundAs x l (if_raw k (record { grant = c.grant; blocks = length f.slot.blocks }))) (sym f.raw)
      (record { held = h; cap = c; raw = z; label = label; grant_is = refl; there = there; object = is; serial = serial; fits = f; blocks = refl })))
  by_object c h (Objects.log z) label is there serial f =
      no_raw c cap_kind.Vsa h (Objects.log z) f.its_kind (ap (raw_found c.grant) f.kept ∙ not_raw f.slot.kind (record { grant = c.grant; blocks = length f.slot.blocks }) (λ raw. f.no_raw (sym f.same_kind ∙ raw))) is there refl
  by_object c h (Objects.buffer z) label is there serial f = no_raw c cap_kind.Buf h (Objects.buffer z) f.its_kind refl is there refl
  by_object c h (Objects.vsic z) label is there serial f = no_raw c cap_kind.Vsic h (Objects.vsic z) f.its_kind refl is there refl
  by_object c h (Objects.vnic z) label is there serial f = no_raw c cap_kind.Vnic h (Objects.vnic z) f.its_kind refl is there refl
  by_object c h (Objects.filter z y) label is there serial f = no_raw c cap_kind.Filter h (Objects.filter z y) f.its_kind refl is there refl
  by_object c h (Objects.door z) label is there serial f = no_raw c cap_kind.Door h (Objects.door z) f.its_kind refl is there refl
  by_object c h (Objects.rate z y) label is there serial f = no_raw c cap_kind.Rate h (Objects.rate z y) f.its_kind refl is there refl
  by_object c h (Objects.socket z) label is there serial f = no_raw c cap_kind.Sock h (Objects.socket z) f.its_kind refl is there refl

  by_label : (c : Option Capability) (o : Option Held) → value_at x.labels l ≡ c → at x.machine l ≡ o → AtLabel x l c o → FoundAs x l (raw_under x.areas l c)
  by_label None None label there m = (refl, there)
  by_label (Some c) (Some h) label there m = by_object c h h.object label refl there m.serial m.object
  by_label None (Some h) label there m = absurd m
  by_label (Some c) None label there m = absurd m

  pub found_raw : Holds x → (res : Result RawArea Refusal) → res ≡ raw_area x.labels x.areas l → FoundAs x l res
  found_raw h res is = subst (λ (z : Result RawArea Refusal). FoundAs x l z) (sym is) (by_label (value_at x.labels l) (at x.machine l) refl refl (found x l x.labels x.machine.held h.held))
