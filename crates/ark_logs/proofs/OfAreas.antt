-- The area of a log or queue of a kind, as words that open it come to their rows.
use Rattle.std.proofs.Common.{◌≡◌, ℕ, List, refl, sym, ◌∙◌, ap, subst}
use Rattle.std.specs.Prelude.{Option, Some, None, Result, Ok, Err, slice_get}
use Rattle.ark_base.specs.declared.kind.Kind.{Kind}
use Rattle.ark_base.specs.declared.kind.Kind.TheVariants as kind
use Rattle.ark_base.specs.declared.refusal.Refusal.{Refusal}
use Rattle.ark_base.specs.declared.refusal.Refusal.TheVariants as r
use Rattle.ark_caps.specs.Labels.{value_at}
use Rattle.ark_caps.specs.declared.capability.Capability.{Capability}
use Rattle.ark_caps.specs.declared.capability.CapKind.{CapKind}
use Rattle.ark_caps.specs.declared.capability.CapKind.TheVariants as cap_kind
use Rattle.ark_caladan.specs.Chain.{Log}
use Rattle.ark_machine.specs.Objects
use Rattle.ark_machine.specs.Objects.{Object, as_log}
use Rattle.ark_machine.specs.Machine.{Held, at}
use Rattle.ark_machine.specs.Logs.{chain_at, of_kind}
use Rattle.ark_held.specs.Around.{Around}
use Rattle.ark_held.specs.Areas.{IsLog}
use Rattle.ark_held.specs.Held.{IsObjectOf, AtLabel, Holds}
use Rattle.ark_held.specs.declared.areas.Area.{Area}
use Rattle.ark_held.proofs.Finding.{found}
use Rattle.ark_logs.specs.Areas.{if_kind, log_area, log_found, log_granted, log_under}
use Rattle.ark_logs.specs.declared.areas.LogArea.{LogArea}

-- a log or queue of this kind, with its area
pub record HasLog (x : Around) (k : Kind) (l : List ℕ) (a : LogArea) : Type 0 where
  pub held : Held
  pub cap : Capability
  pub log : Log
  pub label : value_at x.labels l ≡ Some cap
  pub grant_is : cap.grant ≡ a.grant
  pub there : at x.machine l ≡ Some held
  pub object : held.object ≡ Objects.log log
  pub serial : slice_get x.numbers held.serial ≡ Some cap.grant
  pub fits : IsLog x l cap log
  pub blocks : fits.slot.blocks ≡ a.spans
  pub kind_is : of_kind k log ≡ Some log
  pub its_kind : log.kind ≡ k

abbrev pub HasNone : Around → Kind → List ℕ → Refusal → Type 0
HasNone x k l (r.NoGrant n) = (n ≡ l) × (at x.machine l ≡ None)
HasNone x k l r.WrongKind = (h : Held) × (at x.machine l ≡ Some h) × (chain_at x.machine l k ≡ None)
HasNone x k l _ = ⊥

abbrev pub FoundAs : Around → Kind → List ℕ → Result LogArea Refusal → Type 0
FoundAs x k l (Ok a) = HasLog x k l a
FoundAs x k l (Err e) = HasNone x k l e

module _ (x : Around) (k : Kind) (l : List ℕ) where
  -- what is no log
  other : (h : Held) (o : Object) → h.object ≡ o → at x.machine l ≡ Some h → as_log o ≡ None → chain_at x.machine l k ≡ None
  other h o is there none = rw (there, is, none) refl

  no_log : (c : Capability) (z : CapKind) (h : Held) (o : Object) → c.kind ≡ z → log_granted x.areas k z c.grant ≡ Err r.WrongKind → h.object ≡ o → at x.machine l ≡ Some h → as_log o ≡ None → FoundAs x k l (log_granted x.areas k c.kind c.grant)
  no_log c z h o its_kind wrong is there none =
      subst (λ (y : CapKind). FoundAs x k l (log_granted x.areas k y c.grant)) (sym its_kind) (subst (λ (y : Result LogArea Refusal). FoundAs x k l y) (sym wrong) (h, there, other h o is there none))

  not_raw : (z : Kind) (a : LogArea) → if_kind z kind.Raw a ≡ Err r.WrongKind
  not_raw kind.Raw a = refl
  not_raw kind.Log a = refl
  not_raw kind.Queue a = refl

  -- a log or queue, of this kind or of the other
  by_kind : (c : Capability) (h : Held) (g : Log) (z y : Kind) → g.kind ≡ z → k ≡ y → value_at x.labels l ≡ Some c → h.object ≡ Objects.log g → at x.machine l ≡ Some h → slice_get x.numbers h.serial ≡ Some c.grant → (f : IsLog x l c g)
      → FoundAs x k l (if_kind y z (record { grant = c.grant; spans = f.slot.blocks }))
  by_kind c h g kind.Log kind.Log its is label object there serial f =
      record { held = h; cap = c; log = g; label = label; grant_is = refl; there = there; object = object; serial = serial; fits = f; blocks = refl; kind_is = rw (its, is) refl; its_kind = its ∙ sym is }
  by_kind c h g kind.Queue kind.Queue its is label object there serial f =
      record { held = h; cap = c; log = g; label = label; grant_is = refl; there = there; object = object; serial = serial; fits = f; blocks = refl; kind_is = rw (its, is) refl; its_kind = its ∙ sym is }
  by_kind c h g kind.Log kind.Queue its is label object there serial f = (h, there, rw (there, object, its, is) refl)
  by_kind c h g kind.Queue kind.Log its is label object there serial f = (h, there, rw (there, object, its, is) refl)
  by_kind c h g kind.Log kind.Raw its is label object there serial f = (h, there, rw (there, object, its, is) refl)
  by_kind c h g kind.Queue kind.Raw its is label object there serial f = (h, there, rw (there, object, its, is) refl)
  by_kind c h g kind.Raw y its is label object there serial f = absurd (f.no_raw its)

  by_object : (c : Capability) (h : Held) (o : Object) → value_at x.labels l ≡ Some c → h.object ≡ o → at x.machine l ≡ Some h → slice_get x.numbers h.serial ≡ Some c.grant → IsObjectOf x l c o → FoundAs x k l (log_granted x.areas k c.kind c.grant)
  by_object c h (Objects.log g) label is there serial f =
      subst (λ (z : CapKind). FoundAs x k l (log_granted x.areas k z c.grant)) (sym f.its_kind)
      (subst (λ (b : Option Area). FoundAs x k l (log_found k c.grant b)) (sym f.kept)
      (subst (λ (z : Kind). FoundAs x k l (if_kind k z (record { grant = c.grant; spans = f.slot.blocks }))) (sym f.same_kind) (by_kind c h g g.kind k refl refl label is there serial f)))
  by_object c h (Objects.raw z) label is there serial f =
      no_log c cap_kind.Vsa h (Objects.raw z) f.its_kind (ap (log_found k c.grant) f.kept ∙ ap (λ (y : Kind). if_kind k y (record { grant = c.grant; spans = f.slot.blocks })) f.raw ∙ not_raw k (record { grant = c.grant; spans = f.slot.blocks })) is there refl
  by_object c h (Objects.buffer z) label is there serial f = no_log c cap_kind.Buf h (Objects.buffer z) f.its_kind refl is there refl
  by_object c h (Objects.vsic z) label is there serial f = no_log c cap_kind.Vsic h (Objects.vsic z) f.its_kind refl is there refl
  by_object c h (Objects.vnic z) label is there serial f = no_log c cap_kind.Vnic h (Objects.vnic z) f.its_kind refl is there refl
  by_object c h (Objects.filter z y) label is there serial f = no_log c cap_kind.Filter h (Objects.filter z y) f.its_kind refl is there refl
  by_object c h (Objects.door z) label is there serial f = no_log c cap_kind.Door h (Objects.door z) f.its_kind refl is there refl
  by_object c h (Objects.rate z y) label is there serial f = no_log c cap_kind.Rate h (Objects.rate z y) f.its_kind refl is there refl
  by_object c h (Objects.socket z) label is there serial f = no_log c cap_kind.Sock h (Objects.socket z) f.its_kind refl is there refl

  by_label : (c : Option Capability) (o : Option Held) → value_at x.labels l ≡ c → at x.machine l ≡ o → AtLabel x l c o → FoundAs x k l (log_under x.areas k l c)
  by_label None None label there m = (refl, there)
  by_label (Some c) (Some h) label there m = by_object c h h.object label refl there m.serial m.object
  by_label None (Some h) label there m = absurd m
  by_label (Some c) None label there m = absurd m

  pub found_log : Holds x → (res : Result LogArea Refusal) → res ≡ log_area x.labels x.areas k l → FoundAs x k l res
  found_log h res is = subst (λ (z : Result LogArea Refusal). FoundAs x k l z) (sym is) (by_label (value_at x.labels l) (at x.machine l) refl refl (found x l x.labels x.machine.held h.held))
