-- Rates, as words on them come to their rows.
use Rattle.std.proofs.Common.{◌≡◌, ℕ, List, refl, sym, ◌∙◌, ap, subst}
use Rattle.std.specs.Prelude.{Option, Some, None, Result, Ok, Err, option_map}
use Rattle.ark_base.specs.declared.refusal.Refusal.{Refusal}
use Rattle.ark_base.specs.declared.refusal.Refusal.TheVariants as r
use Rattle.ark_caps.specs.Labels.{value_at}
use Rattle.ark_caps.specs.declared.capability.Capability.{Capability}
use Rattle.ark_caps.specs.declared.capability.CapKind.{CapKind}
use Rattle.ark_caps.specs.declared.capability.CapKind.TheVariants as cap_kind
use Rattle.ark_objects.specs.Held.{at as slot}
use Rattle.ark_machine.specs.Objects
use Rattle.ark_machine.specs.Objects.{Object, as_rate}
use Rattle.ark_machine.specs.Machine.{Held, at}
use Rattle.ark_held.specs.Around.{Around}
use Rattle.ark_held.specs.Cards.{IsRate}
use Rattle.ark_held.specs.Held.{IsObjectOf, AtLabel, Holds}
use Rattle.ark_held.specs.Pacing.{allowed, rate_kept}
use Rattle.ark_held.specs.Beyond.{Beyond, around}
use Rattle.ark_held.specs.declared.allowance.Allowance.{Allowance}
use Rattle.ark_held.specs.declared.app.App.{App}
use Rattle.ark_held.proofs.Lists.{not_some, some_same}
use Rattle.ark_held.proofs.Finding.{found}
use Rattle.ark_held.proofs.ByKind.{rate_of, no_rate}
use Rattle.ark_own.specs.Keys.{rate_key, rate_under, key_if_rate}

-- What is under a label.

pub record HasRate (x : Around) (l : List ℕ) (key : ℕ) : Type 0 where
  pub held : Held
  pub cap : Capability
  -- bytes a tick, and bytes of a burst
  pub gives : ℕ × ℕ
  pub label : value_at x.labels l ≡ Some cap
  pub key_is : cap.key ≡ key
  pub there : at x.machine l ≡ Some held
  pub object : held.object ≡ Objects.rate gives.0 gives.1
  pub fits : IsRate x cap gives.0 gives.1

abbrev pub HasNone : Around → List ℕ → Refusal → Type 0
HasNone x l (r.NoGrant k) = (k ≡ l) × (at x.machine l ≡ None)
HasNone x l r.WrongKind = (h : Held) × (at x.machine l ≡ Some h) × (as_rate h.object ≡ None)
HasNone x l _ = ⊥

abbrev pub FoundAs : Around → List ℕ → Result ℕ Refusal → Type 0
FoundAs x l (Ok key) = HasRate x l key
FoundAs x l (Err e) = HasNone x l e

module _ (x : Around) (l : List ℕ) where
  by_kind : (c : Capability) (k : CapKind) (h : Held) → c.kind ≡ k → value_at x.labels l ≡ Some c → at x.machine l ≡ Some h → IsObjectOf x l c h.object → FoundAs x l (key_if_rate k c.key)
  by_kind c cap_kind.Rate h kind label there f =
      let d = rate_of x l c h.object f kind in
      record { held = h; cap = c; gives = d.0; label = label; key_is = refl; there = there; object = d.1; fits = d.2 }
  by_kind c cap_kind.Vsa h kind label there f = (h, there, no_rate x l c h.object f (λ e. cc (kind, e)))
  by_kind c cap_kind.Vsic h kind label there f = (h, there, no_rate x l c h.object f (λ e. cc (kind, e)))
  by_kind c cap_kind.Vnic h kind label there f = (h, there, no_rate x l c h.object f (λ e. cc (kind, e)))
  by_kind c cap_kind.Filter h kind label there f = (h, there, no_rate x l c h.object f (λ e. cc (kind, e)))
  by_kind c cap_kind.Door h kind label there f = (h, there, no_rate x l c h.object f (λ e. cc (kind, e)))
  by_kind c cap_kind.Buf h kind label there f = (h, there, no_rate x l c h.object f (λ e. cc (kind, e)))
  by_kind c cap_kind.Sock h kind label there f = (h, there, no_rate x l c h.object f (λ e. cc (kind, e)))

  by_label : (c : Option Capability) (o : Option Held) → value_at x.labels l ≡ c → at x.machine l ≡ o → AtLabel x l c o → FoundAs x l (rate_under l c)
  by_label None None label there m = (refl, there)
  by_label (Some c) (Some h) label there m = by_kind c c.kind h refl label there m.object
  by_label None (Some h) label there m = absurd m
  by_label (Some c) None label there m = absurd m

  pub found_rate : Holds x → (res : Result ℕ Refusal) → res ≡ rate_key x.labels l → FoundAs x l res
  found_rate h res is = subst (λ (z : Result ℕ Refusal). FoundAs x l z) (sym is) (by_label (value_at x.labels l) (at x.machine l) refl refl (found x l x.labels x.machine.held h.held))

-- a rate by its key, as the code has it
module _ (app : App) (key : ℕ) (l : List ℕ) (y : Beyond) (d : HasRate (around y app) l key) where
  entry_is : rate_kept app.devices.rates key ≡ Some d.gives
  entry_is = ap (λ k. rate_kept app.devices.rates k) (sym d.key_is) ∙ d.fits.kept

  -- a rate's label has its rate
  pub never_gone : slot app.devices.rates key ≡ None → ⊥
  never_gone gone = not_some (rate_kept app.devices.rates key) d.gives (ap (λ o. option_map allowed o) gone) entry_is

  -- which gives what the machine says
  pub gives_same : (a : Allowance) → slot app.devices.rates key ≡ Some a → allowed a ≡ d.gives
  gives_same a here = some_same (rate_kept app.devices.rates key) (allowed a) d.gives (ap (λ o. option_map allowed o) here) entry_is
