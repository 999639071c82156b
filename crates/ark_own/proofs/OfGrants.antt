-- The raw area under a label, with its grant: what is found, or why there is none.
use Rattle.std.proofs.Common.{◌≡◌, ℕ, suc, ◌<◌, Bool, true, false, cond, List, [], ◌∷◌, nat_eq, refl, sym, ◌∙◌, ap, subst, arith, All, IfOk}
use Rattle.std.specs.Prelude.{Option, Some, None, Result, Ok, Err}
use Rattle.std.specs.Map.{lookup}
use Rattle.ark_base.specs.declared.kind.Kind.{Kind}
use Rattle.ark_base.specs.declared.kind.Kind.TheVariants as kind
use Rattle.ark_base.specs.declared.refusal.Refusal.{Refusal}
use Rattle.ark_base.specs.declared.refusal.Refusal.TheVariants as r
use Rattle.ark_caps.specs.Labels.{value_at}
use Rattle.ark_caps.specs.declared.capability.Capability.{Capability}
use Rattle.ark_caps.specs.declared.capability.CapKind.{CapKind}
use Rattle.ark_caps.specs.declared.capability.CapKind.TheVariants as cap_kind
use Rattle.ark_machine.specs.Objects
use Rattle.ark_machine.specs.Objects.{Object, as_raw}
use Rattle.ark_machine.specs.Machine.{Held, at}
use Rattle.ark_held.specs.Around.{Around}
use Rattle.ark_held.specs.Held.{Holds, IsObjectOf, AtLabel}
use Rattle.ark_held.specs.Inside.{AreasInside}
use Rattle.ark_held.specs.Words.{Labels, AreaList, area_in, found_grant, grant_if_raw, grant_of, grant_under, grant_at}
use Rattle.ark_held.proofs.Finding.{found}
use Rattle.ark_held.specs.declared.areas.Area.{Area}
use Rattle.ark_own.specs.Finds.{IsThere, HoldsOther}

-- the application holds this raw area of this grant under the label
pub record IsGrantOf (x : Around) (l : List ℕ) (grant : ℕ) (kept : Area) : Type 0 where
  pub area : IsThere x l
  pub cap : Capability
  pub label : value_at x.labels l ≡ Some cap
  pub its_grant : cap.grant ≡ grant
  pub its_area : area_in area.slot ≡ kept
  pub raw : area.slot.kind ≡ kind.Raw

-- or none, and why
abbrev pub Lacks : Around → List ℕ → Refusal → Type 0
Lacks x l (r.NoGrant k) = (k ≡ l) × (at x.machine l ≡ None)
Lacks x l r.WrongKind = HoldsOther x l
Lacks x l _ = ⊥

abbrev pub FindsGrant : Around → List ℕ → Result (ℕ × Area) Refusal → Type 0
FindsGrant x l (Ok p) = IsGrantOf x l p.0 p.1
FindsGrant x l (Err e) = Lacks x l e

not_raw : (k : Kind) (grant : ℕ) (kept : Area) → (k ≡ kind.Raw → ⊥) → grant_if_raw k grant kept ≡ Err r.WrongKind
not_raw kind.Raw grant kept other = absurd (other refl)
not_raw kind.Log grant kept other = refl
not_raw kind.Queue grant kept other = refl

module _ (x : Around) (l : List ℕ) (h : Holds x) where
  of_kind : (c : Capability) (k : CapKind) → c.kind ≡ k → grant_of x.areas k c.grant ≡ Err r.WrongKind → HoldsOther x l → FindsGrant x l (grant_of x.areas c.kind c.grant)
  of_kind c k kind wrong other =
      subst (λ (z : CapKind). FindsGrant x l (grant_of x.areas z c.grant)) (sym kind)
      (subst (λ (z : Result (ℕ × Area) Refusal). FindsGrant x l z) (sym wrong) other)

  holds_other : (d : Held) (o : Object) → d.object ≡ o → at x.machine l ≡ Some d → as_raw o ≡ None → HoldsOther x l
  holds_other d o is there none = record { held = d; there = there; other = ap as_raw is ∙ none }

  by_object : (c : Capability) (d : Held) (o : Object) → value_at x.labels l ≡ Some c → d.object ≡ o → at x.machine l ≡ Some d → IsObjectOf x l c o → FindsGrant x l (grant_of x.areas c.kind c.grant)
  by_object c d (Objects.raw z) label is there f =
      subst (λ (k : CapKind). FindsGrant x l (grant_of x.areas k c.grant)) (sym f.its_kind)
      (subst (λ (b : Option Area). FindsGrant x l (found_grant c.grant b)) (sym f.kept)
      (subst (λ (k : Kind). FindsGrant x l (grant_if_raw k c.grant (area_in f.slot))) (sym f.raw)
      (record {
        area = record { held = d; raw = z; slot = f.slot; there = there; object = is; placed = f.there; fits = f.fits };
        cap = c;
        label = label;
        its_grant = refl;
        its_area = refl;
        raw = f.raw;
      })))
  by_object c d (Objects.log z) label is there f =
      of_kind c cap_kind.Vsa f.its_kind (ap (found_grant c.grant) f.kept ∙ not_raw f.slot.kind c.grant (area_in f.slot) (λ raw. f.no_raw (sym f.same_kind ∙ raw))) (holds_other d (Objects.log z) is there refl)
  by_object c d (Objects.vsic z) label is there f = of_kind c cap_kind.Vsic f.its_kind refl (holds_other d (Objects.vsic z) is there refl)
  by_object c d (Objects.vnic z) label is there f = of_kind c cap_kind.Vnic f.its_kind refl (holds_other d (Objects.vnic z) is there refl)
  by_object c d (Objects.filter z y) label is there f = of_kind c cap_kind.Filter f.its_kind refl (holds_other d (Objects.filter z y) is there refl)
  by_object c d (Objects.door z) label is there f = of_kind c cap_kind.Door f.its_kind refl (holds_other d (Objects.door z) is there refl)
  by_object c d (Objects.rate z y) label is there f = of_kind c cap_kind.Rate f.its_kind refl (holds_other d (Objects.rate z y) is there refl)
  by_object c d (Objects.buffer z) label is there f = of_kind c cap_kind.Buf f.its_kind refl (holds_other d (Objects.buffer z) is there refl)
  by_object c d (Objects.socket z) label is there f = of_kind c cap_kind.Sock f.its_kind refl (holds_other d (Objects.socket z) is there refl)

  by_label : (c : Option Capability) (o : Option Held) → value_at x.labels l ≡ c → at x.machine l ≡ o → AtLabel x l c o → FindsGrant x l (grant_under x.areas l c)
  by_label None None label is m = (refl, is)
  by_label (Some c) (Some d) label is m = by_object c d d.object label refl is m.object
  by_label None (Some d) label is m = absurd m
  by_label (Some c) None label is m = absurd m

  pub finds_grant : (f : Result (ℕ × Area) Refusal) → grant_at x.labels x.areas l ≡ f → FindsGrant x l f
  finds_grant f is = subst (λ (z : Result (ℕ × Area) Refusal). FindsGrant x l z) is (by_label (value_at x.labels l) (at x.machine l) refl refl (found x l x.labels x.machine.held h.held))

-- A device that has each block of the application's areas has those of the one that is found.
module _ (size : ℕ) where
  abbrev Below : Result (ℕ × Area) Refusal → Type 0
  Below found = IfOk found (λ p. All (λ n. n < size) p.1.spans)

  below_raw : (k : Kind) (grant : ℕ) (a : Area) → All (λ n. n < size) a.spans → Below (grant_if_raw k grant a)
  below_raw kind.Raw grant a all = all
  below_raw kind.Log grant a all = tt
  below_raw kind.Queue grant a all = tt

  below_first : (grant : ℕ) (b : Bool) (a : Area) (rest : Option Area) → All (λ n. n < size) a.spans → Below (found_grant grant rest) → Below (found_grant grant (cond b (Some a) rest))
  below_first grant true a rest all other = below_raw a.kind grant a all
  below_first grant false a rest all other = other

  below_found : (grant g : ℕ) (areas : AreaList) → AreasInside size areas → Below (found_grant grant (lookup (nat_eq g) areas))
  below_found grant g [] inside = tt
  below_found grant g (x ∷ xs) inside = below_first grant (nat_eq g x.0) x.1 (lookup (nat_eq g) xs) (inside 0 x (omega arith)) (below_found grant g xs (λ k d lt. inside (suc k) d (omega (arith, lt))))

  below_of : (k : CapKind) (g : ℕ) (areas : AreaList) → AreasInside size areas → Below (grant_of areas k g)
  below_of cap_kind.Vsa g areas inside = below_found g g areas inside
  below_of cap_kind.Vsic g areas inside = tt
  below_of cap_kind.Vnic g areas inside = tt
  below_of cap_kind.Filter g areas inside = tt
  below_of cap_kind.Door g areas inside = tt
  below_of cap_kind.Rate g areas inside = tt
  below_of cap_kind.Buf g areas inside = tt
  below_of cap_kind.Sock g areas inside = tt

  below_under : (l : List ℕ) (c : Option Capability) (areas : AreaList) → AreasInside size areas → Below (grant_under areas l c)
  below_under l None areas inside = tt
  below_under l (Some c) areas inside = below_of c.kind c.grant areas inside

  pub below_grant : (labels : Labels) (areas : AreaList) (l : List ℕ) (p : ℕ × Area) → AreasInside size areas → grant_at labels areas l ≡ Ok p → All (λ n. n < size) p.1.spans
  below_grant labels areas l p inside is = subst (λ (z : Result (ℕ × Area) Refusal). Below z) is (below_under l (value_at labels l) areas inside)
