-- Labels by their places.
use Rattle.std.proofs.Common.{◌≡◌, ℕ, zero, suc, cond, List, [], ◌∷◌, refl, sym, ◌∙◌, ap, subst, bytes_eq}
use Rattle.std.specs.Prelude.{Some, None, slice_get}
use Rattle.ark_caps.specs.Labels.{value_at}
use Rattle.ark_caps.specs.declared.capability.Capability.{Capability}
use Rattle.ark_held.specs.Words.{Labels}
use Rattle.ark_held.specs.Held.{AreDistinctLabels}
use Rattle.ark_held.proofs.Lists.{by_test, not_some, same_name, some_same, value_behind, value_first}

pub value_here : (ps : Labels) (i : ℕ) (p : List ℕ × Capability) → AreDistinctLabels ps → slice_get ps i ≡ Some p → value_at ps p.0 ≡ Some p.1
value_here [] zero p apart is = absurd (not_some None p refl is)
value_here [] (suc i) p apart is = absurd (not_some None p refl is)
value_here (q ∷ qs) zero p apart is = subst (λ (z : List ℕ × Capability). value_at (q ∷ qs) z.0 ≡ Some z.1) (some_same (Some q) q p refl is) (value_first q qs)
value_here (q ∷ qs) (suc i) p apart is = value_behind q qs p.0 p.1 apart (value_here qs i p apart.1 is)

pub place_of : (ps : Labels) (l : List ℕ) (c : Capability) → value_at ps l ≡ Some c → (i : ℕ) × (slice_get ps i ≡ Some (l, c))
place_of [] l c is = absurd (not_some None c refl is)
place_of (p ∷ ps) l c is = by_test (λ t. bytes_eq l p.0 ≡ t → cond t (Some p.1) (value_at ps l) ≡ Some c → (i : ℕ) × (slice_get (p ∷ ps) i ≡ Some (l, c))) (bytes_eq l p.0)
    (λ yes q e. (0, ap (λ (k : List ℕ). Some (k, p.1)) (sym (same_name l p.0 q)) ∙ ap (λ (d : Capability). Some (l, d)) (some_same (Some p.1) p.1 c refl e)))
    (λ no q e. let rest = place_of ps l c e in (suc rest.0, rest.1)) refl is
