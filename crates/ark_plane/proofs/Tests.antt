-- By what a test gives.
use Rattle.std.proofs.Common.{◌≡◌, ℕ, Bool, true, false, List, refl, sym, ◌∙◌, bytes_eq}
use Rattle.std.proofs.lemmas.Slice.Eq.{bytes_eq-Decides}

-- by what a test gives
pub by_test : (t : Bool) (P : Bool → Type 0) → (t ≡ true → P true) → (t ≡ false → P false) → P t
by_test true P h k = h refl
by_test false P h k = k refl

pub bytes_eq-same : (a : List ℕ) → bytes_eq a a ≡ true
bytes_eq-same a = (bytes_eq-Decides a a).1 refl

-- who differs from one differs from what equals it
pub bytes_eq-other : (a b c : List ℕ) → bytes_eq a b ≡ false → bytes_eq c b ≡ true → bytes_eq c a ≡ false
bytes_eq-other a b c apart same = by_test (bytes_eq c a) (λ t. t ≡ false)
    (λ yes. let ab : a ≡ b = sym ((bytes_eq-Decides c a).0 yes) ∙ (bytes_eq-Decides c b).0 same in
    sym ((bytes_eq-Decides a b).1 ab) ∙ apart)
    (λ h. refl)
