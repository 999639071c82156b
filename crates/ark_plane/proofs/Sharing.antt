-- No block is in two slots.
use Rattle.std.proofs.Common.{◌≡◌, inl, inr, ℕ, true, ◌==◌, List, [], ◌∷◌, sym, ◌∙◌, ap, Contains}
use Rattle.std.proofs.lemmas.Bool.{false≢true}
use Rattle.ark_table.specs.Slots.{Slot}
use Rattle.ark_machine.specs.Plane.{is_granted}
use Rattle.ark_machine.specs.Grants.{has_block, SlotsApart}
use Rattle.ark_held.proofs.Members.{In, contains_in}
use Rattle.ark_plane.proofs.Lists.{any_in}
use Rattle.ark_plane.proofs.Freeing.{eq_same}

granted_in : (ss : List Slot) (t : Slot) (n : ℕ) → In ss t → has_block t.blocks n ≡ true → is_granted ss n ≡ true
granted_in ss t n among has = any_in (λ s. has_block s.blocks n) ss t among has

pub same_slot : (ss : List Slot) (t u : Slot) (n : ℕ) → SlotsApart ss → In ss t → In ss u → has_block t.blocks n ≡ true → has_block u.blocks n ≡ true → t ≡ u
same_slot [] t u n apart a b x y = absurd a
same_slot (s ∷ ss) t u n apart (inl a) (inl b) x y = sym a ∙ b
same_slot (s ∷ ss) t u n apart (inl a) (inr b) x y = absurd (false≢true (sym (apart.0.1 n (ap (λ (z : Slot). has_block z.blocks n) a ∙ x)) ∙ granted_in ss u n b y))
same_slot (s ∷ ss) t u n apart (inr a) (inl b) x y = absurd (false≢true (sym (apart.0.1 n (ap (λ (z : Slot). has_block z.blocks n) b ∙ y)) ∙ granted_in ss t n a x))
same_slot (s ∷ ss) t u n apart (inr a) (inr b) x y = same_slot ss t u n apart.1 a b x y

pub has : (blocks : List ℕ) (n : ℕ) → Contains blocks n → has_block blocks n ≡ true
has blocks n c = any_in (λ b. b == n) blocks n (contains_in blocks n c) (eq_same n)

-- two slots that share a block are the same
pub one_slot : (ss : List Slot) (t u : Slot) (n : ℕ) → SlotsApart ss → Contains ss t → Contains ss u → Contains t.blocks n → Contains u.blocks n → t ≡ u
one_slot ss t u n apart a b x y = same_slot ss t u n apart (contains_in ss t a) (contains_in ss u b) (has t.blocks n x) (has u.blocks n y)
