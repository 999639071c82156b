-- A card looks at no area but the one that its oldest descriptor names.
use Rattle.std.proofs.Common.{◌≡◌, ℕ, zero, suc, ◌<◌, cond, List, [], ◌∷◌, nat_eq, refl, sym, ◌∙◌, ap, subst, arith, All}
use Rattle.std.specs.Prelude.{Option, Some, None, option_map, find, ◌==◌}
use Rattle.std.specs.Map.{lookup}
use Rattle.std.proofs.lemmas.Bool.{eq-eqb, cond_both}
use Rattle.ark_vic.specs.declared.descriptor.Descriptor.{Descriptor}
use Rattle.ark_vsic.specs.Card.{Card, Areas, is_bound, head_of}
use Rattle.ark_vsic.specs.Moves.{due_of, due_for, due_by, due_in}
use Rattle.ark_held.specs.Words.{AreaList}
use Rattle.ark_held.specs.Inside.{AreasInside}
use Rattle.ark_held.specs.Moving.{blocks_held, area_of_grant, area_named}
use Rattle.ark_held.specs.declared.areas.Area.{Area}
use Rattle.ark_held.proofs.Dues.{blocks_found}

-- the area that is named, as a list
abbrev pub alone : Option (ℕ × List ℕ) → Areas
alone None = []
alone (Some a) = a ∷ []

found_alone : (g : ℕ) (o : Option Area) → option_map (λ z. z.1) (find (λ z. z.0 == g) (alone (area_of_grant g o))) ≡ option_map (λ a. a.spans) o
found_alone g None = refl
found_alone g (Some a) = ap (λ t. option_map (λ (z : ℕ × List ℕ). z.1) (cond t (Some (g, a.spans)) None)) (eq-eqb g g refl)

named_alone : (o : Option Descriptor) (card : Card) (areas : AreaList) (now : ℕ) → due_for o card (alone (area_named o areas)) now ≡ due_for o card (blocks_held areas) now
named_alone None card areas now = refl
named_alone (Some d) card areas now =
    ap (λ (b : Option (List ℕ)). due_by d.job (due_in (cond (is_bound d.grant card.bound) b None) d card.ring.moved card.pace now))
    (found_alone d.grant (lookup (nat_eq d.grant) areas) ∙ sym (blocks_found d.grant areas))

pub due_named : (card : Card) (areas : AreaList) (now : ℕ) (o : Option (ℕ × List ℕ)) → o ≡ area_named (head_of card.ring) areas → due_of card (alone o) now ≡ due_of card (blocks_held areas) now
due_named card areas now o is = ap (λ (z : Option (ℕ × List ℕ)). due_of card (alone z) now) is ∙ named_alone (head_of card.ring) card areas now

-- and a device that has each block of the application's areas has those of this one
module _ (size : ℕ) where
  abbrev pub Below : Option Area → Type 0
  Below None = Unit {0}
  Below (Some a) = All (λ n. n < size) a.spans

  pub below_found : (g : ℕ) (areas : AreaList) → AreasInside size areas → Below (lookup (nat_eq g) areas)
  below_found g [] inside = tt
  below_found g (x ∷ xs) inside = cond_both (nat_eq g x.0) (Some x.1) (lookup (nat_eq g) xs) Below (λ here. inside 0 x (omega arith)) (λ other. below_found g xs (λ k d lt. inside (suc k) d (omega (arith, lt))))

  all_one : (a : ℕ × List ℕ) → All (λ n. n < size) a.1 → All (λ z. All (λ n. n < size) z.1) (a ∷ [])
  all_one a all zero d lt = all
  all_one a all (suc k) d lt = absurd (omega (arith, lt))

  none_of_them : All (λ (z : ℕ × List ℕ). All (λ n. n < size) z.1) []
  none_of_them k d lt = absurd (omega (arith, lt))

  of_grant : (g : ℕ) (o : Option Area) → Below o → All (λ z. All (λ n. n < size) z.1) (alone (area_of_grant g o))
  of_grant g None below = none_of_them
  of_grant g (Some a) below = all_one (g, a.spans) below

  named_below : (o : Option Descriptor) (areas : AreaList) → AreasInside size areas → All (λ z. All (λ n. n < size) z.1) (alone (area_named o areas))
  named_below None areas inside = none_of_them
  named_below (Some d) areas inside = of_grant d.grant (lookup (nat_eq d.grant) areas) (below_found d.grant areas inside)

  pub named_inside : (card : Card) (areas : AreaList) (o : Option (ℕ × List ℕ)) → o ≡ area_named (head_of card.ring) areas → AreasInside size areas → All (λ z. All (λ n. n < size) z.1) (alone o)
  named_inside card areas o is inside = subst (λ (z : Option (ℕ × List ℕ)). All (λ a. All (λ n. n < size) a.1) (alone z)) (sym is) (named_below (head_of card.ring) areas inside)
