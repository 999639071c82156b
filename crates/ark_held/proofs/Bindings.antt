-- The areas that are bound to cards stay held, each of them once.
use Rattle.std.proofs.Common.{◌≡◌, ◌⊎◌, inl, inr, ℕ, ◌<◌, ◌≤◌, true, false, not, cond, List, [], ◌∷◌, ◌++◌, length, nat_eq, refl, sym, ◌∙◌, ap, subst, arith}
use Rattle.std.specs.Prelude.{Option, Some, None, Result, Ok, Err, OnOk, OnErr, is_some, option_map, if◌then◌else◌, ◌==◌}
use Rattle.std.specs.List.{AllByRecursion}
use Rattle.std.specs.Map.{lookup}
use Rattle.std.proofs.Math.Logic.{∥∥₁_map, ∥∥₁_elim}
use Rattle.std.proofs.Math.Bridge.{le_prop}
use Rattle.std.proofs.lemmas.Bool.{cases_eq, false≢true}
use Rattle.std.proofs.lemmas.Bool.Decides.{nat_tests}
use Rattle.ark_extents.specs.ViewLaws.{some_map}
use Rattle.ark_objects.specs.Held.{at, Changes}
use Rattle.ark_region.specs.Frames.{Space}
use Rattle.ark_vsic.specs.Card.{is_bound, bound_with, bound_without}
use Rattle.ark_held.specs.Words.{AreaList, with_area, with_spans, without_area, added_to}
use Rattle.ark_held.specs.Bound.{IsNoneOf, AreApart, AreAreasOf, IsBoundTo, AreBound, HasRoomToBind, with_bound}
use Rattle.ark_held.specs.Closing.{HasClosed, IsOpenAt, OfLogAt, closed}
use Rattle.ark_held.specs.Rings.{LosesCard, unbound}
use Rattle.ark_held.specs.declared.areas.Area.{Area}
use Rattle.ark_held.specs.declared.card.StorageCard.{StorageCard}
use Rattle.ark_held.proofs.Lists.{by_test, not_some, some_same, lookup_front}
use Rattle.ark_held.proofs.Owners.{no_more}
use Rattle.ark_held.proofs.Spanning.{spans_has}
use Rattle.ark_held.proofs.Without.{without_other}

-- a key that has something
pub some_in : {X : Type 0} (o : Option X) → is_some o ≡ true → (x : X) × (o ≡ Some x)
some_in (Some x) some = (x, refl)
some_in None some = absurd (false≢true some)

-- One card.

none_of : (g : ℕ) (ks : List ℕ) → is_bound g ks ≡ false → IsNoneOf g ks
none_of g [] none = tt
none_of g (k ∷ ks) none = by_test (λ t. (k == g) ≡ t → IsNoneOf g (k ∷ ks)) (k == g)
    (λ yes q. absurd (false≢true (sym none ∙ rw q refl)))
    (λ no q. (grind (arith, nat_tests, q), none_of g ks (sym (rw q refl) ∙ none))) refl

all_last : (P : ℕ → Type 0) (k : ℕ) (ks : List ℕ) → P k → AllByRecursion P ks → AllByRecursion P (ks ++ k ∷ [])
all_last P k [] one all = (one, tt)
all_last P k (z ∷ zs) one all = (all.0, all_last P k zs one all.1)

apart_last : (g : ℕ) (ks : List ℕ) → IsNoneOf g ks → AreApart ks → AreApart (ks ++ g ∷ [])
apart_last g [] none apart = (tt, tt)
apart_last g (k ∷ ks) none apart =
    let first = none.0 in
    let other : nat_eq k g ≡ false = grind (arith, nat_tests, first) in
    (all_last (λ z. nat_eq k z ≡ false) g ks other apart.0, apart_last g ks none.1 apart.1)

all_without : (P : ℕ → Type 0) (g : ℕ) (ks : List ℕ) → AllByRecursion P ks → AllByRecursion P (bound_without g ks)
all_without P g [] all = tt
all_without P g (k ∷ ks) all = by_test (λ t. AllByRecursion P (cond (not t) (k ∷ bound_without g ks) (bound_without g ks))) (k == g) (λ yes. all_without P g ks all.1) (λ no. (all.0, all_without P g ks all.1))

apart_without : (g : ℕ) (ks : List ℕ) → AreApart ks → AreApart (bound_without g ks)
apart_without g [] apart = tt
apart_without g (k ∷ ks) apart = by_test (λ t. AreApart (cond (not t) (k ∷ bound_without g ks) (bound_without g ks))) (k == g)
    (λ yes. apart_without g ks apart.1) (λ no. (all_without (λ z. nat_eq k z ≡ false) g ks apart.0, apart_without g ks apart.1))

module _ (areas : AreaList) (g : ℕ) (ks : List ℕ) (is : IsBoundTo areas ks) where
  bound_more : is_some (lookup (nat_eq g) areas) ≡ true → IsBoundTo areas (bound_with g ks)
  bound_more held = by_test (λ t. is_bound g ks ≡ t → IsBoundTo areas (if t then ks else ks ++ g ∷ [])) (is_bound g ks)
      (λ yes q. is)
      (λ no q. record { apart = apart_last g ks (none_of g ks q) is.apart; held = all_last (λ k. is_some (lookup (nat_eq k) areas) ≡ true) g ks held is.held }) refl

  bound_less : IsBoundTo areas (bound_without g ks)
  bound_less = record { apart = apart_without g ks is.apart; held = all_without (λ k. is_some (lookup (nat_eq k) areas) ≡ true) g ks is.held }

  -- one more that is held finds room among the areas
  room_left : is_some (lookup (nat_eq g) areas) ≡ true → is_bound g ks ≡ false → length ks < length areas
  room_left held other = let most = no_more areas (g ∷ ks) (none_of g ks other, is.apart) (held, is.held) in omega (arith, most)

-- All cards.

module _ (areas : AreaList) (before after : List (Option StorageCard)) (key : ℕ) (all : ∥ AreBound areas before ∥₁) where
  -- a key has another card
  bound_set : (now : StorageCard) → Changes before after key (Some now) → (AreBound areas before → IsBoundTo areas now.vsic.bound) → ∥ AreBound areas after ∥₁
  bound_set now changes step = ∥∥₁_map all (λ each k c there. elim (cases_eq k key) [
    | inl e ↦ subst (λ (z : StorageCard). IsBoundTo areas z.vsic.bound) (some_same (at after key) now c changes.changed (ap (λ (i : ℕ). at after i) (sym e) ∙ there)) (step each)
    | inr other ↦ each k c (sym (changes.others k other) ∙ there)
  ])

  -- a card to which nothing is bound
  pub bound_new : (now : StorageCard) → Changes before after key (Some now) → now.vsic.bound ≡ [] → ∥ AreBound areas after ∥₁
  bound_new now changes none = bound_set now changes (λ each. subst (λ (ks : List ℕ). IsBoundTo areas ks) (sym none) (record { apart = tt; held = tt }))

  module _ (one : StorageCard) (there : at before key ≡ Some one) where
    -- a card whose bindings are the same
    pub bound_same : (now : StorageCard) → Changes before after key (Some now) → now.vsic.bound ≡ one.vsic.bound → ∥ AreBound areas after ∥₁
    bound_same now changes same = bound_set now changes (λ each. subst (λ (ks : List ℕ). IsBoundTo areas ks) (sym same) (each key one there))

    pub bound_then : (g : ℕ) → is_some (lookup (nat_eq g) areas) ≡ true → Changes before after key (Some (with_bound g one)) → ∥ AreBound areas after ∥₁
    bound_then g held changes = bound_set (with_bound g one) changes (λ each. bound_more areas g one.vsic.bound (each key one there) held)

    pub unbound_then : (g : ℕ) → Changes before after key (Some (unbound g one)) → ∥ AreBound areas after ∥₁
    unbound_then g changes = bound_set (unbound g one) changes (λ each. bound_less areas g one.vsic.bound (each key one there))

    pub closed_then : (g : ℕ) → Changes before after key (Some (closed g one)) → ∥ AreBound areas after ∥₁
    closed_then g changes = bound_set (closed g one) changes (λ each. bound_less areas g one.vsic.bound (each key one there))

    -- of at most 8 areas one more can be bound
    pub room_to_bind : (g : ℕ) → is_some (lookup (nat_eq g) areas) ≡ true → length areas ≤ 8 → HasRoomToBind before key g
    room_to_bind g held most = record {
      one = one;
      there = there;
      room = by_test (λ t. is_bound g one.vsic.bound ≡ t → (length one.vsic.bound < 8) ⊎ (t ≡ true)) (is_bound g one.vsic.bound)
          (λ yes q. inr refl)
          (λ no q. inl (∥∥₁_elim all le_prop (λ each. let less = room_left areas g one.vsic.bound (each key one there) held q in omega (arith, less, most)))) refl;
    }

-- the same cards
pub bound_still : (areas : AreaList) (before after : List (Option StorageCard)) → after ≡ before → ∥ AreBound areas before ∥₁ → ∥ AreBound areas after ∥₁
bound_still areas before after same all = ∥∥₁_map all (λ each. subst (λ (z : List (Option StorageCard)). AreBound areas z) (sym same) each)

-- a log that is closed on its card, or not
pub bound_closed : (areas : AreaList) (before after : List (Option StorageCard)) (key : ℕ) → ∥ AreBound areas before ∥₁ → IsOpenAt before key → (old new : Space) {A E : Type 0} (result : Result A E)
    → OnOk result (OfLogAt before key (λ one chain. HasClosed before after key one chain old new)) → OnErr result (after ≡ before) → ∥ AreBound areas after ∥₁
bound_closed areas before after key all on old new (Ok a) closes same = closed_then areas before after key all on.one on.there on.chain.grant (closes on.one on.chain on.there on.log).card
bound_closed areas before after key all on old new (Err e) closes same = bound_still areas before after same all

-- no card
pub none_bound : (areas : AreaList) (cards : List (Option StorageCard)) → ((key : ℕ) → at cards key ≡ None) → AreBound areas cards
none_bound areas cards none key c there = absurd (not_some (at cards key) c (none key) there)

-- an area more

held_more : (areas : AreaList) (grant : ℕ) (area : Area) (g : ℕ) → is_some (lookup (nat_eq g) areas) ≡ true → is_some (lookup (nat_eq g) (with_area areas grant area)) ≡ true
held_more areas grant area g held = by (lookup (nat_eq grant) areas)
  where
    front : (o : Option Area) → lookup (nat_eq g) areas ≡ o → is_some o ≡ true → is_some (lookup (nat_eq g) (areas ++ (grant, area) ∷ [])) ≡ true
    front (Some a) is some = ap is_some (lookup_front (nat_eq g) areas (grant, area) a is)
    front None is some = absurd (false≢true some)

    by : (o : Option Area) → is_some (lookup (nat_eq g) (added_to areas grant area o)) ≡ true
    by None = front (lookup (nat_eq g) areas) refl held
    by (Some a) = held

all_more : (areas : AreaList) (grant : ℕ) (area : Area) (ks : List ℕ) → AreAreasOf areas ks → AreAreasOf (with_area areas grant area) ks
all_more areas grant area [] all = tt
all_more areas grant area (k ∷ ks) all = (held_more areas grant area k all.0, all_more areas grant area ks all.1)

pub bound_beside : (areas now : AreaList) (grant : ℕ) (area : Area) (cards : List (Option StorageCard)) → now ≡ with_area areas grant area → ∥ AreBound areas cards ∥₁ → ∥ AreBound now cards ∥₁
bound_beside areas now grant area cards is all = ∥∥₁_map all (λ each. subst (λ (es : AreaList). AreBound es cards) (sym is)
    (λ k c there. record { apart = (each k c there).apart; held = all_more areas grant area c.vsic.bound (each k c there).held }))

-- an area with other blocks
all_spanned : (areas : AreaList) (grant : ℕ) (spans ks : List ℕ) → AreAreasOf areas ks → AreAreasOf (with_spans areas grant spans) ks
all_spanned areas grant spans [] all = tt
all_spanned areas grant spans (k ∷ ks) all = (spans_has grant spans k areas ∙ all.0, all_spanned areas grant spans ks all.1)

pub bound_spanned : (areas now : AreaList) (grant : ℕ) (spans : List ℕ) (cards : List (Option StorageCard)) → now ≡ with_spans areas grant spans → ∥ AreBound areas cards ∥₁ → ∥ AreBound now cards ∥₁
bound_spanned areas now grant spans cards is all = ∥∥₁_map all (λ each. subst (λ (es : AreaList). AreBound es cards) (sym is)
    (λ k c there. record { apart = (each k c there).apart; held = all_spanned areas grant spans c.vsic.bound (each k c there).held }))

-- an area that goes, and is bound to no card any more
all_but : (areas : AreaList) (grant : ℕ) (ks : List ℕ) → AreAreasOf areas ks → AreAreasOf (without_area areas grant) (bound_without grant ks)
all_but areas grant [] all = tt
all_but areas grant (k ∷ ks) all = by_test (λ t. (k == grant) ≡ t → AreAreasOf (without_area areas grant) (cond (not t) (k ∷ bound_without grant ks) (bound_without grant ks))) (k == grant)
    (λ yes q. all_but areas grant ks all.1)
    (λ no q. (let other : nat_eq k grant ≡ false = grind (arith, nat_tests, q) in ap (λ (o : Option Area). is_some o) (without_other areas grant k other) ∙ all.0, all_but areas grant ks all.1)) refl

-- each card with the area of a grant bound no more
unbound_each : (areas now : AreaList) (before after : List (Option StorageCard)) (grant : ℕ) → ((k : ℕ) → at after k ≡ option_map (unbound grant) (at before k))
    → ((ks : List ℕ) → IsBoundTo areas ks → IsBoundTo now (bound_without grant ks)) → AreBound areas before → AreBound now after
unbound_each areas now before after grant cards step each k c there =
    let was = some_map (unbound grant) (at before k) c (sym (cards k) ∙ there) in
    subst (λ (z : StorageCard). IsBoundTo now z.vsic.bound) was.2 (step was.0.vsic.bound (each k was.0 was.1))

pub bound_fewer : (areas : AreaList) (before after : List (Option StorageCard)) (grant : ℕ) → ((k : ℕ) → at after k ≡ option_map (unbound grant) (at before k)) → ∥ AreBound areas before ∥₁ → ∥ AreBound areas after ∥₁
bound_fewer areas before after grant cards all = ∥∥₁_map all (unbound_each areas areas before after grant cards (λ ks is. bound_less areas grant ks is))

pub bound_lost : (areas now : AreaList) (before after : List (Option StorageCard)) (grant : ℕ) → now ≡ without_area areas grant → ((k : ℕ) → at after k ≡ option_map (unbound grant) (at before k)) → ∥ AreBound areas before ∥₁ → ∥ AreBound now after ∥₁
bound_lost areas now before after grant is cards all = ∥∥₁_map all (λ each. subst (λ (es : AreaList). AreBound es after) (sym is)
    (unbound_each areas (without_area areas grant) before after grant cards (λ ks bound. record { apart = apart_without grant ks bound.apart; held = all_but areas grant ks bound.held }) each))

-- a card that goes, and is itself bound to none
pub bound_gone : (areas : AreaList) (before after : List (Option StorageCard)) (key grant : ℕ) → LosesCard before after key grant → ∥ AreBound areas before ∥₁ → ∥ AreBound areas after ∥₁
bound_gone areas before after key grant loses all = bound_fewer areas loses.rest after grant loses.cards (∥∥₁_map all (λ each k c there. elim (cases_eq k key) [
  | inl e ↦ absurd (not_some (at loses.rest k) c (ap (λ (i : ℕ). at loses.rest i) e ∙ loses.gone.changed) there)
  | inr other ↦ each k c (sym (loses.gone.others k other) ∙ there)
]))
