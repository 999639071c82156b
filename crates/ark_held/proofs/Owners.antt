-- Each area that an application keeps has a label: there are as many areas as labels of areas, and each of these has its own.
use Rattle.std.proofs.Common.{◌≡◌, ◌⊎◌, inl, inr, ⊎_elim, ℕ, suc, ◌≤◌, true, false, not, cond, List, [], ◌∷◌, length, map, nat_eq, refl, sym, ◌∙◌, ap, subst, arith}
use Rattle.std.specs.Prelude.{Some, None, is_some, filter as select}
use Rattle.std.specs.Map.{lookup}
use Rattle.std.specs.List.{AllByRecursion}
use Rattle.std.proofs.lemmas.Bool.{false≢true}
use Rattle.std.proofs.lemmas.Bool.Decides.{nat_tests}
use Rattle.std.proofs.lemmas.List.{length-map}
use Rattle.ark_caps.specs.Labels.{value_at}
use Rattle.ark_caps.specs.declared.capability.Capability.{Capability}
use Rattle.ark_caps.specs.declared.capability.CapKind.{CapKind}
use Rattle.ark_caps.specs.declared.capability.CapKind.TheVariants as cap_kind
use Rattle.ark_machine.specs.Objects
use Rattle.ark_machine.specs.Objects.{Object}
use Rattle.ark_machine.specs.Machine.{Held}
use Rattle.ark_held.specs.Words.{Labels, AreaList}
use Rattle.ark_held.specs.Bound.{IsNoneOf, AreApart, AreAreasOf}
use Rattle.ark_held.specs.Around.{Around}
use Rattle.ark_held.specs.Held.{IsObjectOf, AllMatch, AreDistinctLabels, Holds, is_area, area_labels}
use Rattle.ark_held.specs.declared.areas.Area.{Area}
use Rattle.ark_held.proofs.Lists.{by_test, other_name, head_apart, value_first, value_behind}

-- Distinct numbers, each of which a list has, are no more than the list is long.

abbrev others : ℕ → List ℕ → List ℕ
others k ks = select (λ z. not (nat_eq k z)) ks

all_others : (P : ℕ → Type 0) (k : ℕ) (ks : List ℕ) → AllByRecursion P ks → AllByRecursion P (others k ks)
all_others P k [] all = tt
all_others P k (z ∷ zs) all = by_test (λ t. AllByRecursion P (cond (not t) (z ∷ others k zs) (others k zs))) (nat_eq k z) (λ yes. all_others P k zs all.1) (λ no. (all.0, all_others P k zs all.1))

apart_others : (k : ℕ) (ks : List ℕ) → AreApart ks → AreApart (others k ks)
apart_others k [] all = tt
apart_others k (z ∷ zs) all = by_test (λ t. AreApart (cond (not t) (z ∷ others k zs) (others k zs))) (nat_eq k z)
    (λ yes. apart_others k zs all.1) (λ no. (all_others (λ y. nat_eq z y ≡ false) k zs all.0, apart_others k zs all.1))

none_same : (k : ℕ) (ks : List ℕ) → IsNoneOf k ks → others k ks ≡ ks
none_same k [] all = refl
none_same k (z ∷ zs) all = ap (λ t. cond (not t) (z ∷ others k zs) (others k zs)) all.0 ∙ ap (λ (r : List ℕ). z ∷ r) (none_same k zs all.1)

same_others : (k z : ℕ) (ks : List ℕ) → nat_eq k z ≡ true → IsNoneOf z ks → IsNoneOf k ks
same_others k z ks same all = let e : z ≡ k = grind (arith, nat_tests, same) in subst (λ (n : ℕ). IsNoneOf n ks) e all

one_less : (k : ℕ) (ks : List ℕ) → AreApart ks → length ks ≤ suc (length (others k ks))
one_less k [] all = omega arith
one_less k (z ∷ zs) all = by_test (λ t. nat_eq k z ≡ t → suc (length zs) ≤ suc (length (cond (not t) (z ∷ others k zs) (others k zs)))) (nat_eq k z)
    (λ yes q. let same : length (others k zs) ≡ length zs = ap (λ (r : List ℕ). length r) (none_same k zs (same_others k z zs q all.0)) in omega (arith, same))
    (λ no q. let rest = one_less k zs all.1 in omega (arith, rest)) refl

in_rest : (k : ℕ) (a : Area) (es : AreaList) (ks : List ℕ) → AreAreasOf ((k, a) ∷ es) ks → AreAreasOf es (others k ks)
in_rest k a es [] all = tt
in_rest k a es (z ∷ zs) all = by_test (λ t. nat_eq k z ≡ t → AreAreasOf es (cond (not t) (z ∷ others k zs) (others k zs))) (nat_eq k z)
    (λ yes q. in_rest k a es zs all.1)
    (λ no q.
    let other : nat_eq z k ≡ false = grind (arith, nat_tests, q) in
    (sym (ap (λ t. is_some (cond t (Some a) (lookup (nat_eq z) es))) other) ∙ all.0, in_rest k a es zs all.1)) refl

pub no_more : (es : AreaList) (ks : List ℕ) → AreApart ks → AreAreasOf es ks → length ks ≤ length es
no_more [] [] apart all = omega arith
no_more [] (k ∷ ks) apart all = absurd (false≢true all.0)
no_more (e ∷ es) ks apart all =
    let less = one_less e.0 ks apart in
    let rest = no_more es (others e.0 ks) (apart_others e.0 ks apart) (in_rest e.0 e.1 es ks all) in
    omega (arith, less, rest)

-- The grants of an application's areas.

abbrev grants : Labels → List ℕ
grants ps = map (λ p. p.1.grant) (area_labels ps)

kept_area : (x : Around) (l : List ℕ) (c : Capability) (o : Object) → IsObjectOf x l c o → is_area c.kind ≡ true → is_some (lookup (nat_eq c.grant) x.areas) ≡ true
kept_area x l c (Objects.raw z) f area = ap is_some f.kept
kept_area x l c (Objects.log z) f area = ap is_some f.kept
kept_area x l c (Objects.vsic z) f area = absurd (false≢true (sym (ap is_area f.its_kind) ∙ area))
kept_area x l c (Objects.vnic z) f area = absurd (false≢true (sym (ap is_area f.its_kind) ∙ area))
kept_area x l c (Objects.filter z y) f area = absurd (false≢true (sym (ap is_area f.its_kind) ∙ area))
kept_area x l c (Objects.door z) f area = absurd (false≢true (sym (ap is_area f.its_kind) ∙ area))
kept_area x l c (Objects.rate z y) f area = absurd (false≢true (sym (ap is_area f.its_kind) ∙ area))
kept_area x l c (Objects.buffer z) f area = absurd (false≢true (sym (ap is_area f.its_kind) ∙ area))
kept_area x l c (Objects.socket z) f area = absurd (false≢true (sym (ap is_area f.its_kind) ∙ area))

all_kept : (x : Around) (ps : Labels) (hs : List Held) → AllMatch x ps hs → AreAreasOf x.areas (grants ps)
all_kept x [] [] all = tt
all_kept x (p ∷ ps) (h ∷ hs) all = by_test (λ t. is_area p.1.kind ≡ t → AreAreasOf x.areas (map (λ q. q.1.grant) (cond t (p ∷ area_labels ps) (area_labels ps)))) (is_area p.1.kind)
    (λ yes q. (kept_area x p.0 p.1 h.object all.0.object q, all_kept x ps hs all.1)) (λ no q. all_kept x ps hs all.1) refl
all_kept x [] (h ∷ hs) all = absurd all
all_kept x (p ∷ ps) [] all = absurd all

module _ (x : Around) (holds : Holds x) where
  abbrev Among : Labels → Type 0
  Among ps = (l : List ℕ) (c : Capability) → value_at ps l ≡ Some c → value_at x.labels l ≡ Some c

  among_rest : (p : List ℕ × Capability) (ps : Labels) → AreDistinctLabels (p ∷ ps) → Among (p ∷ ps) → Among ps
  among_rest p ps apart among l c is = among l c (value_behind p ps l c apart is)

  -- no other label has the grant
  grant_apart : (p : List ℕ × Capability) (qs : Labels) → value_at x.labels p.0 ≡ Some p.1 → value_at qs p.0 ≡ None → AreDistinctLabels qs → Among qs → IsNoneOf p.1.grant (grants qs)
  grant_apart p [] there none apart among = tt
  grant_apart p (q ∷ qs) there none apart among =
      let n = head_apart q qs p.0 none in
      let rest = grant_apart p qs there n.1 apart.1 (among_rest q qs apart among) in
      let differ : p.1.grant ≡ q.1.grant → ⊥ = λ e. other_name p.0 q.0 n.0 (holds.own.grants p.0 q.0 p.1 q.1 there (among q.0 q.1 (value_first q qs)) e) in
      by_test (λ t. IsNoneOf p.1.grant (map (λ z. z.1.grant) (cond t (q ∷ area_labels qs) (area_labels qs)))) (is_area q.1.kind)
      (λ yes. (grind (arith, nat_tests, differ), rest)) (λ no. rest)

  grants_apart : (ps : Labels) → AreDistinctLabels ps → Among ps → AreApart (grants ps)
  grants_apart [] apart among = tt
  grants_apart (p ∷ ps) apart among =
      let rest = grants_apart ps apart.1 (among_rest p ps apart among) in
      by_test (λ t. AreApart (map (λ z. z.1.grant) (cond t (p ∷ area_labels ps) (area_labels ps)))) (is_area p.1.kind)
      (λ yes. (grant_apart p ps (among p.0 p.1 (value_first p ps)) apart.0 apart.1 (among_rest p ps apart among), rest)) (λ no. rest)

  -- a label of an area with this grant
  abbrev pub Owner : ℕ → Type 0
  Owner g = (l : List ℕ) × (c : Capability) × (value_at x.labels l ≡ Some c) × (c.kind ≡ cap_kind.Vsa) × (c.grant ≡ g)

  vsa_of : (k : CapKind) → is_area k ≡ true → k ≡ cap_kind.Vsa
  vsa_of cap_kind.Vsa is = refl
  vsa_of cap_kind.Vsic is = absurd (false≢true is)
  vsa_of cap_kind.Vnic is = absurd (false≢true is)
  vsa_of cap_kind.Filter is = absurd (false≢true is)
  vsa_of cap_kind.Door is = absurd (false≢true is)
  vsa_of cap_kind.Rate is = absurd (false≢true is)
  vsa_of cap_kind.Buf is = absurd (false≢true is)
  vsa_of cap_kind.Sock is = absurd (false≢true is)

  looked : (g : ℕ) (ps : Labels) → AreDistinctLabels ps → Among ps → Owner g ⊎ IsNoneOf g (grants ps)
  looked g [] apart among = inr tt
  looked g (p ∷ ps) apart among =
      let rest = looked g ps apart.1 (among_rest p ps apart among) in
      by_test (λ t. is_area p.1.kind ≡ t → Owner g ⊎ IsNoneOf g (map (λ z. z.1.grant) (cond t (p ∷ area_labels ps) (area_labels ps)))) (is_area p.1.kind)
      (λ area q. by_test (λ t. nat_eq g p.1.grant ≡ t → Owner g ⊎ (IsNoneOf g (p.1.grant ∷ grants ps))) (nat_eq g p.1.grant)
      (λ yes e. inl (p.0, p.1, among p.0 p.1 (value_first p ps), vsa_of p.1.kind q, (let z : p.1.grant ≡ g = grind (arith, nat_tests, e) in z)))
      (λ no e. ⊎_elim (λ o. inl o) (λ all. inr (e, all)) rest) refl)
      (λ none q. rest) refl

  pub owner : (g : ℕ) (a : Area) → lookup (nat_eq g) x.areas ≡ Some a → Owner g
  owner g a is = ⊎_elim (λ o. o)
      (λ all.
      let long = no_more x.areas (g ∷ grants x.labels) (all, grants_apart x.labels holds.apart (λ l c at. at)) (ap is_some is, all_kept x x.labels x.machine.held holds.held) in
      let size : length (grants x.labels) ≡ length (area_labels x.labels) = length-map (area_labels x.labels) (λ p. p.1.grant) in
      let same = holds.areas in
      absurd (let z : ⊥ = omega (arith, long, size, same) in z))
      (looked g x.labels holds.apart (λ l c at. at))
