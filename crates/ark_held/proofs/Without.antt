-- An area that goes from an application's areas.
use Rattle.std.proofs.Common.{◌≡◌, ℕ, zero, suc, ◌+◌, ◌<◌, ◌≤◌, true, false, cond, List, [], ◌∷◌, ◌++◌, length, get_or, nat_eq, nat_lt, refl, sym, ◌∙◌, ap, subst, arith}
use Rattle.std.specs.Prelude.{Option, Some, None, Result, Ok, Err, OnSome, ◌&&◌, find, is_none, is_some, position, slice_get}
use Rattle.std.specs.List.{remove, position_or_len}
use Rattle.std.specs.Map.{lookup}
use Rattle.std.proofs.lemmas.Bool.{false≢true, and_parts}
use Rattle.std.proofs.lemmas.Bool.Decides.{nat_tests}
use Rattle.std.proofs.lemmas.Option.{slice_get_past}
use Rattle.std.proofs.lemmas.List.Folds.{find_at}
use Rattle.std.proofs.lemmas.List.Quantifiers.{position-Some}
use Rattle.ark_base.specs.declared.refusal.Refusal.{Refusal}
use Rattle.ark_caps.specs.Labels.{value_at}
use Rattle.ark_caps.specs.declared.capability.Capability.{Capability}
use Rattle.ark_caps.specs.declared.capability.CapKind.{CapKind}
use Rattle.ark_caps.specs.declared.capability.CapKind.TheVariants as cap_kind
use Rattle.ark_held.specs.declared.areas.Area.{Area}
use Rattle.ark_held.specs.Words.{Labels, AreaList, are_once, without_area, grant_slot, slot_of_kind, slot_of_cap, slot_under}
use Rattle.ark_held.proofs.Lists.{by_test, not_some, lookup_other}

-- the first of this grant stands at its place
removed_at : (xs : AreaList) (g k : ℕ) (d : ℕ × Area) → k < length xs → nat_eq (get_or xs k d).0 g ≡ true → ((j : ℕ) → j < k → nat_eq (get_or xs j d).0 g ≡ false) → remove xs k ≡ without_area xs g
removed_at [] g k d lt here before = absurd (omega (arith, lt))
removed_at (x ∷ xs) g zero d lt here before = sym (ap (λ b. cond b xs (x ∷ without_area xs g)) here)
removed_at (x ∷ xs) g (suc k) d lt here before =
    ap (λ (zs : AreaList). x ∷ zs) (removed_at xs g k d (omega (arith, lt)) here (λ j less. before (suc j) (omega (arith, less))))
    ∙ sym (ap (λ b. cond b xs (x ∷ without_area xs g)) (before 0 (omega arith)))

pub removed_place : (xs : AreaList) (g k : ℕ) (d : ℕ × Area) → position (λ a. nat_eq a.0 g) xs ≡ Some k → remove xs k ≡ without_area xs g
removed_place xs g k d is = let p = position-Some (λ (a : ℕ × Area). nat_eq a.0 g) xs k d is in removed_at xs g k d p.0 p.1 p.2

none_there : (xs : AreaList) (g : ℕ) → find (λ a. nat_eq a.0 g) xs ≡ None → without_area xs g ≡ xs
none_there [] g none = refl
none_there (x ∷ xs) g none = by_test (λ b. nat_eq x.0 g ≡ b → cond b (Some x) (find (λ a. nat_eq a.0 g) xs) ≡ None → cond b xs (x ∷ without_area xs g) ≡ x ∷ xs) (nat_eq x.0 g)
    (λ yes q is. absurd (false≢true (sym (ap is_some is)))) (λ no q is. ap (λ (zs : AreaList). x ∷ zs) (none_there xs g is)) refl none

pub removed_none : (xs : AreaList) (g : ℕ) → position (λ a. nat_eq a.0 g) xs ≡ None → without_area xs g ≡ xs
removed_none xs g none =
    none_there xs g
    (find_at (λ (a : ℕ × Area). nat_eq a.0 g) xs
    ∙ by_test (λ b. nat_lt (position_or_len (λ (a : ℕ × Area). nat_eq a.0 g) xs) (length xs) ≡ b → cond b (Some (position_or_len (λ (a : ℕ × Area). nat_eq a.0 g) xs)) None ≡ None → slice_get xs (position_or_len (λ (a : ℕ × Area). nat_eq a.0 g) xs) ≡ None)
    (nat_lt (position_or_len (λ (a : ℕ × Area). nat_eq a.0 g) xs) (length xs))
    (λ yes q is. absurd (false≢true (sym (ap is_some is)))) (λ no q is. slice_get_past xs (position_or_len (λ (a : ℕ × Area). nat_eq a.0 g) xs) (grind (arith, nat_tests))) refl none)

none_is : (o : Option Area) → is_none o ≡ true → o ≡ None
none_is None h = refl
none_is (Some a) h = absurd (false≢true h)

turned_eq : (g n : ℕ) → nat_eq g n ≡ nat_eq n g
turned_eq g n = grind (arith, nat_tests)

-- where one is there, one fewer stays
pub one_fewer : (xs : AreaList) (g : ℕ) (a : Area) → lookup (nat_eq g) xs ≡ Some a → length (without_area xs g) + 1 ≡ length xs
one_fewer [] g a is = absurd (not_some None a refl is)
one_fewer (x ∷ xs) g a is = by_test (λ b. nat_eq x.0 g ≡ b → length (cond b xs (x ∷ without_area xs g)) + 1 ≡ length (x ∷ xs)) (nat_eq x.0 g)
    (λ yes q. omega arith)
    (λ no q. let rest = one_fewer xs g a (sym (ap (λ b. cond b (Some x.1) (lookup (nat_eq g) xs)) (turned_eq g x.0 ∙ q)) ∙ is) in omega (arith, rest)) refl

-- one of another grant is found as it was
pub without_other : (xs : AreaList) (g n : ℕ) → nat_eq n g ≡ false → lookup (nat_eq n) (without_area xs g) ≡ lookup (nat_eq n) xs
without_other [] g n apart = refl
without_other (x ∷ xs) g n apart = by_test (λ b. nat_eq x.0 g ≡ b → lookup (nat_eq n) (cond b xs (x ∷ without_area xs g)) ≡ lookup (nat_eq n) (x ∷ xs)) (nat_eq x.0 g)
    (λ yes q. sym (ap (λ b. cond b (Some x.1) (lookup (nat_eq n) xs)) (let other : nat_eq n x.0 ≡ false = grind (arith, nat_tests, q, apart) in other)))
    (λ no q. ap (λ o. cond (nat_eq n x.0) (Some x.1) o) (without_other xs g n apart)) refl

-- one that was not there is not there now
pub without_none : (xs : AreaList) (g n : ℕ) → lookup (nat_eq n) xs ≡ None → lookup (nat_eq n) (without_area xs g) ≡ None
without_none [] g n none = refl
without_none (x ∷ xs) g n none = by_test (λ b. nat_eq n x.0 ≡ b → cond b (Some x.1) (lookup (nat_eq n) xs) ≡ None → lookup (nat_eq n) (without_area (x ∷ xs) g) ≡ None) (nat_eq n x.0)
    (λ yes q is. absurd (false≢true (sym (ap is_some is))))
    (λ no q is. by_test (λ b. lookup (nat_eq n) (cond b xs (x ∷ without_area xs g)) ≡ None) (nat_eq x.0 g)
    (λ _. is) (λ _. ap (λ b. cond b (Some x.1) (lookup (nat_eq n) (without_area xs g))) q ∙ without_none xs g n is)) refl none

-- No grant has two areas: with one more of a new grant, and without one.

pub once_added : (xs : AreaList) (g : ℕ) (a : Area) → lookup (nat_eq g) xs ≡ None → are_once xs ≡ true → are_once (xs ++ (g, a) ∷ []) ≡ true
once_added [] g a none once = refl
once_added (x ∷ xs) g a none once =
    let p = and_parts (is_none (lookup (nat_eq x.0) xs)) (are_once xs) once in
    let first : nat_eq g x.0 ≡ false = by_test (λ b. nat_eq g x.0 ≡ b → b ≡ false) (nat_eq g x.0) (λ yes q. absurd (false≢true (sym (ap is_some (sym (ap (λ b. cond b (Some x.1) (lookup (nat_eq g) xs)) q) ∙ none))))) (λ no q. refl) refl in
    let behind : lookup (nat_eq g) xs ≡ None = sym (ap (λ b. cond b (Some x.1) (lookup (nat_eq g) xs)) first) ∙ none in
    ap (λ o. is_none o && are_once (xs ++ (g, a) ∷ [])) (lookup_other (nat_eq x.0) xs (g, a) (turned_eq x.0 g ∙ first))
    ∙ ap (λ b. b && are_once (xs ++ (g, a) ∷ [])) p.0 ∙ once_added xs g a behind p.1

pub once_gone : (xs : AreaList) (g : ℕ) → are_once xs ≡ true → lookup (nat_eq g) (without_area xs g) ≡ None
once_gone [] g once = refl
once_gone (x ∷ xs) g once =
    let p = and_parts (is_none (lookup (nat_eq x.0) xs)) (are_once xs) once in
    by_test (λ b. nat_eq x.0 g ≡ b → lookup (nat_eq g) (cond b xs (x ∷ without_area xs g)) ≡ None) (nat_eq x.0 g)
    (λ yes q. let same : x.0 ≡ g = grind (arith, nat_tests, q) in ap (λ n. lookup (nat_eq n) xs) (sym same) ∙ none_is (lookup (nat_eq x.0) xs) p.0)
    (λ no q. ap (λ b. cond b (Some x.1) (lookup (nat_eq g) (without_area xs g))) (turned_eq g x.0 ∙ q) ∙ once_gone xs g p.1) refl

pub once_fewer : (xs : AreaList) (g : ℕ) → are_once xs ≡ true → are_once (without_area xs g) ≡ true
once_fewer [] g once = refl
once_fewer (x ∷ xs) g once =
    let p = and_parts (is_none (lookup (nat_eq x.0) xs)) (are_once xs) once in
    by_test (λ b. are_once (cond b xs (x ∷ without_area xs g)) ≡ true) (nat_eq x.0 g)
    (λ yes. p.1)
    (λ no. ap (λ o. is_none o && are_once (without_area xs g)) (without_none xs g x.0 (none_is (lookup (nat_eq x.0) xs) p.0)) ∙ once_fewer xs g p.1)

-- The area that is found under a label.

pub record IsLabelled (labels : Labels) (areas : AreaList) (l : List ℕ) (grant slot : ℕ) : Type 0 where
  pub cap : Capability
  pub there : value_at labels l ≡ Some cap
  pub its_kind : cap.kind ≡ cap_kind.Vsa
  pub its_grant : cap.grant ≡ grant
  pub area : Area
  pub kept : lookup (nat_eq grant) areas ≡ Some area
  pub its_slot : area.slot ≡ slot

ok_same : (x y : ℕ × ℕ) → ◌≡◌ {A = Result (ℕ × ℕ) Refusal} (Ok x) (Ok y) → x ≡ y
ok_same x y e = cc

err_ok : (e : Refusal) (y : ℕ × ℕ) → ◌≡◌ {A = Result (ℕ × ℕ) Refusal} (Err e) (Ok y) → ⊥
err_ok e y h = cc

module _ (labels : Labels) (areas : AreaList) (l : List ℕ) (grant slot : ℕ) where
  by_area : (c : Capability) → value_at labels l ≡ Some c → c.kind ≡ cap_kind.Vsa → (o : Option Area) → lookup (nat_eq c.grant) areas ≡ o → grant_slot c.grant o ≡ Ok (grant, slot) → IsLabelled labels areas l grant slot
  by_area c is kind None at e = absurd (err_ok _ _ e)
  by_area c is kind (Some a) at e =
      let same = ok_same (c.grant, a.slot) (grant, slot) e in
      let its : c.grant ≡ grant = ap (λ (p : ℕ × ℕ). p.0) same in
      record { cap = c; there = is; its_kind = kind; its_grant = its; area = a; kept = ap (λ g. lookup (nat_eq g) areas) (sym its) ∙ at; its_slot = ap (λ (p : ℕ × ℕ). p.1) same }

  by_kind : (c : Capability) → value_at labels l ≡ Some c → (k : CapKind) → c.kind ≡ k → slot_of_kind areas k c.grant ≡ Ok (grant, slot) → IsLabelled labels areas l grant slot
  by_kind c is cap_kind.Vsa kind e = by_area c is kind (lookup (nat_eq c.grant) areas) refl e
  by_kind c is _ kind e = absurd (err_ok _ _ e)

  by_cap : (o : Option Capability) → value_at labels l ≡ o → slot_of_cap areas l o ≡ Ok (grant, slot) → IsLabelled labels areas l grant slot
  by_cap None is e = absurd (err_ok _ _ e)
  by_cap (Some c) is e = by_kind c is c.kind refl e

  pub labelled : slot_under labels areas l ≡ Ok (grant, slot) → IsLabelled labels areas l grant slot
  labelled e = by_cap (value_at labels l) refl e

  -- one label and one area fewer
  pub room_stays : (buffers : ℕ) (new : Labels) (rest : AreaList) (out : Option Capability) → slot_under labels areas l ≡ Ok (grant, slot) → buffers + length areas ≤ length labels → out ≡ value_at labels l → OnSome out (length new + 1 ≡ length labels)
      → rest ≡ without_area areas grant → buffers + length rest ≤ length new
  room_stays buffers new rest out there room is one without =
      let found = labelled there in
      let fewer = one_fewer areas grant found.area found.kept in
      let less : length new + 1 ≡ length labels = subst (λ (o : Option Capability). OnSome o (length new + 1 ≡ length labels)) (is ∙ found.there) one in
      let same : length rest ≡ length (without_area areas grant) = ap (λ (es : AreaList). length es) without in
      omega (arith, room, fewer, less, same)
