-- An application in its place among all.
use Rattle.std.proofs.Common.{◌≡◌, ℕ, false, cond, List, [], ◌∷◌, length, map, set, get_or, refl, sym, ◌∙◌, ap, bytes_eq}
use Rattle.std.specs.Prelude.{Option, Some, position, is_some, unwrap_or}
use Rattle.std.proofs.lemmas.Bool.{false≢true}
use Rattle.std.proofs.lemmas.List.Quantifiers.{position-Some}
use Rattle.std.proofs.lemmas.Slice.Eq.{bytes_eq-Decides}
use Rattle.ark_held.specs.declared.app.App.{App}
use Rattle.ark_host.specs.Stands.{app_of, area_count}
use Rattle.ark_plane.proofs.Tests.{by_test}
use Rattle.ark_plane.proofs.Lists.{get_there, found_set, map_set, first_found}

-- an element at a place, whatever stands for one that is not there
pub same_place : (items : List App) (a : List ℕ) (place : ℕ) (x y : App) → position (λ z. bytes_eq a z.name) items ≡ Some place → get_or items place x ≡ x → get_or items place y ≡ y → x ≡ y
same_place items a place x y at here there =
    let lt = (position-Some (λ z. bytes_eq a z.name) items place x at).0 in
    sym here ∙ ap (λ (o : Option App). unwrap_or o x) (sym (get_there items place x lt) ∙ get_there items place y lt) ∙ there

-- one application in place of that of its name
module _ (items : List App) (a : List ℕ) (place : ℕ) (app app1 : App) (at : position (λ x. bytes_eq a x.name) items ≡ Some place) (there : get_or items place app ≡ app) (name : app1.name ≡ app.name) where
  its_name : app1.name ≡ a
  its_name = name ∙ ap (λ (x : App). x.name) (sym there) ∙ sym ((bytes_eq-Decides a (get_or items place app).name).0 (position-Some (λ x. bytes_eq a x.name) items place app at).1)

  pub names_set : map (λ x. x.name) (set items place app1) ≡ map (λ x. x.name) items
  names_set = map_set (λ x. x.name) items place app1 app (position-Some (λ x. bytes_eq a x.name) items place app at).0 (name ∙ ap (λ (x : App). x.name) (sym there))

  pub set_at : (b : List ℕ) → app_of (set items place app1) b ≡ cond (bytes_eq b a) (Some app1) (app_of items b)
  set_at b =
      found_set (λ x. bytes_eq a x.name) (λ x. bytes_eq b x.name) app1
      (λ x same. ap (λ (k : List ℕ). bytes_eq b k) (sym ((bytes_eq-Decides a x.name).0 same) ∙ sym its_name))
      (λ x apart same. by_test (bytes_eq b x.name) (λ t. bytes_eq b x.name ≡ t → t ≡ false)
      (λ yes q. absurd (false≢true (sym apart ∙ (bytes_eq-Decides a x.name).1 (sym its_name ∙ sym ((bytes_eq-Decides b app1.name).0 same) ∙ (bytes_eq-Decides b x.name).0 q))))
      (λ no q. refl) refl) items place app at
      ∙ ap (λ (k : List ℕ). cond (bytes_eq b k) (Some app1) (app_of items b)) its_name

-- with as many areas
pub set_counted : (items : List App) (a : List ℕ) (place : ℕ) (app app1 : App) → position (λ x. bytes_eq a x.name) items ≡ Some place → get_or items place app ≡ app
    → (b : List ℕ) → length app1.areas ≡ length app.areas → area_count (cond (bytes_eq b a) (Some app1) (app_of items b)) ≡ area_count (app_of items b)
set_counted items a place app app1 at there b same = by_test (bytes_eq b a) (λ t. bytes_eq b a ≡ t → area_count (cond t (Some app1) (app_of items b)) ≡ area_count (app_of items b))
    (λ yes q.
    let found : app_of items b ≡ Some app = ap (λ (k : List ℕ). app_of items k) ((bytes_eq-Decides b a).0 q) ∙ (first_found (λ x. bytes_eq a x.name) items place app at).1 ∙ ap (λ x. Some x) there in
    same ∙ sym (ap area_count found))
    (λ no q. refl) refl

-- the application at the place of its name
pub app_there : (items : List App) (a : List ℕ) (place : ℕ) → position (λ z. bytes_eq a z.name) items ≡ Some place → (app : App) × (get_or items place app ≡ app)
app_there [] a place at = absurd (false≢true (ap is_some at))
app_there (x ∷ xs) a place at =
    let lt = (position-Some (λ z. bytes_eq a z.name) (x ∷ xs) place x at).0 in
    let app = get_or (x ∷ xs) place x in
    (app, ap (λ (o : Option App). unwrap_or o x) (sym (get_there (x ∷ xs) place app lt) ∙ get_there (x ∷ xs) place x lt))
