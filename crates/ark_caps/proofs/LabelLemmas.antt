-- What a table's list of pairs says of its labels.
use Rattle.std.proofs.Common.{◌≡◌, ◌<◌, ◌+◌, ℕ, suc, Bool, true, false, cond, not, List, [], ◌∷◌, ◌++◌, length, take, drop, Option, None, Some, slice_get, is_some, refl, sym, ap, subst, ◌∙◌, true≢false, arith}
use Rattle.std.specs.Str.{bytes_eq}
use Rattle.std.specs.List.{IsDistinct, AllByRecursion}
use Rattle.std.specs.Map.{lookup, keys_of}
use Rattle.std.specs.Cmp.Lexicographic.{nat_list_eq_equiv}
use Rattle.std.proofs.lemmas.List.{take_more, take-append-drop, append-nil}
use Rattle.std.proofs.lemmas.List.Elements.{filter-append}
use Rattle.std.proofs.lemmas.Map.Views.{Contains-keys_from_lookup, IsSome-lookup_from_Contains}
use Rattle.std.proofs.lemmas.Option.{slice_get_within, get_or_from_slice_get}
use Rattle.std.proofs.Math.Seq.{drop-cons}
use Rattle.indexmap.proofs.MapLemmas.{absent_before}
use Rattle.indexmap.proofs.CallerLemmas.{insert_entry-new}
use Rattle.indexmap.specs.IndexMap.{IndexMap, insert_entry}
use Rattle.ark_base.proofs.Basics.{same_bytes}
use Rattle.ark_caps.specs.Labels.{HasLabel, value_at, others}

-- what a look-up says of a label
pub has_label : {V : Type 0} (es : List (List ℕ × V)) (l : List ℕ) (r : Bool) → r ≡ is_some (lookup (bytes_eq l) es) → r ≡ true → HasLabel es l
has_label es l r e h = Contains-keys_from_lookup same_bytes l es (sym e ∙ h)

pub lacks_label : {V : Type 0} (es : List (List ℕ × V)) (l : List ℕ) (r : Bool) → r ≡ is_some (lookup (bytes_eq l) es) → r ≡ false → ¬ HasLabel es l
lacks_label es l r e h has = true≢false (sym (IsSome-lookup_from_Contains nat_list_eq_equiv l es has) ∙ (sym e ∙ h))

pub finds_none : {V : Type 0} (o : Option V) (r : Bool) → r ≡ is_some o → r ≡ false → o ≡ None
finds_none None r e h = refl
finds_none (Some v) r e h = absurd (true≢false (sym e ∙ h))

module _ {V : Type 0} (l : List ℕ) where
  -- a label that a list lacks, its part without a label lacks too
  absent_filter : (test : List ℕ → Bool) (es : List (List ℕ × V)) → lookup test es ≡ None → lookup test (others l es) ≡ None
  absent_filter test [] h = h
  absent_filter test (e ∷ es) h = by (test e.0) refl (bytes_eq l e.0) refl (absent_filter test es)
    where
      shown : (b d : Bool) → test e.0 ≡ b → bytes_eq l e.0 ≡ d → lookup test (others l (e ∷ es)) ≡ cond (not d) (cond b (Some e.1) (lookup test (others l es))) (lookup test (others l es))
      shown b true p q = ap (λ x. lookup test (cond (not x) (e ∷ others l es) (others l es))) q
      shown b false p q = ap (λ x. lookup test (cond (not x) (e ∷ others l es) (others l es))) q ∙ ap (λ x. cond x (Some e.1) (lookup test (others l es))) p

      by : (b : Bool) → test e.0 ≡ b → (d : Bool) → bytes_eq l e.0 ≡ d → (lookup test es ≡ None → lookup test (others l es) ≡ None) → lookup test (others l (e ∷ es)) ≡ None
      by true p d q below = absurd (true≢false (ap is_some (sym (ap (λ b. cond b (Some e.1) (lookup test es)) p) ∙ h)))
      by false p true q below = shown false true p q ∙ below (sym (ap (λ b. cond b (Some e.1) (lookup test es)) p) ∙ h)
      by false p false q below = shown false false p q ∙ below (sym (ap (λ b. cond b (Some e.1) (lookup test es)) p) ∙ h)

  -- the others of a list that lacks the label are all
  pub others-absent : (es : List (List ℕ × V)) → value_at es l ≡ None → others l es ≡ es
  others-absent [] h = refl
  others-absent (e ∷ es) h = by (bytes_eq l e.0) refl (others-absent es)
    where
      by : (b : Bool) → bytes_eq l e.0 ≡ b → (value_at es l ≡ None → others l es ≡ es) → others l (e ∷ es) ≡ e ∷ es
      by true q below = absurd (true≢false (ap is_some (sym (ap (λ b. cond b (Some e.1) (lookup (bytes_eq l) es)) q) ∙ h)))
      by false q below =
          let rest : value_at es l ≡ None = sym (ap (λ b. cond b (Some e.1) (lookup (bytes_eq l) es)) q) ∙ h in
          ap (λ b. cond (not b) (e ∷ others l es) (others l es)) q ∙ ap (λ t. e ∷ t) (below rest)

  -- a label that equals none of a list's is not there
  absent_all : (es : List (List ℕ × V)) → AllByRecursion (λ k. bytes_eq l k ≡ false) (keys_of es) → value_at es l ≡ None
  absent_all [] h = refl
  absent_all (e ∷ es) h = ap (λ b. cond b (Some e.1) (value_at es l)) h.0 ∙ absent_all es h.1

  -- of distinct labels one goes
  pub one_less : (es : List (List ℕ × V)) (v : V) → IsDistinct bytes_eq (keys_of es) → value_at es l ≡ Some v → length (others l es) + 1 ≡ length es
  unfolding IsDistinct
  one_less [] v d is = absurd (true≢false (sym (ap is_some is)))
  one_less (e ∷ es) v d is = by (bytes_eq l e.0) refl (one_less es v d.1)
    where
      by : (b : Bool) → bytes_eq l e.0 ≡ b → (value_at es l ≡ Some v → length (others l es) + 1 ≡ length es) → length (others l (e ∷ es)) + 1 ≡ length (e ∷ es)
      by true q below =
          let none : value_at es l ≡ None = absent_all es (subst (λ k. AllByRecursion (λ y. bytes_eq k y ≡ false) (keys_of es)) (sym (same_bytes l e.0 q)) d.0) in
          let all : length (others l es) ≡ length es = ap (λ (t : List (List ℕ × V)). length t) (others-absent es none) in
          ap (λ b. length (cond (not b) (e ∷ others l es) (others l es)) + 1) q ∙ omega (arith, all)
      by false q below =
          let rest = below (sym (ap (λ b. cond b (Some e.1) (value_at es l)) q) ∙ is) in
          ap (λ b. length (cond (not b) (e ∷ others l es) (others l es)) + 1) q ∙ omega (arith, rest)

module _ {V : Type 0} (es : List (List ℕ × V)) (i : ℕ) (e : List ℕ × V) (at : slice_get es i ≡ Some e) where
  within : i < length es
  within = slice_get_within es i e at

  pub take_at : take (i + 1) es ≡ take i es ++ e ∷ []
  take_at = take_more es i e within ∙ ap (λ x. take i es ++ x ∷ []) (get_or_from_slice_get es i e e at)

  parts : es ≡ take i es ++ e ∷ drop (suc i) es
  parts = sym (take-append-drop i es) ∙ ap (λ t. take i es ++ t) (drop-cons es i e within ∙ ap (λ x. x ∷ drop (suc i) es) (get_or_from_slice_get es i e e at))

  -- the label at i is not among those before it
  pub absent_at : (l : List ℕ) → IsDistinct bytes_eq (keys_of es) → lookup (bytes_eq e.0) (others l (take i es)) ≡ None
  absent_at l d = absent_filter l (bytes_eq e.0) (take i es)
      (absent_before nat_list_eq_equiv (take i es) (drop (suc i) es) e (subst (λ xs. IsDistinct bytes_eq (keys_of xs)) parts d))

  pub others-kept : (l : List ℕ) → bytes_eq l e.0 ≡ false → others l (take (i + 1) es) ≡ others l (take i es) ++ e ∷ []
  others-kept l q = ap (others l) take_at ∙ (filter-append _ (take i es) (e ∷ []) ∙ ap (λ b. others l (take i es) ++ cond (not b) (e ∷ []) []) q)

  pub others-skipped : (l : List ℕ) → bytes_eq l e.0 ≡ true → others l (take (i + 1) es) ≡ others l (take i es) ++ []
  others-skipped l q = ap (others l) take_at ∙ (filter-append _ (take i es) (e ∷ []) ∙ ap (λ b. others l (take i es) ++ cond (not b) (e ∷ []) []) q)

not_true : (r b : Bool) → r ≡ not b → r ≡ true → b ≡ false
not_true r true e h = absurd (true≢false (sym h ∙ e))
not_true r false e h = refl

not_false : (r b : Bool) → r ≡ not b → r ≡ false → b ≡ true
not_false r true e h = refl
not_false r false e h = absurd (true≢false (sym e ∙ h))

-- one step of a copy without l: the map m has the others among the first i pairs, and takes the next
module _ {V S : Type 0} (m : IndexMap (List ℕ) V S) (es : List (List ℕ × V)) (i : ℕ) (k : List ℕ) (v : V) (l : List ℕ)
    (at : Some (k, v) ≡ slice_get es i) (so_far : m.entries ≡ others l (take i es)) where
  pub appended : IsDistinct bytes_eq (keys_of es) → insert_entry bytes_eq m.entries k v ≡ m.entries ++ (k, v) ∷ []
  appended d = insert_entry-new bytes_eq m k v (ap (lookup (bytes_eq k)) so_far ∙ absent_at es i (k, v) (sym at) l d)

  pub after_kept : IsDistinct bytes_eq (keys_of es) → (r : Bool) → r ≡ not (bytes_eq l k) → r ≡ true
      → insert_entry bytes_eq m.entries k v ≡ others l (take (i + 1) es)
  after_kept d r e h = appended d ∙ (ap (λ xs. xs ++ (k, v) ∷ []) so_far ∙ sym (others-kept es i (k, v) (sym at) l (not_true r (bytes_eq l k) e h)))

  pub after_skipped : (r : Bool) → r ≡ not (bytes_eq l k) → r ≡ false → m.entries ≡ others l (take (i + 1) es)
  after_skipped r e h = so_far ∙ sym (others-skipped es i (k, v) (sym at) l (not_false r (bytes_eq l k) e h) ∙ append-nil (others l (take i es)))
