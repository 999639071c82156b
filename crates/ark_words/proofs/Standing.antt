-- Where clap's walk stands, by the words for `--new` and the plain words so far.
use Rattle.std.proofs.Common.{◌≡◌, ◌≢◌, ◌∙◌, ◌≤◌, ◌<◌, ℕ, zero, suc, true, false, List, [], ◌∷◌, ◌++◌, Option, Some, None, length, get_or, option_map, refl, sym, ap, subst, codes, slice_get, arith, inl, inr, append_assoc, length-append}
use Rattle.std.specs.Option.{option_map_or}
use Rattle.std.proofs.lemmas.Bool.{false≢true, cases_eq, cases_lt}
use Rattle.std.proofs.lemmas.Option.{slice_get_past, slice_get-get_or}
use Rattle.clap.specs.Facts.{explicit_source}
use Rattle.clap.specs.Walk.{Row, Rule, settled_rows}
use Rattle.clap.specs.Takes.{is_given}
use Rattle.clap.specs.Kinds.{Kinds}
use Rattle.clap.specs.Faults.{settle_fault, repeat_fault}
use Rattle.ark_words.specs.Sorted.{Text, Sorted, with_new, with_plain}
use Rattle.ark_words.proofs.RowLemmas.{find_row, row, used_with, no_row, has_one, used_here, used_there}
use Rattle.ark_words.proofs.Table.{Table, is_lacking}
use Rattle.ark_words.proofs.Turns.{Pending, held, settle_word, settle_new}

-- the rows hold the words for `--new`, and the plain words by their places
abbrev pub Holds : List Text → List Row → List Text → List Text → Type 0
Holds ids rows ns ps = (find_row (codes "new") rows ≡ option_map (row (codes "new")) (slice_get ns 0))
    × ((k : ℕ) → k < length ids → find_row (get_or ids k []) rows ≡ option_map (row (get_or ids k [])) (slice_get ps k))

pub record Fits (ids : List Text) (most : ℕ) (s : Sorted) : Type 0 where
  pub new : length s.new ≤ most
  pub plain : length s.plain ≡ length ids

-- the kinds of fault and the rows are what the sorted words say
pub record Agrees (ids : List Text) (most : ℕ) (kinds : Kinds) (rows : List Row) (o : Option Sorted) : Type 0 where
  pub sound : kinds ≡ [] → (s : Sorted) × (o ≡ Some s) × Fits ids most s × Holds ids rows s.new s.plain
  pub complete : (s : Sorted) → o ≡ Some s → Fits ids most s → kinds ≡ []

pub agrees_as : (ids : List Text) (most : ℕ) (a b : Kinds) (rows kept : List Row) (o q : Option Sorted) → a ≡ b → rows ≡ kept → o ≡ q → Agrees ids most b kept q → Agrees ids most a rows o
agrees_as ids most a b rows kept o q ek er eo h = record {
  sound = λ e.
      let r = h.sound (sym ek ∙ e) in
      (r.0, eo ∙ r.1, r.2, subst (λ rs. Holds ids rs (r.0).new (r.0).plain) (sym er) r.3);
  complete = λ s e f. ek ∙ h.complete s (sym eo ∙ e) f;
}

pub agrees_fault : (ids : List Text) (most : ℕ) (a : Kinds) (rows : List Row) (o : Option Sorted) → a ≢ [] → ((s : Sorted) → o ≡ Some s → Fits ids most s → ⊥) → Agrees ids most a rows o
agrees_fault ids most a rows o bad none = record {
  sound = λ e. absurd (bad e);
  complete = λ s e f. absurd (none s e f);
}

-- the words so far, before those that are left
abbrev pub joined : List Text → List Text → Option Sorted → Option Sorted
joined ns ps = option_map (λ (s : Sorted). record { new = ns ++ s.new; plain = ps ++ s.plain })

pub some_injective : {X : Type 0} (x y : X) → Some x ≡ Some y → x ≡ y
some_injective x y e = cc

abbrev sorted_of : List Text → List Text → Sorted
sorted_of a b = record { new = a; plain = b }

pub joined_plain : (ns ps : List Text) (x : Text) (o : Option Sorted) → joined ns ps (with_plain x o) ≡ joined ns (ps ++ x ∷ []) o
joined_plain ns ps x None = refl
joined_plain ns ps x (Some s) = ap (λ qs. Some (sorted_of (ns ++ s.new) qs)) (sym (append_assoc ps (x ∷ []) s.plain))

pub joined_new : (ps : List Text) (v : Text) (o : Option Sorted) → joined [] ps (with_new v o) ≡ joined (v ∷ []) ps o
joined_new ps v None = refl
joined_new ps v (Some s) = refl

pub joined_more_new : (ns ps : List Text) (v : Text) (o : Option Sorted) (s : Sorted) → joined ns ps (with_new v o) ≡ Some s → length ns < length s.new
joined_more_new ns ps v None s e = cc
joined_more_new ns ps v (Some r) s e =
    let new : ns ++ (v ∷ r.new) ≡ s.new = ap (λ (q : Sorted). q.new) (some_injective _ _ e) in
    rw (← new, length-append) (omega arith)

pub joined_more_plain : (ns ps : List Text) (x : Text) (o : Option Sorted) (s : Sorted) → joined ns ps (with_plain x o) ≡ Some s → length ps < length s.plain
joined_more_plain ns ps x None s e = cc
joined_more_plain ns ps x (Some r) s e =
    let plain : ps ++ (x ∷ r.plain) ≡ s.plain = ap (λ (q : Sorted). q.plain) (some_injective _ _ e) in
    rw (← plain, length-append) (omega arith)

-- what is kept once all that is pending is settled
pub record Rests (ids : List Text) (most : ℕ) (rows : List Row) (n : ℕ) (ns ps : List Text) : Type 0 where
  pub holds : Holds ids rows ns ps
  pub news : length ns ≤ most
  pub plains : n ≤ length ids
  pub count : length ps ≡ n

pub record Stands (c : List Rule) (ids : List Text) (most : ℕ) (p : Pending) (rows : List Row) (n : ℕ) (ns ps : List Text) : Type 0 where
  pub settles : settle_fault c false (held p rows) ≡ []
  pub rests : Rests ids most (settled_rows c p rows) n ns ps

push_at : (ps : List Text) (x : Text) → slice_get (ps ++ x ∷ []) (length ps) ≡ Some x
push_at [] x = refl
push_at (p ∷ ps) x = push_at ps x

push_other : (ps : List Text) (x : Text) (k : ℕ) → k ≢ length ps → slice_get (ps ++ x ∷ []) k ≡ slice_get ps k
push_other [] x zero ne = absurd (ne refl)
push_other [] x (suc k) ne = refl
push_other (p ∷ ps) x zero ne = refl
push_other (p ∷ ps) x (suc k) ne = push_other ps x k (λ e. ne (ap suc e))

push_length : (ps : List Text) (x : Text) → length (ps ++ x ∷ []) ≡ suc (length ps)
push_length [] x = refl
push_length (p ∷ ps) x = ap suc (push_length ps x)

pub no_repeat : (id : Text) (rows : List Row) → find_row id rows ≡ None → repeat_fault false id rows ≡ []
no_repeat id rows e = rw (no_row id rows e) refl

pub repeats : (id v : Text) (rows : List Row) → find_row id rows ≡ Some (row id v) → repeat_fault false id rows ≢ []
repeats id v rows e = rw (has_one id rows _ e) (λ x. cc)

given_some : (id : Text) (o : Option Text) → option_map_or (λ (r : Row). explicit_source r.source) (option_map (row id) o) false ≡ true → (v : Text) × (o ≡ Some v)
given_some id None e = absurd (false≢true e)
given_some id (Some v) e = (v, refl)

module _ (name : Text) (c : List Rule) (ids : List Text) (most : ℕ) (t : Table c ids most) where
  -- one more plain word
  pub stands_word : (rows : List Row) (n : ℕ) (ns ps : List Text) (x : Text) → Rests ids most rows n ns ps → n < length ids
      → Stands c ids most (Some (get_or ids n [], x ∷ [])) rows (suc n) ns (ps ++ x ∷ [])
  stands_word rows n ns ps x r lt =
      let id = get_or ids n [] in
      let none : find_row id rows ≡ None = r.holds.1 n lt ∙ ap (option_map (row id)) (slice_get_past ps n (omega (arith, r.count))) in
      let settles = settle_word name c ids most t n x rows lt in
      record {
        settles = settles.0 ∙ no_repeat id rows none;
        rests = record {
          holds = subst (λ rs. Holds ids rs ns (ps ++ x ∷ [])) (sym settles.1) (
            used_there id (codes "new") x rows none (t.apart_new n lt).1 ∙ r.holds.0,
            λ k below. elim (cases_eq k n) [
              | inl same ↦ subst (λ j. find_row (get_or ids j []) (used_with id x rows) ≡ option_map (row (get_or ids j [])) (slice_get (ps ++ x ∷ []) j)) (sym same)
                  (used_here id x rows none ∙ ap (option_map (row id)) (sym (ap (slice_get (ps ++ x ∷ [])) (sym r.count) ∙ push_at ps x)))
              | inr ne ↦ used_there id (get_or ids k []) x rows none (t.apart n k lt below (λ e. ne (sym e))) ∙ r.holds.1 k below
                  ∙ ap (option_map (row (get_or ids k []))) (sym (push_other ps x k (λ e. ne (e ∙ r.count))))
            ],
          );
          news = r.news;
          plains = lt;
          count = push_length ps x ∙ ap suc r.count;
        };
      }

  holds_new : (rows : List Row) (n : ℕ) (ps : List Text) (v : Text) → Rests ids most rows n [] ps → Holds ids (used_with (codes "new") v rows) (v ∷ []) ps
  holds_new rows n ps v r = (
    used_here (codes "new") v rows r.holds.0,
    λ k below. used_there (codes "new") (get_or ids k []) v rows r.holds.0 (t.apart_new k below).0 ∙ r.holds.1 k below,
  )

  -- the value of `--new`, as a word of its own
  pub stands_value : (rows : List Row) (n : ℕ) (ps : List Text) (v : Text) → most ≡ 1 → Rests ids most rows n [] ps
      → Stands c ids most (Some (codes "new", v ∷ [])) rows n (v ∷ []) ps
  stands_value rows n ps v one r =
      let settles = settle_new name c ids most t v rows one in
      record {
        settles = settles.0 ∙ no_repeat (codes "new") rows r.holds.0;
        rests = record {
          holds = subst (λ rs. Holds ids rs (v ∷ []) ps) (sym settles.1) (holds_new rows n ps v r);
          news = omega arith;
          plains = r.plains;
          count = r.count;
        };
      }

  -- and in the word of `--new=`
  pub stands_attached : (rows : List Row) (n : ℕ) (ps : List Text) (v : Text) → most ≡ 1 → Rests ids most rows n [] ps
      → Stands c ids most None (used_with (codes "new") v rows) n (v ∷ []) ps
  stands_attached rows n ps v one r = record {
    settles = refl;
    rests = record {
      holds = holds_new rows n ps v r;
      news = omega arith;
      plains = r.plains;
      count = r.count;
    };
  }

  -- all plain words are there exactly where no argument is lacking
  pub all_there : (rows : List Row) (n : ℕ) (ns ps : List Text) → Rests ids most rows n ns ps → is_lacking rows c ≡ false → n ≡ length ids
  all_there rows n ns ps r none = elim (cases_lt n (length ids)) [
    | inl lt ↦ (let id = get_or ids n [] in
        let given : is_given id rows ≡ true = t.given rows none n lt in
        let some = given_some id (slice_get ps n) (rw (r.holds.1 n lt) at given) in
        let past : slice_get ps n ≡ None = slice_get_past ps n (omega (arith, r.count)) in
        absurd (no_some _ (sym some.1 ∙ past)))
    | inr le ↦ omega (arith, r.plains)
  ]
    where
      no_some : (v : Text) → Some v ≡ None → ⊥
      no_some v e = cc

  pub none_lacking : (rows : List Row) (n : ℕ) (ns ps : List Text) → Rests ids most rows n ns ps → n ≡ length ids → is_lacking rows c ≡ false
  none_lacking rows n ns ps r all = t.complete rows (λ k lt.
      let there : slice_get ps k ≡ Some (get_or ps k []) = slice_get-get_or ps k [] (omega (arith, r.count)) in
      rw (r.holds.1 k lt, there) refl)
