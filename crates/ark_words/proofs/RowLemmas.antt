-- What clap keeps of the words: a row for each argument that was used, with its word.
use Rattle.std.proofs.Common.{◌≡◌, ◌∙◌, Bool, true, false, cond, List, [], ◌∷◌, ◌++◌, Option, Some, None, find, refl, sym, ap, bytes_eq, is_some, true≢false}
use Rattle.std.proofs.lemmas.Slice.Eq.{bytes_eq-Decides}
use Rattle.clap.specs.Walk.{Row, has_row, with_values, without}
use Rattle.clap.specs.Values.{reading_of}
use Rattle.clap.specs.declared.builder.value_parser.ValueParser.TheVariants as vp
use Rattle.clap.specs.declared.parser.matches.ValueSource.TheVariants.{CommandLine}
use Rattle.ark_words.specs.Sorted.{Text}

abbrev pub find_row : Text → List Row → Option Row
find_row id = find (λ r. bytes_eq r.id id)

-- the row of an argument that was used with one word
abbrev pub row : Text → Text → Row
row id v = record { id = id; values = v ∷ []; count = None; source = Some CommandLine; reading = reading_of vp.String }

-- the rows after a use of an argument
abbrev pub used_with : Text → Text → List Row → List Row
used_with id v rows = with_values id (reading_of vp.String) CommandLine (v ∷ []) (without id rows)

pub same_text : (t : Text) → bytes_eq t t ≡ true
same_text t = (bytes_eq-Decides t t).1 refl

some≢none : {X : Type 0} (x : X) → Some x ≡ None → ⊥
some≢none x e = true≢false (ap is_some e)

pub no_row : (id : Text) (rs : List Row) → find_row id rs ≡ None → has_row id rs ≡ false
no_row id [] e = refl
no_row id (r ∷ rs) e = go (bytes_eq r.id id) refl (no_row id rs)
  where
    go : (b : Bool) → bytes_eq r.id id ≡ b → (find_row id rs ≡ None → has_row id rs ≡ false) → has_row id (r ∷ rs) ≡ false
    go true h ih = absurd (some≢none r (rw h at e))
    go false h ih = rw h (ih (rw h at e))

pub has_one : (id : Text) (rs : List Row) (x : Row) → find_row id rs ≡ Some x → has_row id rs ≡ true
has_one id [] x e = absurd (some≢none x (sym e))
has_one id (r ∷ rs) x e = go (bytes_eq r.id id) refl (has_one id rs x)
  where
    go : (b : Bool) → bytes_eq r.id id ≡ b → (find_row id rs ≡ Some x → has_row id rs ≡ true) → has_row id (r ∷ rs) ≡ true
    go true h ih = rw h refl
    go false h ih = rw h (ih (rw h at e))

without_none : (id : Text) (rs : List Row) → find_row id rs ≡ None → without id rs ≡ rs
without_none id [] e = refl
without_none id (r ∷ rs) e = go (bytes_eq r.id id) refl (without_none id rs)
  where
    go : (b : Bool) → bytes_eq r.id id ≡ b → (find_row id rs ≡ None → without id rs ≡ rs) → without id (r ∷ rs) ≡ r ∷ rs
    go true h ih = absurd (some≢none r (rw h at e))
    go false h ih = rw h (ap (λ xs. r ∷ xs) (ih (rw h at e)))

added : (id v : Text) (rs : List Row) → find_row id rs ≡ None → with_values id (reading_of vp.String) CommandLine (v ∷ []) rs ≡ rs ++ row id v ∷ []
added id v [] e = refl
added id v (r ∷ rs) e = go (bytes_eq r.id id) refl (added id v rs)
  where
    go : (b : Bool) → bytes_eq r.id id ≡ b → (find_row id rs ≡ None → with_values id (reading_of vp.String) CommandLine (v ∷ []) rs ≡ rs ++ row id v ∷ [])
        → with_values id (reading_of vp.String) CommandLine (v ∷ []) (r ∷ rs) ≡ r ∷ (rs ++ row id v ∷ [])
    go true h ih = absurd (some≢none r (rw h at e))
    go false h ih = rw h (ap (λ xs. r ∷ xs) (ih (rw h at e)))

at_end : (id v : Text) (rs : List Row) → find_row id rs ≡ None → used_with id v rs ≡ rs ++ row id v ∷ []
at_end id v rs e = ap (with_values id (reading_of vp.String) CommandLine (v ∷ [])) (without_none id rs e) ∙ added id v rs e

found_last : (id v : Text) (rs : List Row) → find_row id rs ≡ None → find_row id (rs ++ row id v ∷ []) ≡ Some (row id v)
found_last id v [] e = rw (same_text id) refl
found_last id v (r ∷ rs) e = go (bytes_eq r.id id) refl (found_last id v rs)
  where
    go : (b : Bool) → bytes_eq r.id id ≡ b → (find_row id rs ≡ None → find_row id (rs ++ row id v ∷ []) ≡ Some (row id v))
        → find_row id (r ∷ (rs ++ row id v ∷ [])) ≡ Some (row id v)
    go true h ih = absurd (some≢none r (rw h at e))
    go false h ih = rw h (ih (rw h at e))

found_before : (id other v : Text) (rs : List Row) → bytes_eq id other ≡ false → find_row other (rs ++ row id v ∷ []) ≡ find_row other rs
found_before id other v [] e = rw e refl
found_before id other v (r ∷ rs) e = ap (λ o. cond (bytes_eq r.id other) (Some r) o) (found_before id other v rs e)

pub used_here : (id v : Text) (rs : List Row) → find_row id rs ≡ None → find_row id (used_with id v rs) ≡ Some (row id v)
used_here id v rs e = ap (find_row id) (at_end id v rs e) ∙ found_last id v rs e

pub used_there : (id other v : Text) (rs : List Row) → find_row id rs ≡ None → bytes_eq id other ≡ false → find_row other (used_with id v rs) ≡ find_row other rs
used_there id other v rs e apart = ap (find_row other) (at_end id v rs e) ∙ found_before id other v rs apart
