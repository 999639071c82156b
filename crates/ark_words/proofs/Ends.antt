-- The end of clap's walk: after the last word, after `--`, and where what is pending fails.
use Rattle.std.proofs.Common.{◌≡◌, ◌≢◌, ◌∙◌, ◌⊎◌, ℕ, suc, Bool, true, false, cond, List, [], ◌∷◌, ◌++◌, Option, Some, length, get_or, refl, sym, ap, codes, IsUtf8, arith, inl, inr, append-nil, append_assoc}
use Rattle.std.proofs.lemmas.Bool.{cases_lt}
use Rattle.clap.specs.Walk.{Row, Rule, Waiting, idle, walked, settled_rows}
use Rattle.clap.specs.Simple.{Shape}
use Rattle.clap.specs.Kinds.{Kinds}
use Rattle.clap.specs.Faults.{settle_fault, turn_fault}
use Rattle.clap.specs.declared.error.kind.ErrorKind.TheVariants.{MissingRequiredArgument}
use Rattle.ark_words.specs.Sorted.{Text, Sorted, Kind, ends, new, new_is, fault, plain, kind_of}
use Rattle.ark_words.proofs.Seen.{Seen, seen}
use Rattle.ark_words.proofs.Table.{Table, TakesNew, taken, refused, shape_with, is_lacking}
use Rattle.ark_words.proofs.Turns.{Pending, held, at, total, final, or_first, stops, passes, end_is, turn_plain, turn_trailing, place_fault, placed, no_place, turn_ends, turn_other, turn_new, turn_new_is, turn_no_new, turn_no_new_is}
use Rattle.ark_words.proofs.Standing.{Agrees, agrees_as, agrees_fault, joined_more_plain, Stands, stands_word, all_there, none_lacking, some_injective}

abbrev pub AllText : List Text → Type 0
AllText [] = Unit {0}
AllText (x ∷ xs) = IsUtf8 x × AllText xs

-- `--new` is taken once, or not at all
pub most_is : (c : List Rule) (most : ℕ) → TakesNew c most → (most ≡ 1) ⊎ (most ≡ 0)
most_is c most (taken a b) = inl refl
most_is c most (refused a) = inr refl

abbrev lacks : Bool → Kinds
lacks b = cond b (MissingRequiredArgument ∷ []) []

lacks_none : (b : Bool) → lacks b ≡ [] → b ≡ false
lacks_none true e = cc
lacks_none false e = refl

abbrev pub some_sorted : List Text → List Text → Option Sorted
some_sorted ns ps = Some (record { new = ns; plain = ps })

module _ (name : Text) (c : List Rule) (ids : List Text) (most : ℕ) (t : Table c ids most) where
  abbrev pub sh : Shape
  sh = shape_with name c

  -- no more words
  pub ended : (p : Pending) (rows : List Row) (w : Waiting) (n : ℕ) (b : Bool) (ns ps : List Text) → Stands c ids most p rows n ns ps
      → Agrees ids most (total sh (at p rows w (suc n) b) []) (final c (at p rows w (suc n) b) []) (Some (record { new = ns ++ []; plain = ps ++ [] }))
  ended p rows w n b ns ps st =
      let kept = settled_rows c p rows in
      let lacking = is_lacking kept c in
      let kinds : total sh (at p rows w (suc n) b) [] ≡ lacks lacking = rw (end_is sh (at p rows w (suc n) b), st.settles, t.no_defaults kept, t.no_default kept) refl in
      let same : some_sorted (ns ++ []) (ps ++ []) ≡ some_sorted ns ps = rw (append-nil ns, append-nil ps) refl in
      agrees_as ids most (total sh (at p rows w (suc n) b) []) (lacks lacking) (final c (at p rows w (suc n) b) []) kept (some_sorted (ns ++ []) (ps ++ [])) (some_sorted ns ps)
      kinds (t.no_default kept) same (record {
        sound = λ e. (
          record { new = ns; plain = ps },
          refl,
          record {
            new = st.rests.news;
            plain = st.rests.count ∙ all_there name c ids most t kept n ns ps st.rests (lacks_none lacking e);
          },
          st.rests.holds,
        );
        complete = λ r e f.
            let plain_is : ps ≡ r.plain = ap (λ (q : Sorted). q.plain) (some_injective (record { new = ns; plain = ps }) r e) in
            let all : n ≡ length ids = sym st.rests.count ∙ ap length plain_is ∙ f.plain in
            ap lacks (none_lacking name c ids most t kept n ns ps st.rests all);
      })

  -- the words after `--`
  pub trailing : (words : List Text) (p : Pending) (rows : List Row) (w : Waiting) (n : ℕ) (ns ps : List Text) → Stands c ids most p rows n ns ps
      → Agrees ids most (total sh (at p rows w (suc n) true) words) (final c (at p rows w (suc n) true) words) (some_sorted (ns ++ []) (ps ++ words))
  trailing [] p rows w n ns ps st = ended p rows w n true ns ps st
  trailing (x ∷ words) p rows w n ns ps st =
      let here = at p rows w (suc n) true in
      let turn = turn_trailing name c ids most t p rows w (suc n) x in
      elim (cases_lt n (length ids)) [
        | inl lt ↦ (let kept = settled_rows c p rows in
            let there = at (Some (get_or ids n [], x ∷ [])) kept idle (suc (suc n)) true in
            let to : walked c [] here x ≡ there = turn.1 ∙ placed name c ids most t p rows w true n x lt in
            let good : turn_fault sh [] here x ≡ [] = turn.0 ∙ place_fault name c ids most t p rows n lt ∙ st.settles in
            agrees_as ids most (total sh here (x ∷ words)) (total sh there words) (final c here (x ∷ words)) (final c there words)
            (some_sorted (ns ++ []) (ps ++ (x ∷ words))) (some_sorted (ns ++ []) ((ps ++ x ∷ []) ++ words))
            (passes sh here there x words good to) (ap (λ u. final c u words) to) (ap (some_sorted (ns ++ [])) (sym (append_assoc ps (x ∷ []) words)))
            (trailing words (Some (get_or ids n [], x ∷ [])) kept idle (suc n) ns (ps ++ x ∷ []) (stands_word name c ids most t kept n ns ps x st.rests lt)))
        | inr le ↦ agrees_fault ids most (total sh here (x ∷ words)) (final c here (x ∷ words)) (some_sorted (ns ++ []) (ps ++ (x ∷ words)))
            (stops sh here x words (rw turn.0 (no_place name c ids most t p rows n le)))
            (λ r e f. let more = joined_more_plain ns ps x (Some (record { new = []; plain = words })) r e in omega (arith, st.rests.count, f.plain))
      ]

  -- what was pending fails
  pub doomed_trailing : (p : Pending) (rows : List Row) (w : Waiting) (n : ℕ) (words : List Text) → settle_fault c false (held p rows) ≢ [] → total sh (at p rows w (suc n) true) words ≢ []
  doomed_trailing p rows w n [] bad = rw (end_is sh (at p rows w (suc n) true)) (λ e. bad (or_first _ _ e))
  doomed_trailing p rows w n (x ∷ words) bad =
      let turn = (turn_trailing name c ids most t p rows w (suc n) x).0 in
      stops sh (at p rows w (suc n) true) x words (rw turn (elim (cases_lt n (length ids)) [
        | inl lt ↦ rw (place_fault name c ids most t p rows n lt) bad
        | inr le ↦ no_place name c ids most t p rows n le
      ]))

  pub doomed : (p : Pending) (rows : List Row) (n : ℕ) (words : List Text) → AllText words → settle_fault c false (held p rows) ≢ [] → total sh (at p rows idle (suc n) false) words ≢ []
  doomed p rows n [] texts bad = rw (end_is sh (at p rows idle (suc n) false)) (λ e. bad (or_first _ _ e))
  doomed p rows n (x ∷ words) texts bad = go (kind_of x) (seen x)
    where
      go : (k : Kind) → Seen k x → total sh (at p rows idle (suc n) false) (x ∷ words) ≢ []
      go ends h =
          let turn = turn_ends name c ids most t p rows (suc n) in
          rw (h, passes sh (at p rows idle (suc n) false) (at p rows idle (suc n) true) (codes "--") words turn.0 turn.1)
          (doomed_trailing p rows idle n words bad)
      go new h = rw h (stops sh (at p rows idle (suc n) false) (codes "--new") words (elim (most_is c most t.new) [
        | inl one ↦ rw ((turn_new name c ids most t p rows (suc n) one).0) bad
        | inr none ↦ turn_no_new name c ids most t p rows (suc n) none
      ]))
      go (new_is v) h = rw h (stops sh (at p rows idle (suc n) false) (codes "--new=" ++ v) words (elim (most_is c most t.new) [
        | inl one ↦ rw ((turn_new_is name c ids most t p rows (suc n) v one).0) (λ e. bad (or_first _ _ e))
        | inr none ↦ turn_no_new_is name c ids most t p rows (suc n) v none
      ]))
      go fault h = stops sh (at p rows idle (suc n) false) x words (turn_other name c ids most t p rows idle (suc n) x texts.0 h.1)
      go plain h = stops sh (at p rows idle (suc n) false) x words (rw ((turn_plain name c ids most t p rows (suc n) x h.1).0) (elim (cases_lt n (length ids)) [
        | inl lt ↦ rw (place_fault name c ids most t p rows n lt) bad
        | inr le ↦ no_place name c ids most t p rows n le
      ]))
