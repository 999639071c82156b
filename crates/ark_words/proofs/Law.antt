-- Clap fails exactly where the words do not sort into as many as the command wants, and keeps those that it wants.
use Rattle.std.proofs.Common.{◌≡◌, ◌≢◌, ◌∙◌, ◌<◌, ℕ, suc, Bool, true, false, List, [], ◌∷◌, ◌++◌, Option, Some, None, length, get_or, refl, sym, ap, codes, IsUtf8, arith, inl, inr}
use Rattle.std.proofs.lemmas.Bool.{cases_lt}
use Rattle.clap.specs.Walk.{Row, Rule, Walk, idle, option, walked, settled_rows}
use Rattle.clap.specs.Simple.{Shape}
use Rattle.clap.specs.Kinds.{or_else}
use Rattle.clap.specs.Faults.{settle_fault, repeat_fault, turn_fault}
use Rattle.ark_words.specs.Sorted.{Text, Sorted, Kind, ends, new, new_is, fault, plain, kind_of, is_dashed, sorted_from, sorted_word, with_new, with_plain}
use Rattle.ark_words.proofs.Seen.{Seen, seen, ReadsPlain}
use Rattle.ark_words.proofs.RowLemmas.{used_with}
use Rattle.ark_words.proofs.Table.{Table, shape_with}
use Rattle.ark_words.proofs.Turns.{Pending, held, at, total, final, or_first, stops, passes, end_is, turn_plain, place_fault, placed, no_place, turn_ends, turn_other, turn_new, turn_new_is, turn_no_new, turn_no_new_is, turn_value, turn_value_ends, turn_value_new, turn_value_new_is, settle_none, settle_new}
use Rattle.ark_words.proofs.Standing.{Agrees, agrees_as, agrees_fault, joined, joined_plain, joined_new, joined_more_new, joined_more_plain, Rests, Stands, stands_word, stands_value, stands_attached, no_repeat, repeats}
use Rattle.ark_words.proofs.Ends.{AllText, most_is, some_sorted, ended, trailing, doomed_trailing, doomed}

no_sorted : (r : Sorted) → None ≡ Some r → ⊥
no_sorted r e = cc

-- `--new` has a value, if the words sort
awaited_new : (ns ps : List Text) (words : List Text) (s : Sorted) → joined ns ps (sorted_from true words) ≡ Some s → length ns < length s.new
awaited_new ns ps [] s e = cc
awaited_new ns ps (x ∷ words) s e = go (is_dashed x) refl
  where
    go : (b : Bool) → is_dashed x ≡ b → length ns < length s.new
    go true h = absurd (no_some (sym (rw h at e)))
      where
        no_some : Some s ≡ None → ⊥
        no_some f = cc
    go false h = joined_more_new ns ps x (sorted_from false words) s (rw h at e)

module _ (name : Text) (c : List Rule) (ids : List Text) (most : ℕ) (t : Table c ids most) where
  abbrev sh : Shape
  sh = shape_with name c

  abbrev Idle : List Text → Type 0
  Idle words = (p : Pending) (rows : List Row) (n : ℕ) (ns ps : List Text) → Stands c ids most p rows n ns ps
      → Agrees ids most (total sh (at p rows idle (suc n) false) words) (final c (at p rows idle (suc n) false) words) (joined ns ps (sorted_from false words))

  abbrev awaiting : List Row → ℕ → Walk
  awaiting rows n = at (Some (codes "new", [])) rows (option (codes "new")) (suc n) false

  abbrev Awaits : List Text → Type 0
  Awaits words = (rows : List Row) (n : ℕ) (ns ps : List Text) → most ≡ 1 → Rests ids most rows n ns ps
      → Agrees ids most (total sh (awaiting rows n) words) (final c (awaiting rows n) words) (joined ns ps (sorted_from true words))

  attached : (v : Text) (words : List Text) → Idle words → most ≡ 1 → (p : Pending) (rows : List Row) (n : ℕ) (ns ps : List Text) → Stands c ids most p rows n ns ps
      → Agrees ids most (total sh (at p rows idle (suc n) false) ((codes "--new=" ++ v) ∷ words)) (final c (at p rows idle (suc n) false) ((codes "--new=" ++ v) ∷ words)) (joined ns ps (with_new v (sorted_from false words)))
  attached v words idles one p rows n [] ps st =
      let x : Text = codes "--new=" ++ v in
      let o = sorted_from false words in
      let here = at p rows idle (suc n) false in
      let kept = settled_rows c p rows in
      let there = at None (used_with (codes "new") v kept) idle (suc n) false in
      let turn = turn_new_is name c ids most t p rows (suc n) v one in
      let good : turn_fault sh [] here x ≡ [] = turn.0 ∙ ap (λ k. or_else k (repeat_fault false (codes "new") kept)) st.settles ∙ no_repeat (codes "new") kept st.rests.holds.0 in
      agrees_as ids most (total sh here (x ∷ words)) (total sh there words) (final c here (x ∷ words)) (final c there words)
      (joined [] ps (with_new v o)) (joined (v ∷ []) ps o)
      (passes sh here there x words good turn.1) (ap (λ u. final c u words) turn.1) (joined_new ps v o)
      (idles None (used_with (codes "new") v kept) n (v ∷ []) ps (stands_attached name c ids most t kept n ps v one st.rests))
  attached v words idles one p rows n (m ∷ more) ps st =
      let x : Text = codes "--new=" ++ v in
      let o = sorted_from false words in
      let here = at p rows idle (suc n) false in
      let kept = settled_rows c p rows in
      let turn = turn_new_is name c ids most t p rows (suc n) v one in
      agrees_fault ids most (total sh here (x ∷ words)) (final c here (x ∷ words)) (joined (m ∷ more) ps (with_new v o))
      (stops sh here x words (rw (turn.0, st.settles) (repeats (codes "new") m kept st.rests.holds.0)))
      (λ r e f. let longer : suc (length more) < length r.new = joined_more_new (m ∷ more) ps v o r e in omega (arith, f.new))

  idle_ends : (words : List Text) (p : Pending) (rows : List Row) (n : ℕ) (ns ps : List Text) → Stands c ids most p rows n ns ps
      → Agrees ids most (total sh (at p rows idle (suc n) false) (codes "--" ∷ words)) (final c (at p rows idle (suc n) false) (codes "--" ∷ words)) (some_sorted (ns ++ []) (ps ++ words))
  idle_ends words p rows n ns ps st =
      let here = at p rows idle (suc n) false in
      let there = at p rows idle (suc n) true in
      let turn = turn_ends name c ids most t p rows (suc n) in
      agrees_as ids most (total sh here (codes "--" ∷ words)) (total sh there words) (final c here (codes "--" ∷ words)) (final c there words)
      (some_sorted (ns ++ []) (ps ++ words)) (some_sorted (ns ++ []) (ps ++ words))
      (passes sh here there (codes "--") words turn.0 turn.1) (ap (λ u. final c u words) turn.1) refl
      (trailing name c ids most t words p rows idle n ns ps st)

  idle_new : (words : List Text) → Awaits words → (p : Pending) (rows : List Row) (n : ℕ) (ns ps : List Text) → Stands c ids most p rows n ns ps
      → Agrees ids most (total sh (at p rows idle (suc n) false) (codes "--new" ∷ words)) (final c (at p rows idle (suc n) false) (codes "--new" ∷ words)) (joined ns ps (sorted_from true words))
  idle_new words awaits p rows n ns ps st =
      let x : Text = codes "--new" in
      let o = joined ns ps (sorted_from true words) in
      let here = at p rows idle (suc n) false in
      let kept = settled_rows c p rows in
      let there = awaiting kept n in
      elim (most_is c most t.new) [
        | inl one ↦ (let turn = turn_new name c ids most t p rows (suc n) one in
            agrees_as ids most (total sh here (x ∷ words)) (total sh there words) (final c here (x ∷ words)) (final c there words) o o
            (passes sh here there x words (turn.0 ∙ st.settles) turn.1) (ap (λ u. final c u words) turn.1) refl
            (awaits kept n ns ps one st.rests))
        | inr none ↦ agrees_fault ids most (total sh here (x ∷ words)) (final c here (x ∷ words)) o
            (stops sh here x words (turn_no_new name c ids most t p rows (suc n) none))
            (λ r e f. let longer = awaited_new ns ps words r e in omega (arith, f.new))
      ]

  idle_step : (x : Text) (words : List Text) → IsUtf8 x → Idle words → Awaits words → (k : Kind) → Seen k x
      → (p : Pending) (rows : List Row) (n : ℕ) (ns ps : List Text) → Stands c ids most p rows n ns ps
      → Agrees ids most (total sh (at p rows idle (suc n) false) (x ∷ words)) (final c (at p rows idle (suc n) false) (x ∷ words)) (joined ns ps (sorted_word k x words (λ b. sorted_from b words)))
  idle_step x words u idles awaits ends h p rows n ns ps st = rw h (idle_ends words p rows n ns ps st)
  idle_step x words u idles awaits new h p rows n ns ps st = rw h (idle_new words awaits p rows n ns ps st)
  idle_step x words u idles awaits (new_is v) h p rows n ns ps st =
      let here = at p rows idle (suc n) false in
      let o = sorted_from false words in
      rw h (elim (most_is c most t.new) [
        | inl one ↦ attached v words idles one p rows n ns ps st
        | inr none ↦ agrees_fault ids most (total sh here ((codes "--new=" ++ v) ∷ words)) (final c here ((codes "--new=" ++ v) ∷ words)) (joined ns ps (with_new v o))
            (stops sh here (codes "--new=" ++ v) words (turn_no_new_is name c ids most t p rows (suc n) v none))
            (λ r e f. let longer = joined_more_new ns ps v o r e in omega (arith, f.new))
      ])
  idle_step x words u idles awaits fault h p rows n ns ps st =
      agrees_fault ids most (total sh (at p rows idle (suc n) false) (x ∷ words)) (final c (at p rows idle (suc n) false) (x ∷ words)) None
      (stops sh (at p rows idle (suc n) false) x words (turn_other name c ids most t p rows idle (suc n) x u h.1)) (λ r e f. no_sorted r e)
  idle_step x words u idles awaits plain h p rows n ns ps st =
      let here = at p rows idle (suc n) false in
      let turn = turn_plain name c ids most t p rows (suc n) x h.1 in
      let o = sorted_from false words in
      elim (cases_lt n (length ids)) [
        | inl lt ↦ (let kept = settled_rows c p rows in
            let there = at (Some (get_or ids n [], x ∷ [])) kept idle (suc (suc n)) false in
            let to : walked c [] here x ≡ there = turn.1 ∙ placed name c ids most t p rows idle false n x lt in
            let good : turn_fault sh [] here x ≡ [] = turn.0 ∙ place_fault name c ids most t p rows n lt ∙ st.settles in
            agrees_as ids most (total sh here (x ∷ words)) (total sh there words) (final c here (x ∷ words)) (final c there words)
            (joined ns ps (with_plain x o)) (joined ns (ps ++ x ∷ []) o)
            (passes sh here there x words good to) (ap (λ u. final c u words) to) (joined_plain ns ps x o)
            (idles (Some (get_or ids n [], x ∷ [])) kept (suc n) ns (ps ++ x ∷ []) (stands_word name c ids most t kept n ns ps x st.rests lt)))
        | inr le ↦ agrees_fault ids most (total sh here (x ∷ words)) (final c here (x ∷ words)) (joined ns ps (with_plain x o))
            (stops sh here x words (rw turn.0 (no_place name c ids most t p rows n le)))
            (λ r e f. let more = joined_more_plain ns ps x o r e in omega (arith, st.rests.count, f.plain))
      ]

  -- the value of `--new`
  awaits_value : (x : Text) (words : List Text) → AllText words → Idle words → ReadsPlain x → (rows : List Row) (n : ℕ) (ns ps : List Text) → most ≡ 1 → Rests ids most rows n ns ps
      → Agrees ids most (total sh (awaiting rows n) (x ∷ words)) (final c (awaiting rows n) (x ∷ words)) (joined ns ps (with_new x (sorted_from false words)))
  awaits_value x words texts idles plain_x rows n [] ps one r =
      let here = awaiting rows n in
      let there = at (Some (codes "new", x ∷ [])) rows idle (suc n) false in
      let o = sorted_from false words in
      let turn = turn_value name c ids most t rows (suc n) x one plain_x in
      agrees_as ids most (total sh here (x ∷ words)) (total sh there words) (final c here (x ∷ words)) (final c there words)
      (joined [] ps (with_new x o)) (joined (x ∷ []) ps o)
      (passes sh here there x words turn.0 turn.1) (ap (λ u. final c u words) turn.1) (joined_new ps x o)
      (idles (Some (codes "new", x ∷ [])) rows n (x ∷ []) ps (stands_value name c ids most t rows n ps x one r))
  awaits_value x words texts idles plain_x rows n (m ∷ more) ps one r =
      let here = awaiting rows n in
      let there = at (Some (codes "new", x ∷ [])) rows idle (suc n) false in
      let o = sorted_from false words in
      let turn = turn_value name c ids most t rows (suc n) x one plain_x in
      let bad : settle_fault c false (held (Some (codes "new", x ∷ [])) rows) ≢ [] = rw ((settle_new name c ids most t x rows one).0) (repeats (codes "new") m rows r.holds.0) in
      agrees_fault ids most (total sh here (x ∷ words)) (final c here (x ∷ words)) (joined (m ∷ more) ps (with_new x o))
      (rw (passes sh here there x words turn.0 turn.1) (doomed name c ids most t (Some (codes "new", x ∷ [])) rows n words texts bad))
      (λ q e f. let longer : suc (length more) < length q.new = joined_more_new (m ∷ more) ps x o q e in omega (arith, f.new))

  awaits_ends : (words : List Text) (rows : List Row) (n : ℕ) → most ≡ 1 → total sh (awaiting rows n) (codes "--" ∷ words) ≢ []
  awaits_ends words rows n one =
      let here = awaiting rows n in
      let there = at (Some (codes "new", [])) rows (option (codes "new")) (suc n) true in
      let turn = turn_value_ends name c ids most t rows (suc n) in
      rw (passes sh here there (codes "--") words turn.0 turn.1)
      (doomed_trailing name c ids most t (Some (codes "new", [])) rows (option (codes "new")) n words (settle_none name c ids most t rows one))

  awaits_step : (x : Text) (words : List Text) → IsUtf8 x → AllText words → Idle words → (k : Kind) → Seen k x → (rows : List Row) (n : ℕ) (ns ps : List Text) → most ≡ 1 → Rests ids most rows n ns ps
      → Agrees ids most (total sh (awaiting rows n) (x ∷ words)) (final c (awaiting rows n) (x ∷ words)) (joined ns ps (sorted_from true (x ∷ words)))
  awaits_step x words u texts idles ends h rows n ns ps one r =
      rw h (agrees_fault ids most (total sh (awaiting rows n) (codes "--" ∷ words)) (final c (awaiting rows n) (codes "--" ∷ words)) None (awaits_ends words rows n one) (λ q e f. no_sorted q e))
  awaits_step x words u texts idles new h rows n ns ps one r =
      rw h (agrees_fault ids most (total sh (awaiting rows n) (codes "--new" ∷ words)) (final c (awaiting rows n) (codes "--new" ∷ words)) None
      (stops sh (awaiting rows n) (codes "--new") words (turn_value_new name c ids most t rows (suc n) one)) (λ q e f. no_sorted q e))
  awaits_step x words u texts idles (new_is v) h rows n ns ps one r =
      rw h (agrees_fault ids most (total sh (awaiting rows n) ((codes "--new=" ++ v) ∷ words)) (final c (awaiting rows n) ((codes "--new=" ++ v) ∷ words)) None
      (stops sh (awaiting rows n) (codes "--new=" ++ v) words (turn_value_new_is name c ids most t rows (suc n) v one)) (λ q e f. no_sorted q e))
  awaits_step x words u texts idles fault h rows n ns ps one r =
      rw h.0 (agrees_fault ids most (total sh (awaiting rows n) (x ∷ words)) (final c (awaiting rows n) (x ∷ words)) None
      (stops sh (awaiting rows n) x words (turn_other name c ids most t (Some (codes "new", [])) rows (option (codes "new")) (suc n) x u h.1)) (λ q e f. no_sorted q e))
  awaits_step x words u texts idles plain h rows n ns ps one r = rw h.0 (awaits_value x words texts idles h.1 rows n ns ps one r)

  awaits_none : (rows : List Row) (n : ℕ) (ns ps : List Text) → most ≡ 1 → Rests ids most rows n ns ps
      → Agrees ids most (total sh (awaiting rows n) []) (final c (awaiting rows n) []) None
  awaits_none rows n ns ps one r =
      agrees_fault ids most (total sh (awaiting rows n) []) (final c (awaiting rows n) []) None
      (rw (end_is sh (awaiting rows n)) (λ e. settle_none name c ids most t rows one (or_first _ _ e))) (λ q e f. no_sorted q e)

  both : (words : List Text) → AllText words → Idle words × Awaits words
  both [] texts = (λ p rows n ns ps st. ended name c ids most t p rows idle n false ns ps st, awaits_none)
  both (x ∷ words) texts =
      let rest = both words texts.1 in
      (idle_step x words texts.0 rest.0 rest.1 (kind_of x) (seen x), awaits_step x words texts.0 texts.1 rest.0 (kind_of x) (seen x))

  -- from the first word on
  pub law : (words : List Text) → AllText words → Agrees ids most (total sh (at None [] idle 1 false) words) (final c (at None [] idle 1 false) words) (sorted_from false words)
  law words texts =
      let start : Stands c ids most None [] 0 [] [] = record { settles = refl; rests = record { holds = (refl, λ k lt. refl); news = omega arith; plains = omega arith; count = refl } } in
      let o = sorted_from false words in
      agrees_as ids most _ _ _ _ o (joined [] [] o) refl refl (from_none o) ((both words texts).0 None [] 0 [] [] start)
    where
      from_none : (o : Option Sorted) → o ≡ joined [] [] o
      from_none None = refl
      from_none (Some s) = refl
