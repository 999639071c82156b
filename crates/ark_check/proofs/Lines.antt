-- The lines of a report, slot by slot.
use Rattle.std.proofs.Common.{◌≡◌, ◌∙◌, ◌<◌, ◌≤◌, ◌+◌, ◌-◌, ℕ, suc, List, [], ◌∷◌, ◌++◌, Option, Some, None, length, take, drop, refl, sym, ap, arith, append_assoc, append-nil, take_all}
use Rattle.std.specs.Prelude.{map}
use Rattle.std.proofs.lemmas.List.{take_more, take-append-drop, map-append, length-take-le}
use Rattle.std.proofs.lemmas.Grind.{flat_map-append}
use Rattle.ark_extents.specs.Views.{view_image}
use Rattle.ark_extents.proofs.RunLemmas.{blocks_of-runs_of}
use Rattle.ark_table.specs.declared.slot.Slot as code
use Rattle.ark_table.specs.Area.{Area}
use Rattle.ark_table.specs.Slots.{Slot, slot_at}
use Rattle.ark_table.specs.Stated.{stated}
use Rattle.ark_table.specs.Table.{area_at, slots_in}
use Rattle.ark_check.specs.declared.contents.Contents.{Contents}
use Rattle.ark_check.specs.Report.{contents, slot_words, slot_line, text_of}
use Rattle.ark_check.specs.Reading.{contents_words, shown}
use Rattle.ark_check.specs.Putting.{slot_text}

-- what the code shows of a slot is what the slot states
pub shows_stated : (i : ℕ) (s : code.Slot) → shown i s ≡ slot_at i (stated s)
shows_stated i s = ap (λ (l : List ℕ). record { index = i; app = s.app; label = s.label; kind = s.kind; blocks = l }) (sym (blocks_of-runs_of s.spans))

pub line_of : (image : List (List ℕ)) (i : ℕ) (s : code.Slot) (c : Contents) → contents_words c ≡ contents s.kind (view_image s.spans image)
    → (slot_words (shown i s) ++ contents_words c) ++ 10 ∷ [] ≡ slot_text i (Some (stated s)) image
line_of image i s c is =
    ap (λ (l : List ℕ). (slot_words (shown i s) ++ l) ++ 10 ∷ []) is
    ∙ ap (λ (x : Slot). slot_line image x ++ 10 ∷ []) (shows_stated i s)

slots_append : (i : ℕ) (xs ys : List (Option Area)) → slots_in i (xs ++ ys) ≡ slots_in i xs ++ slots_in (i + length xs) ys
slots_append i [] ys = let same : i ≡ i + 0 = omega arith in ap (λ n. slots_in n ys) same
slots_append i (None ∷ xs) ys = let same : i + 1 + length xs ≡ i + suc (length xs) = omega arith in slots_append (i + 1) xs ys ∙ ap (λ n. slots_in (i + 1) xs ++ slots_in n ys) same
slots_append i (Some a ∷ xs) ys = let same : i + 1 + length xs ≡ i + suc (length xs) = omega arith in
    ap (λ (l : List Slot). slot_at i a ∷ l) (slots_append (i + 1) xs ys ∙ ap (λ n. slots_in (i + 1) xs ++ slots_in n ys) same)

module _ (image : List (List ℕ)) where
  abbrev pub lines_text : List Slot → List ℕ
  lines_text slots = text_of (map (slot_line image) slots)

  one_text : (i : ℕ) (o : Option Area) → lines_text (slots_in i (o ∷ [])) ≡ slot_text i o image
  one_text i None = refl
  one_text i (Some a) = append-nil (slot_line image (slot_at i a) ++ 10 ∷ [])

  lines_append : (xs ys : List Slot) → lines_text (xs ++ ys) ≡ lines_text xs ++ lines_text ys
  lines_append xs ys = ap text_of (map-append (slot_line image) xs ys) ∙ flat_map-append (λ (l : List ℕ). l ++ 10 ∷ []) (map (slot_line image) xs) (map (slot_line image) ys)

  -- the slots before place k of the table, and that of place k
  pub text_more : (table : List (Option Area)) (k : ℕ) → k < length table → lines_text (slots_in 1 (take (k + 1) table)) ≡ lines_text (slots_in 1 (take k table)) ++ slot_text (k + 1) (area_at table k) image
  text_more table k lt =
      let place : 1 + length (take k table) ≡ k + 1 = omega (arith, length-take-le k table (omega (arith, lt))) in
      ap (λ (l : List (Option Area)). lines_text (slots_in 1 l)) (take_more table k None lt)
      ∙ ap lines_text (slots_append 1 (take k table) (area_at table k ∷ []))
      ∙ lines_append (slots_in 1 (take k table)) (slots_in (1 + length (take k table)) (area_at table k ∷ []))
      ∙ ap (λ n. lines_text (slots_in 1 (take k table)) ++ lines_text (slots_in n (area_at table k ∷ []))) place
      ∙ ap (λ (l : List ℕ). lines_text (slots_in 1 (take k table)) ++ l) (one_text (k + 1) (area_at table k))

  abbrev pub first_lines : List (Option Area) → ℕ → List ℕ
  first_lines table k = lines_text (slots_in 1 (take k table))

  -- of the whole report, the lines of the first slots are a front
  pub text_front : (table : List (Option Area)) (k : ℕ) → (rest : List ℕ) × (lines_text (slots_in 1 table) ≡ first_lines table k ++ rest)
  text_front table k =
      let behind = slots_in (1 + length (take k table)) (drop k table) in (
        lines_text behind,
        ap (λ (l : List (Option Area)). lines_text (slots_in 1 l)) (sym (take-append-drop k table)) ∙ ap lines_text (slots_append 1 (take k table) (drop k table)) ∙ lines_append (slots_in 1 (take k table)) behind,
      )

  -- the same with the lines before it, up to and with slot i
  pub report_front : (table : List (Option Area)) (device : List ℕ) (i : ℕ) → 1 ≤ i → i - 1 < length table
      → (rest : List ℕ) × (device ++ lines_text (slots_in 1 table) ≡ ((device ++ first_lines table (i - 1)) ++ slot_text i (area_at table (i - 1)) image) ++ rest)
  report_front table device i low lt =
      let k = i - 1 in
      let same : k + 1 ≡ i = omega (arith, low) in
      let front = text_front table (k + 1) in
      let more : first_lines table (k + 1) ≡ first_lines table k ++ slot_text i (area_at table k) image = text_more table k lt ∙ ap (λ n. first_lines table k ++ slot_text n (area_at table k) image) same in (
        front.0,
        ap (λ l. device ++ l) (front.1 ∙ ap (λ l. l ++ front.0) more)
            ∙ sym (append_assoc device (first_lines table k ++ slot_text i (area_at table k) image) front.0)
            ∙ ap (λ l. l ++ front.0) (sym (append_assoc device (first_lines table k) (slot_text i (area_at table k) image))),
      )

  -- one slot more
  pub report_more : (table : List (Option Area)) (device : List ℕ) (i next : ℕ) → 1 ≤ i → i - 1 < length table → next ≡ i + 1
      → (device ++ first_lines table (i - 1)) ++ slot_text i (area_at table (i - 1)) image ≡ device ++ first_lines table (next - 1)
  report_more table device i next low lt is =
      let k = i - 1 in
      let same : k + 1 ≡ i = omega (arith, low) in
      let there : k + 1 ≡ next - 1 = omega (arith, low, is) in
      append_assoc device (first_lines table k) (slot_text i (area_at table k) image)
      ∙ ap (λ l. device ++ l) (ap (λ n. first_lines table k ++ slot_text n (area_at table k) image) (sym same) ∙ sym (text_more table k lt) ∙ ap (first_lines table) there)

  -- and all of them
  pub report_all : (table : List (Option Area)) (device : List ℕ) (k : ℕ) → length table ≤ k → device ++ first_lines table k ≡ device ++ lines_text (slots_in 1 table)
  report_all table device k past = ap (λ (l : List (Option Area)). device ++ lines_text (slots_in 1 l)) (take_all k table past)
