-- What is so of the area of a slot that keeps the rules by itself, and what is found in it.
use Rattle.std.proofs.Common.{◌≡◌, ◌∙◌, ◌<◌, ◌≤◌, inl, inr, ℕ, List, [], true, length, get_or, Some, None, refl, sym, ap, subst, arith}
use Rattle.std.specs.Prelude.{All, Contains, Option, Result, is_some, option_map}
use Rattle.std.specs.List.{list_all}
use Rattle.std.proofs.lemmas.Bool.{and_parts, leb-true, cases_lt, false≢true}
use Rattle.std.proofs.lemmas.List.{ext_get_or, length-map, get_or-map, get_or_past}
use Rattle.std.proofs.lemmas.List.Elements.{All-from_get_or, Contains-get_or}
use Rattle.ark_base.specs.declared.kind.Kind.{Kind}
use Rattle.ark_base.specs.declared.kind.Kind.TheVariants.{Raw, Log, Queue}
use Rattle.ark_base.specs.Name.{is_name}
use Rattle.ark_media.specs.Journal.{History, AllBlocks, block, current}
use Rattle.ark_media.specs.Calls.{Told, OnTold}
use Rattle.ark_media.proofs.Stopping.{length-current}
use Rattle.ark_extents.specs.Blocks.{runs_of, blocks_of}
use Rattle.ark_extents.specs.Runs.{are_spans}
use Rattle.ark_extents.specs.Views.{view_image, view_events, view_history, view_told, ArePlaced}
use Rattle.ark_extents.specs.ViewLaws.{view_blocks}
use Rattle.ark_extents.proofs.Counting.{length-below, distinct_blocks}
use Rattle.ark_extents.proofs.RunLemmas.{blocks_of-runs_of}
use Rattle.ark_extents.proofs.ViewImages.{view_current, distinct_placed}
use Rattle.ark_table.specs.declared.slot.Slot.{Slot}
use Rattle.ark_table.specs.Area.{Area, is_area, is_data, least_blocks, block_total}
use Rattle.ark_table.specs.Loading.{AreRight, IsRightIf}
use Rattle.ark_table.specs.Stated.{stated}
use Rattle.ark_table.specs.Table.{area_at}
use Rattle.ark_table.proofs.Moments.{area_inside}
use Rattle.ark_table.proofs.Spelling.{count_is}
use Rattle.ark_entry.specs.Found.{damaged, found_of}
use Rattle.ark_chain.specs.declared.surveying.Seen.{Seen}
use Rattle.ark_chain.specs.declared.surveying.SurveyFault.{SurveyFault}
use Rattle.ark_chain.specs.Survey.{HasFound, IsSurvey, IsAnswer}
use Rattle.ark_check.specs.declared.contents.Contents.TheVariants.{Found, Damaged}
use Rattle.ark_check.specs.Report.{contents, found_words}
use Rattle.ark_check.specs.Reading.{contents_words}

-- the device has the blocks of the area
pub area_within : (size : ℕ) (s : Slot) → is_area size (stated s) ≡ true → All (λ n. n < size) s.spans
area_within size s right = All-from_get_or (λ n. n < size) s.spans 0
    (λ k lt. (area_inside size (stated s) right (get_or s.spans k 0)
    (subst (λ (l : List ℕ). Contains l (get_or s.spans k 0)) (sym (blocks_of-runs_of s.spans)) (Contains-get_or s.spans k 0 lt))).1)

-- and is as large
pub area_short : (size : ℕ) (s : Slot) → is_area size (stated s) ≡ true → length s.spans ≤ size
area_short size s right =
    let one = and_parts (is_name s.app) _ right in
    let two = and_parts (is_name s.label) _ one.1 in
    let three = and_parts (are_spans (runs_of s.spans)) _ two.1 in
    subst (λ (l : List ℕ). length l ≤ size) (blocks_of-runs_of s.spans)
    (length-below size (blocks_of (runs_of s.spans)) (distinct_blocks (runs_of s.spans) three.0) (λ n has. (area_inside size (stated s) right n has).1))

-- a slot in use of a table whose slots keep the rules
pub right_at : (size : ℕ) (table : List (Option Area)) (k : ℕ) (a : Area) → area_at table k ≡ Some a → AreRight size table → is_area size a ≡ true
right_at size table k a is right = elim (cases_lt k (length table)) [
  | inl lt ↦ subst (IsRightIf size) is (right k None lt)
  | inr past ↦ absurd (false≢true (ap is_some (sym (get_or_past table k None past) ∙ is)))
]

-- a log or queue has two blocks at least
pub area_least : (size : ℕ) (s : Slot) → is_area size (stated s) ≡ true → least_blocks s.kind ≤ length s.spans
area_least size s right =
    let runs = runs_of s.spans in
    let one = and_parts (is_name s.app) _ right in
    let two = and_parts (is_name s.label) _ one.1 in
    let three = and_parts (are_spans runs) _ two.1 in
    let four = and_parts (list_all (is_data size) runs) _ three.1 in
    omega (arith, leb-true (least_blocks s.kind) (block_total runs) four.1, count_is runs, ap length (blocks_of-runs_of s.spans))

pub area_two : (size : ℕ) (s : Slot) → is_area size (stated s) ≡ true → (s.kind ≡ Raw → ⊥) → 2 ≤ length s.spans
area_two size s right not_raw = by s.kind refl
  where
    by : (kind : Kind) → s.kind ≡ kind → 2 ≤ length s.spans
    by Raw is = absurd (not_raw is)
    by Log is = subst (λ (kind : Kind). least_blocks kind ≤ length s.spans) is (area_least size s right)
    by Queue is = subst (λ (kind : Kind). least_blocks kind ≤ length s.spans) is (area_least size s right)

-- what a view shows is the image of its blocks
pub view_shows : (blocks : List ℕ) → ArePlaced blocks → (h : History) → All (λ n. n < length h.base) blocks
    → current (view_image blocks h.base) (view_events blocks h.journal) ≡ view_image blocks (current h.base h.journal)
view_shows blocks placed h inside =
    let long : length (current (view_image blocks h.base) (view_events blocks h.journal)) ≡ length blocks = length-current (view_image blocks h.base) (view_events blocks h.journal) ∙ length-map blocks (λ n. block h.base n) in
    ext_get_or [] _ _ (long ∙ sym (length-map blocks (λ n. block (current h.base h.journal) n)))
    (λ k lt.
    let here : k < length blocks = subst (λ m. k < m) long lt in
    view_current h.base blocks (distinct_placed blocks placed) (λ i li. inside i 0 li) h.journal k here
    ∙ sym (get_or-map (λ n. block (current h.base h.journal) n) blocks k 0 [] here))

-- its blocks have 512 bytes where those of the image have
pub view_whole : (blocks : List ℕ) (image : List (List ℕ)) → AllBlocks image → All (λ n. n < length image) blocks → AllBlocks (view_image blocks image)
view_whole blocks image whole inside =
    let h : History = record { base = image; journal = [] } in
    let told : Told = record { history = Some h; blocks = length image; faults = 0 } in
    view_blocks blocks told (λ j is. ap length (base_of j is)) (λ j is. subst (λ (b : List (List ℕ)). AllBlocks b) (sym (base_of j is)) whole) inside (view_history blocks h) refl
  where
    base_or : Option History → List (List ℕ)
    base_or (Some h) = h.base
    base_or None = image

    base_of : (j : History) → Some (record { base = image; journal = [] }) ≡ Some j → j.base ≡ image
    base_of j is = sym (ap base_or is)

-- what a survey of the view told, of the disk's image
pub view_surveyed : (kind : Kind) (result : Result Seen SurveyFault) (lengths spans blocks : List ℕ) (new last : Told) → spans ≡ blocks → new ≡ last → ArePlaced spans → All (λ n. n < new.blocks) spans
    → ((h : History) → new.history ≡ Some h → length h.base ≡ new.blocks) → OnTold (view_told spans new) (IsSurvey kind result lengths)
    → (h : History) → last.history ≡ Some h → AllBlocks (current h.base h.journal) → IsAnswer kind result lengths (view_image blocks (current h.base h.journal))
view_surveyed kind result lengths spans blocks new last same end placed inside size surveyed h told whole =
    let here : new.history ≡ Some h = ap (λ (t : Told). t.history) end ∙ told in
    let within : All (λ n. n < length h.base) spans = subst (λ m. All (λ n. n < m) spans) (sym (size h here)) inside in
    let inner : All (λ n. n < length (current h.base h.journal)) spans = subst (λ m. All (λ n. n < m) spans) (sym (length-current h.base h.journal)) within in
    let found = subst (λ (view : List (List ℕ)). IsSurvey kind result lengths view) (view_shows spans placed h within) (surveyed (view_history spans h) (ap (λ (o : Option History). option_map (view_history spans) o) here)) in
    subst (λ (l : List ℕ). IsAnswer kind result lengths (view_image l (current h.base h.journal))) same (found (view_whole spans (current h.base h.journal) whole inner))

-- the words of a list that was found
pub words_found : (kind : Kind) → (kind ≡ Raw → ⊥) → (seen : Seen) (lengths : List ℕ) (view : List (List ℕ)) → HasFound kind seen lengths view
    → contents_words (Found seen.first seen.count) ≡ contents kind view
words_found Raw not_raw seen lengths view has = absurd (not_raw refl)
words_found Log not_raw seen lengths view has = (λ i. contents_words (Found (has.first i) (has.count i))) ∙ ap found_words (sym has.is_found)
words_found Queue not_raw seen lengths view has = (λ i. contents_words (Found (has.first i) (has.count i))) ∙ ap found_words (sym has.is_found)

-- and of one that is damaged
pub words_damaged : (kind : Kind) → (kind ≡ Raw → ⊥) → (n : ℕ) (view : List (List ℕ)) → found_of kind view ≡ damaged n → contents_words (Damaged n) ≡ contents kind view
words_damaged Raw not_raw n view is = absurd (not_raw refl)
words_damaged Log not_raw n view is = ap found_words (sym is)
words_damaged Queue not_raw n view is = ap found_words (sym is)
