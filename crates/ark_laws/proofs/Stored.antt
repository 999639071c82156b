-- The slots that are read from an image are of data blocks, and share none.
use Rattle.std.proofs.Common.{◌≡◌, ◌<◌, ◌≤◌, inl, inr, ℕ, suc, ◌+◌, Bool, true, false, not, List, [], ◌∷◌, ◌++◌, ◌&&◌, ◌||◌, map, length, take, drop, refl, sym, subst, arith, ◌==◌, eqb-true}
use Rattle.std.proofs.lemmas.Bool.{false≢true, and_parts}
use Rattle.std.proofs.lemmas.Bool.Decides.{nat_tests}
use Rattle.std.proofs.lemmas.List.{map-append, length-take}
use Rattle.std.specs.Prelude.{Result, Ok, Err, Contains, nat_le, bytes_eq}
use Rattle.std.specs.List.{AllByRecursion, list_all}
use Rattle.ark_base.specs.declared.block.Span.{Span}
use Rattle.ark_extents.specs.Blocks.{blocks_of}
use Rattle.ark_base.specs.Name.{is_name}
use Rattle.ark_extents.specs.Runs.{are_apart, are_spans}
use Rattle.ark_extents.specs.Free.{AnyHas}
use Rattle.ark_extents.proofs.Counting.{distinct_blocks}
use Rattle.ark_extents.proofs.Holding.{has_contained, none_shared}
use Rattle.ark_table.specs.Superblock.{slot_count}
use Rattle.ark_table.specs.Area.{Area, area_in, area_bytes, is_data, block_total as blocks_in, least_blocks, is_area, is_free, is_used}
use Rattle.ark_table.specs.Slots.{Slot, slot_at, HeldSlot, share_no_block, is_same, areas_with, goes_with, with_area, with_used, with_block, and_then, held_after, is_device, held_if, held_of, as_slots, slots_of}
use Rattle.ark_machine.specs.Plane.{is_granted, max_slots}
use Rattle.ark_machine.specs.Start.{start_system}
use Rattle.ark_machine.specs.Grants.{has_block, has_index, SlotFits, SlotsFit, SlotsApart, GrantsApart}
use Rattle.ark_machine.proofs.Grants.{or_both, not_true, apart_more, fit_more}

abbrev slot : HeldSlot → Slot
slot h = slot_at h.index h.area

of_has : (xs : List ℕ) (n : ℕ) → has_block xs n ≡ true → Contains xs n
of_has [] n h = absurd (false≢true h)
of_has (x ∷ xs) n h = by (x == n) refl h (of_has xs n)
  where
    by : (b : Bool) → (x == n) ≡ b → (b || has_block xs n) ≡ true → (has_block xs n ≡ true → Contains xs n) → Contains (x ∷ xs) n
    by true e g next = (0, omega arith, eqb-true x n e)
    by false e g next = let found : Contains xs n = next g in (suc found.0, omega (arith, found.1), found.2)

shared : (xs ys : List Span) (n : ℕ) → share_no_block xs ys ≡ true → AnyHas xs n → AnyHas ys n → ⊥
shared [] ys n h a b = a
shared (x ∷ xs) ys n h (inl a) b = none_shared x ys (and_parts (list_all (are_apart x) ys) (share_no_block xs ys) h).0 n a b
shared (x ∷ xs) ys n h (inr a) b = shared xs ys n (and_parts (list_all (are_apart x) ys) (share_no_block xs ys) h).1 a b

-- an area that goes with others has none of their blocks
goes_apart : (held : List HeldSlot) (a : Area) (n : ℕ) → list_all (λ h. share_no_block a.runs h.area.runs && not (is_same a h.area)) held ≡ true → Contains (blocks_of a.runs) n → is_granted (map slot held) n ≡ false
goes_apart [] a n h here = refl
goes_apart (x ∷ xs) a n h here =
    let p = and_parts (share_no_block a.runs x.area.runs && not (is_same a x.area)) (list_all (λ y. share_no_block a.runs y.area.runs && not (is_same a y.area)) xs) h in
    or_both (has_block (blocks_of x.area.runs) n) (is_granted (map slot xs) n)
    (not_true (has_block (blocks_of x.area.runs) n) (λ e. shared a.runs x.area.runs n (and_parts (share_no_block a.runs x.area.runs) (not (is_same a x.area)) p.0).0 (has_contained a.runs n here) (has_contained x.area.runs n (of_has (blocks_of x.area.runs) n e))))
    (goes_apart xs a n p.1 here)

abbrev AllBelow : ℕ → List HeldSlot → Type 0
AllBelow i held = AllByRecursion (λ h. h.index < i) held

below_next : (i : ℕ) (held : List HeldSlot) → AllBelow i held → AllBelow (i + 1) held
below_next i [] h = tt
below_next i (x ∷ xs) h = (omega (arith, h.0), below_next i xs h.1)

below_more : (i : ℕ) (held : List HeldSlot) (x : HeldSlot) → AllBelow i held → x.index < i → AllBelow i (held ++ x ∷ [])
below_more i [] x h k = (k, tt)
below_more i (y ∷ ys) x h k = (h.0, below_more i ys x h.1 k)

differs : (i k : ℕ) → i < k → (i == k) ≡ false
differs i k h = grind (arith, nat_tests)

no_index : (i : ℕ) (held : List HeldSlot) → AllBelow i held → has_index (map slot held) i ≡ false
no_index i [] h = refl
no_index i (x ∷ xs) h = or_both (x.index == i) (has_index (map slot xs) i) (differs x.index i h.0) (no_index i xs h.1)

-- A slot in use, by itself.

data_had : (size : ℕ) (runs : List Span) (n : ℕ) → list_all (is_data size) runs ≡ true → AnyHas runs n → (129 ≤ n) × (n < size)
data_had size [] n h has = absurd has
data_had size (x ∷ xs) n h (inl here) =
    let p = and_parts (is_data size x) (list_all (is_data size) xs) h in
    let q = and_parts (nat_le 129 x.start) (nat_le (x.start + x.len) size) p.0 in
    (le_of 129 x.start n q.0 here.0, lt_of (x.start + x.len) size n q.1 here.1)
  where
    le_of : (a b c : ℕ) → nat_le a b ≡ true → b ≤ c → a ≤ c
    le_of a b c e le = grind (arith, nat_tests)

    lt_of : (a b c : ℕ) → nat_le a b ≡ true → c < a → c < b
    lt_of a b c e lt = grind (arith, nat_tests)
data_had size (x ∷ xs) n h (inr later) = data_had size xs n (and_parts (is_data size x) (list_all (is_data size) xs) h).1 later

used_fits : (size i : ℕ) (content : List ℕ) → is_used size content ≡ true → 1 ≤ i → i ≤ max_slots → SlotFits size (slot_at i (area_in content))
used_fits size i content used low high =
    let a : Area = area_in content in
    let p = and_parts (is_area size a) (bytes_eq content (area_bytes a)) used in
    let q = and_parts (is_name a.app) (is_name a.label && (are_spans a.runs && (list_all (is_data size) a.runs && nat_le (least_blocks a.kind) (blocks_in a.runs)))) p.0 in
    let r = and_parts (is_name a.label) (are_spans a.runs && (list_all (is_data size) a.runs && nat_le (least_blocks a.kind) (blocks_in a.runs))) q.1 in
    let s = and_parts (are_spans a.runs) (list_all (is_data size) a.runs && nat_le (least_blocks a.kind) (blocks_in a.runs)) r.1 in
    record {
      index_low = low;
      index_high = high;
      data_part = λ n has. data_had size a.runs n (and_parts (list_all (is_data size) a.runs) (nat_le (least_blocks a.kind) (blocks_in a.runs)) s.1).0 (has_contained a.runs n has);
      distinct = distinct_blocks a.runs s.0;
    }

-- the slots below i
abbrev Stand : ℕ → ℕ → Result (List HeldSlot) ℕ → Type 0
Stand size i (Ok held) = SlotsFit size (map slot held) × SlotsApart (map slot held) × AllBelow i held
Stand size i (Err bad) = Unit {0}

area_stands : (size i : ℕ) (held : List HeldSlot) (a : Area) (b : Bool) → SlotFits size (slot_at i a) → goes_with held a ≡ b → Stand size i (Ok held) → Stand size (i + 1) (with_area held i a b)
area_stands size i held a false fits is h = tt
area_stands size i held a true fits is h =
    let x : HeldSlot = record { index = i; area = a } in
    let more : map slot (held ++ x ∷ []) ≡ map slot held ++ slot x ∷ [] = map-append slot held (x ∷ []) in
    let goes = (and_parts (list_all (λ y. share_no_block a.runs y.area.runs && not (is_same a y.area)) held) (nat_le (areas_with a.app held + 1) 8) is).0 in (
      subst (SlotsFit size) (sym more) (fit_more size (map slot held) (slot x) h.0 fits),
      subst SlotsApart (sym more) (apart_more (map slot held) (slot x) h.1 (no_index i held h.2) (λ n e. goes_apart held a n goes (of_has (blocks_of a.runs) n e))),
      below_more (i + 1) held x (below_next i held h.2) (omega arith),
    )

used_stands : (size i : ℕ) (held : List HeldSlot) (content : List ℕ) (b : Bool) → is_used size content ≡ b → 1 ≤ i → i ≤ max_slots → Stand size i (Ok held) → Stand size (i + 1) (with_used held i content b)
used_stands size i held content false is low high h = tt
used_stands size i held content true is low high h = area_stands size i held (area_in content) (goes_with held (area_in content)) (used_fits size i content is low high) refl h

block_stands : (size i : ℕ) (held : List HeldSlot) (content : List ℕ) (b : Bool) → 1 ≤ i → i ≤ max_slots → Stand size i (Ok held) → Stand size (i + 1) (with_block size held i content b)
block_stands size i held content true low high h = (h.0, h.1, below_next i held h.2)
block_stands size i held content false low high h = used_stands size i held content (is_used size content) refl low high h

then_stands : (size i : ℕ) (x : Result (List HeldSlot) ℕ) (content : List ℕ) → 1 ≤ i → i ≤ max_slots → Stand size i x → Stand size (i + 1) (and_then size x i content)
then_stands size i (Err bad) content low high h = tt
then_stands size i (Ok held) content low high h = block_stands size i held content (is_free content) low high h

abbrev Apart : ℕ → Result (List HeldSlot) ℕ → Type 0
Apart size (Ok held) = SlotsFit size (map slot held) × SlotsApart (map slot held)
Apart size (Err bad) = Unit {0}

stands_apart : (size i : ℕ) (x : Result (List HeldSlot) ℕ) → Stand size i x → Apart size x
stands_apart size i (Ok held) h = (h.0, h.1)
stands_apart size i (Err bad) h = tt

after_apart : (size : ℕ) (x : Result (List HeldSlot) ℕ) (i : ℕ) (blocks : List (List ℕ)) → 1 ≤ i → i + length blocks ≤ max_slots + 1 → Stand size i x → Apart size (held_after size x i blocks)
after_apart size x i [] low few h = stands_apart size i x h
after_apart size x i (content ∷ blocks) low few h =
    after_apart size (and_then size x i content) (i + 1) blocks (omega arith) (omega (arith, few)) (then_stands size i x content low (omega (arith, few)) h)

held_apart : (image : List (List ℕ)) (b : Bool) → Apart (length image) (held_if b image)
held_apart image true =
    after_apart (length image) (Ok []) 1 (take slot_count (drop 1 image)) (omega arith) (let few = length-take slot_count (drop 1 image) in omega (arith, few)) (tt, tt, tt)
held_apart image false = tt

pub stored_apart : (image : List (List ℕ)) (slots : List Slot) → slots_of image ≡ Ok slots → GrantsApart (start_system image slots).plane
stored_apart image slots h = by (held_of image) (held_apart image (is_device image)) h
  where
    same : (xs ys : List Slot) → ◌≡◌ {A = Result (List Slot) ℕ} (Ok xs) (Ok ys) → xs ≡ ys
    same xs ys e = cc

    by : (x : Result (List HeldSlot) ℕ) → Apart (length image) x → as_slots x ≡ Ok slots → GrantsApart (start_system image slots).plane
    by (Ok held) so e = let is : map slot held ≡ slots = same (map slot held) slots e in record { fit = subst (SlotsFit (length image)) is so.0; apart = subst SlotsApart is so.1 }
    by (Err bad) so e = absurd cc
