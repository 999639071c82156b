-- The walk over the slots' blocks, and the table that it reads.
use Rattle.std.proofs.Common.{◌≡◌, ℕ, ◌+◌, ◌^◌, ◌<◌, List, [], ◌∷◌, ◌++◌, Bool, true, false, ◌&&◌, map, Option, Some, None, Ok, Err, refl, sym, ◌∙◌, ap, append_assoc, append-nil}
use Rattle.std.specs.Prelude.{Result, bytes_eq, is_ok}
use Rattle.std.proofs.lemmas.Bool.{and_parts, false≢true}
use Rattle.std.proofs.lemmas.Slice.Eq.{bytes_eq-Decides}
use Rattle.ark_table.specs.Area.{Area, area_in, area_bytes, is_area, is_free, is_used}
use Rattle.ark_table.specs.Slots.{Slot, slot_at, HeldSlot, goes_with, with_area, with_used, with_block, held_after}
use Rattle.ark_table.specs.Table.{IsSlotBlock, held_in, slots_in}
use Rattle.ark_table.proofs.Spelling.{spelled_is_read}

abbrev Table : Type 0
Table = List (Option Area)

-- each block says its place of the table
abbrev pub EachSays : ℕ → List (List ℕ) → List (Option Area) → Type 0
EachSays size [] [] = Unit {0}
EachSays size [] (x ∷ t) = ⊥
EachSays size (b ∷ bs) [] = ⊥
EachSays size (b ∷ bs) (x ∷ t) = IsSlotBlock size b x × EachSays size bs t

-- each area goes with those before it
abbrev pub GoIn : List HeldSlot → ℕ → List (Option Area) → Type 0
GoIn before i [] = Unit {0}
GoIn before i (None ∷ t) = GoIn before (i + 1) t
GoIn before i (Some a ∷ t) = (goes_with before a ≡ true) × GoIn (before ++ record { index = i; area = a } ∷ []) (i + 1) t

pub stays_bad : (size bad i : ℕ) (blocks : List (List ℕ)) → held_after size (Err bad) i blocks ≡ Err bad
stays_bad size bad i [] = refl
stays_bad size bad i (b ∷ bs) = stays_bad size bad (i + 1) bs

-- what a walk that ended well has read
abbrev pub Read : ℕ → List HeldSlot → ℕ → List (List ℕ) → List HeldSlot → Type 0
Read size before i blocks result = (t : List (Option Area)) × EachSays size blocks t × GoIn before i t × (result ≡ before ++ held_in i t)

abbrev held_or : Result (List HeldSlot) ℕ → List HeldSlot → List HeldSlot
held_or (Ok held) other = held
held_or (Err bad) other = other

module _ (size : ℕ) where
  never : {P : Type 0} (bad i : ℕ) (blocks : List (List ℕ)) (result : List HeldSlot) → held_after size (Err bad) i blocks ≡ Ok result → P
  never bad i blocks result e = absurd (false≢true (ap is_ok (sym (stays_bad size bad i blocks) ∙ e)))

  -- one block, and the rest
  one_read : (b : List ℕ) (bs : List (List ℕ)) (before : List HeldSlot) (i : ℕ) (result : List HeldSlot)
      → ((front : List HeldSlot) → held_after size (Ok front) (i + 1) bs ≡ Ok result → Read size front (i + 1) bs result)
      → held_after size (Ok before) i (b ∷ bs) ≡ Ok result → Read size before i (b ∷ bs) result
  one_read b bs before i result rest e = free (is_free b) refl e
    where
      goes : is_used size b ≡ true → (g : Bool) → goes_with before (area_in b) ≡ g → held_after size (with_area before i (area_in b) g) (i + 1) bs ≡ Ok result → Read size before i (b ∷ bs) result
      goes is_so false is e = never i (i + 1) bs result e
      goes is_so true is e =
          let parts = and_parts (is_area size (area_in b)) (bytes_eq b (area_bytes (area_in b))) is_so in
          let r = rest (before ++ record { index = i; area = area_in b } ∷ []) e in (
            Some (area_in b) ∷ r.0,
            ((parts.0, (bytes_eq-Decides b (area_bytes (area_in b))).0 parts.1), r.1),
            (is, r.2),
            r.3 ∙ append_assoc before (record { index = i; area = area_in b } ∷ []) (held_in (i + 1) r.0),
          )

      used : (u : Bool) → is_used size b ≡ u → held_after size (with_used before i b u) (i + 1) bs ≡ Ok result → Read size before i (b ∷ bs) result
      used false is e = never i (i + 1) bs result e
      used true is e = goes is (goes_with before (area_in b)) refl e

      free : (f : Bool) → is_free b ≡ f → held_after size (with_block size before i b f) (i + 1) bs ≡ Ok result → Read size before i (b ∷ bs) result
      free true is e = let r = rest before e in (None ∷ r.0, (is, r.1), r.2, r.3)
      free false is e = used (is_used size b) refl e

  pub walk_read : (blocks : List (List ℕ)) (before : List HeldSlot) (i : ℕ) (result : List HeldSlot) → held_after size (Ok before) i blocks ≡ Ok result → Read size before i blocks result
  walk_read [] before i result e = ([], tt, tt, sym (ap (λ (r : Result (List HeldSlot) ℕ). held_or r result) e) ∙ sym (append-nil before))
  walk_read (b ∷ bs) before i result e = one_read b bs before i result (λ front. walk_read bs front (i + 1) result) e

  -- a table that each block says, and whose areas go together, is read
  module _ (few : size < 2 ^ 32) where
    pub says_used : (b : List ℕ) (a : Area) → IsSlotBlock size b (Some a) → (is_free b ≡ false) × (is_used size b ≡ true) × (area_in b ≡ a)
    says_used b a says =
        let read : area_in b ≡ a = ap area_in says.1 ∙ spelled_is_read size a few says.0 in (
          ap is_free says.1,
          (λ i. is_area size (read i) && bytes_eq b (area_bytes (read i))) ∙ (λ i. says.0 i && (bytes_eq-Decides b (area_bytes a)).1 says.1 i),
          read,
        )

    pub read_walk : (blocks : List (List ℕ)) (t : List (Option Area)) (before : List HeldSlot) (i : ℕ) → EachSays size blocks t → GoIn before i t → held_after size (Ok before) i blocks ≡ Ok (before ++ held_in i t)
    read_walk [] [] before i says go = ap (λ (l : List HeldSlot). Ok l) (sym (append-nil before))
    read_walk [] (x ∷ t) before i says go = absurd says
    read_walk (b ∷ bs) [] before i says go = absurd says
    read_walk (b ∷ bs) (None ∷ t) before i says go = ap (λ f. held_after size (with_block size before i b f) (i + 1) bs) says.0 ∙ read_walk bs t before (i + 1) says.1 go
    read_walk (b ∷ bs) (Some a ∷ t) before i says go =
        let used = says_used b a says.0 in
        ap (λ f. held_after size (with_block size before i b f) (i + 1) bs) used.0
        ∙ ap (λ u. held_after size (with_used before i b u) (i + 1) bs) used.1
        ∙ ap (λ (c : Area). held_after size (with_area before i c (goes_with before c)) (i + 1) bs) used.2
        ∙ ap (λ g. held_after size (with_area before i a g) (i + 1) bs) go.0
        ∙ read_walk bs t (before ++ record { index = i; area = a } ∷ []) (i + 1) says.1 go.1
        ∙ ap (λ (l : List HeldSlot). Ok l) (append_assoc before (record { index = i; area = a } ∷ []) (held_in (i + 1) t))

pub slots_of_held : (i : ℕ) (t : List (Option Area)) → map (λ h. slot_at h.index h.area) (held_in i t) ≡ slots_in i t
slots_of_held i [] = refl
slots_of_held i (None ∷ t) = slots_of_held (i + 1) t
slots_of_held i (Some a ∷ t) = ap (λ (l : List Slot). slot_at i a ∷ l) (slots_of_held (i + 1) t)
