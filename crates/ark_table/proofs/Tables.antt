-- The slots that are read are those of the image's table.
use Rattle.std.proofs.Common.{◌≡◌, ◌⊎◌, inl, inr, ⊎_elim, ℕ, zero, suc, ◌+◌, ◌^◌, ◌<◌, ◌≤◌, List, [], ◌∷◌, Bool, true, false, ◌&&◌, length, get_or, set, take, drop, map, Option, Some, None, Ok, Err, refl, sym, ◌∙◌, ap, subst, arith}
use Rattle.std.specs.Prelude.{Result, count_by, bytes_eq, is_ok, is_some, nat_le}
use Rattle.std.proofs.lemmas.Bool.{and_parts, leb-true, cases_lt, cases_eq, cases_order, false≢true}
use Rattle.std.proofs.lemmas.List.{get_or-take, get_or-drop, get_or_past, get_or-set_same, get_or-set_other, length-take-le, length-drop, length-set}
use Rattle.ark_media.specs.Journal.{block}
use Rattle.ark_table.specs.Superblock.{superblock}
use Rattle.ark_table.specs.Area.{Area, is_area}
use Rattle.ark_table.specs.Slots.{Slot, slot_at, HeldSlot, is_device, held_after, held_if, as_slots, slots_of}
use Rattle.ark_table.specs.Table.{IsSlotBlock, Together, area_at, is_of, HasTable, HasSlots, slots_in}
use Rattle.ark_table.proofs.Gathering.{turned}
use Rattle.ark_table.proofs.Walking.{EachSays, GoIn, walk_read, read_walk, slots_of_held}
use Rattle.ark_table.proofs.Pairing.{go_pairs, go_few, joins_go}

-- each block says its place of the table, by places
each_from : (size : ℕ) (blocks : List (List ℕ)) (t : List (Option Area)) → length t ≡ length blocks → ((i : ℕ) → i < length blocks → IsSlotBlock size (get_or blocks i []) (get_or t i None)) → EachSays size blocks t
each_from size [] [] long says = tt
each_from size [] (x ∷ t) long says = absurd (omega (arith, long))
each_from size (b ∷ bs) [] long says = absurd (omega (arith, long))
each_from size (b ∷ bs) (x ∷ t) long says = (says 0 (omega arith), each_from size bs t (omega (arith, long)) (λ i lt. says (suc i) (omega (arith, lt))))

first_and : (size : ℕ) (b : List ℕ) (bs : List (List ℕ)) (x : Option Area) (t : List (Option Area)) → IsSlotBlock size b x → ((i : ℕ) → i < length bs → IsSlotBlock size (get_or bs i []) (get_or t i None))
    → (i : ℕ) → i < length (b ∷ bs) → IsSlotBlock size (get_or (b ∷ bs) i []) (get_or (x ∷ t) i None)
first_and size b bs x t here rest zero lt = here
first_and size b bs x t here rest (suc i) lt = rest i (omega (arith, lt))

each_to : (size : ℕ) (blocks : List (List ℕ)) (t : List (Option Area)) → EachSays size blocks t → (length t ≡ length blocks) × ((i : ℕ) → i < length blocks → IsSlotBlock size (get_or blocks i []) (get_or t i None))
each_to size [] [] says = (refl, λ i lt. absurd (omega (arith, lt)))
each_to size [] (x ∷ t) says = absurd says
each_to size (b ∷ bs) [] says = absurd says
each_to size (b ∷ bs) (x ∷ t) says =
    let rest = each_to size bs t says.1 in
    (ap suc rest.0, first_and size b bs x t says.0 rest.1)

module _ (image : List (List ℕ)) (device : is_device image ≡ true) where
  pub big : 130 ≤ length image
  big = leb-true 130 (length image) (and_parts (nat_le 130 (length image)) _ device).0

  pub few : length image < 2 ^ 32
  few =
      let small : length image ≤ 1048576 = leb-true (length image) 1048576 (and_parts (nat_le (length image) 1048576) _ (and_parts (nat_le 130 (length image)) _ device).1).0 in
      omega (arith, small)

  slot_blocks : length (take 128 (drop 1 image)) ≡ 128
  slot_blocks = length-take-le 128 (drop 1 image) (omega (arith, length-drop 1 image, big))

  slot_block : (i : ℕ) → i < 128 → get_or (take 128 (drop 1 image)) i [] ≡ block image (i + 1)
  slot_block i lt = let e : 1 + i ≡ i + 1 = omega arith in get_or-take 128 (drop 1 image) i [] lt ∙ get_or-drop 1 image i [] ∙ ap (block image) e

inside : (t : List (Option Area)) (k : ℕ) (a : Area) → get_or t k None ≡ Some a → k < length t
inside t k a is = elim (cases_lt k (length t)) [
  | inl lt ↦ lt
  | inr past ↦ absurd (false≢true (ap is_some (sym (get_or_past t k None past) ∙ is)))
]

pub table_is_read : (table : List (Option Area)) (image : List (List ℕ)) → HasTable table image → slots_of image ≡ Ok (slots_in 1 table)
table_is_read table image has =
    ap (λ d. as_slots (held_if d image)) has.device
    ∙ ap as_slots (read_walk (length image) (few image has.device) (take 128 (drop 1 image)) table [] 1 says go)
    ∙ ap (λ (l : List Slot). Ok l) (slots_of_held 1 table)
  where
    long : length table ≡ length (take 128 (drop 1 image))
    long = has.size ∙ sym (slot_blocks image has.device)

    says : EachSays (length image) (take 128 (drop 1 image)) table
    says = each_from (length image) (take 128 (drop 1 image)) table long (λ i lt.
        let low : i < 128 = omega (arith, lt, slot_blocks image has.device) in
        subst (λ (b : List ℕ). IsSlotBlock (length image) b (get_or table i None)) (sym (slot_block image has.device i low)) (has.says i low))

    kept : (k : ℕ) (a : Area) → get_or table k None ≡ Some a → (is_area (length image) a ≡ true) × Unit {0}
    kept k a is =
        let low : k < 128 = omega (arith, inside table k a is, has.size) in
        ((subst (λ (o : Option Area). IsSlotBlock (length image) (block image (k + 1)) o) is (has.says k low)).0, tt)

    go : GoIn [] 1 table
    go = joins_go (length image) table [] 1 tt (record {
      kept = kept;
      pairs = λ k l a b lt is_a is_b. has.together l k b a (λ same. omega (arith, same, lt)) is_b is_a;
      few = λ app. omega (arith, has.few app);
    })

-- a table that an image's blocks say, and of which each area goes with those before it
pub table_from : (image : List (List ℕ)) (table : List (Option Area)) → is_device image ≡ true → EachSays (length image) (take 128 (drop 1 image)) table → GoIn [] 1 table → HasTable table image
table_from image table device each go =
    let all = each_to (length image) (take 128 (drop 1 image)) table each in
    record {
      device = device;
      size = all.0 ∙ slot_blocks image device;
      says = λ i lt. subst (λ (b : List ℕ). IsSlotBlock (length image) b (get_or table i None)) (slot_block image device i lt) (all.1 i (omega (arith, lt, slot_blocks image device)));
      together = λ i k a b ne is_a is_b. ⊎_elim (λ same. absurd (ne same)) (λ apart. ⊎_elim
          (λ lt. turned b a (go_pairs table [] 1 go i k a b lt is_a is_b))
          (λ lt. go_pairs table [] 1 go k i b a lt is_b is_a) apart) (cases_order i k);
      few = λ app. let most : 0 + count_by (is_of app) table ≤ 8 = go_few app table [] 1 go (omega arith) in omega (arith, most);
    }

abbrev slots_or : Result (List Slot) ℕ → List Slot → List Slot
slots_or (Ok slots) other = slots
slots_or (Err bad) other = other

pub read_has_table : (image : List (List ℕ)) (slots : List Slot) → slots_of image ≡ Ok slots → HasSlots image slots
read_has_table image slots e = by_device (is_device image) refl e
  where
    by_held : is_device image ≡ true → (r : Result (List HeldSlot) ℕ) → held_after (length image) (Ok []) 1 (take 128 (drop 1 image)) ≡ r → as_slots r ≡ Ok slots → HasSlots image slots
    by_held device (Err bad) is e = absurd (false≢true (ap is_ok e))
    by_held device (Ok held) is e =
        let read = walk_read (length image) (take 128 (drop 1 image)) [] 1 held is in (
          read.0,
          table_from image read.0 device read.1 read.2,
          sym (ap (λ (x : Result (List Slot) ℕ). slots_or x slots) e) ∙ ap (λ (l : List HeldSlot). map (λ h. slot_at h.index h.area) l) read.3 ∙ slots_of_held 1 read.0,
        )

    by_device : (d : Bool) → is_device image ≡ d → as_slots (held_if d image) ≡ Ok slots → HasSlots image slots
    by_device false is e = absurd (false≢true (ap is_ok e))
    by_device true is e = by_held is (held_after (length image) (Ok []) 1 (take 128 (drop 1 image))) refl e

-- an image with the same first 129 blocks, and as many in all, has the same table
pub same_table : (table : List (Option Area)) (image other : List (List ℕ)) → HasTable table image → length other ≡ length image → ((n : ℕ) → n < 129 → block other n ≡ block image n) → HasTable table other
same_table table image other has long same = record {
  device = (λ i. nat_le 130 (long i) && (nat_le (long i) 1048576 && bytes_eq (same 0 (omega arith) i) (superblock (long i)))) ∙ has.device;
  size = has.size;
  says = λ i lt. subst (λ (n : ℕ). IsSlotBlock n (block other (i + 1)) (area_at table i)) (sym long) (subst (λ (b : List ℕ). IsSlotBlock (length image) b (area_at table i)) (sym (same (i + 1) (omega (arith, lt)))) (has.says i lt));
  together = has.together;
  few = has.few;
}

-- One slot's block is changed to what says another place of the table, which goes with all others.
pub changed_table : (table : List (Option Area)) (image : List (List ℕ)) (i : ℕ) (content : List ℕ) (new : Option Area) → HasTable table image → i < 128 → IsSlotBlock (length image) content new
    → ((k : ℕ) (a b : Area) → (k ≡ i → ⊥) → new ≡ Some a → area_at table k ≡ Some b → Together a b) → ((app : List ℕ) → count_by (is_of app) (set table i new) ≤ 8) → HasTable (set table i new) (set image (i + 1) content)
changed_table table image i content new has low says goes few_apps = record {
  device = (λ j. nat_le 130 (long j) && (nat_le (long j) 1048576 && bytes_eq (first j) (superblock (long j)))) ∙ has.device;
  size = length-set table i new ∙ has.size;
  says = λ k lt. subst (λ (n : ℕ). IsSlotBlock n (block (set image (i + 1) content) (k + 1)) (area_at (set table i new) k)) (sym long) (place k lt (cases_eq k i));
  together = λ k l a b ne is_a is_b. pair k l a b ne is_a is_b (cases_eq k i) (cases_eq l i);
  few = few_apps;
}
  where
    long : length (set image (i + 1) content) ≡ length image
    long = length-set image (i + 1) content

    first : block (set image (i + 1) content) 0 ≡ block image 0
    first = get_or-set_other image (i + 1) 0 content [] (λ e. omega (arith, e))

    here : area_at (set table i new) i ≡ new
    here = get_or-set_same table i new None (omega (arith, low, has.size))

    there : (k : ℕ) → (k ≡ i → ⊥) → area_at (set table i new) k ≡ area_at table k
    there k ne = get_or-set_other table i k new None ne

    place : (k : ℕ) → k < 128 → (k ≡ i) ⊎ (k ≡ i → ⊥) → IsSlotBlock (length image) (block (set image (i + 1) content) (k + 1)) (area_at (set table i new) k)
    place k lt (inl same) = subst (λ (m : ℕ). IsSlotBlock (length image) (block (set image (i + 1) content) (m + 1)) (area_at (set table i new) m)) (sym same)
        (subst (λ (o : Option Area). IsSlotBlock (length image) (block (set image (i + 1) content) (i + 1)) o) (sym here)
        (subst (λ (b : List ℕ). IsSlotBlock (length image) b new) (sym (get_or-set_same image (i + 1) content [] (omega (arith, low, big image has.device)))) says))
    place k lt (inr ne) = subst (λ (o : Option Area). IsSlotBlock (length image) (block (set image (i + 1) content) (k + 1)) o) (sym (there k ne))
        (subst (λ (b : List ℕ). IsSlotBlock (length image) b (area_at table k)) (sym (get_or-set_other image (i + 1) (k + 1) content [] (λ e. ne (omega (arith, e))))) (has.says k lt))

    pair : (k l : ℕ) (a b : Area) → (k ≡ l → ⊥) → area_at (set table i new) k ≡ Some a → area_at (set table i new) l ≡ Some b → (k ≡ i) ⊎ (k ≡ i → ⊥) → (l ≡ i) ⊎ (l ≡ i → ⊥) → Together a b
    pair k l a b ne is_a is_b (inl k_is) (inl l_is) = absurd (ne (k_is ∙ sym l_is))
    pair k l a b ne is_a is_b (inl k_is) (inr l_not) = goes l a b l_not (sym here ∙ ap (area_at (set table i new)) (sym k_is) ∙ is_a) (sym (there l l_not) ∙ is_b)
    pair k l a b ne is_a is_b (inr k_not) (inl l_is) = turned b a (goes k b a k_not (sym here ∙ ap (area_at (set table i new)) (sym l_is) ∙ is_b) (sym (there k k_not) ∙ is_a))
    pair k l a b ne is_a is_b (inr k_not) (inr l_not) = has.together k l a b ne (sym (there k k_not) ∙ is_a) (sym (there l l_not) ∙ is_b)
