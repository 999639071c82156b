-- A front of a table, as it is read block by block.
use Rattle.std.proofs.Common.{◌≡◌, inl, inr, ℕ, zero, suc, ◌+◌, ◌<◌, ◌≤◌, List, [], ◌∷◌, ◌++◌, Bool, true, false, ◌&&◌, length, get_or, take, drop, Option, Some, None, Ok, Err, refl, sym, ◌∙◌, ap, subst, arith, append_assoc, append-nil, length-drop, length-append, drop-cons}
use Rattle.std.specs.Prelude.{bytes_eq, nat_le, Result}
use Rattle.std.proofs.lemmas.Bool.{and_parts, leb-true, le-leb}
use Rattle.std.proofs.lemmas.List.{take_more, get_or-drop, get_or-take, length-take-le, take-append-drop, length-map, map-append}
use Rattle.std.proofs.lemmas.List.Elements.{All-append, All-cons, All-nil}
use Rattle.std.proofs.lemmas.Slice.Eq.{bytes_eq-Decides}
use Rattle.ark_media.specs.Journal.{Event, Read, History, block, current, onto}
use Rattle.ark_media.specs.Calls.{Reads, Makes, Adds, Told, Tells, Went}
use Rattle.ark_media.proofs.Stopping.{length-current}
use Rattle.ark_table.specs.declared.fault.LoadFault.{LoadFault}
use Rattle.ark_table.specs.declared.fault.LoadFault.TheVariants.{DeviceFault, Damaged, Memory}
use Rattle.ark_table.specs.declared.slot.Slot.{Slot}
use Rattle.ark_table.specs.Stated.{stated_if, areas}
use Rattle.ark_table.specs.Superblock.{superblock}
use Rattle.ark_table.specs.Area.{Area, area_in, area_bytes, is_area, is_used}
use Rattle.ark_table.specs.Slots.{HeldSlot, goes_with, with_area, with_used, with_block, and_then, held_after, held_if, as_slots, slots_of, is_device}
use Rattle.ark_table.specs.Table.{IsSlotBlock, HasTable, held_in}
use Rattle.ark_table.specs.Loading.{Follows, IsBad, IsRightIf, AreRight}
use Rattle.ark_table.proofs.Walking.{EachSays, GoIn, read_walk, stays_bad}
use Rattle.ark_table.proofs.Tables.{big, few, table_from}

-- the block is the spelling of the area that is read of it
pub says_read : (size : ℕ) (content : List ℕ) (a : Area) → is_used size content ≡ true → a ≡ area_in content → IsSlotBlock size content (Some a)
says_read size content a used is =
    let p = and_parts (is_area size (area_in content)) (bytes_eq content (area_bytes (area_in content))) used in
    (subst (λ (x : Area). is_area size x ≡ true) (sym is) p.0, (bytes_eq-Decides content (area_bytes (area_in content))).0 p.1 ∙ ap area_bytes (sym is))

-- whether block 0 is the superblock of the device's size
pub device_of : (image : List (List ℕ)) (size : ℕ) (content super : List ℕ) → 130 ≤ size → size ≤ 1048576 → length image ≡ size → content ≡ block image 0 → super ≡ superblock size → bytes_eq content super ≡ is_device image
device_of image size content super low high long is right =
    (λ i. bytes_eq (is i) ((right ∙ ap superblock (sym long)) i))
    ∙ sym (λ i. le-leb 130 (length image) (omega (arith, low, long)) i && (le-leb (length image) 1048576 (omega (arith, high, long)) i && bytes_eq (block image 0) (superblock (length image))))

-- an image whose first slots say this
pub record IsFront (image : List (List ℕ)) (t : List (Option Area)) : Type 0 where
  pub device : is_device image ≡ true
  pub each : EachSays (length image) (take (length t) (drop 1 image)) t
  pub go : GoIn [] 1 t

each_push : (size : ℕ) (blocks : List (List ℕ)) (t : List (Option Area)) (b : List ℕ) (x : Option Area) → EachSays size blocks t → IsSlotBlock size b x → EachSays size (blocks ++ b ∷ []) (t ++ x ∷ [])
each_push size [] [] b x each says = (says, tt)
each_push size [] (y ∷ t) b x each says = absurd each
each_push size (c ∷ bs) [] b x each says = absurd each
each_push size (c ∷ bs) (y ∷ t) b x each says = (each.0, each_push size bs t b x each.1 says)

go_none : (before : List HeldSlot) (i : ℕ) (t : List (Option Area)) → GoIn before i t → GoIn before i (t ++ None ∷ [])
go_none before i [] go = go
go_none before i (None ∷ t) go = go_none before (i + 1) t go
go_none before i (Some a ∷ t) go = (go.0, go_none (before ++ record { index = i; area = a } ∷ []) (i + 1) t go.1)

go_some : (before : List HeldSlot) (i : ℕ) (t : List (Option Area)) (a : Area) → GoIn before i t → goes_with (before ++ held_in i t) a ≡ true → GoIn before i (t ++ Some a ∷ [])
go_some before i [] a go goes = (subst (λ (l : List HeldSlot). goes_with l a ≡ true) (append-nil before) goes, tt)
go_some before i (None ∷ t) a go goes = go_some before (i + 1) t a go goes
go_some before i (Some c ∷ t) a go goes = (
  go.0,
  go_some (before ++ record { index = i; area = c } ∷ []) (i + 1) t a go.1
      (subst (λ (l : List HeldSlot). goes_with l a ≡ true) (sym (append_assoc before (record { index = i; area = c } ∷ []) (held_in (i + 1) t))) goes),
)

-- the block of the slot behind a front
next_block : (image : List (List ℕ)) (k : ℕ) → get_or (drop 1 image) k [] ≡ block image (k + 1)
next_block image k = let e : 1 + k ≡ k + 1 = omega arith in get_or-drop 1 image k [] ∙ ap (block image) e

pub none_read : (image : List (List ℕ)) → is_device image ≡ true → IsFront image []
none_read image device = record { device = device; each = tt; go = tt }

pub front_more : (image : List (List ℕ)) (t : List (Option Area)) (x : Option Area) → length t < 128 → IsFront image t → Follows (length image) t (block image (length t + 1)) x → IsFront image (t ++ x ∷ [])
front_more image t x lt front follows = record {
  device = front.device;
  each = subst (λ (l : List (List ℕ)). EachSays (length image) l (t ++ x ∷ [])) (sym more) (each_push (length image) (take (length t) (drop 1 image)) t (block image (length t + 1)) x front.each (says x follows));
  go = go x follows;
}
  where
    says : (y : Option Area) → Follows (length image) t (block image (length t + 1)) y → IsSlotBlock (length image) (block image (length t + 1)) y
    says None h = h
    says (Some a) h = h.0

    go : (y : Option Area) → Follows (length image) t (block image (length t + 1)) y → GoIn [] 1 (t ++ y ∷ [])
    go None h = go_none [] 1 t front.go
    go (Some a) h = go_some [] 1 t a front.go h.1

    more : take (length (t ++ x ∷ [])) (drop 1 image) ≡ take (length t) (drop 1 image) ++ block image (length t + 1) ∷ []
    more = let e : length (t ++ x ∷ []) ≡ length t + 1 = length-append t (x ∷ []) in
        ap (λ k. take k (drop 1 image)) e ∙ take_more (drop 1 image) (length t) [] (omega (arith, lt, length-drop 1 image, big image front.device))
        ∙ ap (λ (b : List ℕ). take (length t) (drop 1 image) ++ b ∷ []) (next_block image (length t))

pub front_whole : (image : List (List ℕ)) (t : List (Option Area)) → length t ≡ 128 → IsFront image t → HasTable t image
front_whole image t whole front = table_from image t front.device (subst (λ k. EachSays (length image) (take k (drop 1 image)) t) whole front.each) front.go

held_append : (size : ℕ) (s : Result (List HeldSlot) ℕ) (i j : ℕ) (xs ys : List (List ℕ)) → i + length xs ≡ j → held_after size s i (xs ++ ys) ≡ held_after size (held_after size s i xs) j ys
held_append size s i j [] ys at = let e : i ≡ j = omega (arith, at) in ap (λ k. held_after size s k ys) e
held_append size s i j (x ∷ xs) ys at = held_append size (and_then size s i x) (i + 1) j xs ys (omega (arith, at))

bad_next : (size : ℕ) (t : List (Option Area)) (i : ℕ) (content : List ℕ) → IsBad size t content → and_then size (Ok (held_in 1 t)) i content ≡ Err i
bad_next size t i content bad = ap (λ f. with_block size (held_in 1 t) i content f) bad.0 ∙ by (is_used size content) refl
  where
    by : (u : Bool) → is_used size content ≡ u → with_used (held_in 1 t) i content u ≡ Err i
    by false is = refl
    by true is = ap (λ g. with_area (held_in 1 t) i (area_in content) g) (bad.1 is)

take_front : (k n : ℕ) (l : List (List ℕ)) → k ≤ n → take k (take n l) ≡ take k l
take_front zero n l le = refl
take_front (suc k) zero l le = absurd (omega (arith, le))
take_front (suc k) (suc n) [] le = refl
take_front (suc k) (suc n) (x ∷ l) le = ap (λ (t : List (List ℕ)). x ∷ t) (take_front k n l (omega (arith, le)))

pub front_bad : (image : List (List ℕ)) (t : List (Option Area)) (i : ℕ) → length t < 128 → length t + 1 ≡ i → IsFront image t → IsBad (length image) t (block image i) → slots_of image ≡ Err i
front_bad image t i lt at front bad =
    ap (λ d. as_slots (held_if d image)) front.device ∙ ap as_slots (ap (λ l. held_after size (Ok []) 1 l) split ∙ walk ∙ last)
  where
    size : ℕ
    size = length image

    blocks : List (List ℕ)
    blocks = take 128 (drop 1 image)

    first : List (List ℕ)
    first = take (length t) (drop 1 image)

    rest : List (List ℕ)
    rest = drop (suc (length t)) blocks

    enough : length t < length blocks
    enough = omega (arith, lt, length-take-le 128 (drop 1 image) (omega (arith, length-drop 1 image, big image front.device)))

    here : get_or blocks (length t) [] ≡ block image i
    here = get_or-take 128 (drop 1 image) (length t) [] lt ∙ next_block image (length t) ∙ ap (block image) at

    split : blocks ≡ first ++ block image i ∷ rest
    split =
        sym (take-append-drop (length t) blocks) ∙ ap (λ (l : List (List ℕ)). l ++ drop (length t) blocks) (take_front (length t) 128 (drop 1 image) (omega (arith, lt)))
        ∙ ap (λ (l : List (List ℕ)). first ++ l) (drop-cons blocks (length t) [] enough) ∙ ap (λ (b : List ℕ). first ++ b ∷ rest) here

    walk : held_after size (Ok []) 1 (first ++ block image i ∷ rest) ≡ held_after size (Ok (held_in 1 t)) i (block image i ∷ rest)
    walk = held_append size (Ok []) 1 i first (block image i ∷ rest) (omega (arith, at, length-take-le (length t) (drop 1 image) (omega (arith, lt, length-drop 1 image, big image front.device))))
        ∙ ap (λ (s : Result (List HeldSlot) ℕ). held_after size s i (block image i ∷ rest)) (read_walk size (few image front.device) first t [] 1 front.each front.go)

    last : held_after size (Ok (held_in 1 t)) i (block image i ∷ rest) ≡ Err i
    last = ap (λ (s : Result (List HeldSlot) ℕ). held_after size s (i + 1) rest) (bad_next size t i (block image i) bad) ∙ stays_bad size i (i + 1) rest

one_read : (n : ℕ) (ok : Bool) (e : Event) (es : List Event) (before after : Option History) → e ≡ Read n ok → es ≡ [] → Adds before after (e ∷ es) → (h : History) → after ≡ Some h
    → (g : History) × (before ≡ Some g) × (current h.base h.journal ≡ current g.base g.journal)
one_read n ok e es before after is none adds h told =
    let r = adds.told h told in (
      record { base = h.base; journal = r.0 },
      r.1,
      ap (λ (j : List Event). current h.base j) (r.2 ∙ (λ i. onto (none i) (is i ∷ r.0))),
    )

-- a read leaves the current image
pub read_before : (n : ℕ) (ok : Bool) (es : List Event) (before after : Option History) → Makes (Reads n ∷ []) ok es → Adds before after es → (h : History) → after ≡ Some h
    → (g : History) × (before ≡ Some g) × (current h.base h.journal ≡ current g.base g.journal)
read_before n ok [] before after makes adds h told = absurd makes
read_before n ok (e ∷ (f ∷ es)) before after (inl makes) adds h told = absurd makes.1
read_before n ok (e ∷ []) before after (inl makes) adds h told = one_read n true e [] before after makes.0 refl adds h told
read_before n ok (e ∷ es) before after (inr makes) adds h told = one_read n false e es before after makes.0 makes.2 adds h told

-- no table where the device has too few blocks or too many
pub not_device : (image : List (List ℕ)) → is_device image ≡ false → slots_of image ≡ Err 0
not_device image off = ap (λ d. as_slots (held_if d image)) off

pub too_small : (image : List (List ℕ)) → length image < 130 → is_device image ≡ false
too_small image lt = by (is_device image) refl
  where
    by : (d : Bool) → is_device image ≡ d → d ≡ false
    by false is = refl
    by true is = absurd (omega (arith, big image is, lt))

pub too_large : (image : List (List ℕ)) → 1048576 < length image → is_device image ≡ false
too_large image lt = by (is_device image) refl
  where
    by : (d : Bool) → is_device image ≡ d → d ≡ false
    by false is = refl
    by true is =
        let most : length image ≤ 1048576 = leb-true (length image) 1048576 (and_parts (nat_le (length image) 1048576) _ (and_parts (nat_le 130 (length image)) _ is).1).0 in
        absurd (omega (arith, most, lt))

-- one slot more of those that the code keeps
pub slot_more : (image : List (List ℕ)) (slots new : List (Option Slot)) (x : Option Slot) (i size : ℕ) → length slots + 1 ≡ i → i < 129 → new ≡ slots ++ x ∷ [] → length image ≡ size → IsFront image (areas slots)
    → Follows size (areas slots) (block image i) (stated_if x) → IsFront image (areas new)
slot_more image slots new x i size at lt is long front follows =
    let same : length (areas slots) ≡ length slots = length-map slots stated_if in
    let place : i ≡ length (areas slots) + 1 = omega (arith, at, same) in
    subst (λ (t : List (Option Area)). IsFront image t) (sym (ap areas is ∙ map-append stated_if slots (x ∷ [])))
    (front_more image (areas slots) (stated_if x) (omega (arith, at, lt, same)) front
    (subst (λ (n : ℕ). Follows n (areas slots) (block image (length (areas slots) + 1)) (stated_if x)) (sym long) (subst (λ (k : ℕ). Follows size (areas slots) (block image k) (stated_if x)) place follows)))

pub longer : (slots new : List (Option Slot)) (x : Option Slot) → new ≡ slots ++ x ∷ [] → length new ≡ length slots + 1
longer slots new x is = ap length is ∙ length-append slots (x ∷ [])

pub slot_bad : (image : List (List ℕ)) (slots : List (Option Slot)) (i size : ℕ) → length slots + 1 ≡ i → i < 129 → length image ≡ size → IsFront image (areas slots) → IsBad size (areas slots) (block image i) → slots_of image ≡ Err i
slot_bad image slots i size at lt long front bad =
    let same : length (areas slots) ≡ length slots = length-map slots stated_if in
    front_bad image (areas slots) i (omega (arith, at, lt, same)) (omega (arith, at, same)) front (subst (λ (n : ℕ). IsBad n (areas slots) (block image i)) (sym long) bad)

abbrev fault_or : {T : Type 0} → Result T LoadFault → LoadFault → LoadFault
fault_or (Ok x) other = other
fault_or (Err bad) other = bad

pub same_fault : {T : Type 0} (x y : LoadFault) → ◌≡◌ {A = Result T LoadFault} (Err x) (Err y) → x ≡ y
same_fault x y same = ap (λ r. fault_or r x) same

abbrev bad_or : LoadFault → ℕ
bad_or DeviceFault = 0
bad_or (Damaged bad) = bad
bad_or Memory = 0

pub same_bad : {T : Type 0} (x y : ℕ) → ◌≡◌ {A = Result T LoadFault} (Err (Damaged x)) (Err (Damaged y)) → x ≡ y
same_bad x y same = ap bad_or (same_fault (Damaged x) (Damaged y) same)

module _ {D : Type 0} (goes : D → List Event → D → Type 0) (told : D → Told) (tells : (a b : D) (es : List Event) → goes a es b → Tells es (told a) (told b))
    (size_is : (d : D) (h : History) → (told d).history ≡ Some h → length h.base ≡ (told d).blocks) where
  -- over a read a front is read as before
  pub still_front : (n : ℕ) (ok : Bool) (a b : D) (t : List (Option Area)) → Went goes (Reads n ∷ []) ok a b → ((g : History) → (told a).history ≡ Some g → IsFront (current g.base g.journal) t)
      → (h : History) → (told b).history ≡ Some h → IsFront (current h.base h.journal) t
  still_front n ok a b t went front h is =
      let r = read_before n ok went.events (told a).history (told b).history went.makes (tells a b went.events went.goes_on).adds h is in
      subst (λ (x : List (List ℕ)). IsFront x t) (sym r.2) (front r.0 r.1)

  pub read_size : (n : ℕ) (ok : Bool) (a b : D) → Went goes (Reads n ∷ []) ok a b → (h : History) → (told b).history ≡ Some h → length (current h.base h.journal) ≡ (told a).blocks
  read_size n ok a b went h is = length-current h.base h.journal ∙ size_is b h is ∙ (tells a b went.events went.goes_on).blocks

-- slots that keep the rules by themselves, with one more
pub right_more : (size : ℕ) (slots now : List (Option Slot)) (x : Option Slot) → now ≡ slots ++ x ∷ [] → IsRightIf size (stated_if x) → AreRight size (areas slots) → AreRight size (areas now)
right_more size slots now x is right all =
    subst (λ (l : List (Option Area)). AreRight size l) (sym (ap areas is ∙ map-append stated_if slots (x ∷ [])))
    (All-append (IsRightIf size) (areas slots) (stated_if x ∷ []) all (All-cons (IsRightIf size) (stated_if x) [] right (All-nil (IsRightIf size))))
