-- At the start of a run on a stored device no label stands twice: no two slots of an application have one.
use Rattle.std.proofs.Common.{◌≡◌, ℕ, ◌+◌, Bool, true, false, not, ◌&&◌, List, [], ◌∷◌, ◌++◌, map, length, refl, sym, ◌∙◌, ap, subst, arith, cond}
use Rattle.std.proofs.lemmas.Bool.{false≢true, and_parts}
use Rattle.std.proofs.lemmas.List.{map-append}
use Rattle.std.proofs.lemmas.List.Folds.{find-append}
use Rattle.std.specs.Prelude.{Option, Some, None, option_map, find, unwrap_or, Result, Ok, Err, bytes_eq, nat_le, take, drop}
use Rattle.std.specs.Option.{option_or}
use Rattle.std.specs.List.{AllByRecursion, list_all}
use Rattle.ark_table.specs.Superblock.{slot_count}
use Rattle.ark_table.specs.Area.{Area, area_in, is_free, is_used}
use Rattle.ark_table.specs.Slots.{Slot, slot_at, HeldSlot, share_no_block, is_same, areas_with, goes_with, with_area, with_used, with_block, and_then, held_after, is_device, held_if, held_of, as_slots, slots_of}
use Rattle.ark_machine.specs.Machine.{Machine, unmade, at}
use Rattle.ark_machine.specs.Machine as machine
use Rattle.ark_machine.specs.System.{fresh_system, listed_machine, machine_of}
use Rattle.ark_machine.specs.Start.{contents_at, stored_area, with_slot, with_stored, all_stored, start_system}
use Rattle.ark_machine.specs.Labels.{AreLabelled}
use Rattle.ark_laws.proofs.Labelled.{held_at, new_once}
use Rattle.ark_laws.proofs.Listed.{same_bytes}

abbrev slot : HeldSlot → Slot
slot h = slot_at h.index h.area

-- two slots are of one application and under one label
abbrev names_as : Slot → Slot → Bool
names_as t s = bytes_eq t.app s.app && bytes_eq t.label s.label

-- none that comes later names the same
abbrev NamedOnce : List Slot → Type 0
NamedOnce [] = Unit {0}
NamedOnce (s ∷ ss) = AllByRecursion (λ t. names_as t s ≡ false) ss × NamedOnce ss

-- The slots of an image.

all_more : (P : Slot → Type 0) (ss : List Slot) (t : Slot) → AllByRecursion P ss → P t → AllByRecursion P (ss ++ t ∷ [])
all_more P [] t h k = (k, tt)
all_more P (s ∷ ss) t h k = (h.0, all_more P ss t h.1 k)

not_so : (b : Bool) → not b ≡ true → b ≡ false
not_so true h = absurd (false≢true h)
not_so false h = refl

named_more : (held : List HeldSlot) (x : HeldSlot) → NamedOnce (map slot held) → list_all (λ h. share_no_block x.area.runs h.area.runs && not (is_same x.area h.area)) held ≡ true → NamedOnce (map slot held ++ slot x ∷ [])
named_more [] x h goes = (tt, tt)
named_more (y ∷ ys) x h goes =
    let p = and_parts (share_no_block x.area.runs y.area.runs && not (is_same x.area y.area)) (list_all (λ z. share_no_block x.area.runs z.area.runs && not (is_same x.area z.area)) ys) goes in
    let q = and_parts (share_no_block x.area.runs y.area.runs) (not (is_same x.area y.area)) p.0 in
    (all_more (λ t. names_as t (slot y) ≡ false) (map slot ys) (slot x) h.0 (not_so (is_same x.area y.area) q.1), named_more ys x h.1 p.1)

abbrev Named : Result (List HeldSlot) ℕ → Type 0
Named (Ok held) = NamedOnce (map slot held)
Named (Err bad) = Unit {0}

area_named : (i : ℕ) (held : List HeldSlot) (a : Area) (b : Bool) → goes_with held a ≡ b → NamedOnce (map slot held) → Named (with_area held i a b)
area_named i held a false is h = tt
area_named i held a true is h =
    let x : HeldSlot = record { index = i; area = a } in
    subst NamedOnce (sym (map-append slot held (x ∷ []))) (named_more held x h (and_parts (list_all (λ y. share_no_block a.runs y.area.runs && not (is_same a y.area)) held) (nat_le (areas_with a.app held + 1) 8) is).0)

used_named : (i : ℕ) (held : List HeldSlot) (content : List ℕ) (b : Bool) → NamedOnce (map slot held) → Named (with_used held i content b)
used_named i held content false h = tt
used_named i held content true h = area_named i held (area_in content) (goes_with held (area_in content)) refl h

block_named : (size i : ℕ) (held : List HeldSlot) (content : List ℕ) (b : Bool) → NamedOnce (map slot held) → Named (with_block size held i content b)
block_named size i held content true h = h
block_named size i held content false h = used_named i held content (is_used size content) h

then_named : (size i : ℕ) (x : Result (List HeldSlot) ℕ) (content : List ℕ) → Named x → Named (and_then size x i content)
then_named size i (Err bad) content h = tt
then_named size i (Ok held) content h = block_named size i held content (is_free content) h

after_named : (size : ℕ) (x : Result (List HeldSlot) ℕ) (i : ℕ) (blocks : List (List ℕ)) → Named x → Named (held_after size x i blocks)
after_named size x i [] h = h
after_named size x i (content ∷ blocks) h = after_named size (and_then size x i content) (i + 1) blocks (then_named size i x content h)

held_named : (image : List (List ℕ)) (b : Bool) → Named (held_if b image)
held_named image true = after_named (length image) (Ok []) 1 (take slot_count (drop 1 image)) tt
held_named image false = tt

slots_named : (image : List (List ℕ)) (slots : List Slot) → slots_of image ≡ Ok slots → NamedOnce slots
slots_named image slots h = by (held_of image) (held_named image (is_device image)) h
  where
    same : (xs ys : List Slot) → ◌≡◌ {A = Result (List Slot) ℕ} (Ok xs) (Ok ys) → xs ≡ ys
    same xs ys e = cc

    by : (x : Result (List HeldSlot) ℕ) → Named x → as_slots x ≡ Ok slots → NamedOnce slots
    by (Ok held) so e = subst NamedOnce (same (map slot held) slots e) so
    by (Err bad) so e = absurd cc

-- The machines that hold their areas.

abbrev AllLabelled : List (List ℕ × Machine) → Type 0
AllLabelled ms = AllByRecursion (λ p. AreLabelled p.1) ms

-- the slot's label is not held yet
abbrev IsFree : List (List ℕ × Machine) → Slot → Type 0
IsFree ms t = at (listed_machine ms 0 t.app) t.label ≡ None

-- one of the list, by whether it is the first
abbrev chosen : Bool → List ℕ × Machine → List (List ℕ × Machine) → List ℕ → Machine
chosen b p ps a = unwrap_or (option_map (λ q. q.1) (cond b (Some p) (find (λ q. bytes_eq a q.0) ps))) (record unmade { now = 0 })

slot_labelled : (image : List (List ℕ)) (m : Machine) (t : Slot) → at m t.label ≡ None → AreLabelled m → AreLabelled (with_slot image m t)
slot_labelled image m t free h = new_once (record { label = t.label; serial = m.serial; object = stored_area t.kind (contents_at image t.blocks) }) m.held free h

stored_labelled : (image : List (List ℕ)) (ms : List (List ℕ × Machine)) (t : Slot) → IsFree ms t → AllLabelled ms → AllLabelled (with_stored image ms t)
stored_labelled image [] t free h = (slot_labelled image unmade t refl (λ x has. absurd (omega (arith, has.1))), tt)
stored_labelled image (p ∷ ps) t free h = by (λ f. stored_labelled image ps t f h.1) (bytes_eq t.app p.0) free
  where
    by : (IsFree ps t → AllLabelled (with_stored image ps t)) → (b : Bool) → at (chosen b p ps t.app) t.label ≡ None → AllLabelled (cond b ((p.0, with_slot image p.1 t) ∷ ps) (p ∷ with_stored image ps t))
    by next true f = (slot_labelled image p.1 t f h.0, h.1)
    by next false f = (h.0, next f)

-- a slot of another name takes no label
other_free : (image : List (List ℕ)) (m : Machine) (t u : Slot) → bytes_eq u.label t.label ≡ false → at m u.label ≡ None → at (with_slot image m t) u.label ≡ None
other_free image m t u apart free =
    let x : machine.Held = record { label = t.label; serial = m.serial; object = stored_area t.kind (contents_at image t.blocks) } in
    find-append (λ h. bytes_eq u.label h.label) m.held (x ∷ [])
    ∙ (ap (λ (o : Option machine.Held). option_or o (held_at u.label (x ∷ []))) free ∙ ap (λ b. cond b (Some x) None) apart)

label_apart : (a b : Bool) → (a && b) ≡ false → a ≡ true → b ≡ false
label_apart true b h e = h
label_apart false b h e = absurd (false≢true e)

stored_free : (image : List (List ℕ)) (ms : List (List ℕ × Machine)) (t u : Slot) → names_as u t ≡ false → IsFree ms u → IsFree (with_stored image ms t) u
stored_free image [] t u apart free = by (bytes_eq u.app t.app) refl
  where
    by : (b : Bool) → bytes_eq u.app t.app ≡ b → at (chosen b (t.app, with_slot image unmade t) [] u.app) u.label ≡ None
    by true e = other_free image unmade t u (label_apart (bytes_eq u.app t.app) (bytes_eq u.label t.label) apart e) refl
    by false e = refl
stored_free image (p ∷ ps) t u apart free = by (stored_free image ps t u apart) (bytes_eq t.app p.0) refl
  where
    mine : (c : Bool) → bytes_eq t.app p.0 ≡ true → bytes_eq u.app p.0 ≡ c → at (chosen c p ps u.app) u.label ≡ None → at (chosen c (p.0, with_slot image p.1 t) ps u.app) u.label ≡ None
    mine true e f g =
        let same : bytes_eq u.app t.app ≡ true = subst (λ y. bytes_eq u.app y ≡ true) (sym (same_bytes t.app p.0 e)) f in
        other_free image p.1 t u (label_apart (bytes_eq u.app t.app) (bytes_eq u.label t.label) apart same) g
    mine false e f g = g

    others : (IsFree ps u → IsFree (with_stored image ps t) u) → (c : Bool) → at (chosen c p ps u.app) u.label ≡ None → at (chosen c p (with_stored image ps t) u.app) u.label ≡ None
    others next true g = g
    others next false g = next g

    by : (IsFree ps u → IsFree (with_stored image ps t) u) → (b : Bool) → bytes_eq t.app p.0 ≡ b → IsFree (cond b ((p.0, with_slot image p.1 t) ∷ ps) (p ∷ with_stored image ps t)) u
    by next true e = mine (bytes_eq u.app p.0) e refl free
    by next false e = others next (bytes_eq u.app p.0) free

frees_left : (image : List (List ℕ)) (ms : List (List ℕ × Machine)) (t : Slot) (us : List Slot) → AllByRecursion (λ u. names_as u t ≡ false) us → AllByRecursion (λ u. IsFree ms u) us → AllByRecursion (λ u. IsFree (with_stored image ms t) u) us
frees_left image ms t [] apart free = tt
frees_left image ms t (u ∷ us) apart free = (stored_free image ms t u apart.0 free.0, frees_left image ms t us apart.1 free.1)

all_labelled : (image : List (List ℕ)) (ms : List (List ℕ × Machine)) (ts : List Slot) → NamedOnce ts → AllByRecursion (λ u. IsFree ms u) ts → AllLabelled ms → AllLabelled (all_stored image ms ts)
all_labelled image ms [] once free h = h
all_labelled image ms (t ∷ ts) once free h = all_labelled image (with_stored image ms t) ts once.1 (frees_left image ms t ts once.0 free.1) (stored_labelled image ms t free.0 h)

none_yet : (ts : List Slot) → AllByRecursion (λ u. IsFree [] u) ts
none_yet [] = tt
none_yet (t ∷ ts) = (refl, none_yet ts)

listed_labelled : (ms : List (List ℕ × Machine)) (a : List ℕ) → AllLabelled ms → AreLabelled (listed_machine ms 0 a)
listed_labelled [] a h = λ x has. absurd (omega (arith, has.1))
listed_labelled (p ∷ ps) a h = elim (bytes_eq a p.0) as (λ b. AreLabelled (chosen b p ps a)) [ true ↦ h.0 | false ↦ listed_labelled ps a h.1 ]

pub start_labelled : (image : List (List ℕ)) (slots : List Slot) (a : List ℕ) → slots_of image ≡ Ok slots → AreLabelled (machine_of (start_system image slots) a)
start_labelled image slots a h = listed_labelled (all_stored image [] slots) a (all_labelled image [] slots (slots_named image slots h) (none_yet slots) tt)

pub fresh_labelled : (size : ℕ) (a : List ℕ) → AreLabelled (machine_of (fresh_system size) a)
fresh_labelled size a x has = absurd (omega (arith, has.1))
