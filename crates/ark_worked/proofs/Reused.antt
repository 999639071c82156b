-- Stops in a script that grants a dropped area's blocks anew: none shows the old entry in the new log.
use Rattle.std.proofs.Common.{◌≡◌, ◌⊎◌, inl, inr, ℕ, zero, suc, ◌<◌, true, List, [], ◌∷◌, ◌++◌, replicate, codes, refl, sym, subst, ap, arith}
use Rattle.std.specs.Prelude.{Option, Ok, Some, None, Contains, take}
use Rattle.ark_base.specs.declared.kind.Kind.TheVariants as kind
use Rattle.ark_media.specs.Journal.{Event, Write, Sync, onto, current, block, zero_block}
use Rattle.ark_media.specs.Stops.{MayLeave, Whole}
use Rattle.ark_table.specs.Superblock.{superblock}
use Rattle.ark_table.specs.Slots.{Slot, slots_of, slot_bytes}
use Rattle.ark_entry.specs.Found.{Found, found, found_of}
use Rattle.ark_entry.specs.Header.{header_bytes}
use Rattle.ark_script.specs.Line as w
use Rattle.ark_machine.specs.Row.{answer}
use Rattle.ark_machine.specs.Step.{step}
use Rattle.ark_machine.specs.Start.{contents_at}
use Rattle.ark_machine.specs.System.{System, fresh_system}
use Rattle.ark_machine.specs.Plane.{Change, makes}
use Rattle.ark_machine.specs.Recovers.{Recovers, begun, ContentStands, BlocksStand, block_choices, log_choices}
use Rattle.ark_worked.proofs.Playing.{played}
use Rattle.ark_worked.proofs.Scripts.{quiet, area, zeroed}
use Rattle.ark_worked.proofs.Images.{history}
use Rattle.ark_worked.proofs.Stops.{base, log_slot, reused, single, recovers_log}
use Rattle.ark_worked.proofs.Labels.{a, l, v}

abbrev no_entries : Found
no_entries = found (record { first = 1; payloads = [] })

-- what a write of another block has not changed
unwritten : {X : Type 0} {c d : List ℕ} (m n : ℕ) → ((m ≡ n) × X) ⊎ (c ≡ d) → (m ≡ n → ⊥) → c ≡ d
unwritten m n (inl h) ne = absurd (ne h.0)
unwritten m n (inr h) ne = h

four_blocks : (image : List (List ℕ)) (first : List ℕ) → block image 129 ≡ first → block image 130 ≡ zero_block → block image 131 ≡ zero_block → block image 132 ≡ zero_block
    → contents_at image log_slot.blocks ≡ first ∷ replicate 3 zero_block
four_blocks image first p q s t = rw p (rw q (rw s (rw t refl)))

no_slots : (t : Slot) → Contains {X = Slot} [] t → ⊥
no_slots t h = absurd (omega (arith, h.1))

-- In the drop the old slot is there or not; the new log has none yet.

abbrev in_drop : List Event
in_drop = history 200 (take 3 reused) ++ (Write 1 zero_block true true ∷ [])

abbrev old_slot : Slot
old_slot = area 1 (codes "b") (codes "r") kind.Raw 129 4

pub in_drop-slot : (image : List (List ℕ)) → MayLeave Whole base (onto in_drop []) image → (block image 1 ≡ zero_block) ⊎ (block image 1 ≡ slot_bytes old_slot)
unfolding superblock
in_drop-slot image left = by (left.each 1 (omega arith))
  where
    by : {X : Type 0} → (◌≡◌ {A = ℕ} 1 1 × (block image 1 ≡ zero_block)) ⊎ ((◌≡◌ {A = ℕ} 130 1 × X) ⊎ (block image 1 ≡ slot_bytes old_slot)) → (block image 1 ≡ zero_block) ⊎ (block image 1 ≡ slot_bytes old_slot)
    by (inl h) = inl h.1
    by (inr h) = inr (unwritten 130 1 h (λ e. absurd (omega (arith, e))))

pub in_drop-without : slots_of (current base (onto in_drop [])) ≡ Ok []
unfolding superblock
in_drop-without = refl

pub in_drop-with : slots_of (current base (onto (history 200 (take 3 reused)) [])) ≡ Ok (old_slot ∷ [])
unfolding superblock
in_drop-with = refl

abbrev before_drop : System
before_drop = played (fresh_system 200) (take 3 reused)

abbrev drop_begun : Option Change
drop_begun = begun before_drop (Some (Ok (w.drop (codes "b") (codes "r"))))

abbrev drop_part : List Event
drop_part = Write 1 zero_block true true ∷ []

abbrev undropped : List (List ℕ)
undropped = current base (onto (history 200 (take 3 reused)) [])

some_block : (m n : ℕ) → ◌≡◌ {A = Option ℕ} (Some m) (Some n) → m ≡ n
some_block m n e = cc

none_past : (n : ℕ) → ◌≡◌ {A = Option ℕ} None (Some n) → ⊥
none_past n e = cc

old_blocks : BlocksStand before_drop drop_begun drop_part undropped old_slot
unfolding step answer superblock
old_blocks zero n h = subst (λ k. Contains (block_choices before_drop drop_begun drop_part old_slot 0 k) (block undropped k)) (some_block 129 n h) (0, omega arith, refl)
old_blocks (suc zero) n h = subst (λ k. Contains (block_choices before_drop drop_begun drop_part old_slot 1 k) (block undropped k)) (some_block 130 n h) (1, omega arith, refl)
old_blocks (suc (suc zero)) n h = subst (λ k. Contains (block_choices before_drop drop_begun drop_part old_slot 2 k) (block undropped k)) (some_block 131 n h) (0, omega arith, refl)
old_blocks (suc (suc (suc zero))) n h = subst (λ k. Contains (block_choices before_drop drop_begun drop_part old_slot 3 k) (block undropped k)) (some_block 132 n h) (0, omega arith, refl)
old_blocks (suc (suc (suc (suc k)))) n h = absurd (none_past n h)

pub in_drop-recovers_with : Recovers before_drop drop_begun drop_part undropped
unfolding step answer superblock
in_drop-recovers_with = record {
  slots = old_slot ∷ [];
  readable = refl;
  held = λ t h. inl (t, h, inl (inl refl));
  others = λ t h. inl (0, old_slot, omega arith, refl, inl (inl (single old_slot t h)));
  contents = λ t h. subst (λ x. ContentStands before_drop drop_begun drop_part undropped x x.kind) (sym (single old_slot t h)) old_blocks;
}

pub in_drop-recovers_without : Recovers before_drop drop_begun drop_part (current base (onto in_drop []))
unfolding step answer superblock
in_drop-recovers_without = record {
  slots = [];
  readable = refl;
  held = λ t h. inr (sym (single old_slot t h));
  others = λ t h. absurd (no_slots t h);
  contents = λ t h. absurd (no_slots t h);
}

-- While the new blocks are made zero, there is no slot. A stop before the last of these writes leaves no other images.

abbrev in_zeroes : List Event
in_zeroes = history 200 (take 5 reused) ++ zeroed log_slot.blocks

pub in_zeroes-slot : (image : List (List ℕ)) → MayLeave Whole base (onto in_zeroes []) image → block image 1 ≡ zero_block
unfolding superblock
in_zeroes-slot image left =
    unwritten 129 1 (by 130 (by 131 (by 132 (left.each 1 (omega arith)) (λ h. absurd (omega (arith, h)))) (λ h. absurd (omega (arith, h)))) (λ h. absurd (omega (arith, h)))) (λ h. absurd (omega (arith, h)))
  where
    by : {X Y : Type 0} (m : ℕ) → ((m ≡ 1) × X) ⊎ Y → (m ≡ 1 → ⊥) → Y
    by m (inl h) ne = absurd (ne h.0)
    by m (inr h) ne = h

pub in_zeroes-none : slots_of (current base (onto in_zeroes [])) ≡ Ok []
unfolding superblock
in_zeroes-none = refl

-- Once they are, and the slot is being written, the log is empty.

abbrev in_slot : List Event
in_slot = in_zeroes ++ (Sync true ∷ Write 1 (slot_bytes log_slot) true true ∷ [])

pub in_slot-empty : (image : List (List ℕ)) → MayLeave Whole base (onto in_slot []) image → found_of kind.Log (contents_at image log_slot.blocks) ≡ no_entries
unfolding superblock
in_slot-empty image left =
    ap (λ x. found_of kind.Log x) (four_blocks image zero_block
    (unwritten 1 129 (left.each 129 (omega arith)) (λ h. absurd (omega (arith, h)))) (unwritten 1 130 (left.each 130 (omega arith)) (λ h. absurd (omega (arith, h))))
    (unwritten 1 131 (left.each 131 (omega arith)) (λ h. absurd (omega (arith, h)))) (unwritten 1 132 (left.each 132 (omega arith)) (λ h. absurd (omega (arith, h)))))

-- In the opening it has its header or not, and is empty.

abbrev header : List ℕ
header = header_bytes kind.Log 1 0 0 0

abbrev in_opening : List Event
in_opening = history 200 reused ++ (Sync true ∷ Write 129 header true true ∷ [])

pub in_opening-empty : (image : List (List ℕ)) → MayLeave Whole base (onto in_opening []) image → found_of kind.Log (contents_at image log_slot.blocks) ≡ no_entries
unfolding superblock
in_opening-empty image left = by (left.each 129 (omega arith))
  where
    behind : (n : ℕ) → ((129 ≡ n) × (block image n ≡ header)) ⊎ (block image n ≡ zero_block) → 129 < n → block image n ≡ zero_block
    behind n h lt = unwritten 129 n h (λ e. absurd (omega (arith, e, lt)))

    headed : (first : List ℕ) → block image 129 ≡ first → contents_at image log_slot.blocks ≡ first ∷ replicate 3 zero_block
    headed first h = four_blocks image first h (behind 130 (left.each 130 (omega arith)) (omega arith)) (behind 131 (left.each 131 (omega arith)) (omega arith)) (behind 132 (left.each 132 (omega arith)) (omega arith))

    by : (◌≡◌ {A = ℕ} 129 129 × (block image 129 ≡ header)) ⊎ (block image 129 ≡ zero_block) → found_of kind.Log (contents_at image log_slot.blocks) ≡ no_entries
    by (inl h) = ap (λ x. found_of kind.Log x) (headed header h.1)
    by (inr h) = ap (λ x. found_of kind.Log x) (headed zero_block h)

abbrev after_opening : List Event
after_opening = in_opening ++ (Sync true ∷ [])

pub after_opening-empty : (image : List (List ℕ)) → MayLeave Whole base (onto after_opening []) image → found_of kind.Log (contents_at image log_slot.blocks) ≡ no_entries
unfolding superblock
after_opening-empty image left =
    ap (λ x. found_of kind.Log x) (four_blocks image header (left.each 129 (omega arith)) (left.each 130 (omega arith)) (left.each 131 (omega arith)) (left.each 132 (omega arith)))

-- The grants are recovered from what these stops leave.

abbrev before_grant : System
before_grant = played (fresh_system 200) (take 5 reused)

pub begins_slot : begun before_grant (Some (Ok (w.vsa a l 4 kind.Log))) ≡ Some (makes log_slot)
unfolding step answer
begins_slot = refl

abbrev granting_part : List Event
granting_part = zeroed log_slot.blocks ++ (Sync true ∷ Write 1 (slot_bytes log_slot) true true ∷ [])

abbrev with_slot : List (List ℕ)
with_slot = current base (onto in_slot [])

pub in_slot-recovers_with : Recovers before_grant (Some (makes log_slot)) granting_part with_slot
unfolding step answer superblock
in_slot-recovers_with = record {
  slots = log_slot ∷ [];
  readable = refl;
  held = λ t h. absurd (no_slots t h);
  others = λ t h. inr (inl (sym (single log_slot t h)));
  contents = λ t h. subst (λ x. ContentStands before_grant (Some (makes log_slot)) granting_part with_slot x x.kind) (sym (single log_slot t h)) (0, omega arith, refl);
}

abbrev without_slot : List (List ℕ)
without_slot = current base (onto in_zeroes [])

pub in_slot-recovers_without : Recovers before_grant (Some (makes log_slot)) granting_part without_slot
unfolding step answer superblock
in_slot-recovers_without = record {
  slots = [];
  readable = refl;
  held = λ t h. absurd (no_slots t h);
  others = λ t h. absurd (no_slots t h);
  contents = λ t h. absurd (no_slots t h);
}

abbrev before_opening : System
before_opening = played (fresh_system 200) (reused ++ (quiet (w.vsic a v 2) ∷ []))

pub before_opening-lists : log_choices before_opening None log_slot ≡ no_entries ∷ []
unfolding step answer
before_opening-lists = refl

abbrev opening_part : List Event
opening_part = Sync true ∷ Write 129 header true true ∷ []

pub in_opening-recovers_with : Recovers before_opening None opening_part (current base (onto in_opening []))
unfolding step answer superblock
in_opening-recovers_with = recovers_log before_opening opening_part log_slot (current base (onto in_opening [])) refl refl refl (0, omega arith, refl)

pub in_opening-recovers_without : Recovers before_opening None opening_part (current base (onto (history 200 reused) []))
unfolding step answer superblock
in_opening-recovers_without = recovers_log before_opening opening_part log_slot (current base (onto (history 200 reused) [])) refl refl refl (0, omega arith, refl)
