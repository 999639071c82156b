-- Every line keeps it that no block is granted twice.
use Rattle.std.proofs.Common.{◌≡◌, ◌<◌, ℕ, Bool, true, false, List, [], ◌∷◌, ◌||◌, length, refl, sym, ◌∙◌, subst, arith, cond}
use Rattle.std.proofs.lemmas.Bool.{false≢true, and_parts, or_left, or_right}
use Rattle.std.proofs.lemmas.Bool.Decides.{nat_tests}
use Rattle.std.specs.Prelude.{Option, Some, None, option_map, find, unwrap_or, bytes_eq, nat_le, Contains}
use Rattle.ark_base.specs.Conditions.{Conditions, early, late, when, when_some}
use Rattle.ark_base.specs.declared.refusal.Refusal.{Refusal}
use Rattle.ark_base.specs.declared.refusal.Refusal.TheVariants as r
use Rattle.ark_base.specs.declared.kind.Kind.{Kind}
use Rattle.ark_table.specs.Slots.{Slot}
use Rattle.ark_script.specs.Line as w
use Rattle.ark_script.specs.Line.{Line}
use Rattle.ark_script.specs.declared.said.Said.{Said}
use Rattle.ark_script.specs.declared.said.Said.TheVariants as said
use Rattle.ark_machine.specs.Objects.{is_vsa}
use Rattle.ark_machine.specs.Machine.{Machine, object_at, is_full, held_count}
use Rattle.ark_machine.specs.Areas.{max_areas}
use Rattle.ark_machine.specs.Row.{Row, Given, Ended, answer, unless_refused}
use Rattle.ark_machine.specs.Plane.{Plane, Change, makes, grows, drops, is_granted, max_slots, lowest, is_slot_of, slot_of, blocks_at, asked, asked_blocks, recorded}
use Rattle.ark_machine.specs.Granting.{changed, failed_change, change_of, with_granted, after_refusal, plane_after}
use Rattle.ark_machine.specs.Step.{step}
use Rattle.ark_machine.specs.System.{System, machine_of, line_turn}
use Rattle.ark_machine.specs.Grants.{has_block, SlotsApart, GrantsApart}
use Rattle.ark_laws.proofs.Listed.{same_bytes, bytes_eq-same}
use Rattle.ark_machine.proofs.Grants.{or_false, clash, lowest_free, has_of, makes_apart, grows_apart, dropped_apart}
use Rattle.ark_laws.proofs.Turns.{each_turn}

-- The changes of a plane.

-- a new slot has room
abbrev HasRoom : Plane → Line → Type 0
HasRoom p (w.vsa a s n k) = length p.slots < max_slots
HasRoom p _ = Unit {0}

changed_apart : (p : Plane) (m : Machine) (line : Line) → GrantsApart p → HasRoom p line → GrantsApart (changed p (change_of p m line))
changed_apart p m (w.vsa a s n k) h room = makes_apart p a s k n h room
changed_apart p m (w.grow a s n) h room = by (slot_of p a s)
  where
    by : (o : Option Slot) → GrantsApart (changed p (option_map (λ t. grows t (lowest p n)) o))
    by None = h
    by (Some t) = grows_apart p n t h
changed_apart p m (w.drop a x) h room = by (slot_of p a x)
  where
    by : (o : Option Slot) → GrantsApart (changed p (option_map (λ t. drops t (object_at m x)) o))
    by None = h
    by (Some t) = dropped_apart p t h
changed_apart p m _ h room = h

failed_apart : (p : Plane) (c : Option Change) → GrantsApart p → GrantsApart (failed_change p c)
failed_apart p None h = h
failed_apart p (Some (makes t)) h = h
failed_apart p (Some (grows t more)) h = h
failed_apart p (Some (drops t o)) h = dropped_apart p t h

granted_apart : (p : Plane) (line : Line) → GrantsApart p → GrantsApart (with_granted p line)
granted_apart p (w.nic own) h = h
granted_apart p (w.app a frames) h = h
granted_apart p (w.filter a f rule) h = h
granted_apart p (w.assign a v f) h = h
granted_apart p (w.drop a x) h = h
granted_apart p _ h = h

refused_apart : (p : Plane) (x : Refusal) (c : Option Change) → GrantsApart p → GrantsApart (after_refusal p x c)
refused_apart p r.DeviceFault c h = failed_apart p c h
refused_apart p _ c h = h

plane_apart : (p : Plane) (m : Machine) (line : Line) (x : Said) → GrantsApart p → (x ≡ said.Ok → HasRoom p line) → GrantsApart (plane_after p m line x)
plane_apart p m line said.Ok h room = granted_apart (changed p (change_of p m line)) line (changed_apart p m line h (room refl))
plane_apart p m line (said.Refused x) h room = refused_apart p x (change_of p m line) h
plane_apart p m line _ h room = h

-- A new area is granted only where a slot is free.

pub when_none : (b : Bool) (x : Refusal) (later : Option Refusal) → when b x later ≡ None → (b ≡ false) × (later ≡ None)
when_none true x later h = absurd cc
when_none false x later h = (refl, h)

pub when_some_none : {A : Type 0} (o : Option A) (f : A → Refusal) (later : Option Refusal) → when_some o f later ≡ None → later ≡ None
when_some_none (Some x) f later h = absurd cc
when_some_none None f later h = h

pub kind_and_limit : (c : Conditions) → early c ≡ None → (c.wrong_kind ≡ false) × (c.limit ≡ false)
kind_and_limit c h =
    let a = when_none c.too_long r.TooLong _ h in
    let b = when_none c.unknown_word r.UnknownWord _ a.1 in
    let d = when_none c.syntax_fault r.Syntax _ b.1 in
    let e = when_none c.no_application r.NoApplication _ d.1 in
    let f = when_none c.name_taken r.NameTaken _ e.1 in
    let g = when_some_none c.no_grant (λ l. r.NoGrant l) _ f.1 in
    let i = when_none c.wrong_kind r.WrongKind _ g in
    (i.0, (when_none c.limit r.Limit _ i.1).0)

ok_early : (m : Machine) (c : Conditions) (row : Row) → (answer m c row).said ≡ said.Ok → early c ≡ None
unfolding answer
ok_early m c row h = by (early c) (late c) h
  where
    by : (one two : Option Refusal) → (unless_refused one two m row).said ≡ said.Ok → one ≡ None
    by None two e = refl
    by (Some x) two e = absurd cc

ok_limit : (m : Machine) (c : Conditions) (row : Row) → (answer m c row).said ≡ said.Ok → c.limit ≡ false
ok_limit m c row h = (kind_and_limit c (ok_early m c row h)).1

below : (n k : ℕ) → nat_le n k ≡ false → k < n
below n k h = grind (arith, nat_tests)

vsa_room : (m : Machine) (a s : List ℕ) (n : ℕ) (k : Kind) (g : Given) → (step m (w.vsa a s n k) g).said ≡ said.Ok → g.limit ≡ false
unfolding step
vsa_room m a s n k g h = (or_false g.limit (is_full m) (or_false (g.limit || is_full m) (nat_le max_areas (held_count is_vsa m)) (ok_limit m _ _ h)).0).0

has_room : (p : Plane) (m : Machine) (line : Line) (ends : List Ended) (memory : Bool) → (step m line (recorded p line ends memory)).said ≡ said.Ok → HasRoom p line
has_room p m (w.vsa a s n k) ends memory h = below max_slots (length p.slots) (vsa_room m a s n k (recorded p (w.vsa a s n k) ends memory) h)
has_room p m _ ends memory h = tt

-- Lines.

pub line_apart : (s : System) (line : Line) (ends : List Ended) (memory : Bool) → GrantsApart s.plane → GrantsApart (line_turn s line ends memory).after.plane
line_apart s line ends memory h = each_turn (λ t. GrantsApart t.after.plane) s line ends memory (record {
  own = λ a is. plane_apart s.plane (machine_of s a) line (step (machine_of s a) line (recorded s.plane line ends memory)).said h (has_room s.plane (machine_of s a) line ends memory);
  ticks = λ n is. h;
  given = λ own is. h;
  arrives = λ frame own f is addressed found. h;
  quiet = λ reply q. h;
})

-- Areas of two applications.

in_found : (q : Slot → Bool) (ss : List Slot) (n : ℕ) → has_block (unwrap_or (option_map (λ t. t.blocks) (find q ss)) []) n ≡ true → is_granted ss n ≡ true
in_found q [] n h = absurd (false≢true h)
in_found q (s ∷ ss) n h = by (q s) h (in_found q ss n)
  where
    by : (b : Bool) → has_block (unwrap_or (option_map (λ t. t.blocks) (cond b (Some s) (find q ss))) []) n ≡ true
        → (has_block (unwrap_or (option_map (λ t. t.blocks) (find q ss)) []) n ≡ true → is_granted ss n ≡ true) → is_granted (s ∷ ss) n ≡ true
    by true e next = or_left (has_block s.blocks n) (is_granted ss n) e
    by false e next = or_right (has_block s.blocks n) (is_granted ss n) (next e)

two_apart : (ss : List Slot) (a b l k : List ℕ) (n : ℕ) → SlotsApart ss → bytes_eq a b ≡ false → has_block (unwrap_or (option_map (λ t. t.blocks) (find (λ t. is_slot_of a l t) ss)) []) n ≡ true
    → has_block (unwrap_or (option_map (λ t. t.blocks) (find (λ t. is_slot_of b k t) ss)) []) n ≡ true → ⊥
two_apart [] a b l k n h apart one two = false≢true one
two_apart (s ∷ ss) a b l k n h apart one two = by (is_slot_of a l s) (is_slot_of b k s) refl refl one two (two_apart ss a b l k n h.1 apart)
  where
    mine : Option Slot
    mine = find (λ t. is_slot_of a l t) ss

    yours : Option Slot
    yours = find (λ t. is_slot_of b k t) ss

    same_app : is_slot_of a l s ≡ true → is_slot_of b k s ≡ true → ⊥
    same_app e f =
        let x : a ≡ s.app = same_bytes a s.app (and_parts (bytes_eq a s.app) (bytes_eq l s.label) e).0 in
        let y : b ≡ s.app = same_bytes b s.app (and_parts (bytes_eq b s.app) (bytes_eq k s.label) f).0 in
        clash (subst (λ c. bytes_eq a c ≡ true) (x ∙ sym y) (bytes_eq-same a)) apart

    by : (c d : Bool) → is_slot_of a l s ≡ c → is_slot_of b k s ≡ d → has_block (unwrap_or (option_map (λ t. t.blocks) (cond c (Some s) mine)) []) n ≡ true
        → has_block (unwrap_or (option_map (λ t. t.blocks) (cond d (Some s) yours)) []) n ≡ true
        → (has_block (unwrap_or (option_map (λ t. t.blocks) mine) []) n ≡ true → has_block (unwrap_or (option_map (λ t. t.blocks) yours) []) n ≡ true → ⊥) → ⊥
    by true true e f g i next = same_app e f
    by true false e f g i next = clash (in_found (λ t. is_slot_of b k t) ss n i) (h.0.1 n g)
    by false true e f g i next = clash (in_found (λ t. is_slot_of a l t) ss n g) (h.0.1 n i)
    by false false e f g i next = next g i

-- no block is in areas of two applications
pub others_apart : (p : Plane) (a b l k : List ℕ) (n : ℕ) → GrantsApart p → bytes_eq a b ≡ false → has_block (blocks_at p a l) n ≡ true → has_block (blocks_at p b k) n ≡ true → ⊥
others_apart p a b l k n h apart one two = two_apart p.slots a b l k n h.apart apart one two

-- In the words of lists.

pub areas_apart : (p : Plane) (a b l k : List ℕ) (n : ℕ) → GrantsApart p → bytes_eq a b ≡ false → Contains (blocks_at p a l) n → Contains (blocks_at p b k) n → ⊥
areas_apart p a b l k n h apart one two = others_apart p a b l k n h apart (has_of (blocks_at p a l) n one) (has_of (blocks_at p b k) n two)

pub new_free : (p : Plane) (line : Line) (n : ℕ) → Contains (asked_blocks p line) n → is_granted p.slots n ≡ false
new_free p line n h = by (asked line) h
  where
    by : (o : Option ℕ) → Contains (unwrap_or (option_map (λ k. lowest p k) o) []) n → is_granted p.slots n ≡ false
    by None g = absurd (omega (arith, g.1))
    by (Some k) g = lowest_free p k n (has_of (lowest p k) n g)

-- a new block is in no area
pub new_apart : (p : Plane) (line : Line) (b k : List ℕ) (n : ℕ) → Contains (asked_blocks p line) n → Contains (blocks_at p b k) n → ⊥
new_apart p line b k n new old = clash (in_found (λ t. is_slot_of b k t) p.slots n (has_of (blocks_at p b k) n old)) (new_free p line n new)
