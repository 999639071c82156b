-- What a device call of a storage card leaves of an application: a block of a buffer, a block of an area, or what a sync settles.
use Rattle.std.proofs.Common.{◌≡◌, ℕ, ◌+◌, ◌<◌, ◌≤◌, Bool, true, false, cond, List, [], ◌∷◌, length, get_or, map, refl, sym, ◌∙◌, ap, subst, bytes_eq, Contains}
use Rattle.std.specs.Prelude.{Option, Some, find, is_some, option_map}
use Rattle.std.proofs.lemmas.Bool.{false≢true}
use Rattle.std.proofs.lemmas.List.Elements.{Contains-get_or}
use Rattle.ark_media.specs.Journal.{Event, Read, Sync}
use Rattle.ark_media.specs.Standing.{after}
use Rattle.ark_extents.specs.Blocks.{AreDistinct}
use Rattle.ark_table.specs.Slots.{Slot}
use Rattle.ark_region.specs.Frames.{Space, Wrote}
use Rattle.ark_machine.specs.Objects
use Rattle.ark_machine.specs.Objects.{Object, Raw, Buffer}
use Rattle.ark_machine.specs.Machine.{Machine, Held, at, holding, with_object, each_object}
use Rattle.ark_machine.specs.Row.{settled}
use Rattle.ark_held.specs.Around.{Around, slot_at, piece_of}
use Rattle.ark_held.specs.Does.{IsSited}
use Rattle.ark_held.specs.Held.{Holds}
use Rattle.ark_held.specs.Writes.{with_write}
use Rattle.ark_held.proofs.Lists.{by_test, same_name, name_other, other_name, some_same}
use Rattle.ark_held.proofs.Passing.{beside}
use Rattle.ark_held.proofs.Owning.{own_written}
use Rattle.ark_held.proofs.Rewriting.{with_memory, refilled}
use Rattle.ark_held.proofs.Settling.{synced_alone, settles}

-- What is under a label when another label has another content, or each object is changed.

find_other : (l k : List ℕ) (o : Object) (hs : List Held) → bytes_eq l k ≡ false → find (λ z. bytes_eq k z.label) (map (λ h. cond (bytes_eq l h.label) (holding o h) h) hs) ≡ find (λ z. bytes_eq k z.label) hs
find_other l k o [] apart = refl
find_other l k o (h ∷ hs) apart = by_test
    (λ t. bytes_eq l h.label ≡ t → find (λ z. bytes_eq k z.label) (cond t (holding o h) h ∷ map (λ g. cond (bytes_eq l g.label) (holding o g) g) hs) ≡ cond (bytes_eq k h.label) (Some h) (find (λ z. bytes_eq k z.label) hs)) (bytes_eq l h.label)
    (λ yes q.
    let away : bytes_eq k h.label ≡ false = ap (λ z. bytes_eq k z) (sym (same_name l h.label q)) ∙ name_other k l (λ e. other_name l k apart (sym e)) in
    ap (λ b. cond b (Some (holding o h)) (find (λ z. bytes_eq k z.label) (map (λ g. cond (bytes_eq l g.label) (holding o g) g) hs))) away
    ∙ find_other l k o hs apart ∙ sym (ap (λ b. cond b (Some h) (find (λ z. bytes_eq k z.label) hs)) away))
    (λ no q. ap (λ (r : Option Held). cond (bytes_eq k h.label) (Some h) r) (find_other l k o hs apart)) refl

pub at_other : (m : Machine) (l k : List ℕ) (o : Object) → bytes_eq l k ≡ false → at (with_object m l o) k ≡ at m k
at_other m l k o apart = find_other l k o m.held apart

find_each : (f : Object → Object) (k : List ℕ) (hs : List Held) → find (λ z. bytes_eq k z.label) (map (λ h. holding (f h.object) h) hs) ≡ option_map (λ h. holding (f h.object) h) (find (λ z. bytes_eq k z.label) hs)
find_each f k [] = refl
find_each f k (h ∷ hs) = by_test
    (λ t. cond t (Some (holding (f h.object) h)) (find (λ z. bytes_eq k z.label) (map (λ g. holding (f g.object) g) hs)) ≡ option_map (λ g. holding (f g.object) g) (cond t (Some h) (find (λ z. bytes_eq k z.label) hs))) (bytes_eq k h.label)
    (λ yes. refl) (λ no. find_each f k hs)

pub at_each : (f : Object → Object) (m : Machine) (k : List ℕ) (h : Held) → at m k ≡ Some h → at (each_object f m) k ≡ Some (holding (f h.object) h)
at_each f m k h is = find_each f k m.held ∙ ap (λ (o : Option Held). option_map (λ g. holding (f g.object) g) o) is

find_here : (l : List ℕ) (o : Object) (h : Held) (hs : List Held) → find (λ z. bytes_eq l z.label) hs ≡ Some h → find (λ z. bytes_eq l z.label) (map (λ g. cond (bytes_eq l g.label) (holding o g) g) hs) ≡ Some (holding o h)
find_here l o h [] is = absurd (false≢true (ap is_some is))
find_here l o h (g ∷ gs) is = by_test
    (λ t. bytes_eq l g.label ≡ t → find (λ z. bytes_eq l z.label) (cond t (holding o g) g ∷ map (λ z. cond (bytes_eq l z.label) (holding o z) z) gs) ≡ Some (holding o h)) (bytes_eq l g.label)
    (λ yes q.
    let same : g ≡ h = some_same (Some g) g h refl (sym (ap (λ b. cond b (Some g) (find (λ z. bytes_eq l z.label) gs)) q) ∙ is) in
    ap (λ b. cond b (Some (holding o g)) (find (λ z. bytes_eq l z.label) (map (λ z. cond (bytes_eq l z.label) (holding o z) z) gs))) q ∙ ap (λ (z : Held). Some (holding o z)) same)
    (λ no q.
    ap (λ b. cond b (Some g) (find (λ z. bytes_eq l z.label) (map (λ z. cond (bytes_eq l z.label) (holding o z) z) gs))) q
    ∙ find_here l o h gs (sym (ap (λ b. cond b (Some g) (find (λ z. bytes_eq l z.label) gs)) q) ∙ is)) refl

pub at_here : (m : Machine) (l : List ℕ) (o : Object) (h : Held) → at m l ≡ Some h → at (with_object m l o) l ≡ Some (holding o h)
at_here m l o h is = find_here l o h m.held is

all_twice : (l : List ℕ) (a b : Object) (hs : List Held) → map (λ h. cond (bytes_eq l h.label) (holding b h) h) (map (λ h. cond (bytes_eq l h.label) (holding a h) h) hs) ≡ map (λ h. cond (bytes_eq l h.label) (holding b h) h) hs
all_twice l a b [] = refl
all_twice l a b (h ∷ hs) = by_test
    (λ t. bytes_eq l h.label ≡ t → cond (bytes_eq l (cond t (holding a h) h).label) (holding b (cond t (holding a h) h)) (cond t (holding a h) h) ∷ map (λ g. cond (bytes_eq l g.label) (holding b g) g) (map (λ g. cond (bytes_eq l g.label) (holding a g) g) hs)
    ≡ cond (bytes_eq l h.label) (holding b h) h ∷ map (λ g. cond (bytes_eq l g.label) (holding b g) g) hs) (bytes_eq l h.label)
    (λ yes q.
    ap (λ t. cond t (holding b h) (holding a h) ∷ map (λ g. cond (bytes_eq l g.label) (holding b g) g) (map (λ g. cond (bytes_eq l g.label) (holding a g) g) hs)) q
    ∙ ap (λ (zs : List Held). holding b h ∷ zs) (all_twice l a b hs) ∙ sym (ap (λ t. cond t (holding b h) h ∷ map (λ g. cond (bytes_eq l g.label) (holding b g) g) hs) q))
    (λ no q. ap (λ (zs : List Held). cond (bytes_eq l h.label) (holding b h) h ∷ zs) (all_twice l a b hs)) refl

-- the last content counts
pub set_twice : (m : Machine) (l : List ℕ) (a b : Object) → with_object (with_object m l a) l b ≡ with_object m l b
set_twice m l a b = ap (λ (hs : List Held). record m { held = hs }) (all_twice l a b m.held)

-- objects that differ have different labels
pub labels_apart : (m : Machine) (l k : List ℕ) (h g : Held) → at m l ≡ Some h → at m k ≡ Some g → (h.object ≡ g.object → ⊥) → bytes_eq l k ≡ false
labels_apart m l k h g here there differ = name_other l k (λ e. differ (ap (λ (z : Held). z.object) (some_same (at m k) h g (ap (λ (z : List ℕ). at m z) (sym e) ∙ here) there)))

-- The device calls.

module _ (x : Around) (h : Holds x) (inside : (l : List ℕ) (t : Slot) (n : ℕ) → slot_at x l ≡ Some t → Contains t.blocks n → n < length x.history.base) where
  abbrev then : List Event → Around
  then es = record x { history = after x.history es }

  pub read_holds : (n : ℕ) (ok : Bool) → Holds (then (Read n ok ∷ []))
  read_holds n ok = beside x (Read n ok ∷ []) (record { beside = λ l t there. tt; inside = inside }) h

  pub sync_holds : (ok : Bool) → Holds (then (Sync ok ∷ []))
  sync_holds ok = beside x (Sync ok ∷ []) (record { beside = λ l t there. tt; inside = inside }) h

  -- a block was read into a buffer
  pub got_holds : (n : ℕ) (l : List ℕ) (b : Buffer) (held : Held) (off : ℕ) (bytes : List ℕ) (memory : Space) → off + length bytes ≤ length b.bytes → at x.machine l ≡ Some held → held.object ≡ Objects.buffer b
      → Wrote x.tables.memory memory (piece_of b) off bytes → Holds (with_memory (then (Read n true ∷ [])) l b off bytes memory)
  got_holds n l b held off bytes memory fits there object wrote = refilled (then (Read n true ∷ [])) l b held off bytes memory fits (read_holds n true) there object wrote

  -- a sync settles what a stop leaves of the areas
  pub settles_holds : Holds (record (then (Sync true ∷ [])) { machine = each_object settled x.machine })
  settles_holds = settles (then (Sync true ∷ [])) (sync_holds true) (λ l t there k lt c left.
      let has = Contains-get_or t.blocks k 0 lt in
      synced_alone x.history.base t.blocks (Sync true ∷ []) x.history.journal (get_or t.blocks k 0) (inside l t (get_or t.blocks k 0) there has) has tt refl c left)

  -- a block of an area was written, or was tried to be
  pub put_holds : (size : ℕ) → IsSited x size → (l : List ℕ) (r : Raw) (held : Held) (slot : Slot) (off n : ℕ) (b : List ℕ) (took ok : Bool) → at x.machine l ≡ Some held → held.object ≡ Objects.raw r → slot_at x l ≡ Some slot
      → AreDistinct slot.blocks → off < length slot.blocks → n ≡ get_or slot.blocks off 0 → Holds (with_write x l r off n b took ok)
  put_holds size sited l r held slot off n b took ok there object placed distinct near is = own_written x l r off n b took ok (record {
    held = held;
    there = there;
    object = object;
    slot = slot;
    placed = placed;
    distinct = distinct;
    near = near;
    block = is;
    others = λ k v apart other has. other_name l k apart (sited.apart l k slot v n placed other (subst (λ (i : ℕ). Contains slot.blocks i) (sym is) (Contains-get_or slot.blocks off 0 near)) has);
    inside = inside;
  }) h
