-- How device events follow a line's calls.
use Rattle.std.specs.Prelude.{◌≡◌, ℕ, Bool, true, false, List, [], ◌∷◌, length, take, drop, map, nat_lt, if◌then◌else◌, Option, Some, None, option_map, slice_get, unwrap_or, Ok, Err, Contains}
use Rattle.ark_media.specs.Journal.{Event, Read, Write, Sync, Out, zero_block, has_succeeded}
use Rattle.ark_table.specs.Slots.{Slot, slot_bytes}
use Rattle.ark_caladan.specs.Chain.{reading, writing, syncing}
use Rattle.ark_script.specs.Line as w
use Rattle.ark_script.specs.Line.{Line}
use Rattle.ark_script.specs.Lines.{Meaning}
use Rattle.ark_machine.specs.Row
use Rattle.ark_machine.specs.Row.{Call, Ended}
use Rattle.ark_machine.specs.Plane.{Plane, blocks_at, asked_blocks, slot_of, max_slots, free_slot}
use Rattle.ark_machine.specs.Granting.{new_slot, with_more}
use Rattle.ark_machine.specs.System.{System, owner}

abbrev pub ReadsAt : Option ℕ → Event → Type 0
ReadsAt place (Read n ok) = place ≡ Some n
ReadsAt place _ = ⊥

-- a write that succeeded took effect
abbrev pub Took : Bool → Bool → Type 0
Took took ok = ok ≡ true → took ≡ true

abbrev pub WritesAt : Option ℕ → List ℕ → Event → Type 0
WritesAt place content (Write n written took ok) = (place ≡ Some n) × (written ≡ content) × Took took ok
WritesAt place content _ = ⊥

abbrev pub ReadsIn : List ℕ → Event → Type 0
ReadsIn area (Read n ok) = Contains area n
ReadsIn area _ = ⊥

abbrev pub WritesIn : List ℕ → Event → Type 0
WritesIn area (Write n content took ok) = Contains area n × Took took ok
WritesIn area _ = ⊥

abbrev pub ZeroesIn : List ℕ → Event → Type 0
ZeroesIn area (Write n content took ok) = Contains area n × (content ≡ zero_block) × Took took ok
ZeroesIn area _ = ⊥

abbrev pub IsSync : Event → Type 0
IsSync (Sync ok) = Unit {0}
IsSync _ = ⊥

-- The slots of the table that a line may write, none or one: the least free one, or that of an area that is held.

abbrev pub own_index : Option Slot → List ℕ
own_index None = []
own_index (Some t) = t.index ∷ []

abbrev pub slots_for : Plane → List ℕ → Line → List ℕ
slots_for p a (w.vsa b s n k) = if nat_lt (length p.slots) max_slots then free_slot p ∷ [] else []
slots_for p a (w.grow b s n) = own_index (slot_of p a s)
slots_for p a (w.drop b x) = own_index (slot_of p a x)
slots_for p a _ = []

-- what a line writes there
abbrev pub grown_content : Option Slot → List ℕ → List ℕ
grown_content slot more = unwrap_or (option_map (λ t. slot_bytes (with_more t more)) slot) zero_block

abbrev pub slot_content : Plane → List ℕ → Line → List ℕ
slot_content p a (w.vsa b s n k) = slot_bytes (new_slot p a s k n)
slot_content p a (w.grow b s n) = grown_content (slot_of p a s) (asked_blocks p (w.grow b s n))
slot_content p a _ = zero_block

-- The event is what came of this call, where these are the blocks under a label. A line of an application alone neither grants
-- blocks nor writes the table.
abbrev pub MakesAt : (List ℕ → List ℕ) → Call → Event → Type 0
MakesAt blocks (Row.reads l k) e = ReadsAt (slice_get (blocks l) k) e
MakesAt blocks (Row.writes l k content) e = WritesAt (slice_get (blocks l) k) content e
MakesAt blocks Row.syncs e = IsSync e
MakesAt blocks (Row.reads_in l) e = ReadsIn (blocks l) e
MakesAt blocks (Row.writes_in l) e = WritesIn (blocks l) e
MakesAt blocks (Row.writes_first l) e = WritesIn (take 1 (blocks l)) e
MakesAt blocks (Row.reads_some l) e = ReadsIn (blocks l) e
MakesAt blocks (Row.zeroes_some l) e = ZeroesIn (drop 1 (blocks l)) e
MakesAt blocks (Row.zeroes_new k) e = ⊥
MakesAt blocks Row.writes_slot e = ⊥

-- the same in any line of application a
abbrev pub Makes : System → List ℕ → Line → Call → Event → Type 0
Makes s a line (Row.zeroes_new k) e = WritesAt (slice_get (asked_blocks s.plane line) k) zero_block e
Makes s a line Row.writes_slot e = WritesAt (slice_get (slots_for s.plane a line) 0) (slot_content s.plane a line) e
Makes s a line c e = MakesAt (blocks_at s.plane a) c e

abbrev pub is_repeated : Call → Bool
is_repeated (Row.reads_some l) = true
is_repeated (Row.zeroes_some l) = true
is_repeated _ = false

-- The events make the calls, up to and with the first that fails, where M says what comes of a call. A repeated call is made any
-- number of times.
pub data Follows (M : Call → Event → Type 0) : List Call → List Event → Type 0 where
  ended : Follows M [] []
  fails : {c : Call} {cs : List Call} {e : Event} → M c e → has_succeeded e ≡ false → Follows M (c ∷ cs) (e ∷ [])
  goes_on : {c : Call} {cs : List Call} {e : Event} {es : List Event} → M c e → has_succeeded e ≡ true → is_repeated c ≡ false → Follows M cs es → Follows M (c ∷ cs) (e ∷ es)
  again : {c : Call} {cs : List Call} {e : Event} {es : List Event} → M c e → has_succeeded e ≡ true → is_repeated c ≡ true → Follows M (c ∷ cs) es → Follows M (c ∷ cs) (e ∷ es)
  passes : {c : Call} {cs : List Call} {es : List Event} → is_repeated c ≡ true → Follows M cs es → Follows M (c ∷ cs) es

abbrev pub Follow : System → List ℕ → Line → List Call → List Event → Type 0
Follow s a line calls es = Follows (Makes s a line) calls es

-- how a device event ended, with its kind
abbrev pub end_of : Event → Ended
end_of (Read n ok) = record { verb = reading; ok = ok; took = true }
end_of (Write n content took ok) = record { verb = writing; ok = ok; took = took }
end_of (Sync ok) = record { verb = syncing; ok = ok; took = true }
end_of (Out bytes) = record { verb = syncing; ok = true; took = true }

abbrev pub ends_of : List Event → List Ended
ends_of es = map end_of es

abbrev pub PerformsFor : System → Line → List Call → List Event → Option (List ℕ) → Type 0
PerformsFor s line calls es (Some a) = Follow s a line calls es
PerformsFor s line calls es None = es ≡ []

-- the device events are those of the line's calls; a line of no application, and one that is refused at sight, has none
abbrev pub Performs : System → Meaning → List Call → List Event → Type 0
Performs s (Ok line) calls es = PerformsFor s line calls es (owner line)
Performs s (Err refusal) calls es = es ≡ []
