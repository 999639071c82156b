-- A disk seen at some of its blocks: block k of the view is the disk's block at place k of the list.
use Rattle.std.specs.Prelude.{◌≡◌, ◌↔◌, ◌<◌, ℕ, suc, Bool, List, [], ◌∷◌, Option, Some, None, option_map, length, get_or, map, if◌then◌else◌, ◌==◌}
use Rattle.ark_media.specs.Journal.{Event, Read, Write, Sync, Out, History, block}
use Rattle.ark_media.specs.Calls.{Told}
use Rattle.ark_media.specs.Stops.{MayHold}

-- the place of a block in a list of blocks
abbrev pub place_in : List ℕ → ℕ → Option ℕ
place_in [] n = None
place_in (m ∷ blocks) n = if m == n then Some 0 else option_map (λ k. suc k) (place_in blocks n)

abbrev pub view_image : List ℕ → List (List ℕ) → List (List ℕ)
view_image blocks image = map (λ n. block image n) blocks

abbrev pub read_at : Option ℕ → Bool → List Event → List Event
read_at (Some k) ok rest = Read k ok ∷ rest
read_at None ok rest = rest

abbrev pub write_at : Option ℕ → List ℕ → Bool → Bool → List Event → List Event
write_at (Some k) content took ok rest = Write k content took ok ∷ rest
write_at None content took ok rest = rest

-- the reads and writes of these blocks, at their places, each sync and each output
abbrev pub view_events : List ℕ → List Event → List Event
view_events blocks [] = []
view_events blocks (Read n ok ∷ journal) = read_at (place_in blocks n) ok (view_events blocks journal)
view_events blocks (Write n content took ok ∷ journal) = write_at (place_in blocks n) content took ok (view_events blocks journal)
view_events blocks (Sync ok ∷ journal) = Sync ok ∷ view_events blocks journal
view_events blocks (Out bytes ∷ journal) = Out bytes ∷ view_events blocks journal

abbrev pub view_history : List ℕ → History → History
view_history blocks h = record { base = view_image blocks h.base; journal = view_events blocks h.journal }

-- what the view tells, of what its disk tells
abbrev pub view_told : List ℕ → Told → Told
view_told blocks told = record { history = option_map (view_history blocks) told.history; blocks = length blocks; faults = told.faults }

-- each block is at its own place, so none is there twice
abbrev pub ArePlaced : List ℕ → Type 0
ArePlaced blocks = (k : ℕ) → k < length blocks → place_in blocks (get_or blocks k 0) ≡ Some k

-- an event of a view, as its disk's
abbrev pub outer : List ℕ → Event → Event
outer blocks (Read k ok) = Read (get_or blocks k 0) ok
outer blocks (Write k content took ok) = Write (get_or blocks k 0) content took ok
outer blocks (Sync ok) = Sync ok
outer blocks (Out bytes) = Out bytes

-- these events read and write only the first n blocks
abbrev pub AreWithin : ℕ → List Event → Type 0
AreWithin n [] = Unit {0}
AreWithin n (Read k ok ∷ events) = (k < n) × AreWithin n events
AreWithin n (Write k content took ok ∷ events) = (k < n) × AreWithin n events
AreWithin n (Sync ok ∷ events) = AreWithin n events
AreWithin n (Out bytes ∷ events) = AreWithin n events

-- a view went on by these events: its disk did, by the same at their blocks, and by no other
pub record GoesOver {D : Type 0} (goes : D → List Event → D → Type 0) (blocks : List ℕ) (events : List Event) (old new : D) : Type 0 where
  pub within : AreWithin (length blocks) events
  pub goes_on : goes old (map (outer blocks) events) new

-- What a stop may leave at place k of the view is what it may leave of that block of the disk, whatever the history of a
-- disk of this size. `Torn written left` says what a stop may leave of a content that was written.
abbrev pub IsLeftAlike : (List ℕ → List ℕ → Type 0) → List ℕ → ℕ → Type 0
IsLeftAlike Torn blocks size = (h : History) → length h.base ≡ size → (k : ℕ) → k < length blocks → (content : List ℕ)
    → MayHold Torn (view_image blocks h.base) (view_events blocks h.journal) k content ↔ MayHold Torn h.base h.journal (get_or blocks k 0) content
