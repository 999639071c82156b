-- What a disk and an output went through, and what stands on the disk after it.
use Rattle.std.specs.Prelude.{◌≡◌, ◌⊎◌, ◌<◌, ℕ, Bool, true, false, List, [], ◌∷◌, ◌++◌, length, replicate, set, get_or}

-- One call and what came of it: a read of a block, a write (its block, its content, whether it took effect, whether it
-- succeeded), a sync, or bytes put out.
pub data Event : Type 0 where
  Read : ℕ → Bool → Event
  Write : ℕ → List ℕ → Bool → Bool → Event
  Sync : Bool → Event
  Out : List ℕ → Event

-- a base image, and what was done since, the last event first
pub record History : Type 0 where
  pub base : List (List ℕ)
  pub journal : List Event

-- a journal after these events; they came in the order of their list
abbrev pub onto : List Event → List Event → List Event
onto [] journal = journal
onto (e ∷ es) journal = onto es (e ∷ journal)

abbrev pub zero_block : List ℕ
zero_block = replicate 512 0

-- a fresh device of n zero blocks
abbrev pub fresh : ℕ → History
fresh n = record { base = replicate n zero_block; journal = [] }

-- what was put out
abbrev pub output_of : List Event → List ℕ
output_of [] = []
output_of (Out bytes ∷ es) = bytes ++ output_of es
output_of (Read n ok ∷ es) = output_of es
output_of (Write n content took ok ∷ es) = output_of es
output_of (Sync ok ∷ es) = output_of es

-- what was done to the disk
abbrev pub device_events : List Event → List Event
device_events [] = []
device_events (Out bytes ∷ es) = device_events es
device_events (Read n ok ∷ es) = Read n ok ∷ device_events es
device_events (Write n content took ok ∷ es) = Write n content took ok ∷ device_events es
device_events (Sync ok ∷ es) = Sync ok ∷ device_events es

-- whether no device call failed in it
abbrev pub has_succeeded : Event → Bool
has_succeeded (Out bytes) = true
has_succeeded (Read n ok) = ok
has_succeeded (Write n content took ok) = ok
has_succeeded (Sync ok) = ok

-- one of them is a device call that failed
abbrev pub HasFailed : List Event → Type 0
HasFailed [] = ⊥
HasFailed (e ∷ es) = (has_succeeded e ≡ false) ⊎ HasFailed es

-- reads, and nothing else
abbrev pub AreReads : List Event → Type 0
AreReads [] = Unit {0}
AreReads (Read n ok ∷ es) = AreReads es
AreReads _ = ⊥

-- a block of an image
abbrev pub block : List (List ℕ) → ℕ → List ℕ
block image n = get_or image n []

-- each block of an image has 512 bytes
abbrev pub AllBlocks : List (List ℕ) → Type 0
AllBlocks image = (n : ℕ) → n < length image → length (block image n) ≡ 512

-- the image after all writes that took
abbrev pub current : List (List ℕ) → List Event → List (List ℕ)
current base [] = base
current base (Write n content true ok ∷ journal) = set (current base journal) n content
current base (Write n content false ok ∷ journal) = current base journal
current base (Read n ok ∷ journal) = current base journal
current base (Sync ok ∷ journal) = current base journal
current base (Out bytes ∷ journal) = current base journal
