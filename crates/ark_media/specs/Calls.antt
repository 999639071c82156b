-- Calls of the outside, and what each of them leaves.
use Rattle.std.specs.Prelude.{◌≡◌, ◌⊎◌, ℕ, ◌+◌, ◌-◌, ◌^◌, ◌≤◌, min, Bool, true, false, List, [], ◌∷◌, ◌++◌, length, take, Option, Some, None, Result, OnOk, OnErr}
use Rattle.ark_media.specs.Journal.{Event, Read, Write, Sync, Out, History, onto, HasFailed, block, current}

-- a device call that is to be made
pub data Call : Type 0 where
  Reads : ℕ → Call
  Writes : ℕ → List ℕ → Call
  Syncs : Call

-- what a call may come to; a write that fails may have taken effect or not
abbrev pub Comes : Call → Bool → Event → Type 0
Comes (Reads n) ok event = event ≡ Read n ok
Comes (Writes n content) ok event = (took : Bool) × (ok ≡ true → took ≡ true) × (event ≡ Write n content took ok)
Comes Syncs ok event = event ≡ Sync ok

-- the events are what came of these calls, made in turn up to and with the first that fails
abbrev pub Makes : List Call → Bool → List Event → Type 0
Makes [] ok [] = ok ≡ true
Makes [] ok (e ∷ es) = ⊥
Makes (c ∷ cs) ok [] = ⊥
Makes (c ∷ cs) ok (e ∷ es) = (Comes c true e × Makes cs ok es) ⊎ (Comes c false e × (ok ≡ false) × (es ≡ []))

-- what a disk tells of itself: its history if it tells that, its number of blocks, and how often it has failed
pub record Told : Type 0 where
  pub history : Option History
  pub blocks : ℕ
  pub faults : ℕ

-- of the current image, where it is told
abbrev pub OnTold : Told → (List (List ℕ) → Type 0) → Type 0
OnTold told Holds = (h : History) → told.history ≡ Some h → Holds (current h.base h.journal)

-- bytes of the script, taken and left
pub record Script : Type 0 where
  pub taken : List ℕ
  pub left : List ℕ

-- A device was asked for: the bytes of its name; of how many blocks it was to be made, none where it was to be attached as it
-- is found; and whether that succeeded.
pub record Opening : Type 0 where
  pub name : List ℕ
  pub size : Option ℕ
  pub ok : Bool

abbrev pub attaching : List ℕ → Bool → Opening
attaching name ok = record { name = name; size = None; ok = ok }

abbrev pub making : List ℕ → ℕ → Bool → Opening
making name blocks ok = record { name = name; size = Some blocks; ok = ok }

-- what an outside tells beside its disk: the script if it tells that; the openings so far, the first one first; and how often
-- attaching or making a device, a fetch, and a put have failed
pub record Beside : Type 0 where
  pub script : Option Script
  pub openings : List Opening
  pub attach_faults : ℕ
  pub source_faults : ℕ
  pub sink_faults : ℕ

-- where the history is still told, it was told before, and has got these events and no others
pub record Adds (before after : Option History) (added : List Event) : Type 0 where
  pub told : (h : History) → after ≡ Some h →
      (journal : List Event) × (before ≡ Some (record { base = h.base; journal = journal })) × (h.journal ≡ onto added journal)

-- the count has risen, or stands at its end
abbrev pub Rose : ℕ → ℕ → Type 0
Rose before now = min (before + 1) (2 ^ 64 - 1) ≤ now

-- what a disk tells goes on by these events
pub record Tells (events : List Event) (old new : Told) : Type 0 where
  pub adds : Adds old.history new.history events
  pub blocks : new.blocks ≡ old.blocks
  pub later : old.faults ≤ new.faults
  pub cause : HasFailed events → Rose old.faults new.faults

-- the disk was not called: its history has got these events, and all else that it tells stays
pub record Rests (events : List Event) (old new : Told) : Type 0 where
  pub adds : Adds old.history new.history events
  pub blocks : new.blocks ≡ old.blocks
  pub faults : new.faults ≡ old.faults

-- from old to new these calls were made, up to and with the first that fails, and nothing else
pub record Went {D : Type 0} (goes : D → List Event → D → Type 0) (plan : List Call) (ok : Bool) (old new : D) : Type 0 where
  pub events : List Event
  pub makes : Makes plan ok events
  pub goes_on : goes old events new

-- it went on by some events, of which P holds
pub record GoesBy {D : Type 0} (goes : D → List Event → D → Type 0) (old new : D) (P : List Event → Type 0) : Type 0 where
  pub events : List Event
  pub goes_on : goes old events new
  pub does : P events

-- a read gives the block of the current image, where this is told
pub record GivesBlock (after : Option History) (n : ℕ) (out : List ℕ) : Type 0 where
  pub told : (h : History) → after ≡ Some h → out ≡ block (current h.base h.journal) n

-- what is told after was told before, with the same value
pub record StillTold {A : Type 0} (before after : Option A) : Type 0 where
  pub told : (x : A) → after ≡ Some x → before ≡ Some x

-- the count rose where it failed, and nowhere else
pub record HasCause {T E : Type 0} (before now : ℕ) (result : Result T E) : Type 0 where
  pub later : before ≤ now
  pub failed : OnErr result (Rose before now)
  pub worked : OnOk result (now ≡ before)

-- bytes were put out: all, or where it failed a prefix of them
pub record Puts (old new : Told) (bytes : List ℕ) (ok : Bool) : Type 0 where
  pub part : List ℕ
  pub more : List ℕ
  pub prefix : bytes ≡ part ++ more
  pub all : ok ≡ true → more ≡ []
  pub rests : Rests (Out part ∷ []) old new

-- count bytes of the script went to the front of out; none only at its end
pub record Fetches (before after : Option Script) (count : ℕ) (out : List ℕ) : Type 0 where
  pub fits : count ≤ length out
  pub told : (s : Script) → after ≡ Some s →
      (t : Script) × (before ≡ Some t) × (s.taken ≡ t.taken ++ take count out) × (t.left ≡ take count out ++ s.left) × (count ≡ 0 → s.left ≡ [])

-- where the script is still told, it was told before, and these bytes of it were taken and no others
pub record Takes (before after : Option Script) (bytes : List ℕ) : Type 0 where
  pub told : (s : Script) → after ≡ Some s → (t : Script) × (before ≡ Some t) × (s.taken ≡ t.taken ++ bytes) × (t.left ≡ bytes ++ s.left)

-- What each call leaves of what is told beside the disk: a call of the disk,
pub record KeepsBeside (before after : Beside) : Type 0 where
  pub script : StillTold before.script after.script
  pub openings : after.openings ≡ before.openings
  pub attach : after.attach_faults ≡ before.attach_faults
  pub source : after.source_faults ≡ before.source_faults
  pub sink : after.sink_faults ≡ before.sink_faults

-- attach or make,
pub record KeepsAtAttach (before after : Beside) : Type 0 where
  pub script : StillTold before.script after.script
  pub source : after.source_faults ≡ before.source_faults
  pub sink : after.sink_faults ≡ before.sink_faults

-- fetch,
pub record KeepsAtFetch (before after : Beside) : Type 0 where
  pub openings : after.openings ≡ before.openings
  pub attach : after.attach_faults ≡ before.attach_faults
  pub sink : after.sink_faults ≡ before.sink_faults

-- and put.
pub record KeepsAtPut (before after : Beside) : Type 0 where
  pub script : StillTold before.script after.script
  pub openings : after.openings ≡ before.openings
  pub attach : after.attach_faults ≡ before.attach_faults
  pub source : after.source_faults ≡ before.source_faults

-- What an outside tells goes on by these events and bytes of the script, with no device attached or made.
pub record Goes (events : List Event) (bytes : List ℕ) (told0 told1 : Told) (beside0 beside1 : Beside) : Type 0 where
  pub tells : Tells events told0 told1
  pub takes : Takes beside0.script beside1.script bytes
  pub openings : beside1.openings ≡ beside0.openings
  pub attach : beside1.attach_faults ≡ beside0.attach_faults
  pub source : beside0.source_faults ≤ beside1.source_faults
  pub sink : beside0.sink_faults ≤ beside1.sink_faults

-- what a whole world tells, where its disk alone was called
pub record Moves (events : List Event) (told0 told1 : Told) (beside0 beside1 : Beside) : Type 0 where
  pub tells : Tells events told0 told1
  pub keeps : KeepsBeside beside0 beside1
