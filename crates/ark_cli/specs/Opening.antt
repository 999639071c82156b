-- How a run begins: on a device that is made, or on one that was there.
use Rattle.std.specs.Prelude.{◌≡◌, ◌⊎◌, ◌≤◌, ℕ, Bool, true, false, List, [], ◌∷◌, ◌++◌, length, Option, Some, None, Ok, Err}
use Rattle.ark_base.specs.declared.status.Status.{Status}
use Rattle.ark_base.specs.declared.status.Status.TheVariants.{Device, Sink, Memory, Damaged}
use Rattle.ark_media.specs.Journal.{Event, Out, History, onto, fresh, output_of, device_events, HasFailed}
use Rattle.ark_media.specs.Calls.{Call, Told, Beside, Opening, Adds, StillTold, Takes, Rose, Makes}
use Rattle.ark_media.specs.Parts.{IsUnfinished}
use Rattle.ark_table.specs.Slots.{Slot, slots_of}
use Rattle.ark_table.specs.Superblock.{format_calls}
use Rattle.ark_table.specs.Loading.{read_calls}
use Rattle.ark_table.specs.declared.fault.LoadFault.{LoadFault}
use Rattle.ark_table.specs.declared.fault.LoadFault.TheVariants as fault
use Rattle.ark_script.specs.Text.{text}
use Rattle.ark_script.specs.declared.said.Said.TheVariants.{Ready}
use Rattle.ark_machine.specs.Start.{start_system}
use Rattle.ark_machine.specs.System.{System, fresh_system}
use Rattle.ark_host.specs.declared.host.Host.{Host}
use Rattle.ark_host.specs.Stands.{Stands}

-- What a run begins on: a new device of so many blocks, or one that was there, with its image.
pub data Start : Type 0 where
  new_device : ℕ → Start
  old_device : List (List ℕ) → Start

-- its image before the first event
abbrev pub base_of : Start → List (List ℕ)
base_of (new_device size) = (fresh size).base
base_of (old_device image) = image

-- how many blocks it has
abbrev pub blocks_of : Start → ℕ
blocks_of (new_device size) = size
blocks_of (old_device image) = length image

-- how many blocks were asked for: none where the device is taken as it is
abbrev pub blocks_asked : Start → Option ℕ
blocks_asked (new_device size) = Some size
blocks_asked (old_device image) = None

-- a device of this name was asked for, and that succeeded or not
abbrev pub asking : Option ℕ → List ℕ → Bool → Opening
asking blocks device ok = record { name = device; size = blocks; ok = ok }

-- one device was asked for, and no other
abbrev pub Asks : Opening → Beside → Beside → Type 0
Asks opening before after = after.openings ≡ before.openings ++ opening ∷ []

-- The system from which a run goes on: of a device that was there that of its slots, which it has if it is not damaged.
abbrev pub Starts : Start → System → Type 0
Starts (new_device size) s = s ≡ fresh_system size
Starts (old_device image) s =
    (slots : List Slot) × (slots_of image ≡ Ok slots) × (s ≡ start_system image slots)

-- The calls of a whole opening: a new device is formatted; of an old one the superblock and the slots are read.
abbrev pub opening_calls : Start → List Call
opening_calls (new_device size) = format_calls size
opening_calls (old_device image) = read_calls 129

-- device events with which an opening has begun: none, or those of its first calls, up to and with one that failed
abbrev pub BeginsOpening : Start → List Event → Type 0
BeginsOpening (new_device size) es = (es ≡ []) ⊎ ((ok : Bool) × Makes (format_calls size) ok es)
BeginsOpening (old_device image) es =
    (count : ℕ) × (count ≤ 129) × ((ok : Bool) × Makes (read_calls count) ok es)

-- The device's line tells so many slots: a new one has none; of one that was there the slots are said where its image is told.
abbrev pub TellsSlots : Start → Told → ℕ → Type 0
TellsSlots (new_device size) told slots = slots ≡ 0
TellsSlots (old_device image) told slots =
    (h : History) → told.history ≡ Some h
    → (s : System) × Starts (old_device image) s × (slots ≡ length s.plane.slots)

-- the device of this name could not be made, or attached as it was
pub record NoDevice (blocks : Option ℕ) (device : List ℕ) (told0 told1 : Told)
    (beside0 beside1 : Beside) : Type 0 where
  pub adds : Adds told0.history told1.history []
  pub asks : Asks (asking blocks device false) beside0 beside1
  pub risen : Rose beside0.attach_faults beside1.attach_faults
  pub script : StillTold beside0.script beside1.script
  pub sink : beside1.sink_faults ≡ beside0.sink_faults

-- What the outside tells since the device of this name was opened: these events on its image, and these bytes of the script that
-- were taken. Nothing else was asked for. A device call that failed raised their count.
pub record Since (start : Start) (device : List ℕ) (events : List Event) (bytes : List ℕ)
    (told0 told1 : Told) (beside0 beside1 : Beside) : Type 0 where
  pub begins : (h : History) → told1.history ≡ Some h
      → h ≡ record { base = base_of start; journal = onto events [] }
  pub blocks : told1.blocks ≡ blocks_of start
  pub later : told0.faults ≤ told1.faults
  pub cause : HasFailed events → Rose told0.faults told1.faults
  pub asks : Asks (asking (blocks_asked start) device true) beside0 beside1
  pub attach : beside1.attach_faults ≡ beside0.attach_faults
  pub takes : Takes beside0.script beside1.script bytes
  pub source : beside0.source_faults ≤ beside1.source_faults
  pub sink : beside0.sink_faults ≤ beside1.sink_faults

-- The first part of a run's events is whole: the device was formatted or read, and its line put out, with the slots of the system.
pub record IsOpening (start : Start) (s : System) (part : List Event) : Type 0 where
  pub calls : Makes (opening_calls start) true (device_events part)
  pub output : output_of part ≡ text (Ready (blocks_of start) (length s.plane.slots)) []

-- the device is ready
pub record IsReady (start : Start) (device : List ℕ) (told0 told1 : Told) (beside0 beside1 : Beside)
    : Type 0 where
  pub events : List Event
  pub calls : Makes (opening_calls start) true events
  pub slots : ℕ
  pub tells : TellsSlots start told1 slots
  pub since : Since start device (events ++ Out (text (Ready (blocks_of start) slots) []) ∷ []) []
      told0 told1 beside0 beside1

-- the device was there: it was not made
abbrev pub WasThere : Start → Type 0
WasThere (new_device size) = ⊥
WasThere (old_device image) = Unit {0}

-- the device was there, and where its image is told this is the first block that breaks a rule
abbrev pub IsDamagedAt : Start → Told → ℕ → Type 0
IsDamagedAt (new_device size) told block = ⊥
IsDamagedAt (old_device image) told block =
    (h : History) → told.history ≡ Some h → slots_of image ≡ Err block

-- Why no line of the device came: a call failed; or a device that was there is damaged and no read failed, or memory was wanting.
abbrev pub Fails : Start → Told → Status → List Event → Type 0
Fails start told Device es = HasFailed es
Fails start told Memory es = WasThere start
Fails start told (Damaged block) es = IsDamagedAt start told block × (HasFailed es → ⊥)
Fails start told _ es = ⊥

-- A device that was there and is told to be damaged ends the run so, unless a call of these failed or memory was wanting.
abbrev pub HeedsDamage : Start → Told → Status → List Event → Type 0
HeedsDamage (new_device size) told status es = Unit {0}
HeedsDamage (old_device image) told status es =
    (h : History) → told.history ≡ Some h
    → (block : ℕ) → slots_of image ≡ Err block
    → (HasFailed es → ⊥)
    → (status ≡ Damaged block) ⊎ (status ≡ Memory)

-- the device was there or was made, and nothing came out
pub record IsUnready (start : Start) (device : List ℕ) (told0 told1 : Told)
    (beside0 beside1 : Beside) (status : Status) : Type 0 where
  pub events : List Event
  pub begins : BeginsOpening start events
  pub since : Since start device events [] told0 told1 beside0 beside1
  pub fails : Fails start told1 status events
  pub heeds : HeedsDamage start told1 status events

-- The device was made and formatted, and nothing came out.
pub record IsFormatted (size : ℕ) (device : List ℕ) (told0 told1 : Told) (beside0 beside1 : Beside)
    : Type 0 where
  pub events : List Event
  pub calls : Makes (format_calls size) true events
  pub since : Since (new_device size) device events [] told0 told1 beside0 beside1

-- No device was made, or a call of its formatting failed.
abbrev pub FormatsNot : ℕ → List ℕ → Told → Told → Beside → Beside → Status → Type 0
FormatsNot size device told0 told1 beside0 beside1 status =
    (status ≡ Device)
    × (NoDevice (Some size) device told0 told1 beside0 beside1
    ⊎ IsUnready (new_device size) device told0 told1 beside0 beside1 Device)

-- the device was formatted or read, and the put of its line failed: all of it came out, or a part with no newline
pub record IsUnshown (start : Start) (device : List ℕ) (told0 told1 : Told)
    (beside0 beside1 : Beside) : Type 0 where
  pub events : List Event
  pub part : List ℕ
  pub calls : Makes (opening_calls start) true events
  pub slots : ℕ
  pub tells : TellsSlots start told1 slots
  -- the bytes that did not come out
  pub more : List ℕ
  pub front : text (Ready (blocks_of start) slots) [] ≡ part ++ more
  pub cut : (part ≡ text (Ready (blocks_of start) slots) []) ⊎ IsUnfinished (Out part ∷ [])
  pub since : Since start device (events ++ Out part ∷ []) [] told0 told1 beside0 beside1

-- how an opening fails
abbrev pub OpensNot : Option ℕ → List ℕ → Told → Told → Beside → Beside → Status → Type 0
OpensNot blocks device told0 told1 beside0 beside1 status =
    ((status ≡ Device) × NoDevice blocks device told0 told1 beside0 beside1)
    ⊎ ((start : Start) × (blocks_asked start ≡ blocks)
    × IsUnready start device told0 told1 beside0 beside1 status)
    ⊎ ((start : Start) × (blocks_asked start ≡ blocks) × (status ≡ Sink)
    × IsUnshown start device told0 told1 beside0 beside1)

-- A device that was there is ready, and this host stands for the system of its slots.
pub record IsReadyFor (host : Host) (device : List ℕ) (told0 told1 : Told)
    (beside0 beside1 : Beside) : Type 0 where
  pub image : List (List ℕ)
  pub ready : IsReady (old_device image) device told0 told1 beside0 beside1
  pub stands : (h : History) → told1.history ≡ Some h
      → (s : System) × Starts (old_device image) s × Stands host told1.blocks h s

-- the status of a device whose table can't be loaded
abbrev pub status_for : LoadFault → Status
status_for fault.DeviceFault = Device
status_for (fault.Damaged block) = Damaged block
status_for fault.Memory = Memory
