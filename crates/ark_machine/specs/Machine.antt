-- What one application knows of itself: its private machine.
use Rattle.std.specs.Prelude.{ℕ, ◌+◌, Bool, false, not, List, [], ◌∷◌, ◌++◌, length, map, nat_le, ◌==◌, if◌then◌else◌, Option, Some, None, is_none, option_map, option_and_then, find, filter as select, unwrap_or, bytes_eq}
use Rattle.std.specs.List.{list_any, flat_map}
use Rattle.ark_filters.specs.declared.filter.Filter.{Filter}
use Rattle.ark_vic.specs.declared.door.Counts.{Counts}
use Rattle.ark_caladan.specs.Chain.{Log}
use Rattle.ark_machine.specs.Bytes.{Frames, place}
use Rattle.ark_machine.specs.Objects
use Rattle.ark_machine.specs.Objects.{Object, Raw, Vsic, Vnic, Buffer, Socket, as_raw, as_log, as_vsic, as_vnic, as_filter, as_door, as_rate, as_buffer, as_socket, object_frames}

-- a label, the number of its object, and the object
pub record Held : Type 0 where
  pub label : List ℕ
  pub serial : ℕ
  pub object : Object

pub record Machine : Type 0 where
  -- whether it was made in this run
  pub made : Bool
  -- the frames of its region, 512 bytes each
  pub frames : ℕ
  -- the tick
  pub now : ℕ
  -- the number of the next object: a new object under an old label is another one
  pub serial : ℕ
  -- in the order of granting
  pub held : List Held

-- an application that was not made and holds nothing
abbrev pub unmade : Machine
unmade = record { made = false; frames = 0; now = 0; serial = 0; held = [] }

-- What it holds.

abbrev pub at : Machine → List ℕ → Option Held
at m l = find (λ h. bytes_eq l h.label) m.held

abbrev pub at_serial : Machine → ℕ → Option Held
at_serial m n = find (λ h. h.serial == n) m.held

abbrev pub object_at : Machine → List ℕ → Option Object
object_at m l = option_map (λ h. h.object) (at m l)

abbrev pub raw_at : Machine → List ℕ → Option Raw
raw_at m l = option_and_then as_raw (object_at m l)

abbrev pub log_at : Machine → List ℕ → Option Log
log_at m l = option_and_then as_log (object_at m l)

abbrev pub vsic_at : Machine → List ℕ → Option Vsic
vsic_at m l = option_and_then as_vsic (object_at m l)

abbrev pub vnic_at : Machine → List ℕ → Option Vnic
vnic_at m l = option_and_then as_vnic (object_at m l)

abbrev pub filter_at : Machine → List ℕ → Option Filter
filter_at m l = option_and_then as_filter (object_at m l)

abbrev pub door_at : Machine → List ℕ → Option Counts
door_at m l = option_and_then as_door (object_at m l)

abbrev pub rate_at : Machine → List ℕ → Option (ℕ × ℕ)
rate_at m l = option_and_then as_rate (object_at m l)

abbrev pub buffer_at : Machine → List ℕ → Option Buffer
buffer_at m l = option_and_then as_buffer (object_at m l)

abbrev pub socket_at : Machine → List ℕ → Option Socket
socket_at m l = option_and_then as_socket (object_at m l)

-- the number of the object at a label that is held
abbrev pub serial_at : Machine → List ℕ → ℕ
serial_at m l = unwrap_or (option_map (λ h. h.serial) (at m l)) 0

-- the label of the object of a number
abbrev pub label_numbered : Machine → ℕ → List ℕ
label_numbered m n = unwrap_or (option_map (λ h. h.label) (at_serial m n)) []

-- whether an object is there of which this holds
abbrev pub is_so : (Object → Bool) → Option Object → Bool
is_so p o = unwrap_or (option_map p o) false

-- whether it holds an object of which this holds
abbrev pub holds_any : Machine → (Object → Bool) → Bool
holds_any m p = list_any (λ h. p h.object) m.held

abbrev pub held_count : (Object → Bool) → Machine → ℕ
held_count p m = length (select (λ h. p h.object) m.held)

-- the first of the labels, from the left, that it does not hold
abbrev pub missing : Machine → List (List ℕ) → Option (List ℕ)
missing m ls = find (λ l. is_none (at m l)) ls

-- the label that may be there, as a list
abbrev pub given_label : Option (List ℕ) → List (List ℕ)
given_label None = []
given_label (Some l) = l ∷ []

-- no more labels than these
abbrev pub max_labels : ℕ
max_labels = 64

abbrev pub is_full : Machine → Bool
is_full m = nat_le max_labels (length m.held)

-- The machine with another content.

abbrev pub holding : Object → Held → Held
holding o h = record h { object = o }

-- another content of the object at a label
abbrev pub with_object : Machine → List ℕ → Object → Machine
with_object m l o = record m { held = map (λ h. if bytes_eq l h.label then holding o h else h) m.held }

-- each object changed
abbrev pub each_object : (Object → Object) → Machine → Machine
each_object f m = record m { held = map (λ h. holding (f h.object) h) m.held }

-- a new object under a new label
abbrev pub with_new : Machine → List ℕ → Object → Machine
with_new m l o = record m { serial = m.serial + 1; held = m.held ++ (record { label = l; serial = m.serial; object = o }) ∷ [] }

abbrev pub without : Machine → List ℕ → Machine
without m l = record m { held = select (λ h. not (bytes_eq l h.label)) m.held }

-- another state of what is at a label, where that is of its kind
abbrev pub with_vsic : Machine → List ℕ → (Vsic → Vsic) → Machine
with_vsic m v f = unwrap_or (option_map (λ x. with_object m v (Objects.vsic (f x))) (vsic_at m v)) m

abbrev pub with_vnic : Machine → List ℕ → (Vnic → Vnic) → Machine
with_vnic m v f = unwrap_or (option_map (λ x. with_object m v (Objects.vnic (f x))) (vnic_at m v)) m

abbrev pub with_log : Machine → List ℕ → (Log → Log) → Machine
with_log m s f = unwrap_or (option_map (λ x. with_object m s (Objects.log (f x))) (log_at m s)) m

abbrev pub with_buffer : Machine → List ℕ → (Buffer → Buffer) → Machine
with_buffer m b f = unwrap_or (option_map (λ x. with_object m b (Objects.buffer (f x))) (buffer_at m b)) m

abbrev pub with_socket : Machine → List ℕ → (Socket → Socket) → Machine
with_socket m k f = unwrap_or (option_map (λ x. with_object m k (Objects.socket (f x))) (socket_at m k)) m

-- Its region.

-- the frames of its live buffers
abbrev pub live_frames : Machine → List Frames
live_frames m = flat_map (λ h. object_frames h.object) m.held

-- where a buffer of so many frames has its place
abbrev pub room_for : Machine → ℕ → Option ℕ
room_for m frames = place (live_frames m) frames m.frames

-- the bytes of the buffer at a label
abbrev pub bytes_at : Machine → List ℕ → List ℕ
bytes_at m b = unwrap_or (option_map (λ x. x.bytes) (buffer_at m b)) []
