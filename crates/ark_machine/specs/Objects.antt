-- What an application may hold.
use Rattle.std.specs.Prelude.{ℕ, ◌+◌, Bool, true, false, List, [], ◌∷◌, ◌++◌, length, Option, Some, None}
use Rattle.std.specs.List.{flat_map}
use Rattle.ark_base.specs.declared.kind.Outcome.{Outcome}
use Rattle.ark_filters.specs.declared.filter.Filter.{Filter}
use Rattle.ark_region.specs.Frames.{frames_of}
use Rattle.ark_vic.specs.Pace.{Pass}
use Rattle.ark_vic.specs.declared.door.Counts.{Counts}
use Rattle.ark_caladan.specs.Chain.{Log, Opened, Phase}
use Rattle.ark_machine.specs.Bytes.{Frames}

-- an area of blocks
pub record Raw : Type 0 where
  pub content : List (List ℕ)
  -- of each block, the contents that it may have after a stop
  pub maybe : List (List (List ℕ))

-- a ring of a card: two lists, and how many blocks the oldest posted descriptor has moved
pub record Queue (P U : Type 0) : Type 0 where
  pub posted : List P
  pub moved : ℕ
  pub unreaped : List U

-- posted and unreaped descriptors together
abbrev pub held_in : {P U : Type 0} → Queue P U → ℕ
held_in q = length q.posted + length q.unreaped

abbrev pub no_queue : {P U : Type 0} → Queue P U
no_queue = record { posted = []; moved = 0; unreaped = [] }

-- blocks between an area, by the number of its object, and a buffer
pub record Transfer : Type 0 where
  pub put : Bool
  pub vsa : ℕ
  pub off : ℕ
  pub count : ℕ
  pub buffer : List ℕ

-- what a storage card's descriptor asks for: blocks, a sync, or a phase of the log that is open on it
pub data Job : Type 0 where
  transfer : Transfer → Job
  flush : Job
  phase : Phase → Job

-- the rate of a queue, under the label that gave it, with the passes since it paces the queue
pub record Paced : Type 0 where
  pub rate : List ℕ
  pub q : ℕ
  pub burst : ℕ
  pub passes : List Pass

pub record Vsic : Type 0 where
  pub size : ℕ
  pub queue : Queue Job (Job × Outcome)
  -- the areas, by the numbers of their objects, that descriptors may name; while a log is open on the card, its number too
  pub bound : List ℕ
  pub pace : Option Paced
  pub door : Option (List ℕ)

pub record Buffer : Type 0 where
  pub start : ℕ
  pub bytes : List ℕ

-- where a network card's frame stands: in a buffer that the application named, or in one that the card's sockets took
pub data Place : Type 0 where
  named : List ℕ → Place
  taken : Buffer → Place

pub record Vnic : Type 0 where
  pub rx_size : ℕ
  pub tx_size : ℕ
  -- unreaped with the frame's length
  pub rx : Queue Place (Place × ℕ)
  -- posted with the frame's length
  pub tx : Queue (Place × ℕ) (Place × Outcome)
  pub rx_pace : Option Paced
  pub tx_pace : Option Paced
  pub rx_door : Option (List ℕ)
  pub tx_door : Option (List ℕ)
  -- whether a socket was made on it
  pub socketed : Bool

-- the sender's address and port, and the payload
pub record Datagram : Type 0 where
  pub ip : List ℕ
  pub port : ℕ
  pub payload : List ℕ

pub record Socket : Type 0 where
  pub card : List ℕ
  pub port : ℕ
  pub datagrams : List Datagram

pub data Object : Type 0 where
  raw : Raw → Object
  log : Log → Object
  vsic : Vsic → Object
  vnic : Vnic → Object
  -- with the card that it is assigned to
  filter : Filter → Option (List ℕ) → Object
  door : Counts → Object
  -- bytes a tick, and bytes of a burst
  rate : ℕ → ℕ → Object
  buffer : Buffer → Object
  socket : Socket → Object

abbrev pub as_raw : Object → Option Raw
as_raw (raw r) = Some r
as_raw _ = None

abbrev pub as_log : Object → Option Log
as_log (log g) = Some g
as_log _ = None

abbrev pub as_vsic : Object → Option Vsic
as_vsic (vsic v) = Some v
as_vsic _ = None

abbrev pub as_vnic : Object → Option Vnic
as_vnic (vnic v) = Some v
as_vnic _ = None

abbrev pub as_filter : Object → Option Filter
as_filter (filter f card) = Some f
as_filter _ = None

abbrev pub as_door : Object → Option Counts
as_door (door c) = Some c
as_door _ = None

-- bytes a tick, and bytes of a burst
abbrev pub as_rate : Object → Option (ℕ × ℕ)
as_rate (rate q b) = Some (q, b)
as_rate _ = None

abbrev pub as_buffer : Object → Option Buffer
as_buffer (buffer b) = Some b
as_buffer _ = None

abbrev pub as_socket : Object → Option Socket
as_socket (socket k) = Some k
as_socket _ = None

abbrev pub is_vsa : Object → Bool
is_vsa (raw r) = true
is_vsa (log g) = true
is_vsa _ = false

abbrev pub is_card : Object → Bool
is_card (vsic v) = true
is_card (vnic v) = true
is_card _ = false

abbrev pub is_filter : Object → Bool
is_filter (filter f card) = true
is_filter _ = false

abbrev pub is_buffer : Object → Bool
is_buffer (buffer b) = true
is_buffer _ = false

-- The frames of an application's region that an object has.

abbrev pub buffer_frames : Buffer → Frames
buffer_frames b = (b.start, frames_of (length b.bytes))

abbrev pub opened_frames : Option Opened → List Frames
opened_frames None = []
opened_frames (Some o) = (o.header_frame, 1) ∷ flat_map (λ w. w.room) o.waiting

abbrev pub place_frames : Place → List Frames
place_frames (named b) = []
place_frames (taken b) = buffer_frames b ∷ []

abbrev pub vnic_frames : Vnic → List Frames
vnic_frames v =
    flat_map place_frames v.rx.posted ++ (flat_map (λ u. place_frames u.0) v.rx.unreaped
    ++ (flat_map (λ p. place_frames p.0) v.tx.posted ++ flat_map (λ u. place_frames u.0) v.tx.unreaped))

abbrev pub object_frames : Object → List Frames
object_frames (buffer b) = buffer_frames b ∷ []
object_frames (log g) = opened_frames g.opened
object_frames (vnic v) = vnic_frames v
object_frames _ = []
