-- Where the buffers of an open log lie, and what they hold.
use Rattle.std.specs.Prelude.{◌≡◌, ◌*◌, ℕ, zero, suc, List, [], ◌∷◌, flat_map, length, get_or, map, Option, None}
use Rattle.ark_region.specs.Frames.{Piece, Space, bytes_of}
use Rattle.ark_entry.specs.Entry.{entry_blocks}
use Rattle.ark_entry.specs.Found.{Entries}
use Rattle.ark_caladan.specs.Chain as log
use Rattle.ark_caladan.specs.Postings.{HasRead}
use Rattle.ark_caladan.specs.Standing.{Progress, idle, posted, ended}
use Rattle.ark_log.specs.declared.command.Command.{Command}
use Rattle.ark_log.specs.declared.command.Command.TheVariants.{Append, Trim, Pop}
use Rattle.ark_log.specs.declared.command.Waiting.{Waiting}
use Rattle.ark_log.specs.Open.{OpenChain}

-- where a command's buffer lies; a trim has none
abbrev pub buffers_by : Command → Waiting → List Piece
buffers_by (Append n) w = record { start = w.start; len = 512 * entry_blocks w.len } ∷ []
buffers_by (Trim n) w = []
buffers_by (Pop n) w = record { start = w.start; len = 512 * entry_blocks w.len } ∷ []

abbrev pub buffers_of : Waiting → List Piece
buffers_of w = buffers_by w.command w

abbrev pub header_piece : OpenChain → Piece
header_piece v = record { start = v.header_at; len = 512 }

-- all buffers of an open log, also one that a descriptor has
abbrev pub pieces_of : OpenChain → List Piece
pieces_of v = header_piece v ∷ flat_map buffers_of v.waiting

-- a trim never has a buffer
abbrev pub HasNoneOfTrim : Command → Option Piece → Type 0
HasNoneOfTrim (Append n) buf = Unit {0}
HasNoneOfTrim (Trim n) buf = buf ≡ None
HasNoneOfTrim (Pop n) buf = Unit {0}

-- the entry that a command adds or drops is so long
abbrev pub IsLengthOf : Entries → ℕ → log.Command → Type 0
IsLengthOf l len (log.append n payload) = len ≡ length payload
IsLengthOf l len (log.trim n) = Unit {0}
IsLengthOf l len (log.pop n) = len ≡ length (get_or l.payloads 0 [])

abbrev pub HaveLengths : Entries → List Waiting → List log.Command → Type 0
HaveLengths l [] [] = Unit {0}
HaveLengths l (w ∷ ws) (c ∷ cs) = IsLengthOf l w.len c × HaveLengths (log.after_command l c) ws cs
HaveLengths l _ _ = ⊥

-- the bytes in a command's buffer, none of a trim
abbrev pub bytes_in : Space → List Piece → List ℕ
bytes_in space [] = []
bytes_in space (b ∷ bs) = bytes_of space b

abbrev pub entry_bytes_in : Space → Waiting → List ℕ
entry_bytes_in space w = bytes_in space (buffers_of w)

-- a command of the machine has its buffer there
abbrev pub IsRoomOf : Waiting → log.Waiting → Type 0
IsRoomOf w m = m.room ≡ map (λ b. (b.start, entry_blocks w.len)) (buffers_of w)

abbrev pub AreRoomsOf : List Waiting → List log.Waiting → Type 0
AreRoomsOf [] [] = Unit {0}
AreRoomsOf (w ∷ ws) (m ∷ ms) = IsRoomOf w m × AreRoomsOf ws ms
AreRoomsOf _ _ = ⊥

-- of an entry of so many blocks that is popped so many are read
abbrev pub blocks_read : ℕ → ℕ → Progress → ℕ
blocks_read (suc done) blocks progress = blocks
blocks_read zero blocks idle = 0
blocks_read zero blocks (posted n) = n
blocks_read zero blocks (ended ok) = blocks

-- so many blocks of the list were read into the buffer of a pop
abbrev pub HasReadFor : Command → List (List ℕ) → ℕ → List ℕ → Type 0
HasReadFor (Append n) stored count bytes = Unit {0}
HasReadFor (Trim n) stored count bytes = Unit {0}
HasReadFor (Pop n) stored count bytes = HasRead stored count bytes
