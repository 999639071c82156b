-- What a call of a world in memory does by its turn.
use Rattle.std.specs.Prelude.{◌≡◌, ℕ, ◌+◌, ◌-◌, ◌^◌, ◌<◌, min, Bool, true, false, ◌&&◌, List, length, if◌then◌else◌}
use Rattle.ark_media.specs.Journal.{Read, Write, Sync, Out}
use Rattle.ark_memory.specs.Reels.{Reel, with_event, lost_of, begun}
use Rattle.ark_memory.specs.declared.schedule.Turn.{Turn}
use Rattle.ark_memory.specs.declared.schedule.Turn.TheVariants as turn

abbrev pub works : Turn → Bool
works turn.Works = true
works (turn.Fails took part) = false
works turn.Over = false

-- whether a write takes effect
abbrev pub takes : Turn → Bool
takes turn.Works = true
takes (turn.Fails took part) = took
takes turn.Over = false

-- whether it comes after the last call that is noted
abbrev pub is_over : Turn → Bool
is_over turn.Works = false
is_over (turn.Fails took part) = false
is_over turn.Over = true

-- how many bytes a put lets out, where so many are to be put and so many have room
abbrev pub let_out : Turn → ℕ → ℕ → ℕ
let_out turn.Works bytes room = min room bytes
let_out (turn.Fails took part) bytes room = min (min room bytes) part
let_out turn.Over bytes room = 0

-- a count of failures after a call that worked or not
abbrev pub counted : Bool → ℕ → ℕ
counted true count = count
counted false count = min (count + 1) (2 ^ 64 - 1)

-- The device after a call that makes the one of the other. A call past the end does nothing, and no history is told any more.
abbrev pub after_call : Turn → Reel → Reel → Reel
after_call turn old new = if is_over turn then lost_of old else new

-- a device call is noted by its one event
abbrev pub after_read : Turn → ℕ → Reel → Reel
after_read turn n r = after_call turn r (with_event r (Read n (works turn)))

abbrev pub after_write : Turn → ℕ → List ℕ → Reel → Reel
after_write turn n content r = after_call turn r (with_event r (Write n content (takes turn) (works turn)))

abbrev pub after_sync : Turn → Reel → Reel
after_sync turn r = after_call turn r (with_event r (Sync (works turn)))

-- so is what a put lets out
abbrev pub after_put : Turn → List ℕ → Reel → Reel
after_put turn part r = after_call turn r (with_event r (Out part))

-- a fetch leaves the device
abbrev pub after_fetch : Turn → Reel → Reel
after_fetch turn r = after_call turn r r

-- a device that is attached or made begins with this base, where it works and fits
abbrev pub after_begin : Turn → Bool → List (List ℕ) → Reel → Reel
after_begin turn fits base r = after_call turn r (if works turn && fits then begun r base else r)

-- there is room for an event, unless the call comes past the end
abbrev pub HasRoom : Turn → Reel → Type 0
HasRoom turn r = is_over turn ≡ false → length r.events < r.limits.events
