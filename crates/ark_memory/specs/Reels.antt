-- What a device in memory notes.
use Rattle.std.specs.Prelude.{◌≡◌, ◌<◌, ◌≤◌, ◌+◌, ◌*◌, ◌%◌, ℕ, Bool, true, false, List, [], ◌∷◌, ◌++◌, Option, Some, None, length}
use Rattle.ark_media.specs.Journal.{Event, History, AllBlocks, onto, output_of}
use Rattle.ark_media.specs.Calls.{Told}
use Rattle.ark_media.specs.Blocks.{whole_blocks}

-- events in the order in which they came, and how many of them, and how many bytes of output, there is room for in all
pub record Taped : Type 0 where
  pub events : List Event
  pub limit : ℕ
  pub text_limit : ℕ

abbrev pub tape_with : Taped → Event → Taped
tape_with t e = record { events = t.events ++ e ∷ []; limit = t.limit; text_limit = t.text_limit }

abbrev pub no_events : ℕ → ℕ → Taped
no_events limit text_limit = record { events = []; limit = limit; text_limit = text_limit }

-- what there is room for: bytes of the device, events, bytes of output
pub record Limits : Type 0 where
  pub device : ℕ
  pub events : ℕ
  pub text : ℕ

-- the image at first, and the events since, in their order; a reel that was lost tells no more
pub record Reel : Type 0 where
  pub lost : Bool
  pub base : List (List ℕ)
  pub events : List Event
  pub limits : Limits

-- what is seen of a device with these bytes and this tape
abbrev pub reel_of : Bool → List ℕ → Taped → ℕ → Reel
reel_of lost bytes tape limit = record { lost = lost; base = whole_blocks bytes; events = tape.events; limits = record { device = limit; events = tape.limit; text = tape.text_limit } }

abbrev pub with_event : Reel → Event → Reel
with_event r e = record { lost = r.lost; base = r.base; events = r.events ++ e ∷ []; limits = r.limits }

abbrev pub lost_of : Reel → Reel
lost_of r = record { lost = true; base = r.base; events = r.events; limits = r.limits }

abbrev pub begun : Reel → List (List ℕ) → Reel
begun r base = record { lost = r.lost; base = base; events = []; limits = r.limits }

-- no device, with this room
abbrev pub blank : ℕ → ℕ → ℕ → Reel
blank device events text = record { lost = false; base = []; events = []; limits = record { device = device; events = events; text = text } }

-- a device of no blocks
abbrev pub nothing_told : Told
nothing_told = record { history = Some (record { base = []; journal = [] }); blocks = 0; faults = 0 }

abbrev pub told_history : Bool → History → Option History
told_history true h = None
told_history false h = Some h

abbrev pub history_of : Reel → Option History
history_of r = told_history r.lost (record { base = r.base; journal = onto r.events [] })

-- what a device that failed so often tells
abbrev pub told_of : Reel → ℕ → Told
told_of r faults = record { history = history_of r; blocks = length r.base; faults = faults }

-- what is true of a world in memory between its calls
pub record IsReady (found room : ℕ) (reel : Reel) (calls made text : ℕ) : Type 0 where
  pub whole : found % 512 ≡ 0
  pub base : AllBlocks reel.base
  pub found_fits : found ≤ reel.limits.device
  pub room_fits : 512 * room ≤ reel.limits.device
  pub calls_fit : calls ≡ reel.limits.events
  pub events_fit : length reel.events ≤ made
  pub made_fits : made ≤ calls
  pub text_fits : length (output_of reel.events) + text ≤ reel.limits.text
  pub tells : made < calls → reel.lost ≡ false
