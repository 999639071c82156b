-- A frame arrives at a network card.
use Rattle.std.specs.Prelude.{◌≡◌, ℕ, List, Bool, nat_lt, if◌then◌else◌, Option, Some, None, option_map, unwrap_or, MatchOption}
use Rattle.ark_base.specs.declared.kind.Outcome.TheVariants as outcome
use Rattle.ark_region.specs.Frames.{Space, LiesInRegion, Wrote}
use Rattle.ark_vic.specs.Pace.{Pace}
use Rattle.ark_vic.specs.declared.descriptor.Descriptor.{Descriptor}
use Rattle.ark_vnic.specs.Card.{NetCard, head_of, ended, may_pass, passed}
use Rattle.ark_vnic.specs.declared.arrived.Arrived.{Arrived}
use Rattle.ark_vnic.specs.declared.arrived.Arrived.TheVariants as arrived

-- the bytes that a descriptor's buffer has
abbrev pub room_of : Descriptor → ℕ
room_of d = unwrap_or (option_map (λ b. b.len) d.buf) 0

-- its buffer is one of the region
abbrev pub HasBuffer : List Bool → Descriptor → Type 0
HasBuffer taken d = MatchOption d.buf ⊥ (LiesInRegion taken)

abbrev pub arrived_for : Option Descriptor → Option Pace → ℕ → ℕ → Arrived
arrived_for None pace len now = arrived.NoBuffer
arrived_for (Some d) pace len now =
    if nat_lt (room_of d) len then arrived.TooLong
    else if may_pass pace len now then arrived.Into
    else arrived.Throttled

-- what becomes of a frame of so many bytes at a tick
abbrev pub arrived_of : NetCard → ℕ → ℕ → Arrived
arrived_of card len now = arrived_for (head_of card.rx) card.rx_pace len now

-- the card afterwards: a frame that is dropped changes nothing, and passes no bytes of the rate
abbrev pub after_arrival : NetCard → Arrived → ℕ → ℕ → NetCard
after_arrival card arrived.Into len now =
    record card { rx = ended card.rx (head_of card.rx) outcome.Ok len; rx_pace = passed card.rx_pace len now }
after_arrival card _ len now = card

abbrev pub HoldsFrameIn : Option Descriptor → Arrived → List ℕ → Space → Space → Type 0
HoldsFrameIn (Some d) arrived.Into frame old new = MatchOption d.buf ⊥ (λ b. Wrote old new b 0 frame)
HoldsFrameIn _ _ frame old new = new ≡ old

-- the region afterwards: the frame stands at the front of the oldest descriptor's buffer, and no other byte of a buffer changed
abbrev pub HoldsFrame : NetCard → Arrived → List ℕ → Space → Space → Type 0
HoldsFrame card x frame old new = HoldsFrameIn (head_of card.rx) x frame old new
