-- A frame that goes out: the filter that lets it out, and how it is counted.
use Rattle.std.specs.Prelude.{◌≡◌, ◌≤◌, ℕ, List, [], ◌∷◌, length, take, true, Some, option_map, unwrap_or, Contains}
use Rattle.ark_filters.specs.In.{is_in}
use Rattle.ark_filters.specs.declared.filter.Direction.TheVariants as direction
use Rattle.ark_filters.specs.declared.filter.Filter.{Filter}
use Rattle.ark_packet.specs.declared.own.Own.{Own}
use Rattle.ark_machine.specs.Objects
use Rattle.ark_machine.specs.Objects.{Place, Vnic}
use Rattle.ark_machine.specs.Machine.{Machine, Held, vnic_at}
use Rattle.ark_machine.specs.Network.{bytes_in}
use Rattle.ark_machine.specs.Rates.{passed}
use Rattle.ark_machine.specs.Sending.{tx_pace_at}
use Rattle.ark_machine.specs.System.{System, machine_of}

-- application a holds a transmit filter that is assigned to its card v, and the frame matches it
pub record LetsOut (s : System) (a v frame : List ℕ) : Type 0 where
  pub own : Own
  pub filter : Held
  pub rule : Filter
  pub addressed : s.plane.own ≡ Some own
  pub is_held : Contains (machine_of s a).held filter
  pub is_assigned : filter.object ≡ Objects.filter rule (Some v)
  pub transmits : rule.direction ≡ direction.Tx
  pub matches : is_in rule frame own ≡ true

-- the frames that are posted to transmit on the card at a label, each with so many bytes
abbrev pub frames_at : Machine → List ℕ → List (Place × ℕ)
frames_at m v = unwrap_or (option_map (λ x. x.tx.posted) (vnic_at m v)) []

-- the frame's buffer has as many
abbrev pub HasFrame : Machine → Place × ℕ → Type 0
HasFrame m p = p.1 ≤ length (bytes_in m p.0)

abbrev pub FramesThere : Machine → Type 0
FramesThere m = (v : List ℕ) (p : Place × ℕ) → Contains (frames_at m v) p → HasFrame m p

-- The frame is that of the oldest posted descriptor of card x. So many bytes as were posted have passed the card's transmit
-- queue at the machine's tick: as many as went out where the frame's buffer has them all, and never fewer.
pub record IsCounted (m : Machine) (v : List ℕ) (x : Vnic) (frame : List ℕ) (after : Machine) : Type 0 where
  pub place : Place
  pub len : ℕ
  pub others : List (Place × ℕ)
  pub oldest : x.tx.posted ≡ (place, len) ∷ others
  pub is_frame : frame ≡ take len (bytes_in m place)
  pub within : length frame ≤ len
  pub exact : len ≤ length (bytes_in m place) → length frame ≡ len
  pub pace : tx_pace_at after v ≡ passed m.now len x.tx_pace
