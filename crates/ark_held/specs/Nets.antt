-- The network cards of an application, by key.
use Rattle.std.specs.List.{AllByRecursion}
use Rattle.std.specs.Prelude.{◌≡◌, ◌<◌, ◌==◌, ◌&&◌, ℕ, Bool, true, List, [], ◌∷◌, ◌++◌, length, drop, Option, Some, None, option_map}
use Rattle.ark_objects.specs.Held.{at, Changes}
use Rattle.ark_filters.specs.declared.filter.Direction.{Direction}
use Rattle.ark_filters.specs.declared.filter.Direction.TheVariants as direction
use Rattle.ark_vic.specs.Pace.{Pace}
use Rattle.ark_vic.specs.Queue.{Queue, members}
use Rattle.ark_vic.specs.declared.descriptor.Descriptor.{Descriptor}
use Rattle.ark_vnic.specs.Arrivals.{HasBuffer, after_arrival}
use Rattle.ark_vnic.specs.Card.{NetCard}
use Rattle.ark_vnic.specs.Sending.{HasFrame}
use Rattle.ark_vnic.specs.declared.arrived.Arrived.{Arrived}
use Rattle.ark_held.specs.Kept.{NetKept, PaceKept}
use Rattle.ark_held.specs.declared.network_card.NetSide.{NetSide}
use Rattle.ark_held.specs.declared.network_card.NetworkCard.{NetworkCard}

-- the pace of a side, with the key of the rate that gave it
abbrev pub side_pace : NetSide → Option Pace → Option PaceKept
side_pace s pace = option_map (λ p. record { rate = s.rate; pace = p }) pace

-- what a table keeps of a card; no word makes a socket so far
abbrev pub kept_net : NetworkCard → NetKept
kept_net c = record {
  rx = c.vnic.rx;
  tx = c.vnic.tx;
  rx_pace = side_pace c.rx c.vnic.rx_pace;
  tx_pace = side_pace c.tx c.vnic.tx_pace;
  rx_door = c.rx.door;
  tx_door = c.tx.door;
  ports = None;
}

abbrev pub net_kept : List (Option NetworkCard) → ℕ → Option NetKept
net_kept nets key = option_map kept_net (at nets key)

-- nothing is posted or unreaped
abbrev pub is_empty : Queue → Bool
is_empty q = (length q.posted == 0) && (length q.unreaped == 0)

-- the transmit ring of each card is empty
abbrev pub AreQuiet : List (Option NetworkCard) → Type 0
AreQuiet nets = (key : ℕ) (c : NetworkCard) → at nets key ≡ Some c → is_empty c.vnic.tx ≡ true

-- In a memory of so many frames each descriptor that receives has a buffer, and each that sends has its frame in one.
pub record IsSoundNet (frames : ℕ) (v : NetCard) : Type 0 where
  pub rx : (taken : List Bool) → length taken ≡ frames → AllByRecursion (HasBuffer taken) v.rx.posted
  pub tx : (taken : List Bool) → length taken ≡ frames → AllByRecursion (HasFrame taken) v.tx.posted

-- so does each card
abbrev pub AreSoundNets : ℕ → List (Option NetworkCard) → Type 0
AreSoundNets frames nets = (key : ℕ) (c : NetworkCard) → at nets key ≡ Some c → IsSoundNet frames c.vnic

abbrev pub free_side : NetSide
free_side = record { rate = 0; door = None }

-- a card that nothing paces or watches
abbrev pub new_net : NetCard → NetworkCard
new_net vnic = record { vnic = vnic; rx = free_side; tx = free_side }

-- the receive ring of the card of a key has room for one more descriptor
pub record HasRoomToReceive (nets : List (Option NetworkCard)) (key : ℕ) : Type 0 where
  pub one : NetworkCard
  pub there : at nets key ≡ Some one
  pub room : members one.vnic.rx < one.vnic.rx.size

-- the receive ring of the card of a key has a completion
pub record HasReceived (nets : List (Option NetworkCard)) (key : ℕ) : Type 0 where
  pub one : NetworkCard
  pub there : at nets key ≡ Some one
  pub some : 0 < length one.vnic.rx.unreaped

-- the card of a key, if there is one, is changed so
abbrev pub ChangesNet : List (Option NetworkCard) → List (Option NetworkCard) → ℕ → (NetworkCard → NetworkCard) → Type 0
ChangesNet old new key f = (one : NetworkCard) → at old key ≡ Some one → Changes old new key (Some (f one))

-- with another receive ring
abbrev pub with_rx : Queue → NetworkCard → NetworkCard
with_rx q c = record c { vnic = record c.vnic { rx = q } }

-- with one more descriptor posted to receive
abbrev pub with_receiving : Descriptor → NetworkCard → NetworkCard
with_receiving d c = with_rx (record c.vnic.rx { posted = c.vnic.rx.posted ++ d ∷ [] }) c

-- without the oldest completion of the receive ring
abbrev pub with_taken : NetworkCard → NetworkCard
with_taken c = with_rx (record c.vnic.rx { unreaped = drop 1 c.vnic.rx.unreaped }) c

-- with another door at a side, or none
abbrev pub with_door : Direction → Option ℕ → NetworkCard → NetworkCard
with_door direction.Rx door c = record c { rx = record c.rx { door = door } }
with_door direction.Tx door c = record c { tx = record c.tx { door = door } }

-- with another pace at a side, which the rate of this key gave if there is one
abbrev pub with_pace : Direction → ℕ → Option Pace → NetworkCard → NetworkCard
with_pace direction.Rx rate pace c = record c { vnic = record c.vnic { rx_pace = pace }; rx = record c.rx { rate = rate } }
with_pace direction.Tx rate pace c = record c { vnic = record c.vnic { tx_pace = pace }; tx = record c.tx { rate = rate } }

-- a frame of so many bytes came at a tick, of which this became
abbrev pub with_arrival : Arrived → ℕ → ℕ → NetworkCard → NetworkCard
with_arrival x len now c = record c { vnic = after_arrival c.vnic x len now }
