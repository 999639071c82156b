-- The rates that queues keep, what passes them in a line, and the frames that go out and come in.
use Rattle.std.specs.Prelude.{◌≡◌, ℕ, List, [], ◌∷◌, ◌++◌, length, codes, IsTrue, Option, Some, None, option_and_then, Ok}
use Rattle.std.specs.List.{AllByRecursion}
use Rattle.ark_media.specs.Journal.{Event, Read, Write, Sync, Out}
use Rattle.ark_vic.specs.Pace.{Pass, WithinRate}
use Rattle.ark_script.specs.Line as w
use Rattle.ark_script.specs.Line.{Line}
use Rattle.ark_script.specs.Lines.{Meaning}
use Rattle.ark_script.specs.Text.{text}
use Rattle.ark_script.specs.declared.said.Said.TheVariants as said
use Rattle.ark_machine.specs.Objects
use Rattle.ark_machine.specs.Objects.{Object, Paced}
use Rattle.ark_machine.specs.Machine.{Machine, Held, vsic_at, vnic_at}
use Rattle.ark_machine.specs.Network.{is_let_out}
use Rattle.ark_machine.specs.Logs.{card_of}
use Rattle.ark_machine.specs.Plane.{LiveFilter}
use Rattle.ark_machine.specs.System.{System, machine_of}
use Rattle.ark_machine.specs.Private.{taker}

-- the passes of a queue keep the law of its rate
abbrev pub KeepsRate : Option Paced → Type 0
KeepsRate None = Unit {0}
KeepsRate (Some p) = WithinRate p.q p.burst p.passes

-- a card's queues do
abbrev pub KeepsRates : Object → Type 0
KeepsRates (Objects.vsic v) = KeepsRate v.pace
KeepsRates (Objects.vnic v) = KeepsRate v.rx_pace × KeepsRate v.tx_pace
KeepsRates _ = Unit {0}

abbrev pub HeldKeeps : Held → Type 0
HeldKeeps h = KeepsRates h.object

abbrev pub MachineKeeps : Machine → Type 0
MachineKeeps m = AllByRecursion HeldKeeps m.held

abbrev pub ListedKeeps : List ℕ × Machine → Type 0
ListedKeeps p = MachineKeeps p.1

-- every queue of every application does
abbrev pub AllKeep : System → Type 0
AllKeep s = AllByRecursion ListedKeeps s.machines

-- Blocks that pass while a line makes its device calls.

-- each block that is read or written is a pass at this tick
abbrev pub blocks_passed : ℕ → List Event → List Pass
blocks_passed now [] = []
blocks_passed now (Read n ok ∷ es) = (now, 512) ∷ blocks_passed now es
blocks_passed now (Write n content took ok ∷ es) = (now, 512) ∷ blocks_passed now es
blocks_passed now (Sync ok ∷ es) = blocks_passed now es
blocks_passed now (Out bytes ∷ es) = blocks_passed now es

-- the pace of a storage card's queue
abbrev pub pace_at : Machine → List ℕ → Option Paced
pace_at m v = option_and_then (λ x. x.pace) (vsic_at m v)

-- that of the card that a line moves: of `settle` the card of its log
abbrev pub pace_by : System → Line → Option Paced
pace_by s (w.dev a v) = pace_at (machine_of s a) v
pace_by s (w.settle a l) = pace_at (machine_of s a) (card_of (machine_of s a) l)
pace_by s _ = None

-- with these passes more, the queue keeps the law of its rate
abbrev pub KeepsWith : Option Paced → List Pass → Type 0
KeepsWith None more = Unit {0}
KeepsWith (Some p) more = WithinRate p.q p.burst (p.passes ++ more)

-- the blocks of a line's device events are within the rate of the card that it moves
abbrev pub PassesWithin : System → Line → List Event → Type 0
PassesWithin s line es = KeepsWith (pace_by s line) (blocks_passed s.now es)

-- Frames.

-- the line moves a card, and a transmit filter that is assigned to the card takes the frame
abbrev pub IsLetOut : System → Meaning → List ℕ → Type 0
IsLetOut s (Ok (w.dev a v)) frame = IsTrue (is_let_out (machine_of s a) v s.plane.own frame)
IsLetOut s _ frame = ⊥

-- the paces of a network card's queues
abbrev pub tx_pace_at : Machine → List ℕ → Option Paced
tx_pace_at m v = option_and_then (λ x. x.tx_pace) (vnic_at m v)

abbrev pub rx_pace_at : Machine → List ℕ → Option Paced
rx_pace_at m v = option_and_then (λ x. x.rx_pace) (vnic_at m v)

-- the frame's bytes may pass the queue at this tick, with all that passed before
abbrev pub FrameWithin : Option Paced → ℕ → List ℕ → Type 0
FrameWithin pace now frame = KeepsWith pace ((now, length frame) ∷ [])

-- the frame is within the rate of the transmit queue of the card that the line moves
abbrev pub IsPacedOut : System → Meaning → List ℕ → Type 0
IsPacedOut s (Ok (w.dev a v)) frame = FrameWithin (tx_pace_at (machine_of s a) v) s.now frame
IsPacedOut s _ frame = ⊥

-- what was put out for a line: where it shows a frame that went out, that frame was let out, and is within the rate
abbrev pub SendsWithin : System → Meaning → List ℕ → Type 0
SendsWithin s m output = (frame : List ℕ) → output ≡ text said.Sent frame → (sent : List ℕ) × (output ≡ text said.Sent sent) × IsLetOut s m sent × IsPacedOut s m sent

-- The first bytes of a reply's line, none, some or all: where they begin with the word of a frame that went out, they are those
-- of the line of a frame that was let out and is within the rate.
abbrev pub SendsFront : System → Meaning → List ℕ → Type 0
SendsFront s m output = (rest : List ℕ) → output ≡ codes "sent" ++ rest →
    (sent more : List ℕ) × (text said.Sent sent ≡ output ++ more) × IsLetOut s m sent × IsPacedOut s m sent

-- A frame comes to card v of application a: a receive filter that is assigned to the card takes it, and it is within the rate
-- of the card's receive queue.
pub record IsLetIn (s : System) (a v frame : List ℕ) : Type 0 where
  pub filter : LiveFilter
  pub takes : taker s frame s.plane.own ≡ Some filter
  pub owner : filter.owner ≡ a
  pub card : filter.card ≡ Some v
  pub paced : FrameWithin (rx_pace_at (machine_of s a) v) s.now frame

abbrev pub IsDelivered : System → Meaning → List ℕ → List ℕ → Type 0
IsDelivered s (Ok (w.wire frame)) a v = IsLetIn s a v frame
IsDelivered s _ a v = ⊥

-- what was put out for a line: where it shows that a frame was delivered, the frame was let in there
abbrev pub DeliversWithin : System → Meaning → List ℕ → Type 0
DeliversWithin s m output = (a v : List ℕ) → output ≡ text (said.Delivered a v) [] → (b u : List ℕ) × (output ≡ text (said.Delivered b u) []) × IsDelivered s m b u

-- the first bytes of a reply's line: where they begin with the word of a frame that was delivered, they are those of the line of
-- one that was let in where that line says
abbrev pub DeliversFront : System → Meaning → List ℕ → Type 0
DeliversFront s m output = (rest : List ℕ) → output ≡ codes "delivered" ++ rest →
    (b u more : List ℕ) × (text (said.Delivered b u) [] ≡ output ++ more) × IsDelivered s m b u
