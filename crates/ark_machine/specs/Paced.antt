-- What holds of rates from the start of a run on: each queue keeps its rate, and nothing has passed in the time to come.
use Rattle.std.specs.Prelude.{◌≡◌, ℕ, List, Option, Some, None}
use Rattle.std.specs.List.{AllByRecursion}
use Rattle.ark_vic.specs.Pace.{WithinRate, NoneAfter}
use Rattle.ark_machine.specs.Objects
use Rattle.ark_machine.specs.Objects.{Object, Paced}
use Rattle.ark_machine.specs.Machine.{Machine, Held}
use Rattle.ark_machine.specs.System.{System}

-- at tick t the passes of a queue keep the law of its rate, and none is after t
abbrev pub IsPacedAt : ℕ → Option Paced → Type 0
IsPacedAt t None = Unit {0}
IsPacedAt t (Some p) = WithinRate p.q p.burst p.passes × NoneAfter t p.passes

-- a card's queues
abbrev pub ArePacedAt : ℕ → Object → Type 0
ArePacedAt t (Objects.vsic v) = IsPacedAt t v.pace
ArePacedAt t (Objects.vnic v) = IsPacedAt t v.rx_pace × IsPacedAt t v.tx_pace
ArePacedAt t _ = Unit {0}

abbrev pub HeldPacedAt : ℕ → Held → Type 0
HeldPacedAt t h = ArePacedAt t h.object

-- a machine whose tick is t, with all that it holds
abbrev pub MachinePacedAt : ℕ → Machine → Type 0
MachinePacedAt t m = (m.now ≡ t) × AllByRecursion (λ h. HeldPacedAt t h) m.held

abbrev pub ListedPacedAt : ℕ → List ℕ × Machine → Type 0
ListedPacedAt t p = MachinePacedAt t p.1

-- every machine of the system is, at the system's tick
abbrev pub StandsPaced : System → Type 0
StandsPaced s = AllByRecursion (λ p. ListedPacedAt s.now p) s.machines
