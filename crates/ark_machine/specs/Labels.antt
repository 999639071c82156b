-- The labels that an application gives its objects.
use Rattle.std.specs.Prelude.{◌≡◌, Some, Contains}
use Rattle.ark_machine.specs.Machine.{Machine, Held, at}

-- no label stands twice: each object is the one that is found at its label
abbrev pub AreLabelled : Machine → Type 0
AreLabelled m = (h : Held) → Contains m.held h → at m h.label ≡ Some h
