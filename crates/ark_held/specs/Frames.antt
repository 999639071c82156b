-- What is said of a frame that came to a network card.
use Rattle.std.specs.Prelude.{ℕ, List}
use Rattle.ark_script.specs.declared.said.Said.{Said}
use Rattle.ark_script.specs.declared.said.Said.TheVariants as said
use Rattle.ark_vnic.specs.declared.arrived.Arrived.{Arrived}
use Rattle.ark_vnic.specs.declared.arrived.Arrived.TheVariants as arrived

-- the card under a label of an application
abbrev pub said_of : List ℕ → List ℕ → Arrived → Said
said_of app card arrived.Into = said.Delivered app card
said_of app card arrived.NoBuffer = said.DroppedNoBuffer app card
said_of app card arrived.TooLong = said.DroppedTooLong app card
said_of app card arrived.Throttled = said.DroppedThrottled app card
