-- The control plane with the machines of all applications, and what one line does to them.
use Rattle.std.specs.Prelude.{ℕ, ◌+◌, Bool, ◌&&◌, List, [], ◌∷◌, map, Option, Some, None, is_some, option_map, find, unwrap_or, if◌then◌else◌, bytes_eq}
use Rattle.ark_base.specs.declared.refusal.Refusal.TheVariants as r
use Rattle.ark_packet.specs.declared.own.Own.{Own}
use Rattle.ark_filters.specs.In.{is_in}
use Rattle.ark_script.specs.Attributes.{attributes}
use Rattle.ark_script.specs.Line as w
use Rattle.ark_script.specs.Line.{Line}
use Rattle.ark_script.specs.declared.said.Said.{Said}
use Rattle.ark_script.specs.declared.said.Said.TheVariants as said
use Rattle.ark_machine.specs.Machine.{Machine, unmade}
use Rattle.ark_machine.specs.Row.{Row, Call, Ended}
use Rattle.ark_machine.specs.Network.{arrive}
use Rattle.ark_machine.specs.Step.{step, ticked}
use Rattle.ark_machine.specs.Plane.{Plane, LiveFilter, empty_plane, is_receive, recorded}
use Rattle.ark_machine.specs.Granting.{plane_after}

pub record System : Type 0 where
  pub plane : Plane
  -- the tick
  pub now : ℕ
  -- the machines by their applications' names; one that is not listed is not made and holds nothing
  pub machines : List (List ℕ × Machine)

-- the system at the beginning of a run on a fresh device of so many blocks
abbrev pub fresh_system : ℕ → System
fresh_system size = record { plane = empty_plane size; now = 0; machines = [] }

-- an application that is not listed has seen the ticks all the same
abbrev pub listed_machine : List (List ℕ × Machine) → ℕ → List ℕ → Machine
listed_machine ms now a = unwrap_or (option_map (λ p. p.1) (find (λ p. bytes_eq a p.0) ms)) (record unmade { now = now })

abbrev pub machine_of : System → List ℕ → Machine
machine_of s a = listed_machine s.machines s.now a

-- the machines with this one for an application; it joins the list when it is made
abbrev pub set_machine : List (List ℕ × Machine) → List ℕ → Machine → List (List ℕ × Machine)
set_machine [] a m = if m.made then (a, m) ∷ [] else []
set_machine (p ∷ ps) a m = if bytes_eq a p.0 then (p.0, m) ∷ ps else p ∷ set_machine ps a m

-- the application whose line it is
abbrev pub owner : Line → Option (List ℕ)
owner line = (attributes line).owner

-- what one line does: its reply with its bytes, its device calls, and the system after it
pub record Turn : Type 0 where
  pub said : Said
  pub bytes : List ℕ
  pub calls : List Call
  pub after : System

-- a reply that changes nothing
abbrev pub quiet_turn : System → Said → Turn
quiet_turn s said = record { said = said; bytes = []; calls = []; after = s }

-- a line of an application, whose row this is
abbrev pub own_turn : System → List ℕ → Line → Row → Turn
own_turn s a line row = record {
  said = row.said;
  bytes = row.bytes;
  calls = row.calls;
  after = record {
    plane = plane_after s.plane (machine_of s a) line row.said;
    now = s.now;
    machines = set_machine s.machines a row.machine;
  };
}

-- `tick N`: time goes on for every machine
abbrev pub tick_turn : System → ℕ → Turn
tick_turn s n = record {
  said = said.Num (s.now + n);
  bytes = [];
  calls = [];
  after = record s { now = s.now + n; machines = map (λ p. (p.0, ticked n p.1)) s.machines };
}

-- `nic MAC IP MAC`: this end's addresses, given once
abbrev pub nic_turn : System → Own → Option Own → Turn
nic_turn s own None = record { said = said.Ok; bytes = []; calls = []; after = record s { plane = plane_after s.plane unmade (w.nic own) said.Ok } }
nic_turn s own (Some old) = quiet_turn s (said.Refused r.NameTaken)

-- the filter takes the frame: it is a receive filter that is assigned to a card, and the frame matches it
abbrev pub takes : Own → List ℕ → LiveFilter → Bool
takes own frame f = is_receive f.rule.direction && (is_some f.card && is_in f.rule frame own)

-- a frame at a card of application a
abbrev pub arrival_turn : System → List ℕ → Row → Turn
arrival_turn s a row = record {
  said = row.said;
  bytes = row.bytes;
  calls = [];
  after = record s { machines = set_machine s.machines a row.machine };
}

-- by the filter that takes the frame
abbrev pub taken_turn : System → List ℕ → Option LiveFilter → Turn
taken_turn s frame None = quiet_turn s said.DroppedNoFilter
taken_turn s frame (Some f) = arrival_turn s f.owner (arrive f.owner (machine_of s f.owner) (unwrap_or f.card []) frame)

-- `wire HEX`: a frame arrives
abbrev pub wire_turn : System → List ℕ → Option Own → Turn
wire_turn s frame None = quiet_turn s (said.Refused r.NoNic)
wire_turn s frame (Some own) = taken_turn s frame (find (λ f. takes own frame f) s.plane.filters)

-- a line of no application
abbrev pub common_turn : System → Line → Turn
common_turn s (w.tick n) = tick_turn s n
common_turn s (w.nic own) = nic_turn s own s.plane.own
common_turn s (w.wire frame) = wire_turn s frame s.plane.own
common_turn s _ = quiet_turn s said.Ok

-- a line by the application that owns it
abbrev pub owned_turn : System → Line → List Ended → Bool → Option (List ℕ) → Turn
owned_turn s line ends memory (Some a) = own_turn s a line (step (machine_of s a) line (recorded s.plane line ends memory))
owned_turn s line ends memory None = common_turn s line

-- what a line does, with how its device calls ended and whether it found no memory
abbrev pub line_turn : System → Line → List Ended → Bool → Turn
line_turn s line ends memory = owned_turn s line ends memory (owner line)
