-- Moves of the storage cards that an application keeps.
use Rattle.std.specs.Prelude.{ℕ, List, map, Option, Some, None, option_map, nat_eq}
use Rattle.std.specs.Map.{lookup}
use Rattle.ark_vic.specs.declared.descriptor.Descriptor.{Descriptor}
use Rattle.ark_vic.specs.Pace.{with_fill}
use Rattle.ark_vsic.specs.Card.{Card, Areas}
use Rattle.ark_vsic.specs.Moves.{due_of, pace_after, ring_after}
use Rattle.ark_vsic.specs.declared.due.Due.{Due}
use Rattle.ark_vsic.specs.declared.due.Due.TheVariants as due
use Rattle.ark_vsic.specs.declared.due.Moved.{Moved}
use Rattle.ark_vsic.specs.declared.due.Moved.TheVariants as moved
use Rattle.ark_script.specs.declared.said.Said.{Said}
use Rattle.ark_script.specs.declared.said.Said.TheVariants as said
use Rattle.ark_held.specs.Words.{AreaList}
use Rattle.ark_held.specs.declared.areas.Area.{Area}
use Rattle.ark_held.specs.Kept.{PaceKept, CardKept}

-- the card itself, without what else its application has to do with it
abbrev pub card_of : CardKept → Card
card_of k = record { ring = k.ring; bound = k.bound; pace = option_map (λ p. p.pace) k.pace }

-- of each area its grant and its blocks
abbrev pub blocks_held : AreaList → Areas
blocks_held areas = map (λ a. (a.0, a.1.spans)) areas

-- a block passes at a tick
abbrev pub with_pass : ℕ → PaceKept → PaceKept
with_pass now p = record p { pace = with_fill p.pace 512 now }

abbrev pub pace_moved : Option PaceKept → Due → ℕ → Option PaceKept
pace_moved pace (due.Block n) now = option_map (with_pass now) pace
pace_moved pace _ now = pace

-- a card of which this was due, after a move with this answer
abbrev pub card_moved : CardKept → Due → Moved → ℕ → CardKept
card_moved k x answer now = record k { ring = ring_after k.ring answer; pace = pace_moved k.pace x now }

-- what a move is answered
abbrev pub said_of : Moved → Said
said_of moved.Idle = said.Idle
said_of moved.Held = said.Held
said_of moved.Block = said.Moved
said_of (moved.Done o) = said.Done o

-- a card itself after a move with this answer
abbrev pub vsic_moved : Card → Areas → ℕ → Moved → Card
vsic_moved v held now answer = record { ring = ring_after v.ring answer; bound = v.bound; pace = pace_after v.pace (due_of v held now) now }

-- the area of a descriptor's grant, if it is held
abbrev pub area_of_grant : ℕ → Option Area → Option (ℕ × List ℕ)
area_of_grant grant None = None
area_of_grant grant (Some a) = Some (grant, a.spans)

abbrev pub area_named : Option Descriptor → AreaList → Option (ℕ × List ℕ)
area_named None areas = None
area_named (Some d) areas = area_of_grant d.grant (lookup (nat_eq d.grant) areas)
