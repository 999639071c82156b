-- What each word takes of what is given beside its machine.
use Rattle.std.specs.Prelude.{false, List, [], ◌∷◌, None}
use Rattle.ark_script.specs.Attributes
use Rattle.ark_script.specs.Attributes.{Ask, attributes}
use Rattle.ark_script.specs.Line.{Line}
use Rattle.ark_machine.specs.Row.{Given}

-- nothing is given
abbrev pub nothing_given : Given
nothing_given = record {
  limit = false;
  no_nic = false;
  no_space = false;
  scattered = false;
  overlap = None;
  table_failed = false;
  own = None;
  ended = [];
  no_memory = false;
}

-- what is given, as far as it is asked for
abbrev pub part_of : List Ask → Given → Given
part_of [] g = nothing_given
part_of (Attributes.limit ∷ asks) g = record (part_of asks g) { limit = g.limit }
part_of (Attributes.no_nic ∷ asks) g = record (part_of asks g) { no_nic = g.no_nic }
part_of (Attributes.no_space ∷ asks) g = record (part_of asks g) { no_space = g.no_space }
part_of (Attributes.scattered ∷ asks) g = record (part_of asks g) { scattered = g.scattered }
part_of (Attributes.overlap ∷ asks) g = record (part_of asks g) { overlap = g.overlap }
part_of (Attributes.table_failed ∷ asks) g = record (part_of asks g) { table_failed = g.table_failed }
part_of (Attributes.own ∷ asks) g = record (part_of asks g) { own = g.own }
part_of (Attributes.ended ∷ asks) g = record (part_of asks g) { ended = g.ended }
part_of (Attributes.no_memory ∷ asks) g = record (part_of asks g) { no_memory = g.no_memory }

-- The part that the word of a line asks for. Only what is granted, and what is granted to all from one store, asks the plane.
abbrev pub part_for : Line → Given → Given
part_for line g = part_of (attributes line).asks g
