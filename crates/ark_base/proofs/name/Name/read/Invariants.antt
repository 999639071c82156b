use Rattle.std.proofs.Common.{◌≡◌, ◌+◌, true, take}
use Rattle.std.specs.List.{list_all}
use Rattle.ark_base.specs.Name.{is_name_byte, padded}
use Rattle.ark_base.proofs.name.Name.read.Given as goal

abbrev pub invariant-loop-at : goal.invariant-loop-at
invariant-loop-at l = (l.bytes ≡ padded (take (l.at + 1) l.text)) × (list_all is_name_byte (take l.at l.rest) ≡ true)
