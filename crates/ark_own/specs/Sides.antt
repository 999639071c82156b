-- The sides of a network card.
use Rattle.ark_filters.specs.declared.filter.Direction.{Direction}
use Rattle.ark_filters.specs.declared.filter.Direction.TheVariants as direction
use Rattle.ark_script.specs.declared.step.Side.{Side}
use Rattle.ark_script.specs.declared.step.Side.TheVariants as side

abbrev pub side_of : Direction → Side
side_of direction.Rx = side.Rx
side_of direction.Tx = side.Tx
