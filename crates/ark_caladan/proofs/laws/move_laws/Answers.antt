use Rattle.ark_caladan.proofs.Commands.{append_moves, trim_moves, pop_moves}
use Rattle.ark_caladan.proofs.laws.move_laws.Goals as goal

pub returns : goal.returns
returns c = record { append_moves = append_moves; trim_moves = trim_moves; pop_moves = pop_moves }
