use Rattle.ark_table.proofs.Standing.{stands, either, stays, stays_unsettled, attached, formatted}
use Rattle.ark_table.proofs.laws.standing_laws.Goals as goal

pub returns : goal.returns
returns c = record { stands = stands; either = either; stays = stays; stays_unsettled = stays_unsettled; attached = attached; formatted = formatted }
