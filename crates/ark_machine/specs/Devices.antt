-- `dev`: one move of a card.
use Rattle.std.specs.Prelude.{ℕ, not, ◌&&◌, List, [], ◌∷◌, Option, Some, None, is_none}
use Rattle.ark_base.specs.Conditions.{none}
use Rattle.ark_machine.specs.Objects.{Vnic}
use Rattle.ark_machine.specs.Machine.{Machine, vsic_at, vnic_at, missing}
use Rattle.ark_machine.specs.Row.{Row, Given, answer}
use Rattle.ark_machine.specs.Moves.{Move, move, first_end, row_of}
use Rattle.ark_machine.specs.Network.{tx_moves}

-- the move of the card at a label: of a network card that of its transmit ring
abbrev pub card_moves : Machine → List ℕ → Given → Option Vnic → Move
card_moves m v g None = move m v (first_end g.ended)
card_moves m v g (Some x) = tx_moves m v x g.own x.tx.posted

-- `dev A v`
abbrev pub dev : Machine → List ℕ → Given → Row
dev m v g =
    answer m
    (record none {
      no_application = not m.made;
      no_grant = missing m (v ∷ []);
      wrong_kind = is_none (vsic_at m v) && is_none (vnic_at m v);
    })
    (row_of (card_moves m v g (vnic_at m v)))
