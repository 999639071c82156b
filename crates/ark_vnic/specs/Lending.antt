-- The rings of a network card, lent.
use Rattle.std.specs.Borrow.{Lends, MutBor, Fml}
use Rattle.ark_vic.specs.Queue.{Queue}
use Rattle.ark_vic.specs.contracts.ring.Ring.{the_row as ring_row}
use Rattle.ark_vnic.specs.Card.{NetCard}
use Rattle.ark_vnic.specs.contracts.vnic.Vnic.{the_row}

-- the card ends with what the receive ring was last, and is else as it was
abbrev pub LendsRx : MutBor NetCard → MutBor Queue → Fml
LendsRx m r = Lends the_row ring_row m r (λ q. record m.now { rx = q })

-- the same of its transmit ring
abbrev pub LendsTx : MutBor NetCard → MutBor Queue → Fml
LendsTx m r = Lends the_row ring_row m r (λ q. record m.now { tx = q })
