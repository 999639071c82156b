-- The ring of a card, lent.
use Rattle.std.specs.Borrow.{Lends, MutBor, Fml}
use Rattle.ark_vic.specs.Queue.{Queue}
use Rattle.ark_vic.specs.contracts.ring.Ring.{the_row as ring_row}
use Rattle.ark_vsic.specs.Card.{Card}
use Rattle.ark_vsic.specs.contracts.vsic.Vsic.{the_row}

-- the card ends with what the ring was last, and is else as it was
abbrev pub LendsRing : MutBor Card → MutBor Queue → Fml
LendsRing m r = Lends the_row ring_row m r (λ q. record m.now { ring = q })
