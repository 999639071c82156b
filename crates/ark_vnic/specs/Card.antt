-- A network card, and what paces its rings.
use Rattle.std.specs.Prelude.{◌≡◌, ℕ, ◌+◌, ◌≤◌, Bool, true, nat_le, List, Option, Some, None, option_map, slice_get}
use Rattle.ark_base.specs.declared.kind.Outcome.{Outcome}
use Rattle.ark_vic.specs.Pace.{Pace, Pass, IsPaceOf, fill_at, with_fill}
use Rattle.ark_vic.specs.Queue.{Queue, finished}
use Rattle.ark_vic.specs.declared.descriptor.Descriptor.{Descriptor}

-- what contracts see of a network card: the number of its grant, its receive and its transmit ring, and what paces each
pub record NetCard : Type 0 where
  pub grant : ℕ
  pub rx : Queue
  pub tx : Queue
  pub rx_pace : Option Pace
  pub tx_pace : Option Pace

-- the oldest posted descriptor
abbrev pub head_of : Queue → Option Descriptor
head_of q = slice_get q.posted 0

-- the ring after its oldest posted descriptor has ended, with the length of its frame
abbrev pub ended : Queue → Option Descriptor → Outcome → ℕ → Queue
ended q None o len = q
ended q (Some d) o len = finished q d o len

-- so many bytes may pass at a tick
abbrev pub may_pass : Option Pace → ℕ → ℕ → Bool
may_pass None len now = true
may_pass (Some p) len now = nat_le (fill_at p now + len) p.burst

-- so many bytes have passed at a tick
abbrev pub passed : Option Pace → ℕ → ℕ → Option Pace
passed pace len now = option_map (λ p. with_fill p len now) pace

-- the rate that paces a ring stands for these passes, none of them later than this tick
pub record IsPacedFor (pace : Option Pace) (r : Pace) (p : List Pass) (now : ℕ) : Type 0 where
  pub rate : pace ≡ Some r
  pub stands : IsPaceOf r p
  pub later : r.tick ≤ now
