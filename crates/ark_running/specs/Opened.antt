-- A log as its opening leaves it.
use Rattle.std.specs.Prelude.{◌≡◌, ℕ, false, List, [], Some, None, IsSome}
use Rattle.ark_region.specs.Frames.{Space, LiesInRegion}
use Rattle.ark_vic.specs.Queue.{Queue}
use Rattle.ark_caladan.specs.Chain.{Log, Opened, stored}
use Rattle.ark_log.specs.Open.{OpenChain}
use Rattle.ark_running.specs.Buffers.{header_piece}

-- no command waits, and the header's buffer is there, in the region
pub record IsNewlyOpen (v : OpenChain) (space : Space) : Type 0 where
  pub none : v.waiting ≡ []
  pub done : v.done ≡ 0
  pub failed : v.failed ≡ false
  pub header : IsSome v.header
  pub lies : LiesInRegion space.taken (header_piece v)

pub record IsRingEmpty (q : Queue) : Type 0 where
  pub posted : q.posted ≡ []
  pub unreaped : q.unreaped ≡ []
  pub moved : q.moved ≡ 0

-- the log that its machine has then, on this card
abbrev pub newly_opened : List ℕ → OpenChain → Opened
newly_opened card v = record { card = card; failed = false; header_frame = v.header_at; waiting = []; done = 0; decided = false }

abbrev pub opened_log : List ℕ → OpenChain → Log → Log
opened_log card v g = record g { list = stored g; left = None; opened = Some (newly_opened card v) }
