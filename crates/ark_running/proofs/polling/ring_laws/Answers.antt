use Rattle.ark_running.proofs.Like.{buffers_in}
use Rattle.ark_running.proofs.Polls.{alone, free_whole, may_ends}
use Rattle.ark_running.proofs.polling.ring_laws.Goals as goal

pub returns : goal.returns
returns c = record {
  alone = λ h blocks space ring v p g o runs. alone v space ring.moved ring.posted ring.unreaped runs.ring;
  whole = λ h blocks space ring v p g o runs none. free_whole v space ring.moved ring.posted ring.unreaped runs.ring none;
  lies = λ h blocks space ring v p g o runs. buffers_in space.taken v runs.is.right runs.is.trims runs.buffers.lies;
  may = may_ends;
}
