use Rattle.ark_caladan.proofs.Payloads.{holds_payload}
use Rattle.ark_caladan.proofs.Buffers.{same_block, hold_acked, hold_more, pop_reads, read_more, popped_payload}
use Rattle.ark_caladan.proofs.open_logs.buffer_laws.Goals as goal

pub returns : goal.returns
returns c = record {
  same = same_block;
  payload = holds_payload;
  acknowledged = hold_acked;
  accepted = hold_more;
  pop_reads = pop_reads;
  read_more = read_more;
  popped = popped_payload;
}
