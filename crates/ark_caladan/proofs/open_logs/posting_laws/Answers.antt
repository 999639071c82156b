use Rattle.ark_caladan.proofs.Dropping.{stages_are_phases, some_calls}
use Rattle.ark_caladan.proofs.Buffers.{posts_are_stages}
use Rattle.ark_caladan.proofs.Walking.{walk_reads, entry_place}
use Rattle.ark_caladan.proofs.open_logs.posting_laws.Goals as goal

pub returns : goal.returns
returns c = record {
  posts = posts_are_stages;
  some_calls = λ kind room p l c. some_calls kind room p.header p.says p.stored l c;
  phases = λ kind room p l c. stages_are_phases kind room p.header p.says p.stored l c;
  reads = walk_reads;
  entry = entry_place;
}
