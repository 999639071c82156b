use Rattle.ark_caladan.proofs.Standing.{starts, call_made, call_failed, call_apart, stage_posted, acknowledged, accepts, stops}
use Rattle.ark_caladan.proofs.open_logs.call_laws.Goals as goal

pub returns : goal.returns
returns c = record {
  starts = starts;
  made = call_made;
  failed = call_failed;
  apart = call_apart;
  next_stage = stage_posted;
  acknowledged = acknowledged;
  accepts = λ blocks g p history o progress w goes can free. accepts blocks g p history o progress w goes can free;
  stops = stops;
}
