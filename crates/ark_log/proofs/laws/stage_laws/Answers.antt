use Rattle.ark_log.proofs.Ended.{posted_ends}
use Rattle.ark_log.proofs.Headers.{trim_header, pop_header, stages_are}
use Rattle.ark_log.proofs.laws.stage_laws.Goals as goal

pub returns : goal.returns
returns c = record { phases = stages_are; trim_header = trim_header; pop_header = pop_header; ends = posted_ends }
