use Rattle.std.proofs.Common.{◌≡◌, length}
use Rattle.std.specs.Prelude.{All}
use Rattle.ark_log.specs.Closed.{LiesIn, all_given_back}
use Rattle.ark_log.proofs.closing.give_all.Given as goal

abbrev pub invariant-loop-command : goal.invariant-loop-command
invariant-loop-command l = record {
  taken : all_given_back l.region.taken l.waiting.items ≡ all_given_back l.fn.region.taken l.fn.waiting.items;
  bytes : l.region.bytes ≡ l.fn.region.bytes;
  sound : All (LiesIn l.fn.region.taken) l.waiting.items;
  frames : length l.region.taken ≡ length l.fn.region.taken;
}

abbrev pub decreases-loop-command : goal.decreases-loop-command
decreases-loop-command l = length l.waiting.items
