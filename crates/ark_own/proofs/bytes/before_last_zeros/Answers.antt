use Rattle.std.proofs.Common.{◌∙◌, rules}
use Rattle.ark_own.proofs.OfBytes.{piece_less}
use Rattle.ark_own.proofs.bytes.before_last_zeros.Goals as goal

pub loop-end-preserved : goal.loop-end-preserved
loop-end-preserved c = record {
  trimmed = piece_less c.args.bytes.now c.loop-end.end c.args.piece (search rules) (search rules) ∙ c.loop-end.invariant.trimmed;
  within = search rules;
}
