use Rattle.std.proofs.Common.{◌∙◌, ap, take}
use Rattle.ark_cli.proofs.Kept.{kept_front}
use Rattle.ark_cli.proofs.line.kept_of.Goals as goal

pub returns : goal.returns
returns c = ap (λ n. take n c.args.line.now) c.min.ensures ∙ kept_front c.args.line.now
