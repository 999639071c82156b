use Rattle.std.proofs.Common.{sym}
use Rattle.ark_script.proofs.Digits.{length-spelled_half}
use Rattle.ark_script.proofs.step.Hex.len.Goals as goal

pub returns : goal.returns
returns c = sym (length-spelled_half c.args.self.now.digits.now)
