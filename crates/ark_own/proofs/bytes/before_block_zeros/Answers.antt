use Rattle.std.proofs.Common.{◌≤◌, ◌∙◌, sym, arith}
use Rattle.std.proofs.lemmas.List.{length-take-le, take-take}
use Rattle.ark_own.proofs.bytes.before_block_zeros.Goals as goal

pub returns : goal.returns
returns c =
    let size = length-take-le 512 c.args.room.now c.requires.block in
    let within : c.before_zeros.result ≤ 512 = omega (arith, size, c.before_zeros.ensures.within) in
    record { trimmed = sym (take-take c.before_zeros.result 512 c.args.room.now within) ∙ c.before_zeros.ensures.trimmed; within = within }
