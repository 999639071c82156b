use Rattle.ark_script.proofs.Digits.{sized_spelled}
use Rattle.ark_script.proofs.spelling.decode.Goals as goal

pub unreachable-requires : goal.unreachable-requires
unreachable-requires c =
    let written = rw (sized_spelled c.args.digits.now _ c.requires.digits c.requires.even) at c.decode_to_slice.ensures.value in
    cc (written.0, c.in-Err.is)

pub returns : goal.returns
returns c =
    let written = rw (sized_spelled c.args.digits.now _ c.requires.digits c.requires.even) at c.decode_to_slice.ensures.value in
    written.1
