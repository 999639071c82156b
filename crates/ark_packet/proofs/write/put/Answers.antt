use Rattle.std.proofs.Common.{ap, ◌∙◌, length, arith}
use Rattle.std.proofs.lemmas.Slice.{drop-put_mid}
use Rattle.ark_packet.proofs.write.put.Goals as goal

pub returns-clause-after : goal.returns-clause-after
returns-clause-after c =
    drop-put_mid c.args.at _ c.args.out.now c.copy_from_slice.new.self _ (omega arith) (omega arith) (ap length c.copy_from_slice.ensures.after ∙ omega arith)
