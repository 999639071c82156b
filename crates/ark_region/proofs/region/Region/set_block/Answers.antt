use Rattle.std.proofs.Common.{◌≡◌, ◌*◌, ◌+◌, length, subst, arith}
use Rattle.std.proofs.lemmas.Grind.{common_steps}
use Rattle.ark_region.specs.Frames.{Space}
use Rattle.ark_region.proofs.Sharing.{others_keep}
use Rattle.ark_region.proofs.region.Region.set_block.Goals as goal

pub returns-clause-bytes : goal.returns-clause-bytes
returns-clause-bytes c = grind (arith, common_steps)

pub returns-clause-others : goal.returns-clause-others
returns-clause-others c b apart =
    let whole = subst (λ (m : Space). length m.bytes ≡ 512 * length m.taken) c.self.view_is c.self.invariant.0 in
    others_keep c.args.self.now c.args.block.now c.args.buf.now b (512 * c.args.buf.now.start + c.args.at) whole c.requires.lies (omega arith) (omega (arith, c.requires)) apart _ (returns-clause-bytes c)
