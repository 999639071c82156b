use Rattle.std.proofs.Common.{sym, subst}
use Rattle.std.specs.Bool.{Decides}
use Rattle.ark_media.specs.Stops.{MayHold, Whole}
use Rattle.ark_memory.specs.Leaving.{front_of}
use Rattle.ark_memory.specs.declared.holding.Holding.{Holding}
use Rattle.ark_memory.proofs.Leaving.{left_is}
use Rattle.ark_memory.proofs.recorded.Recorded.may_hold.Goals as goal

pub returns : goal.returns
returns c =
    let r = c.args.self.now in
    let j = front_of r c.args.front in
    subst (λ (h : Holding). Decides h.left (MayHold Whole r.base j c.args.n c.args.content.now)) (sym c.holding.ensures) (left_is r.base c.args.n c.args.content.now c.requires j)
