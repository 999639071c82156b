use Rattle.std.proofs.Common.{sym, ap, ◌∙◌, subst}
use Rattle.ark_log.specs.Stages.{IsOfStage, oldest}
use Rattle.ark_log.specs.contracts.chain.Chain.{the_view}
use Rattle.ark_log.proofs.Lent.{IsItsBuffer, entry_stage, right_with}
use Rattle.ark_log.proofs.chain.Chain.take_back.Goals as goal

pub invariant_of-self : goal.invariant_of-self
invariant_of-self c =
    let its : IsItsBuffer c.args.buf (oldest (the_view c.self.inside)) = entry_stage (the_view c.self.inside) c.args.stage c.args.buf (subst (λ x. IsOfStage x c.args.stage c.args.buf) (sym c.self.view_is) c.requires.its) c.in-Load.is in (
      c.self.invariant.0,
      ap (λ b. b.capacity) c.replace_first.ensures.waiting ∙ c.self.invariant.1,
      right_with (the_view c.self.inside) c.args.buf c.replace_first.new.waiting.items c.self.invariant.2 (ap (λ b. b.items) c.replace_first.ensures.waiting) its,
    )
