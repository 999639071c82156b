use Rattle.std.proofs.Common.{◌≡◌, None, ap, sym, ◌∙◌}
use Rattle.std.specs.Prelude.{slice_get}
use Rattle.std.proofs.Math.Path.{transport}
use Rattle.ark_log.specs.Open.{OpenChain}
use Rattle.ark_log.specs.Polled.{GoesOn, stage_of}
use Rattle.ark_log.specs.Stages.{stages_of}
use Rattle.ark_log.proofs.chain.Chain.go_on.Goals as goal

pub returns-in_default : goal.returns-in_default
returns-in_default c =
    let eq : stage_of c.args.self.now ≡ None = (λ i. slice_get (stages_of (sym c.oldest-command.ensures.command i)) (ap (λ (x : OpenChain). x.done) (sym c.self.view_is) i)) ∙ sym c.stage_of.ensures ∙ c.in_default.is in
    transport (λ i. GoesOn (sym eq i) (record { chain = c.args.self.now; ring = c.args.ring.now; space = c.args.region.now; out = c.args.out.now }) (record { chain = c.finish.new.self; ring = c.args.ring.now; space = c.finish.new.region; out = c.finish.new.out }) c.finish.result)
    (c.finish.ensures c.args.ring.now)
