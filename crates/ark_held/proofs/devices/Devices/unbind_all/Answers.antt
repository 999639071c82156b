use Rattle.std.proofs.Common.{◌≢◌, arith, ap, ◌∙◌, below_more}
use Rattle.std.specs.Prelude.{option_map}
use Rattle.ark_held.specs.Rings.{unbound}
use Rattle.ark_held.proofs.devices.Devices.unbind_all.Goals as goal

pub loop-key-preserved : goal.loop-key-preserved
loop-key-preserved c =
    let was = c.loop-key.invariant in
    let step = c.unbind_card.ensures.changes in
    record {
      before = below_more _ _ (λ k lt. let other : k ≢ c.loop-key.key = omega (arith, lt) in step.others k other ∙ was.before k lt)
          (step.changed ∙ ap (λ o. option_map (unbound c.args.grant) o) (was.behind c.loop-key.key (omega arith)));
      behind = λ k le. let other : k ≢ c.loop-key.key = omega (arith, le) in step.others k other ∙ was.behind k (omega (arith, le));
      held = c.unbind_card.ensures.held ∙ was.held;
      doors = c.unbind_card.ensures.doors ∙ was.doors;
      rates = c.unbind_card.ensures.rates ∙ was.rates;
      nets = c.unbind_card.ensures.nets ∙ was.nets;
      frames = c.unbind_card.ensures.frames ∙ was.frames;
    }
