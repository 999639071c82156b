use Rattle.std.proofs.Common.{false, length, sym, ◌∙◌, ap, arith}
use Rattle.std.proofs.lemmas.List.{length-replicate}
use Rattle.ark_region.specs.Frames.{Space}
use Rattle.ark_held.specs.Words.{AreaList}
use Rattle.ark_held.proofs.Bindings.{none_bound}
use Rattle.ark_held.proofs.app.App.new.Goals as goal

pub invariant_of-result-2 : goal.invariant_of-result-2
invariant_of-result-2 c =
    let areas = ap (λ (z : AreaList). length z) c.in-Ok-new.ensures.empty in
    let buffers = c.in_ok-new.ensures.none in
    let cards = c.in_ok-new-2.ensures.cards in
    let doors = c.in_ok-new-2.ensures.doors in
    let rates = c.in_ok-new-2.ensures.rates in
    let nets = c.in_ok-new-2.ensures.nets in
    record {
      room = omega (arith, areas, buffers, cards, doors, rates, nets);
      memory = c.in_ok-new-2.ensures.frames ∙ sym (ap (λ (z : Space). length z.taken) c.in_ok-new.ensures.region ∙ length-replicate c.args.frames false);
      network = c.in_ok-new-2.ensures.net_frames ∙ sym (ap (λ (z : Space). length z.taken) c.in_ok-new.ensures.region ∙ length-replicate c.args.frames false);
      bound = ∣ none_bound c.in-Ok-new.areas c.in_ok-new-2.field-0.cards c.in_ok-new-2.ensures.vacant ∣₁;
    }
