use Rattle.std.proofs.Common.{ap, length, arith}
use Rattle.ark_held.specs.Words.{AreaList}
use Rattle.ark_held.proofs.Bindings.{bound_spanned}
use Rattle.ark_held.proofs.Spanning.{spans_counted}
use Rattle.ark_held.proofs.app.App.set_spans.Goals as goal

pub invariant_of-self : goal.invariant_of-self
invariant_of-self c =
    let app = c.args.self.now in
    let many = ap (λ (xs : AreaList). length xs) c.set_spans.ensures.set in
    let same = spans_counted c.args.grant c.args.spans app.areas in
    let room = app.room in
    record {
      room = omega (arith, many, same, room);
      memory = app.memory;
      network = app.network;
      bound = bound_spanned app.areas _ c.args.grant c.args.spans app.devices.cards c.set_spans.ensures.set app.bound;
    }
