use Rattle.std.proofs.Common.{◌≡◌, Some, sym, subst, rules}
use Rattle.std.proofs.Math.Logic.{∥∥₁_map}
use Rattle.ark_objects.specs.Held.{at}
use Rattle.ark_region.specs.Frames.{Piece, LiesInRegion}
use Rattle.ark_held.proofs.Rights.{right_lies}
use Rattle.ark_held.proofs.Storing.{all_unset}
use Rattle.ark_held.proofs.store.Store.give.Goals as goal

pub give-requires : goal.give-requires
give-requires c =
    let there : at c.args.self.now.buffers c.args.key ≡ Some c.in-Some.buffer = search rules in
    subst (λ (p : Piece). LiesInRegion c.args.self.now.region.taken p) (sym c.in-Some-buf.right-is) (right_lies c.args.self.now.region.taken c.args.self.now.buffers c.args.key c.in-Some.buffer c.in-Some-buf.right c.args.self.now.lie there c.in-Some-buf.is)

pub invariant_of-self : goal.invariant_of-self
invariant_of-self c = record {
  lie = ∥∥₁_map c.args.self.now.lie (λ all. all_unset c.args.self.now.region.taken c.give.new.self.taken c.args.self.now.buffers c.take.new.self c.args.key c.give.ensures.frames all c.take.ensures.changes);
}
