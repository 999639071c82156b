use Rattle.std.proofs.Common.{◌≡◌, refl, sym, rules}
use Rattle.std.specs.Prelude.{Some}
use Rattle.std.proofs.Math.Logic.{∥∥₁_map}
use Rattle.ark_objects.specs.Held.{at}
use Rattle.ark_held.proofs.Keyed.{changes_set}
use Rattle.ark_held.proofs.Storing.{all_set, right_in, its_place}
use Rattle.ark_held.proofs.store.Store.restore.Goals as goal

pub invariant_of-self : goal.invariant_of-self
invariant_of-self c =
    let there = sym c.at_mut.ensures.value in
    let seen : at c.args.self.now.buffers c.args.key ≡ Some c.in-Some.buffer.now = search rules in
    let start : c.in-Some.buffer.now.start ≡ c.args.right.start = search rules in
    let len : c.in-Some.buffer.now.len ≡ c.args.right.len = search rules in
    record { lie = ∥∥₁_map c.args.self.now.lie (λ all. all_set _ _ _ _ c.args.key refl all _ (right_in _ c.at_mut.result.now _ (its_place c.args.self.now.buffers c.args.key c.in-Some.buffer.now c.at_mut.result.now c.args.right seen there start len) (all c.args.key _ there)) (changes_set _ _ _ _ there)) }
