use Rattle.std.proofs.Common.{refl, sym}
use Rattle.std.proofs.Math.Logic.{∥∥₁_map}
use Rattle.ark_held.proofs.Keyed.{changes_set}
use Rattle.ark_held.proofs.Storing.{all_set, lent_in}
use Rattle.ark_held.proofs.store.Store.lend.Goals as goal

pub invariant_of-self : goal.invariant_of-self
invariant_of-self c =
    let there = sym c.at_mut.ensures.value in
    record { lie = ∥∥₁_map c.args.self.now.lie (λ all. all_set _ _ _ _ c.args.key refl all _ (lent_in _ c.at_mut.result.now _ c.take.ensures.after (all c.args.key _ there)) (changes_set _ _ _ _ there)) }
