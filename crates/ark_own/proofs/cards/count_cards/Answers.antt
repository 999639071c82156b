use Rattle.std.proofs.Common.{◌≤◌, length, arith}
use Rattle.ark_own.proofs.Counting.{counted, few_counted, either}
use Rattle.ark_own.proofs.cards.count_cards.Goals as goal

pub returns : goal.returns
returns c = rw (c.count.ensures.count, c.count-2.ensures.count) (counted _ _ (λ z. either z.kind) c.args.labels.now)

pub overflow_add-result : goal.overflow_add-result
overflow_add-result c =
    let a : c.count.result ≤ length c.args.labels.now = rw c.count.ensures.count (few_counted _ c.args.labels.now) in
    let b : c.count-2.result ≤ length c.args.labels.now = rw c.count-2.ensures.count (few_counted _ c.args.labels.now) in
    let few = c.requires in
    omega (arith, a, b, few)
