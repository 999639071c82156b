use Rattle.std.proofs.Common.{◌∙◌, ◌&&◌, Bool, sym, ap, nat_eq, get_or, rules}
use Rattle.std.proofs.lemmas.List.Folds.{list_all_more}
use Rattle.ark_own.proofs.OfBytes.{zero_or}
use Rattle.ark_own.proofs.bytes.are_zero.Goals as goal

pub loop-b-preserved : goal.loop-b-preserved
loop-b-preserved c =
    let bytes = c.args.bytes.now in
    let b = get_or bytes c.loop-b.b-index 0 in
    zero_or c.loop-b.all b ∙ ap (λ (z : Bool). z && nat_eq b 0) c.loop-b.invariant
    ∙ sym (list_all_more (λ b. nat_eq b 0) bytes c.loop-b.b-index 0 (search rules))
