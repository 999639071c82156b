use Rattle.std.proofs.Common.{◌≡◌, ◌∙◌, drop, take, arith, bytes_eq}
use Rattle.std.proofs.lemmas.List.{take_all, length-drop}
use Rattle.ark_entry.proofs.entry.marked.Goals as goal

pub returns : goal.returns
returns c =
    let tail : take 8 (drop 504 c.args.block.now) ≡ drop 504 c.args.block.now = take_all 8 (drop 504 c.args.block.now) (omega (arith, length-drop 504 c.args.block.now, c.told-block)) in
    c.eq.ensures ∙ (λ i. bytes_eq (tail i) (c.as_slice.ensures i))
