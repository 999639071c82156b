use Rattle.std.proofs.Common.{◌≡◌, ℕ, ◌+◌, ◌-◌, ◌<◌, ◌≤◌, true, List, [], ◌∷◌, ◌++◌, length, get_or, set, take, drop, length-take-le, refl, sym, ap, ◌∙◌, arith}
use Rattle.std.specs.List.{list_all}
use Rattle.std.proofs.lemmas.Grind.{get_or_after_one}
use Rattle.std.proofs.lemmas.List.{length-drop, take_more, take_rest}
use Rattle.std.proofs.lemmas.List.Folds.{list_all_more}
use Rattle.ark_base.specs.Name.{is_name_byte, padded}
use Rattle.ark_base.proofs.NameLemmas.{padded_more}
use Rattle.ark_base.proofs.name.Name.read.Goals as goal

pub loop-at-preserved : goal.loop-at-preserved
loop-at-preserved c =
    let text = c.args.text.now in
    let at = c.loop-at.at in
    let rest = take (length text - 1) (drop 1 text) in
    let whole : rest ≡ drop 1 text = take_rest text 1 in
    let size : length rest ≡ length text - 1 = ap length whole ∙ length-drop 1 text in
    let inside : at < length rest = c.loop-at-test.true in
    let room : length rest ≤ 14 = omega (arith, c.if-rest-gt14.false) in
    let next : at + 1 < length text = omega (arith, size, inside) in
    let byte : get_or rest at 0 ≡ get_or text (at + 1) 0 =
    ap (λ (xs : List ℕ). get_or xs at 0) whole ∙ get_or_after_one text at 0 ∙ ap (λ (i : ℕ). get_or text i 0) (omega arith) in
    let front : length (take (at + 1) text) ≡ at + 1 = length-take-le (at + 1) text (omega (arith, next)) in
    let more : take (at + 1 + 1) text ≡ take (at + 1) text ++ get_or rest at 0 ∷ [] =
    take_more text (at + 1) 0 next ∙ ap (λ (b : ℕ). take (at + 1) text ++ b ∷ []) (sym byte) in
    let good : is_name_byte (get_or rest at 0) ≡ true = sym c.is_name_byte.ensures ∙ c.if-not-is_name_byte.false in (
      ap (λ (xs : List ℕ). set xs (at + 1) (get_or rest at 0)) c.loop-at.invariant.0
          ∙ padded_more (take (at + 1) text) (at + 1) (get_or rest at 0) front (omega (arith, room, inside))
          ∙ ap padded (sym more),
      list_all_more is_name_byte rest at 0 inside ∙ rw (c.loop-at.invariant.1, good) refl,
    )
