use Rattle.std.proofs.Common.{◌≡◌, ◌+◌, ◌++◌, ◌∙◌, ℕ, List, sym, ap, length, drop, replicate, arith, length-append}
use Rattle.std.proofs.lemmas.List.{length-take-le, length-drop}
use Rattle.ark_entry.proofs.Laying.{zeros_behind}
use Rattle.ark_entry.proofs.header.write_header.Goals as goal

pub slice_bounds-copy_from_slice-end-2 : goal.slice_bounds-copy_from_slice-end-2
slice_bounds-copy_from_slice-end-2 c = sym (length-take-le 28 c.args.out.now (omega (arith, c.requires)))

pub copy_from_slice-requires : goal.copy_from_slice-requires
copy_from_slice-requires c =
    let long : length c.field_bytes.result + 484 ≡ 512 = sym (length-append c.field_bytes.result (replicate 484 0)) ∙ ap (λ (l : List ℕ). length l) c.field_bytes.ensures in
    length-take-le 28 c.args.out.now (omega (arith, c.requires)) ∙ omega (arith, long)

pub returns : goal.returns
returns c =
    let long : length c.field_bytes.result + 484 ≡ 512 = sym (length-append c.field_bytes.result (replicate 484 0)) ∙ ap (λ (l : List ℕ). length l) c.field_bytes.ensures in
    let front : length c.copy_from_slice.new.self ≡ 28 = ap (λ (l : List ℕ). length l) c.copy_from_slice.ensures.after ∙ omega (arith, long) in
    let left : length (drop 28 c.args.out.now) ≡ 484 = length-drop 28 c.args.out.now ∙ omega (arith, c.requires) in
    zeros_behind 28 c.copy_from_slice.new.self (drop 28 c.args.out.now) c.fill.new.self front (c.fill.ensures.after (λ y is. is))
    ∙ (λ i. c.copy_from_slice.ensures.after i ++ replicate (left i) 0) ∙ c.field_bytes.ensures
