-- What a `Vec` ends with, once a part of it was lent.
use Rattle.std.proofs.Common.{◌≡◌, ◌++◌, ap, take, drop, length, List, ℕ, Vec}
use Rattle.std.specs.Vec.{with_items_from}
use Rattle.ark_region.specs.Frames.{written}

pub written_back : {Z : Type 0} (v : Vec ℕ Z) (i : ℕ) (w : List ℕ) → (with_items_from v i w).items ≡ written v.items i w
written_back v i w =
    let zs = take i v.items ++ (w ++ drop (length w) (drop i v.items)) in
    ap (λ n. take n (zs ++ drop (length zs) v.items)) v.ok.0
