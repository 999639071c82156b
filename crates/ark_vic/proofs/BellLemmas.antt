-- One more ring of a door.
use Rattle.std.proofs.Common.{◌≡◌, ◌+◌, ◌++◌, ◌∷◌, [], ℕ, List, Bool, cond, arith}
use Rattle.ark_vic.specs.declared.door.Bell.{Bell}
use Rattle.ark_vic.specs.declared.door.Bell.TheVariants.{Rx, Tx, Io}
use Rattle.ark_vic.specs.declared.door.Counts.{Counts}
use Rattle.ark_vic.specs.Bells.{standing, is_rx, is_tx, is_io, times, counts_of, one_more}

times_append : (is : Bell → Bool) (bell : Bell) (bells : List Bell) → times is (bells ++ bell ∷ []) ≡ times is bells + cond (is bell) 1 0
times_append is bell [] = omega arith
times_append is bell (x ∷ bells) = let e = times_append is bell bells in omega (arith, e)

stands_again : (n m : ℕ) → m ≡ n + 1 → standing (standing n + 1) ≡ standing m
stands_again n m e = omega (arith, e)

stands_still : (n m : ℕ) → m ≡ n + 0 → standing n ≡ standing m
stands_still n m e = omega (arith, e)

same_counts : (a b : Counts) → a.rx ≡ b.rx → a.tx ≡ b.tx → a.io ≡ b.io → a ≡ b
same_counts a b p q r = λ i. record { rx = p i; tx = q i; io = r i }

pub counts_more : (bells : List Bell) (bell : Bell) → one_more (counts_of bells) bell ≡ counts_of (bells ++ bell ∷ [])
counts_more bells Rx = same_counts _ _ (stands_again _ _ (times_append is_rx Rx bells)) (stands_still _ _ (times_append is_tx Rx bells)) (stands_still _ _ (times_append is_io Rx bells))
counts_more bells Tx = same_counts _ _ (stands_still _ _ (times_append is_rx Tx bells)) (stands_again _ _ (times_append is_tx Tx bells)) (stands_still _ _ (times_append is_io Tx bells))
counts_more bells Io = same_counts _ _ (stands_still _ _ (times_append is_rx Io bells)) (stands_still _ _ (times_append is_tx Io bells)) (stands_again _ _ (times_append is_io Io bells))
