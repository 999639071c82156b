-- A list in five parts, of which the second and the fourth are put anew.
use Rattle.std.proofs.Common.{◌≡◌, ◌≤◌, ◌+◌, ◌-◌, ◌++◌, ℕ, List, length, take, drop, sym, ap, ◌∙◌, arith, append_assoc, length-append, length-drop, slice_range}
use Rattle.std.proofs.Math.Seq.{take-append_seam, drop-append_seam, drop-append-add}
use Rattle.std.proofs.lemmas.List.{take-append-drop, length-take-le}
use Rattle.std.proofs.lemmas.List.Folds.{drop_split}
use Rattle.ark_region.specs.Frames.{put}

module _ {X : Type 0} where
  put_at : (p q r ys : List X) (j : ℕ) → length p ≡ j → length ys ≡ length q → put (p ++ (q ++ r)) j ys ≡ p ++ (ys ++ r)
  put_at p q r ys j e f =
      let front : take j (p ++ (q ++ r)) ≡ p = ap (λ n. take n (p ++ (q ++ r))) (sym e) ∙ take-append_seam p (q ++ r) in
      let past : j + length ys ≡ length p + length q = omega (arith, e, f) in
      let back : drop (j + length ys) (p ++ (q ++ r)) ≡ r = ap (λ n. drop n (p ++ (q ++ r))) past ∙ drop-append-add p (q ++ r) (length q) ∙ drop-append_seam q r in
      ap (λ z. z ++ (ys ++ drop (j + length ys) (p ++ (q ++ r)))) front ∙ ap (λ z. p ++ (ys ++ z)) back

  regroup : (a x b r : List X) → a ++ (x ++ (b ++ r)) ≡ (a ++ (x ++ b)) ++ r
  regroup a x b r = simp append_assoc

  -- the second part first, or the fourth
  pub second_first : (a x b y c v w : List X) (i j : ℕ) → length a ≡ i → length a + (length x + length b) ≡ j → length v ≡ length x → length w ≡ length y
      → put (put (a ++ (x ++ (b ++ (y ++ c)))) i v) j w ≡ a ++ (v ++ (b ++ (w ++ c)))
  second_first a x b y c v w i j ei ej ev ew =
      let k = length-append a (v ++ b) in let l = length-append v b in
      ap (λ z. put z j w) (put_at a x (b ++ (y ++ c)) v i ei ev ∙ regroup a v b (y ++ c))
      ∙ put_at (a ++ (v ++ b)) y c w j (omega (arith, k, l, ej, ev)) ew ∙ sym (regroup a v b (w ++ c))

  pub fourth_first : (a x b y c v w : List X) (i j : ℕ) → length a ≡ i → length a + (length x + length b) ≡ j → length v ≡ length x → length w ≡ length y
      → put (put (a ++ (x ++ (b ++ (y ++ c)))) j w) i v ≡ a ++ (v ++ (b ++ (w ++ c)))
  fourth_first a x b y c v w i j ei ej ev ew =
      let k = length-append a (x ++ b) in let l = length-append x b in
      ap (λ z. put z i v) (ap (λ z. put z j w) (regroup a x b (y ++ c)) ∙ put_at (a ++ (x ++ b)) y c w j (omega (arith, k, l, ej)) ew ∙ sym (regroup a x b (w ++ c)))
      ∙ put_at a x (b ++ (w ++ c)) v i ei ev

  pub five : (xs : List X) (i n j m : ℕ) → i + n ≤ j → xs ≡ take i xs ++ (slice_range xs i (i + n) ++ (slice_range xs (i + n) j ++ (slice_range xs j (j + m) ++ drop (j + m) xs)))
  five xs i n j m h =
      sym (take-append-drop i xs) ∙ ap (λ z. take i xs ++ z) (drop_split xs i (i + n) (omega arith)
      ∙ ap (λ z. slice_range xs i (i + n) ++ z) (drop_split xs (i + n) j h ∙ ap (λ z. slice_range xs (i + n) j ++ z) (drop_split xs j (j + m) (omega arith))))

  pub range_long : (xs : List X) (a e : ℕ) → a ≤ e → e ≤ length xs → length (slice_range xs a e) ≡ e - a
  range_long xs a e h k = let d = length-drop a xs in length-take-le (e - a) (drop a xs) (omega (arith, d))

  pub put_long : (xs ys : List X) (i : ℕ) → i + length ys ≤ length xs → length (put xs i ys) ≡ length xs
  put_long xs ys i h =
      let a = length-append (take i xs) (ys ++ drop (i + length ys) xs) in let b = length-append ys (drop (i + length ys) xs) in
      let c = length-take-le i xs (omega arith) in let d = length-drop (i + length ys) xs in
      omega (arith, a, b, c, d)
