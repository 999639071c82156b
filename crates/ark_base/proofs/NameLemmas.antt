-- Bytes that are read one by one as a name.
use Rattle.std.proofs.Common.{◌≡◌, ℕ, suc, ◌+◌, ◌-◌, ◌<◌, List, [], ◌∷◌, ◌++◌, length, set, replicate, append_assoc, sym, ◌∙◌, arith}
use Rattle.std.proofs.Math.Seq.{set-append_seam}
use Rattle.std.proofs.lemmas.List.{length_push}
use Rattle.ark_base.specs.Name.{padded}

-- one byte more, in the place behind the others
pub padded_more : (xs : List ℕ) (n b : ℕ) → length xs ≡ n → n < 15 → set (padded xs) n b ≡ padded (xs ++ b ∷ [])
padded_more xs n b size room =
    let free : 15 - length xs ≡ suc (15 - (length xs + 1)) = omega (arith, size) in
    let more : length (xs ++ b ∷ []) ≡ length xs + 1 = length_push xs b in
    rw (← size, free, more) (set-append_seam xs 0 (replicate (15 - (length xs + 1)) 0) b ∙ sym (append_assoc xs (b ∷ []) (replicate (15 - (length xs + 1)) 0)))
