-- Blocks of 512 bytes, one after another.
use Rattle.std.proofs.Common.{◌≡◌, ℕ, zero, suc, ◌+◌, ◌-◌, ◌*◌, ◌/◌, ◌%◌, ◌<◌, ◌≤◌, List, [], ◌∷◌, ◌++◌, length, take, drop, set, replicate, refl, sym, ◌∙◌, ap, arith, append_assoc, length-append, length-drop}
use Rattle.std.proofs.lemmas.List.{take-append-drop, take-append-le, take_all, length-take, take-replicate, drop-replicate, length-replicate}
use Rattle.std.proofs.Math.Seq.{drop-append_seam, drop-append-add, take-append-add}
use Rattle.ark_media.specs.Blocks.{blocks_in, whole_blocks, flat, AllWhole}
use Rattle.ark_media.specs.Journal.{AllBlocks, block, zero_block}

pub length-blocks_in : (n : ℕ) (bytes : List ℕ) → length (blocks_in n bytes) ≡ n
unfolding blocks_in
length-blocks_in zero bytes = refl
length-blocks_in (suc n) bytes = ap suc (length-blocks_in n (drop 512 bytes))

pub none_left : (l : List ℕ) → length l ≡ 0 → l ≡ []
none_left [] h = refl
none_left (x ∷ xs) h = absurd (omega (arith, h))

pub flat-blocks_in : (n : ℕ) (bytes : List ℕ) → length bytes ≡ 512 * n → flat (blocks_in n bytes) ≡ bytes
unfolding blocks_in flat
flat-blocks_in zero bytes is = sym (none_left bytes (omega (arith, is)))
flat-blocks_in (suc n) bytes is =
    ap (λ t. take 512 bytes ++ t) (flat-blocks_in n (drop 512 bytes) (omega (arith, length-drop 512 bytes, is))) ∙ take-append-drop 512 bytes

pub whole-blocks_in : (n : ℕ) (bytes : List ℕ) → length bytes ≡ 512 * n → AllWhole (blocks_in n bytes)
unfolding blocks_in AllWhole
whole-blocks_in zero bytes is = tt
whole-blocks_in (suc n) bytes is =
    let size : 512 ≤ length bytes = omega (arith, is) in
    (length-take 512 bytes ∙ omega (arith, size), whole-blocks_in n (drop 512 bytes) (omega (arith, length-drop 512 bytes, is)))

pub length-flat : (blocks : List (List ℕ)) → AllWhole blocks → length (flat blocks) ≡ 512 * length blocks
unfolding flat AllWhole
length-flat [] whole = refl
length-flat (b ∷ bs) whole = length-append b (flat bs) ∙ omega (arith, whole.0, length-flat bs whole.1)

-- a block among the bytes
pub block-flat : (blocks : List (List ℕ)) (n : ℕ) → AllWhole blocks → n < length blocks → take 512 (drop (512 * n) (flat blocks)) ≡ block blocks n
unfolding flat AllWhole
block-flat [] n whole inside = absurd (omega arith)
block-flat (b ∷ bs) zero whole inside = take-append-le 512 b (flat bs) (omega (arith, whole.0)) ∙ take_all 512 b (omega (arith, whole.0))
block-flat (b ∷ bs) (suc n) whole inside =
    let at : 512 * suc n ≡ length b + 512 * n = omega (arith, whole.0) in
    ap (λ k. take 512 (drop k (b ++ flat bs))) at ∙ ap (λ t. take 512 t) (drop-append-add b (flat bs) (512 * n)) ∙ block-flat bs n whole.1 (omega arith)

-- a block among the bytes is replaced
pub set-flat : (blocks : List (List ℕ)) (n : ℕ) (content : List ℕ) → AllWhole blocks → length content ≡ 512 → n < length blocks
    → take (512 * n) (flat blocks) ++ (content ++ drop (512 * n + 512) (flat blocks)) ≡ flat (set blocks n content)
unfolding flat AllWhole
set-flat [] n content whole size inside = absurd (omega arith)
set-flat (b ∷ bs) zero content whole size inside =
    let at : 512 ≡ length b = sym whole.0 in
    ap (λ t. content ++ t) (ap (λ k. drop k (b ++ flat bs)) at ∙ drop-append_seam b (flat bs))
set-flat (b ∷ bs) (suc n) content whole size inside =
    let at : 512 * suc n ≡ length b + 512 * n = omega (arith, whole.0) in
    let after : 512 * suc n + 512 ≡ length b + (512 * n + 512) = omega (arith, whole.0) in
    ap (λ k. take k (b ++ flat bs) ++ (content ++ drop (512 * suc n + 512) (b ++ flat bs))) at
    ∙ ap (λ k. take (length b + 512 * n) (b ++ flat bs) ++ (content ++ drop k (b ++ flat bs))) after
    ∙ ap (λ t. t ++ (content ++ drop (length b + (512 * n + 512)) (b ++ flat bs))) (take-append-add b (flat bs) (512 * n))
    ∙ ap (λ t. (b ++ take (512 * n) (flat bs)) ++ (content ++ t)) (drop-append-add b (flat bs) (512 * n + 512))
    ∙ append_assoc b (take (512 * n) (flat bs)) (content ++ drop (512 * n + 512) (flat bs))
    ∙ ap (λ t. b ++ t) (set-flat bs n content whole.1 size (omega arith))

pub whole-set : (blocks : List (List ℕ)) (n : ℕ) (content : List ℕ) → AllWhole blocks → length content ≡ 512 → AllWhole (set blocks n content)
unfolding AllWhole
whole-set [] n content whole size = tt
whole-set (b ∷ bs) zero content whole size = (size, whole.1)
whole-set (b ∷ bs) (suc n) content whole size = (whole.0, whole-set bs n content whole.1 size)

blocks-zeros : (n : ℕ) → blocks_in n (replicate (512 * n) 0) ≡ replicate n zero_block
unfolding blocks_in
blocks-zeros zero = refl
blocks-zeros (suc n) =
    let left : 512 * suc n - 512 ≡ 512 * n = omega arith in
    ap (λ t. t ∷ blocks_in n (drop 512 (replicate (512 * suc n) 0))) (take-replicate 512 (512 * suc n) 0 (omega arith))
    ∙ ap (λ t. zero_block ∷ blocks_in n t) (drop-replicate 512 (512 * suc n) 0 ∙ ap (λ k. replicate k 0) left)
    ∙ ap (λ t. zero_block ∷ t) (blocks-zeros n)

-- whole blocks, as many as there are
pub blocks_of_whole : (n : ℕ) (bytes : List ℕ) → length bytes ≡ 512 * n → whole_blocks bytes ≡ blocks_in n bytes
blocks_of_whole n bytes is = let count : length bytes / 512 ≡ n = omega (arith, is) in ap (λ k. blocks_in k bytes) count

pub zeros : (n : ℕ) → whole_blocks (replicate (512 * n) 0) ≡ replicate n zero_block
zeros n = blocks_of_whole n (replicate (512 * n) 0) (length-replicate (512 * n) 0) ∙ blocks-zeros n

pub flat_of_whole : (bytes : List ℕ) → length bytes % 512 ≡ 0 → flat (whole_blocks bytes) ≡ bytes
flat_of_whole bytes whole = flat-blocks_in (length bytes / 512) bytes (omega (arith, whole))

pub whole_of_whole : (bytes : List ℕ) → length bytes % 512 ≡ 0 → AllWhole (whole_blocks bytes)
whole_of_whole bytes whole = whole-blocks_in (length bytes / 512) bytes (omega (arith, whole))

-- block by block
pub each_whole : (blocks : List (List ℕ)) → AllWhole blocks → AllBlocks blocks
unfolding AllWhole
each_whole [] whole n inside = absurd (omega (arith, inside))
each_whole (b ∷ bs) whole zero inside = whole.0
each_whole (b ∷ bs) whole (suc n) inside = each_whole bs whole.1 n (omega (arith, inside))

pub found_blocks : (bytes : List ℕ) → length bytes % 512 ≡ 0 → AllBlocks (whole_blocks bytes)
found_blocks bytes whole = each_whole (whole_blocks bytes) (whole_of_whole bytes whole)

pub zero_blocks : (n : ℕ) → AllBlocks (replicate n zero_block)
zero_blocks zero k inside = absurd (omega (arith, inside))
zero_blocks (suc n) zero inside = length-replicate {A = ℕ} 512 0
zero_blocks (suc n) (suc k) inside = zero_blocks n k (omega (arith, inside))

pub no_blocks : whole_blocks [] ≡ []
unfolding blocks_in
no_blocks = refl
