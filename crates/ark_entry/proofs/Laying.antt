-- Bytes laid over the front of a buffer, and zeros behind them to its end.
use Rattle.std.proofs.Common.{◌≡◌, ℕ, ◌+◌, ◌-◌, ◌*◌, List, [], ◌++◌, length, take, drop, replicate, sym, ◌∙◌, ap, arith, append_assoc, append-nil, length-append}
use Rattle.std.proofs.Math.Seq.{take-append_seam, drop-append_seam}
use Rattle.std.proofs.lemmas.List.{take_all, length-drop}
use borrow.Rule.Slice.PartMut.{mid_of, put_mid}
use Rattle.ark_media.proofs.Flat.{none_left}
use Rattle.ark_entry.specs.Entry.{entry_blocks, head_bytes, entry_bytes}

-- what stands behind the first bytes, to the end
behind : (n : ℕ) (xs rest : List ℕ) → length xs ≡ n → mid_of n (length (xs ++ rest) - n) (xs ++ rest) ≡ rest
behind n xs rest long =
    let left : length (xs ++ rest) - n ≡ length rest = omega (arith, long, length-append xs rest) in
    ap (λ k. take k (drop n (xs ++ rest))) left ∙ ap (λ k. take (length rest) (drop k (xs ++ rest))) (sym long)
    ∙ ap (λ t. take (length rest) t) (drop-append_seam xs rest) ∙ take_all (length rest) rest (omega arith)

-- other bytes in their place
pub laid_behind : (n : ℕ) (xs rest ys : List ℕ) → length xs ≡ n → put_mid n (length (xs ++ rest) - n) (xs ++ rest) ys ≡ xs ++ ys
laid_behind n xs rest ys long =
    let left : length (xs ++ rest) - n ≡ length rest = omega (arith, long, length-append xs rest) in
    let front : take n (xs ++ rest) ≡ xs = ap (λ k. take k (xs ++ rest)) (sym long) ∙ take-append_seam xs rest in
    let none : drop (length (xs ++ rest) - n) (drop n (xs ++ rest)) ≡ [] =
    none_left (drop (length (xs ++ rest) - n) (drop n (xs ++ rest)))
    (omega (arith, long, length-append xs rest, length-drop (length (xs ++ rest) - n) (drop n (xs ++ rest)), length-drop n (xs ++ rest))) in
    (λ i. front i ++ (ys ++ none i)) ∙ ap (λ t. xs ++ t) (append-nil ys)

-- zeros in their place
pub zeros_behind : (n : ℕ) (xs rest ys : List ℕ) → length xs ≡ n → ys ≡ replicate (length (mid_of n (length (xs ++ rest) - n) (xs ++ rest))) 0
    → put_mid n (length (xs ++ rest) - n) (xs ++ rest) ys ≡ xs ++ replicate (length rest) 0
zeros_behind n xs rest ys long is = laid_behind n xs rest ys long ∙ ap (λ t. xs ++ t) (is ∙ ap (λ (t : List ℕ). replicate (length t) 0) (behind n xs rest long))

-- the buffer once the payload stands behind the first bytes of its entry
abbrev begun : List ℕ → List ℕ → List ℕ → ℕ → List ℕ
begun old head payload len = put_mid 20 (20 + len - 20) (head ++ drop 20 old) payload

pub entry_laid : (old head laid zeros : List ℕ) (number next : ℕ) (payload : List ℕ) → length old ≡ 512 * entry_blocks (length payload)
    → head ≡ head_bytes (length payload) number next → laid ≡ payload
    → zeros ≡ replicate (length (mid_of (20 + length payload) (length (begun old head laid (length payload)) - (20 + length payload)) (begun old head laid (length payload)))) 0
    → put_mid (20 + length payload) (length (begun old head laid (length payload)) - (20 + length payload)) (begun old head laid (length payload)) zeros ≡ entry_bytes number next payload
entry_laid old head laid zeros number next payload room head_is laid_is zeros_are =
    let len = length payload in
    let first : List ℕ = head_bytes len number next in
    let rest : List ℕ = drop (20 + len - 20) (drop 20 old) in
    let whole : begun old head laid len ≡ (first ++ payload) ++ rest = (λ i. begun old (head_is i) (laid_is i) len) ∙ sym (append_assoc first payload rest) in
    let long : length (first ++ payload) ≡ 20 + len = length-append first payload in
    let left : length rest ≡ 512 * entry_blocks len - (20 + len) = omega (arith, room, length-drop (20 + len - 20) (drop 20 old), length-drop 20 old) in
    ap (λ t. put_mid (20 + len) (length t - (20 + len)) t zeros) whole
    ∙ zeros_behind (20 + len) (first ++ payload) rest zeros long (zeros_are ∙ ap (λ t. replicate (length (mid_of (20 + len) (length t - (20 + len)) t)) 0) whole)
    ∙ ap (λ n. (first ++ payload) ++ replicate n 0) left ∙ append_assoc first payload (replicate (512 * entry_blocks len - (20 + len)) 0)
