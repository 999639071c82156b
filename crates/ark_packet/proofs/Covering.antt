-- The sum over what a UDP checksum covers.
use Rattle.std.proofs.Common.{◌≡◌, ℕ, ◌+◌, ◌-◌, ◌*◌, ◌<◌, ◌≤◌, List, [], ◌∷◌, ◌++◌, length, take, drop, get_or, arith, refl, sym, ap, ◌∙◌, suc, slice_range, zero, add-one, length-append, append_assoc, take-append-drop, Bool, nat_eq, ◌||◌}
use Rattle.std.proofs.Math.Seq.{drop-cons}
use Rattle.std.proofs.lemmas.Bool.Decides.{nat_tests}
use Rattle.std.proofs.lemmas.List.{get_or_append_left}
use Rattle.ark_packet.specs.Sum.{plus, ones_sum}
use Rattle.ark_packet.specs.Udp.{covered}
use Rattle.ark_packet.proofs.Sums.{plus_assoc, plus_below, zero_plus, ones_sum_below, ones_sum-append, rest_from}

-- two octets from a place on
pub two_at : (xs : List ℕ) (n : ℕ) → n + 2 ≤ length xs → slice_range xs n (n + 2) ≡ get_or xs n 0 ∷ (get_or xs (n + 1) 0 ∷ [])
two_at xs n fits =
    let cut : (n + 2) - n ≡ 2 = omega arith in
    ap (λ k. take k (drop n xs)) cut ∙ ap (take 2) (drop-cons xs n 0 (omega arith) ∙ ap (λ t. get_or xs n 0 ∷ t) (ap (λ k. drop k xs) (sym (add-one n)) ∙ drop-cons xs (n + 1) 0 (omega arith)))

octets-append : (xs ys : List ℕ) → ((i : ℕ) → get_or xs i 0 < 256) → ((i : ℕ) → get_or ys i 0 < 256) → (i : ℕ) → get_or (xs ++ ys) i 0 < 256
octets-append [] ys hx hy i = hy i
octets-append (x ∷ xs) ys hx hy zero = hx 0
octets-append (x ∷ xs) ys hx hy (suc i) = octets-append xs ys (λ k. hx (suc k)) hy i

-- four sums one after another
pub summed : (a b c d : List ℕ) (s1 s2 s3 s4 : ℕ) → length a ≡ 4 → length b ≡ 4 → length c ≡ 4
    → ((i : ℕ) → get_or a i 0 < 256) → ((i : ℕ) → get_or b i 0 < 256) → ((i : ℕ) → get_or c i 0 < 256) → ((i : ℕ) → get_or d i 0 < 256)
    → s1 ≡ plus 0 (ones_sum a) → s2 ≡ plus s1 (ones_sum b) → s3 ≡ plus s2 (ones_sum c) → s4 ≡ plus s3 (ones_sum d) → s4 ≡ ones_sum (a ++ (b ++ (c ++ d)))
summed a b c d s1 s2 s3 s4 la lb lc ha hb hc hd e1 e2 e3 e4 =
    let na = ones_sum_below a ha in let nb = ones_sum_below b hb in let nc = ones_sum_below c hc in let nd = ones_sum_below d hd in
    let cd : ones_sum (c ++ d) ≡ plus (ones_sum c) (ones_sum d) = ones_sum-append 2 c d lc hc hd in
    let bcd : ones_sum (b ++ (c ++ d)) ≡ plus (ones_sum b) (plus (ones_sum c) (ones_sum d)) =
    ones_sum-append 2 b (c ++ d) lb hb (octets-append c d hc hd) ∙ ap (plus (ones_sum b)) cd in
    let whole : ones_sum (a ++ (b ++ (c ++ d))) ≡ plus (ones_sum a) (plus (ones_sum b) (plus (ones_sum c) (ones_sum d))) =
    ones_sum-append 2 a (b ++ (c ++ d)) la ha (octets-append b (c ++ d) hb (octets-append c d hc hd)) ∙ ap (plus (ones_sum a)) bcd in
    let first : s1 ≡ ones_sum a = e1 ∙ zero_plus (ones_sum a) na in
    let second : s2 ≡ plus (ones_sum a) (ones_sum b) = e2 ∙ ap (λ n. plus n (ones_sum b)) first in
    let third : s3 ≡ plus (plus (ones_sum a) (ones_sum b)) (ones_sum c) = e3 ∙ ap (λ n. plus n (ones_sum c)) second in
    e4 ∙ ap (λ n. plus n (ones_sum d)) third
    ∙ plus_assoc (plus (ones_sum a) (ones_sum b)) (ones_sum c) (ones_sum d) (plus_below (ones_sum a) (ones_sum b) na nb) nc nd
    ∙ plus_assoc (ones_sum a) (ones_sum b) (plus (ones_sum c) (ones_sum d)) na nb (plus_below (ones_sum c) (ones_sum d) nc nd)
    ∙ sym whole

four_below : (a b c d : ℕ) → a < 256 → b < 256 → c < 256 → d < 256 → (i : ℕ) → get_or (a ∷ (b ∷ (c ∷ (d ∷ [])))) i 0 < 256
four_below a b c d ha hb hc hd zero = ha
four_below a b c d ha hb hc hd (suc zero) = hb
four_below a b c d ha hb hc hd (suc (suc zero)) = hc
four_below a b c d ha hb hc hd (suc (suc (suc zero))) = hd
four_below a b c d ha hb hc hd (suc (suc (suc (suc i)))) = omega arith

pub covered_is : (from to octets : List ℕ) (protocol s1 s2 s3 s4 : ℕ) → length from ≡ 4 → length to ≡ 4 → 8 ≤ length octets → protocol < 256
    → ((i : ℕ) → get_or from i 0 < 256) → ((i : ℕ) → get_or to i 0 < 256) → ((i : ℕ) → get_or octets i 0 < 256)
    → s1 ≡ plus 0 (ones_sum from) → s2 ≡ plus s1 (ones_sum to)
    → s3 ≡ plus s2 (ones_sum (0 ∷ (protocol ∷ (get_or octets 4 0 ∷ (get_or octets 5 0 ∷ []))))) → s4 ≡ plus s3 (ones_sum octets)
    → s4 ≡ ones_sum (covered from to protocol octets)
covered_is from to octets protocol s1 s2 s3 s4 lf lt lo small hf ht ho e1 e2 e3 e4 =
    let middle : List ℕ = 0 ∷ (protocol ∷ (get_or octets 4 0 ∷ (get_or octets 5 0 ∷ []))) in
    summed from to middle octets s1 s2 s3 s4 lf lt refl hf ht (four_below 0 protocol (get_or octets 4 0) (get_or octets 5 0) (omega arith) small (ho 4) (ho 5)) ho e1 e2 e3 e4
    ∙ ap (λ t. ones_sum (from ++ (to ++ ((0 ∷ (protocol ∷ t)) ++ octets)))) (sym (two_at octets 4 (omega arith)))

-- more octets after an even number of them
pub more : (k : ℕ) (xs ys : List ℕ) (s t : ℕ) → length xs ≡ 2 * k → ((i : ℕ) → get_or xs i 0 < 256) → ((i : ℕ) → get_or ys i 0 < 256)
    → s ≡ ones_sum xs → t ≡ plus s (ones_sum ys) → t ≡ ones_sum (xs ++ ys)
more k xs ys s t even hx hy e f = f ∙ ap (λ n. plus n (ones_sum ys)) e ∙ sym (ones_sum-append k xs ys even hx hy)

-- the body after the header
covered-append : (from to header body : List ℕ) (protocol : ℕ) → 8 ≤ length header
    → covered from to protocol (header ++ body) ≡ covered from to protocol header ++ body
covered-append from to header body protocol long =
    let length_octets : slice_range (header ++ body) 4 6 ≡ slice_range header 4 6 =
    two_at (header ++ body) 4 (omega (arith, length-append header body))
    ∙ ap (λ n. n ∷ (get_or (header ++ body) 5 0 ∷ [])) (get_or_append_left header body 0 4 (omega arith))
    ∙ ap (λ n. get_or header 4 0 ∷ (n ∷ [])) (get_or_append_left header body 0 5 (omega arith))
    ∙ sym (two_at header 4 (omega arith)) in
    ap (λ t. from ++ (to ++ ((0 ∷ (protocol ∷ t)) ++ (header ++ body)))) length_octets
    ∙ ap (λ t. from ++ (to ++ t)) (sym (append_assoc (0 ∷ (protocol ∷ slice_range header 4 6)) header body))
    ∙ ap (λ t. from ++ t) (sym (append_assoc to ((0 ∷ (protocol ∷ slice_range header 4 6)) ++ header) body))
    ∙ sym (append_assoc from (to ++ ((0 ∷ (protocol ∷ slice_range header 4 6)) ++ header)) body)

pub covered_whole : (from to header body : List ℕ) (protocol s1 s2 s3 s4 s5 : ℕ) → length from ≡ 4 → length to ≡ 4 → length header ≡ 8 → protocol < 256
    → ((i : ℕ) → get_or from i 0 < 256) → ((i : ℕ) → get_or to i 0 < 256) → ((i : ℕ) → get_or header i 0 < 256) → ((i : ℕ) → get_or body i 0 < 256)
    → s1 ≡ plus 0 (ones_sum from) → s2 ≡ plus s1 (ones_sum to)
    → s3 ≡ plus s2 (ones_sum (0 ∷ (protocol ∷ (get_or header 4 0 ∷ (get_or header 5 0 ∷ []))))) → s4 ≡ plus s3 (ones_sum header)
    → s5 ≡ plus s4 (ones_sum body) → s5 ≡ ones_sum (covered from to protocol (header ++ body))
covered_whole from to header body protocol s1 s2 s3 s4 s5 lf lt lh small hf ht hh hd e1 e2 e3 e4 e5 =
    let two : slice_range header 4 6 ≡ get_or header 4 0 ∷ (get_or header 5 0 ∷ []) = two_at header 4 (omega arith) in
    let middle : List ℕ = 0 ∷ (protocol ∷ (get_or header 4 0 ∷ (get_or header 5 0 ∷ []))) in
    let small_middle : (i : ℕ) → get_or middle i 0 < 256 = four_below 0 protocol (get_or header 4 0) (get_or header 5 0) (omega arith) small (hh 4) (hh 5) in
    let front : covered from to protocol header ≡ from ++ (to ++ (middle ++ header)) = ap (λ t. from ++ (to ++ ((0 ∷ (protocol ∷ t)) ++ header))) two in
    let octets : (i : ℕ) → get_or (from ++ (to ++ (middle ++ header))) i 0 < 256 =
    octets-append from (to ++ (middle ++ header)) hf (octets-append to (middle ++ header) ht (octets-append middle header small_middle hh)) in
    let even : length (from ++ (to ++ (middle ++ header))) ≡ 2 * 10 =
    length-append from (to ++ (middle ++ header)) ∙ (omega (arith, length-append to (middle ++ header), length-append middle header)) in
    more 10 (covered from to protocol header) body s4 s5 (ap length front ∙ even) (λ i. rw front (octets i)) hd
    (covered_is from to header protocol s1 s2 s3 s4 lf lt (omega arith) small hf ht hh e1 e2 e3 e4) e5
    ∙ ap ones_sum (sym (covered-append from to header body protocol (omega arith)))

-- octets cut in two
pub cut_in_two : (xs : List ℕ) (n : ℕ) → take n xs ++ take (length xs - n) (drop n xs) ≡ xs
cut_in_two xs n = ap (λ t. take n xs ++ t) (rest_from xs n) ∙ take-append-drop n xs

pub unless_zero : (field : ℕ) (rest : Bool) → ¬ (field ≡ 0) → rest ≡ (nat_eq field 0 || rest)
unless_zero field rest some = grind (arith, nat_tests)
