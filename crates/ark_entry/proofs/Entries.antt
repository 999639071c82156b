-- An entry that is written and marked is found at its place.
use Rattle.std.proofs.Common.{◌≡◌, ℕ, zero, suc, ◌+◌, ◌-◌, ◌*◌, ◌/◌, ◌%◌, ◌^◌, ◌<◌, ◌≤◌, List, ◌++◌, true, ◌&&◌, Some, length, take, drop, replicate, refl, sym, ◌∙◌, ap, arith, append_assoc, length-append, append-nil}
use Rattle.std.specs.Prelude.{bytes_eq, nat_le, ◌==◌}
use Rattle.std.specs.Int.{w32, w64, to_be_bytes, from_be_bytes}
use Rattle.std.proofs.Math.Seq.{take-append_seam, take-append-add, drop-append_seam, drop-append-add}
use Rattle.std.proofs.Math.Nat.{mod-eq_of_lt, mod-lt}
use Rattle.std.proofs.lemmas.List.{take-replicate, length-replicate}
use Rattle.std.proofs.lemmas.Bool.{le-leb, eq-eqb}
use Rattle.std.proofs.lemmas.Nat.{from_be_bytes-to_be_bytes_4, from_be_bytes-to_be_bytes_8, div-add-mod', mod_below}
use Rattle.ark_media.specs.Journal.{block}
use Rattle.ark_entry.specs.Entry.{entry_blocks, marker, head_bytes, entry_bytes, marked, ring_bytes, AreWhole, length_in, is_head, is_marked, payload_at, payload_if, entry_at}
use Rattle.ark_base.proofs.Basics.{bytes_eq-same}

-- the blocks hold the payload and 28 bytes more, and are no more than that takes
pub blocks_hold : (len : ℕ) → (28 + len ≤ 512 * entry_blocks len) × (512 * entry_blocks len ≤ len + 539)
blocks_hold len =
    let whole : (len + 539) / 512 * 512 + (len + 539) % 512 ≡ len + 539 = div-add-mod' (len + 539) 512 in
    let part : (len + 539) % 512 < 512 = mod_below (len + 539) 512 (omega arith) in
    (omega (arith, whole, part), omega (arith, whole, part))

-- zeros between payload and marker
unfoldable pub gap : ℕ → ℕ
gap len = 512 * entry_blocks len - (28 + len)

unfoldable pub spelling : ℕ → ℕ → List ℕ → List ℕ
spelling number next payload = head_bytes (length payload) number next ++ (payload ++ (replicate (gap (length payload)) 0 ++ marker))

pub length-spelling : (number next : ℕ) (payload : List ℕ) → length (spelling number next payload) ≡ 512 * entry_blocks (length payload)
unfolding spelling gap
length-spelling number next payload =
    let len = length payload in
    let hold = blocks_hold len in
    let rest : length (payload ++ (replicate (gap len) 0 ++ marker)) ≡ len + (gap len + 8) =
    length-append payload (replicate (gap len) 0 ++ marker) ∙ ap (λ n. len + n) (length-append (replicate (gap len) 0) marker ∙ ap (λ n. n + 8) (length-replicate (gap len) 0)) in
    let whole : length (head_bytes len number next ++ (payload ++ (replicate (gap len) 0 ++ marker))) ≡ 20 + length (payload ++ (replicate (gap len) 0 ++ marker)) =
    length-append (head_bytes len number next) (payload ++ (replicate (gap len) 0 ++ marker)) in
    let fits : 28 + len ≤ 512 * entry_blocks len = hold.0 in
    omega (arith, whole, rest, fits)

-- the bytes that are written last are the spelling
pub marked-is : (number next : ℕ) (payload : List ℕ) → marked (entry_bytes number next payload) ≡ spelling number next payload
unfolding spelling gap
marked-is number next payload =
    let len = length payload in
    let hold : 28 + len ≤ 512 * entry_blocks len = (blocks_hold len).0 in
    let zeros : List ℕ = replicate (512 * entry_blocks len - (20 + len)) 0 in
    let rest : length (payload ++ zeros) ≡ len + (512 * entry_blocks len - (20 + len)) = length-append payload zeros ∙ ap (λ n. len + n) (length-replicate (512 * entry_blocks len - (20 + len)) 0) in
    let whole : length (entry_bytes number next payload) ≡ 20 + length (payload ++ zeros) = length-append (head_bytes len number next) (payload ++ zeros) in
    let cut : length (entry_bytes number next payload) - 8 ≡ 20 + (len + gap len) = omega (arith, whole, rest, hold) in
    let front : take (20 + (len + gap len)) (entry_bytes number next payload) ≡ head_bytes len number next ++ take (len + gap len) (payload ++ zeros) =
    take-append-add (head_bytes len number next) (payload ++ zeros) (len + gap len) in
    let back : take (len + gap len) (payload ++ zeros) ≡ payload ++ replicate (gap len) 0 =
    take-append-add payload zeros (gap len) ∙ ap (λ z. payload ++ z) (take-replicate (gap len) (512 * entry_blocks len - (20 + len)) 0 (omega arith)) in
    ap (λ n. take n (entry_bytes number next payload) ++ marker) cut
    ∙ ap (λ t. t ++ marker) (front ∙ ap (λ t. head_bytes len number next ++ t) back)
    ∙ append_assoc (head_bytes len number next) (payload ++ replicate (gap len) 0) marker
    ∙ ap (λ t. head_bytes len number next ++ t) (append_assoc payload (replicate (gap len) 0) marker)

-- the last 8 bytes of the spelling
pub last_bytes : (number next : ℕ) (payload : List ℕ) → drop (512 * entry_blocks (length payload) - 8) (spelling number next payload) ≡ marker
unfolding spelling gap
last_bytes number next payload =
    let len = length payload in
    let hold : 28 + len ≤ 512 * entry_blocks len = (blocks_hold len).0 in
    let zeros : List ℕ = replicate (gap len) 0 in
    let zeros_long : length zeros ≡ gap len = length-replicate (gap len) 0 in
    let cut : 512 * entry_blocks len - 8 ≡ 20 + (len + length zeros) = omega (arith, zeros_long, hold) in
    ap (λ n. drop n (spelling number next payload)) cut
    ∙ drop-append-add (head_bytes len number next) (payload ++ (zeros ++ marker)) (len + length zeros)
    ∙ drop-append-add payload (zeros ++ marker) (length zeros)
    ∙ drop-append_seam zeros marker

-- the payload of the spelling
pub middle_bytes : (number next : ℕ) (payload : List ℕ) → take (20 + length payload - 20) (drop 20 (spelling number next payload)) ≡ payload
unfolding spelling gap
middle_bytes number next payload =
    let n : 20 + length payload - 20 ≡ length payload = omega arith in
    ap (λ n. take n (payload ++ (replicate (gap (length payload)) 0 ++ marker))) n ∙ take-append_seam payload (replicate (gap (length payload)) 0 ++ marker)

-- blocks of the ring, the last one apart
pub ring_more : (ring : List (List ℕ)) (p n : ℕ) → ring_bytes ring p (suc n) ≡ ring_bytes ring p n ++ block ring ((p + n) % length ring)
ring_more ring p zero = let e : p + 0 ≡ p = omega arith in append-nil (block ring (p % length ring)) ∙ ap (λ q. block ring (q % length ring)) (sym e)
ring_more ring p (suc n) =
    let e : p + 1 + n ≡ p + suc n = omega arith in
    ap (λ t. block ring (p % length ring) ++ t) (ring_more ring (p + 1) n ∙ ap (λ q. ring_bytes ring (p + 1) n ++ block ring (q % length ring)) e)
    ∙ sym (append_assoc (block ring (p % length ring)) (ring_bytes ring (p + 1) n) (block ring ((p + suc n) % length ring)))

pub length-ring_bytes : (ring : List (List ℕ)) (p n : ℕ) → AreWhole ring → 0 < length ring → length (ring_bytes ring p n) ≡ 512 * n
length-ring_bytes ring p zero whole some = refl
length-ring_bytes ring p (suc n) whole some =
    let here : length (block ring (p % length ring)) ≡ 512 = whole (p % length ring) (mod-lt p some) in
    let rest : length (ring_bytes ring (p + 1) n) ≡ 512 * n = length-ring_bytes ring (p + 1) n whole some in
    let sum : length (ring_bytes ring p (suc n)) ≡ length (block ring (p % length ring)) + length (ring_bytes ring (p + 1) n) = length-append (block ring (p % length ring)) (ring_bytes ring (p + 1) n) in
    omega (arith, here, rest, sum)

-- its first block, and its last
first_block : (ring : List (List ℕ)) (p n : ℕ) → AreWhole ring → p < length ring → take 512 (ring_bytes ring p (suc n)) ≡ block ring p
first_block ring p n whole inside =
    let here : block ring (p % length ring) ≡ block ring p = ap (block ring) (mod-eq_of_lt inside) in
    let long : length (block ring p) ≡ 512 = whole p inside in
    ap (λ b. take 512 (b ++ ring_bytes ring (p + 1) n)) here ∙ ap (λ k. take k (block ring p ++ ring_bytes ring (p + 1) n)) (sym long) ∙ take-append_seam (block ring p) (ring_bytes ring (p + 1) n)

last_block : (ring : List (List ℕ)) (p n : ℕ) → AreWhole ring → p < length ring → drop (512 * suc n - 8) (ring_bytes ring p (suc n)) ≡ drop 504 (block ring ((p + n) % length ring))
last_block ring p n whole inside =
    let long : length (ring_bytes ring p n) ≡ 512 * n = length-ring_bytes ring p n whole (omega (arith, inside)) in
    let cut : 512 * suc n - 8 ≡ length (ring_bytes ring p n) + 504 = omega (arith, long) in
    ap (λ k. drop k (ring_bytes ring p (suc n))) cut ∙ ap (λ t. drop (length (ring_bytes ring p n) + 504) t) (ring_more ring p n)
    ∙ drop-append-add (ring_bytes ring p n) (block ring ((p + n) % length ring)) 504

-- what the first block says
pub says_length : (len number next : ℕ) (rest : List ℕ) → len < 2 ^ 32 → length_in (take 512 (head_bytes len number next ++ rest)) ≡ len
says_length len number next rest few = from_be_bytes-to_be_bytes_4 len few

says_head : (room p len number next : ℕ) (rest : List ℕ) → len ≤ 32768 → entry_blocks len ≤ room → number ≤ 2 ^ 62 → next < 2 ^ 32 → next ≡ (p + entry_blocks len) % room
    → is_head room p number (take 512 (head_bytes len number next ++ rest)) ≡ true
says_head room p len number next rest short fits low few is =
    let l : from_be_bytes w32 (to_be_bytes w32 len) ≡ len = from_be_bytes-to_be_bytes_4 len (omega (arith, short)) in
    let n : from_be_bytes w64 (to_be_bytes w64 number) ≡ number = from_be_bytes-to_be_bytes_8 number (omega (arith, low)) in
    let x : from_be_bytes w32 (to_be_bytes w32 next) ≡ next = from_be_bytes-to_be_bytes_4 next few in
    (λ i. nat_le (l i) 32768 && (nat_le (entry_blocks (l i)) room && ((n i == number) && (nat_le number (2 ^ 62) && (x i == (p + entry_blocks (l i)) % room)))))
    ∙ (λ i. le-leb len 32768 short i && (le-leb (entry_blocks len) room fits i && (eq-eqb number number refl i && (le-leb number (2 ^ 62) low i && eq-eqb next ((p + entry_blocks len) % room) is i))))

-- the blocks from place p on are those of an entry with its marker
pub written_is_found : (ring : List (List ℕ)) (p number : ℕ) (payload : List ℕ) → AreWhole ring → p < length ring → length ring < 2 ^ 32
    → length payload ≤ 32768 → entry_blocks (length payload) ≤ length ring → number ≤ 2 ^ 62
    → ring_bytes ring p (entry_blocks (length payload)) ≡ marked (entry_bytes number ((p + entry_blocks (length payload)) % length ring) payload) → entry_at ring p number ≡ Some payload
unfolding spelling
written_is_found ring p number payload whole inside few short fits low written =
    by (entry_blocks (length payload) - 1) (let hold : 28 + length payload ≤ 512 * entry_blocks (length payload) = (blocks_hold (length payload)).0 in omega (arith, hold))
  where
    next : ℕ
    next = (p + entry_blocks (length payload)) % length ring

    rest : List ℕ
    rest = payload ++ (replicate (gap (length payload)) 0 ++ marker)

    spelled : ring_bytes ring p (entry_blocks (length payload)) ≡ spelling number next payload
    spelled = written ∙ marked-is number next payload

    by : (m : ℕ) → entry_blocks (length payload) ≡ suc m → entry_at ring p number ≡ Some payload
    by m is =
        let here : block ring p ≡ take 512 (head_bytes (length payload) number next ++ rest) =
        sym (first_block ring p m whole inside) ∙ ap (λ n. take 512 (ring_bytes ring p n)) (sym is) ∙ ap (λ t. take 512 t) spelled in
        let long : length_in (block ring p) ≡ length payload = ap length_in here ∙ says_length (length payload) number next rest (omega (arith, short)) in
        let head : is_head (length ring) p number (block ring p) ≡ true =
        ap (λ b. is_head (length ring) p number b) here
        ∙ says_head (length ring) p (length payload) number next rest short fits low (omega (arith, mod-lt (p + entry_blocks (length payload)) {m = length ring} (omega (arith, inside)), few)) refl in
        let behind : p + entry_blocks (length payload) - 1 ≡ p + m = omega (arith, is) in
        let end : drop 504 (block ring ((p + m) % length ring)) ≡ marker =
        sym (last_block ring p m whole inside) ∙ ap (λ n. drop (512 * n - 8) (ring_bytes ring p n)) (sym is) ∙ ap (λ t. drop (512 * entry_blocks (length payload) - 8) t) spelled ∙ last_bytes number next payload in
        let mark : is_marked (block ring ((p + entry_blocks (length_in (block ring p)) - 1) % length ring)) ≡ true =
        ap (λ n. is_marked (block ring ((p + entry_blocks n - 1) % length ring))) long ∙ ap (λ q. is_marked (block ring (q % length ring))) behind ∙ ap (λ t. bytes_eq t marker) end ∙ bytes_eq-same marker in
        ap (λ b. payload_if b ring p) (λ i. head i && mark i)
        ∙ ap (λ n. Some (payload_at ring p n)) long
        ∙ ap (λ t. Some (take (20 + length payload - 20) (drop 20 t))) spelled
        ∙ ap (λ t. Some t) (middle_bytes number next payload)
