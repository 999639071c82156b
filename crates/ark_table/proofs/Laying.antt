-- Bytes laid one after another over a block.
use Rattle.std.proofs.Common.{◌≡◌, ◌≤◌, ◌<◌, ℕ, zero, suc, ◌+◌, ◌-◌, ◌*◌, List, [], ◌∷◌, ◌++◌, length, take, drop, replicate, codes, refl, sym, ◌∙◌, ap, arith, append_assoc, append-nil, get_or, flat_map, length-append}
use Rattle.std.proofs.Math.Seq.{take-append_seam, drop-append-add}
use Rattle.std.proofs.lemmas.List.{drop-replicate, length-take-le, take_more}
use Rattle.std.proofs.lemmas.Grind.{flat_map-append}
use Rattle.ark_base.specs.declared.block.Span.{Span}
use Rattle.std.specs.Int.{w16, w64, to_be_bytes}
use Rattle.ark_table.specs.Area.{Area, area_bytes, padded_block, kind_number, name_bytes, run_bytes}
use Rattle.ark_table.specs.Superblock.{superblock, slot_count}
use Rattle.ark_table.proofs.Spelling.{runs_long}

-- bytes y laid over what comes after x
laid_after : (x r y b c : List ℕ) (p : ℕ) → b ≡ x ++ r → p ≡ length x → c ≡ take p b ++ (y ++ drop (p + length y) b) → c ≡ (x ++ y) ++ drop (length y) r
laid_after x r y b c p is at laid =
    laid ∙ rw (at, is) (ap (λ t. t ++ (y ++ drop (length x + length y) (x ++ r))) (take-append_seam x r)
    ∙ ap (λ t. x ++ (y ++ t)) (drop-append-add x r (length y)) ∙ sym (append_assoc x y (drop (length y) r)))

drop_none : (n : ℕ) → drop {A = ℕ} n [] ≡ []
drop_none zero = refl
drop_none (suc n) = refl

pub drop_twice : (m n : ℕ) (l : List ℕ) → drop n (drop m l) ≡ drop (m + n) l
drop_twice zero n l = let e : n ≡ 0 + n = omega arith in ap (λ k. drop k l) e
drop_twice (suc m) n [] = drop_none n ∙ sym (drop_none (suc m + n))
drop_twice (suc m) n (x ∷ l) = let e : suc (m + n) ≡ suc m + n = omega arith in drop_twice m n l ∙ ap (λ k. drop k (x ∷ l)) e

-- more bytes y behind those that were laid from a place on
pub laid_more : (b0 b1 b2 ys y : List ℕ) (at n p : ℕ) → at + n ≤ length b0 → length ys ≡ n → b1 ≡ take at b0 ++ (ys ++ drop (at + n) b0) → p ≡ at + n
    → b2 ≡ take p b1 ++ (y ++ drop (p + length y) b1) → b2 ≡ take at b0 ++ ((ys ++ y) ++ drop (at + (n + length y)) b0)
laid_more b0 b1 b2 ys y at n p fits long first place second =
    let front : length (take at b0) ≡ at = length-take-le at b0 (omega (arith, fits)) in
    let behind : p ≡ length (take at b0 ++ ys) = omega (arith, place, front, long, length-append (take at b0) ys) in
    let sum : at + n + length y ≡ at + (n + length y) = omega arith in
    laid_after (take at b0 ++ ys) (drop (at + n) b0) y b1 b2 p (first ∙ sym (append_assoc (take at b0) ys (drop (at + n) b0))) behind second
    ∙ ap (λ t. ((take at b0 ++ ys) ++ y) ++ t) (drop_twice (at + n) (length y) b0 ∙ ap (λ k. drop k b0) sum)
    ∙ append_assoc (take at b0 ++ ys) y (drop (at + (n + length y)) b0) ∙ append_assoc (take at b0) ys (y ++ drop (at + (n + length y)) b0)
    ∙ ap (λ t. take at b0 ++ t) (sym (append_assoc ys y (drop (at + (n + length y)) b0)))

runs_more : (runs : List Span) (i : ℕ) (d : Span) → i < length runs → flat_map run_bytes (take (i + 1) runs) ≡ flat_map run_bytes (take i runs) ++ run_bytes (get_or runs i d)
runs_more runs i d lt = ap (flat_map run_bytes) (take_more runs i d lt) ∙ flat_map-append run_bytes (take i runs) (get_or runs i d ∷ []) ∙ ap (λ t. flat_map run_bytes (take i runs) ++ t) (append-nil (run_bytes (get_or runs i d)))

-- one run more behind those that were laid
pub run_laid : (b0 b1 b2 field : List ℕ) (runs : List Span) (at i p : ℕ) (d : Span) → i < length runs → at + 8 * length runs ≤ length b0 → b1 ≡ take at b0 ++ (flat_map run_bytes (take i runs) ++ drop (at + 8 * i) b0)
    → p ≡ at + 8 * i → field ≡ run_bytes (get_or runs i d) → b2 ≡ take p b1 ++ (field ++ drop (p + length field) b1) → b2 ≡ take at b0 ++ (flat_map run_bytes (take (i + 1) runs) ++ drop (at + 8 * (i + 1)) b0)
run_laid b0 b1 b2 field runs at i p d lt fits first place is second =
    let long : length (flat_map run_bytes (take i runs)) ≡ 8 * i = omega (arith, runs_long (take i runs), length-take-le i runs (omega (arith, lt))) in
    let eight : length field ≡ 8 = ap (λ (l : List ℕ). length l) is in
    let next : at + (8 * i + length field) ≡ at + 8 * (i + 1) = omega (arith, eight) in
    laid_more b0 b1 b2 (flat_map run_bytes (take i runs)) field at (8 * i) p (omega (arith, lt, fits)) long first place second
    ∙ (λ j. take at b0 ++ ((flat_map run_bytes (take i runs) ++ is j) ++ drop (next j) b0))
    ∙ ap (λ t. take at b0 ++ (t ++ drop (at + 8 * (i + 1)) b0)) (sym (runs_more runs i d lt))

-- bytes y behind those x that begin a block of zeros
pub filled_more : (x y b c : List ℕ) (p : ℕ) → b ≡ padded_block x → p ≡ length x → c ≡ take p b ++ (y ++ drop (p + length y) b) → c ≡ padded_block (x ++ y)
filled_more x y b c p first place laid =
    let left : 512 - length x - length y ≡ 512 - length (x ++ y) = omega (arith, length-append x y) in
    laid_after x (replicate (512 - length x) 0) y b c p first place laid
    ∙ ap (λ t. (x ++ y) ++ t) (drop-replicate (length y) (512 - length x) 0 ∙ ap (λ k. replicate {A = ℕ} k 0) left)

pub area_laid : (a : Area) (b1 b2 b3 b4 b5 kinds app label : List ℕ) (p1 p2 p3 p4 : ℕ) → b1 ≡ codes "VSA1" ++ drop 4 (replicate 512 0) → p1 ≡ 4
    → kinds ≡ kind_number a.kind ∷ (length a.runs ∷ []) → b2 ≡ take p1 b1 ++ (kinds ++ drop (p1 + length kinds) b1) → p2 ≡ p1 + length kinds
    → app ≡ name_bytes a.app → b3 ≡ take p2 b2 ++ (app ++ drop (p2 + length app) b2) → p3 ≡ p2 + length app
    → label ≡ name_bytes a.label → b4 ≡ take p3 b3 ++ (label ++ drop (p3 + length label) b3) → p4 ≡ p3 + length label
    → b5 ≡ take p4 b4 ++ (flat_map run_bytes a.runs ++ drop (p4 + 8 * length a.runs) b4) → b5 ≡ area_bytes a
area_laid a b1 b2 b3 b4 b5 kinds app label p1 p2 p3 p4 first at1 kinds_is second at2 app_is third at3 label_is fourth at4 fifth =
    let word : List ℕ = codes "VSA1" in
    let runs : List ℕ = flat_map run_bytes a.runs in
    let one : b1 ≡ padded_block word = first ∙ ap (λ t. word ++ t) (drop-replicate 4 512 0) in
    let two : b2 ≡ padded_block (word ++ kinds) = filled_more word kinds b1 b2 p1 one at1 second in
    let long2 : p2 ≡ length (word ++ kinds) = omega (arith, at1, at2, length-append word kinds) in
    let three : b3 ≡ padded_block ((word ++ kinds) ++ app) = filled_more (word ++ kinds) app b2 b3 p2 two long2 third in
    let long3 : p3 ≡ length ((word ++ kinds) ++ app) = omega (arith, long2, at3, length-append (word ++ kinds) app) in
    let four : b4 ≡ padded_block (((word ++ kinds) ++ app) ++ label) = filled_more ((word ++ kinds) ++ app) label b3 b4 p3 three long3 fourth in
    let long4 : p4 ≡ length (((word ++ kinds) ++ app) ++ label) = omega (arith, long3, at4, length-append ((word ++ kinds) ++ app) label) in
    let last : b5 ≡ take p4 b4 ++ (runs ++ drop (p4 + length runs) b4) = fifth ∙ ap (λ k. take p4 b4 ++ (runs ++ drop (p4 + k) b4)) (sym (runs_long a.runs)) in
    let five : b5 ≡ padded_block ((((word ++ kinds) ++ app) ++ label) ++ runs) = filled_more (((word ++ kinds) ++ app) ++ label) runs b4 b5 p4 four long4 last in
    let joined : (((word ++ kinds) ++ app) ++ label) ++ runs ≡ word ++ (kinds ++ (app ++ (label ++ runs))) =
    append_assoc ((word ++ kinds) ++ app) label runs ∙ append_assoc (word ++ kinds) app (label ++ runs) ∙ append_assoc word kinds (app ++ (label ++ runs)) in
    five ∙ ap padded_block joined ∙ (λ i. padded_block (word ++ (kinds_is i ++ (app_is i ++ (label_is i ++ runs)))))

pub superblock_laid : (b1 b2 b3 size slots : List ℕ) (p1 p2 blocks : ℕ) → b1 ≡ codes "ARRAKIS1" ++ drop 8 (replicate 512 0)
    → p1 ≡ 8 → b2 ≡ take p1 b1 ++ (size ++ drop (p1 + length size) b1) → p2 ≡ p1 + length size → b3 ≡ take p2 b2 ++ (slots ++ drop (p2 + length slots) b2)
    → size ≡ to_be_bytes w64 blocks → slots ≡ to_be_bytes w16 slot_count → b3 ≡ superblock blocks
unfolding superblock
superblock_laid b1 b2 b3 size slots p1 p2 blocks first at1 second at2 third size_is slots_is =
    let zeros : List ℕ = drop 8 (replicate 512 0) in
    let after2 : b2 ≡ (codes "ARRAKIS1" ++ size) ++ drop (length size) zeros = laid_after (codes "ARRAKIS1") zeros size b1 b2 p1 first at1 second in
    let long : p2 ≡ length (codes "ARRAKIS1" ++ size) = at2 ∙ ap (λ n. n + length size) at1 ∙ sym (length-append (codes "ARRAKIS1") size) in
    let after3 : b3 ≡ ((codes "ARRAKIS1" ++ size) ++ slots) ++ drop (length slots) (drop (length size) zeros) = laid_after (codes "ARRAKIS1" ++ size) (drop (length size) zeros) slots b2 b3 p2 after2 long third in
    let eight : length size ≡ 8 = ap length size_is in
    let two : length slots ≡ 2 = ap length slots_is in
    let rest : drop (length slots) (drop (length size) zeros) ≡ replicate 494 0 =
    rw (eight, two) (ap (λ t. drop 2 (drop 8 t)) (drop-replicate 8 512 0) ∙ ap (drop 2) (drop-replicate 8 504 0) ∙ drop-replicate 2 496 0) in
    after3 ∙ ap (λ t. ((codes "ARRAKIS1" ++ size) ++ slots) ++ t) rest
    ∙ append_assoc (codes "ARRAKIS1" ++ size) slots (replicate 494 0) ∙ append_assoc (codes "ARRAKIS1") size (slots ++ replicate 494 0)
    ∙ ap (λ t. codes "ARRAKIS1" ++ (t ++ (slots ++ replicate 494 0))) size_is ∙ ap (λ t. codes "ARRAKIS1" ++ (to_be_bytes w64 blocks ++ (t ++ replicate 494 0))) slots_is
