-- One more event of a device in memory.
use Rattle.std.proofs.Common.{◌≡◌, ℕ, zero, suc, ◌+◌, ◌-◌, ◌*◌, ◌%◌, ◌<◌, ◌≤◌, Bool, true, false, List, [], ◌∷◌, ◌++◌, length, take, drop, set, replicate, refl, sym, ◌∙◌, ap, subst, arith}
use Rattle.std.proofs.lemmas.List.{length-replicate, take-append-le, take_all}
use Rattle.std.specs.Prelude.{Result, Ok, Err, OnErr, is_ok, if◌then◌else◌}
use Rattle.ark_media.specs.Journal.{Event, Read, Write, onto, block, current, zero_block}
use Rattle.ark_media.specs.Blocks.{whole_blocks, flat, AllWhole}
use Rattle.ark_memory.specs.Reels.{Reel, Taped, begun, reel_of}
use Rattle.ark_media.specs.Going.{onto-append}
use Rattle.ark_media.proofs.Stopping.{length-current}
use Rattle.ark_media.proofs.Flat.{length-flat, block-flat, set-flat, whole-set, flat_of_whole, whole_of_whole, no_blocks, zeros}

pub onto_end : (es : List Event) (e : Event) → onto (es ++ e ∷ []) [] ≡ e ∷ onto es []
onto_end es e = onto-append es (e ∷ []) []

-- the bytes are those of these whole blocks
abbrev Holds : List ℕ → List (List ℕ) → Type 0
Holds image blocks = (image ≡ flat blocks) × AllWhole blocks

-- after one more event
end_image : (base : List (List ℕ)) (es es2 : List Event) (e : Event) → es2 ≡ es ++ e ∷ [] → current base (onto es2 []) ≡ current base (e ∷ onto es [])
end_image base es es2 e added = ap (λ (x : List Event). current base (onto x [])) added ∙ ap (λ (j : List Event). current base j) (onto_end es e)

pub plain_image : (image : List ℕ) (base : List (List ℕ)) (es es2 : List Event) (e : Event) → es2 ≡ es ++ e ∷ [] → current base (e ∷ onto es []) ≡ current base (onto es [])
    → Holds image (current base (onto es [])) → Holds image (current base (onto es2 []))
plain_image image base es es2 e added plain holds = subst (λ (x : List (List ℕ)). Holds image x) (sym (end_image base es es2 e added ∙ plain)) holds

pub missed_image : (image : List ℕ) (base : List (List ℕ)) (es es2 : List Event) (n : ℕ) (b : List ℕ) (took ok : Bool) → es2 ≡ es ++ Write n b took ok ∷ [] → took ≡ false
    → Holds image (current base (onto es [])) → Holds image (current base (onto es2 []))
missed_image image base es es2 n b true ok added not holds = absurd (cc (not))
missed_image image base es es2 n b false ok added not holds = plain_image image base es es2 (Write n b false ok) added refl holds

written : (image image2 : List ℕ) (blocks : List (List ℕ)) (n : ℕ) (b : List ℕ) → n < length blocks → length b ≡ 512 → image2 ≡ take (512 * n) image ++ (b ++ drop (512 * n + 512) image)
    → Holds image blocks → Holds image2 (set blocks n b)
written image image2 blocks n b inside size done holds = (
  done ∙ ap (λ (x : List ℕ). take (512 * n) x ++ (b ++ drop (512 * n + 512) x)) holds.0 ∙ set-flat blocks n b holds.1 size inside,
  whole-set blocks n b holds.1 size,
)

pub write_image : (image image2 : List ℕ) (base : List (List ℕ)) (es es2 : List Event) (n : ℕ) (b : List ℕ) (took ok : Bool) → es2 ≡ es ++ Write n b took ok ∷ [] → took ≡ true
    → n < length base → length b ≡ 512 → image2 ≡ take (512 * n) image ++ (b ++ drop (512 * n + 512) image)
    → Holds image (current base (onto es [])) → Holds image2 (current base (onto es2 []))
write_image image image2 base es es2 n b false ok added did inside size done holds = absurd (cc (did))
write_image image image2 base es es2 n b true ok added did inside size done holds = subst (λ (x : List (List ℕ)). Holds image2 x) (sym (end_image base es es2 (Write n b true ok) added))
    (written image image2 (current base (onto es [])) n b (omega (arith, inside, length-current base (onto es []))) size done holds)

pub image_size : (image : List ℕ) (base : List (List ℕ)) (es : List Event) (n : ℕ) → Holds image (current base (onto es [])) → n < length base → 512 * n + 512 ≤ length image
image_size image base es n holds inside = omega (arith, ap length holds.0, length-flat (current base (onto es [])) holds.1, length-current base (onto es []), inside)

pub is_inside : (n : ℕ) (old now : Reel) → old ≡ now → n < length now.base → n < length old.base
is_inside n old now is inside = subst (λ (x : Reel). n < length x.base) (sym is) inside

pub read_block : (image : List ℕ) (base : List (List ℕ)) (es es2 : List Event) (n : ℕ) (ok : Bool) → es2 ≡ es ++ Read n ok ∷ [] → n < length base
    → Holds image (current base (onto es [])) → take 512 (drop (512 * n) image) ≡ block (current base (onto es2 [])) n
read_block image base es es2 n ok added inside holds =
    ap (λ (x : List ℕ). take 512 (drop (512 * n) x)) holds.0
    ∙ block-flat (current base (onto es [])) n holds.1 (omega (arith, inside, length-current base (onto es [])))
    ∙ ap (λ (x : List (List ℕ)). block x n) (sym (end_image base es es2 (Read n ok) added))

pub part_read : (image out : List ℕ) (n : ℕ) → out ≡ take (512 * n + 512 - 512 * n) (drop (512 * n) image) → out ≡ take 512 (drop (512 * n) image)
part_read image out n is = let e : 512 * n + 512 - 512 * n ≡ 512 = omega arith in is ∙ ap (λ k. take k (drop (512 * n) image)) e

pub written_back : (len : ℕ) (xs ys : List ℕ) → length xs ≡ len → take len (xs ++ ys) ≡ xs
written_back len xs ys is = take-append-le len xs ys (omega (arith, is)) ∙ take_all len xs (omega (arith, is))

-- before any event
begun_image : (image bytes : List ℕ) (es : List Event) → es ≡ [] → Holds image (whole_blocks bytes) → Holds image (current (whole_blocks bytes) (onto es []))
begun_image image bytes es none holds = subst (λ (x : List Event). Holds image (current (whole_blocks bytes) (onto x []))) (sym none) holds

pub found_image : (image base : List ℕ) (es : List Event) (bytes : List ℕ) → length bytes % 512 ≡ 0 → image ≡ bytes → base ≡ bytes → es ≡ [] → Holds image (current (whole_blocks base) (onto es []))
found_image image base es bytes whole same found none = rw (same, found) (begun_image bytes bytes es none (sym (flat_of_whole bytes whole), whole_of_whole bytes whole))

pub new_image : (image base : List ℕ) (es : List Event) (n : ℕ) → image ≡ replicate (512 * n) 0 → base ≡ replicate (512 * n) 0 → es ≡ [] → Holds image (current (whole_blocks base) (onto es []))
new_image image base es n same zeros_are none = found_image image base es (replicate (512 * n) 0) (omega (arith, length-replicate {A = ℕ} (512 * n) 0)) same zeros_are none

pub no_image : (image base : List ℕ) (es : List Event) → image ≡ [] → base ≡ [] → es ≡ [] → Holds image (current (whole_blocks base) (onto es []))
no_image image base es same empty none = found_image image base es [] refl same empty none

-- a list that was cleared and made longer, where there was room
pub resized : {T E : Type 0} (r : Result T E) (n room len : ℕ) (old new : List ℕ) → OnErr r (room < n) → n ≤ room → old ≡ [] → len ≡ 0
    → new ≡ (if is_ok r then take n old ++ replicate (n - len) 0 else old) → new ≡ replicate n 0
resized (Ok x) n room len old new full fits empty none is =
    is ∙ ap (λ (l : List ℕ). take n l ++ rest len) empty ∙ ap (λ k. part n k) none ∙ take_none n
  where
    rest : ℕ → List ℕ
    rest k = replicate (n - k) 0

    part : ℕ → ℕ → List ℕ
    part m k = take m [] ++ rest k

    take_none : (m : ℕ) → part m 0 ≡ replicate n 0
    take_none zero = let e : n - 0 ≡ n = omega arith in ap (λ (k : ℕ). replicate k 0) e
    take_none (suc m) = let e : n - 0 ≡ n = omega arith in ap (λ (k : ℕ). replicate k 0) e
resized (Err e) n room len old new full fits empty none is = absurd (omega (arith, full, fits))

-- what is seen of it then
same_reel : (lost : Bool) (bytes bytes2 : List ℕ) (t t2 : Taped) (limit : ℕ) → bytes ≡ bytes2 → t ≡ t2 → reel_of lost bytes t limit ≡ reel_of lost bytes2 t2 limit
same_reel lost bytes bytes2 t t2 limit same other = ap (λ (x : List ℕ). reel_of lost x t limit) same ∙ ap (λ (x : Taped). reel_of lost bytes2 x limit) other

pub new_reel : (lost : Bool) (before bytes : List ℕ) (t t2 : Taped) (limit : ℕ) (now : Reel) (n : ℕ) → reel_of lost before t limit ≡ now → bytes ≡ replicate (512 * n) 0
    → t2 ≡ record { events = []; limit = t.limit; text_limit = t.text_limit } → reel_of lost bytes t2 limit ≡ begun now (replicate n zero_block)
new_reel lost before bytes t t2 limit now n is same cleared =
    same_reel lost bytes (replicate (512 * n) 0) t2 (record { events = []; limit = t.limit; text_limit = t.text_limit }) limit same cleared
    ∙ ap (λ (base : List (List ℕ)). begun (reel_of lost before t limit) base) (zeros n) ∙ ap (λ (x : Reel). begun x (replicate n zero_block)) is

pub first_reel : (bytes : List ℕ) (t : Taped) (limit events text : ℕ) → bytes ≡ [] → t ≡ record { events = []; limit = events; text_limit = text }
    → reel_of false bytes t limit ≡ record { lost = false; base = []; events = []; limits = record { device = limit; events = events; text = text } }
first_reel bytes t limit events text none is =
    let start : List (List ℕ) → Reel = λ base. record { lost = false; base = base; events = []; limits = record { device = limit; events = events; text = text } } in
    same_reel false bytes [] t (record { events = []; limit = events; text_limit = text }) limit none is ∙ ap start no_blocks
