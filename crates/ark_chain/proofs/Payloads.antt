-- The bytes of an entry, read block by block.
use Rattle.std.proofs.Common.{◌≡◌, ℕ, zero, suc, ◌+◌, ◌-◌, ◌*◌, ◌%◌, ◌<◌, ◌≤◌, List, [], ◌∷◌, ◌++◌, Bool, true, false, ◌&&◌, Option, Some, None, length, take, drop, slice_range, refl, sym, ◌∙◌, ap, arith, append_assoc, append-nil, length-append}
use Rattle.std.specs.Prelude.{Result, Ok, Err, bytes_eq, codes, nat_le}
use Rattle.std.specs.Result.{IsErr}
use Rattle.std.proofs.Math.Seq.{take-append_seam, drop-append_seam}
use Rattle.std.proofs.Math.Nat.{mod-eq_of_lt}
use Rattle.std.proofs.lemmas.Bool.{and_parts, leb-true}
use Rattle.std.proofs.lemmas.List.{length-take-le, get_or-drop, drop-take}
use borrow.Rule.Slice.PartMut.{put_mid}
use Rattle.ark_media.specs.Journal.{Event, block}
use Rattle.ark_media.specs.Calls.{Told, Went}
use Rattle.ark_media.specs.declared.outside.DiskFailed.{DiskFailed}
use Rattle.ark_entry.specs.Entry.{entry_blocks, length_in, ring_bytes, is_head, is_marked, is_entry, payload_at, payload_if, entry_at, AreWhole}
use Rattle.ark_entry.proofs.Entries.{blocks_hold, length-ring_bytes}
use Rattle.ark_chain.specs.Survey.{block_at, reads_at}
use Rattle.ark_chain.specs.Walking.{IsHead, IsNoHead}
use Rattle.ark_chain.specs.Single.{AddsBlock, AreRead, HasReadEntry, HasReadOn, HasReadBlocks, behind}

pub blocks_more : (ring : List (List ℕ)) (p n : ℕ) → ring_bytes ring p (suc n) ≡ ring_bytes ring p n ++ block ring ((p + n) % length ring)
blocks_more ring p zero = let e : p ≡ p + 0 = omega arith in append-nil (block ring (p % length ring)) ∙ ap (λ q. block ring (q % length ring)) e
blocks_more ring p (suc n) =
    let e : p + 1 + n ≡ p + suc n = omega arith in
    ap (λ (t : List ℕ). block ring (p % length ring) ++ t) (blocks_more ring (p + 1) n)
    ∙ sym (append_assoc (block ring (p % length ring)) (ring_bytes ring (p + 1) n) (block ring ((p + 1 + n) % length ring)))
    ∙ ap (λ q. (block ring (p % length ring) ++ ring_bytes ring (p + 1) n) ++ block ring (q % length ring)) e

patched : (a n : ℕ) (out sub : List ℕ) → a ≤ length out → length sub ≡ n → take (a + n) (put_mid a n out sub) ≡ take a out ++ sub
patched a n out sub le long =
    let front : length (take a out) ≡ a = length-take-le a out le in
    let both : a + n ≡ length (take a out ++ sub) = omega (arith, front, long, length-append (take a out) sub) in
    ap (λ t. take (a + n) t) (sym (append_assoc (take a out) sub (drop n (drop a out)))) ∙ ap (λ k. take k ((take a out ++ sub) ++ drop n (drop a out))) both
    ∙ take-append_seam (take a out ++ sub) (drop n (drop a out))

-- a block that was read to its place stands behind those before it
pub block_added : (room start k n : ℕ) (old new sub : List ℕ) (image : List (List ℕ)) → 512 * k ≤ length old → n ≡ 512 → length sub ≡ 512 → new ≡ put_mid (512 * k) n old sub → sub ≡ block image (block_at room start k)
    → AddsBlock room start k old new image
block_added room start k n old new sub image fits size whole put is =
    ap (λ t. take (512 * k + 512) t) put ∙ ap (λ m. take (512 * k + m) (put_mid (512 * k) n old sub)) (sym size) ∙ patched (512 * k) n old sub fits (whole ∙ sym size)
    ∙ ap (λ (t : List ℕ). take (512 * k) old ++ t) is

-- a block of the ring is the area's one behind
in_ring : (image : List (List ℕ)) (p : ℕ) → block (drop 1 image) p ≡ block image (p + 1)
in_ring image p = let e : 1 + p ≡ p + 1 = omega arith in get_or-drop 1 image p [] ∙ ap (block image) e

module _ (room start : ℕ) (old new : List ℕ) (image : List (List ℕ)) where
  pub at_room : (k : ℕ) → length (drop 1 image) ≡ room → block image (block_at room start k) ≡ block (drop 1 image) ((start + k) % length (drop 1 image))
  at_room k long = sym (in_ring image ((start + k) % room)) ∙ ap (λ n. block (drop 1 image) ((start + k) % n)) (sym long)

  pub first_read : AddsBlock room start 0 old new image → AreRead room start 1 new image
  first_read adds long = let e : start + 0 ≡ start = omega arith in
      adds ∙ at_room 0 long ∙ ap (λ q. block (drop 1 image) (q % length (drop 1 image))) e ∙ sym (append-nil (block (drop 1 image) (start % length (drop 1 image))))

  pub next_read : (k : ℕ) → AddsBlock room start k old new image → AreRead room start k old image → AreRead room start (k + 1) new image
  next_read k adds are long =
      let one : suc k ≡ k + 1 = omega arith in
      let far : 512 * (k + 1) ≡ 512 * k + 512 = omega arith in
      ap (λ m. take m new) far ∙ adds ∙ (λ i. are long i ++ at_room k long i) ∙ sym (blocks_more (drop 1 image) start k) ∙ ap (λ m. ring_bytes (drop 1 image) start m) one

take_front : (k n : ℕ) (l : List ℕ) → k ≤ n → take k (take n l) ≡ take k l
take_front zero n l le = refl
take_front (suc k) zero l le = absurd (omega (arith, le))
take_front (suc k) (suc n) [] le = refl
take_front (suc k) (suc n) (x ∷ l) le = ap (λ (t : List ℕ). x ∷ t) (take_front k n l (omega (arith, le)))

-- the last block of an entry's bytes
pub last_bytes : (ring : List (List ℕ)) (p b a n : ℕ) (out : List ℕ) → AreWhole ring → 0 < length ring → 1 ≤ b → a ≡ 512 * (b - 1) → n ≡ 512 → take (512 * b) out ≡ ring_bytes ring p b
    → take n (drop a out) ≡ block ring ((p + b - 1) % length ring)
last_bytes ring p b a n out whole some more at size bytes =
    let all : a + n ≡ 512 * b = omega (arith, at, size, more) in
    let one : b ≡ suc (b - 1) = omega (arith, more) in
    let q : p + (b - 1) ≡ p + b - 1 = omega (arith, more) in
    let long : length (ring_bytes ring p (b - 1)) ≡ a = length-ring_bytes ring p (b - 1) whole some ∙ sym at in
    sym (drop-take a n out) ∙ ap (λ k. drop a (take k out)) all ∙ ap (λ t. drop a t) (bytes ∙ ap (ring_bytes ring p) one ∙ blocks_more ring p (b - 1))
    ∙ ap (λ k. drop k (ring_bytes ring p (b - 1) ++ block ring ((p + (b - 1)) % length ring))) (sym long)
    ∙ drop-append_seam (ring_bytes ring p (b - 1)) (block ring ((p + (b - 1)) % length ring)) ∙ ap (λ k. block ring (k % length ring)) q

-- the places so far and the next
pub behind_more : (k : ℕ) → 1 ≤ k → behind (k + 1) ≡ behind k ++ k ∷ []
behind_more zero some = absurd (omega (arith, some))
behind_more (suc k) some = let e : suc k + 1 ≡ suc (suc k) = omega arith in ap behind e

-- the longest entry has 65 blocks
pub few_blocks : (len blocks count : ℕ) → len ≤ 32768 → blocks ≡ entry_blocks len → count ≤ blocks → count ≤ 65
few_blocks len blocks count short is few = omega (arith, short, is, few)

-- a read failed
pub entry_stop : {D : Type 0} (goes : D → List Event → D → Type 0) (told : D → Told) (p room count : ℕ) (result : Result (Option (ℕ × ℕ)) DiskFailed) (old new : D) → IsErr result → room + 1 ≡ (told old).blocks → count ≤ 65
    → Went goes (reads_at room p (0 ∷ behind count)) false old new → HasReadEntry goes told p result old new
entry_stop goes told p room count (Ok x) old new bad ring few went = absurd (cc (bad))
entry_stop goes told p room count (Err e) old new bad ring few went = record { room = room; ring = ring; count = count; few = few; went = went; all = tt }

pub read_on_stop : {D T : Type 0} (goes : D → List Event → D → Type 0) (room start blocks count : ℕ) (result : Result T DiskFailed) (old new : D) → IsErr result → count ≤ blocks
    → Went goes (reads_at room start (behind count)) false old new → HasReadOn goes room start blocks result old new
read_on_stop goes room start blocks count (Ok x) old new bad few went = absurd (cc (bad))
read_on_stop goes room start blocks count (Err e) old new bad few went = record { count = count; few = few; all = tt; went = went }

pub read_stop : {D T : Type 0} (goes : D → List Event → D → Type 0) (room start blocks count : ℕ) (result : Result T DiskFailed) (old new : D) → IsErr result → count ≤ blocks
    → Went goes (reads_at room start (0 ∷ behind count)) false old new → HasReadBlocks goes room start blocks result old new
read_stop goes room start blocks count (Ok x) old new bad few went = absurd (cc (bad))
read_stop goes room start blocks count (Err e) old new bad few went = record { count = count; few = few; all = tt; went = went }

module _ (image : List (List ℕ)) (room p number : ℕ) (long : length (drop 1 image) ≡ room) (inside : p < room) (first : List ℕ) (is : block image (block_at room p 0) ≡ first) where
  abbrev ring : List (List ℕ)
  ring = drop 1 image

  p_same : (p + 0) % room ≡ p
  p_same = let e : p + 0 ≡ p = omega arith in ap (λ q. q % room) e ∙ mod-eq_of_lt inside

  head_same : block ring p ≡ first
  head_same = in_ring image p ∙ ap (λ q. block image (q + 1)) (sym p_same) ∙ is

  is_same : is_head room ((p + 0) % room) number first ≡ is_head (length ring) p number (block ring p)
  is_same = λ i. is_head (sym long i) (p_same i) number (sym head_same i)

  pub none_there : IsNoHead room p 0 number first → entry_at ring p number ≡ None
  none_there none = ap (λ b. payload_if b ring p) (by (is_entry ring p number) refl)
    where
      by : (b : Bool) → is_entry ring p number ≡ b → is_entry ring p number ≡ false
      by false e = e
      by true e =
          let both = and_parts (is_head (length ring) p number (block ring p)) _ e in
          let here : is_head room ((p + 0) % room) number first ≡ true = is_same ∙ both.0 in
          let a = and_parts (bytes_eq (take 4 first) (codes "ENT1")) _ here in
          let b = and_parts (nat_le (length_in first) 32768) _ a.1 in
          let c = and_parts (nat_le (entry_blocks (length_in first)) room) _ b.1 in
          absurd (none here (omega (arith, leb-true (entry_blocks (length_in first)) room c.0)))

  module _ (len : ℕ) (begins : IsHead room p 0 number first len) (last : List ℕ) (ends : last ≡ block ring ((p + entry_blocks len - 1) % length ring)) where
    size : length_in (block ring p) ≡ len
    size = ap length_in head_same ∙ sym begins.size

    last_same : block ring ((p + entry_blocks (length_in (block ring p)) - 1) % length ring) ≡ last
    last_same = ap (λ n. block ring ((p + entry_blocks n - 1) % length ring)) size ∙ sym ends

    begun : is_head (length ring) p number (block ring p) ≡ true
    begun = sym is_same ∙ begins.is

    pub unmarked_there : is_marked last ≡ false → entry_at ring p number ≡ None
    unmarked_there bare = ap (λ b. payload_if b ring p) (λ i. begun i && (ap is_marked last_same ∙ bare) i)

    pub marked_there : (out : List ℕ) → is_marked last ≡ true → take (512 * entry_blocks len) out ≡ ring_bytes ring p (entry_blocks len) → entry_at ring p number ≡ Some (slice_range out 20 (20 + len))
    marked_there out ended bytes =
        let hold : 28 + len ≤ 512 * entry_blocks len = (blocks_hold len).0 in
        let all : 20 + (512 * entry_blocks len - 20) ≡ 512 * entry_blocks len = omega (arith, hold) in
        let front : drop 20 (take (512 * entry_blocks len) out) ≡ take (512 * entry_blocks len - 20) (drop 20 out) = ap (λ k. drop 20 (take k out)) (sym all) ∙ drop-take 20 (512 * entry_blocks len - 20) out in
        ap (λ b. payload_if b ring p) (λ i. begun i && (ap is_marked last_same ∙ ended) i) ∙ ap (λ n. Some (payload_at ring p n)) size
        ∙ ap (λ t. Some (slice_range t 20 (20 + len))) (sym bytes) ∙ ap (λ t. Some (take (20 + len - 20) t)) front
        ∙ ap (λ t. Some t) (take_front (20 + len - 20) (512 * entry_blocks len - 20) (drop 20 out) (omega (arith, hold)))
