-- Buffers that share no frame share no byte.
use Rattle.std.proofs.Common.{◌≡◌, ◌<◌, ◌≤◌, ◌+◌, ◌-◌, ◌*◌, ◌++◌, ◌∙◌, ℕ, List, [], ◌∷◌, length, take, drop, refl, sym, ap, arith, slice_range, inl, inr}
use Rattle.std.specs.Prelude.{◌⊎◌}
use Rattle.std.proofs.lemmas.List.{take-append-drop, length-take}
use Rattle.ark_region.specs.Frames.{Space, Piece, frames_of, bytes_of, LiesInRegion, Apart, put, Wrote, written}
use Rattle.ark_region.proofs.Putting.{at_or_below, put_beside, part_put, take_less, fitted_put}

frames_hold : (n : ℕ) → n ≤ 512 * frames_of n
frames_hold n = omega arith

some_frames : (n : ℕ) → 0 < n → 0 < frames_of n
some_frames n h = omega arith

-- two stretches of frames that share none lie beside each other
apart_places : (s m t n : ℕ) → 0 < m → 0 < n → ((j : ℕ) → (s ≤ j) × (j < s + m) → ¬ ((t ≤ j) × (j < t + n))) → (s + m ≤ t) ⊎ (t + n ≤ s)
apart_places s m t n p q apart = by (at_or_below (s + m) t) (at_or_below (t + n) s) (at_or_below s t)
  where
    by : (s + m ≤ t) ⊎ (t < s + m) → (t + n ≤ s) ⊎ (s < t + n) → (s ≤ t) ⊎ (t < s) → (s + m ≤ t) ⊎ (t + n ≤ s)
    by (inl a) b c = inl a
    by (inr a) (inl b) c = inr b
    by (inr a) (inr b) (inl c) = absurd (apart t (c, a) (omega arith, omega arith))
    by (inr a) (inr b) (inr c) = absurd (apart s (omega arith, omega arith) (omega arith, b))

pub apart_bytes : (a b : Piece) → 0 < a.len → 0 < b.len → Apart a b → (512 * a.start + a.len ≤ 512 * b.start) ⊎ (512 * b.start + b.len ≤ 512 * a.start)
apart_bytes a b p q apart = by (apart_places a.start (frames_of a.len) b.start (frames_of b.len) (some_frames a.len p) (some_frames b.len q) apart)
  where
    by : (a.start + frames_of a.len ≤ b.start) ⊎ (b.start + frames_of b.len ≤ a.start) → (512 * a.start + a.len ≤ 512 * b.start) ⊎ (512 * b.start + b.len ≤ 512 * a.start)
    by (inl h) = let f = frames_hold a.len in inl (omega (arith, f, h))
    by (inr h) = let f = frames_hold b.len in inr (omega (arith, f, h))

pub range_len : (xs : List ℕ) (a n : ℕ) → length (slice_range xs a (a + n)) ≤ n
range_len xs a n = let h = length-take ((a + n) - a) (drop a xs) in omega (arith, h)

put_none : (xs ys : List ℕ) (i : ℕ) → length ys ≤ 0 → put xs i ys ≡ xs
put_none xs [] i h = let e : i + length {A = ℕ} [] ≡ i = omega arith in ap (λ n. take i xs ++ drop n xs) e ∙ take-append-drop i xs
put_none xs (y ∷ ys) i h = absurd (omega arith)

-- a region has the bytes of each buffer that lies in it
pub inside_bytes : (r : Space) (b : Piece) → length r.bytes ≡ 512 * length r.taken → LiesInRegion r.taken b → 512 * b.start + b.len ≤ length r.bytes
inside_bytes r b e lies = let f = frames_hold b.len in omega (arith, e, lies, f)

-- what is put into one buffer leaves the bytes of another
module _ (r : Space) (ys : List ℕ) (a b : Piece) (i : ℕ) (whole : length r.bytes ≡ 512 * length r.taken) (lies : LiesInRegion r.taken a) (low : 512 * a.start ≤ i) (high : i + length ys ≤ 512 * a.start + a.len) (apart : Apart a b) where
  beside : (512 * a.start + a.len ≤ 512 * b.start) ⊎ (512 * b.start + b.len ≤ 512 * a.start) → (i + length ys ≤ 512 * b.start) ⊎ (512 * b.start + b.len ≤ i)
  beside (inl h) = inl (omega (arith, h))
  beside (inr h) = inr (omega (arith, h))

  keeps : (b.len ≤ 0) ⊎ (0 < b.len) → (length ys ≤ 0) ⊎ (0 < length ys) → bytes_of (record { taken = r.taken; bytes = put r.bytes i ys }) b ≡ bytes_of r b
  keeps (inl none) y = let e : (512 * b.start + b.len) - 512 * b.start ≡ 0 = omega (arith, none) in rw e refl
  keeps (inr some) (inl none) = ap (λ z. slice_range z (512 * b.start) (512 * b.start + b.len)) (put_none r.bytes ys i none)
  keeps (inr some) (inr more) =
      let within = inside_bytes r a whole lies in
      put_beside r.bytes ys i (512 * b.start) b.len (omega (arith, within)) (beside (apart_bytes a b (omega arith) some apart))

  pub others_keep : (now : List ℕ) → now ≡ put r.bytes i ys → slice_range now (512 * b.start) (512 * b.start + b.len) ≡ bytes_of r b
  others_keep now is = ap (λ z. slice_range z (512 * b.start) (512 * b.start + b.len)) is ∙ keeps (at_or_below b.len 0) (at_or_below (length ys) 0)

-- the same, in bytes that are known by equations
pub apart_at : (a b : Piece) (i n j m : ℕ) → i ≡ 512 * a.start → n ≡ a.len → j ≡ 512 * b.start → m ≡ b.len → 0 < a.len → 0 < b.len → Apart a b → (i + n ≤ j) ⊎ (j + m ≤ i)
apart_at a b i n j m ei en ej em p q apart = by (apart_bytes a b p q apart)
  where
    by : (512 * a.start + a.len ≤ 512 * b.start) ⊎ (512 * b.start + b.len ≤ 512 * a.start) → (i + n ≤ j) ⊎ (j + m ≤ i)
    by (inl h) = inl (omega (arith, h, ei, en, ej))
    by (inr h) = inr (omega (arith, h, ej, em, ei))

pub same_range : (xs ys : List ℕ) (i n j m : ℕ) → xs ≡ ys → i ≡ j → n ≡ m → slice_range xs i (i + n) ≡ slice_range ys j (j + m)
same_range xs ys i n j m e f g = cc

-- what is put into a buffer was written there
pub wrote_at : (r now : Space) (b : Piece) (at : ℕ) (ys : List ℕ) → length r.bytes ≡ 512 * length r.taken → LiesInRegion r.taken b → now.taken ≡ r.taken → at + length ys ≤ b.len → now.bytes ≡ put r.bytes (512 * b.start + at) ys → Wrote r now b at ys
wrote_at r now b at ys whole lies taken fits is = record {
  taken = taken;
  here = ap (λ z. slice_range z (512 * b.start) (512 * b.start + b.len)) is ∙ part_put r.bytes ys (512 * b.start) b.len at fits (inside_bytes r b whole lies);
  others = λ a apart. others_keep r ys b a (512 * b.start + at) whole lies (omega arith) (omega (arith, fits)) apart now.bytes is;
}

pub part_front : (xs : List ℕ) (s len n : ℕ) → n ≤ len → slice_range xs s (s + n) ≡ take n (slice_range xs s (s + len))
part_front xs s len n le =
    let a : (s + n) - s ≡ n = omega arith in
    let b : (s + len) - s ≡ len = omega arith in
    rw (a, b) (sym (take_less n len (drop s xs) le))

-- the same, as a lent part ends
pub part_wrote : (r : Space) (b : Piece) (at : ℕ) (ys : List ℕ) → length r.bytes ≡ 512 * length r.taken → LiesInRegion r.taken b → at + length ys ≤ b.len → Wrote r (record r { bytes = written r.bytes (512 * b.start + at) ys }) b at ys
part_wrote r b at ys whole lies fits =
    let within = inside_bytes r b whole lies in
    wrote_at r (record r { bytes = written r.bytes (512 * b.start + at) ys }) b at ys whole lies refl fits (fitted_put r.bytes ys (512 * b.start + at) (omega (arith, within, fits)))
