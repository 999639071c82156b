-- The taken frames of a region, and the live buffers that they stand for.
use Rattle.std.proofs.Common.{◌≡◌, ◌<◌, ◌≤◌, ◌+◌, ◌++◌, ℕ, Bool, true, false, List, [], ◌∷◌, length, take, drop, replicate, sym, subst, ◌∙◌, true≢false, arith, slice_index_or, inl, inr, length-append, length-drop}
use Rattle.std.specs.Prelude.{◌⊎◌, ◌↔◌}
use Rattle.std.specs.List.{AllByRecursion}
use Rattle.std.proofs.lemmas.List.{length-replicate, length-take}
use Rattle.ark_region.specs.Frames.{Piece, IsFreeRun, IsLeastPlace, IsTaken, Covers, IsLive, ShareNoFrame, LiesInRegion, AreFramesOf, frames_of, put}
use Rattle.ark_region.proofs.Putting.{at_or_below, put_below, put_above, put_copies}

-- the same place, where the same frames are occupied
fits_over : (P Q : ℕ → Type 0) (n k s : ℕ) → ((j : ℕ) → Q j → P j) → IsFreeRun P n k s → IsFreeRun Q n k s
fits_over P Q n k s back f = record { inside = f.inside; free = λ j a b q. f.free j a b (back j q) }

pub place_over : (P Q : ℕ → Type 0) (n k s : ℕ) → ((j : ℕ) → P j ↔ Q j) → IsLeastPlace P n k s → IsLeastPlace Q n k s
place_over P Q n k s same p = record {
  here = fits_over P Q n k s (λ j. (same j).1) p.here;
  least = λ j lt f. p.least j lt (fits_over Q P n k j (λ i. (same i).0) f);
}

pub none_over : (P Q : ℕ → Type 0) (n k : ℕ) → ((j : ℕ) → P j ↔ Q j) → ((s : ℕ) → ¬ IsFreeRun P n k s) → (s : ℕ) → ¬ IsFreeRun Q n k s
none_over P Q n k same none s f = none s (fits_over Q P n k s (λ i. (same i).0) f)

-- k frames from s on, put anew
module _ (t : List Bool) (v : Bool) (s k : ℕ) (fits : s + k ≤ length t) where
  abbrev now_taken : List Bool
  now_taken = put t s (replicate k v)

  length_now : length now_taken ≡ length t
  length_now =
      let n = length-replicate k v in
      let a = length-append (take s t) (replicate k v ++ drop (s + length (replicate k v)) t) in
      let b = length-append (replicate k v) (drop (s + length (replicate k v)) t) in
      let c = length-take s t in
      let d = length-drop (s + length (replicate k v)) t in
      omega (arith, n, a, b, c, d)

  inside_now : (j : ℕ) → s ≤ j → j < s + k → slice_index_or now_taken j false ≡ v
  inside_now j a b = put_copies t v s k j false (omega arith) a b

  outside_now : (j : ℕ) → ¬ ((s ≤ j) × (j < s + k)) → slice_index_or now_taken j false ≡ slice_index_or t j false
  outside_now j out = by (at_or_below s j) (at_or_below (s + k) j)
    where
      by : (s ≤ j) ⊎ (j < s) → (s + k ≤ j) ⊎ (j < s + k) → slice_index_or (put t s (replicate k v)) j false ≡ slice_index_or t j false
      by (inr low) h = put_below t (replicate k v) s j false (omega arith) low
      by (inl a) (inl high) = let n = length-replicate k v in put_above t (replicate k v) s j false (omega arith) (omega (arith, n))
      by (inl a) (inr b) = absurd (out (a, b))

all_lie : (t now : List Bool) (live : List Piece) → length now ≡ length t → AllByRecursion (LiesInRegion t) live → AllByRecursion (LiesInRegion now) live
all_lie t now [] e h = tt
all_lie t now (b ∷ live) e h = (let l = h.0 in omega (arith, l, e), all_lie t now live e h.1)

is_covered_by : (b : Piece) (j : ℕ) → Covers b j ⊎ (¬ Covers b j)
is_covered_by b j = by (at_or_below b.start j) (at_or_below (b.start + frames_of b.len) j)
  where
    by : (b.start ≤ j) ⊎ (j < b.start) → (b.start + frames_of b.len ≤ j) ⊎ (j < b.start + frames_of b.len) → Covers b j ⊎ (¬ Covers b j)
    by (inr low) h = inr (λ own. let a = own.0 in absurd (omega (arith, low, a)))
    by (inl a) (inl high) = inr (λ own. let c = own.1 in absurd (omega (arith, high, c)))
    by (inl a) (inr c) = inl (a, c)

-- a buffer that was given
module _ (t : List Bool) (b : Piece) (live : List Piece) (fits : IsFreeRun (IsTaken t) (length t) (frames_of b.len) b.start) (st : AreFramesOf t live) where
  abbrev given : List Bool
  given = put t b.start (replicate (frames_of b.len) true)

  covered : (j : ℕ) → Covers b j → IsTaken given j
  covered j own = inside_now t true b.start (frames_of b.len) fits.inside j own.0 own.1

  to_live : (j : ℕ) → IsTaken given j → Covers b j ⊎ IsLive live j
  to_live j is = by (is_covered_by b j)
    where
      by : Covers b j ⊎ (¬ Covers b j) → Covers b j ⊎ IsLive live j
      by (inl own) = inl own
      by (inr out) = inr ((st.same j).0 (sym (outside_now t true b.start (frames_of b.len) fits.inside j out) ∙ is))

  from_live : (j : ℕ) → Covers b j ⊎ IsLive live j → IsTaken given j
  from_live j (inl own) = covered j own
  from_live j (inr other) = by (is_covered_by b j)
    where
      by : Covers b j ⊎ (¬ Covers b j) → IsTaken given j
      by (inl own) = covered j own
      by (inr out) = outside_now t true b.start (frames_of b.len) fits.inside j out ∙ (st.same j).1 other

  stands_given : AreFramesOf given (b ∷ live)
  stands_given =
      let e = length_now t true b.start (frames_of b.len) fits.inside in
      let h = fits.inside in
      record {
        same = λ j. (to_live j, from_live j);
        inside = (omega (arith, e, h), all_lie t given live e st.inside);
        apart = (λ j own other. fits.free j own.0 own.1 ((st.same j).1 other), st.apart);
      }

  pub stands_more : (now : List Bool) → now ≡ given → AreFramesOf now (b ∷ live)
  stands_more now is = subst (λ (x : List Bool). AreFramesOf x (b ∷ live)) (sym is) stands_given

-- one buffer among others
live_out : (before after : List Piece) (b : Piece) (j : ℕ) → IsLive (before ++ b ∷ after) j → Covers b j ⊎ IsLive (before ++ after) j
live_out [] after b j h = h
live_out (a ∷ before) after b j (inl own) = inr (inl own)
live_out (a ∷ before) after b j (inr h) = by (live_out before after b j h)
  where
    by : Covers b j ⊎ IsLive (before ++ after) j → Covers b j ⊎ (Covers a j ⊎ IsLive (before ++ after) j)
    by (inl own) = inl own
    by (inr more) = inr (inr more)

live_in : (before after : List Piece) (b : Piece) (j : ℕ) → Covers b j ⊎ IsLive (before ++ after) j → IsLive (before ++ b ∷ after) j
live_in [] after b j h = h
live_in (a ∷ before) after b j (inl own) = inr (live_in before after b j (inl own))
live_in (a ∷ before) after b j (inr (inl own)) = inl own
live_in (a ∷ before) after b j (inr (inr more)) = inr (live_in before after b j (inr more))

apart_own : (before after : List Piece) (b : Piece) → ShareNoFrame (before ++ b ∷ after) → (j : ℕ) → Covers b j → ¬ IsLive (before ++ after) j
apart_own [] after b h j own more = h.0 j own more
apart_own (a ∷ before) after b h j own (inl other) = h.0 j other (live_in before after b j (inl own))
apart_own (a ∷ before) after b h j own (inr more) = apart_own before after b h.1 j own more

apart_less : (before after : List Piece) (b : Piece) → ShareNoFrame (before ++ b ∷ after) → ShareNoFrame (before ++ after)
apart_less [] after b h = h.1
apart_less (a ∷ before) after b h = (λ j own more. h.0 j own (live_in before after b j (inr more)), apart_less before after b h.1)

one_lies : (t : List Bool) (before after : List Piece) (b : Piece) → AllByRecursion (LiesInRegion t) (before ++ b ∷ after) → LiesInRegion t b
one_lies t [] after b h = h.0
one_lies t (a ∷ before) after b h = one_lies t before after b h.1

less_lie : (t : List Bool) (before after : List Piece) (b : Piece) → AllByRecursion (LiesInRegion t) (before ++ b ∷ after) → AllByRecursion (LiesInRegion t) (before ++ after)
less_lie t [] after b h = h.1
less_lie t (a ∷ before) after b h = (h.0, less_lie t before after b h.1)

-- a buffer that was taken back
module _ (t : List Bool) (b : Piece) (before after : List Piece) (st : AreFramesOf t (before ++ b ∷ after)) where
  abbrev without : List Bool
  without = put t b.start (replicate (frames_of b.len) false)

  lies : LiesInRegion t b
  lies = one_lies t before after b st.inside

  still_live : (j : ℕ) → IsTaken without j → IsLive (before ++ after) j
  still_live j is = by (is_covered_by b j)
    where
      by : Covers b j ⊎ (¬ Covers b j) → IsLive (before ++ after) j
      by (inl own) = absurd (true≢false (sym is ∙ inside_now t false b.start (frames_of b.len) lies j own.0 own.1))
      by (inr out) = two (live_out before after b j ((st.same j).0 (sym (outside_now t false b.start (frames_of b.len) lies j out) ∙ is)))
        where
          two : Covers b j ⊎ IsLive (before ++ after) j → IsLive (before ++ after) j
          two (inl own) = absurd (out own)
          two (inr more) = more

  still_taken : (j : ℕ) → IsLive (before ++ after) j → IsTaken without j
  still_taken j more =
      outside_now t false b.start (frames_of b.len) lies j (λ own. apart_own before after b st.apart j own more)
      ∙ (st.same j).1 (live_in before after b j (inr more))

  stands_without : AreFramesOf without (before ++ after)
  stands_without = record {
    same = λ j. (still_live j, still_taken j);
    inside = all_lie t without (before ++ after) (length_now t false b.start (frames_of b.len) lies) (less_lie t before after b st.inside);
    apart = apart_less before after b st.apart;
  }

  pub stands_less : (now : List Bool) → now ≡ without → AreFramesOf now (before ++ after)
  stands_less now is = subst (λ (x : List Bool). AreFramesOf x (before ++ after)) (sym is) stands_without
