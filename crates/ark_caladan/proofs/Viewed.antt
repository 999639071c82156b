-- The places of a ring in two views that differ in some of its blocks, and contents that are between two views.
use Rattle.std.proofs.Common.{◌≡◌, ◌⊎◌, inl, inr, ⊎_elim, ℕ, zero, suc, ◌+◌, ◌-◌, ◌%◌, ◌<◌, ◌≤◌, List, [], ◌∷◌, length, get_or, refl, ◌∙◌, ap, arith}
use Rattle.std.proofs.Math.Nat.{mod-lt}
use Rattle.ark_base.specs.declared.kind.Kind.{Kind}
use Rattle.ark_media.specs.Journal.{block}
use Rattle.ark_entry.specs.Reading.{reading}
use Rattle.ark_entry.specs.Writing.{at, Between}
use Rattle.ark_caladan.specs.Leaves.{AreRingBlocks}
use Rattle.ark_caladan.specs.Views.{view_of}
use Rattle.ark_caladan.specs.Leading.{AllIn, IsBetween}
use Rattle.ark_caladan.specs.Plans.{ring_places}
use Rattle.ark_caladan.proofs.Places.{view_at, place_forth}

pub length-ring_places : (room start u n : ℕ) → length (ring_places room start u n) ≡ n
length-ring_places room start u zero = refl
length-ring_places room start u (suc n) = ap suc (length-ring_places room start (u + 1) n)

pub at_ring_place : (room start u n i : ℕ) → i < n → get_or (ring_places room start u n) i 0 ≡ suc ((start + (u + i)) % room)
at_ring_place room start u zero i lt = absurd (omega (arith, lt))
at_ring_place room start u (suc n) zero lt = let e : start + u ≡ start + (u + 0) = omega arith in ap (λ m. suc (m % room)) e
at_ring_place room start u (suc n) (suc i) lt =
    let e : start + (u + 1 + i) ≡ start + (u + suc i) = omega arith in
    at_ring_place room start (u + 1) n i (omega (arith, lt)) ∙ ap (λ m. suc (m % room)) e

pub ring_in : (room start u n : ℕ) → 0 < room → AllIn (suc room) (ring_places room start u n)
ring_in room start u n some i lt =
    let low : i < n = omega (arith, lt, length-ring_places room start u n) in
    let here : (start + (u + i)) % room < room = mod-lt (start + (u + i)) some in
    omega (arith, here, at_ring_place room start u n i low)

-- where two lists of blocks differ in n places from one on alone, so do their views
pub covers : (room : ℕ) (header : List ℕ) (start : ℕ) (a b : List (List ℕ)) (from n : ℕ) → start < room → ((u : ℕ) → u < room → (at a u ≡ at b u) ⊎ ((from ≤ u) × (u < from + n)))
    → (k : ℕ) → k < suc room → (view_of room header start a k ≡ view_of room header start b k) ⊎ ((i : ℕ) × (i < length (ring_places room start from n)) × (get_or (ring_places room start from n) i 0 ≡ k))
covers room header start a b from n ls differ zero lt = inl refl
covers room header start a b from n ls differ (suc p) lt =
    let u : ℕ = (p + room - start) % room in
    let low : (p + room - start) % room < room = mod-lt (p + room - start) (omega (arith, ls)) in
    ⊎_elim (λ same. inl same)
    (λ inside.
    let i : ℕ = u - from in
    let less : (p + room - start) % room - from < n = omega (arith, inside.0, inside.1) in
    let back : start + (from + ((p + room - start) % room - from)) ≡ start + (p + room - start) % room = omega (arith, inside.0) in
    inr (
      u - from,
      omega (arith, less, length-ring_places room start from n),
      at_ring_place room start from n (u - from) less ∙ ap (λ m. suc (m % room)) back ∙ ap suc (place_forth room start p ls (omega (arith, lt))),
    ))
    (differ u low)

module _ (kind : Kind) (room : ℕ) (some : 0 < room) (start : ℕ) (ls : start < room) (ha hb : List ℕ) (a b : List (List ℕ)) where
  -- contents between two views are a header and a ring
  pub record Ringed (contents : List (List ℕ)) : Type 0 where
    pub header : List ℕ
    pub ring : List (List ℕ)
    pub is : contents ≡ header ∷ ring
    pub long : length ring ≡ room
    pub is_ring : AreRingBlocks ring
    pub head : (header ≡ ha) ⊎ (header ≡ hb)
    pub holds : Between (length ring) a b (reading ring start)

  pub ringed : (contents : List (List ℕ)) → IsBetween (suc room) (view_of room ha start a) (view_of room hb start b) contents → Ringed contents
  ringed [] between = absurd (omega (arith, between.size))
  ringed (header ∷ ring) between = record {
    header = header;
    ring = ring;
    is = refl;
    long = long;
    is_ring = record { whole = λ u lt. between.whole (suc u) (omega (arith, lt)); some = omega (arith, long, some) };
    head = between.each 0 (omega arith);
    holds = holds;
  }
    where
      long : length ring ≡ room
      long = omega (arith, between.size)

      holds : Between (length ring) a b (reading ring start)
      holds u lt =
          let low : u < room = omega (arith, lt, long) in
          let place : (start + u) % length ring ≡ (start + u) % room = ap (λ n. (start + u) % n) long in
          let inside : (start + u) % room < room = mod-lt (start + u) some in
          ⊎_elim
          (λ old. inl (ap (block ring) place ∙ old ∙ view_at room ha start a u ls low))
          (λ new. inr (ap (block ring) place ∙ new ∙ view_at room hb start b u ls low))
          (between.each (suc ((start + u) % room)) (omega (arith, inside)))
