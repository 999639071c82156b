-- The frames of a place, where they are taken or given back.
use Rattle.std.proofs.Common.{◌≡◌, inl, inr, ℕ, ◌+◌, ◌≤◌, Bool, true, false, cond, List, length, replicate, refl, sym, ◌∙◌, ap, arith}
use Rattle.std.specs.Prelude.{slice_index_or}
use Rattle.std.proofs.lemmas.Bool.{false≢true}
use Rattle.std.proofs.lemmas.List.{length-replicate}
use Rattle.ark_region.specs.Frames.{IsTaken, IsFreeRun, put}
use Rattle.ark_region.proofs.Putting.{at_or_below, put_below, put_above, put_copies}
use Rattle.ark_held.specs.Totals.{bit, covers}
use Rattle.ark_held.proofs.Lists.{by_test, plus_zero}
use Rattle.ark_held.proofs.Placing.{covers_has, has_covers}

pub bit_zero : (b : Bool) → (b ≡ true → ⊥) → bit b ≡ 0
bit_zero true never = absurd (never refl)
bit_zero false never = refl

pub bit_most : (b : Bool) → bit b ≤ 1
bit_most true = omega arith
bit_most false = omega arith

-- they are what was put there, and all others what they were
put_at : (old : List Bool) (s k j : ℕ) (now : Bool) → s + k ≤ length old → slice_index_or (put old s (replicate k now)) j false ≡ cond (covers j (s, k)) now (slice_index_or old j false)
put_at old s k j now inside = by_test (λ b. covers j (s, k) ≡ b → slice_index_or (put old s (replicate k now)) j false ≡ cond b now (slice_index_or old j false)) (covers j (s, k))
    (λ yes q. let has = covers_has j (s, k) q in put_copies old now s k j false (omega (arith, inside)) has.0 has.1)
    (λ no q. elim (at_or_below s j) [
      | inr below ↦ put_below old (replicate k now) s j false (omega (arith, inside)) below
      | inl from ↦ elim (at_or_below (s + k) j) [
        | inl above ↦ let long = length-replicate k now in put_above old (replicate k now) s j false (omega (arith, inside)) (omega (arith, long, above))
        | inr under ↦ absurd (false≢true (sym q ∙ has_covers j (s, k) (from, under)))
      ]
    ]) refl

-- free frames are taken
pub taken_bit : (old : List Bool) (s k j : ℕ) → IsFreeRun (IsTaken old) (length old) k s → bit (slice_index_or old j false) + bit (covers j (s, k)) ≡ bit (slice_index_or (put old s (replicate k true)) j false)
taken_bit old s k j room = by_test (λ b. covers j (s, k) ≡ b → bit (slice_index_or old j false) + bit b ≡ bit (cond b true (slice_index_or old j false))) (covers j (s, k))
    (λ yes q. let has = covers_has j (s, k) q in ap (λ n. n + 1) (bit_zero (slice_index_or old j false) (room.free j has.0 has.1)))
    (λ no q. plus_zero (bit (slice_index_or old j false))) refl
    ∙ sym (ap bit (put_at old s k j true room.inside))

-- taken frames are given back
pub given_bit : (old : List Bool) (s k j : ℕ) → s + k ≤ length old → bit (covers j (s, k)) ≤ bit (slice_index_or old j false)
    → bit (slice_index_or (put old s (replicate k false)) j false) + bit (covers j (s, k)) ≡ bit (slice_index_or old j false)
given_bit old s k j inside own =
    ap (λ b. bit b + bit (covers j (s, k))) (put_at old s k j false inside)
    ∙ by_test (λ b. bit b ≤ bit (slice_index_or old j false) → bit (cond b false (slice_index_or old j false)) + bit b ≡ bit (slice_index_or old j false)) (covers j (s, k))
    (λ yes least. let low : 1 ≤ bit (slice_index_or old j false) = least in let most = bit_most (slice_index_or old j false) in let one : 1 ≡ bit (slice_index_or old j false) = omega (arith, low, most) in one)
    (λ no least. plus_zero (bit (slice_index_or old j false))) own
