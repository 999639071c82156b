-- A peer of IPv4 is an address and two zeros.
use Rattle.std.proofs.Common.{◌≡◌, ℕ, ◌<◌, ◌≤◌, ◌⊎◌, inl, inr, List, [], ◌∷◌, ◌++◌, length, get_or, take, arith, sym, subst, length-take}
use Rattle.std.proofs.lemmas.Bool.{cases_lt}
use Rattle.std.proofs.lemmas.List.{get_or-take, get_or_past}
use Rattle.ark_packet.specs.Wire.{IsAddress}
use Rattle.ark_filters.specs.Rule.{IsPadded}

padded : (xs : List ℕ) → length xs ≡ 6 → get_or xs 4 0 ≡ 0 → get_or xs 5 0 ≡ 0 → take 4 xs ++ (0 ∷ (0 ∷ [])) ≡ xs
padded [] h x y = absurd (omega arith)
padded (a ∷ []) h x y = absurd (omega arith)
padded (a ∷ (b ∷ [])) h x y = absurd (omega arith)
padded (a ∷ (b ∷ (c ∷ []))) h x y = absurd (omega arith)
padded (a ∷ (b ∷ (c ∷ (d ∷ [])))) h x y = absurd (omega arith)
padded (a ∷ (b ∷ (c ∷ (d ∷ (e ∷ []))))) h x y = absurd (omega arith)
padded (a ∷ (b ∷ (c ∷ (d ∷ (e ∷ (f ∷ [])))))) h x y = cc
padded (a ∷ (b ∷ (c ∷ (d ∷ (e ∷ (f ∷ (g ∷ xs))))))) h x y = absurd (omega arith)

pub is_padded : (peer : List ℕ) → IsPadded peer → take 4 peer ++ (0 ∷ (0 ∷ [])) ≡ peer
is_padded peer h = padded peer h.mac.six h.fifth h.sixth

pub address_of : (peer : List ℕ) → IsPadded peer → IsAddress (take 4 peer)
address_of peer h = record { four = omega (arith, length-take 4 peer, h.mac.six); octets = λ i. at i (cases_lt i 4) }
  where
    at : (i : ℕ) → (i < 4) ⊎ (4 ≤ i) → get_or (take 4 peer) i 0 < 256
    at i (inl lt) = subst (λ (n : ℕ). n < 256) (sym (get_or-take 4 peer i 0 lt)) (h.mac.octets i)
    at i (inr le) = subst (λ (n : ℕ). n < 256) (sym (get_or_past (take 4 peer) i 0 (omega (arith, length-take 4 peer)))) (omega arith)
