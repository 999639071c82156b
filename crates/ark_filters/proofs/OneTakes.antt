-- No frame is for two.
use Rattle.std.proofs.Common.{◌≡◌, ℕ, ◌≤◌, List, [], ◌∷◌, length, Bool, true, false, ◌&&◌, cond, is_some, arith, refl, ap, ◌∙◌}
use Rattle.std.specs.List.{AllByRecursion, count_by, filter}
use Rattle.std.proofs.lemmas.List.Sums.{length-filter}
use Rattle.std.proofs.lemmas.Bool.{and_parts, and_from, false_from_ne_true, both_ways}
use Rattle.ark_packet.specs.declared.own.Own.{Own}
use Rattle.ark_filters.specs.declared.live.Live.{Live}
use Rattle.ark_filters.specs.In.{is_in}
use Rattle.ark_filters.specs.Overlap.{meets}
use Rattle.ark_filters.specs.Rules.{is_rx, clashes, takes, Precedes, InOrder}
use Rattle.ark_filters.proofs.Clashing.{receives}
use Rattle.ark_filters.proofs.Together.{both_match}

abbrev pub taken : List ℕ → Own → Live → Bool
taken bytes own = takes (λ f. is_in f bytes own)

-- of two that do not overlap the one takes what the other does not
pub apart : (bytes : List ℕ) (own : Own) (a b : Live) → clashes b.filter a ≡ false → taken bytes own a ≡ true → taken bytes own b ≡ true → ⊥
apart bytes own a b none ha hb =
    let fa = and_parts (is_rx a.filter.direction) (is_in a.filter bytes own) (and_parts (is_some a.vnic) (is_rx a.filter.direction && is_in a.filter bytes own) ha).1 in
    let fb = and_parts (is_rx b.filter.direction) (is_in b.filter bytes own) (and_parts (is_some b.vnic) (is_rx b.filter.direction && is_in b.filter bytes own) hb).1 in
    let met : meets b.filter a.filter ≡ true =
    both_match b.filter a.filter own bytes (receives b.filter.direction fb.0) (receives a.filter.direction fa.0) fb.1 fa.1 in
    both_ways (clashes b.filter a) none
    (and_from (is_rx b.filter.direction) (is_rx a.filter.direction && meets b.filter a.filter) fb.0 (and_from (is_rx a.filter.direction) (meets b.filter a.filter) fa.0 met))

none_after : (bytes : List ℕ) (own : Own) (live : Live) (rules : List Live) → taken bytes own live ≡ true → AllByRecursion (Precedes live) rules
    → filter (taken bytes own) rules ≡ []
none_after bytes own live [] h all = refl
none_after bytes own live (x ∷ rest) h all =
    let not_this : taken bytes own x ≡ false = false_from_ne_true (taken bytes own x) (λ k. apart bytes own live x all.0.apart h k) in
    ap (λ b. cond b (x ∷ filter (taken bytes own) rest) (filter (taken bytes own) rest)) not_this ∙ none_after bytes own live rest h all.1

few_take : (bytes : List ℕ) (own : Own) (rules : List Live) → InOrder rules → length (filter (taken bytes own) rules) ≤ 1
few_take bytes own [] h = omega arith
few_take bytes own (x ∷ rest) h = by (taken bytes own x) refl (few_take bytes own rest h.1)
  where
    by : (b : Bool) → taken bytes own x ≡ b → length (filter (taken bytes own) rest) ≤ 1 → length (cond b (x ∷ filter (taken bytes own) rest) (filter (taken bytes own) rest)) ≤ 1
    by true is after = omega (arith, ap length (none_after bytes own x rest is h.0))
    by false is after = after

pub one_takes : (bytes : List ℕ) (own : Own) (rules : List Live) → InOrder rules → count_by (takes (λ f. is_in f bytes own)) rules ≤ 1
one_takes bytes own rules h = omega (arith, few_take bytes own rules h, length-filter (taken bytes own) rules)
