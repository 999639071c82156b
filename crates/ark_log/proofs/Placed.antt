-- Where an acknowledged entry stands, and how long it is.
use Rattle.std.proofs.Common.{◌≡◌, ⊎_elim, ℕ, ◌+◌, ◌-◌, ◌≤◌, ◌<◌, List, Some, None, length, take, sym, ap, ◌∙◌, subst, arith}
use Rattle.std.specs.Prelude.{slice_get, sum_by}
use Rattle.std.proofs.lemmas.List.Elements.{All-get_or}
use Rattle.std.proofs.lemmas.Option.{slice_get_cases, slice_get_within, get_or_from_slice_get}
use Rattle.std.proofs.lemmas.List.Sums.{sum_by_more, sum_by_more_le}
use Rattle.ark_entry.specs.Entry.{entry_blocks}
use Rattle.ark_chain.specs.declared.reading.Reading.{Reading}
use Rattle.ark_log.specs.Open.{OpenChain, IsRight}
use Rattle.ark_log.specs.Walked.{IsEntryAt, place_of}

-- one more length is summed up
pub sum_more : (lengths : List ℕ) (i len : ℕ) → slice_get lengths i ≡ Some len → sum_by entry_blocks (take (i + 1) lengths) ≡ sum_by entry_blocks (take i lengths) + entry_blocks len
sum_more lengths i len here = sum_by_more entry_blocks lengths i 0 (slice_get_within lengths i len here) ∙ ap (λ n. sum_by entry_blocks (take i lengths) + entry_blocks n) (get_or_from_slice_get lengths i len 0 here)

pub sum_within : (lengths : List ℕ) (i len : ℕ) → slice_get lengths i ≡ Some len → sum_by entry_blocks (take i lengths) + entry_blocks len ≤ sum_by entry_blocks lengths
sum_within lengths i len here = subst (λ n. sum_by entry_blocks (take i lengths) + entry_blocks n ≤ sum_by entry_blocks lengths) (get_or_from_slice_get lengths i len 0 here) (sum_by_more_le entry_blocks lengths i 0 (slice_get_within lengths i len here))

pub is_past : (lengths : List ℕ) (i : ℕ) → slice_get lengths i ≡ None → length lengths ≤ i
is_past lengths i none = ⊎_elim (λ here. absurd (cc (here.2, none))) (λ past. past.0) (slice_get_cases lengths i).1

pub entry_is : (v : OpenChain) (n len : ℕ) (from : Reading) → IsRight v → v.coming ≤ n → n < v.first + v.count → slice_get v.lengths (n - v.first) ≡ Some len → from ≡ record { start = place_of v n; room = v.room } → IsEntryAt v n len from
entry_is v n len from right up low here seen =
    let at = n - v.first in
    let is = get_or_from_slice_get v.lengths at len 0 here in
    let sum = sum_within v.lengths at len here in
    record {
      there = (up, low);
      is = sym is;
      short = subst (λ l. l ≤ 32768) is (All-get_or (λ l. l ≤ 32768) v.lengths at 0 (slice_get_within v.lengths at len here) right.all_short);
      fits = omega (arith, sum, right.used_is, right.fits);
      some = omega (arith, right.some);
      few = right.few;
      seen = seen;
    }
