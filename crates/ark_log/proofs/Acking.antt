-- What stays so of an open log when its oldest command is acknowledged.
use Rattle.std.proofs.Common.{◌≡◌, ℕ, suc, ◌+◌, ◌-◌, ◌≤◌, ◌<◌, List, ◌∷◌, length, take, drop, get_or, sym, ap, ◌∙◌, subst, arith}
use Rattle.std.specs.Prelude.{All, sum_by}
use Rattle.std.proofs.Math.Path.{transport}
use Rattle.std.proofs.Math.Nat.{mod-lt}
use Rattle.std.proofs.lemmas.List.{length-drop, drop-take, take-take}
use Rattle.std.proofs.lemmas.List.Elements.{All-drop}
use Rattle.std.proofs.lemmas.List.Sums.{sum_by_more, sum_by-take-drop}
use Rattle.ark_entry.specs.Entry.{entry_blocks}
use Rattle.ark_log.specs.declared.command.Waiting.{Waiting}
use Rattle.ark_log.specs.Open.{OpenChain, CanCome, first_after, next_after, LeadTo, HasBuffer, IsRight}
use Rattle.ark_log.specs.Walked.{blocks_before}
use Rattle.ark_log.specs.Acked.{with_one_more, from_number}
use Rattle.ark_log.specs.Oldest.{Adds, DropsTo}
use Rattle.ark_log.proofs.Turns.{goes_up, lead_up}

-- the first that waits leads on to the rest
turn : (v : OpenChain) (w : Waiting) (ws : List Waiting) → IsRight v → v.waiting ≡ w ∷ ws
    → CanCome w.command v.first (v.first + v.count) × LeadTo (first_after w.command v.first) (next_after w.command (v.first + v.count)) ws v.coming (v.first + length v.lengths)
turn v w ws right is = subst (λ x. LeadTo v.first (v.first + v.count) x v.coming (v.first + length v.lengths)) is right.in_turn

-- the entry that is to be appended has its length among the lengths
pub has_length : (v : OpenChain) → IsRight v → Adds v → v.count < length v.lengths
has_length v right adds =
    let t = turn v adds.oldest adds.rest right adds.is in
    let up = lead_up adds.rest v.first (v.first + v.count + 1) v.coming (v.first + length v.lengths) (subst (λ c. LeadTo (first_after c v.first) (next_after c (v.first + v.count)) adds.rest v.coming (v.first + length v.lengths)) adds.named t.1) (omega arith) in
    omega (arith, up.2)

few : (ws rest : List Waiting) (w : Waiting) → ws ≡ w ∷ rest → length ws ≤ 8 → length (drop 1 ws) ≤ 8
few ws rest w is le = let e = ap length is in let d = length-drop 1 ws in omega (arith, e, d, le)

buffers_left : (ws rest : List Waiting) (w : Waiting) → ws ≡ w ∷ rest → All HasBuffer ws → All HasBuffer (drop 1 ws)
buffers_left ws rest w is all = subst (λ x. All HasBuffer x) (ap (λ x. drop 1 x) (sym is)) (all_rest w rest (subst (λ x. All HasBuffer x) is all))
  where
    all_rest : (w : Waiting) (rest : List Waiting) → All HasBuffer (w ∷ rest) → All HasBuffer rest
    all_rest w rest all k d less = all (suc k) d (omega (arith, less))

pub right_added : (v : OpenChain) → IsRight v → Adds v → IsRight (with_one_more v)
right_added v right adds =
    let t = turn v adds.oldest adds.rest right adds.is in
    let less = has_length v right adds in
    let next : v.first + v.count + 1 ≡ v.first + (v.count + 1) = omega arith in
    record {
      some = right.some;
      few = right.few;
      used_is = right.used_is;
      fits = right.fits;
      all_short = right.all_short;
      counted = omega (arith, less);
      stored_is = ap (λ n. n + entry_blocks (get_or v.lengths v.count 0)) right.stored_is ∙ sym (sum_by_more entry_blocks v.lengths v.count 0 less);
      from_one = right.from_one;
      last = right.last;
      short = few v.waiting adds.rest adds.oldest adds.is right.short;
      in_turn = transport (λ i. LeadTo v.first (next i) (ap (λ x. drop 1 x) (sym adds.is) i) v.coming (v.first + length v.lengths))
          (subst (λ c. LeadTo (first_after c v.first) (next_after c (v.first + v.count)) adds.rest v.coming (v.first + length v.lengths)) adds.named t.1);
      buffers = buffers_left v.waiting adds.rest adds.oldest adds.is right.buffers;
      header_is = right.header_is;
    }

module _ (v : OpenChain) (n : ℕ) (right : IsRight v) (drops : DropsTo v n) where
  can : CanCome drops.oldest.command v.first (v.first + v.count) × LeadTo n (v.first + v.count) drops.rest v.coming (v.first + length v.lengths)
  can =
      let t = turn v drops.oldest drops.rest right drops.is in
      (t.0, transport (λ i. LeadTo (drops.first i) (drops.next i) drops.rest v.coming (v.first + length v.lengths)) t.1)

  -- so many entries are dropped
  pub dropped_within : (v.first ≤ n) × (n ≤ v.first + v.count)
  dropped_within =
      let up = goes_up drops.oldest.command v.first (v.first + v.count) can.0 (omega arith) in
      (omega (arith, up.0, drops.first), omega (arith, up.1, drops.first, drops.next))

  -- their blocks and those of the rest of the list
  stored_parts : blocks_before v (n - v.first) + sum_by entry_blocks (take (v.count - (n - v.first)) (drop (n - v.first) v.lengths)) ≡ v.stored
  stored_parts =
      let k = n - v.first in
      let within = dropped_within in
      let all : v.count ≡ k + (v.count - k) = omega (arith, within.0, within.1) in
      let first : take k (take v.count v.lengths) ≡ take k v.lengths = take-take k v.count v.lengths (omega (arith, within.0, within.1)) in
      let rest : drop k (take v.count v.lengths) ≡ take (v.count - k) (drop k v.lengths) = ap (λ m. drop k (take m v.lengths)) all ∙ drop-take k (v.count - k) v.lengths in
      (λ i. sum_by entry_blocks (sym first i) + sum_by entry_blocks (sym rest i)) ∙ sum_by-take-drop entry_blocks (take v.count v.lengths) k ∙ sym right.stored_is

  pub freed_within : blocks_before v (n - v.first) ≤ v.stored
  freed_within = omega (arith, stored_parts)

  pub right_dropped : IsRight (from_number v n)
  right_dropped =
      let k = n - v.first in
      let within = dropped_within in
      let long = length-drop k v.lengths in
      let parts = sum_by-take-drop entry_blocks v.lengths k in
      let next : v.first + v.count ≡ n + (v.count - k) = omega (arith, within.0, within.1) in
      let end : v.first + length v.lengths ≡ n + length (drop k v.lengths) = omega (arith, long, within.0, within.1, right.counted) in
      record {
        some = mod-lt (v.start + blocks_before v k) (omega (arith, right.some));
        few = right.few;
        used_is = omega (arith, parts, right.used_is);
        fits = omega (arith, right.fits);
        all_short = All-drop (λ len. len ≤ 32768) k v.lengths right.all_short;
        counted = omega (arith, long, right.counted, within.0, within.1);
        stored_is = omega (arith, stored_parts);
        from_one = omega (arith, within.0, right.from_one);
        last = omega (arith, end, right.last);
        short = few v.waiting drops.rest drops.oldest drops.is right.short;
        in_turn = transport (λ i. LeadTo n (next i) (ap (λ x. drop 1 x) (sym drops.is) i) v.coming (end i)) can.1;
        buffers = buffers_left v.waiting drops.rest drops.oldest drops.is right.buffers;
        header_is = right.header_is;
      }
