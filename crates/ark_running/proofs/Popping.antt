-- A pop reads its entry's blocks, one behind another.
use Rattle.std.proofs.Common.{◌≡◌, ℕ, zero, suc, ◌+◌, ◌*◌, ◌≤◌, ◌<◌, false, List, ◌∷◌, ◌++◌, length, take, drop, get_or, refl, sym, ap, ◌∙◌, arith, length-append}
use Rattle.std.proofs.Math.Nat.{mod-lt}
use Rattle.std.proofs.Math.Seq.{take-append-add, take-append_seam}
use Rattle.std.proofs.lemmas.List.Sums.{sum_by-take-le}
use Rattle.ark_base.specs.declared.kind.Kind.{Kind}
use Rattle.ark_media.specs.Journal.{History, block, current}
use Rattle.ark_media.specs.Stops.{Whole}
use Rattle.ark_media.proofs.Stopping.{now_may}
use Rattle.ark_region.specs.Frames.{put}
use Rattle.ark_entry.specs.Entry.{entry_blocks}
use Rattle.ark_entry.specs.Found.{Entries}
use Rattle.ark_entry.specs.Reading.{bytes_from}
use Rattle.ark_entry.specs.Writing.{at}
use Rattle.ark_caladan.specs.Chain.{Command, pop, blocks_of}
use Rattle.ark_caladan.specs.Leaves.{freed_by}
use Rattle.ark_caladan.specs.Listed.{AreFull}
use Rattle.ark_caladan.specs.Open.{IsOpenWith, Layout}
use Rattle.ark_caladan.specs.Plans.{ring_place}
use Rattle.ark_caladan.specs.Postings.{HasRead}
use Rattle.ark_caladan.proofs.Appending.{used}
use Rattle.ark_caladan.proofs.Buffers.{read_more, rest_reads}

module _ (kind : Kind) (room : ℕ) (h : History) (blocks : List ℕ) (p : Layout) (l : Entries) (m : ℕ) (cs : List Command) (k : ℕ) (opened : IsOpenWith kind room h blocks p l (pop m ∷ cs) 0 k) (full : AreFull h blocks) where
  pub freed_low : freed_by l (pop m) ≤ room
  freed_low =
      let less : blocks_of (take 1 l.payloads) ≤ blocks_of l.payloads = sum_by-take-le (λ (q : List ℕ). entry_blocks (length q)) l.payloads 1 in
      let many = used kind room opened.waits.some p.header p.says p.stored l opened.waits.lies in
      omega (arith, less, many, opened.waits.lies.fits)

  -- what stands at the places that are read
  pub stands : (u : ℕ) → u < freed_by l (pop m) → block (current h.base h.journal) (get_or blocks (ring_place room p.says.start u) 0) ≡ at p.stored u
  stands u less = rest_reads kind room h blocks p l false u opened.waits.some opened.size opened.waits.lies (omega (arith, less, freed_low)) opened.at

  long : (u : ℕ) → u < freed_by l (pop m) → length (at p.stored u) ≡ 512
  long u less =
      let place : ring_place room p.says.start u < length blocks = let e = mod-lt (p.says.start + u) opened.waits.some in omega (arith, e, opened.size) in
      ap length (sym (stands u less)) ∙ full (ring_place room p.says.start u) place (block (current h.base h.journal) (get_or blocks (ring_place room p.says.start u) 0))
      (now_may Whole (λ c. refl) h.base h.journal (get_or blocks (ring_place room p.says.start u) 0) (opened.on_disk.inside (ring_place room p.says.start u) place))

  all_long : (u n : ℕ) → u + n ≤ freed_by l (pop m) → length (bytes_from (at p.stored) u n) ≡ 512 * n
  all_long u zero low = refl
  all_long u (suc n) low =
      let first = long u (omega (arith, low)) in
      let rest = all_long (u + 1) n (omega (arith, low)) in
      let both = length-append (at p.stored u) (bytes_from (at p.stored) (u + 1) n) in
      omega (arith, first, rest, both)

  -- with one more block behind them
  pub reads_on : k < freed_by l (pop m) → (bytes b b2 : List ℕ) → HasRead p.stored k b → bytes ≡ at p.stored k → length bytes ≡ 512 → b2 ≡ put b (512 * k) bytes → HasRead p.stored (suc k) b2
  reads_on less bytes b b2 read is whole wrote = read_more p.stored k b b2 read next
    where
      front : length (take (512 * k) b) ≡ 512 * k
      front = ap length read ∙ all_long 0 k (omega (arith, less))

      next : take (512 * suc k) b2 ≡ take (512 * k) b ++ at p.stored k
      next =
          let size : 512 * suc k ≡ length (take (512 * k) b) + 512 = omega (arith, front) in
          (λ i. take (size i) (wrote i))
          ∙ take-append-add (take (512 * k) b) (bytes ++ drop (512 * k + length bytes) b) 512
          ∙ ap (λ t. take (512 * k) b ++ t) (ap (λ n. take n (bytes ++ drop (512 * k + length bytes) b)) (sym whole) ∙ take-append_seam bytes (drop (512 * k + length bytes) b) ∙ is)
