-- The calls of a descriptor are those of what its log posts.
use Rattle.std.proofs.Common.{◌≡◌, ◌⊎◌, inl, inr, ℕ, ◌+◌, ◌-◌, ◌%◌, ◌≤◌, ◌<◌, List, length, get_or, sym, ap, ◌∙◌, arith, if◌then◌else◌}
use Rattle.std.proofs.Math.Nat.{mod-eq_of_lt}
use Rattle.std.proofs.lemmas.Bool.{cases_lt, cond-true, cond-false, le-ltb, lt-ltb}
use Rattle.std.proofs.lemmas.Bool.Decides.{nat_tests}
use Rattle.ark_region.specs.Frames.{Space}
use Rattle.ark_vic.specs.declared.descriptor.Descriptor.{Descriptor}
use Rattle.ark_vic.specs.declared.descriptor.Job.TheVariants as job
use Rattle.ark_media.specs.Journal.{zero_block}
use Rattle.ark_media.specs.Calls.{Reads, Writes}
use Rattle.ark_vsic.specs.Moves.{block_call, buffered, call_by}
use Rattle.ark_vsic.specs.Places.{is_wrapped, place_of}
use Rattle.ark_caladan.specs.Postings.{Posting, bytes_block, clears, flushes, loads, posted_call, saves, walked}

-- the place of a block is where the log walks to, if that is no second turn
pub place_walked : (n first k : ℕ) → first < n → k + 1 < n → (place_of n 1 first k ≡ walked n first k) × (walked n first k < n)
place_walked n first k inside few = by (cases_lt (first + k) n)
  where
    by : (first + k < n) ⊎ (n ≤ first + k) → (place_of n 1 first k ≡ walked n first k) × (walked n first k < n)
    by (inl less) =
        let at : walked n first k ≡ first + k = ap (λ b. if b then first + k else 1 + (first + k - n)) (lt-ltb (first + k) n less) in
        (cond-false (is_wrapped n 1 first k) (1 + (first + k - n) % (n - 1)) (first + k) (grind (arith, nat_tests)) ∙ sym at, omega (arith, at, less))
    by (inr past) =
        let at : walked n first k ≡ 1 + (first + k - n) = ap (λ b. if b then first + k else 1 + (first + k - n)) (le-ltb (first + k) n past) in
        let once : (first + k - n) % (n - 1) ≡ first + k - n = mod-eq_of_lt (let low : first + k - n < n - 1 = omega (arith, inside, few, past) in low) in (
          cond-true (is_wrapped n 1 first k) (1 + (first + k - n) % (n - 1)) (first + k) (grind (arith, nat_tests)) ∙ ap (λ m. 1 + m) once ∙ sym at,
          omega (arith, at, inside, few, past),
        )

-- A descriptor is what a log posts, from the buffers as they are.
abbrev pub Describes : Descriptor → Space → Posting → Type 0
Describes d space (loads first count) = (d.job ≡ job.Read) × (d.first ≡ first)
Describes d space (saves first count bytes) = (d.job ≡ job.Write) × (d.first ≡ first) × ((k : ℕ) → k < d.count → buffered d k space ≡ bytes_block bytes k)
Describes d space (clears first count) = (d.job ≡ job.Zero) × (d.first ≡ first)
Describes d space flushes = d.job ≡ job.Sync

-- its call for a block
module _ (blocks : List ℕ) (d : Descriptor) (space : Space) (k : ℕ) where
  abbrev at : ℕ → ℕ
  at first = get_or blocks (walked (length blocks) first k) 0

  pub calls_as : (q : Posting) → Describes d space q → (d.job ≡ job.Sync → ⊥) → k < d.count → block_call d k (get_or blocks (walked (length blocks) d.first k) 0) space ≡ posted_call blocks q k
  calls_as (loads first count) is moves less = ap (λ j. call_by j (at d.first) (buffered d k space)) is.0 ∙ ap (λ f. Reads (at f)) is.1
  calls_as (saves first count bytes) is moves less =
      ap (λ j. call_by j (at d.first) (buffered d k space)) is.0 ∙ ap (λ f. Writes (at f) (buffered d k space)) is.1 ∙ ap (λ b. Writes (at first) b) (is.2 k less)
  calls_as (clears first count) is moves less = ap (λ j. call_by j (at d.first) (buffered d k space)) is.0 ∙ ap (λ f. Writes (at f) zero_block) is.1
  calls_as flushes is moves less = absurd (moves is)
