-- Moves in a row: each moves the next block, and the last ends the descriptor.
use Rattle.std.proofs.Common.{◌≡◌, ◌≢◌, ℕ, zero, suc, ◌+◌, ◌≤◌, ◌<◌, Bool, true, false, nat_le, List, length, Option, Some, None, slice_get, refl, sym, ap, ◌∙◌, arith}
use Rattle.std.specs.Prelude.{is_some, unwrap_or}
use Rattle.std.proofs.lemmas.Bool.{false≢true}
use Rattle.std.proofs.lemmas.Bool.Decides.{nat_tests}
use Rattle.ark_base.specs.declared.kind.Outcome.TheVariants as outcome
use Rattle.ark_vic.specs.Queue.{finished}
use Rattle.ark_vic.specs.declared.descriptor.Descriptor.{Descriptor}
use Rattle.ark_vic.specs.declared.descriptor.Job.{Job}
use Rattle.ark_vic.specs.declared.descriptor.Job.TheVariants as job
use Rattle.ark_vsic.specs.declared.due.Due.{Due}
use Rattle.ark_vsic.specs.declared.due.Due.TheVariants as due
use Rattle.ark_vsic.specs.Card.{Card, Areas, head_of}
use Rattle.ark_vsic.specs.Places.{place_of, place_after}
use Rattle.ark_vsic.specs.Moves.{due_at, due_in, due_by, due_for, due_of, area_of, count_of, answer_tried, ended, ring_after, pace_after, answer_of}
use Rattle.ark_vsic.specs.Runs.{moved_on, after_moves, with_moved, CanTransfer}
use Rattle.ark_vsic.proofs.Stepping.{stepwise}

by_job : (j : Job) → j ≢ job.Sync → (x : Due) → due_by j x ≡ x
by_job job.Sync not x = absurd (not refl)
by_job job.Read not x = refl
by_job job.Write not x = refl
by_job job.Zero not x = refl
by_job job.Receive not x = refl
by_job job.Send not x = refl

some_of : (o : Option ℕ) → is_some o ≡ true → o ≡ Some (unwrap_or o 0)
some_of (Some n) is = refl
some_of None is = absurd (false≢true is)

module _ (card : Card) (held : Areas) (now : ℕ) (d : Descriptor) (blocks : List ℕ) (can : CanTransfer card held d blocks) where
  is_due : (k n : ℕ) → slice_get blocks (place_of (length blocks) d.wrap d.first k) ≡ Some n → due_of (with_moved card k) held now ≡ due.Block n
  is_due k n at =
      ap (λ o. due_for o (with_moved card k) held now) can.oldest ∙ by_job d.job can.moves (due_in (area_of d.grant card.bound held) d k card.pace now)
      ∙ ap (λ o. due_in o d k card.pace now) can.area ∙ ap (λ o. due_at o card.pace now) at ∙ ap (λ p. due_at (Some n) p now) can.unpaced

  block_at : (k : ℕ) → card.ring.moved ≤ k → k < d.count → (n : ℕ) × (due_of (with_moved card k) held now ≡ due.Block n)
  block_at k from below =
      let at = some_of (slice_get blocks (place_of (length blocks) d.wrap d.first k)) (can.inside k from below) in
      (unwrap_or (slice_get blocks (place_of (length blocks) d.wrap d.first k)) 0, is_due k _ at)

  last_is : (k : ℕ) (b : Bool) → nat_le d.count (k + 1) ≡ b → nat_le (count_of (head_of card.ring)) (k + 1) ≡ b
  last_is k b is = ap (λ o. nat_le (count_of o) (k + 1)) can.oldest ∙ is

  tried : (k n : ℕ) (b : Bool) → due_of (with_moved card k) held now ≡ due.Block n → nat_le d.count (k + 1) ≡ b
      → moved_on (with_moved card k) held now ≡ record { ring = ring_after (with_moved card k).ring (answer_tried b true); bound = card.bound; pace = card.pace }
  tried k n b is last =
      ap (λ x. record { ring = ring_after (with_moved card k).ring (answer_of (with_moved card k) x true); bound = card.bound; pace = pace_after card.pace x now }) is
      ∙ ap (λ a. record { ring = ring_after (with_moved card k).ring (answer_tried a true); bound = card.bound; pace = pace_after card.pace (due.Block n) now }) (last_is k b last)
      ∙ ap (λ p. record { ring = ring_after (with_moved card k).ring (answer_tried b true); bound = card.bound; pace = p }) (ap (λ p. pace_after p (due.Block n) now) can.unpaced ∙ sym can.unpaced)

  steps : (k : ℕ) → card.ring.moved ≤ k → k + 1 < d.count → moved_on (with_moved card k) held now ≡ with_moved card (k + 1)
  steps k from below =
      let at = block_at k from (let z : k < d.count = omega (arith, below) in z) in
      tried k at.0 false at.1 (grind (arith, nat_tests))

  ends_at : (k : ℕ) → card.ring.moved ≤ k → k + 1 ≡ d.count → moved_on (with_moved card k) held now ≡ record card { ring = finished card.ring d outcome.Ok 0 }
  ends_at k from last =
      let at = block_at k from (let z : k < d.count = omega (arith, last) in z) in
      tried k at.0 true at.1 (grind (arith, nat_tests)) ∙ ap (λ o. record card { ring = ended (with_moved card k).ring o outcome.Ok }) can.oldest

  pub goes_on : (j : ℕ) → card.ring.moved + j < d.count → after_moves j card held now ≡ with_moved card (card.ring.moved + j)
  goes_on zero below = let e : card.ring.moved ≡ card.ring.moved + 0 = omega arith in ap (λ k. with_moved card k) e
  goes_on (suc j) below =
      let m = card.ring.moved in
      let e : m + j + 1 ≡ m + suc j = omega arith in
      let less : m + j < d.count = omega (arith, below) in
      let next : m + j + 1 < d.count = omega (arith, below) in
      let from : m ≤ m + j = omega arith in
      ap (λ x. moved_on x held now) (goes_on j less) ∙ steps (m + j) from next ∙ ap (λ k. with_moved card k) e

  pub ends : (j : ℕ) → card.ring.moved + suc j ≡ d.count → after_moves (suc j) card held now ≡ record card { ring = finished card.ring d outcome.Ok 0 }
  ends j last =
      let m = card.ring.moved in
      let less : m + j < d.count = omega (arith, last) in
      let is : m + j + 1 ≡ d.count = omega (arith, last) in
      let from : m ≤ m + j = omega arith in
      ap (λ x. moved_on x held now) (goes_on j less) ∙ ends_at (m + j) from is

  pub touches : (j n : ℕ) → card.ring.moved + j < d.count → slice_get blocks (place_after (length blocks) d.wrap d.first (card.ring.moved + j)) ≡ Some n
      → due_of (after_moves j card held now) held now ≡ due.Block n
  touches j n below at =
      let k = card.ring.moved + j in
      ap (λ x. due_of x held now) (goes_on j below) ∙ is_due k n (ap (λ p. slice_get blocks p) (stepwise (length blocks) d.wrap d.first k) ∙ at)
