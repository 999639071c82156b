-- What is said of runs, said of their blocks.
use Rattle.std.proofs.Common.{◌≡◌, ◌↔◌, ◌⊎◌, inl, inr, ⊎_elim, ℕ, List, length, sym, ◌∙◌, ap, subst, Contains}
use Rattle.ark_base.specs.declared.block.Span.{Span}
use Rattle.ark_extents.specs.Blocks.{blocks_of, runs_of, AreAmong, ShareNoBlock}
use Rattle.ark_extents.specs.Free.{AreRising, AnyHas, Loses, Gains}
use Rattle.ark_extents.proofs.RunLemmas.{runs_of-blocks_of}
use Rattle.ark_extents.proofs.Ascending.{longest_rising}
use Rattle.ark_extents.proofs.Holding.{has_contained, contains_had}

-- runs, and a list that is their blocks
module _ (runs : List Span) (blocks : List ℕ) (is : blocks_of runs ≡ blocks) where
  pub to_runs : (n : ℕ) → Contains blocks n → AnyHas runs n
  to_runs n h = has_contained runs n (subst (λ (bs : List ℕ). Contains bs n) (sym is) h)

  pub to_blocks : (n : ℕ) → AnyHas runs n → Contains blocks n
  to_blocks n h = subst (λ (bs : List ℕ). Contains bs n) is (contains_had runs n h)

  -- as many longest runs
  pub count_runs : AreRising 0 runs → length (runs_of blocks) ≡ length runs
  count_runs rising = ap length (sym (ap runs_of is) ∙ runs_of-blocks_of runs (longest_rising 0 runs rising))

module _ (runs pieces : List Span) (free blocks : List ℕ) (is : blocks_of runs ≡ free) (are : blocks_of pieces ≡ blocks) where
  pub among_from : ((n : ℕ) → AnyHas pieces n → AnyHas runs n) → AreAmong blocks free
  among_from h n b = to_blocks runs free is n (h n (to_runs pieces blocks are n b))

  pub among_to : AreAmong blocks free → (n : ℕ) → AnyHas pieces n → AnyHas runs n
  among_to h n b = to_runs runs free is n (h n (to_blocks pieces blocks are n b))

  pub apart_to : ShareNoBlock blocks free → (n : ℕ) → AnyHas pieces n → AnyHas runs n → ⊥
  apart_to h n b f = h n (to_blocks pieces blocks are n b) (to_blocks runs free is n f)

  pub loses_from : (new : List Span) → ((n : ℕ) → AnyHas new n ↔ (AnyHas runs n × (AnyHas pieces n → ⊥))) → Loses free (blocks_of new) blocks
  loses_from new h n = (
    λ a. let x = (h n).0 (has_contained new n a) in (to_blocks runs free is n x.0, λ b. x.1 (to_runs pieces blocks are n b)),
    λ a. contains_had new n ((h n).1 (to_runs runs free is n a.0, λ b. a.1 (to_blocks pieces blocks are n b))),
  )

  pub gains_from : (new : List Span) → ((n : ℕ) → AnyHas new n ↔ (AnyHas runs n ⊎ AnyHas pieces n)) → Gains free (blocks_of new) blocks
  gains_from new h n = (
    λ a. ⊎_elim (λ x. inl (to_blocks runs free is n x)) (λ y. inr (to_blocks pieces blocks are n y)) ((h n).0 (has_contained new n a)),
    λ a. contains_had new n ((h n).1 (⊎_elim (λ x. inl (to_runs runs free is n x)) (λ y. inr (to_runs pieces blocks are n y)) a)),
  )
