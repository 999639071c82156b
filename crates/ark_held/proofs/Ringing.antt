-- A move that ends no descriptor rings at no door.
use Rattle.std.proofs.Common.{◌≡◌, ℕ, refl}
use Rattle.std.specs.Prelude.{Option}
use Rattle.ark_base.specs.declared.kind.Outcome.{Outcome}
use Rattle.ark_vic.specs.declared.door.Counts.{Counts}
use Rattle.ark_vsic.specs.declared.due.Moved.{Moved}
use Rattle.ark_vsic.specs.declared.due.Moved.TheVariants as moved
use Rattle.ark_held.specs.Ringing.{RingsAt}

pub no_ring : (a : Moved) (door : Option ℕ) (doors : ℕ → Option Counts) → ((o : Outcome) → a ≡ moved.Done o → ⊥) → RingsAt a door doors doors
no_ring (moved.Done o) door doors not = absurd (not o refl)
no_ring moved.Idle door doors not = refl
no_ring moved.Held door doors not = refl
no_ring moved.Block door doors not = refl
