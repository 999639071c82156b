-- What stops leave where the last sync of a grant failed.
use Rattle.std.proofs.Common.{◌≡◌, inl, inr, ℕ, zero, suc, List, [], ◌∷◌, replicate, refl, sym, subst, arith}
use Rattle.std.specs.Prelude.{Option, Some, None, Contains}
use Rattle.ark_base.specs.declared.kind.Kind.TheVariants as kind
use Rattle.ark_media.specs.Journal.{Event, onto, current, block, zero_block}
use Rattle.ark_media.specs.Stops.{MayLeave, Whole}
use Rattle.ark_media.proofs.Stopping.{now_may}
use Rattle.ark_table.specs.Superblock.{superblock}
use Rattle.ark_table.specs.Slots.{Slot}
use Rattle.ark_script.specs.Line as w
use Rattle.ark_machine.specs.Row.{answer}
use Rattle.ark_machine.specs.Step.{step}
use Rattle.ark_machine.specs.System.{System, fresh_system}
use Rattle.ark_machine.specs.Recovers.{Recovers, ContentStands, BlocksStand, block_choices}
use Rattle.ark_worked.proofs.Playing.{Played, played}
use Rattle.ark_worked.proofs.Scripts.{app, area, zeroed}
use Rattle.ark_worked.proofs.Areas.{failed_grant}
use Rattle.ark_worked.proofs.Images.{history}
use Rattle.ark_worked.proofs.Stops.{single}
use Rattle.ark_worked.proofs.Labels.{a, s}

abbrev base : List (List ℕ)
base = replicate 200 zero_block

abbrev granted : List Played
granted = app a ∷ (w.vsa a s 2 kind.Raw, failed_grant) ∷ []

abbrev after : System
after = played (fresh_system 200) granted

abbrev pub slot : Slot
slot = area 1 a s kind.Raw 129 2

abbrev journal : List Event
journal = onto (history 200 granted) []

-- the slot stands, or it does not
abbrev pub with_slot : List (List ℕ)
with_slot = current base journal

abbrev zeroed_alone : List Played
zeroed_alone = app a ∷ (w.vsa a s 2 kind.Raw, zeroed (129 ∷ 130 ∷ [])) ∷ []

abbrev pub without_slot : List (List ℕ)
without_slot = current base (onto (history 200 zeroed_alone) [])

pub may_be_with : MayLeave Whole base journal with_slot
unfolding superblock
may_be_with = record { size = refl; each = λ n lt. now_may Whole (λ c. refl) base journal n lt }

pub may_be_without : MayLeave Whole base journal without_slot
unfolding superblock
may_be_without = record { size = refl; each = λ n lt. inr refl }

-- both are images from which the run's grants are recovered
blocks_zero : BlocksStand after None [] with_slot slot
unfolding step answer superblock
blocks_zero zero n h = subst (λ k. Contains (block_choices after None [] slot 0 k) (block with_slot k)) (some h) (0, omega arith, refl)
  where
    some : ◌≡◌ {A = Option ℕ} (Some 129) (Some n) → 129 ≡ n
    some e = cc
blocks_zero (suc zero) n h = subst (λ k. Contains (block_choices after None [] slot 1 k) (block with_slot k)) (some h) (0, omega arith, refl)
  where
    some : ◌≡◌ {A = Option ℕ} (Some 130) (Some n) → 130 ≡ n
    some e = cc
blocks_zero (suc (suc k)) n h = cc

pub recovers_with : Recovers after None [] with_slot
unfolding step answer superblock
recovers_with = record {
  slots = slot ∷ [];
  readable = refl;
  held = λ t h. absurd (none t h);
  others = λ t h. inr (inr (inl (sym (single slot t h))));
  contents = λ t h. subst (λ x. ContentStands after None [] with_slot x x.kind) (sym (single slot t h)) blocks_zero;
}
  where
    none : (t : Slot) → Contains {X = Slot} [] t → ⊥
    none t h = absurd (omega (arith, h.1))

pub recovers_without : Recovers after None [] without_slot
unfolding step answer superblock
recovers_without = record {
  slots = [];
  readable = refl;
  held = λ t h. absurd (none t h);
  others = λ t h. absurd (none t h);
  contents = λ t h. absurd (none t h);
}
  where
    none : (t : Slot) → Contains {X = Slot} [] t → ⊥
    none t h = absurd (omega (arith, h.1))
