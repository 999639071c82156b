-- What a stop of a run leaves, in a worked script.
use Rattle.std.proofs.Common.{◌≡◌, inl, inr, ℕ, zero, suc, ◌<◌, true, List, [], ◌∷◌, ◌++◌, length, codes, refl, sym, subst, arith}
use Rattle.std.specs.Prelude.{Ok, Option, Some, None, Contains, slice_index_or}
use Rattle.ark_base.specs.declared.kind.Kind.TheVariants as kind
use Rattle.ark_media.specs.Journal.{Event, Write, Out, onto, current, block}
use Rattle.ark_media.specs.Stops.{MayLeave, Whole}
use Rattle.ark_media.proofs.Stopping.{now_may}
use Rattle.ark_table.specs.Superblock.{superblock}
use Rattle.ark_table.specs.Slots.{Slot, slots_of}
use Rattle.ark_script.specs.Line as w
use Rattle.ark_script.specs.Lines.{Meaning}
use Rattle.ark_machine.specs.Bytes.{padded}
use Rattle.ark_machine.specs.Row.{answer}
use Rattle.ark_machine.specs.Step.{step}
use Rattle.ark_machine.specs.Start.{start_system}
use Rattle.ark_machine.specs.System.{System}
use Rattle.ark_machine.specs.Replies.{system_after}
use Rattle.ark_machine.specs.Recovers.{Recovers, ContentStands, BlocksStand, block_choices}
use Rattle.ark_machine.specs.Stopped.{RunRecovers}
use Rattle.ark_worked.proofs.Scripts.{app, area, granting}
use Rattle.ark_worked.proofs.Images.{image_after}
use Rattle.ark_worked.proofs.Stops.{single}
use Rattle.ark_worked.proofs.Labels.{a, r}

-- A run on an area that is stored: a stop within the second of two pokes, neither of which is synced.

abbrev raw_slot : Slot
raw_slot = area 1 a r kind.Raw 129 2

abbrev stored : List (List ℕ)
stored = image_after 200 (app a ∷ (w.vsa a r 2 kind.Raw, granting raw_slot) ∷ [])

abbrev run_start : System
run_start = start_system stored (raw_slot ∷ [])

abbrev first_poke : List ℕ
first_poke = padded (1 ∷ [])

abbrev second_poke : List ℕ
second_poke = padded (2 ∷ [])

abbrev meanings : List Meaning
meanings = Ok (w.app a None) ∷ Ok (w.poke a r 0 (1 ∷ [])) ∷ Ok (w.poke a r 1 (2 ∷ [])) ∷ []

abbrev said_ok : Event
said_ok = Out (codes "ok" ++ 10 ∷ [])

abbrev parts : List (List Event)
parts = (said_ok ∷ []) ∷ (Write 129 first_poke true true ∷ said_ok ∷ []) ∷ []

abbrev unfinished : List Event
unfinished = Write 130 second_poke true true ∷ []

abbrev after_parts : System
after_parts = system_after run_start meanings parts

abbrev run_journal : List Event
run_journal = onto (Write 129 first_poke true true ∷ unfinished) []

some_is : (m n : ℕ) → ◌≡◌ {A = Option ℕ} (Some m) (Some n) → m ≡ n
some_is m n h = cc

-- both of the area's blocks hold what they may
blocks_stand : (s : System) (rest : List Event) (image : List (List ℕ)) → Contains (block_choices s None rest raw_slot 0 129) (block image 129) → Contains (block_choices s None rest raw_slot 1 130) (block image 130)
    → BlocksStand s None rest image raw_slot
blocks_stand s rest image first second zero n h = subst (λ z. Contains (block_choices s None rest raw_slot 0 z) (block image z)) (some_is 129 n h) first
blocks_stand s rest image first second (suc zero) n h = subst (λ z. Contains (block_choices s None rest raw_slot 1 z) (block image z)) (some_is 130 n h) second
blocks_stand s rest image first second (suc (suc k)) n h = absurd cc

recovers_raw : (s : System) (rest : List Event) (image : List (List ℕ)) → s.plane.slots ≡ raw_slot ∷ [] → slots_of image ≡ Ok (raw_slot ∷ []) → BlocksStand s None rest image raw_slot → Recovers s None rest image
recovers_raw s rest image held read there = record {
  slots = raw_slot ∷ [];
  readable = read;
  held = λ u h. inl (u, subst (λ ts. Contains ts u) held h, inl (inl refl));
  others = λ u h. inl (0, raw_slot, subst (λ ts. 0 < length ts) (sym held) (omega arith), subst (λ ts. slice_index_or ts 0 raw_slot ≡ raw_slot) (sym held) refl, inl (inl (single raw_slot u h)));
  contents = λ u h. subst (λ x. ContentStands s None rest image x x.kind) (sym (single raw_slot u h)) there;
}

-- neither poke stands
pub may_lose_both : MayLeave Whole stored run_journal stored
unfolding superblock
may_lose_both = record { size = refl; each = λ n lt. inr (inr refl) }

pub run_recovers-neither : RunRecovers run_start meanings parts unfinished stored
unfolding step answer superblock
run_recovers-neither = record { recovers = recovers_raw after_parts unfinished stored refl refl (blocks_stand after_parts unfinished stored (0, omega arith, refl) (0, omega arith, refl)) }

-- both stand
abbrev both_stand : List (List ℕ)
both_stand = current stored run_journal

pub may_keep_both : MayLeave Whole stored run_journal both_stand
unfolding superblock
may_keep_both = record { size = refl; each = λ n lt. now_may Whole (λ c. refl) stored run_journal n lt }

pub run_recovers-both : RunRecovers run_start meanings parts unfinished both_stand
unfolding step answer superblock
run_recovers-both = record { recovers = recovers_raw after_parts unfinished both_stand refl refl (blocks_stand after_parts unfinished both_stand (1, omega arith, refl) (1, omega arith, refl)) }
