-- What a run starts from on the image that an earlier one left.
use Rattle.std.proofs.Common.{◌≡◌, ℕ, true, List, [], ◌∷◌, replicate, codes, refl}
use Rattle.std.specs.Fmt.{digits}
use Rattle.std.specs.List.{flat_map}
use Rattle.std.specs.Prelude.{Ok}
use Rattle.hex.specs.Hex.{encode_with}
use Rattle.ark_base.specs.declared.kind.Kind.TheVariants as kind
use Rattle.ark_media.specs.Journal.{Event, Write, Sync, onto, current, zero_block}
use Rattle.ark_table.specs.Superblock.{superblock}
use Rattle.ark_table.specs.Slots.{Slot, slots_of}
use Rattle.ark_entry.specs.Header.{header_bytes}
use Rattle.ark_script.specs.Line as w
use Rattle.ark_machine.specs.Row.{answer}
use Rattle.ark_machine.specs.Step.{step}
use Rattle.ark_machine.specs.Start.{start_system}
use Rattle.ark_worked.proofs.Playing.{Played, replies, performed}
use Rattle.ark_worked.proofs.Scripts.{quiet, app, area, opening}
use Rattle.ark_worked.proofs.Logs.{pushed_and_popped}
use Rattle.ark_worked.proofs.Areas.{table_failed}
use Rattle.ark_worked.proofs.Labels.{a, q, v}

-- a new device of so many blocks, and all that was done to it
abbrev pub history : ℕ → List Played → List Event
history n script = Write 0 (superblock n) true true ∷ Sync true ∷ flat_map (λ p. p.1) script

-- the image that stands after a run on a new device
abbrev pub image_after : ℕ → List Played → List (List ℕ)
image_after n script = current (replicate n zero_block) (onto (history n script) [])

abbrev queue_slot : Slot
queue_slot = area 1 a q kind.Queue 129 8

-- a queue's popped entry is gone in the next run
pub queue_image-slots : slots_of (image_after 200 pushed_and_popped) ≡ Ok (queue_slot ∷ [])
unfolding superblock
queue_image-slots = refl

abbrev next_run : List Played
next_run = app a ∷ quiet (w.vsic a v 2) ∷ (w.queue a q v, opening 129 (header_bytes kind.Queue 2 1 0 1)) ∷ []

pub next_run-replies : replies (start_system (image_after 200 pushed_and_popped) (queue_slot ∷ [])) next_run ≡ codes "ok" ∷ codes "ok" ∷ codes "ok 2 0" ∷ []
unfolding step answer superblock encode_with digits
next_run-replies = refl

pub next_run-performed : performed (start_system (image_after 200 pushed_and_popped) (queue_slot ∷ [])) next_run ≡ true
unfolding step answer superblock
next_run-performed = refl

-- where the last sync of a grant failed, its slot stands on the device all the same
pub failed_grant-slots : slots_of (image_after 200 table_failed) ≡ Ok (area 1 a (codes "s") kind.Raw 129 2 ∷ [])
unfolding superblock
failed_grant-slots = refl
