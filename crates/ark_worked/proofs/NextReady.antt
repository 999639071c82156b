-- What the first line of the next run says of the images that a failed grant may leave, and of a wrapped log.
use Rattle.std.proofs.Common.{◌≡◌, ℕ, List, [], ◌∷◌, length, codes, refl}
use Rattle.std.specs.Fmt.{digits}
use Rattle.std.specs.Prelude.{Ok, take}
use Rattle.ark_base.specs.declared.kind.Kind.TheVariants as kind
use Rattle.ark_table.specs.Superblock.{superblock}
use Rattle.ark_table.specs.Slots.{slots_of}
use Rattle.ark_entry.specs.Found.{found, found_of}
use Rattle.ark_script.specs.Text.{reply_words}
use Rattle.ark_script.specs.declared.said.Said.TheVariants as said
use Rattle.ark_machine.specs.Plane.{Plane}
use Rattle.ark_machine.specs.Start.{contents_at, start_system}
use Rattle.ark_worked.proofs.Scripts.{area}
use Rattle.ark_worked.proofs.Logs.{wrapped, other}
use Rattle.ark_worked.proofs.Images.{image_after}
use Rattle.ark_worked.proofs.FailedGrant.{slot, with_slot, without_slot}

-- the number of the device's blocks, and of the slots in its table
abbrev ready : Plane → List ℕ
ready p = reply_words (said.Ready p.size (length p.slots)) []

pub with_slot-slots : slots_of with_slot ≡ Ok (slot ∷ [])
unfolding superblock
with_slot-slots = refl

pub with_slot-ready : ready (start_system with_slot (slot ∷ [])).plane ≡ codes "ready 200 1"
unfolding superblock digits
with_slot-ready = refl

pub without_slot-slots : slots_of without_slot ≡ Ok []
unfolding superblock
without_slot-slots = refl

pub without_slot-ready : ready (start_system without_slot []).plane ≡ codes "ready 200 0"
unfolding superblock digits
without_slot-ready = refl

-- an entry whose blocks are the ring's last and its first is found whole
abbrev wrapped_image : List (List ℕ)
wrapped_image = image_after 200 (take 10 wrapped)

pub wrapped-found : found_of kind.Log (contents_at wrapped_image (area 1 (codes "a") (codes "l") kind.Log 129 4).blocks) ≡ found (record { first = 2; payloads = other ∷ [] })
unfolding superblock
wrapped-found = refl
