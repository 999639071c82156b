-- Worked scripts on areas of blocks, evaluated.
use Rattle.std.proofs.Common.{◌≡◌, ℕ, true, false, ◌+◌, ◌*◌, ◌/◌, ◌%◌, List, [], ◌∷◌, ◌++◌, map, replicate, codes, refl}
use Rattle.std.specs.Fmt.{digits}
use Rattle.std.specs.List.{range_with_len}
use Rattle.hex.specs.Hex.{encode_with}
use Rattle.ark_base.specs.declared.kind.Kind.TheVariants as kind
use Rattle.ark_media.specs.Journal.{Event, Read, Write, Sync}
use Rattle.ark_table.specs.Slots.{Slot, slot_bytes}
use Rattle.ark_script.specs.Line as w
use Rattle.ark_machine.specs.Bytes.{padded}
use Rattle.ark_machine.specs.Row.{answer}
use Rattle.ark_machine.specs.Step.{step}
use Rattle.ark_machine.specs.System.{fresh_system}
use Rattle.ark_worked.proofs.Playing.{Played, replies, performed}
use Rattle.ark_worked.proofs.Scripts.{quiet, app, area, granting, dropping, zeroed}
use Rattle.ark_worked.proofs.Labels.{a, b, s, t, e, x}

-- one application's blocks are its own
abbrev own_blocks : List Played
own_blocks =
    app a
    ∷ (w.vsa a s 2 kind.Raw, granting (area 1 a s kind.Raw 129 2))
    ∷ (w.poke a s 1 (10 ∷ 255 ∷ []), Write 130 (padded (10 ∷ 255 ∷ [])) true true ∷ [])
    ∷ (w.peek a s 1, Read 130 true ∷ [])
    ∷ (w.peek a s 0, Read 129 true ∷ [])
    ∷ quiet (w.peek a s 2)
    ∷ app b
    ∷ quiet (w.peek b s 0)
    ∷ []

pub own_blocks-replies : replies (fresh_system 200) own_blocks
    ≡ codes "ok" ∷ codes "ok" ∷ codes "ok" ∷ codes "ok 0aff" ∷ codes "ok -" ∷ codes "refused 9 out of range" ∷ codes "ok" ∷ codes "refused 5 no grant s" ∷ []
unfolding step answer encode_with digits
own_blocks-replies = refl

pub own_blocks-performed : performed (fresh_system 200) own_blocks ≡ true
unfolding step answer
own_blocks-performed = refl

-- the smallest device has one block of data
abbrev smallest : List Played
smallest = app a ∷ (w.vsa a s 1 kind.Raw, granting (area 1 a s kind.Raw 129 1)) ∷ quiet (w.vsa a t 1 kind.Raw) ∷ []

pub smallest-replies : replies (fresh_system 130) smallest ≡ codes "ok" ∷ codes "ok" ∷ codes "refused 10 no space" ∷ []
unfolding step answer encode_with digits
smallest-replies = refl

pub smallest-performed : performed (fresh_system 130) smallest ≡ true
unfolding step answer
smallest-performed = refl

-- one application has all blocks of data
abbrev all_taken : List Played
all_taken = app a ∷ (w.vsa a s 71 kind.Raw, granting (area 1 a s kind.Raw 129 71)) ∷ app b ∷ quiet (w.vsa b t 1 kind.Raw) ∷ []

pub all_taken-replies : replies (fresh_system 200) all_taken ≡ codes "ok" ∷ codes "ok" ∷ codes "ok" ∷ codes "refused 10 no space" ∷ []
unfolding step answer encode_with digits
all_taken-replies = refl

pub all_taken-performed : performed (fresh_system 200) all_taken ≡ true
unfolding step answer
all_taken-performed = refl

-- Five applications take all 34 blocks one by one, and every second area is dropped: seventeen single blocks are free.

abbrev owner : ℕ → List ℕ
owner k = (97 + k / 8) ∷ []

abbrev label : ℕ → List ℕ
label k = 115 ∷ (49 + k % 8) ∷ []

abbrev takes : ℕ → Played
takes k = (w.vsa (owner k) (label k) 1 kind.Raw, granting (area (k + 1) (owner k) (label k) kind.Raw (129 + k) 1))

abbrev drops : ℕ → Played
drops k = (w.drop (owner (2 * k + 1)) (label (2 * k + 1)), dropping (2 * k + 2))

-- sixteen single blocks
abbrev singles : Slot
singles = record { index = 2; app = e; label = x; kind = kind.Raw; blocks = map (λ k. 130 + 2 * k) (range_with_len 0 16) }

abbrev scattered : List Played
scattered =
    map (λ k. app (owner (8 * k))) (range_with_len 0 5)
    ++ (map (λ k. takes k) (range_with_len 0 34)
    ++ (map (λ k. drops k) (range_with_len 0 17)
    ++ (quiet (w.vsa e x 17 kind.Raw) ∷ (w.vsa e x 16 kind.Raw, granting singles) ∷ [])))

pub scattered-replies : replies (fresh_system 163) scattered ≡ replicate 56 (codes "ok") ++ (codes "refused 11 scattered" ∷ codes "ok" ∷ [])
unfolding step answer encode_with digits
scattered-replies = refl

pub scattered-performed : performed (fresh_system 163) scattered ≡ true
unfolding step answer
scattered-performed = refl

-- the last sync of a grant fails: nothing is granted, and the table has failed
abbrev pub failed_grant : List Event
failed_grant = zeroed (129 ∷ 130 ∷ []) ++ Sync true ∷ Write 1 (slot_bytes (area 1 a s kind.Raw 129 2)) true true ∷ Sync false ∷ []

abbrev pub table_failed : List Played
table_failed = app a ∷ (w.vsa a s 2 kind.Raw, failed_grant) ∷ quiet (w.peek a s 0) ∷ quiet (w.vsa a t 1 kind.Raw) ∷ []

pub table_failed-replies : replies (fresh_system 200) table_failed
    ≡ codes "ok" ∷ codes "refused 21 device fault" ∷ codes "refused 5 no grant s" ∷ codes "refused 22 table failed" ∷ []
unfolding step answer encode_with digits
table_failed-replies = refl

pub table_failed-performed : performed (fresh_system 200) table_failed ≡ true
unfolding step answer
table_failed-performed = refl
