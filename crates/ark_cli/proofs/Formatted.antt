-- A new device that was formatted has the table of no slot.
use Rattle.std.proofs.Common.{◌≡◌, ℕ, ◌≤◌, true, List, [], ◌∷◌, ◌++◌, length, refl, sym, subst}
use Rattle.std.proofs.lemmas.List.{length-replicate}
use Rattle.ark_media.specs.Journal.{Event, Out, History, fresh, zero_block}
use Rattle.ark_media.specs.Calls.{Makes}
use Rattle.ark_table.specs.Superblock.{format_calls}
use Rattle.ark_table.specs.Standing.{IsTableOf}
use Rattle.ark_table.proofs.Standing as tables
use Rattle.ark_script.specs.Text.{text}
use Rattle.ark_script.specs.declared.said.Said.TheVariants.{Ready}
use Rattle.ark_media.specs.Standing.{after}
use Rattle.ark_plane.specs.Tables.{table_of}
use Rattle.ark_host.proofs.Staying.{outputs_spare}
use Rattle.ark_host.proofs.Stood.{after_append}

-- the base has the blocks that were asked for
pub fresh_based : (size : ℕ) → length (fresh size).base ≡ size
fresh_based size = length-replicate size zero_block

-- what its history is then
abbrev pub formatted : (size : ℕ) → List Event → History
formatted size events = after (fresh size) (events ++ Out (text (Ready size 0) []) ∷ [])

-- no slot is in use, whatever a stop leaves
pub ready_table : (size : ℕ) (events : List Event) → 130 ≤ size → size ≤ 1048576 → Makes (format_calls size) true events → IsTableOf (formatted size events) (table_of [])
ready_table size events low high calls =
    let put : List Event = Out (text (Ready size 0) []) ∷ [] in
    subst (λ (h : History). IsTableOf h (table_of [])) (sym (after_append (fresh size) events put))
    (tables.stays (after (fresh size) events) (table_of []) put (tables.formatted size events low high calls) (outputs_spare [] put refl))
