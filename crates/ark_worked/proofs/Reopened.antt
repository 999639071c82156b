-- The runs after a stop in an append: the appended and the acknowledged script, and the openings on what the stop left.
use Rattle.std.proofs.Common.{◌≡◌, true, List, [], ◌∷◌, codes, refl}
use Rattle.std.specs.Fmt.{digits}
use Rattle.ark_base.specs.declared.kind.Kind.TheVariants as kind
use Rattle.ark_media.specs.Journal.{Event, Read, Write, Sync, zero_block}
use Rattle.ark_table.specs.Superblock.{superblock}
use Rattle.ark_script.specs.Line as w
use Rattle.ark_machine.specs.Row.{answer}
use Rattle.ark_machine.specs.Step.{step}
use Rattle.ark_machine.specs.Start.{start_system}
use Rattle.ark_machine.specs.System.{System, fresh_system}
use Rattle.ark_worked.proofs.Playing.{Played, replies, performed}
use Rattle.ark_worked.proofs.Scripts.{quiet, app, opening}
use Rattle.ark_worked.proofs.Logs.{header}
use Rattle.ark_worked.proofs.Stops.{appended, acknowledged, with_entry, without_entry, log_slot}
use Rattle.ark_worked.proofs.Labels.{a, l, v}

pub appended-replies : replies (fresh_system 200) appended ≡ codes "ok" ∷ codes "ok" ∷ codes "ok" ∷ codes "ok 1 0" ∷ codes "ok 1" ∷ []
unfolding step answer digits
appended-replies = refl

pub appended-performed : performed (fresh_system 200) appended ≡ true
unfolding step answer
appended-performed = refl

pub acknowledged-replies : replies (fresh_system 200) acknowledged ≡ codes "ok" ∷ codes "ok" ∷ codes "ok" ∷ codes "ok 1 0" ∷ codes "ok 1" ∷ codes "acked append 1" ∷ []
unfolding step answer digits
acknowledged-replies = refl

pub acknowledged-performed : performed (fresh_system 200) acknowledged ≡ true
unfolding step answer
acknowledged-performed = refl

-- The opening reads the header and the ring as far as entries stand there, and writes a header of what it found.
abbrev reopened : List Event → List Played
reopened es = app a ∷ quiet (w.vsic a v 2) ∷ (w.log a l v, es) ∷ []

abbrev started_with : System
started_with = start_system with_entry (log_slot ∷ [])

abbrev found_one : List Event
found_one = Read 129 true ∷ Read 130 true ∷ Read 131 true ∷ opening 129 (header kind.Log 1 0 1 1)

pub with_entry-replies : replies started_with (reopened found_one) ≡ codes "ok" ∷ codes "ok" ∷ codes "ok 1 1" ∷ []
unfolding step answer superblock digits
with_entry-replies = refl

pub with_entry-performed : performed started_with (reopened found_one) ≡ true
unfolding step answer superblock
with_entry-performed = refl

-- what is left of an entry that is not found is made zero before the header is written
abbrev started_without : System
started_without = start_system without_entry (log_slot ∷ [])

abbrev found_none : List Event
found_none = Read 129 true ∷ Read 130 true ∷ Sync true ∷ Write 130 zero_block true true ∷ Write 129 (header kind.Log 1 0 0 0) true true ∷ Sync true ∷ []

pub without_entry-replies : replies started_without (reopened found_none) ≡ codes "ok" ∷ codes "ok" ∷ codes "ok 1 0" ∷ []
unfolding step answer superblock digits
without_entry-replies = refl

pub without_entry-performed : performed started_without (reopened found_none) ≡ true
unfolding step answer superblock
without_entry-performed = refl
