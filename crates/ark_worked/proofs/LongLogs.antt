-- A worked script on a log of many blocks: an entry of no byte, the longest of one block, and the shortest of two.
use Rattle.std.proofs.Common.{◌≡◌, ℕ, true, List, [], ◌∷◌, ◌++◌, codes, refl}
use Rattle.std.specs.Fmt.{digits}
use Rattle.hex.specs.Hex.{encode_with}
use Rattle.ark_base.specs.declared.kind.Kind.TheVariants as kind
use Rattle.ark_entry.specs.Entry.{entry_bytes, marked}
use Rattle.ark_script.specs.Line as w
use Rattle.ark_machine.specs.Row.{answer}
use Rattle.ark_machine.specs.Step.{step}
use Rattle.ark_machine.specs.System.{fresh_system}
use Rattle.ark_worked.proofs.Playing.{Played, replies, performed}
use Rattle.ark_worked.proofs.Scripts.{quiet, appending}
use Rattle.ark_worked.proofs.Logs.{with_log, opened, zeros, appending_two}
use Rattle.ark_worked.proofs.Labels.{a, l}

abbrev empty_entry : List ℕ
empty_entry = entry_bytes 1 1 []

abbrev full_entry : List ℕ
full_entry = entry_bytes 2 2 (zeros 484)

abbrev appended : List Played
appended =
    with_log kind.Log 70 ++ opened
    ++ quiet (w.append a l []) ∷ (w.settle a l, appending 130 empty_entry (marked empty_entry))
    ∷ quiet (w.append a l (zeros 484)) ∷ (w.settle a l, appending 131 full_entry (marked full_entry))
    ∷ quiet (w.append a l (zeros 485)) ∷ (w.settle a l, appending_two 132 133 3 4 (zeros 485))
    ∷ []

pub appended-replies : replies (fresh_system 400) appended
    ≡ codes "ok" ∷ codes "ok" ∷ codes "ok" ∷ codes "ok 1 0"
    ∷ codes "ok 1" ∷ codes "acked append 1"
    ∷ codes "ok 2" ∷ codes "acked append 2"
    ∷ codes "ok 3" ∷ codes "acked append 3"
    ∷ []
unfolding step answer encode_with digits
appended-replies = refl

pub appended-performed : performed (fresh_system 400) appended ≡ true
unfolding step answer
appended-performed = refl
