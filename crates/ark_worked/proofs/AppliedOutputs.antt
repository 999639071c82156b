-- Two runs that differ in another application's lines, and what they put out for one.
use Rattle.std.proofs.Common.{◌≡◌, ℕ, true, List, [], ◌∷◌, ◌++◌, replicate, codes, refl}
use Rattle.std.specs.Fmt.{digits}
use Rattle.std.specs.Prelude.{Ok, None}
use Rattle.hex.specs.Hex.{encode_with}
use Rattle.ark_base.specs.declared.kind.Kind.TheVariants as kind
use Rattle.ark_media.specs.Journal.{Event, Read, Write, Out, zero_block}
use Rattle.ark_table.specs.Slots.{Slot}
use Rattle.ark_script.specs.Line as w
use Rattle.ark_script.specs.Lines.{Meaning}
use Rattle.ark_machine.specs.Bytes.{padded}
use Rattle.ark_machine.specs.Row.{answer}
use Rattle.ark_machine.specs.Step.{step}
use Rattle.ark_machine.specs.System.{fresh_system}
use Rattle.ark_machine.specs.Follow.{ended, goes_on}
use Rattle.ark_machine.specs.Replies.{EachAnswers}
use Rattle.ark_machine.specs.Start.{start_system}
use Rattle.ark_machine.specs.Told.{outputs_to}
use Rattle.ark_worked.proofs.Scripts.{area, granting}
use Rattle.ark_laws.proofs.Told.{outputs_alike, start_outputs_alike}
use Rattle.ark_worked.proofs.Labels.{a, b, s, t}

abbrev line : List ℕ → List ℕ
line words = words ++ 10 ∷ []

abbrev says : List Event → List ℕ → List Event
says es words = es ++ (Out (line words) ∷ [])

abbrev ok : List Event
ok = says [] (codes "ok")

abbrev content : List ℕ
content = padded (10 ∷ 255 ∷ [])

abbrev alone : List Meaning
alone = Ok (w.app a None) ∷ Ok (w.vsa a s 2 kind.Raw) ∷ Ok (w.poke a s 1 (10 ∷ 255 ∷ [])) ∷ Ok (w.peek a s 1) ∷ []

abbrev alone_parts : List (List Event)
alone_parts = ok ∷ says (granting (area 1 a s kind.Raw 129 2)) (codes "ok") ∷ says (Write 130 content true true ∷ []) (codes "ok") ∷ says (Read 130 true ∷ []) (codes "ok 0aff") ∷ []

pub alone-answered : EachAnswers (fresh_system 200) alone alone_parts
unfolding step answer encode_with digits
alone-answered = (
  record { output = refl; calls = ended; memory = tt },
  (
    record { output = refl; calls = goes_on (refl, refl, λ well. refl) refl refl (goes_on (refl, refl, λ well. refl) refl refl (goes_on tt refl refl (goes_on (refl, refl, λ well. refl) refl refl (goes_on tt refl refl ended)))); memory = tt },
    (record { output = refl; calls = goes_on (refl, refl, λ well. refl) refl refl ended; memory = tt }, (record { output = refl; calls = goes_on refl refl refl ended; memory = tt }, tt)),
  ),
)

-- the other application takes the first blocks, and reads where the first one writes
abbrev together : List Meaning
together =
    Ok (w.app b None) ∷ Ok (w.app a None) ∷ Ok (w.vsa b t 3 kind.Raw) ∷ Ok (w.vsa a s 2 kind.Raw) ∷ Ok (w.poke a s 1 (10 ∷ 255 ∷ [])) ∷ Ok (w.peek b t 1) ∷ Ok (w.peek a s 1) ∷ []

abbrev together_parts : List (List Event)
together_parts =
    ok ∷ ok ∷ says (granting (area 1 b t kind.Raw 129 3)) (codes "ok") ∷ says (granting (area 2 a s kind.Raw 132 2)) (codes "ok")
    ∷ says (Write 133 content true true ∷ []) (codes "ok") ∷ says (Read 130 true ∷ []) (codes "ok -") ∷ says (Read 133 true ∷ []) (codes "ok 0aff") ∷ []

pub together-answered : EachAnswers (fresh_system 200) together together_parts
unfolding step answer encode_with digits
together-answered = (
  record { output = refl; calls = ended; memory = tt },
  (
    record { output = refl; calls = ended; memory = tt },
    (
      record { output = refl; calls = goes_on (refl, refl, λ well. refl) refl refl (goes_on (refl, refl, λ well. refl) refl refl (goes_on (refl, refl, λ well. refl) refl refl (goes_on tt refl refl (goes_on (refl, refl, λ well. refl) refl refl (goes_on tt refl refl ended))))); memory = tt },
      (
        record { output = refl; calls = goes_on (refl, refl, λ well. refl) refl refl (goes_on (refl, refl, λ well. refl) refl refl (goes_on tt refl refl (goes_on (refl, refl, λ well. refl) refl refl (goes_on tt refl refl ended)))); memory = tt },
        (
          record { output = refl; calls = goes_on (refl, refl, λ well. refl) refl refl ended; memory = tt },
          (record { output = refl; calls = goes_on refl refl refl ended; memory = tt }, (record { output = refl; calls = goes_on refl refl refl ended; memory = tt }, tt)),
        ),
      ),
    ),
  ),
)

pub alike : outputs_to a (fresh_system 200) alone alone_parts ≡ outputs_to a (fresh_system 200) together together_parts
unfolding step answer
alike = outputs_alike a (fresh_system 200) (fresh_system 200) alone together alone_parts together_parts alone-answered together-answered refl refl

pub shown : outputs_to a (fresh_system 200) together together_parts ≡ line (codes "ok") ∷ line (codes "ok") ∷ line (codes "ok") ∷ line (codes "ok 0aff") ∷ []
unfolding step answer
shown = refl

-- The same from images whose slots hold the same for an application, at other blocks.

abbrev image : List (List ℕ)
image = replicate 200 zero_block

abbrev own_slot : List Slot
own_slot = area 1 a s kind.Raw 129 2 ∷ []

abbrev both_slots : List Slot
both_slots = area 1 b t kind.Raw 129 2 ∷ area 2 a s kind.Raw 131 2 ∷ []

abbrev looks : List Meaning
looks = Ok (w.app a None) ∷ Ok (w.peek a s 1) ∷ []

abbrev looks_parts : List (List Event)
looks_parts = ok ∷ says (Read 130 true ∷ []) (codes "ok -") ∷ []

pub looks-answered : EachAnswers (start_system image own_slot) looks looks_parts
unfolding step answer encode_with digits
looks-answered = (record { output = refl; calls = ended; memory = tt }, (record { output = refl; calls = goes_on refl refl refl ended; memory = tt }, tt))

abbrev both_look : List Meaning
both_look = Ok (w.app b None) ∷ Ok (w.app a None) ∷ Ok (w.peek a s 1) ∷ []

abbrev both_parts : List (List Event)
both_parts = ok ∷ ok ∷ says (Read 132 true ∷ []) (codes "ok -") ∷ []

pub both_look-answered : EachAnswers (start_system image both_slots) both_look both_parts
unfolding step answer encode_with digits
both_look-answered = (
  record { output = refl; calls = ended; memory = tt },
  (record { output = refl; calls = ended; memory = tt }, (record { output = refl; calls = goes_on refl refl refl ended; memory = tt }, tt)),
)

pub looks-alike : outputs_to a (start_system image own_slot) looks looks_parts ≡ outputs_to a (start_system image both_slots) both_look both_parts
unfolding step answer
looks-alike = start_outputs_alike image image own_slot both_slots a looks both_look looks_parts both_parts looks-answered both_look-answered refl refl
