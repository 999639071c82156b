-- A run on a new device, from the bytes of its script: which lines are refused at sight, and with which of the refusals that hold.
use Rattle.std.specs.Fmt.{digits}
use Rattle.std.specs.Str.Parse.{AllDigits}
use Rattle.std.proofs.Common.{◌≡◌, ℕ, ◌<◌, ◌^◌, true, List, [], ◌∷◌, ◌++◌, map, codes, refl, sym, subst, lit≤, arith, Ok, Err}
use Rattle.std.proofs.lemmas.Bool.{false≢true}
use Rattle.std.proofs.lemmas.Fmt.{decimal_is_IsNumeral}
use Rattle.std.proofs.lemmas.Str.Parse.{digit_from_value}
use Rattle.std.specs.Prelude.{None, decimal, bytes_eq}
use Rattle.ark_base.specs.declared.refusal.Refusal.TheVariants as r
use Rattle.ark_base.specs.declared.status.Status.TheVariants.{Done}
use Rattle.ark_media.specs.Journal.{Event, Out, fresh, onto, output_of}
use Rattle.ark_media.specs.Parts.{joined}
use Rattle.ark_script.specs.Line as w
use Rattle.ark_script.specs.Lines.{Meaning, Says, EachSays, lines_of}
use Rattle.ark_script.specs.Line.{Line}
use Rattle.ark_script.specs.Form.{AreArguments, IsForm, word_of, IsPlace}
use Rattle.ark_reading.specs.Meant.{meaning_of}
use Rattle.ark_forms.specs.Reading.{one_of, two_of, name_of}
use Rattle.ark_reading.specs.Sentence.{one_read, two_read}
use Rattle.ark_reading.specs.Shape.{read_bare_app, read_sized_app, read_app}
use Rattle.ark_reading.specs.Word.{word_at}
use Rattle.ark_script.specs.Words.{IsKnown, words_of}
use Rattle.ark_reading.proofs.Grammar.{says}
use Rattle.ark_machine.specs.Row.{answer}
use Rattle.ark_machine.specs.Step.{step}
use Rattle.ark_machine.specs.System.{fresh_system}
use Rattle.ark_machine.specs.Follow.{ended}
use Rattle.ark_machine.specs.Replies.{Replies, system_after}
use Rattle.ark_laws.proofs.Confining.{confined_of}
use Rattle.ark_cli.specs.Running.{RecoversAtFronts}
use Rattle.ark_cli.specs.Ending.{Does, runs}
use Rattle.ark_cli.proofs.Stops.{no_slots, none_each, table_rests, open_fronts}
use Rattle.ark_machine.proofs.Fronts.{recovers_of}
use Rattle.ark_worked_runs.proofs.WorkedRuns.{here, line, told_first, beside_first, told_of, beside_of, closed_run, run_words, is_run, opened, opened_table, is_opening, is_whole}

abbrev script : List ℕ
script =
    line [] ++ line (codes "frob") ++ line (codes "app") ++ line (codes "app A") ++ line (codes "peek a s 0") ++ line (codes "app a") ++ line (codes "app a") ++ codes "tick 5"

abbrev lines : List (List ℕ)
lines = [] ∷ codes "frob" ∷ codes "app" ∷ codes "app A" ∷ codes "peek a s 0" ∷ codes "app a" ∷ codes "app a" ∷ codes "tick 5" ∷ []

lines_are : lines_of script ≡ lines
lines_are = refl

-- what each line means, by its bytes
none_unknown : IsKnown [] → ⊥
none_unknown h = false≢true h

frob_unknown : IsKnown (codes "frob") → ⊥
frob_unknown h = false≢true h

no_argument : meaning_of (words_of (codes "app")) ≡ Err r.Syntax
unfolding word_at read_app read_bare_app read_sized_app one_read two_read one_of two_of
no_argument = refl

no_name : meaning_of (words_of (codes "app A")) ≡ Err r.Syntax
unfolding word_at read_app read_bare_app read_sized_app one_read two_read one_of two_of name_of
no_name = refl

abbrev meanings : List Meaning
meanings =
    Err r.UnknownWord ∷ Err r.UnknownWord ∷ Err r.Syntax ∷ Err r.Syntax ∷ Ok (w.peek (codes "a") (codes "s") 0)
    ∷ Ok (w.app (codes "a") None) ∷ Ok (w.app (codes "a") None) ∷ Ok (w.tick 5) ∷ []

app_says : Says (codes "app a") (Ok (w.app (codes "a") None))
app_says = (lit≤ tt, (refl, (refl, refl)))

they_say : EachSays lines meanings
unfolding digits
they_say = (
  (lit≤ tt, none_unknown),
  (
    (lit≤ tt, frob_unknown),
    (
      subst (λ (m : Meaning). Says (codes "app") m) no_argument (says (codes "app") (lit≤ tt)),
      (
        subst (λ (m : Meaning). Says (codes "app A") m) no_name (says (codes "app A") (lit≤ tt)),
        (
          (lit≤ tt, (refl, ((refl, refl), (refl, refl), (refl, lit≤ tt, lit≤ tt)))),
          (
            app_says,
            (
              app_says,
              ((lit≤ tt, (refl, (refl, lit≤ tt, lit≤ tt))), tt),
            ),
          ),
        ),
      ),
    ),
  ),
)

abbrev texts : List (List ℕ)
texts =
    codes "refused 2 unknown word"
    ∷ codes "refused 2 unknown word"
    ∷ codes "refused 1 syntax"
    ∷ codes "refused 1 syntax"
    ∷ codes "refused 3 no application"
    ∷ codes "ok"
    ∷ codes "refused 4 name taken"
    ∷ codes "ok 5"
    ∷ []

-- each reply is a part of its own
abbrev whole : List (List Event)
whole = map (λ words. Out (line words) ∷ []) texts

abbrev events : List Event
events = opened ++ map (λ words. Out (line words)) texts

they_reply : Replies (fresh_system 200) (lines_of script) whole []
unfolding step answer digits
they_reply = record {
  meanings = meanings;
  say = they_say;
  each = (
    record { output = refl; calls = refl; memory = tt },
    (
      record { output = refl; calls = refl; memory = tt },
      (
        record { output = refl; calls = refl; memory = tt },
        (
          record { output = refl; calls = refl; memory = tt },
          (
            record { output = refl; calls = ended; memory = tt },
            (
              record { output = refl; calls = ended; memory = tt },
              (
                record { output = refl; calls = ended; memory = tt },
                (record { output = refl; calls = refl; memory = tt }, tt),
              ),
            ),
          ),
        ),
      ),
    ),
  );
  begins = refl;
}

-- no slot is held
they_recover : RecoversAtFronts here (lines_of script) events
unfolding step answer digits
they_recover =
    open_fronts here (fresh_system 200) refl opened (map (λ words. Out (line words)) texts) (lines_of script) is_whole tt
    (recovers_of (fresh 200).base (onto opened []) (fresh_system 200) (lines_of script) [] meanings [] whole [] they_say (refl, (refl, (refl, (refl, (refl, (refl, (refl, (refl, tt)))))))) tt
    (none_each (fresh 200).base (onto opened []) (fresh_system 200) meanings whole (refl, refl, (refl, refl, (refl, refl, (refl, refl, (refl, refl, (refl, refl, (refl, refl, (refl, refl, tt)))))))) opened_table)
    (no_slots (fresh 200).base (onto (joined whole) (onto opened [])) (system_after (fresh_system 200) meanings whole) None [] refl refl (table_rests (fresh 200).base (onto opened []) (joined whole) refl opened_table)))

script_run : Does run_words told_first (told_of events) (beside_first script) (beside_of script [] 0 0) Done
script_run = runs here (codes "d") is_run
    (closed_run Done events script [] 0 0 [] [] (refl, (refl, (refl, (refl, (refl, (refl, (refl, (refl, (refl, (refl, (refl, tt))))))))))) they_recover (fresh_system 200, refl, is_opening, they_reply, confined_of (fresh_system 200) (lines_of script) whole [] tt they_reply) refl refl (refl, refl) (λ e. refl) (λ e. cc) (lit≤ tt))

script_output : output_of events ≡
    line (codes "ready 200 0") ++ line (codes "refused 2 unknown word") ++ line (codes "refused 2 unknown word") ++ line (codes "refused 1 syntax")
    ++ line (codes "refused 1 syntax") ++ line (codes "refused 3 no application") ++ line (codes "ok") ++ line (codes "refused 4 name taken") ++ line (codes "ok 5")
script_output = refl

-- A place that is no number is told before an application that is not made, and an unknown word before any form.

no_numeral : (n : ℕ) → n < 2 ^ 64 → codes "x" ≡ decimal n → ⊥
no_numeral n few e =
    let digit = (subst (λ (ds : List ℕ). AllDigits 10 ds) (sym e) (decimal_is_IsNumeral n few).0.1).0 in
    absurd (omega (arith, digit_from_value 120 digit))

-- a line of this word
peek_line : (asked : Line) → bytes_eq (codes "peek") (word_of asked) ≡ true → (a : List ℕ) × (s : List ℕ) × (off : ℕ) × (asked ≡ w.peek a s off)
peek_line (w.peek a s off) e = (a, s, off, refl)
peek_line _ e = absurd (false≢true e)

-- and three words behind it has a place in the last one
peek_place : (asked : Line) (a s place : List ℕ) → codes "peek" ≡ word_of asked → AreArguments asked (a ∷ s ∷ place ∷ []) → (off : ℕ) × IsPlace off place
peek_place asked a s place e h =
    let line = peek_line asked (subst (λ (first : List ℕ). bytes_eq (codes "peek") first ≡ true) e refl) in
    (line.2, (subst (λ (x : Line). AreArguments x (a ∷ s ∷ place ∷ [])) line.3 h).2)

no_place : (asked : Line) → IsForm asked (codes "peek a s x") → ⊥
no_place asked h =
    let place = peek_place asked (codes "a") (codes "s") (codes "x") h.0 h.1 in
    no_numeral place.0 (omega (arith, place.1.2)) place.1.0

no_place_says : Says (codes "peek a s x") (Err r.Syntax)
no_place_says = (lit≤ tt, refl, no_place)

unknown_says : Says (codes "frob a") (Err r.UnknownWord)
unknown_says = (lit≤ tt, λ h. false≢true h)

abbrev syntax_then_unknown : List (List Event)
syntax_then_unknown = (Out (line (codes "refused 1 syntax")) ∷ []) ∷ (Out (line (codes "refused 2 unknown word")) ∷ []) ∷ []

first_refusals : Replies (fresh_system 200) (lines_of (line (codes "peek a s x") ++ codes "frob a")) syntax_then_unknown []
first_refusals = record {
  meanings = Err r.Syntax ∷ Err r.UnknownWord ∷ [];
  say = (no_place_says, (unknown_says, tt));
  each = (record { output = refl; calls = refl; memory = tt }, (record { output = refl; calls = refl; memory = tt }, tt));
  begins = refl;
}
