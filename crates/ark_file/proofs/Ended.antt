-- How a run ended, read off what it does.
use Rattle.std.proofs.Common.{◌≡◌, ℕ, ◌+◌, Bool, true, false, List, [], ◌∷◌, ◌++◌, length, refl, sym, ◌∙◌, ap, subst, append-nil, inl, inr}
use Rattle.std.specs.Prelude.{Some}
use Rattle.ark_base.specs.declared.status.Status.{Status}
use Rattle.ark_base.specs.declared.status.Status.TheVariants.{Done, Usage, Source, Sink, Device, Memory, Damaged, Long}
use Rattle.ark_media.specs.Journal.{Event, History, onto, output_of}
use Rattle.ark_media.specs.Calls.{Opening, Script, Adds, Takes}
use Rattle.ark_media.specs.Parts.{parts}
use Rattle.ark_script.specs.Lines.{lines_of}
use Rattle.ark_cli.specs.Words.{IsRun}
use Rattle.ark_cli.specs.Checking.{IsReported, Shows}
use Rattle.ark_cli.specs.Working.{IsWorked}
use Rattle.ark_script.specs.Text.{text}
use Rattle.ark_script.specs.declared.said.Said.TheVariants.{Ready}
use Rattle.ark_cli.specs.Opening.{Start, old_device, asking, blocks_of, blocks_asked, HeedsDamage}
use Rattle.ark_cli.proofs.Openings.{slots_told}
use Rattle.ark_cli.specs.Ending as ending
use Rattle.ark_cli.specs.Running.{HasRun}
use Rattle.ark_cli.specs.Ending.{Does, Ends, Closes, IsQuiet, IsDeviceRefused, IsClosed}
use Rattle.ark_record.specs.Replay.{Model}
use Rattle.ark_record.specs.Watch.{told_if, told_of, beside_of}
use Rattle.ark_file.specs.Ended.{IsUnopened, EndsBy, IsRunOn, HasEnded, no_command, no_memory, no_device, ran, checked, worked, IsCheckedOn, IsWorkedOn, IsDone, IsFinished}

if_some : {A : Type 0} (b : Bool) (x y : A) → told_if b x ≡ Some y → x ≡ y
if_some true x y is = cc is
if_some false x y is = absurd (cc is)

abbrev history : List (List ℕ) → List Event → History
history base journal = record { base = base; journal = journal }

abbrev script_of : List ℕ → List ℕ → Script
script_of taken left = record { taken = taken; left = left }

module _ (old now : Model) (honest : now.is_honest ≡ true) where
  abbrev h : History
  h = history now.base now.journal

  abbrev s : Script
  s = script_of now.taken now.rest.script

  told : told_if now.is_honest h ≡ Some h
  told = ap (λ b. told_if b h) honest

  shown : told_if now.is_honest s ≡ Some s
  shown = ap (λ b. told_if b s) honest

  -- the history went on
  module _ (events : List Event) (adds : Adds (told_of old).history (told_of now).history events) where
    before : (journal : List Event) × (history old.base old.journal ≡ history now.base journal) × (now.journal ≡ onto events journal)
    before = let a = adds.told h told in (a.0, if_some old.is_honest (history old.base old.journal) (history now.base a.0) a.1, a.2)

    based : now.base ≡ old.base
    based = sym (ap (λ (x : History). x.base) before.1)

    added : now.journal ≡ onto events old.journal
    added = before.2 ∙ ap (λ j. onto events j) (sym (ap (λ (x : History). x.journal) before.1))

  -- bytes of the script were taken
  module _ (bytes : List ℕ) (takes : Takes (beside_of old).script (beside_of now).script bytes) where
    earlier : (t : Script) × (script_of old.taken old.rest.script ≡ t) × (now.taken ≡ t.taken ++ bytes) × (t.left ≡ bytes ++ now.rest.script)
    earlier = let a = takes.told s shown in (a.0, if_some old.is_honest (script_of old.taken old.rest.script) a.0 a.1, a.2, a.3)

    taken : now.taken ≡ old.taken ++ bytes
    taken = earlier.2 ∙ ap (λ t. t ++ bytes) (sym (ap (λ (x : Script). x.taken) earlier.1))

    left : old.rest.script ≡ bytes ++ now.rest.script
    left = ap (λ (x : Script). x.left) earlier.1 ∙ earlier.3

  unopened : (status : Status) → IsQuiet (told_of old) (told_of now) (beside_of old) (beside_of now) status → IsUnopened [] status old now
  unopened status quiet = record {
    closing = quiet.closing;
    closes = quiet.closes;
    openings = quiet.goes.openings ∙ sym (append-nil old.openings);
    base = based quiet.closing quiet.goes.tells.adds;
    journal = added quiet.closing quiet.goes.tells.adds;
    taken = taken [] quiet.goes.takes ∙ append-nil old.taken;
  }

  refused : (opening : Opening) (status : Status) → IsDeviceRefused opening (told_of old) (told_of now) (beside_of old) (beside_of now) status → IsUnopened (opening ∷ []) status old now
  refused opening status r = record {
    closing = r.closing;
    closes = r.closes;
    openings = r.asks;
    base = based r.closing r.adds;
    journal = added r.closing r.adds;
    taken = taken [] r.takes ∙ append-nil old.taken;
  }

  cut : (start : Start) (script : List ℕ) (whole : List (List Event)) (rest : List Event) → Ends start (told_of now) Sink script whole rest → EndsBy start (told_of now) Sink script whole rest
  cut start script [] rest e =
      let t = slots_told start (told_of now) e.0 h told e.1 in
      (t.0, t.1, (e.2.0, ap (λ n. text (Ready (blocks_of start) n) []) (sym t.2) ∙ e.2.1))
  cut start script (opening ∷ whole) rest e = e h told

  ends_by : (start : Start) (status : Status) (script : List ℕ) (whole : List (List Event)) (rest : List Event) → Ends start (told_of now) status script whole rest → EndsBy start (told_of now) status script whole rest
  ends_by start Sink script whole rest e = cut start script whole rest e
  ends_by start Done script whole rest e = e
  ends_by start Usage script whole rest e = e
  ends_by start Source script whole rest e = e
  ends_by start Device script whole rest e = e
  ends_by start Memory script whole rest e = e
  ends_by start (Damaged block) script whole rest e = e
  ends_by start Long script whole rest e = e

  run_on : (start : Start) (device : List ℕ) (status : Status) → IsClosed start device (told_of old) (told_of now) (beside_of old) (beside_of now) status → IsRunOn start device status old now
  run_on start device status c =
      let begins = c.since.begins h told in
      record {
        script = c.script;
        events = c.events;
        openings = c.since.asks;
        base = ap (λ (x : History). x.base) begins;
        journal = ap (λ (x : History). x.journal) begins;
        faults = c.since.cause;
        taken = taken c.script c.since.takes;
        left = left c.script c.since.takes;
        run = c.run h told;
        recovers = c.recovers h told;
        rest = c.rest;
        closing = c.closing;
        unfinished = c.unfinished;
        closes = c.closes;
        ends = ends_by start status c.script (parts c.events).whole c.rest c.ends;
        heeds = c.heeds;
        at_end = λ is. (c.at_end is).none s shown;
        long = c.long;
        short = c.short;
      }

  checked_on : (image : List (List ℕ)) (device : List ℕ) (closing : List Event) (status : Status) → Closes status old.sink_faults now.sink_faults closing
      → IsReported image device closing (told_of old) (told_of now) (beside_of old) (beside_of now) status → IsCheckedOn device status old now
  checked_on image device closing status closes r =
      let begins = r.since.begins h told in
      let base : now.base ≡ image = ap (λ (x : History). x.base) begins in
      record {
        events = r.events;
        closing = closing;
        openings = r.since.asks;
        journal = ap (λ (x : History). x.journal) begins;
        faults = r.since.cause;
        taken = taken [] r.since.takes ∙ append-nil old.taken;
        reads = r.reads;
        shows = subst (λ (x : List (List ℕ)). Shows x status (output_of r.events)) (sym base) (r.shows h told);
        ends = r.ends;
        heeds = subst (λ (x : List (List ℕ)). HeedsDamage (old_device x) (told_of now) status r.events) (sym base) r.heeds;
        closes = closes;
      }

  worked_on : (seed lines : ℕ) (device : List ℕ) (closing : List Event) (status : Status) → Closes status old.sink_faults now.sink_faults closing
      → IsWorked seed lines device closing (told_of old) (told_of now) (beside_of old) (beside_of now) status → IsWorkedOn seed lines device status old now
  worked_on seed lines device closing status closes r =
      let begins = r.since.begins h told in
      record {
        run = r.run;
        shown = r.shown;
        closing = closing;
        openings = r.since.asks;
        base = ap (λ (x : History). x.base) begins;
        journal = ap (λ (x : History). x.journal) begins;
        faults = r.since.cause;
        taken = taken [] r.since.takes ∙ append-nil old.taken;
        does = r.does h told;
        recovers = r.recovers h told;
        sums = r.sums h told;
        ends = r.ends;
        closes = closes;
      }

  pub ended : (words : List (List ℕ)) (status : Status) → Does words (told_of old) (told_of now) (beside_of old) (beside_of now) status → HasEnded words old now status
  ended words status (ending.no_command usage none quiet) = no_command usage none (unopened status quiet)
  ended words status (ending.unread memory quiet) = no_memory memory (unopened status quiet)
  ended words status (ending.no_memory blocks device memory command quiet) = no_memory memory (unopened status quiet)
  ended words status (ending.no_device blocks device failed command r) = no_device blocks device failed command (refused (asking blocks device false) status r)
  ended words status (ending.runs start device command closed) = ran start device command (run_on start device status closed)
  ended words status (ending.checks image device closing command closes r) = checked device command (checked_on image device closing status closes r)
  ended words status (ending.works seed lines device closing command closes r) = worked seed lines device command (worked_on seed lines device closing status closes r)

-- a run with status 0
done_on : (words : List (List ℕ)) (old now : Model) (start : Start) (device : List ℕ) → IsRun words (blocks_asked start) device → IsRunOn start device Done old now → IsDone words old now
done_on words old now start device command r =
    let none = r.at_end refl in
    let whole : old.rest.script ≡ r.script = r.left ∙ ap (λ l. r.script ++ l) none ∙ append-nil r.script in
    let unfinished : (parts r.events).unfinished ≡ [] = r.unfinished ∙ ap (λ l. l ++ r.closing) r.ends.1 ∙ r.closes in
    record {
      start = start;
      device = device;
      command = command;
      events = r.events;
      openings = r.openings;
      base = r.base;
      journal = r.journal;
      run = subst (λ l. HasRun start (lines_of l) (parts r.events).whole []) (sym whole) (subst (λ u. HasRun start (lines_of r.script) (parts r.events).whole u) unfinished r.run);
      replies = subst (λ l. length (parts r.events).whole ≡ length (lines_of l) + 1) (sym whole) r.ends.0;
      unfinished = unfinished;
      left = none;
    }

done_by : (words : List (List ℕ)) (old now : Model) → HasEnded words old now Done → IsFinished words old now
done_by words old now (no_command usage none silent) = absurd (cc usage)
done_by words old now (no_memory memory silent) = absurd (cc memory)
done_by words old now (no_device blocks device failed command silent) = absurd (cc failed)
done_by words old now (ran start device command r) = inl (done_on words old now start device command r)
done_by words old now (checked device command r) = inr (inl (device, command, r))
done_by words old now (worked seed lines device command r) = inr (inr (seed, lines, device, command, r))

pub done : (words : List (List ℕ)) (old now : Model) (status : Status) → status ≡ Done → HasEnded words old now status → IsFinished words old now
done words old now status is e = done_by words old now (subst (λ x. HasEnded words old now x) is e)
