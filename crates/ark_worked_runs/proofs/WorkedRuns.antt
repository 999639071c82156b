-- Whole runs on a new device, worked out: words, script, events, output and status.
use Rattle.std.specs.Fmt.{digits}
use Rattle.std.proofs.Common.{◌≡◌, ℕ, ◌≤◌, true, false, List, [], ◌∷◌, ◌++◌, length, codes, refl, sym, ◌∙◌, ap, append-nil, inl, inr, arith, lit≤, Ok}
use Rattle.std.specs.Prelude.{Some, None}
use Rattle.ark_base.specs.declared.status.Status.{Status}
use Rattle.ark_base.specs.declared.status.Status.TheVariants.{Done, Source, Sink, Long}
use Rattle.ark_base.specs.Status.{code_of}
use Rattle.ark_media.specs.Journal.{Event, Write, Sync, Out, HasFailed, fresh, onto, output_of, device_events, has_succeeded}
use Rattle.ark_media.specs.Calls.{Told, Beside, Script, Opening, making, Makes}
use Rattle.ark_media.specs.Parts.{parts, joined, IsWhole, IsUnfinished}
use Rattle.ark_script.specs.Line as w
use Rattle.ark_script.specs.Lines.{Meaning, Says, lines_of}
use Rattle.ark_table.specs.Superblock.{superblock, format_calls}
use Rattle.ark_table.specs.Standing.{IsTableOf}
use Rattle.ark_table.proofs.Standing as tables
use Rattle.ark_machine.specs.Row.{answer}
use Rattle.ark_machine.specs.Step.{step}
use Rattle.ark_machine.specs.System.{fresh_system}
use Rattle.ark_machine.specs.Follow.{ended}
use Rattle.ark_machine.specs.Replies.{Replies, system_after}
use Rattle.ark_machine.proofs.Fronts.{recovers_of}
use Rattle.ark_laws.proofs.Confining.{confined_of}
use Rattle.ark_plane.specs.Tables.{table_of}
use Rattle.ark_cli.proofs.Stops.{no_slots, none_each, table_rests, open_fronts}
use Rattle.ark_cli.specs.Words.{IsRun}
use Rattle.ark_cli.specs.Line.{limit}
use Rattle.ark_cli.specs.Opening.{Start, new_device, Since, IsOpening}
use Rattle.ark_cli.specs.Cut.{CutReplies}
use Rattle.ark_cli.proofs.CutReplies.{cut_confined_of}
use Rattle.ark_cli.specs.Running.{RecoversAtFronts, HasRun}
use Rattle.ark_cli.specs.Ending.{PutsLine, Closes, Ends, IsClosed, Does, runs}

-- the device of these runs
abbrev pub here : Start
here = new_device 200

abbrev pub line : List ℕ → List ℕ
line words = words ++ 10 ∷ []

-- what is told before a device was made
abbrev pub told_first : Told
told_first = record { history = Some (record { base = []; journal = [] }); blocks = 0; faults = 0 }

-- and after these events on a new device of 200 blocks
abbrev pub told_of : List Event → Told
told_of events = record { history = Some (record { base = (fresh 200).base; journal = onto events [] }); blocks = 200; faults = 0 }

-- and beside it: openings, bytes of the script, how often a fetch failed, and how often a put
abbrev beside_by : List Opening → List ℕ → List ℕ → ℕ → ℕ → Beside
beside_by openings taken left source sink = record { script = Some (record { taken = taken; left = left }); openings = openings; attach_faults = 0; source_faults = source; sink_faults = sink }

-- before a run, and after it, since when the device was made
abbrev pub beside_first : List ℕ → Beside
beside_first script = beside_by [] [] script 0 0

abbrev pub beside_of : List ℕ → List ℕ → ℕ → ℕ → Beside
beside_of taken left source sink = beside_by (making (codes "d") 200 true ∷ []) taken left source sink

pub some_is : {A : Type 0} (x y : A) → Some x ≡ Some y → x ≡ y
some_is x y e = cc

-- no device call of the events failed
abbrev Succeeded : List Event → Type 0
Succeeded [] = Unit {0}
Succeeded (e ∷ es) = (has_succeeded e ≡ true) × Succeeded es

none_failed : (es : List Event) → Succeeded es → HasFailed es → ⊥
none_failed [] all bad = bad
none_failed (e ∷ es) all (inl bad) = absurd (cc (all.0, bad))
none_failed (e ∷ es) all (inr bad) = none_failed es all.1 bad

since_run : (events : List Event) (taken left : List ℕ) (source sink : ℕ) → Succeeded events → Since here (codes "d") events taken told_first (told_of events) (beside_first (taken ++ left)) (beside_of taken left source sink)
since_run events taken left source sink succeeded = record {
  begins = λ h is. sym (some_is (record { base = (fresh 200).base; journal = onto events [] }) h is);
  blocks = refl;
  later = omega arith;
  cause = λ bad. absurd (none_failed events succeeded bad);
  asks = refl;
  attach = refl;
  takes = record {
    told = λ s is.
        let same : ◌≡◌ {A = Script} (record { taken = taken; left = left }) s = some_is (record { taken = taken; left = left }) s is in
        (record { taken = []; left = taken ++ left }, refl, ap (λ (x : Script). x.taken) (sym same), ap (λ (x : Script). taken ++ x.left) same);
  };
  source = omega arith;
  sink = omega arith;
}

-- a run that was closed, but for a script that was too long
pub closed_run : (status : Status) (events : List Event) (taken left : List ℕ) (source sink : ℕ) (rest closing : List Event) → Succeeded events → RecoversAtFronts here (lines_of taken) events →
    HasRun here (lines_of taken) (parts events).whole (parts events).unfinished → (parts events).unfinished ≡ rest ++ closing → Closes status 0 sink closing →
    Ends here (told_of events) status taken (parts events).whole rest → (status ≡ Done → left ≡ []) → (status ≡ Long → ⊥) → length taken ≤ limit →
    IsClosed here (codes "d") told_first (told_of events) (beside_first (taken ++ left)) (beside_of taken left source sink) status
closed_run status events taken left source sink rest closing succeeded recovers run unfinished closes ends at_end not_long fits = record {
  script = taken;
  events = events;
  since = since_run events taken left source sink succeeded;
  run = λ h is. run;
  recovers = λ h is. recovers;
  rest = rest;
  closing = closing;
  unfinished = unfinished;
  closes = closes;
  ends = ends;
  heeds = tt;
  at_end = λ e. record { none = λ x is. ap (λ (s : Script). s.left) (sym (some_is (record { taken = taken; left = left }) x is)) ∙ at_end e };
  long = λ e. absurd (not_long e);
  short = λ e. fits;
}

-- the words `run --new 200 d`
abbrev pub run_words : List (List ℕ)
run_words = codes "run" ∷ codes "--new" ∷ codes "200" ∷ codes "d" ∷ []

pub is_run : IsRun run_words (Some 200) (codes "d")
unfolding digits
is_run = ((codes "--new" ∷ codes "200" ∷ codes "d" ∷ [], refl, refl), (lit≤ tt, lit≤ tt), λ e. cc)

-- the events of the opening
abbrev pub opened : List Event
opened = Write 0 (superblock 200) true true ∷ Sync true ∷ Out (line (codes "ready 200 0")) ∷ []

pub is_opening : IsOpening here (fresh_system 200) opened
unfolding digits
is_opening = record { calls = inl ((true, (λ e. refl), refl), inl (refl, refl)); output = refl }

-- the device's calls, and the table of no slot that they leave
abbrev formatting : List Event
formatting = Write 0 (superblock 200) true true ∷ Sync true ∷ []

formats : Makes (format_calls 200) true formatting
formats = inl ((true, (λ e. refl), refl), inl (refl, refl))

pub opened_table : IsTableOf (record { base = (fresh 200).base; journal = onto opened [] }) (table_of [])
opened_table = table_rests (fresh 200).base (onto formatting []) (Out (line (codes "ready 200 0")) ∷ []) refl (tables.formatted 200 formatting (lit≤ tt) (lit≤ tt) formats)

-- the closing line came out in whole
pub whole_line : (words : List ℕ) (before now : ℕ) → PutsLine (line words) before now (Out (line words) ∷ [])
whole_line words before now = record { part = line words; more = []; prefix = sym (append-nil (line words)); only = refl; whole = inl refl }

-- The opening is whole. No slot is held in these runs.

pub is_whole : IsWhole opened
unfolding digits
is_whole = (refl, (refl, refl))

-- An empty script.

nothing_asked : Replies (fresh_system 200) [] [] []
nothing_asked = record { meanings = []; say = tt; each = tt; begins = refl }

opened_fronts : RecoversAtFronts here (lines_of []) opened
opened_fronts = open_fronts here (fresh_system 200) refl opened [] [] is_whole tt (recovers_of (fresh 200).base (onto opened []) (fresh_system 200) [] [] [] [] [] [] tt tt tt tt (no_slots (fresh 200).base (onto opened []) (fresh_system 200) None [] refl refl opened_table))

empty_run : Does run_words told_first (told_of opened) (beside_first []) (beside_of [] [] 0 0) Done
empty_run = runs here (codes "d") is_run
    (closed_run Done opened [] [] 0 0 [] [] (refl, (refl, (refl, tt))) opened_fronts (fresh_system 200, refl, is_opening, nothing_asked, confined_of (fresh_system 200) [] [] [] tt nothing_asked) refl refl (refl, refl) (λ e. refl) (λ e. cc) (lit≤ tt))

empty_output : output_of opened ≡ line (codes "ready 200 0")
empty_output = refl

-- A script of one line, behind which the fetch fails.

abbrev one_line : List ℕ
one_line = line (codes "app a")

abbrev app_a : Meaning
app_a = Ok (w.app (codes "a") None)

app_a_says : Says (codes "app a") app_a
app_a_says = (lit≤ tt, (refl, (refl, refl)))

abbrev answered : List Event
answered = opened ++ Out (line (codes "ok")) ∷ []

one_reply : (rest : List Event) → device_events rest ≡ [] → Replies (fresh_system 200) (lines_of one_line) ((Out (line (codes "ok")) ∷ []) ∷ []) rest
unfolding step answer
one_reply rest none = record { meanings = app_a ∷ []; say = (app_a_says, tt); each = (record { output = refl; calls = ended; memory = tt }, tt); begins = none }

-- a run of this line, with what stands behind its reply
one_run : (rest : List Event) → device_events rest ≡ [] → HasRun here (lines_of one_line) (opened ∷ (Out (line (codes "ok")) ∷ []) ∷ []) rest
one_run rest none = (
  fresh_system 200,
  refl,
  is_opening,
  one_reply rest none,
  confined_of (fresh_system 200) (lines_of one_line) ((Out (line (codes "ok")) ∷ []) ∷ []) rest tt (one_reply rest none),
)

answered_fronts : (rest : List Event) → IsUnfinished rest → device_events rest ≡ [] → RecoversAtFronts here (lines_of one_line) (opened ++ (Out (line (codes "ok")) ∷ rest))
unfolding step answer
answered_fronts rest unended silent =
    open_fronts here (fresh_system 200) refl opened (Out (line (codes "ok")) ∷ rest) (lines_of one_line) is_whole tt
    (recovers_of (fresh 200).base (onto opened []) (fresh_system 200) (lines_of one_line) [] (app_a ∷ []) [] ((Out (line (codes "ok")) ∷ []) ∷ []) rest (app_a_says, tt) (refl, tt) unended
    (none_each (fresh 200).base (onto opened []) (fresh_system 200) (app_a ∷ []) ((Out (line (codes "ok")) ∷ []) ∷ []) (refl, refl, tt) opened_table)
    (no_slots (fresh 200).base (onto (joined ((Out (line (codes "ok")) ∷ []) ∷ [])) (onto opened [])) (system_after (fresh_system 200) (app_a ∷ []) ((Out (line (codes "ok")) ∷ []) ∷ [])) None rest refl silent (table_rests (fresh 200).base (onto opened []) (Out (line (codes "ok")) ∷ []) refl opened_table)))

abbrev source_closed : List Event
source_closed = answered ++ Out (line (codes "fault source")) ∷ []

source_run : Does run_words told_first (told_of source_closed) (beside_first one_line) (beside_of one_line [] 1 0) Source
source_run = runs here (codes "d") is_run
    (closed_run Source source_closed one_line [] 1 0 [] (Out (line (codes "fault source")) ∷ []) (refl, (refl, (refl, (refl, (refl, tt))))) (answered_fronts (Out (line (codes "fault source")) ∷ []) (refl, tt) refl) (one_run (Out (line (codes "fault source")) ∷ []) refl) refl
    (whole_line (codes "fault source") 0 0) (refl, refl) (λ e. cc) (λ e. cc) (lit≤ tt))

source_output : output_of source_closed ≡ line (codes "ready 200 0") ++ line (codes "ok") ++ line (codes "fault source")
source_output = refl

source_code : code_of Source ≡ 2
source_code = refl

-- the same where the put of the closing line failed after five bytes
abbrev source_cut : List Event
source_cut = answered ++ Out (codes "fault") ∷ []

source_cut_run : Does run_words told_first (told_of source_cut) (beside_first one_line) (beside_of one_line [] 1 1) Source
source_cut_run = runs here (codes "d") is_run
    (closed_run Source source_cut one_line [] 1 1 [] (Out (codes "fault") ∷ []) (refl, (refl, (refl, (refl, (refl, tt))))) (answered_fronts (Out (codes "fault") ∷ []) (refl, tt) refl) (one_run (Out (codes "fault") ∷ []) refl) refl
    (record { part = codes "fault"; more = line (codes " source"); prefix = refl; only = refl; whole = inr (lit≤ tt) }) (refl, refl) (λ e. cc) (λ e. cc) (lit≤ tt))

-- where no put failed, that is no closing line
never_short : Closes Source 0 0 (Out (codes "fault") ∷ []) → ⊥
never_short c =
    elim c.whole [
      | inl all ↦
          let part : codes "fault" ≡ c.part = cc (c.only) in
          let same : line (codes "fault source") ≡ codes "fault" = c.prefix ∙ ap (λ (m : List ℕ). c.part ++ m) all ∙ append-nil c.part ∙ sym part in
          cc
      | inr rose ↦ absurd (omega (arith, rose))
    ]

-- A put that fails after two bytes of the first reply.

abbrev cut_reply : List Event
cut_reply = opened ++ Out (codes "ok") ∷ []

abbrev no_reply : Replies (fresh_system 200) (lines_of one_line) [] (Out (codes "ok") ∷ [])
no_reply = record { meanings = []; say = tt; each = tt; begins = inl refl }

cut_shows : CutReplies (fresh_system 200) (lines_of one_line) [] (Out (codes "ok") ∷ [])
unfolding step answer
cut_shows = record { replies = no_reply; shows = inr (app_a, app_a_says, record { lacked = false; memory = tt; calls = ended; more = 10 ∷ []; front = refl }) }

cut_fronts : RecoversAtFronts here (lines_of one_line) cut_reply
cut_fronts = open_fronts here (fresh_system 200) refl opened (Out (codes "ok") ∷ []) (lines_of one_line) is_whole tt
    (recovers_of (fresh 200).base (onto opened []) (fresh_system 200) (lines_of one_line) [] [] (app_a ∷ []) [] (Out (codes "ok") ∷ []) (app_a_says, tt) tt (refl, tt) tt
    (no_slots (fresh 200).base (onto opened []) (fresh_system 200) (Some app_a) (Out (codes "ok") ∷ []) refl refl opened_table))

sink_run : Does run_words told_first (told_of cut_reply) (beside_first one_line) (beside_of one_line [] 0 1) Sink
sink_run = runs here (codes "d") is_run
    (closed_run Sink cut_reply one_line [] 0 1 (Out (codes "ok") ∷ []) [] (refl, (refl, (refl, (refl, tt)))) cut_fronts
    (fresh_system 200, refl, is_opening, no_reply, confined_of (fresh_system 200) (lines_of one_line) [] (Out (codes "ok") ∷ []) tt no_reply) refl refl (λ h is. (fresh_system 200, refl, cut_shows, cut_confined_of (fresh_system 200) (lines_of one_line) [] (Out (codes "ok") ∷ []) tt cut_shows)) (λ e. cc) (λ e. cc) (lit≤ tt))

sink_output : output_of cut_reply ≡ line (codes "ready 200 0") ++ codes "ok"
sink_output = refl

sink_code : code_of Sink ≡ 3
sink_code = refl
