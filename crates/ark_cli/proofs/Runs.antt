-- A run from its opening to its end, before the closing line.
use Rattle.std.proofs.Common.{◌≡◌, ℕ, ◌+◌, ◌≤◌, true, List, [], ◌∷◌, ◌++◌, length, refl, sym, ◌∙◌, ap, subst, append-nil, inl, inr, arith}
use Rattle.std.specs.Prelude.{◌⊎◌, Option, Some}
use Rattle.ark_base.specs.declared.status.Status.{Status}
use Rattle.ark_base.specs.declared.status.Status.TheVariants.{Done, Usage, Source, Sink, Device, Memory, Damaged, Long}
use Rattle.ark_media.specs.Journal.{Event, Out, History, onto, fresh, device_events, output_of}
use Rattle.ark_media.specs.Calls.{Told, Beside, Makes}
use Rattle.ark_media.specs.Going.{rose_from}
use Rattle.ark_media.specs.Parts.{Parts, parts, IsWhole, IsUnfinished, joined}
use Rattle.ark_media.proofs.Parting.{parts-unfinished, parts-whole, parts-joined, unfinished_then, whole_with, devices_unfinished}
use Rattle.ark_media.proofs.Composing.{device_events-put, output_of-put, devices_silent, told_before}
use Rattle.ark_media.proofs.Planning.{makes_devices}
use Rattle.ark_script.specs.Lines.{lines_of, newlines}
use Rattle.ark_script.specs.Text.{text}
use Rattle.ark_script.specs.declared.said.Said.TheVariants.{Ready}
use Rattle.ark_table.specs.Superblock.{format_calls}
use Rattle.ark_table.specs.Loading.{read_calls}
use Rattle.ark_table.specs.Standing.{IsTableOf}
use Rattle.ark_machine.specs.System.{System, fresh_system}
use Rattle.ark_machine.specs.Replies.{Replies}
use Rattle.ark_machine.specs.Fronts.{RunRecoversAtFronts}
use Rattle.ark_laws.proofs.Confining.{confined_of}
use Rattle.ark_held.specs.After.{IsTold}
use Rattle.ark_host.specs.declared.host.Host.{Host}
use Rattle.ark_host.specs.Stands.{Stands, Stood}
use Rattle.ark_plane.specs.Tables.{table_of}
use Rattle.ark_host.proofs.Stood.{after_append}
use Rattle.ark_cli.proofs.Formatted.{fresh_based, ready_table}
use Rattle.ark_cli.specs.Line.{within_limit}
use Rattle.ark_cli.specs.Cut.{CutReplies}
use Rattle.ark_cli.specs.Session.{FirstAnswered, AnsweredBy, ScriptRun, IsScriptEnd, NoneFailed}
use Rattle.ark_cli.specs.Opening.{Start, new_device, old_device, base_of, blocks_of, blocks_asked, Starts, opening_calls, BeginsOpening, Since, IsOpening, IsReady, Fails, HeedsDamage, IsUnready, IsUnshown, OpensNot}
use Rattle.ark_cli.specs.Running.{RecoversAtFronts, HasRun}
use Rattle.ark_cli.specs.Ending.{Ends, IsOpen, Runs, IsCause}
use Rattle.ark_answer.proofs.Replied.{reply_ends}
use Rattle.ark_cli.proofs.CutReplies.{cut_confined_of}
use Rattle.ark_cli.proofs.Stops.{MayBeMade, early_begun, early_put, calls_begin, open_fronts, unfinished_fronts, shown_fronts}
use Rattle.ark_cli.proofs.Openings.{one_start, paced, slots_told, since_then}
use Rattle.ark_cli.proofs.NoneFailed.{unfailed_then}

-- a part with the device's line behind the calls of its opening
module _ (start : Start) (slots : ℕ) (events : List Event) (calls : Makes (opening_calls start) true events) where
  abbrev pub opening : List Event
  opening = events ++ Out (text (Ready (blocks_of start) slots) []) ∷ []

  devices : device_events events ≡ events
  devices = makes_devices (opening_calls start) true events calls

  pub opening_devices : device_events opening ≡ events
  opening_devices = device_events-put events (text (Ready (blocks_of start) slots) []) ∙ devices

  pub opening_whole : IsWhole opening
  opening_whole = whole_with events (Out (text (Ready (blocks_of start) slots) [])) (devices_unfinished events devices) (reply_ends (Ready (blocks_of start) slots) [])

  pub is_opening : (s : System) → slots ≡ length s.plane.slots → IsOpening start s opening
  is_opening s count = record {
    calls = subst (λ (x : List Event). Makes (opening_calls start) true x) (sym opening_devices) calls;
    output = output_of-put events (text (Ready (blocks_of start) slots) []) (devices_silent events devices) ∙ ap (λ n. text (Ready (blocks_of start) n) []) count;
  }

pub begun_devices : (start : Start) (events : List Event) → BeginsOpening start events → device_events events ≡ events
begun_devices (new_device size) events (inl none) = subst (λ (x : List Event). device_events x ≡ x) (sym none) refl
begun_devices (new_device size) events (inr b) = makes_devices (format_calls size) b.0 events b.1
begun_devices (old_device image) events b = makes_devices (read_calls b.0) b.2.0 events b.2.1

-- a device of which a system is told is not damaged
heeded : (start : Start) (told : Told) (status : Status) (es : List Event) → ((h : History) → told.history ≡ Some h → (s : System) × Starts start s) → HeedsDamage start told status es
heeded (new_device size) told status es system = tt
heeded (old_device image) told status es system = λ h is block bad none. let s = system h is in absurd (cc (bad, s.1.1))

-- the system that is told, with a host that stood for it when these events came
abbrev StoodAt : Start → Host → Told → List Event → History → Type 0
StoodAt start host told added h = (now : History) → told.history ≡ Some now → (s : System) × Starts start s × Stood host told h added s

-- the events of a script's run, cut into parts
record InParts (start : Start) (host : Host) (script : List ℕ) (added : List Event) (told : Told) (status : Status) (first : List Event) (h : History) : Type 0 where
  pub whole : List (List Event)
  pub unfinished : List Event
  pub are : parts added ≡ record { whole = whole; unfinished = unfinished }
  pub replies : (s : System) → Stood host told h added s → Replies s (lines_of script) whole unfinished
  pub ends : Ends start told status script (first ∷ whole) unfinished
  pub fronts : (s : System) → Stood host told h added s → RunRecoversAtFronts h.base h.journal s (lines_of script) added

module _ (start : Start) (host : Host) (script : List ℕ) (added : List Event) (told : Told) (first : List Event) (h : History) (stood : StoodAt start host told added h) where
  first_parts : (n : ℕ) → (r : FirstAnswered host script added told n) → parts added ≡ record { whole = r.whole; unfinished = [] }
  first_parts n r = ap parts (r.cut ∙ sym (append-nil (joined r.whole))) ∙ parts-joined r.whole [] r.parts tt

  parts_of_first : (status : Status) (n : ℕ) → ((whole : List (List Event)) → length whole ≡ n → Ends start told status script (first ∷ whole) []) → FirstAnswered host script added told n → InParts start host script added told status first h
  parts_of_first status n ends r = record {
    whole = r.whole;
    unfinished = [];
    are = first_parts n r;
    replies = λ s st. r.replies s h st;
    ends = ends r.whole r.count;
    fronts = λ s st. r.fronts s h st;
  }

  one_more : (whole : List (List Event)) (n : ℕ) → length whole ≡ n → length (first ∷ whole) ≡ n + 1
  one_more whole n h = omega (arith, h)

  parts_of_run : (status : Status) → AnsweredBy host script added told status → InParts start host script added told status first h
  parts_of_run Done r = parts_of_first Done (length (lines_of script)) (λ w h. (one_more w (length (lines_of script)) h, refl)) r
  parts_of_run Source r = parts_of_first Source (newlines script) (λ w h. (one_more w (newlines script) h, refl)) r
  parts_of_run Long r = parts_of_first Long (newlines (within_limit script)) (λ w h. (one_more w (newlines (within_limit script)) h, refl)) r
  parts_of_run Sink r = record {
    whole = r.whole;
    unfinished = r.unfinished;
    are = ap parts r.cut ∙ parts-joined r.whole r.unfinished r.parts r.rest;
    replies = λ s st. (r.replies s h st).replies;
    ends = λ now is.
        let st = stood now is in
        let cut = r.replies st.0 h st.2 in
        (st.0, st.1, cut, cut_confined_of st.0 (lines_of script) r.whole r.unfinished (paced start st.0 st.1) cut);
    fronts = λ s st. r.fronts s h st;
  }
  parts_of_run Usage r = absurd r
  parts_of_run Device r = absurd r
  parts_of_run Memory r = absurd r
  parts_of_run (Damaged block) r = absurd r

-- the script was run on the device that is ready, by a host that stands for its system
pub open_run : (start : Start) (device : List ℕ) (t0 t1 t2 : Told) (b0 b1 b2 : Beside) (host : Host) (line : List ℕ) (status : Status) → IsReady start device t0 t1 b0 b1
    → ((h : History) → t1.history ≡ Some h → (s : System) × Starts start s × Stands host t1.blocks h s) → line ≡ [] → ScriptRun t1 t2 b1 b2 host line status → IsOpen start device t0 t2 b0 b2 status
open_run start device t0 t1 t2 b0 b1 b2 host line status ready stands none r =
    let first = opening start ready.slots ready.events ready.calls in
    let whole : IsWhole first = opening_whole start ready.slots ready.events ready.calls in
    let since = since_then start device first r.events [] r.script t0 t1 t2 b0 b1 b2 ready.since r.goes in
    let past : History = record { base = base_of start; journal = onto first [] } in
    let begun : History = record { base = base_of start; journal = [] } in
    let told : (now : History) → t2.history ≡ Some now → IsTold t2 past r.events = λ now is. is ∙ ap (λ (x : History). Some x) (since.begins now is ∙ after_append begun first r.events) in
    let stood : StoodAt start host t2 r.events past = λ now is.
    let was = told_before r.events t1.history t2.history r.goes.tells.adds now is in
    let st = stands was.0 was.1 in (
      st.0,
      st.1,
      record {
        is_told = told now is;
        stands = subst (λ (n : ℕ). Stands host n past st.0) (sym r.goes.tells.blocks) (subst (λ (h : History). Stands host t1.blocks h st.0) (ready.since.begins was.0 was.1) st.2);
      },
    ) in
    let cut : InParts start host r.script r.events t2 status first past = parts_of_run start host r.script r.events t2 first past stood status (r.ended none) in
    let are : parts (first ++ r.events) ≡ record { whole = first ∷ cut.whole; unfinished = cut.unfinished } =
    parts-whole first r.events whole ∙ ap (λ (p : Parts). record { whole = first ∷ p.whole; unfinished = p.unfinished }) cut.are in
    let count : (h : History) → t2.history ≡ Some h → (s : System) → Starts start s → ready.slots ≡ length s.plane.slots = λ h is s at.
    let was = told_before r.events t1.history t2.history r.goes.tells.adds h is in
    let tells = slots_told start t1 ready.slots was.0 was.1 ready.tells in
    tells.2 ∙ ap (λ (x : System). length x.plane.slots) (one_start start tells.0 s tells.1 at) in
    record {
      script = r.script;
      events = first ++ r.events;
      since = since;
      run = λ h is.
          let st = stood h is in
          let replies = cut.replies st.0 st.2 in
          subst (λ (p : Parts). HasRun start (lines_of r.script) p.whole p.unfinished) (sym are)
          (st.0, st.1, is_opening start ready.slots ready.events ready.calls st.0 (count h is st.0 st.1), replies, confined_of st.0 (lines_of r.script) cut.whole cut.unfinished (paced start st.0 st.1) replies);
      recovers = λ h is. let st = stood h is in open_fronts start st.0 st.1 first r.events (lines_of r.script) whole
          (early_put start ready.events _ (early_begun start ready.events (calls_begin start ready.events ready.calls))) (cut.fronts st.0 st.2);
      ends = subst (λ (p : Parts). Ends start t2 status r.script p.whole p.unfinished) (sym are) cut.ends;
      heeds = heeded start t2 status _ (λ h is. let st = stood h is in (st.0, st.1));
      at_end = r.at_end;
      long = r.long;
      short = r.short;
    }

-- the host of a new device stands for its system
pub made_stands : (size : ℕ) (device : List ℕ) (t0 t1 : Told) (b0 b1 : Beside) (host : Host) → 130 ≤ size → size ≤ 1048576 → (ready : IsReady (new_device size) device t0 t1 b0 b1)
    → ((h : History) → length h.base ≡ size → IsTableOf h (table_of []) → Stands host size h (fresh_system size)) → (h : History) → t1.history ≡ Some h → (s : System) × Starts (new_device size) s × Stands host t1.blocks h s
made_stands size device t0 t1 b0 b1 host low high ready stands h is =
    let past : History = record { base = (fresh size).base; journal = onto (ready.events ++ Out (text (Ready size ready.slots) []) ∷ []) [] } in
    let table : IsTableOf past (table_of []) = subst (λ n. IsTableOf (record { base = (fresh size).base; journal = onto (ready.events ++ Out (text (Ready size n) []) ∷ []) [] }) (table_of [])) (sym ready.tells) (ready_table size ready.events low high ready.calls) in
    (fresh_system size, refl, subst (λ (n : ℕ). Stands host n h (fresh_system size)) (sym ready.since.blocks) (subst (λ (x : History). Stands host size x (fresh_system size)) (sym (ready.since.begins h is)) (stands past (fresh_based size) table)))

-- the opening failed before its line was put

fails_with : (start : Start) (told : Told) (status : Status) (es : List Event) → output_of es ≡ [] → device_events es ≡ es → Fails start told status es → Ends start told status [] [] es
fails_with start told Device es silent same f = ((refl, refl, silent), subst (λ (x : List Event). Fails start told Device x) (sym same) f)
fails_with start told Memory es silent same f = ((refl, refl, silent), f)
fails_with start told (Damaged block) es silent same f = ((refl, refl, silent), subst (λ (x : List Event). Fails start told (Damaged block) x) (sym same) f)
fails_with start told Done es silent same f = absurd f
fails_with start told Usage es silent same f = absurd f
fails_with start told Source es silent same f = absurd f
fails_with start told Sink es silent same f = absurd f
fails_with start told Long es silent same f = absurd f

not_done : (start : Start) (told : Told) (es : List Event) → Fails start told Done es → ⊥
not_done start told es f = f

not_long : (start : Start) (told : Told) (es : List Event) → Fails start told Long es → ⊥
not_long start told es f = f

open_unready : (start : Start) (device : List ℕ) (before told : Told) (b0 b1 : Beside) (status : Status) → IsUnready start device before told b0 b1 status → IsOpen start device before told b0 b1 status
open_unready start device before told b0 b1 status u =
    let same : device_events u.events ≡ u.events = begun_devices start u.events u.begins in
    let are : parts u.events ≡ record { whole = []; unfinished = u.events } = parts-unfinished u.events (devices_unfinished u.events same) in
    record {
      script = [];
      events = u.events;
      since = u.since;
      run = λ h is. subst (λ (p : Parts). HasRun start (lines_of []) p.whole p.unfinished) (sym are) (subst (λ (x : List Event). BeginsOpening start x) (sym same) u.begins);
      recovers = λ h is. unfinished_fronts start (lines_of []) u.events (devices_unfinished u.events same) (early_begun start u.events u.begins);
      ends = subst (λ (p : Parts). Ends start told status [] p.whole p.unfinished) (sym are) (fails_with start told status u.events (devices_silent u.events same) same u.fails);
      heeds = subst (λ (p : Parts). HeedsDamage start told status (device_events p.unfinished)) (sym are) (subst (λ (x : List Event). HeedsDamage start told status x) (sym same) u.heeds);
      at_end = λ e. absurd (not_done start told u.events (subst (λ (x : Status). Fails start told x u.events) e u.fails));
      long = λ e. absurd (not_long start told u.events (subst (λ (x : Status). Fails start told x u.events) e u.fails));
      short = λ e. omega arith;
    }

-- the put of the device's line failed
module _ (start : Start) (device : List ℕ) (before told : Told) (b0 b1 : Beside) (fits : MayBeMade start) (u : IsUnshown start device before told b0 b1) where
  -- how the parts of these events are said
  abbrev IsShown : List Event → Type 0
  IsShown events = ((h : History) → told.history ≡ Some h → HasRun start (lines_of []) (parts events).whole (parts events).unfinished)
      × Ends start told Sink [] (parts events).whole (parts events).unfinished
      × ((h : History) → told.history ≡ Some h → RecoversAtFronts start (lines_of []) events)

  made : device_events u.events ≡ u.events
  made = makes_devices (opening_calls start) true u.events u.calls

  system : (h : History) → told.history ≡ Some h → (s : System) × Starts start s × (u.slots ≡ length s.plane.slots)
  system h is = slots_told start told u.slots h is u.tells

  none : (s : System) → Replies s [] [] []
  none s = record { meanings = []; say = tt; each = tt; begins = refl }

  -- all of it came out
  shown_whole : IsShown (u.events ++ Out (text (Ready (blocks_of start) u.slots) []) ∷ [])
  shown_whole =
      let first = opening start u.slots u.events u.calls in
      let whole : IsWhole first = opening_whole start u.slots u.events u.calls in
      let are : parts first ≡ record { whole = first ∷ []; unfinished = [] } = ap parts (sym (append-nil first)) ∙ parts-whole first [] whole in (
        λ h is.
            let s = system h is in
            subst (λ (p : Parts). HasRun start [] p.whole p.unfinished) (sym are) (s.0, s.1, is_opening start u.slots u.events u.calls s.0 s.2, none s.0, confined_of s.0 [] [] [] (paced start s.0 s.1) (none s.0)),
        subst (λ (p : Parts). Ends start told Sink [] p.whole p.unfinished) (sym are) (λ h is.
            let s = system h is in
            let cut : CutReplies s.0 [] [] [] = record { replies = none s.0; shows = refl } in
            (s.0, s.1, cut, cut_confined_of s.0 [] [] [] (paced start s.0 s.1) cut)),
        λ h is. let s = system h is in shown_fronts start s.0 s.1 fits u.slots u.events u.calls s.2 whole,
      )

  -- a part of it did
  shown_part : IsUnfinished (Out u.part ∷ []) → IsShown (u.events ++ Out u.part ∷ [])
  shown_part rest =
      let are : parts (u.events ++ Out u.part ∷ []) ≡ record { whole = []; unfinished = u.events ++ Out u.part ∷ [] } =
      parts-unfinished (u.events ++ Out u.part ∷ []) (unfinished_then u.events (Out u.part ∷ []) (devices_unfinished u.events made) rest) in (
        λ h is. subst (λ (p : Parts). HasRun start [] p.whole p.unfinished) (sym are)
            (subst (λ (x : List Event). BeginsOpening start x) (sym (device_events-put u.events u.part ∙ made)) (calls_begin start u.events u.calls)),
        subst (λ (p : Parts). Ends start told Sink [] p.whole p.unfinished) (sym are)
            (u.slots, u.tells, (u.more, u.front ∙ ap (λ (b : List ℕ). b ++ u.more) (sym (output_of-put u.events u.part (devices_silent u.events made))))),
        λ h is. unfinished_fronts start (lines_of []) (u.events ++ Out u.part ∷ []) (unfinished_then u.events (Out u.part ∷ []) (devices_unfinished u.events made) rest)
            (early_put start u.events u.part (early_begun start u.events (calls_begin start u.events u.calls))),
      )

  is_shown : (u.part ≡ text (Ready (blocks_of start) u.slots) []) ⊎ IsUnfinished (Out u.part ∷ []) → IsShown (u.events ++ Out u.part ∷ [])
  is_shown (inl whole) = subst (λ b. IsShown (u.events ++ Out b ∷ [])) (sym whole) shown_whole
  is_shown (inr rest) = shown_part rest

  open_unshown : IsOpen start device before told b0 b1 Sink
  open_unshown = record {
    script = [];
    events = u.events ++ Out u.part ∷ [];
    since = u.since;
    run = (is_shown u.cut).0;
    ends = (is_shown u.cut).1;
    recovers = (is_shown u.cut).2;
    heeds = heeded start told Sink _ (λ h is. let s = system h is in (s.0, s.1));
    at_end = λ e. cc;
    long = λ e. cc;
    short = λ e. omega arith;
  }

-- the opening failed
pub runs_not : (blocks : Option ℕ) (device : List ℕ) (t0 t1 : Told) (b0 b1 : Beside) (status : Status) → ((start : Start) → blocks_asked start ≡ blocks → MayBeMade start) → OpensNot blocks device t0 t1 b0 b1 status → Runs blocks device t0 t1 b0 b1 status
runs_not blocks device t0 t1 b0 b1 status fits (inl u) = inr (inl u)
runs_not blocks device t0 t1 b0 b1 status fits (inr (inl u)) = inr (inr (u.0, u.1, open_unready u.0 device t0 t1 b0 b1 status u.2))
runs_not blocks device t0 t1 b0 b1 status fits (inr (inr u)) = inr (inr (u.0, u.1, subst (λ (e : Status). IsOpen u.0 device t0 t1 b0 b1 e) (sym u.2) (open_unshown u.0 device t0 t1 b0 b1 (fits u.0 u.1) u.3)))

-- why the run of a script ended, from before the device was opened
pub script_cause : (start : Start) (device : List ℕ) (events : List Event) (bytes : List ℕ) (t0 t1 t2 : Told) (b0 b1 b2 : Beside) (status : Status) → Since start device events bytes t0 t1 b0 b1 → NoneFailed b0 b1 → IsScriptEnd b1 b2 status → IsCause t0 t2 b0 b2 status
script_cause start device events bytes t0 t1 t2 b0 b1 b2 Done since first h = unfailed_then b0 b1 b2 first h
script_cause start device events bytes t0 t1 t2 b0 b1 b2 Long since first h = tt
script_cause start device events bytes t0 t1 t2 b0 b1 b2 Source since first h = rose_from b0.source_faults b1.source_faults b2.source_faults since.source h
script_cause start device events bytes t0 t1 t2 b0 b1 b2 Sink since first h = rose_from b0.sink_faults b1.sink_faults b2.sink_faults since.sink h
script_cause start device events bytes t0 t1 t2 b0 b1 b2 Usage since first h = absurd h
script_cause start device events bytes t0 t1 t2 b0 b1 b2 Device since first h = absurd h
script_cause start device events bytes t0 t1 t2 b0 b1 b2 Memory since first h = absurd h
script_cause start device events bytes t0 t1 t2 b0 b1 b2 (Damaged block) since first h = absurd h
