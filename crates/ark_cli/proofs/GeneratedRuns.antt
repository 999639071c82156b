-- The generated script was run on a new device, and its replies counted.
use Rattle.std.proofs.Common.{◌≡◌, ℕ, zero, suc, ◌+◌, ◌≤◌, Bool, true, false, List, [], ◌∷◌, ◌++◌, length, map, refl, sym, ◌∙◌, ap, subst, append-nil, length-append, inl, inr, arith}
use Rattle.std.specs.Prelude.{Some}
use Rattle.ark_work.specs.Generated.{generated, lines_from, prelude, next}
use Rattle.ark_work.specs.Tallied.{Tells, summary}
use Rattle.ark_work.specs.declared.tally.Tally.{Tally}
use Rattle.ark_base.specs.declared.status.Status.{Status}
use Rattle.ark_base.specs.declared.status.Status.TheVariants.{Done, Sink, Device}
use Rattle.ark_media.specs.Journal.{Event, Out, History, HasFailed, fresh, onto, output_of, device_events}
use Rattle.ark_media.specs.Calls.{Told, Beside, KeepsBeside, KeepsAtPut, Puts, Tells as TellsOn}
use Rattle.ark_media.specs.Going.{onto-append}
use Rattle.ark_media.specs.Parts.{Parts, parts, joined, IsWhole}
use Rattle.ark_media.specs.Standing.{after}
use Rattle.ark_media.proofs.Parting.{parts-unfinished, parts-whole, devices_unfinished}
use Rattle.ark_media.proofs.Composing.{device_events-append, goes_kept, goes_put, told_before}
use Rattle.ark_table.specs.Standing.{IsTableOf}
use Rattle.ark_table.proofs.Standing as tables
use Rattle.ark_script.specs.Text.{text}
use Rattle.ark_script.specs.declared.said.Said.TheVariants.{Ready}
use Rattle.ark_machine.specs.System.{System, fresh_system}
use Rattle.ark_laws.proofs.Confining.{confined_of}
use Rattle.ark_host.specs.declared.host.Host.{Host}
use Rattle.ark_host.specs.Stands.{Stands, Stood}
use Rattle.ark_plane.specs.Tables.{table_of}
use Rattle.ark_host.proofs.Stood.{after_append}
use Rattle.ark_report.specs.Work.{work_blocks}
use Rattle.ark_report.specs.Counted.{CountedSoFar}
use Rattle.ark_report.proofs.CountedLines.{all_lines, all_parts, all_count, all_replies, all_recovers}
use Rattle.ark_cli.specs.Opening.{BeginsOpening, Since, IsUnready, IsFormatted, FormatsNot}
use Rattle.ark_cli.specs.Running.{HasRun, RecoversAtFronts}
use Rattle.ark_report.proofs.Lacking.{full_of, summary_of}
use Rattle.ark_script.specs.Lines.{EachSays}
use Rattle.ark_cli.specs.Working.{work_start, TellsOf, SumsUp, WorkEnds, IsWorked}
use Rattle.ark_cli.specs.Ending.{Works}
use Rattle.ark_cli.proofs.Formatted.{fresh_based}
use Rattle.ark_cli.proofs.Openings.{paced, since_then}
use Rattle.ark_cli.proofs.PutLines.{all_put}
use Rattle.ark_cli.proofs.Runs.{begun_devices, opening, opening_devices, opening_whole, is_opening}
use Rattle.ark_cli.proofs.Stops.{open_fronts, unfinished_fronts}

lines_drawn : (x n : ℕ) → length (lines_from x n) ≡ n
lines_drawn x zero = refl
lines_drawn x (suc n) = omega (arith, lines_drawn (next (next (next x))) n)

-- how many lines the script has
pub script_length : (seed lines : ℕ) → length (generated seed lines) ≡ lines + 16
script_length seed lines = length-append prelude (lines_from seed lines) ∙ omega (arith, lines_drawn seed lines)

-- the device could not be formatted
module _ (seed lines : ℕ) (device : List ℕ) (t0 t1 : Told) (b0 b1 : Beside) where
  unready : IsUnready work_start device t0 t1 b0 b1 Device → IsWorked seed lines device [] t0 t1 b0 b1 Device
  unready u =
      let same : device_events u.events ≡ u.events = begun_devices work_start u.events u.begins in
      let are : parts u.events ≡ record { whole = []; unfinished = u.events } = parts-unfinished u.events (devices_unfinished u.events same) in
      record {
        run = u.events;
        shown = [];
        since = subst (λ (es : List Event). Since work_start device es [] t0 t1 b0 b1) (sym same ∙ sym (append-nil (device_events u.events))) u.since;
        does = λ h is. subst (λ (p : Parts). HasRun work_start (generated seed lines) p.whole p.unfinished) (sym are) (subst (λ (x : List Event). BeginsOpening work_start x) (sym same) u.begins);
        recovers = λ h is. unfinished_fronts work_start (generated seed lines) u.events (devices_unfinished u.events same) tt;
        sums = λ h is. subst (λ (p : Parts). SumsUp seed lines p.whole) (sym are) tt;
        ends = subst (λ (p : Parts). WorkEnds seed lines Device p.whole p.unfinished []) (sym are) (refl, subst (λ (x : List Event). HasFailed x) (sym same) u.fails, refl);
      }

  pub works_not : (status : Status) → FormatsNot work_blocks device t0 t1 b0 b1 status → Works seed lines device t0 t1 b0 b1 status
  works_not status (is, inl none) = inr (inl (is, none))
  works_not status (is, inr u) = inr (inr (subst (λ (e : Status). IsWorked seed lines device [] t0 t1 b0 b1 e) (sym is) (unready u)))

-- It was formatted, each line was answered, and some of the bytes of the line that tells of the replies came out.
module _ (seed lines : ℕ) (device : List ℕ) (t0 t1 t2 t3 : Told) (b0 b1 b2 b3 : Beside) (host now : Host) (tally : Tally) (es : List Event) (made : IsFormatted work_blocks device t0 t1 b0 b1)
    (stands : (h : History) → length h.base ≡ work_blocks → IsTableOf h (table_of []) → Stands host work_blocks h (fresh_system work_blocks))
    (f : CountedSoFar host (generated seed lines) [] es now t2 tally) (tells : TellsOn es t1 t2) (keeps : KeepsBeside b1 b2) (kept : KeepsAtPut b2 b3) (later : b2.sink_faults ≤ b3.sink_faults) where
  abbrev start_system : System
  start_system = fresh_system work_blocks

  abbrev first : List Event
  first = opening work_start 0 made.events made.calls

  whole : IsWhole first
  whole = opening_whole work_start 0 made.events made.calls

  abbrev run : List Event
  run = first ++ joined f.whole

  run_parts : parts run ≡ record { whole = first ∷ f.whole; unfinished = [] }
  run_parts = parts-whole first (joined f.whole) whole ∙ ap (λ (p : Parts). record { whole = first ∷ p.whole; unfinished = p.unfinished }) (all_parts host now (generated seed lines) es t2 tally f)

  run_devices : device_events run ≡ made.events ++ es
  run_devices = device_events-append first (joined f.whole) ∙ ap (λ (x : List Event). x ++ device_events (joined f.whole)) (opening_devices work_start 0 made.events made.calls)
      ∙ ap (λ (x : List Event). made.events ++ x) f.devices

  -- before the script
  abbrev past : History
  past = after (fresh work_blocks) made.events

  past_stands : Stands host work_blocks past start_system
  past_stands = stands past (fresh_based work_blocks) (tables.formatted work_blocks made.events (omega arith) (omega arith) made.calls)

  stood : (h : History) → t2.history ≡ Some h → Stood host t2 past es start_system
  stood h is =
      let all = since_then work_start device made.events es [] [] t0 t1 t2 b0 b1 b2 made.since (goes_kept t1 t2 b1 b2 es tells keeps) in
      record {
        is_told = is ∙ ap (λ (x : History). Some x) (all.begins h is ∙ after_append (fresh work_blocks) made.events es);
        stands = subst (λ (n : ℕ). Stands host n past start_system) (sym (tells.blocks ∙ made.since.blocks)) past_stands;
      }

  has_run : (h : History) → t2.history ≡ Some h → HasRun work_start (generated seed lines) (first ∷ f.whole) []
  has_run h is =
      let replies = all_replies host now (generated seed lines) es t2 tally f start_system past (stood h is) in
      (start_system, refl, is_opening work_start 0 made.events made.calls start_system refl, replies, confined_of start_system (generated seed lines) f.whole [] (paced work_start start_system refl) replies)

  recovers : (h : History) → t2.history ≡ Some h → RecoversAtFronts work_start (generated seed lines) run
  recovers h is =
      let same : device_events (onto made.events []) ≡ device_events (onto first []) = sym (ap (λ (x : List Event). device_events x) (onto-append made.events (Out (text (Ready work_blocks 0) []) ∷ []) [])) in
      open_fronts work_start start_system refl first (joined f.whole) (generated seed lines) whole tt (all_recovers host now (generated seed lines) es t2 tally f start_system past (stood h is) (onto first []) same)

  sums : (h : History) → t2.history ≡ Some h → SumsUp seed lines (first ∷ f.whole)
  sums h is = (
    full_of 1 f.whole,
    summary_of seed lines f.meanings f.whole
        (subst (λ (l : List (List ℕ)). EachSays l f.meanings) (sym (all_lines host now (generated seed lines) es t2 tally f)) f.says) f.count (f.each start_system past (stood h is)),
  )

  abbrev words : List ℕ
  words = summary lines (map output_of f.whole) ++ 10 ∷ []

  tells_of : TellsOf seed lines (first ∷ f.whole) [] words
  tells_of = record {
    count = omega (arith, all_count host now (generated seed lines) es t2 tally f);
    none = refl;
    counts = refl;
  }

  worked : (status : Status) (ok : Bool) → (p : Puts t2 t3 words ok) → WorkEnds seed lines status (first ∷ f.whole) [] (Out p.part ∷ []) → IsWorked seed lines device [] t0 t3 b0 b3 status
  worked status ok p ends =
      let before : (h : History) → t3.history ≡ Some h → (j : History) × (t2.history ≡ Some j) = λ h is. told_before (Out p.part ∷ []) t2.history t3.history p.rests.adds h is in
      let all = since_then work_start device made.events es [] [] t0 t1 t2 b0 b1 b2 made.since (goes_kept t1 t2 b1 b2 es tells keeps) in
      let since = since_then work_start device (made.events ++ es) (Out p.part ∷ []) [] [] t0 t2 t3 b0 b2 b3 all (goes_put t2 t3 b2 b3 p.part p.rests kept later) in
      record {
        run = run;
        shown = Out p.part ∷ [];
        since = subst (λ (x : List Event). Since work_start device (x ++ Out p.part ∷ []) [] t0 t3 b0 b3) (sym run_devices) since;
        does = λ h is. let b = before h is in subst (λ (x : Parts). HasRun work_start (generated seed lines) x.whole x.unfinished) (sym run_parts) (has_run b.0 b.1);
        recovers = λ h is. let b = before h is in recovers b.0 b.1;
        sums = λ h is. let b = before h is in subst (λ (x : Parts). SumsUp seed lines x.whole) (sym run_parts) (sums b.0 b.1);
        ends = subst (λ (x : Parts). WorkEnds seed lines status x.whole x.unfinished (Out p.part ∷ [])) (sym run_parts) ends;
      }

  -- whatever replies the tally is of, their line was put
  abbrev pub PutFor : Bool → Type 0
  PutFor ok = (replies : List (List ℕ)) → Tells tally replies → Puts t2 t3 (summary lines replies ++ 10 ∷ []) ok

  pub works_done : PutFor true → Works seed lines device t0 t3 b0 b3 Done
  works_done puts =
      let p : Puts t2 t3 words true = puts (map output_of f.whole) f.tells in
      inr (inr (worked Done true p (words, tells_of, ap (λ (b : List ℕ). Out b ∷ []) (all_put t2 t3 words true refl p))))

  pub works_cut : PutFor false → Works seed lines device t0 t3 b0 b3 Sink
  works_cut puts =
      let p : Puts t2 t3 words false = puts (map output_of f.whole) f.tells in
      inr (inr (worked Sink false p (p.part, p.more, subst (λ (l : List ℕ). TellsOf seed lines (first ∷ f.whole) [] l) p.prefix tells_of, refl)))
