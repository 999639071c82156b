-- A device that was attached, its table, and what its report shows.
use Rattle.std.proofs.Common.{◌≡◌, ◌∙◌, inl, inr, ℕ, Bool, true, List, [], ◌∷◌, ◌++◌, Ok, Err, Some, refl, sym, ap, subst, append-nil}
use Rattle.std.specs.Prelude.{Option, Result}
use Rattle.ark_base.specs.declared.status.Status.{Status}
use Rattle.ark_base.specs.declared.status.Status.TheVariants.{Done, Usage, Source, Sink, Device, Memory, Damaged, Long}
use Rattle.ark_media.specs.Journal.{Event, History, AllBlocks, current, output_of, device_events, HasFailed, AreReads}
use Rattle.ark_media.specs.Calls.{Told, Beside, Makes, OnTold}
use Rattle.ark_media.specs.Going.{failed_append}
use Rattle.ark_media.proofs.Composing.{output_of-append, device_events-append, devices_silent}
use Rattle.ark_media.proofs.Planning.{makes_devices}
use Rattle.ark_table.specs.Area.{Area}
use Rattle.ark_table.specs.Slots.{slots_of}
use Rattle.ark_table.specs.Table.{HasTable, slots_in}
use Rattle.ark_table.specs.Loading.{IsFirstDamaged, read_calls, is_read}
use Rattle.ark_table.specs.declared.fault.LoadFault.{LoadFault}
use Rattle.ark_table.specs.declared.fault.LoadFault.TheVariants as fault
use Rattle.ark_table.proofs.Tables.{table_is_read}
use Rattle.ark_check.specs.Report.{report_lines, lines_with}
use Rattle.ark_check.specs.Putting.{CameOut, EndedBy, PutsText, report_text}
use Rattle.ark_check.proofs.Pieces.{reads_append, reads_leave, so_before}
use Rattle.ark_host.proofs.Reading.{reads_of}
use Rattle.ark_cli.specs.Opening.{old_device, Since, HeedsDamage, status_for}
use Rattle.ark_cli.specs.Checking.{Shows, ReportEnds, IsReported}
use Rattle.ark_cli.proofs.Attaching.{load_fails, made_well}
use Rattle.ark_cli.proofs.Openings.{since_then}

module _ (image : List (List ℕ)) (device : List ℕ) (t0 t1 : Told) (b0 b1 : Beside) (count : ℕ) (ok : Bool) (es : List Event) (made : Makes (read_calls count) ok es) (since : Since (old_device image) device es [] t0 t1 b0 b1) where
  alone : device_events es ≡ es
  alone = makes_devices (read_calls count) ok es made

  silent : output_of es ≡ []
  silent = devices_silent es alone

  reads : AreReads (device_events es)
  reads = subst AreReads (sym alone) (reads_of count ok es made)

  -- no line came out
  nothing : (status : Status) → ReportEnds status es → HeedsDamage (old_device image) t1 status es → ((h : History) → t1.history ≡ Some h → Shows image status []) → IsReported image device [] t0 t1 b0 b1 status
  nothing status ends heeds shows = record {
    events = es;
    since = subst (λ (l : List Event). Since (old_device image) device l [] t0 t1 b0 b1) (sym (append-nil es)) since;
    reads = reads;
    shows = λ h told. subst (λ out. Shows image status out) (sym silent) (shows h told);
    ends = ends;
    heeds = heeds;
  }

  -- the table could not be loaded
  module _ {T : Type 0} where
    pub unloaded : (e : LoadFault) → ok ≡ is_read {T = T} (Err e) → IsFirstDamaged {T = T} t1 (Err e) → IsReported image device [] t0 t1 b0 b1 (status_for e)
    unloaded fault.DeviceFault is damaged =
        let why = load_fails image count es {T = T} fault.DeviceFault t1 (subst (λ b. Makes (read_calls count) b es) is made) since.begins damaged in
        nothing Device why.0 why.1 (λ h told. inl refl)
    unloaded fault.Memory is damaged =
        let well = subst (λ b. Makes (read_calls count) b es) is made in
        nothing Memory (made_well (read_calls count) es well) (λ h told block broken none. inr refl) (λ h told. inl refl)
    unloaded (fault.Damaged bad) is damaged =
        let why = load_fails image count es {T = T} (fault.Damaged bad) t1 (subst (λ b. Makes (read_calls count) b es) is made) since.begins damaged in
        nothing (Damaged bad) why.0.1 why.1 (λ h told. (ap (report_lines image) (why.0.0 h told), refl))

  -- there was no room for what its report needs
  pub roomless : ok ≡ true → IsReported image device [] t0 t1 b0 b1 Memory
  roomless is = nothing Memory (made_well (read_calls count) es (subst (λ b. Makes (read_calls count) b es) is made)) (λ h told block broken none. inr refl) (λ h told. inl refl)

  -- its report was put, in whole or in part
  module _ (t2 : Told) (b2 : Beside) (table : List (Option Area)) (well : ok ≡ true) (has : OnTold t1 (HasTable table)) (r : Result (Unit {0}) Status) (puts : PutsText t1 t2 b1 b2 (report_text table) r)
      (blocks : (h : History) → t2.history ≡ Some h → AllBlocks h.base) where
    all_since : Since (old_device image) device (es ++ puts.events) [] t0 t2 b0 b2
    all_since = since_then (old_device image) device es puts.events [] [] t0 t1 t2 b0 b1 b2 since puts.goes

    all_reads : AreReads (device_events (es ++ puts.events))
    all_reads = subst AreReads (sym (device_events-append es puts.events)) (reads_append (device_events es) (device_events puts.events) reads puts.reads)

    none_failed : HasFailed es → ⊥
    none_failed = made_well (read_calls count) es (subst (λ b. Makes (read_calls count) b es) well made)

    same_image : (h : History) → t2.history ≡ Some h → current h.base h.journal ≡ image
    same_image h told = ap (λ (x : History). current x.base x.journal) (all_since.begins h told) ∙ reads_leave (es ++ puts.events) image [] all_reads

    slots_are : (h : History) → t2.history ≡ Some h → slots_of image ≡ Ok (slots_in 1 table)
    slots_are h told = table_is_read table image (subst (λ (x : List (List ℕ)). HasTable table x) (same_image h told) (so_before t1 t2 b1 b2 (report_text table) r puts (HasTable table) has h told))

    came : (h : History) → t2.history ≡ Some h → CameOut r (report_text table image) (output_of (es ++ puts.events))
    came h told =
        let whole : AllBlocks (current h.base h.journal) = subst (λ (x : List (List ℕ)). AllBlocks x) (ap (λ (x : History). x.base) (all_since.begins h told) ∙ sym (same_image h told)) (blocks h told) in
        subst (λ out. CameOut r (report_text table image) out) (sym (output_of-append es puts.events ∙ ap (λ out. out ++ output_of puts.events) silent))
        (subst (λ (x : List (List ℕ)). CameOut r (report_text table x) (output_of puts.events)) (same_image h told) (puts.shows h told whole))

    heeds_none : (status : Status) → HeedsDamage (old_device image) t2 status (es ++ puts.events)
    heeds_none status h told block broken none = absurd (cc (slots_are h told, broken))

    ended : (status : Status) → ReportEnds status (es ++ puts.events) → ((h : History) → t2.history ≡ Some h → Shows image status (output_of (es ++ puts.events))) → IsReported image device [] t0 t2 b0 b2 status
    ended status ends shows = record {
      events = es ++ puts.events;
      since = subst (λ (l : List Event). Since (old_device image) device l [] t0 t2 b0 b2) (sym (append-nil (es ++ puts.events))) all_since;
      reads = all_reads;
      shows = shows;
      ends = ends;
      heeds = heeds_none status;
    }

    well_ended : (HasFailed puts.events → ⊥) → HasFailed (es ++ puts.events) → ⊥
    well_ended none bad = elim (failed_append es puts.events bad) [ inl early ↦ none_failed early | inr late ↦ none late ]

    behind : (xs ys : List Event) → HasFailed ys → HasFailed (xs ++ ys)
    behind [] ys bad = bad
    behind (x ∷ xs) ys bad = inr (behind xs ys bad)

    its_report : (h : History) → t2.history ≡ Some h → report_lines image (slots_of image) ≡ Ok (lines_with image (slots_in 1 table))
    its_report h told = ap (report_lines image) (slots_are h told)

    pub put_whole : r ≡ Ok tt → IsReported image device [] t0 t2 b0 b2 Done
    put_whole is =
        let end : EndedBy (Ok tt) puts.events b1 b2 = subst (λ (x : Result (Unit {0}) Status). EndedBy x puts.events b1 b2) is puts.ended in
        ended Done (well_ended end.0)
        (λ h told. (lines_with image (slots_in 1 table), its_report h told, subst (λ (x : Result (Unit {0}) Status). CameOut x (report_text table image) (output_of (es ++ puts.events))) is (came h told)))

    pub put_part : (status : Status) → r ≡ Err status → IsReported image device [] t0 t2 b0 b2 status
    put_part status is = by status (subst (λ (x : Result (Unit {0}) Status). EndedBy x puts.events b1 b2) is puts.ended)
        (λ h told. subst (λ (x : Result (Unit {0}) Status). CameOut x (report_text table image) (output_of (es ++ puts.events))) is (came h told))
      where
        by : (s : Status) → EndedBy (Err s) puts.events b1 b2 → ((h : History) → t2.history ≡ Some h → CameOut (Err s) (report_text table image) (output_of (es ++ puts.events))) → IsReported image device [] t0 t2 b0 b2 s
        by Device end out = ended Device (behind es puts.events end.0) (λ h told. inr (lines_with image (slots_in 1 table), its_report h told, out h told))
        by Sink end out = ended Sink (well_ended end.0) (λ h told. inr (lines_with image (slots_in 1 table), its_report h told, out h told))
        by Done end out = absurd end
        by Usage end out = absurd end
        by Source end out = absurd end
        by Memory end out = absurd end
        by (Damaged block) end out = absurd end
        by Long end out = absurd end
