-- What the command `check` does.
use Rattle.std.specs.Prelude.{◌≡◌, ◌⊎◌, ℕ, List, [], ◌++◌, Some, Ok, Err}
use Rattle.ark_base.specs.declared.status.Status.{Status}
use Rattle.ark_base.specs.declared.status.Status.TheVariants.{Done, Sink, Device, Memory, Damaged}
use Rattle.ark_media.specs.Journal.{Event, History, output_of, device_events, HasFailed, AreReads}
use Rattle.ark_media.specs.Calls.{Told, Beside}
use Rattle.ark_check.specs.Report.{report, text_of}
use Rattle.ark_cli.specs.Opening.{old_device, Since, HeedsDamage}

-- nothing came out, or the first bytes of the report
abbrev pub ShowsFront : List (List ℕ) → List ℕ → Type 0
ShowsFront image out =
    (out ≡ [])
    ⊎ ((lines : List (List ℕ)) × (report image ≡ Ok lines)
    × ((more : List ℕ) × (text_of lines ≡ out ++ more)))

-- What came out of the report, by the status: the whole of it; nothing, where the table is damaged; or a front of it.
abbrev pub Shows : List (List ℕ) → Status → List ℕ → Type 0
Shows image Done out = (lines : List (List ℕ)) × (report image ≡ Ok lines) × (out ≡ text_of lines)
Shows image (Damaged block) out = (report image ≡ Err block) × (out ≡ [])
Shows image status out = ShowsFront image out

-- Why it ended: a read failed; or none did, and the report is out, a put failed, memory was wanting, or the device is damaged.
abbrev pub ReportEnds : Status → List Event → Type 0
ReportEnds Device es = HasFailed es
ReportEnds Done es = HasFailed es → ⊥
ReportEnds Sink es = HasFailed es → ⊥
ReportEnds Memory es = HasFailed es → ⊥
ReportEnds (Damaged block) es = HasFailed es → ⊥
ReportEnds _ es = ⊥

-- The device was attached, and its report put; the device was read, and nothing else was done to it. Last came `closing`.
pub record IsReported (image : List (List ℕ)) (device : List ℕ) (closing : List Event)
    (told0 told1 : Told) (beside0 beside1 : Beside) (status : Status) : Type 0 where
  pub events : List Event
  pub since : Since (old_device image) device (events ++ closing) [] told0 told1 beside0 beside1
  pub reads : AreReads (device_events events)
  pub shows : (h : History) → told1.history ≡ Some h → Shows image status (output_of events)
  pub ends : ReportEnds status events
  pub heeds : HeedsDamage (old_device image) told1 status events
