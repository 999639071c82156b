-- A run on a device that was there and is no device of the format, worked out: output and status.
use Rattle.std.specs.Fmt.{digits}
use Rattle.std.proofs.Common.{◌≡◌, inl, inr, ℕ, true, List, [], ◌∷◌, codes, refl, sym, ap, arith}
use Rattle.std.specs.Prelude.{Some, None, Err}
use Rattle.std.proofs.lemmas.Bool.{false≢true}
use Rattle.ark_base.specs.declared.status.Status.TheVariants.{Damaged}
use Rattle.ark_base.specs.Status.{code_of}
use Rattle.ark_media.specs.Journal.{Event, Out, HasFailed, onto, output_of}
use Rattle.ark_media.specs.Calls.{Told, Beside, Script, attaching}
use Rattle.ark_table.specs.Slots.{slots_of}
use Rattle.ark_cli.specs.Words.{IsRun}
use Rattle.ark_cli.specs.Opening.{Start, old_device, BeginsOpening, Since}
use Rattle.ark_cli.specs.Ending.{IsClosed, Does, runs}
use Rattle.ark_cli.proofs.Stops.{early_begun, early_put, unfinished_fronts}
use Rattle.ark_worked_runs.proofs.WorkedRuns.{line, told_first, beside_first, some_is, whole_line}

-- the words `run d`
abbrev old_words : List (List ℕ)
old_words = codes "run" ∷ codes "d" ∷ []

is_run : IsRun old_words None (codes "d")
is_run = ((codes "d" ∷ [], refl, refl), tt, λ e. cc)

-- a file with no block
abbrev empty : Start
empty = old_device []

-- its superblock is damaged
no_superblock : slots_of [] ≡ Err 0
no_superblock = refl

abbrev damaged_line : List ℕ
damaged_line = line (codes "fault damaged 0")

abbrev events : List Event
events = Out damaged_line ∷ []

abbrev told : Told
told = record { history = Some (record { base = []; journal = onto events [] }); blocks = 0; faults = 0 }

abbrev beside : Beside
beside = record { script = Some (record { taken = []; left = [] }); openings = attaching (codes "d") true ∷ []; attach_faults = 0; source_faults = 0; sink_faults = 0 }

none_failed : HasFailed events → ⊥
none_failed (inl bad) = absurd (false≢true (sym bad))
none_failed (inr bad) = bad

since : Since empty (codes "d") events [] told_first told (beside_first []) beside
since = record {
  begins = λ h is. sym (some_is (record { base = []; journal = onto events [] }) h is);
  blocks = refl;
  later = omega arith;
  cause = λ bad. absurd (none_failed bad);
  asks = refl;
  attach = refl;
  takes = record {
    told = λ s is.
        let same : ◌≡◌ {A = Script} (record { taken = []; left = [] }) s = some_is (record { taken = []; left = [] }) s is in
        (record { taken = []; left = [] }, refl, ap (λ (x : Script). x.taken) (sym same), ap (λ (x : Script). x.left) same);
  };
  source = omega arith;
  sink = omega arith;
}

-- no block is read
none_read : BeginsOpening empty []
none_read = (0, omega arith, (true, refl))

first_block : (block : ℕ) → slots_of [] ≡ Err block → Damaged 0 ≡ Damaged block
first_block block broken = cc broken

damaged_closed : IsClosed empty (codes "d") told_first told (beside_first []) beside (Damaged 0)
unfolding digits
damaged_closed = record {
  script = [];
  events = events;
  since = since;
  run = λ h is. none_read;
  rest = [];
  closing = events;
  unfinished = refl;
  closes = whole_line (codes "fault damaged 0") 0 0;
  recovers = λ h is. unfinished_fronts empty [] events (refl, tt) (early_put empty [] damaged_line (early_begun empty [] none_read));
  ends = ((refl, refl, refl), ((λ h is. no_superblock), (λ bad. bad)));
  heeds = λ h is block broken none. inl (first_block block broken);
  at_end = λ e. cc;
  long = λ e. cc;
  short = λ e. omega arith;
}

damaged_run : Does old_words told_first told (beside_first []) beside (Damaged 0)
damaged_run = runs empty (codes "d") is_run damaged_closed

damaged_output : output_of events ≡ line (codes "fault damaged 0")
damaged_output = refl

damaged_code : code_of (Damaged 0) ≡ 6
damaged_code = refl
