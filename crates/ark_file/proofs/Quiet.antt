-- A closing line alone was put.
use Rattle.std.proofs.Common.{◌≡◌, inl, inr, ℕ, true, List, [], ◌∷◌, ◌++◌, Result, Ok, Err, is_ok, refl, sym, le_of_eq}
use Rattle.std.specs.Prelude.{◌⊎◌}
use Rattle.ark_base.specs.declared.status.Status.TheVariants.{Memory}
use Rattle.ark_media.specs.Journal.{Out, HasFailed}
use Rattle.ark_media.specs.Calls.{Told, Beside, Rose, HasCause, Puts, KeepsAtPut}
use Rattle.ark_media.proofs.Composing.{takes_none}
use Rattle.ark_cli.specs.Ending.{IsQuiet, closing_words}

whole : {T E : Type 0} (more : List ℕ) (before now : ℕ) (outcome : Result T E) → (is_ok outcome ≡ true → more ≡ []) → HasCause before now outcome → (more ≡ []) ⊎ Rose before now
whole more before now (Ok x) all cause = inl (all refl)
whole more before now (Err x) all cause = inr cause.failed

pub quiet : {T E : Type 0} (told0 told1 : Told) (beside0 beside1 : Beside) (outcome : Result T E) → Puts told0 told1 (closing_words Memory ++ 10 ∷ []) (is_ok outcome)
    → HasCause beside0.sink_faults beside1.sink_faults outcome → KeepsAtPut beside0 beside1 → IsQuiet told0 told1 beside0 beside1 Memory
quiet told0 told1 beside0 beside1 outcome puts cause keeps = record {
  closing = Out puts.part ∷ [];
  closes = record {
    part = puts.part;
    more = puts.more;
    prefix = puts.prefix;
    only = refl;
    whole = whole puts.more beside0.sink_faults beside1.sink_faults outcome puts.all cause;
  };
  goes = record {
    tells = record {
      adds = puts.rests.adds;
      blocks = puts.rests.blocks;
      later = le_of_eq (sym puts.rests.faults);
      cause = none;
    };
    takes = takes_none beside0.script beside1.script keeps.script;
    openings = keeps.openings;
    attach = keeps.attach;
    source = le_of_eq (sym keeps.source);
    sink = cause.later;
  };
}
  where
    none : HasFailed (Out puts.part ∷ []) → Rose told0.faults told1.faults
    none (inl bad) = absurd (cc bad)
    none (inr bad) = absurd bad
