use Rattle.std.proofs.Common.{◌≡◌, Err, ap, inl, inr}
use Rattle.std.specs.Prelude.{Result}
use Rattle.ark_words.specs.Words.{run, check, work}
use Rattle.ark_words.specs.declared.task.WordsFault.{WordsFault}
use Rattle.ark_words.specs.declared.task.WordsFault.TheVariants.{Usage}
use Rattle.ark_cli.specs.declared.words.Asked.{Asked}
use Rattle.ark_cli.proofs.words.read_words.Goals as goal

-- the fault that is handed on
handed_on : (fault : WordsFault) → ◌≡◌ {A = Result Asked WordsFault} (Err fault) (Err Usage) → fault ≡ Usage
handed_on fault h = cc

pub returns-in-Err-clause-usage : goal.returns-in-Err-clause-usage
returns-in-Err-clause-usage c = λ h blocks device asked.
    let none = c.in-Err.ensures.usage (ap (λ f. Err f) (handed_on c.in-Err.fault h)) in
    elim asked [ inl (inl r) ↦ none (run blocks device) r | inl (inr w) ↦ none (work w.1 w.2 device) w.3 | inr k ↦ none (check device) k.1 ]
