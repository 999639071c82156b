use Rattle.std.proofs.Common.{inl, refl, Err, ◌∙◌, ap}
use Rattle.ark_media.proofs.Composing.{goes_none}
use Rattle.ark_cli.proofs.command.command.Goals as goal

pub returns-in-Err-Usage-clause-runs : goal.returns-in-Err-Usage-clause-runs
returns-in-Err-Usage-clause-runs g c = inl (
  refl,
  c.read_words.ensures.usage (c.in-Err-Usage.is ∙ ap (λ f. Err f) c.in-Err-Usage.field-0-is),
  goes_none _ _ _ _ refl refl,
)
