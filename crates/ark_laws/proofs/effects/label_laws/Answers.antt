use Rattle.ark_laws.proofs.FramesKept.{line_labelled}
use Rattle.ark_laws.proofs.StoredLabels.{fresh_labelled, start_labelled}
use Rattle.ark_laws.proofs.effects.label_laws.Goals as goal

pub returns : goal.returns
returns c = record { fresh = fresh_labelled; stored = start_labelled; kept = line_labelled }
