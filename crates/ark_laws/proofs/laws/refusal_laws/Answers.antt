use Rattle.ark_laws.proofs.Damaged.{refused_unchanged}
use Rattle.ark_laws.proofs.Labels.{refused_quiet, sendto_refused, labels_refused}
use Rattle.ark_laws.proofs.laws.refusal_laws.Goals as goal

pub returns : goal.returns
returns c = record {
  unchanged = refused_unchanged;
  no_call = refused_quiet;
  reaped = sendto_refused;
  no_label = labels_refused;
}
