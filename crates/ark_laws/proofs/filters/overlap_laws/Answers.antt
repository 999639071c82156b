use Rattle.std.proofs.lemmas.List.Elements.{All-nil}
use Rattle.ark_filters.specs.Rule.{IsRule}
use Rattle.ark_laws.proofs.Sharing.{refused_sharing}
use Rattle.ark_laws.proofs.Ruled.{line_rules}
use Rattle.ark_laws.proofs.filters.overlap_laws.Goals as goal

pub returns : goal.returns
returns c = record {
  refused = refused_sharing;
  fresh = λ size. All-nil (λ f. IsRule f.rule);
  stored = λ image slots. All-nil (λ f. IsRule f.rule);
  kept = line_rules;
}
