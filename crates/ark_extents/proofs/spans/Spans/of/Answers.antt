use Rattle.std.proofs.Common.{sym, ◌∙◌}
use Rattle.ark_extents.proofs.RunLemmas.{built, built_runs}
use Rattle.ark_extents.proofs.spans.Spans.of.Goals as goal

pub invariant_of-result : goal.invariant_of-result
invariant_of-result c = built _ _ c.copy_from_slice.ensures.after (sym c.are_spans.ensures ∙ c.if-not-are_spans.false)

pub returns-clause-runs : goal.returns-clause-runs
returns-clause-runs c = built_runs _ _ c.copy_from_slice.ensures.after (sym c.are_spans.ensures ∙ c.if-not-are_spans.false)
