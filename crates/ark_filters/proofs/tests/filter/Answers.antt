use Rattle.ark_filters.proofs.Single.{single_rule}
use Rattle.ark_filters.proofs.tests.filter.Goals as goal

pub returns-clause-rule : goal.returns-clause-rule
returns-clause-rule c = single_rule c.args.direction c.args.proto c.args.first c.args.last c.requires.range
