use Rattle.std.proofs.Common.{ap, ◌∙◌, rules}
use Rattle.ark_vic.specs.Bells.{one_more}
use Rattle.ark_vic.proofs.BellLemmas.{counts_more}
use Rattle.ark_vic.proofs.door.Door.ring.Goals as goal

pub returns-in-Rx-clause-counts : goal.returns-in-Rx-clause-counts
returns-in-Rx-clause-counts c bells e = search rules ∙ ap (λ k. one_more k c.args.bell) e ∙ counts_more bells c.args.bell

pub returns-in-Tx-clause-counts : goal.returns-in-Tx-clause-counts
returns-in-Tx-clause-counts c bells e = search rules ∙ ap (λ k. one_more k c.args.bell) e ∙ counts_more bells c.args.bell

pub returns-in-Io-clause-counts : goal.returns-in-Io-clause-counts
returns-in-Io-clause-counts c bells e = search rules ∙ ap (λ k. one_more k c.args.bell) e ∙ counts_more bells c.args.bell
