use Rattle.std.proofs.Common.{not, nat_eq, rules}
use Rattle.std.proofs.lemmas.Fn.{filter_same}
use Rattle.ark_filters.proofs.among.remove.Goals as goal

pub returns : goal.returns
returns c = record { others = filter_same _ (λ live. not (nat_eq live.grant c.args.grant)) _ (λ x b f' k. search rules) _ _ c.retain.ensures.filtered }
