use Rattle.std.proofs.Common.{not, nat_eq, rules}
use Rattle.std.proofs.lemmas.Fn.{filter_same}
use Rattle.ark_udp.proofs.among.remove.Goals as goal

pub returns : goal.returns
returns c = filter_same _ (λ s. not (nat_eq s.port c.args.port)) _ (λ x b f' k. search rules) _ _ c.retain.ensures.filtered
