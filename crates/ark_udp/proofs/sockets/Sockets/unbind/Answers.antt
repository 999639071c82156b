use Rattle.std.proofs.Common.{length, nat_eq, not, ap, arith}
use Rattle.std.proofs.lemmas.List.Sums.{length-filter, count_by-le-length}
use Rattle.ark_udp.proofs.sockets.Sockets.unbind.Goals as goal

pub invariant_of-self : goal.invariant_of-self
invariant_of-self c =
    let all = length-filter (λ s. not (nat_eq s.port c.args.port)) c.self.inside.sockets.items in
    let left = count_by-le-length (λ s. not (nat_eq s.port c.args.port)) c.self.inside.sockets.items in
    let same = ap length c.remove.ensures in
    let few = c.self.invariant in
    omega (arith, all, left, same, few)
