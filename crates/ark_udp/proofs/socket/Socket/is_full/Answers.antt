use Rattle.std.proofs.Common.{◌≡◌, length, sym, ap, ◌∙◌, arith}
use Rattle.std.proofs.lemmas.Bool.Decides.{nat_tests}
use Rattle.ark_udp.proofs.Keeping.{length-cut}
use Rattle.ark_udp.proofs.socket.Socket.is_full.Goals as goal

pub returns : goal.returns
returns c =
    let n : length c.args.self.now.datagrams ≡ length c.self.inside.heads.items =
    ap (λ s. length s.datagrams) (sym c.self.view_is) ∙ length-cut c.self.inside.heads.items c.self.inside.bytes.items in
    let all = c.self.invariant.0 in
    let few = c.self.invariant.2.few in
    let full = c.is_full.ensures in
    grind (arith, nat_tests, n, all, few, full)
