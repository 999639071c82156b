use Rattle.std.proofs.Common.{nat_eq, sym, ap, ◌∙◌}
use Rattle.std.specs.List.{list_any}
use Rattle.std.proofs.lemmas.Bool.{false≢true}
use Rattle.ark_udp.proofs.sockets.Sockets.bind.Goals as goal

pub returns-then-has_port-clause-limit : goal.returns-then-has_port-clause-limit
returns-then-has_port-clause-limit c =
    let is = c.has_port.ensures ∙ ap (list_any (λ s. nat_eq s.port c.args.port)) (c.deref.ensures.value ∙ c.self.view_is) in
    (λ e. cc, λ h. absurd (false≢true (sym (is ∙ h.0) ∙ c.if-has_port.true)))

pub returns-then-len-ge-SOCKETS-clause-taken : goal.returns-then-len-ge-SOCKETS-clause-taken
returns-then-len-ge-SOCKETS-clause-taken c =
    let is = c.has_port.ensures ∙ ap (list_any (λ s. nat_eq s.port c.args.port)) (c.deref.ensures.value ∙ c.self.view_is) in
    (λ e. cc, λ h. absurd (false≢true (sym c.if-has_port.false ∙ (is ∙ h))))

pub returns-in_default-clause-taken : goal.returns-in_default-clause-taken
returns-in_default-clause-taken c =
    let is = c.has_port.ensures ∙ ap (list_any (λ s. nat_eq s.port c.args.port)) (c.deref.ensures.value ∙ c.self.view_is) in
    (λ e. cc, λ h. absurd (false≢true (sym c.if-has_port.false ∙ (is ∙ h))))
