use Rattle.std.proofs.Common.{◌≤◌, ◌+◌, ◌^◌, ◌∙◌, sym, subst, arith}
use Rattle.ark_log.specs.Open.{HasBuffer, first_after}
use Rattle.ark_log.proofs.Lent.{front_is}
use Rattle.ark_log.proofs.chain.Chain.advance.Goals as goal

pub overflow_add-n : goal.overflow_add-n
overflow_add-n c =
    let low = subst (λ x. first_after x c.args.self.now.first ≤ 2 ^ 62 + 1) (sym c.oldest-command.ensures.command ∙ c.in-Pop.is) c.oldest-command.ensures.low in
    omega (arith, low)

pub returns-in-Append-clause-buffer : goal.returns-in-Append-clause-buffer
returns-in-Append-clause-buffer c = subst HasBuffer (sym (front_is c.args.self.now.waiting c.acknowledge_append.result c.acknowledge_append.ensures.oldest)) c.oldest-command.ensures.buffer

pub returns-in-Trim-clause-buffer : goal.returns-in-Trim-clause-buffer
returns-in-Trim-clause-buffer c = subst HasBuffer (sym (front_is c.args.self.now.waiting c.acknowledge_drop.result c.acknowledge_drop.ensures.oldest)) c.oldest-command.ensures.buffer

pub returns-in-Pop-clause-buffer : goal.returns-in-Pop-clause-buffer
returns-in-Pop-clause-buffer c = subst HasBuffer (sym (front_is c.args.self.now.waiting c.acknowledge_drop-in-Pop.result c.acknowledge_drop-in-Pop.ensures.oldest)) c.oldest-command.ensures.buffer
