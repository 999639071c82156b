use Rattle.std.proofs.Common.{ap, ◌∙◌, not, nat_eq, rules}
use Rattle.arrayvec.proofs.ArrayVecLemmas.{filter-from_retain}
use Rattle.ark_vsic.specs.Card.{bound_without}
use Rattle.ark_vsic.proofs.vsic.Vsic.unbind.Goals as goal

pub returns : goal.returns
returns c =
    let kept = filter-from_retain _ (λ b. not (nat_eq b c.args.grant)) _ (λ x b f' y called. search rules) _ _ c.retain.ensures.filtered in
    ap (λ bound. record { ring = c.self.inside.ring; bound = bound; pace = c.self.inside.pace }) kept
    ∙ ap (λ card. record { ring = card.ring; bound = bound_without c.args.grant card.bound; pace = card.pace }) c.self.view_is
