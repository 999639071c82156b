use Rattle.std.proofs.Common.{◌≡◌, Some, None, sym, ap, ◌∙◌, subst}
use Rattle.std.specs.List.{All}
use Rattle.std.proofs.lemmas.Result.{on_ok_weaker}
use Rattle.ark_filters.specs.Rule.{IsRule}
use Rattle.ark_filters.specs.Rules.{first_clash}
use Rattle.ark_filters.proofs.Clashing.{earliest, none_overlaps}
use Rattle.ark_filters.proofs.rules.Rules.add.Goals as goal

pub returns-in-Some-clause-earliest : goal.returns-in-Some-clause-earliest
returns-in-Some-clause-earliest c = λ own other is h.
    let same : c.in-Some.other ≡ other = cc in
    let clash : first_clash c.args.filter c.args.self.now ≡ Some other =
    ap (first_clash c.args.filter) (sym (c.deref.ensures.value ∙ c.self.view_is)) ∙ sym c.in-Some.ensures.first ∙ ap Some same in
    earliest c.args.filter own c.args.self.now other is c.requires.rule (subst (All (λ live. IsRule live.filter)) c.self.view_is c.self.invariant.each) clash

pub returns-in-None-clause-apart : goal.returns-in-None-clause-apart
returns-in-None-clause-apart c = λ own is rx.
    let clash : first_clash c.args.filter c.args.self.now ≡ None =
    ap (first_clash c.args.filter) (sym (c.deref.ensures.value ∙ c.self.view_is)) ∙ sym c.in-None.ensures.first in
    on_ok_weaker c.push.result (λ e. none_overlaps c.args.filter own c.args.self.now rx clash) c.push.ensures.added
