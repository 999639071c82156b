use Rattle.std.proofs.Common.{◌≡◌, sym, ap, ◌∙◌, subst}
use Rattle.ark_filters.specs.In.{frame_matches, is_in}
use Rattle.ark_filters.specs.Rules.{classified, InOrder}
use Rattle.ark_filters.proofs.OneTakes.{one_takes}
use Rattle.ark_filters.proofs.Receiver.{classified_by, is_for, for_is}
use Rattle.ark_filters.proofs.rules.Rules.classify.Goals as goal

pub returns-clause-receiver : goal.returns-clause-receiver
returns-clause-receiver c = λ bytes says owner vnic.
    let found : c.classify.result ≡ classified (λ f. is_in f bytes c.args.own.now) c.args.self.now =
    c.classify.ensures.first ∙ ap (classified (λ f. frame_matches f c.args.frame.now c.args.own.now)) (c.deref.ensures.value ∙ c.self.view_is)
    ∙ classified_by bytes c.args.frame.now c.args.own.now c.args.self.now says in (
      λ h. is_for bytes c.args.own.now c.args.self.now owner vnic (sym found ∙ h),
      λ h. found ∙ for_is bytes c.args.own.now c.args.self.now owner vnic (subst InOrder c.self.view_is c.self.invariant.in_order) h,
    )

pub returns-clause-one : goal.returns-clause-one
returns-clause-one c = λ bytes. one_takes bytes c.args.own.now c.args.self.now (subst InOrder c.self.view_is c.self.invariant.in_order)
