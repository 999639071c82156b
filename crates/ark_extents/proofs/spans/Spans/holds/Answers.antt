use Rattle.std.proofs.Common.{◌∙◌, sym, subst, List, ℕ, take, Contains}
use Rattle.ark_extents.proofs.Holding.{any_contains, contains_any}
use Rattle.ark_extents.proofs.spans.Spans.holds.Goals as goal

pub returns : goal.returns
returns c =
    let runs = take c.self.inside.count c.self.inside.runs in
    record {
      held = (
        λ t. subst (λ (bs : List ℕ). Contains bs c.args.n) c.self.view_is (any_contains runs c.args.n (sym c.hold.ensures ∙ t)),
        λ h. c.hold.ensures ∙ contains_any runs c.args.n (subst (λ (bs : List ℕ). Contains bs c.args.n) (sym c.self.view_is) h),
      );
    }
