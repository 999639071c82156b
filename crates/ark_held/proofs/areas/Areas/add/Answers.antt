use Rattle.std.proofs.Common.{◌≡◌, ◌∷◌, ◌++◌, [], true, rules, ap, ◌∙◌}
use Rattle.std.specs.Prelude.{None, nat_eq}
use Rattle.std.specs.Map.{lookup}
use Rattle.ark_held.specs.Words.{are_once}
use Rattle.ark_held.proofs.Without.{once_added}
use Rattle.ark_held.proofs.areas.Areas.add.Goals as goal

pub invariant_of-self : goal.invariant_of-self
invariant_of-self c =
    let once : are_once c.args.self.now ≡ true = search rules in
    let none : lookup (nat_eq c.args.grant) c.args.self.now ≡ None = search rules in
    let items : c.push.new.self.items ≡ c.args.self.now ++ (c.args.grant, c.args.area) ∷ [] = search rules in
    (search rules, search rules, ap are_once items ∙ once_added c.args.self.now c.args.grant c.args.area none once)
