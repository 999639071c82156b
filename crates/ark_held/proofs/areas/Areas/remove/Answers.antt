use Rattle.std.proofs.Common.{◌≡◌, true, rules, sym, ◌∙◌, ap}
use Rattle.std.specs.Prelude.{nat_eq}
use Rattle.std.specs.List.{remove}
use Rattle.std.specs.Map.{lookup}
use Rattle.ark_held.specs.Words.{AreaList, are_once}
use Rattle.ark_held.proofs.Without.{removed_place, removed_none, once_gone, once_fewer}
use Rattle.ark_held.proofs.areas.Areas.remove.Goals as goal

pub invariant_of-self : goal.invariant_of-self
invariant_of-self c =
    let rest : c.remove.new.self.items ≡ remove c.args.self.now c.in-Some.place = search rules in
    let is = rest ∙ removed_place c.args.self.now c.args.grant c.in-Some.place c.remove.result (search rules) in
    let once : are_once c.args.self.now ≡ true = search rules in
    let now : are_once c.remove.new.self.items ≡ true = ap are_once is ∙ once_fewer c.args.self.now c.args.grant once in
    (search rules, search rules, now)

pub returns-in-Some : goal.returns-in-Some
returns-in-Some c =
    let rest : c.remove.new.self.items ≡ remove c.args.self.now c.in-Some.place = search rules in
    let is = rest ∙ removed_place c.args.self.now c.args.grant c.in-Some.place c.remove.result (search rules) in
    record { rest = is; gone = ap (λ (xs : AreaList). lookup (nat_eq c.args.grant) xs) is ∙ once_gone c.args.self.now c.args.grant (search rules) }

pub returns-in_default : goal.returns-in_default
returns-in_default c =
    let is = sym (removed_none c.args.self.now c.args.grant (search rules)) in
    record { rest = is; gone = ap (λ (xs : AreaList). lookup (nat_eq c.args.grant) xs) is ∙ once_gone c.args.self.now c.args.grant (search rules) }
