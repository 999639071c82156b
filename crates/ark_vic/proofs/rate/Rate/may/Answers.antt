use Rattle.std.proofs.Common.{◌+◌, ◌-◌, ◌≤◌, nat_le, rules}
use Rattle.std.specs.Prelude.{IsTrue, ◌↔◌}
use Rattle.ark_vic.specs.Pace.{fill_at}
use Rattle.ark_vic.proofs.PaceLemmas.{may_law}
use Rattle.ark_vic.proofs.rate.Rate.may.Goals as goal

pub returns-clause-by_law : goal.returns-clause-by_law
returns-clause-by_law c p st later =
    let law = may_law c.args.self.now p c.args.len c.args.now st later in
    let test : IsTrue (nat_le c.from.result (c.self.inside.burst - c.fill_now.result)) ↔ (fill_at c.args.self.now c.args.now + c.args.len ≤ c.args.self.now.burst) = search rules in
    (λ yes. law.0 (test.0 yes), λ keeps. test.1 (law.1 keeps))
