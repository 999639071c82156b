use Rattle.std.proofs.Common.{rules, subst, ◌++◌, ◌∷◌, []}
use Rattle.ark_vic.specs.Pace.{Pace, IsPaceOf}
use Rattle.ark_vic.proofs.PaceLemmas.{passed_law}
use Rattle.ark_vic.proofs.rate.Rate.passed.Goals as goal

pub returns-clause-stands : goal.returns-clause-stands
returns-clause-stands c p st later =
    let h = passed_law c.args.self.now p c.args.len c.args.now st later c.requires in
    subst (λ (r : Pace). IsPaceOf r (p ++ (c.args.now, c.args.len) ∷ [])) (search rules) h
