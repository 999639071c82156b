use Rattle.std.proofs.Common.{rules, sym, ◌∙◌, ◌≡◌, ap, subst, None, Some, List, ℕ, length}
use Rattle.std.specs.Str.{bytes_eq}
use Rattle.std.specs.Map.{lookup}
use Rattle.ark_caps.specs.Labels.{others}
use Rattle.ark_caps.specs.declared.capability.Capability.{Capability}
use Rattle.ark_caps.proofs.LabelLemmas.{others-absent}
use Rattle.ark_caps.proofs.table.CapTable.remove.Goals as goal

pub returns-in_err-cap-clause-rest : goal.returns-in_err-cap-clause-rest
returns-in_err-cap-clause-rest c =
    let none : lookup (bytes_eq c.args.label.now) c.self.inside.pairs.entries ≡ None = search rules in
    subst (λ es. es ≡ others c.args.label.now es) c.self.view_is (sym (others-absent c.args.label.now c.self.inside.pairs.entries none))

pub returns-clause-rest : goal.returns-clause-rest
returns-clause-rest c =
    let moved = c.swap.ensures.x_after in
    rw moved (c.copy_without.ensures.entries ∙ ap (λ es. others c.args.label.now es) c.self.view_is)

pub returns-clause-one : goal.returns-clause-one
returns-clause-one c =
    let there : lookup (bytes_eq c.args.label.now) c.self.inside.pairs.entries ≡ Some c.in_ok-cap.cap = search rules in
    rw (c.swap.ensures.x_after) (c.copy_without.ensures.one c.in_ok-cap.cap there ∙ ap (λ (es : List (List ℕ × Capability)). length es) c.self.view_is)
