use Rattle.std.proofs.Common.{refl, sym, ◌∙◌, ◌≡◌, length, subst, arith, ◌++◌, ◌∷◌, [], ap}
use Rattle.indexmap.proofs.CallerLemmas.{insert_entry-new}
use Rattle.std.specs.Str.{bytes_eq}
use Rattle.ark_caps.specs.Labels.{HasLabel}
use Rattle.ark_caps.proofs.LabelLemmas.{has_label, lacks_label, finds_none}
use Rattle.ark_caps.proofs.table.CapTable.add.Goals as goal

pub returns-then-contains_key-clause-taken : goal.returns-then-contains_key-clause-taken
returns-then-contains_key-clause-taken c =
    let has = subst (λ es. HasLabel es c.args.label) c.self.view_is (has_label c.self.inside.pairs.entries c.args.label _ c.contains_key.ensures c.if-contains_key.true) in
    (λ _. has, λ _. refl)

pub returns-then-contains_key-clause-limit : goal.returns-then-contains_key-clause-limit
returns-then-contains_key-clause-limit c =
    let has = subst (λ es. HasLabel es c.args.label) c.self.view_is (has_label c.self.inside.pairs.entries c.args.label _ c.contains_key.ensures c.if-contains_key.true) in
    (λ e. cc, λ h. absurd (h.0 has))

pub returns-then-len-ge-LABELS-clause-taken : goal.returns-then-len-ge-LABELS-clause-taken
returns-then-len-ge-LABELS-clause-taken c =
    let lacks = subst (λ es. ¬ HasLabel es c.args.label) c.self.view_is (lacks_label c.self.inside.pairs.entries c.args.label _ c.contains_key.ensures c.if-contains_key.false) in
    (λ e. cc, λ h. absurd (lacks h))

pub returns-then-len-ge-LABELS-clause-limit : goal.returns-then-len-ge-LABELS-clause-limit
returns-then-len-ge-LABELS-clause-limit c =
    let lacks = subst (λ es. ¬ HasLabel es c.args.label) c.self.view_is (lacks_label c.self.inside.pairs.entries c.args.label _ c.contains_key.ensures c.if-contains_key.false) in
    let full : length c.self.inside.pairs.entries ≡ 64 = omega arith in
    (λ _. (lacks, ap length (sym c.self.view_is) ∙ full), λ _. refl)

pub returns-clause-ok : goal.returns-clause-ok
returns-clause-ok c =
    c.in-Ok.ensures.entries ∙ (insert_entry-new bytes_eq c.self.inside.pairs c.args.label c.args.cap (finds_none _ _ c.contains_key.ensures c.if-contains_key.false) ∙ ap (λ es. es ++ (c.args.label, c.args.cap) ∷ []) c.self.view_is)

pub returns-clause-taken : goal.returns-clause-taken
returns-clause-taken c =
    let lacks = subst (λ es. ¬ HasLabel es c.args.label) c.self.view_is (lacks_label c.self.inside.pairs.entries c.args.label _ c.contains_key.ensures c.if-contains_key.false) in
    (λ e. cc, λ h. absurd (lacks h))
