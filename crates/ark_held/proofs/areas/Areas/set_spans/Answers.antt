use Rattle.std.proofs.Common.{◌≡◌, ◌∙◌, ℕ, true, sym, ap, subst, set, rules}
use Rattle.ark_held.specs.declared.areas.Area.{Area}
use Rattle.ark_held.specs.Words.{AreaList, are_once, with_spans}
use Rattle.ark_held.proofs.Spanning.{spans_once, spans_placed, spans_unplaced}
use Rattle.ark_held.proofs.areas.Areas.set_spans.Goals as goal

pub invariant_of-self : goal.invariant_of-self
invariant_of-self c =
    let set_here : set c.self.inside.areas.items c.in-Some.place (c.index_mut.result.now.0, record c.index_mut.result.now.1 { spans = c.args.spans }) ≡ with_spans c.self.inside.areas.items c.args.grant c.args.spans =
    ap (λ (d : ℕ × Area). set c.self.inside.areas.items c.in-Some.place (d.0, record d.1 { spans = c.args.spans })) c.index_mut.ensures.value
    ∙ spans_placed c.args.grant c.args.spans c.self.inside.areas.items c.in-Some.place c.index_mut.result.now (search rules) in
    let once : are_once c.self.inside.areas.items ≡ true = c.self.invariant.2 in
    (search rules, c.self.invariant.1, ap are_once set_here ∙ spans_once c.args.grant c.args.spans c.self.inside.areas.items ∙ once)

pub returns-in-Some : goal.returns-in-Some
returns-in-Some c = record {
  set =
      ap (λ (d : ℕ × Area). set c.self.inside.areas.items c.in-Some.place (d.0, record d.1 { spans = c.args.spans })) c.index_mut.ensures.value
      ∙ spans_placed c.args.grant c.args.spans c.self.inside.areas.items c.in-Some.place c.index_mut.result.now (search rules)
      ∙ ap (λ (xs : AreaList). with_spans xs c.args.grant c.args.spans) c.self.view_is;
}

pub returns-in_default : goal.returns-in_default
returns-in_default c = record {
  set = subst (λ (xs : AreaList). xs ≡ with_spans xs c.args.grant c.args.spans) c.self.view_is (sym (spans_unplaced c.args.grant c.args.spans c.self.inside.areas.items (search rules)));
}
