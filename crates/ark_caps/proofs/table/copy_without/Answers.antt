use Rattle.std.proofs.Common.{true≢false, sym, ◌∙◌, ◌≡◌, ◌≤◌, ◌+◌, ◌∷◌, [], ap, arith, rules, List, ℕ, length, length-append}
use Rattle.std.proofs.lemmas.List.{take_all}
use Rattle.ark_caps.specs.Labels.{others}
use Rattle.ark_caps.specs.declared.capability.Capability.{Capability}
use Rattle.ark_caps.proofs.LabelLemmas.{appended, after_kept, after_skipped, one_less}
use Rattle.ark_caps.proofs.table.copy_without.Goals.{in-Some+then-ne+in-Ok, in-Some+else-ne, in_default}
use Rattle.ark_caps.proofs.table.copy_without.Goals as goal

pub loop-i-preserved : goal.loop-i-preserved
loop-i-preserved c = elim c.match-get_index.branch [
  | in-Some+then-ne+in-Ok w ↦
      let at = w.in-Some.ensures.entry in
      let so_far = c.loop-i.invariant.entries in
      let distinct = c.len-i-end.ensures.unique in
      let put = w.in-Ok.ensures.entries in
      let grown = put ∙ appended c.loop-i.to c.args.from.now.entries c.loop-i.i w.in-Some.name.now w.in-Some.cap.now c.args.label.now at so_far distinct in
      let longer : length w.insert.new.self.entries ≡ length c.loop-i.to.entries + 1 = ap length grown ∙ length-append c.loop-i.to.entries ((w.in-Some.name.now, w.in-Some.cap.now) ∷ []) in
      let spared = w.in-Ok.ensures.spare in
      rw w.to-is (record {
        entries = put ∙ after_kept c.loop-i.to c.args.from.now.entries c.loop-i.i w.in-Some.name.now w.in-Some.cap.now c.args.label.now at so_far distinct w.ne.result w.ne.ensures w.if-ne.true;
        within = omega arith;
        room = omega arith;
      })
  | in-Some+else-ne w ↦
      rw w.to-is (record {
        entries = after_skipped c.loop-i.to c.args.from.now.entries c.loop-i.i w.in-Some.name.now w.in-Some.cap.now c.args.label.now w.in-Some.ensures.entry c.loop-i.invariant.entries w.ne.result w.ne.ensures w.if-ne.false;
        within = omega arith;
        room = omega arith;
      })
  | in_default w ↦ absurd (true≢false (sym (w.in_default.ensures.found.1 (omega arith))))
]

pub returns-clause-one : goal.returns-clause-one
returns-clause-one c = λ cap there.
    let es = c.args.from.now.entries in
    let far : length es ≤ c.loop-i.i = search rules in
    let all : c.loop-i.to.entries ≡ others c.args.label.now es = c.loop-i.invariant.entries ∙ ap (λ (xs : List (List ℕ × Capability)). others c.args.label.now xs) (take_all c.loop-i.i es far) in
    ap (λ (xs : List (List ℕ × Capability)). length xs + 1) all ∙ one_less c.args.label.now es cap c.len-i-end.ensures.unique there
