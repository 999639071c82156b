use Rattle.std.proofs.Common.{◌≡◌, ◌∙◌, ◌+◌, Some, ap, sym, subst, take, arith}
use Rattle.ark_table.specs.Stated.{stated}
use Rattle.ark_table.specs.Table.{area_at}
use Rattle.ark_held.specs.Inside.{AreasInside}
use Rattle.ark_held.specs.declared.app.App.{App}
use Rattle.ark_host.specs.Given.{HasGiven}
use Rattle.ark_host.proofs.Giving.{given_past, given_next, entry_none, entry_some}
use Rattle.ark_host.proofs.host.stored.give_stored.Goals.{in-Some, in_default}
use Rattle.ark_host.proofs.host.stored.give_stored.Goals as goal

pub loop-place-preserved : goal.loop-place-preserved
loop-place-preserved c =
    let table = c.args.table.now in
    let name = c.args.app.now.name in
    let k = c.loop-place.place in
    let before = c.loop-place.invariant in
    elim c.match-slot.branch [
      | in-Some w ↦
          let area = stated w.in-Some.slot.now in
          let there : area_at table k ≡ Some area = entry_some table k area (w.in-Some.ensures.slot.1) in
          let gives = w.give_slot.ensures.gives in
          record {
            name = ap (λ (a : App). a.name) w.app-is ∙ gives.name ∙ before.name;
            region = ap (λ (a : App). a.store.region) w.app-is ∙ gives.region ∙ before.region;
            given = subst (λ (a : App). HasGiven name (take (k + 1) table) a) (sym w.app-is) (given_next name table k area there c.loop-place.app w.give_slot.new.app before.name gives before.given);
            inside = λ size all. subst (λ (a : App). AreasInside size a.areas) (sym w.app-is) (gives.inside size (all k area there) (before.inside size all));
          }
      | in_default w ↦
          record {
            name = ap (λ (a : App). a.name) w.app-is ∙ before.name;
            region = ap (λ (a : App). a.store.region) w.app-is ∙ before.region;
            given = subst (λ (a : App). HasGiven name (take (k + 1) table) a) (sym w.app-is) (given_past name table k c.loop-place.app (entry_none table k w.in_default.ensures.slot) before.given);
            inside = λ size all. subst (λ (a : App). AreasInside size a.areas) (sym w.app-is) (before.inside size all);
          }
    ]

pub returns-clause-given : goal.returns-clause-given
returns-clause-given c =
    let all : c.loop-place.place ≡ 128 = omega (arith, c.loop-place-test.false, c.loop-place.auto.place-end) in
    subst (λ n. HasGiven c.args.app.now.name (take n c.args.table.now) c.loop-place.app) all c.loop-place.invariant.given
