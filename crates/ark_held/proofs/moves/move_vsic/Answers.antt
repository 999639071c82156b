use Rattle.std.proofs.Common.{Some, None, sym, ◌∙◌, ap, subst}
use Rattle.ark_media.specs.Calls.{Went}
use Rattle.ark_vsic.specs.declared.due.Due.{Due}
use Rattle.ark_vsic.specs.Moves.{Leaves, answer_of, calls_of, pace_after, worked}
use Rattle.ark_held.proofs.Naming.{due_named, named_inside}
use Rattle.ark_held.proofs.moves.move_vsic.Goals as goal

pub move_one-requires-in-Some-clause-inside : goal.move_one-requires-in-Some-clause-inside
move_one-requires-in-Some-clause-inside g c = named_inside (g.D.Disk.told c.args.disk.now).blocks c.args.vsic.now c.args.areas.now (Some c.in-Some.area) (sym c.in-Some.is ∙ c.named.ensures.area) c.requires.inside

pub returns-in-None-clause-went : goal.returns-in-None-clause-went
returns-in-None-clause-went g c =
    subst (λ (y : Due). Went g.D.Disk.goes (calls_of c.args.vsic.now y c.args.region.now) (worked c.move_one.result) c.args.disk.now c.move_one.new.disk)
    (due_named c.args.vsic.now c.args.areas.now c.args.now None (sym c.in-None.is ∙ c.named.ensures.area)) c.move_one.ensures.went

pub returns-in-None-clause-answer : goal.returns-in-None-clause-answer
returns-in-None-clause-answer g c =
    c.move_one.ensures.answer
    ∙ ap (λ (y : Due). answer_of c.args.vsic.now y (worked c.move_one.result)) (due_named c.args.vsic.now c.args.areas.now c.args.now None (sym c.in-None.is ∙ c.named.ensures.area))

pub returns-in-None-clause-pace : goal.returns-in-None-clause-pace
returns-in-None-clause-pace g c =
    c.move_one.ensures.pace
    ∙ ap (λ (y : Due). pace_after c.args.vsic.now.pace y c.args.now) (due_named c.args.vsic.now c.args.areas.now c.args.now None (sym c.in-None.is ∙ c.named.ensures.area))

pub returns-in-None-clause-region : goal.returns-in-None-clause-region
returns-in-None-clause-region g c =
    subst (λ (y : Due). Leaves c.args.vsic.now y (worked c.move_one.result) (g.D.Disk.told c.move_one.new.disk).history c.args.region.now c.move_one.new.region)
    (due_named c.args.vsic.now c.args.areas.now c.args.now None (sym c.in-None.is ∙ c.named.ensures.area)) c.move_one.ensures.region

pub returns-in-Some-clause-went : goal.returns-in-Some-clause-went
returns-in-Some-clause-went g c =
    subst (λ (y : Due). Went g.D.Disk.goes (calls_of c.args.vsic.now y c.args.region.now) (worked c.move_one-in-Some.result) c.args.disk.now c.move_one-in-Some.new.disk)
    (due_named c.args.vsic.now c.args.areas.now c.args.now (Some c.in-Some.area) (sym c.in-Some.is ∙ c.named.ensures.area)) c.move_one-in-Some.ensures.went

pub returns-in-Some-clause-answer : goal.returns-in-Some-clause-answer
returns-in-Some-clause-answer g c =
    c.move_one-in-Some.ensures.answer
    ∙ ap (λ (y : Due). answer_of c.args.vsic.now y (worked c.move_one-in-Some.result)) (due_named c.args.vsic.now c.args.areas.now c.args.now (Some c.in-Some.area) (sym c.in-Some.is ∙ c.named.ensures.area))

pub returns-in-Some-clause-pace : goal.returns-in-Some-clause-pace
returns-in-Some-clause-pace g c =
    c.move_one-in-Some.ensures.pace
    ∙ ap (λ (y : Due). pace_after c.args.vsic.now.pace y c.args.now) (due_named c.args.vsic.now c.args.areas.now c.args.now (Some c.in-Some.area) (sym c.in-Some.is ∙ c.named.ensures.area))

pub returns-in-Some-clause-region : goal.returns-in-Some-clause-region
returns-in-Some-clause-region g c =
    subst (λ (y : Due). Leaves c.args.vsic.now y (worked c.move_one-in-Some.result) (g.D.Disk.told c.move_one-in-Some.new.disk).history c.args.region.now c.move_one-in-Some.new.region)
    (due_named c.args.vsic.now c.args.areas.now c.args.now (Some c.in-Some.area) (sym c.in-Some.is ∙ c.named.ensures.area)) c.move_one-in-Some.ensures.region
