use Rattle.std.proofs.Common.{rules, sym, subst, ◌≡◌, ◌≤◌, ◌++◌, ℕ, List, length, take, Ok}
use Rattle.ark_extents.specs.Blocks.{runs_of, ShareNoBlock}
use Rattle.ark_extents.proofs.RunLemmas.{blocks_of-runs_of}
use Rattle.ark_base.specs.declared.refusal.Refusal.TheVariants as r
use Rattle.ark_table.specs.Stated.{stated}
use Rattle.ark_held.specs.Words.{grant_at}
use Rattle.ark_held.specs.declared.app.App.{App}
use Rattle.ark_host.proofs.Placing.{same_place}
use Rattle.ark_host.proofs.Stepping.{early_no_room, named_no_room}
use Rattle.ark_host.proofs.GrowSteps.{early_grant, unmade_refused, grant_refused, room_refused, slot_refused, join_refused, own_refused, not_joined, joined}
use Rattle.ark_host.proofs.host.Host.growth.Goals as goal

pub returns-in_default-clause-refused : goal.returns-in_default-clause-refused
returns-in_default-clause-refused c = unmade_refused c.args.self.now c.args.name.now c.args.label.now c.args.blocks (search rules)

pub returns-in-Err-clause-refused : goal.returns-in-Err-clause-refused
returns-in-Err-clause-refused c = grant_refused c.args.self.now c.args.name.now c.args.label.now c.args.blocks c.in-Some.place c.index.result.now (search rules) (sym c.index.ensures) c.in-Err.refusal (search rules)

pub returns-in-Err-clause-early : goal.returns-in-Err-clause-early
returns-in-Err-clause-early c = early_grant c.index.result.now.labels c.index.result.now.areas c.args.label.now c.in-Err.refusal (search rules)

pub returns-in-Err-room-clause-refused : goal.returns-in-Err-room-clause-refused
returns-in-Err-room-clause-refused c =
    room_refused c.args.self.now c.args.name.now c.args.label.now c.args.blocks c.in-Some.place c.index.result.now (search rules) (sym c.index.ensures) c.in-Ok.grant c.in-Ok.area.now (search rules) c.in-Err-room.refusal c.in-Err-room.ensures.none

pub returns-in-Err-room-clause-early : goal.returns-in-Err-room-clause-early
returns-in-Err-room-clause-early c = early_no_room c.args.self.now.plane c.args.blocks c.in-Err-room.refusal c.in-Err-room.ensures.none

pub returns-in-Err-room-clause-named : goal.returns-in-Err-room-clause-named
returns-in-Err-room-clause-named c = named_no_room c.args.self.now.plane c.args.blocks c.in-Err-room.refusal c.in-Err-room.ensures.none

pub returns-in_default-slot-clause-refused : goal.returns-in_default-slot-clause-refused
returns-in_default-slot-clause-refused c =
    slot_refused c.args.self.now c.args.name.now c.args.label.now c.args.blocks c.in-Some.place c.index.result.now (search rules) (sym c.index.ensures) c.in-Ok.grant c.in-Ok.area.now (search rules) (search rules) c.in-Ok-room.ensures.enough
    r.WrongKind c.in_default-slot.ensures.slot

pub returns-then-is_none-clause-refused : goal.returns-then-is_none-clause-refused
returns-then-is_none-clause-refused c =
    let own = c.in-Some-slot.slot.now.spans in
    let new = take c.args.blocks c.args.self.now.plane.free in
    join_refused c.args.self.now c.args.name.now c.args.label.now c.args.blocks c.in-Some.place c.index.result.now (search rules) (sym c.index.ensures) c.in-Ok.grant c.in-Ok.area.now (search rules) (search rules) c.in-Ok-room.ensures.enough
    (stated c.in-Some-slot.slot.now) c.in-Some-slot.ensures.slot.1
    (λ both. not_joined c.join.result (search rules) (c.join.ensures.found.1
    (subst (λ (ms : List ℕ). ShareNoBlock own ms × (length (runs_of (own ++ ms)) ≤ 16)) (sym c.in-Ok-room.ensures.lowest)
    (subst (λ (bs : List ℕ). ShareNoBlock bs new × (length (runs_of (bs ++ new)) ≤ 16)) (blocks_of-runs_of own) both))))

pub returns-in_default-join-clause-refused : goal.returns-in_default-join-clause-refused
returns-in_default-join-clause-refused c =
    own_refused c.args.self.now c.args.name.now c.args.label.now c.args.blocks c.in-Some.place c.index.result.now (search rules) (sym c.index.ensures) c.in-Ok.grant c.in-Ok.area.now (search rules) (search rules) c.in-Ok-room.ensures.enough
    (λ both. let some = c.join-2.ensures.found.1 (subst (λ (ms : List ℕ). ShareNoBlock c.in-Ok.area.now.spans ms × (length (runs_of (c.in-Ok.area.now.spans ++ ms)) ≤ 16)) (sym c.in-Ok-room.ensures.lowest) both) in search rules)

pub returns-clause-may : goal.returns-clause-may
returns-clause-may c =
    let own = c.in-Some-slot.slot.now.spans in
    let more = c.in-Ok-room.more in
    let both = c.join.ensures.found.0 (joined c.join.result (search rules)) in
    record {
      place = search rules;
      area = λ app there.
          let same : c.index.result.now ≡ app = same_place c.args.self.now.apps.items c.args.name.now c.in-Some.place c.index.result.now app (search rules) (sym c.index.ensures) there in
          subst (λ (z : App). grant_at z.labels z.areas c.args.label.now ≡ Ok (c.in-Ok.grant, c.in-Ok.area.now)) same (search rules);
      settled = search rules;
      space = c.in-Ok-room.ensures.enough;
      more = c.in-Ok-room.ensures.lowest;
      joins = record {
        low = c.in-Some-slot.ensures.slot.0;
        high = c.in-Some-slot.ensures.slot.2;
        area = stated c.in-Some-slot.slot.now;
        used = c.in-Some-slot.ensures.slot.1;
        apart = subst (λ (bs : List ℕ). ShareNoBlock bs more) (sym (blocks_of-runs_of own)) both.0;
        few = subst (λ (bs : List ℕ). length (runs_of (bs ++ more)) ≤ 16) (sym (blocks_of-runs_of own)) both.1;
      };
      spans = c.in-Some-join.ensures.blocks;
    }
