use Rattle.std.proofs.Common.{true, false, refl, sym, ◌∙◌, ◌<◌, ◌≤◌, ◌^◌, ap, subst, arith, Some, ℕ, List, [], length, take, drop}
use Rattle.std.proofs.lemmas.List.Quantifiers.{position-Some}
use Rattle.std.specs.Prelude.{bytes_eq}
use Rattle.ark_extents.specs.Blocks.{runs_of}
use Rattle.ark_extents.proofs.RunLemmas.{blocks_of-runs_of}
use Rattle.ark_table.specs.Area.{Area}
use Rattle.ark_table.specs.Standing.{with_slot}
use Rattle.ark_table.specs.Stated.{stated}
use Rattle.ark_plane.proofs.Shared.{lowest_many, lowest_again}
use Rattle.ark_host.proofs.Placing.{app_there}
use Rattle.ark_host.proofs.Stepping.{steps_refused, steps_lost, steps_granted, granting_of}
use Rattle.ark_host.proofs.InDevice.{granted_inside, taken_inside}
use Rattle.ark_host.proofs.host.Host.vsa.Goals as goal

pub returns-in-Err-clause-answers : goal.returns-in-Err-clause-answers
returns-in-Err-clause-answers g c = record {
  events = [];
  goes_on = g.met.D.Disk.goes_none c.args.disk.now;
  does = steps_refused c.args.self.now c.args.name.now c.args.label.now c.args.blocks c.args.kind c.args.self.now (g.D.Disk.told c.args.disk.now) c.in-Err.refusal c.in-Err.ensures.refused c.in-Err.ensures.early refl refl refl refl refl refl refl;
}

pub create-requires-clause-lowest : goal.create-requires-clause-lowest
create-requires-clause-lowest g c =
    let ok = c.in-Ok.ensures in
    lowest_again c.args.blocks c.args.self.now.plane.free c.slot_of.result.spans ok.admitted.space (c.slot_of.ensures.spans ∙ ok.spans)

pub returns-in-Ok-create-clause-answers : goal.returns-in-Ok-create-clause-answers
returns-in-Ok-create-clause-answers g c =
    let done = c.in-Ok-create.ensures in
    let went = done.went in
    let ok = c.in-Ok.ensures.admitted in
    let spans = c.in-Ok.admitted.2 in
    let free = c.args.self.now.plane.free in
    let said : Area = record { app = c.args.name.now; label = c.args.label.now; kind = c.args.kind; runs = runs_of spans } in
    let same = (g.met.D.Disk.goes_told c.args.disk.now c.create.new.disk went.events went.goes_on).blocks in
    let most = c.requires.inside.1 in
    let small : (g.D.Disk.told c.create.new.disk).blocks < 2 ^ 32 = omega (arith, same, most) in
    let compact : length (runs_of (take c.args.blocks free)) ≤ 16 = subst (λ (bs : List ℕ). length (runs_of bs) ≤ 16) c.in-Ok.ensures.spans c.in-Ok.ensures.compact in
    let many = lowest_many c.args.blocks free c.slot_of.result.spans ok.space (c.slot_of.ensures.spans ∙ c.in-Ok.ensures.spans) in
    record {
      events = went.events;
      goes_on = went.goes_on;
      does = steps_granted c.args.self.now _ (g.D.Disk.told c.create.new.disk) c.args.name.now c.args.label.now c.args.blocks c.args.kind c.in-Ok.admitted.1 c.in-Ok.admitted.0 c.index_mut.result.now small c.requires.some
          c.slot_of.ensures.app_name c.slot_of.ensures.label_name ok (sym c.index_mut.ensures.value) compact spans c.in-Ok.ensures.spans went.events
          (granting_of c.in-Ok.admitted.1 (stated c.slot_of.result) said spans true true went.events c.slot_of.ensures.slot (blocks_of-runs_of spans) refl went.makes)
          c.add_area.new.self c.add_area.ensures.labels c.add_area.ensures.areas c.add_area.ensures.region c.add_area.ensures.buffers c.add_area.ensures.devices c.add_area.ensures.name refl
          (done.rest ∙ ap (λ n. drop n free) many)
          (done.granted ∙ ap (λ (x : Area). with_slot c.args.self.now.plane.table c.in-Ok.admitted.1 (Some x)) c.slot_of.ensures.slot) (done.settled ∙ sym ok.settled) refl refl done.own;
    }

pub returns-in-Ok-create-clause-inside : goal.returns-in-Ok-create-clause-inside
returns-in-Ok-create-clause-inside g c =
    let done = c.in-Ok-create.ensures in
    let ok = c.in-Ok.ensures.admitted in
    let spans = c.in-Ok.admitted.2 in
    let free = c.args.self.now.plane.free in
    let many = lowest_many c.args.blocks free c.slot_of.result.spans ok.space (c.slot_of.ensures.spans ∙ c.in-Ok.ensures.spans) in
    let lt = (position-Some (λ x. bytes_eq c.args.name.now x.name) c.args.self.now.apps.items c.in-Ok.admitted.0 c.index_mut.result.now ok.place).0 in
    granted_inside (g.D.Disk.told c.args.disk.now).blocks c.args.self.now c.in-Ok.admitted.0 c.index_mut.result.now c.add_area.new.self c.args.self.now.grants c.args.blocks (record { kind = c.args.kind; slot = c.in-Ok.admitted.1; spans = spans }) c.create.new.self.free
    lt (sym c.index_mut.ensures.value) c.add_area.ensures.areas c.in-Ok.ensures.spans (done.rest ∙ ap (λ n. drop n free) many) c.requires.inside c.create.new.self.table c.create.new.self.failed done.shared

pub returns-in-Err-create-clause-answers : goal.returns-in-Err-create-clause-answers
returns-in-Err-create-clause-answers g c =
    let lost = c.in-Err-create.ensures in
    let went = lost.went in
    let ok = c.in-Ok.ensures.admitted in
    let spans = c.in-Ok.admitted.2 in
    let its = app_there c.args.self.now.apps.items c.args.name.now c.in-Ok.admitted.0 ok.place in
    let said : Area = record { app = c.args.name.now; label = c.args.label.now; kind = c.args.kind; runs = runs_of spans } in
    let same = (g.met.D.Disk.goes_told c.args.disk.now c.create.new.disk went.events went.goes_on).blocks in
    let most = c.requires.inside.1 in
    let small : (g.D.Disk.told c.create.new.disk).blocks < 2 ^ 32 = omega (arith, same, most) in
    let compact : length (runs_of (take c.args.blocks c.args.self.now.plane.free)) ≤ 16 = subst (λ (bs : List ℕ). length (runs_of bs) ≤ 16) c.in-Ok.ensures.spans c.in-Ok.ensures.compact in
    record {
      events = went.events;
      goes_on = went.goes_on;
      does = steps_lost c.args.self.now _ (g.D.Disk.told c.create.new.disk) c.args.name.now c.args.label.now c.args.blocks c.args.kind c.in-Ok.admitted.1 c.in-Ok.admitted.0 its.0 small c.requires.some
          c.slot_of.ensures.app_name c.slot_of.ensures.label_name ok its.1 compact spans c.in-Ok.ensures.spans went.events
          (granting_of c.in-Ok.admitted.1 (stated c.slot_of.result) said spans false false went.events c.slot_of.ensures.slot (blocks_of-runs_of spans) refl went.makes)
          refl lost.kept lost.failed refl refl lost.own;
    }

pub returns-in-Err-create-clause-inside : goal.returns-in-Err-create-clause-inside
returns-in-Err-create-clause-inside g c =
    let lost = c.in-Err-create.ensures in
    let free = c.args.self.now.plane.free in
    let many = lowest_many c.args.blocks free c.slot_of.result.spans c.in-Ok.ensures.admitted.space (c.slot_of.ensures.spans ∙ c.in-Ok.ensures.spans) in
    taken_inside (g.D.Disk.told c.args.disk.now).blocks c.args.self.now c.args.blocks c.create.new.self.free (lost.rest ∙ ap (λ n. drop n free) many) c.requires.inside c.create.new.self.table c.create.new.self.failed lost.shared
