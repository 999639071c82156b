use Rattle.std.proofs.Common.{refl, sym, ◌∙◌, ◌<◌, ◌^◌, ap, arith, [], drop}
use Rattle.std.proofs.lemmas.List.Quantifiers.{position-Some}
use Rattle.std.specs.Prelude.{bytes_eq}
use Rattle.ark_plane.proofs.Shared.{lowest_many, lowest_again}
use Rattle.ark_host.proofs.Placing.{app_there}
use Rattle.ark_host.proofs.GrowSteps.{grow_refused, lost_steps, done_steps}
use Rattle.ark_host.proofs.InDevice.{grown_inside, taken_inside, grant_inside}
use Rattle.ark_host.proofs.host.Host.grow.Goals as goal

pub returns-in-Err-clause-answers : goal.returns-in-Err-clause-answers
returns-in-Err-clause-answers g c = record {
  events = [];
  goes_on = g.met.D.Disk.goes_none c.args.disk.now;
  does = grow_refused c.args.self.now c.args.name.now c.args.label.now c.args.blocks c.args.self.now (g.D.Disk.told c.args.disk.now) c.in-Err.refusal c.in-Err.ensures.refused c.in-Err.ensures.early refl refl refl refl refl refl refl;
}

pub grow-requires-clause-lowest : goal.grow-requires-clause-lowest
grow-requires-clause-lowest g c =
    let ok = c.in-Ok.ensures.may in
    lowest_again c.args.blocks c.args.self.now.plane.free c.in-Ok.growth.more ok.space ok.more

pub returns-in-Ok-grow-clause-answers : goal.returns-in-Ok-grow-clause-answers
returns-in-Ok-grow-clause-answers g c =
    let ok = c.in-Ok.ensures.may in
    let done = c.in-Ok-grow.ensures in
    let went = done.went ok.joins.area ok.joins.used in
    let free = c.args.self.now.plane.free in
    let many = lowest_many c.args.blocks free c.in-Ok.growth.more ok.space ok.more in
    let same = (g.met.D.Disk.goes_told c.args.disk.now c.grow.new.disk went.events went.goes_on).blocks in
    let most = c.requires.inside.1 in
    let small : (g.D.Disk.told c.grow.new.disk).blocks < 2 ^ 32 = omega (arith, same, most) in
    record {
      events = went.events;
      goes_on = went.goes_on;
      does = done_steps c.args.self.now _ (g.D.Disk.told c.grow.new.disk) c.args.name.now c.args.label.now c.args.blocks c.in-Ok.growth c.index_mut.result.now small c.requires.some
          ok (sym c.index_mut.ensures.value) went.events went.makes
          c.set_spans.new.self c.set_spans.ensures.labels c.set_spans.ensures.areas c.set_spans.ensures.region c.set_spans.ensures.buffers c.set_spans.ensures.devices c.set_spans.ensures.name
          refl (done.rest ∙ ap (λ n. drop n free) many) (done.granted ok.joins.area ok.joins.used) (done.settled ∙ sym ok.settled) refl refl done.own;
    }

pub returns-in-Ok-grow-clause-inside : goal.returns-in-Ok-grow-clause-inside
returns-in-Ok-grow-clause-inside g c =
    let size = (g.D.Disk.told c.args.disk.now).blocks in
    let growth = c.in-Ok.growth in
    let ok = c.in-Ok.ensures.may in
    let done = c.in-Ok-grow.ensures in
    let free = c.args.self.now.plane.free in
    let many = lowest_many c.args.blocks free growth.more ok.space ok.more in
    let app = c.index_mut.result.now in
    let lt = (position-Some (λ x. bytes_eq c.args.name.now x.name) c.args.self.now.apps.items growth.place app ok.place).0 in
    let at = sym c.index_mut.ensures.value in
    grown_inside size c.args.self.now growth.place app c.set_spans.new.self growth.grant c.args.blocks growth.spans c.grow.new.self.free
    lt at c.set_spans.ensures.areas
    (grant_inside size c.args.self.now growth.place app c.args.label.now growth.grant c.args.blocks growth.area growth.spans growth.more lt at (ok.area app at) ok.spans ok.more c.requires.inside)
    (done.rest ∙ ap (λ n. drop n free) many) c.grow.new.self.table c.grow.new.self.failed done.shared c.requires.inside

pub returns-in-Err-grow-clause-answers : goal.returns-in-Err-grow-clause-answers
returns-in-Err-grow-clause-answers g c =
    let ok = c.in-Ok.ensures.may in
    let lost = c.in-Err-grow.ensures in
    let went = lost.went ok.joins.area ok.joins.used in
    let its = app_there c.args.self.now.apps.items c.args.name.now c.in-Ok.growth.place ok.place in
    let same = (g.met.D.Disk.goes_told c.args.disk.now c.grow.new.disk went.events went.goes_on).blocks in
    let most = c.requires.inside.1 in
    let small : (g.D.Disk.told c.grow.new.disk).blocks < 2 ^ 32 = omega (arith, same, most) in
    record {
      events = went.events;
      goes_on = went.goes_on;
      does = lost_steps c.args.self.now _ (g.D.Disk.told c.grow.new.disk) c.args.name.now c.args.label.now c.args.blocks c.in-Ok.growth its.0 small c.requires.some
          ok its.1 went.events went.makes
          refl lost.kept lost.failed refl refl lost.own;
    }

pub returns-in-Err-grow-clause-inside : goal.returns-in-Err-grow-clause-inside
returns-in-Err-grow-clause-inside g c =
    let ok = c.in-Ok.ensures.may in
    let lost = c.in-Err-grow.ensures in
    let free = c.args.self.now.plane.free in
    let many = lowest_many c.args.blocks free c.in-Ok.growth.more ok.space ok.more in
    taken_inside (g.D.Disk.told c.args.disk.now).blocks c.args.self.now c.args.blocks c.grow.new.self.free (lost.rest ∙ ap (λ n. drop n free) many) c.requires.inside c.grow.new.self.table c.grow.new.self.failed lost.shared
