use Rattle.std.proofs.Common.{refl, sym, ◌∙◌, subst, ⊎_elim, ◌<◌, ℕ, List, [], All}
use Rattle.std.proofs.lemmas.List.Quantifiers.{position-Some}
use Rattle.std.specs.Prelude.{Option, bytes_eq}
use Rattle.ark_base.specs.declared.refusal.Refusal.TheVariants as r
use Rattle.ark_table.specs.Area.{Area}
use Rattle.ark_table.specs.Stated.{stated}
use Rattle.ark_plane.specs.Shared.{HasBlocks}
use Rattle.ark_host.proofs.GivingUp.{steps_back, back_gone, back_zero, steps_gone, steps_gone_lost}
use Rattle.ark_host.proofs.InDevice.{gone_inside, given_below}
use Rattle.ark_host.proofs.Placing.{app_there}
use Rattle.ark_plane.proofs.Shared.{spans_inside}
use Rattle.ark_host.proofs.host.Host.drop_area.Goals as goal

pub returns-in_default-clause-answers : goal.returns-in_default-clause-answers
returns-in_default-clause-answers g c =
    let ok = c.requires.found in
    let its = app_there c.args.self.now.apps.items c.args.name.now c.args.place ok.place in
    record {
      events = [];
      goes_on = g.met.D.Disk.goes_none c.args.disk.now;
      does = steps_back c.args.self.now c.args.name.now c.args.label.now c.args.self.now (g.D.Disk.told c.args.disk.now) r.WrongKind
          (⊎_elim (back_zero c.args.self.now c.args.name.now c.args.label.now c.args.place c.args.grant c.args.index its.0 ok its.1 r.WrongKind)
          (back_gone c.args.self.now c.args.name.now c.args.label.now c.args.place c.args.grant c.args.index its.0 ok its.1 r.WrongKind) c.in_default.ensures.slot)
          tt refl refl refl refl refl refl refl;
    }

pub remove-requires-clause-used : goal.remove-requires-clause-used
remove-requires-clause-used g c = subst (λ (o : Option Area). HasBlocks o c.in-Some.slot.now.spans) (sym c.in-Some.ensures.slot.1) refl

pub returns-in-Ok-clause-answers : goal.returns-in-Ok-clause-answers
returns-in-Ok-clause-answers g c =
    let done = c.in-Ok.ensures in
    let went = done.went in
    let gone = c.remove_area.ensures in
    record {
      events = went.events;
      goes_on = went.goes_on;
      does = steps_gone c.args.self.now c.args.name.now c.args.label.now c.args.place c.args.grant c.args.index c.index_mut.result.now c.requires.found (sym c.index_mut.ensures.value) _ (g.D.Disk.told c.remove.new.disk) went.events
          c.remove_area.new.self (record { labels = gone.labels; areas = gone.areas; gone = gone.gone; cards = gone.cards; doors = gone.doors; rates = gone.rates; nets = gone.nets; name = gone.name; region = gone.region; buffers = gone.buffers }) refl done.freed refl refl done.own
          went.makes (done.settled ∙ sym c.requires.found.settled) (stated c.in-Some.slot.now) c.in-Some.slot.now.spans c.in-Some.ensures.slot.1 refl done.given done.ascending;
    }

pub returns-in-Ok-clause-inside : goal.returns-in-Ok-clause-inside
returns-in-Ok-clause-inside g c =
    let size = (g.D.Disk.told c.args.disk.now).blocks in
    let done = c.in-Ok.ensures in
    let plane = c.args.self.now.plane in
    let lt = (position-Some (λ x. bytes_eq c.args.name.now x.name) c.args.self.now.apps.items c.args.place c.index_mut.result.now c.requires.found.place).0 in
    gone_inside size c.args.self.now c.args.place c.index_mut.result.now c.remove_area.new.self c.args.grant c.remove.new.self.free c.remove.new.self.table c.remove.new.self.failed lt (sym c.index_mut.ensures.value) c.remove_area.ensures.areas
    (given_below size plane.free c.remove.new.self.free c.in-Some.slot.now.spans c.requires.inside.3
    (spans_inside size plane.table plane.free plane.failed c.requires.inside.4 c.args.index (stated c.in-Some.slot.now) c.in-Some.slot.now.spans c.in-Some.ensures.slot.0 c.in-Some.ensures.slot.1 refl)
    done.given)
    done.shared c.requires.inside

pub returns-in-Err-clause-answers : goal.returns-in-Err-clause-answers
returns-in-Err-clause-answers g c =
    let lost = c.in-Err.ensures in
    let went = lost.went in
    let gone = c.remove_area.ensures in
    record {
      events = went.events;
      goes_on = went.goes_on;
      does = steps_gone_lost c.args.self.now c.args.name.now c.args.label.now c.args.place c.args.grant c.args.index c.index_mut.result.now c.requires.found (sym c.index_mut.ensures.value) _ (g.D.Disk.told c.remove.new.disk) went.events
          c.remove_area.new.self (record { labels = gone.labels; areas = gone.areas; gone = gone.gone; cards = gone.cards; doors = gone.doors; rates = gone.rates; nets = gone.nets; name = gone.name; region = gone.region; buffers = gone.buffers }) refl lost.freed refl refl lost.own
          went.makes lost.failed;
    }

pub returns-in-Err-clause-inside : goal.returns-in-Err-clause-inside
returns-in-Err-clause-inside g c =
    let size = (g.D.Disk.told c.args.disk.now).blocks in
    let lost = c.in-Err.ensures in
    let lt = (position-Some (λ x. bytes_eq c.args.name.now x.name) c.args.self.now.apps.items c.args.place c.index_mut.result.now c.requires.found.place).0 in
    gone_inside size c.args.self.now c.args.place c.index_mut.result.now c.remove_area.new.self c.args.grant c.remove.new.self.free c.remove.new.self.table c.remove.new.self.failed lt (sym c.index_mut.ensures.value) c.remove_area.ensures.areas
    (subst (λ (bs : List ℕ). All (λ n. n < size) bs) (sym lost.kept) c.requires.inside.3) lost.shared c.requires.inside
