use Rattle.std.proofs.Common.{◌≡◌, ◌∙◌, true, rules, refl, sym, ap, subst, arith, ℕ, List, Bool, length}
use Rattle.std.specs.Prelude.{Some, is_some}
use Rattle.ark_objects.specs.Held.{at, held}
use Rattle.ark_region.specs.Frames.{Piece, Space, bytes_of}
use Rattle.ark_log.specs.Closed.{given_back}
use Rattle.ark_held.specs.declared.store.Store.{Store}
use Rattle.ark_held.proofs.Bindings.{bound_same, some_in}
use Rattle.ark_logs.specs.Opening.{IsLoaded}
use Rattle.ark_logs.proofs.Taken.{all_in, changes_twice, loaded_lies, loaded_whole, new_buffer}
use Rattle.ark_held.specs.declared.nets.Nets.{Nets}
use Rattle.ark_logs.proofs.opening.open_on_card.Goals as goal

pub invariant_of-app : goal.invariant_of-app
invariant_of-app g c = (all_in c.args.app.now.store.region.taken c.take.new.self.taken c.args.app.now.store.buffers c.take.ensures.frames c.args.app.now.store.lie, tt)

pub invariant_of-app-2 : goal.invariant_of-app-2
invariant_of-app-2 g c = (all_in c.args.app.now.store.region.taken c.load.new.region.taken c.args.app.now.store.buffers (ap (λ (z : List Bool). length z) c.load.ensures.kept ∙ c.take.ensures.frames) c.args.app.now.store.lie, tt)

pub invariant_of-app-in-Err : goal.invariant_of-app-in-Err
invariant_of-app-in-Err g c =
    let app = c.args.app.now in
    let long = c.give.ensures.frames ∙ ap (λ (z : List Bool). length z) c.load.ensures.kept ∙ c.take.ensures.frames in (
      (all_in app.store.region.taken c.give.new.self.taken app.store.buffers long app.store.lie, tt),
      (app.room, (app.memory ∙ sym long, (app.network ∙ sym long, (app.bound, tt)))),
    )

pub invariant_of-app-in-Ok : goal.invariant_of-app-in-Ok
invariant_of-app-in-Ok g c =
    let app = c.args.app.now in
    let labelled = app.room in
    let cards = c.open.ensures.held in
    let doors = ap held c.open.ensures.doors in
    let rates = ap held c.open.ensures.rates in
    let nets = ap (λ (n : Nets). held n.cards) c.open.ensures.nets in
    let there : is_some (at app.devices.cards c.args.key) ≡ true = search rules in
    let one = some_in (at app.devices.cards c.args.key) there in
    record {
      room = omega (arith, labelled, cards, doors, rates, nets);
      memory = c.open.ensures.frames ∙ app.memory ∙ sym (ap (λ (z : List Bool). length z) c.load.ensures.kept ∙ c.take.ensures.frames);
      network = ap (λ (n : Nets). n.frames) c.open.ensures.nets ∙ app.network ∙ sym (ap (λ (z : List Bool). length z) c.load.ensures.kept ∙ c.take.ensures.frames);
      bound = bound_same app.areas app.devices.cards c.open.new.self.cards c.args.key app.bound one.0 one.1 _ (c.open.ensures.changes one.0 one.1) refl;
    }

pub returns-in-Err-clause-went : goal.returns-in-Err-clause-went
returns-in-Err-clause-went g c =
    let app = c.args.app.now in
    let took = c.in-Some.ensures in
    let went = c.in-Err.ensures.went in
    record {
      events = went.events;
      goes_on = went.goes_on;
      does = (
        went.does,
        record {
          space = c.take.new.self;
          header = c.in-Some.header;
          whole = took.len;
          taken = new_buffer app.store.region c.take.new.self 512 c.in-Some.header took.len took.place took.lies took.taken took.clear took.others;
          back = subst (λ (p : Piece). c.give.new.self.taken ≡ given_back c.take.new.self.taken (Some p)) c.in-Err.ensures.back (subst (λ (t : List Bool). c.give.new.self.taken ≡ given_back t (Some c.in-Err.header)) c.load.ensures.kept c.give.ensures.taken);
          sized = c.give.ensures.frames ∙ ap (λ (z : List Bool). length z) c.load.ensures.kept ∙ c.take.ensures.frames;
          others = λ p apart. ap (λ (z : List ℕ). bytes_of (record c.give.new.self { bytes = z }) p) c.give.ensures.bytes ∙ c.load.ensures.others p apart ∙ took.others p apart;
        },
        record { labels = refl; areas = refl; buffers = refl; doors = refl; rates = refl; nets = refl; name = refl },
        refl,
      );
    }

pub returns-in-Ok-clause-went : goal.returns-in-Ok-clause-went
returns-in-Ok-clause-went g c =
    let app = c.args.app.now in
    let took = c.in-Some.ensures in
    let store = c.bind.ensures.store in
    let region : c.bind.new.self.store.region ≡ c.load.new.region = ap (λ (s : Store). s.region) store in
    let went = c.in-Ok.ensures.went in
    record {
      events = went.events;
      goes_on = went.goes_on;
      does = record {
        space = c.take.new.self;
        header = c.in-Some.header;
        whole = took.len;
        taken = new_buffer app.store.region c.take.new.self 512 c.in-Some.header took.len took.place took.lies took.taken took.clear took.others;
        chain = c.in-Ok.chain;
        right = c.in-Ok.ensures.right;
        loaded = subst (λ (z : Space). IsLoaded (g.D.Disk.told c.load.new.disk) c.args.kind c.args.area.now.grant c.args.area.now.spans c.in-Some.header c.in-Ok.chain c.take.new.self z went.events) (sym region) went.does;
        sized = ap (λ (s : Space). length s.taken) region ∙ ap (λ (z : List Bool). length z) c.load.ensures.kept ∙ c.take.ensures.frames;
        card = λ one there. let first = c.open.ensures.changes one there in changes_twice app.devices.cards c.open.new.self.cards c.bind.new.self.devices.cards c.args.key _ _ first (c.bind.ensures.changes _ first.changed);
        list_is = λ i. (c.first.ensures i, c.count.ensures i);
        rest = record {
          labels = c.bind.ensures.labels;
          areas = c.bind.ensures.areas;
          buffers = ap (λ (s : Store). s.buffers) store;
          doors = c.bind.ensures.doors ∙ c.open.ensures.doors;
          rates = c.bind.ensures.rates ∙ c.open.ensures.rates;
          nets = c.bind.ensures.nets ∙ c.open.ensures.nets;
          name = c.bind.ensures.name;
        };
      };
    }

pub open-requires-clause-lie : goal.open-requires-clause-lie
open-requires-clause-lie g c = λ taken long. loaded_lies taken c.in-Ok.chain c.in-Some.header c.take.new.self.taken c.args.kind c.args.area.now.grant _ c.in-Ok.ensures.went.does.seen c.in-Ok.ensures.went.does.lengths c.in-Ok.ensures.went.does.chain_is c.in-Some.ensures.lies (long ∙ c.args.app.now.memory ∙ sym c.take.ensures.frames)

pub open-requires-clause-whole : goal.open-requires-clause-whole
open-requires-clause-whole g c = loaded_whole c.in-Ok.chain c.in-Some.header c.args.kind c.args.area.now.grant _ c.in-Ok.ensures.went.does.seen c.in-Ok.ensures.went.does.lengths c.in-Ok.ensures.went.does.chain_is
