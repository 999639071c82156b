use Rattle.std.proofs.Common.{◌≡◌, ◌≤◌, ◌<◌, sym, subst}
use Rattle.ark_vic.specs.Queue.{Queue, members}
use Rattle.std.specs.Prelude.{Some, slice_get}
use Rattle.ark_held.specs.Polling.{with_polled}
use Rattle.ark_held.proofs.CardLogs.{lies_at}
use Rattle.ark_held.proofs.Keyed.{changes_set}
use Rattle.ark_held.proofs.PolledCards.{has_room, is_alone, is_whole, its_poll, may_end, polled_on, still_lie, still_logs, still_long, still_short, still_sound}
use Rattle.ark_held.proofs.devices.Devices.poll.Goals as goal

pub poll-polled-requires : goal.poll-polled-requires
poll-polled-requires c =
    let app = c.args.self.now in
    let one = c.at_mut-card.result.now in
    let there = sym c.at_mut-card.ensures.value in
    let same = sym c.ring_mut.ensures.value in
    record {
      alone = subst (λ (q : Queue). members q ≤ 1) same (is_alone app.frames app.cards c.args.key one c.in-Some.chain app.logs there c.in-Some.is c.args.region.now.taken c.requires.size);
      size = subst (λ (q : Queue). 0 < q.size) same (has_room app.frames app.cards c.args.key one c.in-Some.chain app.logs there c.in-Some.is);
      whole = λ none. is_whole app.frames app.cards c.args.key one c.in-Some.chain app.logs there c.in-Some.is c.args.region.now.taken c.requires.size (subst (λ (q : Queue). members q ≡ 0) c.ring_mut.ensures.value none);
      lies = λ none. lies_at app.frames app.cards c.args.key one c.in-Some.chain c.args.region.now.taken app.lie there c.in-Some.is c.requires.size;
      may = λ u first. may_end app.frames app.cards c.args.key one c.in-Some.chain app.logs there c.in-Some.is c.args.region.now.taken c.requires.size u (subst (λ (q : Queue). slice_get q.unreaped 0 ≡ Some u) c.ring_mut.ensures.value first);
      room = c.requires.room;
    }

pub invariant_of-self : goal.invariant_of-self
invariant_of-self c =
    let app = c.args.self.now in
    let there = sym c.at_mut-card.ensures.value in
    let changes = changes_set app.cards c.args.key c.at_mut-card.result.now (with_polled c.poll-polled.new.ring c.poll-polled.new.self c.at_mut-card.result.now) there in
    let polled = its_poll c.in-Some.chain c.ring_mut.result.now c.at_mut-card.result.now.vsic.ring c.ring_mut.ensures.value c.args.region.now c.args.out.now _ c.poll-polled.result c.poll-polled.ensures in
    record {
      sound = still_sound app.frames app.cards _ c.args.key c.at_mut-card.result.now c.in-Some.chain _ _ _ _ _ _ _ app.sound app.lie app.logs there c.in-Some.is c.is_right.ensures polled changes;
      lie = still_lie app.frames app.cards _ c.args.key c.at_mut-card.result.now c.in-Some.chain _ _ _ _ _ _ _ app.sound app.lie app.logs there c.in-Some.is c.is_right.ensures polled changes;
      logs = still_logs app.frames app.cards _ c.args.key c.at_mut-card.result.now c.in-Some.chain _ _ _ _ _ _ _ app.sound app.lie app.logs there c.in-Some.is c.is_right.ensures polled changes;
    }

pub returns-clause-length : goal.returns-clause-length
returns-clause-length c =
    let app = c.args.self.now in
    still_long app.frames app.cards app.cards c.args.key c.at_mut-card.result.now c.in-Some.chain _ _ _ _ _ _ _ app.sound app.lie app.logs (sym c.at_mut-card.ensures.value) c.in-Some.is c.is_right.ensures
    (its_poll c.in-Some.chain c.ring_mut.result.now c.at_mut-card.result.now.vsic.ring c.ring_mut.ensures.value c.args.region.now c.args.out.now _ c.poll-polled.result c.poll-polled.ensures) c.requires.size

pub returns-clause-polled : goal.returns-clause-polled
returns-clause-polled c =
    let app = c.args.self.now in
    polled_on app.frames app.cards app.cards c.args.key c.at_mut-card.result.now c.in-Some.chain _ _ _ _ _ _ _ app.sound app.lie app.logs (sym c.at_mut-card.ensures.value) c.in-Some.is c.is_right.ensures
    (its_poll c.in-Some.chain c.ring_mut.result.now c.at_mut-card.result.now.vsic.ring c.ring_mut.ensures.value c.args.region.now c.args.out.now _ c.poll-polled.result c.poll-polled.ensures) c.is_right-2.ensures

pub returns-clause-short : goal.returns-clause-short
returns-clause-short c =
    let app = c.args.self.now in
    still_short app.frames app.cards app.cards c.args.key c.at_mut-card.result.now c.in-Some.chain _ _ _ _ _ _ _ app.sound app.lie app.logs (sym c.at_mut-card.ensures.value) c.in-Some.is c.is_right.ensures
    (its_poll c.in-Some.chain c.ring_mut.result.now c.at_mut-card.result.now.vsic.ring c.ring_mut.ensures.value c.args.region.now c.args.out.now _ c.poll-polled.result c.poll-polled.ensures) c.requires.size
