use Rattle.std.proofs.Common.{[], take, rules}
use Rattle.ark_own.proofs.Replies.{shows}
use Rattle.ark_logs.proofs.Walks as of
use Rattle.ark_logs.proofs.walking.walk.Goals as goal

pub returns-in-Err-clause-acts : goal.returns-in-Err-clause-acts
returns-in-Err-clause-acts g c =
    let told = g.D.Disk.told c.args.disk.now in
    record {
      events = [];
      goes_on = g.met.D.Disk.goes_none c.args.disk.now;
      does = shows told c.args.app.now c.args.app.now _ [] _ _ _ _ c.say.ensures.said c.say.ensures.none
          (of.not_open told c.args.app.now c.args.label.now c.args.n c.in-Err.refusal c.in-Err.ensures.found);
    }

pub returns-in_default-clause-acts : goal.returns-in_default-clause-acts
returns-in_default-clause-acts g c =
    let told = g.D.Disk.told c.args.disk.now in
    record {
      events = [];
      goes_on = g.met.D.Disk.goes_none c.args.disk.now;
      does = shows told c.args.app.now c.args.app.now _ [] _ _ _ _ c.say-in_default.ensures.said c.say-in_default.ensures.none
          (of.no_area told c.args.app.now c.args.label.now c.args.n c.in-Ok.at c.in-Ok.ensures.found (search rules));
    }

pub returns-then-failed-clause-acts : goal.returns-then-failed-clause-acts
returns-then-failed-clause-acts g c =
    let told = g.D.Disk.told c.args.disk.now in
    record {
      events = [];
      goes_on = g.met.D.Disk.goes_none c.args.disk.now;
      does = shows told c.args.app.now c.args.app.now _ [] _ _ _ _ c.say-then-failed.ensures.said c.say-then-failed.ensures.none
          (of.has_failed told c.args.app.now c.args.label.now c.args.n c.in-Ok.at c.in-Ok.ensures.found c.in-Some.chain.now c.in-Some.area.now c.in-Some.ensures.found (search rules));
    }

pub read_entry-requires-clause-inside : goal.read_entry-requires-clause-inside
read_entry-requires-clause-inside g c =
    of.blocks_below c.args.app.now.devices.cards c.args.app.now.areas c.in-Ok.at c.in-Some.chain.now c.in-Some.area.now c.in-Some.ensures.found (g.D.Disk.told c.args.disk.now).blocks c.requires.inside

pub returns-in-Ok-read_entry-clause-acts : goal.returns-in-Ok-read_entry-clause-acts
returns-in-Ok-read_entry-clause-acts g c =
    let went = c.in-Ok-read_entry.ensures.went in
    let told = g.D.Disk.told c.read_entry.new.disk in
    let said = c.say-in-Ok-read_entry.ensures in
    record {
      events = went.events;
      goes_on = went.goes_on;
      does = shows told c.args.app.now c.args.app.now _ went.events _ _ _ _ said.said (λ i. take (said.len i) (said.buffer i))
          (of.walked told c.args.app.now c.args.label.now c.args.n c.in-Ok.at c.in-Ok.ensures.found c.in-Some.chain.now c.in-Some.area.now c.in-Some.ensures.found (search rules)
          (g.met.D.Disk.size_is c.read_entry.new.disk) c.in-Ok-read_entry.len c.read_entry.new.out.buffer went.events went.does);
    }

pub returns-in-Err-NoEntry-clause-acts : goal.returns-in-Err-NoEntry-clause-acts
returns-in-Err-NoEntry-clause-acts g c =
    let went = c.in-Err-NoEntry.ensures.went in
    let told = g.D.Disk.told c.read_entry.new.disk in
    let said = c.say-in-Err-NoEntry.ensures in
    record {
      events = went.events;
      goes_on = went.goes_on;
      does = shows told c.args.app.now c.args.app.now _ went.events _ _ _ _ said.said said.none
          (of.none_walked told c.args.app.now c.args.label.now c.args.n c.in-Ok.at c.in-Ok.ensures.found c.in-Some.chain.now c.in-Some.area.now c.in-Some.ensures.found (search rules)
          c.in-Err-NoEntry.field-0 c.read_entry.new.out.buffer went.events c.in-Err-NoEntry.field-0-is went.does);
    }

pub returns-in-Err-DeviceFault-clause-acts : goal.returns-in-Err-DeviceFault-clause-acts
returns-in-Err-DeviceFault-clause-acts g c =
    let went = c.in-Err-DeviceFault.ensures.went in
    let told = g.D.Disk.told c.read_entry.new.disk in
    let said = c.say-in-Err-DeviceFault.ensures in
    record {
      events = went.events;
      goes_on = went.goes_on;
      does = shows told c.args.app.now c.args.app.now _ went.events _ _ _ _ said.said said.none
          (of.not_walked told c.args.app.now c.args.label.now c.args.n c.in-Ok.at c.in-Ok.ensures.found c.in-Some.chain.now c.in-Some.area.now c.in-Some.ensures.found (search rules)
          (g.met.D.Disk.size_is c.read_entry.new.disk) c.in-Err-DeviceFault.field-0 c.read_entry.new.out.buffer went.events c.in-Err-DeviceFault.field-0-is went.does);
    }
