use Rattle.std.proofs.Common.{◌≡◌, ◌<◌, ◌∙◌, [], true, false, rules, ℕ, List, sym, ap, subst}
use Rattle.std.specs.Prelude.{is_some, option_map}
use Rattle.ark_caps.specs.declared.capability.Capability.{Capability}
use Rattle.ark_base.specs.declared.refusal.Refusal.TheVariants as refusal
use Rattle.ark_vic.specs.Queue.{Queue, members}
use Rattle.ark_script.specs.Text.{wants_memory}
use Rattle.ark_script.specs.declared.said.Said.TheVariants as said
use Rattle.ark_held.specs.OpenLogs.{opened_on}
use Rattle.ark_logs.proofs.Openings.{area_inside, card_in_use, no_card_there, no_keys, not_opened, open_elsewhere, opens, ring_in_use, none_mapped, some_mapped}
use Rattle.ark_logs.proofs.Taken.{unused}
use Rattle.ark_logs.proofs.opening.open.Goals as goal

pub returns-in-Err-clause-acts : goal.returns-in-Err-clause-acts
returns-in-Err-clause-acts g c = record {
  events = [];
  goes_on = g.met.D.Disk.goes_none c.args.disk.now;
  does = no_keys (g.D.Disk.told c.args.disk.now) c.args.app.now c.args.kind c.args.area.now c.args.card.now (wants_memory (said.Refused c.in-Err.refusal)) c.in-Err.refusal c.in-Err.ensures.keys;
}

pub returns-in_default-clause-acts : goal.returns-in_default-clause-acts
returns-in_default-clause-acts g c = record {
  events = [];
  goes_on = g.met.D.Disk.goes_none c.args.disk.now;
  does = no_card_there (g.D.Disk.told c.args.disk.now) c.args.app.now c.args.kind c.args.area.now c.args.card.now c.in-Ok.keys.0 c.in-Ok.keys.1 c.in-Ok.ensures.keys false c.args.app.now refusal.WrongKind (search rules);
}

pub returns-then-is_some-clause-acts : goal.returns-then-is_some-clause-acts
returns-then-is_some-clause-acts g c = record {
  events = [];
  goes_on = g.met.D.Disk.goes_none c.args.disk.now;
  does = card_in_use (g.D.Disk.told c.args.disk.now) c.args.app.now c.args.kind c.args.area.now c.args.card.now c.in-Ok.keys.0 c.in-Ok.keys.1 c.in-Ok.ensures.keys c.in-Some.one.now (search rules) false (search rules);
}

pub returns-then-is_used-clause-acts : goal.returns-then-is_used-clause-acts
returns-then-is_used-clause-acts g c = record {
  events = [];
  goes_on = g.met.D.Disk.goes_none c.args.disk.now;
  does = ring_in_use (g.D.Disk.told c.args.disk.now) c.args.app.now c.args.kind c.args.area.now c.args.card.now c.in-Ok.keys.0 c.in-Ok.keys.1 c.in-Ok.ensures.keys c.in-Some.one.now (search rules) false (subst (λ (q : Queue). 0 < members q) c.ring.ensures (c.is_used.ensures.some (search rules)));
}

pub returns-then-is_some-2-clause-acts : goal.returns-then-is_some-2-clause-acts
returns-then-is_some-2-clause-acts g c =
    let cards = c.args.app.now.devices.cards in
    let found = opened_on cards c.in-Ok.keys.0.grant c.args.app.now.labels in
    let some : is_some (option_map (λ (p : List ℕ × Capability). p.1) found) ≡ true = search rules in
    let on = some_mapped (λ (p : List ℕ × Capability). p.1) found some in
    record {
      events = [];
      goes_on = g.met.D.Disk.goes_none c.args.disk.now;
      does = open_elsewhere (g.D.Disk.told c.args.disk.now) c.args.app.now c.args.kind c.args.area.now c.args.card.now c.in-Ok.keys.0 c.in-Ok.keys.1 c.in-Ok.ensures.keys c.in-Some.one.now (search rules) false on.0 on.1;
    }

pub open_on_card-requires-clause-inside : goal.open_on_card-requires-clause-inside
open_on_card-requires-clause-inside g c = area_inside (g.D.Disk.told c.args.disk.now).blocks c.args.app.now.areas c.args.app.now.labels c.args.kind c.args.area.now c.in-Ok.keys.0 c.in-Ok.keys.1 _ c.in-Ok.ensures.keys c.requires.inside

pub returns-in-Err-open_on_card-clause-acts : goal.returns-in-Err-open_on_card-clause-acts
returns-in-Err-open_on_card-clause-acts g c =
    let found = opened_on c.args.app.now.devices.cards c.in-Ok.keys.0.grant c.args.app.now.labels in
    let none : is_some (option_map (λ (p : List ℕ × Capability). p.1) found) ≡ false = search rules in
    let free : is_some c.in-Some.one.now.log ≡ false = search rules in
    let unused : c.is_used.result ≡ false = search rules in
    let went = c.in-Err-open_on_card.ensures.went in
    rw c.refusal_of.ensures.refusal (record {
      events = went.events;
      goes_on = went.goes_on;
      does = not_opened (g.D.Disk.told c.open_on_card.new.disk) c.args.app.now c.args.kind c.args.area.now c.args.card.now c.in-Ok.keys.0 c.in-Ok.keys.1 c.in-Ok.ensures.keys c.in-Some.one.now (search rules) free (sym (ap (λ (q : Queue). members q) c.ring.ensures) ∙ c.is_used.ensures.none unused) (none_mapped (λ (p : List ℕ × Capability). p.1) found none) _ c.in-Err-open_on_card.fault went.events (g.met.D.Disk.size_is c.open_on_card.new.disk) (g.met.D.Disk.blocks_are c.open_on_card.new.disk) went.does;
    })

pub returns-in-Ok-open_on_card-clause-acts : goal.returns-in-Ok-open_on_card-clause-acts
returns-in-Ok-open_on_card-clause-acts g c =
    let found = opened_on c.args.app.now.devices.cards c.in-Ok.keys.0.grant c.args.app.now.labels in
    let none : is_some (option_map (λ (p : List ℕ × Capability). p.1) found) ≡ false = search rules in
    let free : is_some c.in-Some.one.now.log ≡ false = search rules in
    let unused : c.is_used.result ≡ false = search rules in
    let went = c.in-Ok-open_on_card.ensures.went in
    rw c.from.ensures (record {
      events = went.events;
      goes_on = went.goes_on;
      does = opens (g.D.Disk.told c.open_on_card.new.disk) c.args.app.now c.args.kind c.args.area.now c.args.card.now c.in-Ok.keys.0 c.in-Ok.keys.1 c.in-Ok.ensures.keys c.in-Some.one.now (search rules) free (sym (ap (λ (q : Queue). members q) c.ring.ensures) ∙ c.is_used.ensures.none unused) (none_mapped (λ (p : List ℕ × Capability). p.1) found none) _ (c.in-Ok-open_on_card.first, c.in-Ok-open_on_card.count) went.events went.does (g.met.D.Disk.size_is c.open_on_card.new.disk) (g.met.D.Disk.blocks_are c.open_on_card.new.disk)
          c.loading_laws.ensures.runs;
    })

pub open_on_card-requires-clause-unused : goal.open_on_card-requires-clause-unused
open_on_card-requires-clause-unused g c =
    let none : c.is_used.result ≡ false = search rules in
    unused c.args.app.now.devices.cards c.in-Ok.keys.1 c.in-Some.one.now (search rules) (sym (ap (λ (q : Queue). members q) c.ring.ensures) ∙ c.is_used.ensures.none none)
