use Rattle.std.proofs.Common.{◌≡◌, ◌+◌, length, take, sym, ◌∙◌, subst, inl, inr, arith, rules}
use Rattle.std.proofs.lemmas.List.{length-take}
use Rattle.ark_media.specs.Calls.{Fetches}
use Rattle.ark_media.proofs.Composing.{takes_fetched, takes_none, still_none}
use Rattle.ark_host.specs.Inside.{IsInside}
use Rattle.ark_cli.proofs.Fetches.{script_end, fetched_none, fetched_more, fetched_nothing, run_failed, run_long, run_source, run_finished, end_after}
use Rattle.ark_cli.proofs.NoneFailed.{none_failed, unfailed_then, unfailed_fetched}
use Rattle.ark_cli.proofs.script.run_script.Goals as goal

pub loop-count-init : goal.loop-count-init
loop-count-init g c = record {
  going = fetched_none (g.W.Disk.told c.args.world.now) (g.W.Outside.beside c.args.world.now) c.args.host.now c.args.line.now;
  few = omega arith;
  unfailed = none_failed (g.W.Outside.beside c.args.world.now);
  sound = c.requires.sound;
  inside = c.requires.inside;
  counted = omega (arith, c.requires.none);
}

pub loop-count-preserved : goal.loop-count-preserved
loop-count-preserved g c = record {
  going = fetched_more (g.W.Disk.told c.args.world.now) (g.W.Disk.told c.loop-count.world) (g.W.Disk.told c.turn.new.world)
      (g.W.Outside.beside c.args.world.now) (g.W.Outside.beside c.loop-count.world) (g.W.Outside.beside c.turn.new.world)
      c.args.host.now c.loop-count.host c.args.line.now c.loop-count.line c.loop-count.count c.loop-count.invariant.going _ c.turn.new.host c.turn.new.line c.in-Ok.more c.in-Ok.ensures.fetches;
  few = omega (arith, length-take c.min-room.result c.loop-count.chunk, c.min-room.ensures, c.loop-count.invariant.few, c.in-Ok.ensures.bound);
  unfailed = unfailed_then (g.W.Outside.beside c.args.world.now) (g.W.Outside.beside c.loop-count.world) (g.W.Outside.beside c.turn.new.world) c.loop-count.invariant.unfailed c.in-Ok.ensures.unfailed;
  sound = c.turn.ensures.sound;
  inside = subst (λ n. IsInside n c.turn.new.host) c.loop-count.invariant.going.goes.tells.blocks c.turn.ensures.inside;
  counted = omega (arith, c.loop-count.invariant.counted, c.in-Ok.ensures.counted);
}

pub returns-in-Err-clause-runs : goal.returns-in-Err-clause-runs
returns-in-Err-clause-runs g c =
    run_failed (g.W.Disk.told c.args.world.now) (g.W.Disk.told c.loop-count.world) (g.W.Disk.told c.turn.new.world)
    (g.W.Outside.beside c.args.world.now) (g.W.Outside.beside c.loop-count.world) (g.W.Outside.beside c.turn.new.world)
    c.args.host.now c.loop-count.host c.args.line.now c.loop-count.line c.loop-count.count c.loop-count.invariant.going
    (length (take c.min-room.result c.loop-count.chunk)) c.turn.new.host c.turn.new.line c.in-Err.status c.in-Err.ensures.cause
    (omega (arith, length-take c.min-room.result c.loop-count.chunk, c.min-room.ensures, c.loop-count.invariant.few))
    c.in-Err.ensures.fetches

pub returns-in-Ok-eq0-clause-runs : goal.returns-in-Ok-eq0-clause-runs
returns-in-Ok-eq0-clause-runs g c =
    let t = c.in-Ok-eq0.ensures.fetches in
    let zero : c.in-Ok-eq0.field-0 ≡ 0 = search rules in
    let now = fetched_more (g.W.Disk.told c.args.world.now) (g.W.Disk.told c.loop-count.world) (g.W.Disk.told c.turn.new.world)
    (g.W.Outside.beside c.args.world.now) (g.W.Outside.beside c.loop-count.world) (g.W.Outside.beside c.turn.new.world)
    c.args.host.now c.loop-count.host c.args.line.now c.loop-count.line c.loop-count.count c.loop-count.invariant.going
    (length (take c.min-room.result c.loop-count.chunk)) c.turn.new.host c.turn.new.line c.in-Ok-eq0.field-0 t in
    run_finished (g.W.Disk.told c.args.world.now) (g.W.Disk.told c.turn.new.world) (g.W.Disk.told c.end_script.new.world)
    (g.W.Outside.beside c.args.world.now) (g.W.Outside.beside c.turn.new.world) (g.W.Outside.beside c.end_script.new.world)
    c.args.host.now c.turn.new.host c.args.line.now c.turn.new.line (c.loop-count.count + c.in-Ok-eq0.field-0) now
    c.end_script.result (t.at_end zero) c.end_script.ensures.feeds_last
    (elim c.end_script.ensures.cause [ inl x ↦ inl x.0 | inr x ↦ inr x.0 ])
    (omega (arith, zero, c.loop-count.invariant.few))

pub returns-in-Err-fetch-clause-runs : goal.returns-in-Err-fetch-clause-runs
returns-in-Err-fetch-clause-runs g c =
    run_source (g.W.Disk.told c.args.world.now) (g.W.Disk.told c.loop-count.world) (g.W.Disk.told c.fetch.new.self)
    (g.W.Outside.beside c.args.world.now) (g.W.Outside.beside c.loop-count.world) (g.W.Outside.beside c.fetch.new.self)
    c.args.host.now c.loop-count.host c.args.line.now c.loop-count.line c.loop-count.count c.loop-count.invariant.going
    c.in-Err-fetch.ensures.none c.fetch.ensures.rests c.fetch.ensures.keeps c.fetch.ensures.cause.later c.loop-count.invariant.few

pub returns-in-Ok-eq0-fetch-clause-runs : goal.returns-in-Ok-eq0-fetch-clause-runs
returns-in-Ok-eq0-fetch-clause-runs g c =
    let b1 = g.W.Outside.beside c.loop-count.world in
    let b2 = g.W.Outside.beside c.fetch.new.self in
    let zero : c.in-Ok-eq0-fetch.field-0 ≡ 0 = search rules in
    let f = subst (λ n. Fetches b1.script b2.script n c.fetch.new.out) zero c.in-Ok-eq0-fetch.ensures.bytes in
    let now = fetched_nothing (g.W.Disk.told c.args.world.now) (g.W.Disk.told c.loop-count.world) (g.W.Disk.told c.fetch.new.self)
    (g.W.Outside.beside c.args.world.now) b1 b2
    c.args.host.now c.loop-count.host c.args.line.now c.loop-count.line c.loop-count.count c.loop-count.invariant.going
    c.fetch.ensures.rests c.fetch.ensures.keeps c.fetch.ensures.cause.later (takes_fetched b1.script b2.script 0 c.fetch.new.out f) in
    run_finished (g.W.Disk.told c.args.world.now) (g.W.Disk.told c.fetch.new.self) (g.W.Disk.told c.end_script-in-Ok-eq0-fetch.new.world)
    (g.W.Outside.beside c.args.world.now) b2 (g.W.Outside.beside c.end_script-in-Ok-eq0-fetch.new.world)
    c.args.host.now c.loop-count.host c.args.line.now c.loop-count.line c.loop-count.count now
    c.end_script-in-Ok-eq0-fetch.result (end_after b1.script b2.script b2.script c.fetch.new.out f (takes_none b2.script b2.script (still_none b2.script)))
    c.end_script-in-Ok-eq0-fetch.ensures.feeds_last
    (elim c.end_script-in-Ok-eq0-fetch.ensures.cause [ inl x ↦ inl x.0 | inr x ↦ inr x.0 ])
    c.loop-count.invariant.few

pub returns-in-Ok-fetch-clause-runs : goal.returns-in-Ok-fetch-clause-runs
returns-in-Ok-fetch-clause-runs g c =
    run_long (g.W.Disk.told c.args.world.now) (g.W.Disk.told c.loop-count.world) (g.W.Disk.told c.fetch.new.self)
    (g.W.Outside.beside c.args.world.now) (g.W.Outside.beside c.loop-count.world) (g.W.Outside.beside c.fetch.new.self)
    c.args.host.now c.loop-count.host c.args.line.now c.loop-count.line c.loop-count.count c.loop-count.invariant.going
    c.in-Ok-fetch.field-0 c.fetch.new.out (omega (arith, c.loop-count.invariant.few)) (omega (arith, c.fetch.auto.out, length-take 1 c.loop-count.chunk)) (search rules)
    c.in-Ok-fetch.ensures.bytes c.fetch.ensures.rests c.fetch.ensures.keeps c.fetch.ensures.cause.later

pub returns-in-Ok-eq0-clause-cause : goal.returns-in-Ok-eq0-clause-cause
returns-in-Ok-eq0-clause-cause g c =
    let b0 = g.W.Outside.beside c.args.world.now in
    let b1 = g.W.Outside.beside c.loop-count.world in
    let b2 = g.W.Outside.beside c.turn.new.world in
    script_end b0 b2 (g.W.Outside.beside c.end_script.new.world) c.end_script.result (unfailed_then b0 b1 b2 c.loop-count.invariant.unfailed c.in-Ok-eq0.ensures.unfailed) c.end_script.ensures.cause

pub returns-in-Ok-eq0-fetch-clause-cause : goal.returns-in-Ok-eq0-fetch-clause-cause
returns-in-Ok-eq0-fetch-clause-cause g c =
    let b0 = g.W.Outside.beside c.args.world.now in
    let b1 = g.W.Outside.beside c.loop-count.world in
    let b2 = g.W.Outside.beside c.fetch.new.self in
    script_end b0 b2 (g.W.Outside.beside c.end_script-in-Ok-eq0-fetch.new.world) c.end_script-in-Ok-eq0-fetch.result
    (unfailed_then b0 b1 b2 c.loop-count.invariant.unfailed (unfailed_fetched b1 b2 c.fetch.ensures.keeps c.in-Ok-eq0-fetch.ensures.cause.worked)) c.end_script-in-Ok-eq0-fetch.ensures.cause

pub turn-requires-clause-inside : goal.turn-requires-clause-inside
turn-requires-clause-inside g c = subst (λ n. IsInside n c.loop-count.host) (sym c.loop-count.invariant.going.goes.tells.blocks) c.loop-count.invariant.inside

pub end_script-requires-clause-inside : goal.end_script-requires-clause-inside
end_script-requires-clause-inside g c = subst (λ n. IsInside n c.turn.new.host) (sym c.in-Ok-eq0.ensures.fetches.goes.tells.blocks) c.turn.ensures.inside

pub end_script-requires-in-Ok-eq0-fetch-clause-inside : goal.end_script-requires-in-Ok-eq0-fetch-clause-inside
end_script-requires-in-Ok-eq0-fetch-clause-inside g c = subst (λ n. IsInside n c.loop-count.host) (sym (c.fetch.ensures.rests.blocks ∙ c.loop-count.invariant.going.goes.tells.blocks)) c.loop-count.invariant.inside
