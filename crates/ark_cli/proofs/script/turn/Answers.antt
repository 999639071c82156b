use Rattle.std.proofs.Common.{length, arith, sym, subst}
use Rattle.ark_host.specs.Inside.{IsInside}
use Rattle.ark_cli.proofs.Fetches.{fetch_failed, fetches_fed, fetches_cut}
use Rattle.ark_cli.proofs.NoneFailed.{unfailed_then, unfailed_fetched}
use Rattle.ark_cli.proofs.script.turn.Goals as goal

pub returns-in-Err-clause-fetches : goal.returns-in-Err-clause-fetches
returns-in-Err-clause-fetches g c =
    let w0 = c.args.world.now in
    let w1 = c.fetch.new.self in
    fetch_failed (length c.args.chunk.now) (g.W.Disk.told w0) (g.W.Disk.told w1) (g.W.Outside.beside w0) (g.W.Outside.beside w1) c.args.host.now c.args.line.now
    c.in-Err.ensures.none c.fetch.ensures.rests c.fetch.ensures.keeps c.fetch.ensures.cause.later

pub returns-in-Ok-run_bytes-clause-fetches : goal.returns-in-Ok-run_bytes-clause-fetches
returns-in-Ok-run_bytes-clause-fetches g c =
    let w0 = c.args.world.now in
    let w1 = c.fetch.new.self in
    let w2 = c.run_bytes.new.world in
    fetches_fed (length c.args.chunk.now) (g.W.Disk.told w0) (g.W.Disk.told w1) (g.W.Disk.told w2) (g.W.Outside.beside w0) (g.W.Outside.beside w1) (g.W.Outside.beside w2)
    c.args.host.now c.run_bytes.new.host c.args.line.now c.run_bytes.new.line c.in-Ok.count c.fetch.new.out (omega (arith, c.fetch.auto.out))
    c.in-Ok.ensures.bytes c.fetch.ensures.rests c.fetch.ensures.keeps c.fetch.ensures.cause.later c.in-Ok-run_bytes.ensures.feeds

pub returns-in-Err-run_bytes-clause-fetches : goal.returns-in-Err-run_bytes-clause-fetches
returns-in-Err-run_bytes-clause-fetches g c =
    let w0 = c.args.world.now in
    let w1 = c.fetch.new.self in
    let w2 = c.run_bytes.new.world in
    fetches_cut (length c.args.chunk.now) (g.W.Disk.told w0) (g.W.Disk.told w1) (g.W.Disk.told w2) (g.W.Outside.beside w0) (g.W.Outside.beside w1) (g.W.Outside.beside w2)
    c.args.host.now c.run_bytes.new.host c.args.line.now c.run_bytes.new.line c.in-Ok.count c.fetch.new.out (omega (arith, c.fetch.auto.out))
    c.in-Ok.ensures.bytes c.fetch.ensures.rests c.fetch.ensures.keeps c.fetch.ensures.cause.later c.in-Err-run_bytes.ensures.feeds

pub returns-in-Ok-run_bytes-clause-unfailed : goal.returns-in-Ok-run_bytes-clause-unfailed
returns-in-Ok-run_bytes-clause-unfailed g c =
    let b0 = g.W.Outside.beside c.args.world.now in
    let b1 = g.W.Outside.beside c.fetch.new.self in
    unfailed_then b0 b1 (g.W.Outside.beside c.run_bytes.new.world) (unfailed_fetched b0 b1 c.fetch.ensures.keeps c.in-Ok.ensures.cause.worked) c.in-Ok-run_bytes.ensures.unfailed

pub run_bytes-requires-clause-inside : goal.run_bytes-requires-clause-inside
run_bytes-requires-clause-inside g c = subst (λ n. IsInside n c.args.host.now) (sym c.fetch.ensures.rests.blocks) c.requires.inside

pub returns-in-Ok-run_bytes-clause-inside : goal.returns-in-Ok-run_bytes-clause-inside
returns-in-Ok-run_bytes-clause-inside g c = subst (λ n. IsInside n c.run_bytes.new.host) c.fetch.ensures.rests.blocks c.run_bytes.ensures.inside

pub returns-in-Err-run_bytes-clause-inside : goal.returns-in-Err-run_bytes-clause-inside
returns-in-Err-run_bytes-clause-inside g c = subst (λ n. IsInside n c.run_bytes.new.host) c.fetch.ensures.rests.blocks c.run_bytes.ensures.inside
