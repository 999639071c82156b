use Rattle.std.proofs.Common.{◌∙◌, refl, inr}
use Rattle.ark_cli.specs.Opening.{new_device}
use Rattle.ark_cli.proofs.Openings.{ready_line, opens_ready, opens_unshown, opens_not}
use Rattle.ark_cli.proofs.NoneFailed.{unfailed_then, unfailed_put}
use Rattle.ark_cli.proofs.opening.open_new.Goals as goal

pub returns-in-Ok-put-clause-ready : goal.returns-in-Ok-put-clause-ready
returns-in-Ok-put-clause-ready g c =
    let made = c.in-Ok.ensures.formatted in
    let w0 = c.args.world.now in
    let w1 = c.make_new.new.world in
    let w2 = c.put.new.self in
    opens_ready (new_device c.args.blocks) c.args.device.now (g.W.Disk.told w0) (g.W.Disk.told w1) (g.W.Disk.told w2) (g.W.Outside.beside w0) (g.W.Outside.beside w1) (g.W.Outside.beside w2)
    made.events made.calls 0 refl _ (ready_line c.args.blocks 0 _ _ _ c.say.ensures.said (c.bytes.ensures ∙ c.print.ensures.text))
    made.since c.put.ensures.keeps c.put.ensures.cause.later c.in-Ok-put.ensures.puts

pub returns-in-Err-put-clause-failed : goal.returns-in-Err-put-clause-failed
returns-in-Err-put-clause-failed g c =
    let made = c.in-Ok.ensures.formatted in
    let w0 = c.args.world.now in
    let w1 = c.make_new.new.world in
    let w2 = c.put.new.self in
    inr (inr (
      new_device c.args.blocks,
      refl,
      refl,
      opens_unshown (new_device c.args.blocks) c.args.device.now (g.W.Disk.told w0) (g.W.Disk.told w1) (g.W.Disk.told w2) (g.W.Outside.beside w0) (g.W.Outside.beside w1) (g.W.Outside.beside w2)
          made.events made.calls 0 refl _ (ready_line c.args.blocks 0 _ _ _ c.say.ensures.said (c.bytes.ensures ∙ c.print.ensures.text))
          made.since c.put.ensures.keeps c.put.ensures.cause.later c.in-Err-put.ensures.puts,
    ))

pub returns-in-Err-clause-failed : goal.returns-in-Err-clause-failed
returns-in-Err-clause-failed g c = opens_not c.args.blocks c.args.device.now _ _ _ _ c.in-Err.status c.in-Err.ensures.failed

pub returns-in-Ok-put-clause-unfailed : goal.returns-in-Ok-put-clause-unfailed
returns-in-Ok-put-clause-unfailed g c =
    let b0 = g.W.Outside.beside c.args.world.now in
    let b1 = g.W.Outside.beside c.make_new.new.world in
    let b2 = g.W.Outside.beside c.put.new.self in
    unfailed_then b0 b1 b2 c.in-Ok.ensures.unfailed (unfailed_put b1 b2 c.put.ensures.keeps c.in-Ok-put.ensures.cause.worked)
