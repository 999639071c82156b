use Rattle.std.proofs.Common.{true, false, [], subst, refl, inr}
use Rattle.ark_media.specs.Calls.{Makes}
use Rattle.ark_media.proofs.Composing.{goes_kept}
use Rattle.ark_media.proofs.Planning.{makes_failed}
use Rattle.ark_table.specs.Superblock.{format_calls}
use Rattle.ark_cli.specs.Opening.{new_device}
use Rattle.ark_cli.proofs.Openings.{since_made, since_then}
use Rattle.ark_cli.proofs.NoneFailed.{unfailed_then, unfailed_made, unfailed_kept}
use Rattle.ark_cli.proofs.opening.make_new.Goals as goal

pub returns-in-Ok-format-clause-formatted : goal.returns-in-Ok-format-clause-formatted
returns-in-Ok-format-clause-formatted g c =
    let f = c.in-Ok-format.ensures.went in
    let w0 = c.args.world.now in
    let w1 = c.make.new.self in
    let w2 = c.format.new.disk in
    let start = new_device c.args.blocks in
    let made = since_made c.args.blocks c.args.device.now (g.W.Disk.told w0) (g.W.Disk.told w1) (g.W.Outside.beside w0) (g.W.Outside.beside w1) c.in-Ok.ensures.begun c.in-Ok.ensures.size c.make.ensures.disk c.in-Ok.ensures.asked c.in-Ok.ensures.cause.worked c.make.ensures.keeps in
    record {
      events = f.events;
      calls = subst (λ n. Makes (format_calls n) true f.events) c.in-Ok.ensures.size f.makes;
      since = since_then start c.args.device.now [] f.events [] [] (g.W.Disk.told w0) (g.W.Disk.told w1) (g.W.Disk.told w2) (g.W.Outside.beside w0) (g.W.Outside.beside w1) (g.W.Outside.beside w2) made
          (goes_kept (g.W.Disk.told w1) (g.W.Disk.told w2) (g.W.Outside.beside w1) (g.W.Outside.beside w2) f.events (g.met.W.Disk.goes_told w1 w2 f.events f.goes_on) (g.met.W.Outside.goes_means w1 w2 f.events f.goes_on));
    }

pub returns-in-Err-format-clause-failed : goal.returns-in-Err-format-clause-failed
returns-in-Err-format-clause-failed g c =
    let f = c.in-Err-format.ensures.went in
    let w0 = c.args.world.now in
    let w1 = c.make.new.self in
    let w2 = c.format.new.disk in
    let start = new_device c.args.blocks in
    let calls = subst (λ n. Makes (format_calls n) false f.events) c.in-Ok.ensures.size f.makes in
    let made = since_made c.args.blocks c.args.device.now (g.W.Disk.told w0) (g.W.Disk.told w1) (g.W.Outside.beside w0) (g.W.Outside.beside w1) c.in-Ok.ensures.begun c.in-Ok.ensures.size c.make.ensures.disk c.in-Ok.ensures.asked c.in-Ok.ensures.cause.worked c.make.ensures.keeps in (
      refl,
      inr (record {
        events = f.events;
        begins = inr (false, calls);
        since = since_then start c.args.device.now [] f.events [] [] (g.W.Disk.told w0) (g.W.Disk.told w1) (g.W.Disk.told w2) (g.W.Outside.beside w0) (g.W.Outside.beside w1) (g.W.Outside.beside w2) made
            (goes_kept (g.W.Disk.told w1) (g.W.Disk.told w2) (g.W.Outside.beside w1) (g.W.Outside.beside w2) f.events (g.met.W.Disk.goes_told w1 w2 f.events f.goes_on) (g.met.W.Outside.goes_means w1 w2 f.events f.goes_on));
        fails = makes_failed (format_calls c.args.blocks) f.events calls;
        heeds = tt;
      }),
    )

pub returns-in-Ok-format-clause-unfailed : goal.returns-in-Ok-format-clause-unfailed
returns-in-Ok-format-clause-unfailed g c =
    let f = c.in-Ok-format.ensures.went in
    let b0 = g.W.Outside.beside c.args.world.now in
    let b1 = g.W.Outside.beside c.make.new.self in
    let b2 = g.W.Outside.beside c.format.new.disk in
    unfailed_then b0 b1 b2 (unfailed_made b0 b1 c.make.ensures.keeps c.in-Ok.ensures.cause.worked) (unfailed_kept b1 b2 (g.met.W.Outside.goes_means c.make.new.self c.format.new.disk f.events f.goes_on))
