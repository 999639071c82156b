use Rattle.std.proofs.Common.{true, refl, sym, subst, inr, List}
use Rattle.std.specs.Prelude.{Option}
use Rattle.ark_table.specs.Area.{Area}
use Rattle.ark_base.specs.declared.status.Status.{Status}
use Rattle.ark_cli.specs.Ending.{Checks, IsCause}
use Rattle.ark_cli.proofs.Attaching.{image_of, since_attached, since_read, load_cause}
use Rattle.ark_cli.proofs.Reporting.{unloaded, roomless, put_whole, put_part}
use Rattle.ark_cli.proofs.checking.check_device.Goals as goal

pub returns-in-Err-clause-checks : goal.returns-in-Err-clause-checks
returns-in-Err-clause-checks g c =
    let w0 = c.args.world.now in
    let w1 = c.attach.new.self in
    let w2 = c.load.new.disk in
    let image = image_of (g.W.Disk.told w1) in
    let read = c.in-Err.ensures.went in
    let f = read.went in
    let opened = since_attached c.args.device.now (g.W.Disk.told w0) (g.W.Disk.told w1) (g.W.Outside.beside w0) (g.W.Outside.beside w1) c.in-Ok.ensures.begun (λ h is. g.met.W.Disk.size_is w1 h is) c.attach.ensures.disk c.in-Ok.ensures.asked c.in-Ok.ensures.cause.worked c.attach.ensures.keeps in
    let since = since_read c.args.device.now image f.events (g.W.Disk.told w0) (g.W.Disk.told w1) (g.W.Disk.told w2) (g.W.Outside.beside w0) (g.W.Outside.beside w1) (g.W.Outside.beside w2) opened (g.met.W.Disk.goes_told w1 w2 f.events f.goes_on) (g.met.W.Outside.goes_means w1 w2 f.events f.goes_on) in
    subst (λ (s : Status). Checks c.args.device.now (g.W.Disk.told w0) (g.W.Disk.told w2) (g.W.Outside.beside w0) (g.W.Outside.beside w2) s) (sym c.status_of.ensures)
    (inr (image, unloaded image c.args.device.now (g.W.Disk.told w0) (g.W.Disk.told w2) (g.W.Outside.beside w0) (g.W.Outside.beside w2) read.count _ f.events f.makes since c.in-Err.fault refl c.in-Err.ensures.damaged))

pub returns-in-Err-clause-cause : goal.returns-in-Err-clause-cause
returns-in-Err-clause-cause g c =
    let w0 = c.args.world.now in
    let w1 = c.attach.new.self in
    let w2 = c.load.new.disk in
    let read = c.in-Err.ensures.went in
    let f = read.went in
    let opened = since_attached c.args.device.now (g.W.Disk.told w0) (g.W.Disk.told w1) (g.W.Outside.beside w0) (g.W.Outside.beside w1) c.in-Ok.ensures.begun (λ h is. g.met.W.Disk.size_is w1 h is) c.attach.ensures.disk c.in-Ok.ensures.asked c.in-Ok.ensures.cause.worked c.attach.ensures.keeps in
    let since = since_read c.args.device.now (image_of (g.W.Disk.told w1)) f.events (g.W.Disk.told w0) (g.W.Disk.told w1) (g.W.Disk.told w2) (g.W.Outside.beside w0) (g.W.Outside.beside w1) (g.W.Outside.beside w2) opened (g.met.W.Disk.goes_told w1 w2 f.events f.goes_on) (g.met.W.Outside.goes_means w1 w2 f.events f.goes_on) in
    subst (λ (s : Status). IsCause (g.W.Disk.told w0) (g.W.Disk.told w2) (g.W.Outside.beside w0) (g.W.Outside.beside w2) s) (sym c.status_of.ensures)
    (load_cause (image_of (g.W.Disk.told w1)) read.count f.events (List (Option Area)) c.in-Err.fault (g.W.Disk.told w0) (g.W.Disk.told w2) (g.W.Outside.beside w0) (g.W.Outside.beside w2) f.makes since.cause)

pub returns-in_default-with_capacity-clause-checks : goal.returns-in_default-with_capacity-clause-checks
returns-in_default-with_capacity-clause-checks g c =
    let w0 = c.args.world.now in
    let w1 = c.attach.new.self in
    let w2 = c.load.new.disk in
    let image = image_of (g.W.Disk.told w1) in
    let read = c.in-Ok-load.ensures.went in
    let f = read.went in
    let opened = since_attached c.args.device.now (g.W.Disk.told w0) (g.W.Disk.told w1) (g.W.Outside.beside w0) (g.W.Outside.beside w1) c.in-Ok.ensures.begun (λ h is. g.met.W.Disk.size_is w1 h is) c.attach.ensures.disk c.in-Ok.ensures.asked c.in-Ok.ensures.cause.worked c.attach.ensures.keeps in
    let since = since_read c.args.device.now image f.events (g.W.Disk.told w0) (g.W.Disk.told w1) (g.W.Disk.told w2) (g.W.Outside.beside w0) (g.W.Outside.beside w1) (g.W.Outside.beside w2) opened (g.met.W.Disk.goes_told w1 w2 f.events f.goes_on) (g.met.W.Outside.goes_means w1 w2 f.events f.goes_on) in
    inr (image, roomless image c.args.device.now (g.W.Disk.told w0) (g.W.Disk.told w2) (g.W.Outside.beside w0) (g.W.Outside.beside w2) read.count true f.events f.makes since refl)

pub returns-in-Ok-put_report-clause-checks : goal.returns-in-Ok-put_report-clause-checks
returns-in-Ok-put_report-clause-checks g c =
    let w0 = c.args.world.now in
    let w1 = c.attach.new.self in
    let w2 = c.load.new.disk in
    let w3 = c.put_report.new.world in
    let image = image_of (g.W.Disk.told w1) in
    let read = c.in-Ok-load.ensures.went in
    let f = read.went in
    let opened = since_attached c.args.device.now (g.W.Disk.told w0) (g.W.Disk.told w1) (g.W.Outside.beside w0) (g.W.Outside.beside w1) c.in-Ok.ensures.begun (λ h is. g.met.W.Disk.size_is w1 h is) c.attach.ensures.disk c.in-Ok.ensures.asked c.in-Ok.ensures.cause.worked c.attach.ensures.keeps in
    let since = since_read c.args.device.now image f.events (g.W.Disk.told w0) (g.W.Disk.told w1) (g.W.Disk.told w2) (g.W.Outside.beside w0) (g.W.Outside.beside w1) (g.W.Outside.beside w2) opened (g.met.W.Disk.goes_told w1 w2 f.events f.goes_on) (g.met.W.Outside.goes_means w1 w2 f.events f.goes_on) in
    inr (image, put_whole image c.args.device.now (g.W.Disk.told w0) (g.W.Disk.told w2) (g.W.Outside.beside w0) (g.W.Outside.beside w2) read.count true f.events f.makes since (g.W.Disk.told w3) (g.W.Outside.beside w3) _ refl c.in-Ok-load.ensures.table _ c.in-Ok-put_report.ensures.puts (g.met.W.Disk.blocks_are w3) refl)

pub returns-clause-checks : goal.returns-clause-checks
returns-clause-checks g c =
    let w0 = c.args.world.now in
    let w1 = c.attach.new.self in
    let w2 = c.load.new.disk in
    let w3 = c.put_report.new.world in
    let image = image_of (g.W.Disk.told w1) in
    let read = c.in-Ok-load.ensures.went in
    let f = read.went in
    let opened = since_attached c.args.device.now (g.W.Disk.told w0) (g.W.Disk.told w1) (g.W.Outside.beside w0) (g.W.Outside.beside w1) c.in-Ok.ensures.begun (λ h is. g.met.W.Disk.size_is w1 h is) c.attach.ensures.disk c.in-Ok.ensures.asked c.in-Ok.ensures.cause.worked c.attach.ensures.keeps in
    let since = since_read c.args.device.now image f.events (g.W.Disk.told w0) (g.W.Disk.told w1) (g.W.Disk.told w2) (g.W.Outside.beside w0) (g.W.Outside.beside w1) (g.W.Outside.beside w2) opened (g.met.W.Disk.goes_told w1 w2 f.events f.goes_on) (g.met.W.Outside.goes_means w1 w2 f.events f.goes_on) in
    inr (image, put_part image c.args.device.now (g.W.Disk.told w0) (g.W.Disk.told w2) (g.W.Outside.beside w0) (g.W.Outside.beside w2) read.count true f.events f.makes since (g.W.Disk.told w3) (g.W.Outside.beside w3) _ refl c.in-Ok-load.ensures.table _ c.in-Err-put_report.ensures.puts (g.met.W.Disk.blocks_are w3) c.in-Err-put_report.status refl)
