use Rattle.std.proofs.Common.{◌≡◌, [], ◌∷◌, length, true, refl, sym, ◌∙◌, ap, subst, inl, inr}
use Rattle.std.specs.Prelude.{Some}
use Rattle.ark_base.specs.declared.status.Status.{Status}
use Rattle.ark_media.specs.Journal.{Out, History}
use Rattle.ark_media.specs.Calls.{Makes}
use Rattle.ark_media.proofs.Composing.{told_before}
use Rattle.ark_table.specs.Loading.{read_calls}
use Rattle.ark_script.specs.Text.{text}
use Rattle.ark_script.specs.declared.said.Said.TheVariants.{Ready}
use Rattle.ark_host.specs.declared.host.Host.{Host}
use Rattle.ark_cli.specs.Opening.{old_device, Fails, HeedsDamage}
use Rattle.ark_cli.specs.Ending.{IsCause}
use Rattle.ark_cli.proofs.Openings.{ready_line, since_ready, opens_unshown}
use Rattle.ark_cli.proofs.Attaching.{image_of, since_attached, since_read, load_fails, load_cause, loaded_slots, loaded_host}
use Rattle.ark_cli.proofs.opening.open_attached.Goals as goal

pub returns-in-Err-load-clause-failed : goal.returns-in-Err-load-clause-failed
returns-in-Err-load-clause-failed g c =
    let w0 = c.args.world.now in
    let w1 = c.attach.new.self in
    let w2 = c.load.new.disk in
    let image = image_of (g.W.Disk.told w1) in
    let read = c.in-Err-load.ensures.went in
    let f = read.went in
    let opened = since_attached c.args.device.now (g.W.Disk.told w0) (g.W.Disk.told w1) (g.W.Outside.beside w0) (g.W.Outside.beside w1) c.in-Ok.ensures.begun (λ h is. g.met.W.Disk.size_is w1 h is) c.attach.ensures.disk c.in-Ok.ensures.asked c.in-Ok.ensures.cause.worked c.attach.ensures.keeps in
    let since = since_read c.args.device.now image f.events (g.W.Disk.told w0) (g.W.Disk.told w1) (g.W.Disk.told w2) (g.W.Outside.beside w0) (g.W.Outside.beside w1) (g.W.Outside.beside w2) opened (g.met.W.Disk.goes_told w1 w2 f.events f.goes_on) (g.met.W.Outside.goes_means w1 w2 f.events f.goes_on) in
    let why = load_fails image read.count f.events c.in-Err-load.fault (g.W.Disk.told w2) f.makes since.begins c.in-Err-load.ensures.damaged in
    inr (inl (
      old_device image,
      refl,
      record {
        events = f.events;
        begins = (read.count, read.few, (_, f.makes));
        since = since;
        fails = subst (λ (s : Status). Fails (old_device image) (g.W.Disk.told w2) s f.events) (sym c.status_of.ensures) why.0;
        heeds = subst (λ (s : Status). HeedsDamage (old_device image) (g.W.Disk.told w2) s f.events) (sym c.status_of.ensures) why.1;
      },
    ))

pub returns-in-Err-load-clause-cause : goal.returns-in-Err-load-clause-cause
returns-in-Err-load-clause-cause g c =
    let w0 = c.args.world.now in
    let w1 = c.attach.new.self in
    let w2 = c.load.new.disk in
    let read = c.in-Err-load.ensures.went in
    let f = read.went in
    let opened = since_attached c.args.device.now (g.W.Disk.told w0) (g.W.Disk.told w1) (g.W.Outside.beside w0) (g.W.Outside.beside w1) c.in-Ok.ensures.begun (λ h is. g.met.W.Disk.size_is w1 h is) c.attach.ensures.disk c.in-Ok.ensures.asked c.in-Ok.ensures.cause.worked c.attach.ensures.keeps in
    let since = since_read c.args.device.now (image_of (g.W.Disk.told w1)) f.events (g.W.Disk.told w0) (g.W.Disk.told w1) (g.W.Disk.told w2) (g.W.Outside.beside w0) (g.W.Outside.beside w1) (g.W.Outside.beside w2) opened (g.met.W.Disk.goes_told w1 w2 f.events f.goes_on) (g.met.W.Outside.goes_means w1 w2 f.events f.goes_on) in
    subst (λ (s : Status). IsCause (g.W.Disk.told w0) (g.W.Disk.told w2) (g.W.Outside.beside w0) (g.W.Outside.beside w2) s) (sym c.status_of.ensures)
    (load_cause (image_of (g.W.Disk.told w1)) read.count f.events Host c.in-Err-load.fault (g.W.Disk.told w0) (g.W.Disk.told w2) (g.W.Outside.beside w0) (g.W.Outside.beside w2) f.makes since.cause)

pub returns-in-Err-put-clause-failed : goal.returns-in-Err-put-clause-failed
returns-in-Err-put-clause-failed g c =
    let w0 = c.args.world.now in
    let w1 = c.attach.new.self in
    let w2 = c.load.new.disk in
    let w3 = c.put.new.self in
    let image = image_of (g.W.Disk.told w1) in
    let read = c.in-Ok-load.ensures.went in
    let f = read.went in
    let opened = since_attached c.args.device.now (g.W.Disk.told w0) (g.W.Disk.told w1) (g.W.Outside.beside w0) (g.W.Outside.beside w1) c.in-Ok.ensures.begun (λ h is. g.met.W.Disk.size_is w1 h is) c.attach.ensures.disk c.in-Ok.ensures.asked c.in-Ok.ensures.cause.worked c.attach.ensures.keeps in
    let tells = g.met.W.Disk.goes_told w1 w2 f.events f.goes_on in
    let keeps = g.met.W.Outside.goes_means w1 w2 f.events f.goes_on in
    let since = since_read c.args.device.now image f.events (g.W.Disk.told w0) (g.W.Disk.told w1) (g.W.Disk.told w2) (g.W.Outside.beside w0) (g.W.Outside.beside w1) (g.W.Outside.beside w2) opened tells keeps in
    let calls : Makes (read_calls 129) true f.events = subst (λ n. Makes (read_calls n) true f.events) read.all f.makes in
    let puts = c.in-Err-put.ensures.puts in
    let slots = loaded_slots image 129 f.events c.in-Ok-load.host true (g.W.Disk.told w2) (g.W.Disk.told w3) c.in-Ok-load.ensures.loaded calls since.begins c.slots.result c.slots.ensures (λ h is. told_before (Out puts.part ∷ []) (g.W.Disk.told w2).history (g.W.Disk.told w3).history puts.rests.adds h is) in
    inr (inr (
      old_device image,
      refl,
      refl,
      opens_unshown (old_device image) c.args.device.now (g.W.Disk.told w0) (g.W.Disk.told w2) (g.W.Disk.told w3) (g.W.Outside.beside w0) (g.W.Outside.beside w2) (g.W.Outside.beside w3)
          f.events calls c.slots.result slots _ (ready_line _ c.slots.result _ _ _ (c.say.ensures.said ∙ ap (λ n. Ready n c.slots.result) (c.blocks-in-Ok-load.ensures ∙ since.blocks)) (c.bytes.ensures ∙ c.print.ensures.text))
          since c.put.ensures.keeps c.put.ensures.cause.later puts,
    ))

pub returns-in-Ok-put-clause-ready : goal.returns-in-Ok-put-clause-ready
returns-in-Ok-put-clause-ready g c =
    let w0 = c.args.world.now in
    let w1 = c.attach.new.self in
    let w2 = c.load.new.disk in
    let w3 = c.put.new.self in
    let image = image_of (g.W.Disk.told w1) in
    let read = c.in-Ok-load.ensures.went in
    let f = read.went in
    let opened = since_attached c.args.device.now (g.W.Disk.told w0) (g.W.Disk.told w1) (g.W.Outside.beside w0) (g.W.Outside.beside w1) c.in-Ok.ensures.begun (λ h is. g.met.W.Disk.size_is w1 h is) c.attach.ensures.disk c.in-Ok.ensures.asked c.in-Ok.ensures.cause.worked c.attach.ensures.keeps in
    let tells = g.met.W.Disk.goes_told w1 w2 f.events f.goes_on in
    let keeps = g.met.W.Outside.goes_means w1 w2 f.events f.goes_on in
    let since = since_read c.args.device.now image f.events (g.W.Disk.told w0) (g.W.Disk.told w1) (g.W.Disk.told w2) (g.W.Outside.beside w0) (g.W.Outside.beside w1) (g.W.Outside.beside w2) opened tells keeps in
    let calls : Makes (read_calls 129) true f.events = subst (λ n. Makes (read_calls n) true f.events) read.all f.makes in
    let puts = c.in-Ok-put.ensures.puts in
    let before = λ (h : History) (is : (g.W.Disk.told w3).history ≡ Some h). told_before (Out puts.part ∷ []) (g.W.Disk.told w2).history (g.W.Disk.told w3).history puts.rests.adds h is in
    let slots = loaded_slots image 129 f.events c.in-Ok-load.host true (g.W.Disk.told w2) (g.W.Disk.told w3) c.in-Ok-load.ensures.loaded calls since.begins c.slots.result c.slots.ensures before in
    let line = ready_line _ c.slots.result _ _ _ (c.say.ensures.said ∙ ap (λ n. Ready n c.slots.result) (c.blocks-in-Ok-load.ensures ∙ since.blocks)) (c.bytes.ensures ∙ c.print.ensures.text) in
    let shown = since_ready (old_device image) c.args.device.now (g.W.Disk.told w0) (g.W.Disk.told w2) (g.W.Disk.told w3) (g.W.Outside.beside w0) (g.W.Outside.beside w2) (g.W.Outside.beside w3)
    f.events calls c.slots.result slots _ line since c.put.ensures.keeps c.put.ensures.cause.later puts in
    record {
      image = image;
      ready = record { events = f.events; calls = calls; slots = c.slots.result; tells = slots; since = shown };
      stands = loaded_host image 129 f.events c.in-Ok-load.host true (g.W.Disk.told w2) (g.W.Disk.told w3) c.in-Ok-load.ensures.loaded calls since.begins (text (Ready (length image) c.slots.result) []) before puts.rests.blocks shown.begins;
    }
