use Rattle.std.proofs.Common.{◌≡◌, Some, ap, arith, length, rules, sym, ◌∙◌}
use Rattle.ark_caps.specs.Labels.{value_at}
use Rattle.ark_held.specs.Held.{is_net}
use Rattle.ark_held.proofs.Quiet.{quiet_at}
use Rattle.ark_objects.specs.Held.{at}
use Rattle.ark_vic.specs.Queue.{Queue}
use Rattle.ark_own.proofs.GivingUp.{cap_found}
use Rattle.ark_own.proofs.GivingUpNets.{there_is, kind_is, never_so, no_net_there, net_busy, net_done}
use Rattle.ark_own.proofs.dropping.drop_net.Goals as goal

pub returns-in-Err-clause-acts : goal.returns-in-Err-clause-acts
returns-in-Err-clause-acts c = never_so c.args.app.now c.args.app.now c.args.label.now _ (λ y h. there_is c.args.label.now (value_at c.args.app.now.labels c.args.label.now) c.in-Err.refusal c.requires.net c.in-Err.ensures.cap)

pub returns-in_default-clause-acts : goal.returns-in_default-clause-acts
returns-in_default-clause-acts c =
    let app = c.args.app.now in
    let l = c.args.label.now in
    let label = cap_found l c.in-Ok.cap (value_at app.labels l) c.in-Ok.ensures.cap in
    no_net_there app app l c.in-Ok.cap label (kind_is c.in-Ok.cap (sym (ap is_net label) ∙ c.requires.net)) _ (search rules)

pub returns-then-posted-gt0-clause-acts : goal.returns-then-posted-gt0-clause-acts
returns-then-posted-gt0-clause-acts c =
    let app = c.args.app.now in
    let l = c.args.label.now in
    let label = cap_found l c.in-Ok.cap (value_at app.labels l) c.in-Ok.ensures.cap in
    let here : at app.devices.nets.cards c.in-Ok.cap.key ≡ Some c.in-Some.card.now = search rules in
    let posted = ap (λ (q : Queue). length q.posted) c.rx.ensures in
    net_busy app app l c.in-Ok.cap label (kind_is c.in-Ok.cap (sym (ap is_net label) ∙ c.requires.net)) c.in-Some.card.now here (quiet_at app.devices.nets.cards c.in-Ok.cap.key c.in-Some.card.now app.devices.nets.quiet here)
    (omega (arith, posted, c.posted.ensures, c.if-posted-gt0.true))

pub returns-then-unreaped-gt0-clause-acts : goal.returns-then-unreaped-gt0-clause-acts
returns-then-unreaped-gt0-clause-acts c =
    let app = c.args.app.now in
    let l = c.args.label.now in
    let label = cap_found l c.in-Ok.cap (value_at app.labels l) c.in-Ok.ensures.cap in
    let here : at app.devices.nets.cards c.in-Ok.cap.key ≡ Some c.in-Some.card.now = search rules in
    let unreaped = ap (λ (q : Queue). length q.unreaped) c.rx-2.ensures in
    net_busy app app l c.in-Ok.cap label (kind_is c.in-Ok.cap (sym (ap is_net label) ∙ c.requires.net)) c.in-Some.card.now here (quiet_at app.devices.nets.cards c.in-Ok.cap.key c.in-Some.card.now app.devices.nets.quiet here)
    (omega (arith, unreaped, c.unreaped.ensures, c.if-unreaped-gt0.true))

pub returns-clause-acts : goal.returns-clause-acts
returns-clause-acts c =
    let app = c.args.app.now in
    let l = c.args.label.now in
    let label = cap_found l c.in-Ok.cap (value_at app.labels l) c.in-Ok.ensures.cap in
    let here : at app.devices.nets.cards c.in-Ok.cap.key ≡ Some c.in-Some.card.now = search rules in
    let posted = ap (λ (q : Queue). length q.posted) c.rx.ensures in
    let unreaped = ap (λ (q : Queue). length q.unreaped) c.rx-2.ensures in
    let e = c.remove_net.ensures in
    net_done app c.remove_net.new.self l c.in-Ok.cap label (kind_is c.in-Ok.cap (sym (ap is_net label) ∙ c.requires.net)) c.in-Some.card.now here (quiet_at app.devices.nets.cards c.in-Ok.cap.key c.in-Some.card.now app.devices.nets.quiet here)
    (omega (arith, posted, unreaped, c.posted.ensures, c.if-posted-gt0.false, c.unreaped.ensures, c.if-unreaped-gt0.false)) e.labels e.nets e.cards e.doors e.rates e.areas e.name e.store
