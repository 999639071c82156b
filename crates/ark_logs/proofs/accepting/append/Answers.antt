use Rattle.std.proofs.Common.{[], List, ℕ, length, sym, subst, arith}
use Rattle.ark_base.specs.declared.refusal.Refusal.{Refusal}
use Rattle.ark_entry.specs.Entry.{entry_blocks}
use Rattle.ark_script.specs.Line.{spelled}
use Rattle.ark_script.specs.declared.said.Said.TheVariants as said
use Rattle.ark_log.specs.Refused.{IsNoRoom, IsRefused}
use Rattle.ark_machine.specs.Logs as logs
use Rattle.ark_held.specs.Accepting.{HasAppended}
use Rattle.ark_held.specs.Closing.{OfLogAt}
use Rattle.ark_held.specs.Does.{Acts}
use Rattle.ark_held.specs.declared.app.App.{App}
use Rattle.ark_own.proofs.OfBytes.{half_digits}
use Rattle.ark_logs.proofs.Gives as of
use Rattle.ark_logs.proofs.accepting.append.Goals as goal

pub returns-in-Err-clause-acts : goal.returns-in-Err-clause-acts
returns-in-Err-clause-acts c = λ t. of.append_not_open t c.args.app.now c.args.label.now c.args.kind (spelled c.args.hex.now.digits.now) c.in-Err.refusal c.in-Err.ensures.found

pub append-requires-clause-there : goal.append-requires-clause-there
append-requires-clause-there c = of.open_of_at c.args.app.now c.args.label.now c.args.kind c.in-Ok.at c.in-Ok.ensures.found

pub returns-in-Ok-append-clause-acts : goal.returns-in-Ok-append-clause-acts
returns-in-Ok-append-clause-acts c = λ t.
    let digits = c.args.hex.now.digits.now in
    let e = c.in-Ok-append.ensures in
    let payload = of.read_is digits c.args.room.now c.spell.new.room c.args.hex.now.even c.spell.ensures.spells in
    let half = half_digits digits c.args.hex.now.even in
    let few = c.requires.short in
    of.append_done t c.args.app.now c.args.label.now c.args.kind (spelled digits) c.in-Ok.at c.in-Ok.ensures.found (omega (arith, half, few)) c.append.new.self c.in-Ok-append.number
    (subst (λ (p : List ℕ). OfLogAt c.args.app.now.devices.cards c.in-Ok.at.key (λ one v. HasAppended c.args.app.now.devices.cards c.append.new.self.devices.cards c.in-Ok.at.key one v p c.args.app.now.store.region c.append.new.self.store.region c.in-Ok-append.number)) payload e.accepted)
    e.length e.buffers e.labels e.areas e.doors e.rates e.nets e.name

pub returns-in-Err-append-clause-acts : goal.returns-in-Err-append-clause-acts
returns-in-Err-append-clause-acts c = λ t.
    let digits = c.args.hex.now.digits.now in
    let e = c.in-Err-append.ensures in
    let payload = of.read_is digits c.args.room.now c.spell.new.room c.args.hex.now.even c.spell.ensures.spells in
    subst (λ (z : App). Acts t c.args.app.now z (λ m g. logs.append_row c.args.kind m c.args.label.now (spelled digits) g) [] (said.Refused c.refusal_of.result) []) (sym e.same)
    (subst (λ (x : Refusal). Acts t c.args.app.now c.args.app.now (λ m g. logs.append_row c.args.kind m c.args.label.now (spelled digits) g) [] (said.Refused x) []) (sym c.refusal_of.ensures.refusal)
    (of.append_refused t c.args.app.now c.args.label.now c.args.kind (spelled digits) c.in-Ok.at c.in-Ok.ensures.found c.in-Err-append.refusal
    (subst (λ (p : List ℕ). OfLogAt c.args.app.now.devices.cards c.in-Ok.at.key (λ one v. IsRefused v (IsNoRoom v c.args.app.now.store.region (entry_blocks (length p))) c.in-Err-append.refusal)) payload e.refused)))
