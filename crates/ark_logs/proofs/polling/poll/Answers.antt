use Rattle.std.proofs.Common.{◌≡◌, ℕ, List, [], ◌∙◌, length, take, sym, subst, ap, rules}
use Rattle.ark_log.specs.declared.polling.Polled.{Polled}
use Rattle.ark_base.specs.declared.kind.Kind.{Kind}
use Rattle.ark_script.proofs.Showing.{fitted_same}
use Rattle.ark_own.proofs.Replies.{shows}
use Rattle.ark_held.specs.Polling.{IsShortIfAcked}
use Rattle.ark_logs.specs.Polling.{acked_by, said_by, shown_by}
use Rattle.ark_logs.proofs.OfLogs.{open_there_at}
use Rattle.ark_logs.proofs.Polls as of
use Rattle.ark_logs.proofs.polling.poll.Goals as goal

pub poll-requires-clause-there : goal.poll-requires-clause-there
poll-requires-clause-there c = open_there_at c.args.app.now.labels c.args.app.now.devices.cards c.args.label.now c.in-Ok.at c.in-Ok.ensures.found

pub returns-in-Err-clause-acts : goal.returns-in-Err-clause-acts
returns-in-Err-clause-acts c = λ t.
    shows t c.args.app.now c.args.app.now _ [] _ _ _ _ c.say.ensures.said c.say.ensures.none
    (of.not_open t c.args.app.now c.args.label.now c.in-Err.refusal c.in-Err.ensures.found)

pub returns-in_default-clause-acts : goal.returns-in_default-clause-acts
returns-in_default-clause-acts c = λ t.
    shows t c.args.app.now c.args.app.now _ [] _ _ _ _ c.say-in_default.ensures.said c.say-in_default.ensures.none
    (of.no_chain t c.args.app.now c.args.label.now c.in-Ok.at c.in-Ok.ensures.found (search rules))

pub returns-then-failed-clause-acts : goal.returns-then-failed-clause-acts
returns-then-failed-clause-acts c = λ t.
    shows t c.args.app.now c.args.app.now _ [] _ _ _ _ c.say-then-failed.ensures.said c.say-then-failed.ensures.none
    (of.is_failed t c.args.app.now c.args.label.now c.in-Ok.at c.in-Ok.ensures.found c.in-Some.chain.now (sym c.in-Some.ensures.found) (search rules))

pub say-requires-in-Acked : goal.say-requires-in-Acked
say-requires-in-Acked c = record { short = subst IsShortIfAcked c.in-Acked.is c.poll.ensures.short }

pub returns-in-Nothing-clause-acts : goal.returns-in-Nothing-clause-acts
returns-in-Nothing-clause-acts c = λ t.
    let e = c.poll.ensures in
    shows t c.args.app.now c.poll.new.self _ [] _ _ _ _ (c.say-in-Nothing.ensures.said ∙ ap (said_by c.in-Some.chain.now.kind) (sym c.in-Nothing.is)) (c.say-in-Nothing.ensures.none ∙ ap (λ (z : Polled). shown_by z c.poll.new.out) (sym c.in-Nothing.is))
    (of.poll_done t c.args.app.now c.args.label.now c.in-Ok.at c.in-Ok.ensures.found c.in-Some.chain.now (sym c.in-Some.ensures.found) (search rules) c.poll.new.self _ c.poll.new.out c.poll.result e.polled e.length e.buffers e.labels e.areas e.doors e.rates e.nets e.name)

pub returns-in-Posted-clause-acts : goal.returns-in-Posted-clause-acts
returns-in-Posted-clause-acts c = λ t.
    let e = c.poll.ensures in
    shows t c.args.app.now c.poll.new.self _ [] _ _ _ _ (c.say-in-Posted.ensures.said ∙ ap (said_by c.in-Some.chain.now.kind) (sym c.in-Posted.is)) (c.say-in-Posted.ensures.none ∙ ap (λ (z : Polled). shown_by z c.poll.new.out) (sym c.in-Posted.is))
    (of.poll_done t c.args.app.now c.args.label.now c.in-Ok.at c.in-Ok.ensures.found c.in-Some.chain.now (sym c.in-Some.ensures.found) (search rules) c.poll.new.self _ c.poll.new.out c.poll.result e.polled e.length e.buffers e.labels e.areas e.doors e.rates e.nets e.name)

pub returns-in-Fault-clause-acts : goal.returns-in-Fault-clause-acts
returns-in-Fault-clause-acts c = λ t.
    let e = c.poll.ensures in
    shows t c.args.app.now c.poll.new.self _ [] _ _ _ _ (c.say-in-Fault.ensures.said ∙ ap (said_by c.in-Some.chain.now.kind) (sym c.in-Fault.is)) (c.say-in-Fault.ensures.none ∙ ap (λ (z : Polled). shown_by z c.poll.new.out) (sym c.in-Fault.is))
    (of.poll_done t c.args.app.now c.args.label.now c.in-Ok.at c.in-Ok.ensures.found c.in-Some.chain.now (sym c.in-Some.ensures.found) (search rules) c.poll.new.self _ c.poll.new.out c.poll.result e.polled e.length e.buffers e.labels e.areas e.doors e.rates e.nets e.name)

pub returns-in-Acked-clause-acts : goal.returns-in-Acked-clause-acts
returns-in-Acked-clause-acts c = λ t.
    let e = c.poll.ensures in
    let said = c.say-in-Acked.ensures in
    shows t c.args.app.now c.poll.new.self _ [] _ _ _ _ (said.said ∙ c.acked.ensures ∙ ap (λ (k : Kind). acked_by k c.in-Acked.command) c.kind-kind.ensures ∙ ap (said_by c.in-Some.chain.now.kind) (sym c.in-Acked.is))
    ((λ i. take (said.len i) (said.buffer i))
    ∙ ap (λ (xs : List ℕ). take c.in-Acked.len xs) (fitted_same c.args.out.now.buffer c.poll.new.out (c.poll.auto.out ∙ ap (λ (xs : List ℕ). length xs) c.room.ensures.value))
    ∙ ap (λ (z : Polled). shown_by z c.poll.new.out) (sym c.in-Acked.is))
    (of.poll_done t c.args.app.now c.args.label.now c.in-Ok.at c.in-Ok.ensures.found c.in-Some.chain.now (sym c.in-Some.ensures.found) (search rules) c.poll.new.self _ c.poll.new.out c.poll.result e.polled e.length e.buffers e.labels e.areas e.doors e.rates e.nets e.name)
