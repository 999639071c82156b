use Rattle.std.proofs.Common.{rules, arith, ap, length}
use Rattle.ark_vic.specs.Queue.{Queue}
use Rattle.ark_own.proofs.GivingUp.{no_card_there, card_busy, card_done, busy_by_log, busy_by_ring, not_busy}
use Rattle.ark_own.proofs.dropping.drop_card.Goals as goal

pub returns-in_default-clause-acts : goal.returns-in_default-clause-acts
returns-in_default-clause-acts c = λ t. no_card_there t c.args.app.now c.args.app.now c.args.label.now c.args.cap c.requires.labelled c.requires.card _ (search rules)

pub returns-then-is_some-clause-acts : goal.returns-then-is_some-clause-acts
returns-then-is_some-clause-acts c = λ t.
    card_busy t c.args.app.now c.args.app.now c.args.label.now c.args.cap c.requires.labelled c.requires.card c.in-Some.card.now (search rules) (busy_by_log c.in-Some.card.now (search rules))

pub returns-then-posted-gt0-clause-acts : goal.returns-then-posted-gt0-clause-acts
returns-then-posted-gt0-clause-acts c = λ t.
    let posted = ap (λ (q : Queue). length q.posted) c.ring.ensures in
    card_busy t c.args.app.now c.args.app.now c.args.label.now c.args.cap c.requires.labelled c.requires.card c.in-Some.card.now (search rules)
    (busy_by_ring c.in-Some.card.now (omega (arith, posted, c.posted.ensures, c.if-posted-gt0.true)))

pub returns-then-unreaped-gt0-clause-acts : goal.returns-then-unreaped-gt0-clause-acts
returns-then-unreaped-gt0-clause-acts c = λ t.
    let unreaped = ap (λ (q : Queue). length q.unreaped) c.ring-2.ensures in
    card_busy t c.args.app.now c.args.app.now c.args.label.now c.args.cap c.requires.labelled c.requires.card c.in-Some.card.now (search rules)
    (busy_by_ring c.in-Some.card.now (omega (arith, unreaped, c.unreaped.ensures, c.if-unreaped-gt0.true)))

pub returns-clause-acts : goal.returns-clause-acts
returns-clause-acts c = λ t.
    let posted = ap (λ (q : Queue). length q.posted) c.ring.ensures in
    let unreaped = ap (λ (q : Queue). length q.unreaped) c.ring-2.ensures in
    card_done t c.args.app.now c.remove_card.new.self c.args.label.now c.args.cap c.requires.labelled c.requires.card c.in-Some.card.now (search rules)
    (not_busy c.in-Some.card.now (search rules) (omega (arith, posted, unreaped, c.posted.ensures, c.if-posted-gt0.false, c.unreaped.ensures, c.if-unreaped-gt0.false)))
    c.remove_card.ensures.labels c.remove_card.ensures.cards c.remove_card.ensures.doors c.remove_card.ensures.rates c.remove_card.ensures.nets c.remove_card.ensures.areas c.remove_card.ensures.name c.remove_card.ensures.store
