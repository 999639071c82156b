use Rattle.std.proofs.Common.{◌<◌, ◌≤◌, false, length, get_or, ap, ◌∙◌, arith, rules}
use Rattle.ark_media.specs.Journal.{Sync}
use Rattle.ark_memory.specs.Holding.{after}
use Rattle.ark_memory.proofs.Leaving.{one_more}
use Rattle.ark_memory.proofs.recorded.Recorded.holding.Goals as goal
use Rattle.ark_memory.proofs.recorded.Recorded.holding.Goals.{in-Some, in_default}

pub loop-i-preserved : goal.loop-i-preserved
loop-i-preserved c =
    let r = c.args.self.now in
    let inside : c.loop-i.i < length r.events = omega (arith, c.loop-i-test.true, c.min-i-end.ensures, c.events.ensures) in
    elim c.match-event.branch [
      | in-Some w ↦ w.holding-is ∙ w.after-holding.ensures (get_or r.events c.loop-i.i (Sync false)) w.in-Some.ensures.1 ∙ ap (λ h. after c.args.n c.args.content.now (get_or r.events c.loop-i.i (Sync false)) h) c.loop-i.invariant
          ∙ one_more r.base r.events c.loop-i.i c.args.n c.args.content.now inside
      | in_default w ↦ absurd (let none : length r.events ≤ c.loop-i.i = search rules in omega (arith, none, inside))
    ]
