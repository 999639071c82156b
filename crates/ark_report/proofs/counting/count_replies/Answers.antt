use Rattle.std.proofs.Common.{◌≡◌, ◌+◌, ℕ, List, [], ◌∷◌, ◌++◌, length, take, ◌∙◌, ap, subst, arith}
use Rattle.ark_work.specs.Tallied.{Tells}
use Rattle.ark_host.specs.Inside.{IsInside}
use Rattle.ark_answer.proofs.Replied.{replied}
use Rattle.ark_report.specs.Counted.{CountedSoFar}
use Rattle.ark_report.proofs.CountedLines.{none_counted, one_counted}
use Rattle.ark_report.proofs.counting.count_replies.Goals as goal

pub loop-len-init : goal.loop-len-init
loop-len-init g c = record {
  counts = record {
    events = [];
    goes_on = g.met.D.Disk.goes_none c.args.disk.now;
    does = none_counted c.args.host.now c.args.script.now (g.D.Disk.told c.args.disk.now) c.new-tally.result c.new-tally.ensures;
  };
  sound = c.requires.sound;
  inside = c.requires.inside;
  few = c.requires.few;
  all = omega (arith, c.new-tally.ensures.all);
}

pub loop-len-preserved : goal.loop-len-preserved
loop-len-preserved g c =
    let before = c.loop-len.invariant.counts in
    let now = c.answer.ensures.answers in
    let line = take c.in-Some.len c.next.new.out in
    let told0 = g.D.Disk.told c.loop-len.disk in
    let told1 = g.D.Disk.told c.answer.new.disk in
    let left : length c.loop-len.script ≡ length c.next.new.self + 1 = omega (arith, ap (λ (l : List (List ℕ)). length l) c.in-Some.ensures.line) in
    record {
      counts = record {
        events = before.events ++ now.events;
        goes_on = g.met.D.Disk.goes_more c.args.disk.now c.loop-len.disk c.answer.new.disk before.events now.events before.goes_on now.goes_on;
        does = one_counted c.args.host.now c.args.script.now c.next.new.self line _ before.events now.events c.loop-len.host c.answer.new.host told0 told1 c.loop-len.tally c.count.new.self
            (g.met.D.Disk.goes_told c.loop-len.disk c.answer.new.disk now.events now.goes_on)
            (subst (λ (l : List (List ℕ)). CountedSoFar c.args.host.now c.args.script.now l before.events c.loop-len.host told0 c.loop-len.tally) c.in-Some.ensures.line before.does)
            (replied c.loop-len.host line now.events told1 c.answer.new.host _ _ now.does)
            (subst (λ (b : List ℕ). (replies : List (List ℕ)) → Tells c.loop-len.tally replies → Tells c.count.new.self (replies ++ b ∷ [])) (c.bytes.ensures ∙ c.print.ensures.text) c.count.ensures.counted);
      };
      sound = c.answer.ensures.sound;
      inside = subst (λ (n : ℕ). IsInside n c.answer.new.host) (g.met.D.Disk.goes_told c.args.disk.now c.loop-len.disk before.events before.goes_on).blocks c.answer.ensures.inside;
      few = omega (arith, c.answer.ensures.counted, c.loop-len.invariant.few, left);
      all = omega (arith, c.count.ensures.more, c.loop-len.invariant.all, left);
    }
