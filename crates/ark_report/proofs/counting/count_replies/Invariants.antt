use Rattle.std.proofs.Common.{◌≡◌, ◌≤◌, ◌+◌, ◌^◌, length}
use Rattle.ark_media.specs.Calls.{GoesBy}
use Rattle.ark_host.specs.Inside.{IsInside}
use Rattle.ark_host.specs.Time.{IsSound}
use Rattle.ark_report.specs.Counted.{CountedSoFar}
use Rattle.ark_report.proofs.counting.count_replies.Given as goal

abbrev pub invariant-loop-len : goal.invariant-loop-len
invariant-loop-len g l = record {
  counts : GoesBy (g.D.Disk.goes) l.fn.disk l.disk (λ es. CountedSoFar l.fn.host l.fn.script l.script es l.host (g.D.Disk.told l.disk) l.tally);
  sound : IsSound l.host;
  inside : IsInside (g.D.Disk.told l.fn.disk).blocks l.host;
  few : l.host.lines + length l.script ≤ 2 ^ 31;
  all : l.tally.ok + l.tally.refused + l.tally.other + length l.script ≡ length l.fn.script;
}

abbrev pub decreases-loop-len : goal.decreases-loop-len
decreases-loop-len g l = length l.script
