use Rattle.std.proofs.Common.{◌≤◌, ◌-◌}
use Rattle.ark_host.specs.Inside.{IsInside}
use Rattle.ark_host.specs.Time.{IsSound}
use Rattle.ark_cli.specs.Session.{FetchesSoFar, NoneFailed}
use Rattle.ark_cli.proofs.script.run_script.Given as goal

abbrev pub invariant-loop-count : goal.invariant-loop-count
invariant-loop-count g l = record {
  going : FetchesSoFar (g.W.Disk.told l.initial.world) (g.W.Disk.told l.world) (g.W.Outside.beside l.initial.world) (g.W.Outside.beside l.world) l.initial.host l.host l.initial.line l.line l.count;
  few : l.count ≤ 1073741824;
  unfailed : NoneFailed (g.W.Outside.beside l.initial.world) (g.W.Outside.beside l.world);
  sound : IsSound l.host;
  inside : IsInside (g.W.Disk.told l.initial.world).blocks l.host;
  counted : l.host.lines ≤ l.count;
}

abbrev pub decreases-loop-count : goal.decreases-loop-count
decreases-loop-count g l = 1073741824 - l.count
