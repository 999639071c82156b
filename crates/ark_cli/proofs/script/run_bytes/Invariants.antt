use Rattle.std.proofs.Common.{ℕ, ◌+◌, ◌-◌, ◌≤◌, List, true, take, length}
use Rattle.ark_media.specs.Journal.{Event}
use Rattle.ark_host.specs.declared.host.Host.{Host}
use Rattle.ark_host.specs.Inside.{IsInside}
use Rattle.ark_host.specs.Time.{IsSound}
use Rattle.ark_cli.specs.Session.{WorldGoesBy, FedSoFar, FeedsMore, NoneFailed}
use Rattle.ark_cli.proofs.script.run_bytes.Given as goal

abbrev pub invariant-loop-at : goal.invariant-loop-at
invariant-loop-at g l = record {
  feeds : WorldGoesBy (g.W.Disk.told l.initial.world) (g.W.Disk.told l.world) (g.W.Outside.beside l.initial.world) (g.W.Outside.beside l.world) (λ more. (first : Host) (fed : List ℕ) (added : List Event) →
      FedSoFar first fed added l.initial.host (g.W.Disk.told l.initial.world) l.initial.line → FeedsMore first fed (take l.at l.bytes) added more l.host (g.W.Disk.told l.world) l.line true);
  unfailed : NoneFailed (g.W.Outside.beside l.initial.world) (g.W.Outside.beside l.world);
  sound : IsSound l.host;
  inside : IsInside (g.W.Disk.told l.initial.world).blocks l.host;
  counted : l.host.lines ≤ l.initial.host.lines + l.at;
  within : l.at ≤ length l.bytes;
}

abbrev pub decreases-loop-at : goal.decreases-loop-at
decreases-loop-at g l = length l.bytes - l.at
