use Rattle.std.proofs.Common.{refl}
use Rattle.ark_laws.proofs.Contents.{tried_may, other_may, taken_stands, other_stands, synced_may, poked_may, settled_may}
use Rattle.ark_laws.proofs.Flushing.{flushed_may}
use Rattle.ark_laws.proofs.PutWritten.{put_may}
use Rattle.ark_laws.proofs.SettleSynced.{settle_may}
use Rattle.ark_laws.proofs.Synced.{synced_line}
use Rattle.ark_laws.proofs.effects.area_laws.Goals as goal

pub returns : goal.returns
returns c = record {
  tried = tried_may;
  others_tried = other_may;
  stands = taken_stands;
  others_stand = other_stands;
  not_taken = λ off block r. refl;
  synced = synced_may;
  poked = poked_may;
  flushed = flushed_may;
  synced_line = synced_line;
  put = put_may;
  settle_synced = settle_may;
  settled = settled_may;
}
