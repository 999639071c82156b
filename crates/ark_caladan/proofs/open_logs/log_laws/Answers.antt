use Rattle.std.proofs.Common.{refl}
use Rattle.ark_caladan.specs.Chain.{stored, lists}
use Rattle.ark_caladan.proofs.Standing.{stands_listed, stands_same}
use Rattle.ark_caladan.proofs.Listing.{elsewhere_same, output_same, full_kept, left_found, settled_listed}
use Rattle.ark_caladan.proofs.open_logs.log_laws.Goals as goal

pub returns : goal.returns
returns c = record {
  listed = λ history blocks g p progress full stands. stands_listed blocks g p history progress g.opened refl full stands;
  left_found = λ history blocks g on_disk listed. left_found g.kind history blocks (stored g) (lists g) on_disk listed;
  same = λ before later blocks g p progress on_disk same stands. stands_same blocks g p before later progress g.opened on_disk same stands;
  elsewhere = elsewhere_same;
  output = output_same;
  full = full_kept;
  settled = settled_listed;
}
