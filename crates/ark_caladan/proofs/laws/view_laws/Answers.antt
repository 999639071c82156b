use Rattle.ark_caladan.proofs.Places.{view_at, zeroed_view}
use Rattle.ark_caladan.proofs.laws.view_laws.Goals as goal

pub returns : goal.returns
returns c = record {
  view_at = view_at;
  zeroed_view = zeroed_view;
}
