use Rattle.std.proofs.Common.{refl}
use Rattle.ark_media.specs.Stops.{Whole, AnyBytes}
use Rattle.ark_media.proofs.Stopping.{stop_laws, any_same}
use Rattle.ark_media.proofs.laws.stop_laws.Goals as goal

pub returns : goal.returns
returns c = record { whole = stop_laws Whole (λ written. refl); torn = stop_laws AnyBytes any_same }
