use Rattle.ark_machine.proofs.Places.{least_is_place, place_is_least, none_no_place, no_place_none}
use Rattle.ark_laws.proofs.places.place_laws.Goals as goal

pub returns : goal.returns
returns c = record {
  least = λ live k frames s some sized. (place_is_least live k frames some sized s, least_is_place live k frames some sized s);
  none = λ live k frames some sized. (no_place_none live k frames some sized, none_no_place live k frames some sized);
}
