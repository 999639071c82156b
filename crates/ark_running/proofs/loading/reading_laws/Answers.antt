use Rattle.ark_media.proofs.Planning.{makes_devices}
use Rattle.ark_entry.specs.Found.{damaged}
use Rattle.ark_chain.specs.Survey.{reads}
use Rattle.ark_running.proofs.AreaOpened.{found_stored, reads_fine}
use Rattle.ark_running.proofs.Fronts.{reads_fronts, same_none}
use Rattle.ark_running.proofs.loading.reading_laws.Goals as goal

pub returns : goal.returns
returns c = record {
  listed = λ kind h blocks g ok es stands has front back is. (reads_fine kind h blocks g stands ok es has front back is).0;
  full = λ kind h blocks g ok es stands has front back is. (reads_fine kind h blocks g stands ok es has front back is).1;
  beside = λ h blocks other ok es has. reads_fronts h other has.read ok es h (same_none h other) has.made;
  devices = λ blocks ok es has. makes_devices (reads has.read) ok es has.made;
  damage = λ kind h blocks g n stands. found_stored kind h blocks g stands (damaged n);
}
