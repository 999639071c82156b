use Rattle.std.proofs.Common.{refl, sym, arith, append-nil, length, ◌-◌, [], true}
use Rattle.ark_media.proofs.Planning.{makes_devices}
use Rattle.ark_media.specs.Standing.{after}
use Rattle.ark_caladan.specs.Repairing.{repaired_layout}
use Rattle.ark_log.specs.Loaded.{loaded_chain}
use Rattle.ark_running.specs.Opening.{opening_calls}
use Rattle.ark_running.proofs.AreaOpened.{area_repaired, fine_fronts, is_stored, newly_open, repaired_whole, repairs_beside}
use Rattle.ark_running.proofs.loading.loading_laws.Goals as goal

pub returns : goal.returns
returns c = record {
  found = λ kind h blocks g seen lengths ok es stands has. (has.found.list, is_stored kind h blocks g seen lengths ok es stands has, has.found.first, has.found.count);
  calls = area_repaired;
  listed = λ kind h blocks g seen lengths ok es stands has front back is. (fine_fronts kind h blocks g seen lengths ok es stands has front back is).0;
  full = λ kind h blocks g seen lengths ok es stands has front back is. (fine_fronts kind h blocks g seen lengths ok es stands has front back is).1;
  beside = λ h blocks header other ok es repairs apart on_disk. repairs_beside blocks other apart header ok es h repairs on_disk;
  devices = λ blocks header ok es repairs. makes_devices (opening_calls repairs.read repairs.cleared repairs.first header) ok es repairs.made;
  runs = λ kind h blocks g seen lengths es card grant header space ring stands has lies long empty right.
      let whole = repaired_whole kind h blocks g seen lengths true es stands has refl grant header in
      let room = stands.size in
      let two = stands.two in (
        repaired_layout whole.0,
        c.opening_laws.ensures.opens (after h es) blocks space ring (loaded_chain kind grant (length blocks - 1) header seen lengths) whole.0 g card right
            (newly_open kind grant (length blocks - 1) header seen lengths space lies long) empty whole.4 whole.1 whole.2 (sym stands.its_kind) (omega (arith, room, two)) whole.3
            (fine_fronts kind h blocks g seen lengths true es stands has es [] (sym (append-nil es))).1,
      );
}
