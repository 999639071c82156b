use Rattle.ark_laws.proofs.Damaged.{damaged_unchanged}
use Rattle.ark_laws.proofs.Faults.{gain_refused, gain_no_slot, drop_refused, look_refused}
use Rattle.ark_laws.proofs.laws.fault_laws.Goals as goal

pub returns : goal.returns
returns c = record { no_gain = gain_refused; damaged = damaged_unchanged; no_slot = gain_no_slot; given_up = drop_refused; looked = look_refused }
