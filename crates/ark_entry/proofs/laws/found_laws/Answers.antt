use Rattle.ark_entry.proofs.Readings.{found_stands, stands_is_list, damaged_means}
use Rattle.ark_entry.proofs.laws.found_laws.Goals as goal

pub returns : goal.returns
returns c = record { found_stands = found_stands; stands_is_list = stands_is_list; damaged_means = damaged_means }
