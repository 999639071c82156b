-- The exit status of each way in which a command ends.
use Rattle.std.specs.Prelude.{ℕ}
use Rattle.ark_base.specs.declared.status.Status.{Status}
use Rattle.ark_base.specs.declared.status.Status.TheVariants.{Done, Usage, Source, Sink, Device, Memory, Damaged, Long}

abbrev pub code_of : Status → ℕ
code_of Done = 0
code_of Usage = 1
code_of Source = 2
code_of Sink = 3
code_of Device = 4
code_of Memory = 5
code_of (Damaged block) = 6
code_of Long = 7
