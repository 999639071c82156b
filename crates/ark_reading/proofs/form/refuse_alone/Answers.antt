use Rattle.std.proofs.Common.{ap}
use Rattle.ark_reading.specs.Meant.{or_syntax}
use Rattle.ark_reading.proofs.Sounding.{none_alone}
use Rattle.ark_reading.proofs.form.refuse_alone.Goals as goal

pub returns-in-Some : goal.returns-in-Some
returns-in-Some c = rw c.in-Some.ensures (ap or_syntax (none_alone c.in-Some.field-0))
