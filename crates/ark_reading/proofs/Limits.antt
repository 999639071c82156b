-- The numbers of the code are those of the definitions.
use Rattle.std.proofs.Common.{◌≡◌, ℕ, refl}
use Rattle.ark_reading.specs.declared.line.TheConstants.{MAX_LINE}
use Rattle.ark_script.specs.Lines.{max_line}

pub longest_line : ◌≡◌ {A = ℕ} MAX_LINE max_line
longest_line = refl
