use Rattle.std.proofs.Common.{◌≡◌, ◌<◌, ◌^◌, take}
use Rattle.std.specs.Str.Parse.{AllDigits, digits_value}
use Rattle.ark_forms.proofs.decimal.decimal.Given as goal

abbrev pub invariant-loop-b : goal.invariant-loop-b
invariant-loop-b l = AllDigits 10 (take l.b-index l.word) × (l.n ≡ digits_value 10 (take l.b-index l.word)) × (l.n < 2 ^ 64)
