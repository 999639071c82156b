use Rattle.std.proofs.Common.{◌≡◌, drop}
use Rattle.ark_filters.specs.Rules.{first_clash}
use Rattle.ark_filters.proofs.among.first_clash.Given as goal

abbrev pub invariant-loop-live : goal.invariant-loop-live
invariant-loop-live l = first_clash l.new (drop l.live-index l.rules) ≡ first_clash l.new l.rules
