use Rattle.std.proofs.Common.{◌≡◌, drop}
use Rattle.ark_filters.specs.In.{frame_matches}
use Rattle.ark_filters.specs.Rules.{classified}
use Rattle.ark_filters.proofs.among.classify.Given as goal

abbrev pub invariant-loop-live : goal.invariant-loop-live
invariant-loop-live l = classified (λ f. frame_matches f l.frame l.own) (drop l.live-index l.rules) ≡ classified (λ f. frame_matches f l.frame l.own) l.rules
