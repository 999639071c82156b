use Rattle.std.proofs.Common.{◌≡◌, drop}
use Rattle.std.specs.List.{list_any}
use Rattle.ark_filters.specs.In.{frame_matches}
use Rattle.ark_filters.specs.Rules.{sends}
use Rattle.ark_filters.proofs.among.allows.Given as goal

abbrev pub invariant-loop-live : goal.invariant-loop-live
invariant-loop-live l = list_any (sends (λ f. frame_matches f l.frame l.own) l.vnic) (drop l.live-index l.rules) ≡ list_any (sends (λ f. frame_matches f l.frame l.own) l.vnic) l.rules
