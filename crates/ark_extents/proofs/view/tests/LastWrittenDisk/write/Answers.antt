use Rattle.std.proofs.Common.{◌∷◌, [], inl, ⊎_elim, true, true≢false, refl}
use Rattle.ark_media.specs.Journal.{Write}
use Rattle.ark_extents.proofs.view.tests.LastWrittenDisk.write.Goals as goal

pub returns : goal.returns
returns c = record { went = record { events = Write c.args.n c.args._block.now true true ∷ []; makes = inl ((true, (λ _. refl), refl), refl); goes_on = λ failed. ⊎_elim (λ e. true≢false e) (λ none. none) failed } }
