use Rattle.std.proofs.Common.{◌∷◌, [], inl, ⊎_elim, true, true≢false, refl}
use Rattle.ark_media.specs.Journal.{Sync}
use Rattle.ark_extents.proofs.view.tests.LastWrittenDisk.sync.Goals as goal

pub returns : goal.returns
returns c = record { went = record { events = Sync true ∷ []; makes = inl (refl, refl); goes_on = λ failed. ⊎_elim (λ e. true≢false e) (λ none. none) failed } }
