use Rattle.std.proofs.Common.{◌∷◌, [], inl, ⊎_elim, true, true≢false, refl}
use Rattle.ark_media.specs.Journal.{Read}
use Rattle.ark_extents.proofs.view.tests.LastWrittenDisk.read.Goals as goal

pub returns-clause-went : goal.returns-clause-went
returns-clause-went c = record { events = Read c.args._n true ∷ []; makes = inl (refl, refl); goes_on = λ failed. ⊎_elim (λ e. true≢false e) (λ none. none) failed }
