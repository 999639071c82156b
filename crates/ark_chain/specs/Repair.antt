-- What an opening repairs behind its survey: the blocks outside the list become zero, and the header is written.
use Rattle.std.specs.Prelude.{ℕ, zero, suc, ◌+◌, ◌-◌, ◌%◌, not, nat_lt, if◌then◌else◌, List, [], ◌∷◌, ◌++◌, length, map, filter, Bool, Result, Ok, Err, ◌≡◌}
use Rattle.ark_base.specs.declared.kind.Kind.{Kind}
use Rattle.ark_media.specs.Journal.{Event, block, zero_block}
use Rattle.ark_media.specs.Calls.{Call, Writes, Syncs, Told, Went}
use Rattle.ark_entry.specs.Header.{is_zero}
use Rattle.ark_chain.specs.declared.surveying.Seen.{Seen}
use Rattle.ark_chain.specs.declared.surveying.SurveyFault.{SurveyFault}
use Rattle.ark_chain.specs.declared.surveying.SurveyFault.TheVariants.{DeviceFault}
use Rattle.ark_chain.specs.Survey.{reads, HasSurveyed}

-- The ring's first q blocks without those of a list, as blocks of the area, in rising order. The list begins at block `start` of the
-- ring and has so many blocks.
abbrev pub outside : ℕ → ℕ → ℕ → ℕ → List ℕ
outside room start used zero = []
outside room start used (suc q) =
    if nat_lt ((q + room - start) % room) used
    then outside room start used q
    else outside room start used q ++ suc q ∷ []

-- those of these blocks that are not zero
abbrev pub not_zero : List (List ℕ) → List ℕ → List ℕ
not_zero image blocks = filter (λ n. not (is_zero (block image n))) blocks

-- zeros to these blocks
abbrev pub clears : List ℕ → List Call
clears blocks = map (λ n. Writes n zero_block) blocks

-- the header to the first block, and a sync
abbrev pub header_calls : List ℕ → List Call
header_calls header = Writes 0 header ∷ Syncs ∷ []

-- a sync; zeros to these blocks; then the header to the first block, and a sync
abbrev pub repair_calls : List ℕ → List ℕ → List Call
repair_calls blocks header = Syncs ∷ (clears blocks ++ header_calls header)

-- what an opening reads behind a survey: where that found a list, the blocks outside it
abbrev pub reads_behind : ℕ → Result Seen SurveyFault → List Call
reads_behind room (Ok seen) = reads (outside room seen.start seen.used room)
reads_behind room (Err fault) = []

-- All that an opening reads: what a survey does, and then the blocks outside the list, up to the first read that failed.
pub record HasInspected {D : Type 0} (goes : D → List Event → D → Type 0) (told : D → Told)
    (kind : Kind) (result : Result Seen SurveyFault) (lengths : List ℕ) (old new : D) : Type 0 where
  pub between : D
  pub surveyed : Result Seen SurveyFault
  pub survey : HasSurveyed goes told kind surveyed lengths old between
  pub ok : Bool
  pub behind : Went goes (reads_behind survey.room surveyed) ok between new
  pub answer : result ≡ (if ok then surveyed else Err DeviceFault)

-- the blocks outside the list that are not zero are these
abbrev pub AreNoted : Seen → List ℕ → List (List ℕ) → Type 0
AreNoted seen noted image =
    noted ≡ not_zero image (outside (length image - 1) seen.start seen.used (length image - 1))
