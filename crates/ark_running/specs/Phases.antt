-- The phase of a log's machine that a descriptor of a stage carries out.
use Rattle.std.specs.Prelude.{◌≡◌, ℕ, ◌+◌, List, ◌∷◌, drop, Some}
use Rattle.ark_vic.specs.declared.descriptor.Descriptor.{Descriptor}
use Rattle.ark_caladan.specs.Chain.{Phase}
use Rattle.ark_log.specs.declared.stage.Stage.{Stage}
use Rattle.ark_log.specs.Open.{OpenChain}
use Rattle.ark_log.specs.Polled.{stage_of}
use Rattle.ark_log.specs.Stages.{posting_of, stage_with}
use Rattle.ark_log.specs.Stands.{stage_does}

-- the phase of so many calls
abbrev pub phase_by : Stage → ℕ → Phase
phase_by stage count = record { verb = (stage_does stage).0; count = count; decides = (stage_does stage).1 }

-- of these phases of the oldest command, so many of which are done, the first one left is that of the posted descriptor
pub record IsPhaseUnderWay (v : OpenChain) (phases : List Phase) (done : ℕ) (d : Descriptor) : Type 0 where
  pub stage : Stage
  pub is : stage_of v ≡ Some stage
  pub its : d ≡ posting_of (stage_with v stage d.buf) stage
  pub left : drop done phases ≡ phase_by stage d.count ∷ drop (done + 1) phases
