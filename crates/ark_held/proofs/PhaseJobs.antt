-- What the descriptor of an open log's stage is for its machine: one phase, which decides or not.
use Rattle.std.proofs.Common.{◌≡◌, ◌∷◌, Bool, false, List, [], refl, sym, ◌∙◌, ap}
use Rattle.std.specs.Prelude.{Option, Some}
use Rattle.std.specs.List.{AllByRecursion}
use Rattle.ark_region.specs.Frames.{Piece}
use Rattle.ark_entry.specs.Found.{Found, found, damaged}
use Rattle.ark_vic.specs.declared.descriptor.Descriptor.{Descriptor}
use Rattle.ark_vic.specs.declared.descriptor.Job.TheVariants as vic
use Rattle.ark_caladan.specs.Chain.{Log, Opened, Phase, Waiting, lists, list_choices, oldest_of, pending}
use Rattle.ark_log.specs.declared.stage.Stage.{Stage}
use Rattle.ark_log.specs.declared.stage.Stage.TheVariants as stages
use Rattle.ark_log.specs.Open.{OpenChain}
use Rattle.ark_log.specs.Stages.{posting_of, stage_with}
use Rattle.ark_log.specs.Stands.{stage_does}
use Rattle.ark_machine.specs.Objects.{Job, transfer, flush, phase}
use Rattle.ark_held.specs.Around.{Around, Each}
use Rattle.ark_held.specs.Cards.{IsJob, IsPhaseJob, IsPhaseOf}

-- the write that decides is no part of what a stop may leave
pub same_lists : (g : Log) (o : Opened) (b : Bool) → g.opened ≡ Some o → lists (record g { opened = Some (record o { decided = b }) }) ≡ lists g
same_lists g o b is = by o.waiting refl ∙ sym (ap (λ z. list_choices g.list (pending z g.left)) is)
  where
    by : (ws : List Waiting) → o.waiting ≡ ws → list_choices g.list (oldest_of o.waiting b) ≡ list_choices g.list (oldest_of o.waiting o.decided)
    by ws is = ap (λ zs. list_choices g.list (oldest_of zs b)) is ∙ same g.list ws ∙ sym (ap (λ zs. list_choices g.list (oldest_of zs o.decided)) is)
      where
        same : (f : Found) (zs : List Waiting) → list_choices f (oldest_of zs b) ≡ list_choices f (oldest_of zs o.decided)
        same (found l) [] = refl
        same (found l) (z ∷ zs) = refl
        same (damaged n) zs = refl

-- stages that read or sync decide nothing
pub read_decides : (v : OpenChain) (t : Stage) (buf : Option Piece) → (posting_of (stage_with v t buf) t).job ≡ vic.Read → (stage_does t).1 ≡ false
read_decides v stages.Load buf is = refl
read_decides v stages.Draft buf is = absurd (cc (is))
read_decides v stages.Mark buf is = absurd (cc (is))
read_decides v stages.Header buf is = absurd (cc (is))
read_decides v stages.Clear buf is = absurd (cc (is))
read_decides v stages.Flush buf is = absurd (cc (is))

pub sync_decides : (v : OpenChain) (t : Stage) (buf : Option Piece) → (posting_of (stage_with v t buf) t).job ≡ vic.Sync → (stage_does t).1 ≡ false
sync_decides v stages.Load buf is = absurd (cc (is))
sync_decides v stages.Draft buf is = absurd (cc (is))
sync_decides v stages.Mark buf is = absurd (cc (is))
sync_decides v stages.Header buf is = absurd (cc (is))
sync_decides v stages.Clear buf is = absurd (cc (is))
sync_decides v stages.Flush buf is = refl

-- the job of the one descriptor is a phase
pub record OnePhase (q : OpenChain) (d : Descriptor) (js : List Job) : Type 0 where
  pub phase_is : Phase
  pub jobs : js ≡ phase phase_is ∷ []
  pub its : IsPhaseOf q phase_is d

pub one_phase : (x : Around) (q : OpenChain) (d : Descriptor) (js : List Job) → Each (IsJob x (Some q)) (d ∷ []) js → AllByRecursion IsPhaseJob js → OnePhase q d js
one_phase x q d (phase p ∷ []) each all = record { phase_is = p; jobs = refl; its = each.0 }
one_phase x q d (phase p ∷ j ∷ js) each all = absurd each.1
one_phase x q d (transfer t ∷ js) each all = absurd all.0
one_phase x q d (flush ∷ js) each all = absurd all.0
one_phase x q d [] each all = absurd each
