-- An open log that runs and makes calls proceeds, as far as its ring says.
use Rattle.std.proofs.Common.{◌≡◌, ℕ, ◌<◌, true, List, [], ◌∷◌, length, Option, Some, refl, ap, subst, arith}
use Rattle.std.specs.Prelude.{slice_get}
use Rattle.ark_base.specs.declared.kind.Kind.{Kind}
use Rattle.ark_media.specs.Journal.{History}
use Rattle.ark_region.specs.Frames.{Piece, Space}
use Rattle.ark_vic.specs.Queue.{Queue}
use Rattle.ark_vic.specs.declared.descriptor.Descriptor.{Descriptor}
use Rattle.ark_vic.specs.declared.descriptor.Completion.{Completion}
use Rattle.ark_entry.specs.Found.{Entries}
use Rattle.ark_caladan.specs.Chain as log
use Rattle.ark_caladan.specs.Chain.{Log, Opened}
use Rattle.ark_caladan.specs.Open.{Layout, oldest_stages}
use Rattle.ark_caladan.specs.Standing.{LogStandsAs, OpenStands, Proceeds, Progress, makes_calls}
use Rattle.ark_log.specs.declared.command.Waiting.{Waiting}
use Rattle.ark_log.specs.declared.stage.Stage.{Stage}
use Rattle.ark_log.specs.Open.{OpenChain}
use Rattle.ark_log.specs.Stages.{oldest_in, stages_of}
use Rattle.ark_log.specs.Stands.{AreCommands}
use Rattle.ark_running.specs.Ringed.{IsFree, IsPostedFor, IsRingBy, progress_of}
use Rattle.ark_running.specs.Running.{IsRunning}
use Rattle.ark_running.proofs.Acks.{as_planned}

pub proceeds_at : (h : History) (blocks : List ℕ) (space : Space) (ring : Queue) (v : OpenChain) (p : Layout) (g : Log) (o : Opened) → IsRunning h blocks space ring v p g o → (q : Progress) → progress_of ring ≡ q → makes_calls o q ≡ true → Proceeds h blocks g o p q
proceeds_at h blocks space ring v p g o runs q is makes =
    subst (λ t. OpenStands t h blocks g o p q) makes (subst (λ q2. LogStandsAs h blocks g p q2 (Some o)) is (subst (λ (y : Option Opened). LogStandsAs h blocks g p (progress_of ring) y) runs.is.opened runs.area))

-- what a ring has that has nothing of the log
pub free_ring : (v : OpenChain) (space : Space) (moved : ℕ) (ds : List Descriptor) (us : List Completion) → IsRingBy v space moved ds us → ds ≡ [] → us ≡ [] → (moved ≡ 0) × IsFree v
free_ring v space moved [] [] is no_ds no_us = is
free_ring v space moved (d ∷ ds) us is no_ds no_us = absurd (cc (no_ds))
free_ring v space moved [] (u ∷ us) is no_ds no_us = absurd (cc (no_us))

-- the oldest command has as many stages as it plans
pub long_stages : (kind : Kind) (room : ℕ) (p : Layout) (l : Entries) (ws : List Waiting) (cs : List log.Command) → AreCommands ws cs → 0 < length ws → (0 < length cs) × (length (oldest_stages kind room p l cs) ≡ length (stages_of (oldest_in ws).command))
long_stages kind room p l [] cs are some = absurd (omega (arith, some))
long_stages kind room p l (w ∷ ws) [] are some = absurd are
long_stages kind room p l (w ∷ ws) (c ∷ cs) are some = (omega arith, as_planned w.command c kind room p.header p.says p.stored l are.0)

-- what is posted alone
pub alone_posted : (v : OpenChain) (space : Space) (moved : ℕ) (ds : List Descriptor) (us : List Completion) (d : Descriptor) → IsRingBy v space moved ds us → slice_get ds 0 ≡ Some d
    → (ds ≡ d ∷ []) × (us ≡ []) × ((stage : Stage) × (buf : Option Piece) × IsPostedFor v space stage buf d moved)
alone_posted v space moved [] us d is at = absurd (cc (at))
alone_posted v space moved (x ∷ []) [] d is at =
    let same : x ≡ d = cc (at) in
    (ap (λ (y : Descriptor). y ∷ []) same, refl, subst (λ y. (stage : Stage) × (buf : Option Piece) × IsPostedFor v space stage buf y moved) same is)
alone_posted v space moved (x ∷ []) (u ∷ us) d is at = absurd is
alone_posted v space moved (x ∷ y ∷ ds) us d is at = absurd is
