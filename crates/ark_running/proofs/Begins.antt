-- A poll posts the first stage of a command.
use Rattle.std.proofs.Common.{◌≡◌, ℕ, ◌-◌, false, not, List, map, Some, refl, sym, ap, ◌∙◌, subst, arith}
use Rattle.std.specs.Prelude.{slice_get}
use Rattle.ark_media.specs.Journal.{History}
use Rattle.ark_entry.specs.Entry.{entry_blocks}
use Rattle.ark_caladan.specs.Chain.{Log, Opened, commands, entries}
use Rattle.ark_caladan.specs.Open.{Layout}
use Rattle.ark_caladan.specs.Postings.{HoldEntries, place_behind}
use Rattle.ark_caladan.specs.Standing.{Proceeds, Progress, idle}
use Rattle.ark_caladan.specs.Standing as standing
use Rattle.ark_caladan.proofs.Standing as standing_proofs
use Rattle.ark_log.specs.declared.command.Command.{Command}
use Rattle.ark_log.specs.declared.command.Command.TheVariants.{Append, Trim, Pop}
use Rattle.ark_log.specs.declared.polling.Polled.{Polled}
use Rattle.ark_log.specs.declared.stage.Stage.{Stage}
use Rattle.ark_log.specs.Polled.{Around, GoesOn, IsBegun, IsPosted, stage_of}
use Rattle.ark_log.specs.Stages.{oldest, stages_of}
use Rattle.ark_running.specs.Buffers.{HasReadFor, blocks_read, entry_bytes_in}
use Rattle.ark_running.specs.Ringed.{IsFree, progress_by}
use Rattle.ark_running.specs.Running.{IsRunning}
use Rattle.ark_running.proofs.Posts.{IsReady, posted_runs}
use Rattle.ark_running.proofs.Proceeding.{free_ring, proceeds_at}

-- The first stage.
module _ (h : History) (blocks : List ℕ) (p : Layout) (g : Log) (o : Opened) (old new : Around) (result : Polled) (runs : IsRunning h blocks old.space old.ring old.chain p g o) (going : old.chain.failed ≡ false) (begun : IsBegun old new result) where
  pub free : (old.ring.moved ≡ 0) × IsFree old.chain
  free = free_ring old.chain old.space old.ring.moved old.ring.posted old.ring.unreaped runs.ring begun.posted begun.unreaped

  none_done : old.chain.done ≡ 0
  none_done = free.1.begins going

  first_stage : (c : Command) → (s : Stage) × (slice_get (stages_of c) 0 ≡ Some s)
  first_stage (Append n) = (_, refl)
  first_stage (Trim n) = (_, refl)
  first_stage (Pop n) = (_, refl)

  pub next : (s : Stage) × (stage_of old.chain ≡ Some s)
  next = let first = first_stage (oldest old.chain).command in (first.0, ap (slice_get (stages_of (oldest old.chain).command)) none_done ∙ first.1)

  is_posted : IsPosted next.0 old new result
  is_posted = subst (λ s. GoesOn s old new result) next.1 begun.goes

  pub begins : (s : Stage) × IsPosted s old new result
  begins = (next.0, is_posted)

  ready : IsReady h blocks old.space old.chain p g o
  ready = record {
    is = runs.is;
    size = runs.size;
    on_disk = runs.on_disk;
    full = runs.full;
    goes = standing_proofs.starts blocks g p h o (proceeds_at h blocks old.space old.ring old.chain p g o runs idle (λ i. progress_by (begun.posted i) (begun.unreaped i) old.ring.moved) (ap not (sym runs.is.failed ∙ going)));
    going = going;
    whole = free.1.whole;
    buffers = record {
      lies = runs.buffers.lies;
      apart = runs.buffers.apart;
      hold = let less : old.chain.done ≡ old.chain.done - 1 = omega (arith, none_done) in
          subst (λ d. HoldEntries old.chain.room (place_behind p.says (entries g.list)) d (commands o) (map (entry_bytes_in old.space) old.chain.waiting)) less runs.buffers.hold;
    };
    read = subst (λ d. HasReadFor (oldest old.chain).command p.stored (blocks_read d (entry_blocks (oldest old.chain).len) (standing.posted 0)) (entry_bytes_in old.space (oldest old.chain))) (sym none_done)
        (none_read (oldest old.chain).command (entry_bytes_in old.space (oldest old.chain)));
  }
    where
      none_read : (c : Command) (bytes : List ℕ) → HasReadFor c p.stored 0 bytes
      none_read (Append n) bytes = tt
      none_read (Trim n) bytes = tt
      none_read (Pop n) bytes = refl

  pub starts : IsRunning h blocks new.space new.ring new.chain p g o
  starts = posted_runs h blocks p g o old new result next.0 is_posted begun.posted begun.unreaped free.0 begun.some ready next.1
