-- A log is opened, and closed.
use Rattle.std.proofs.Common.{◌≡◌, ◌⊎◌, inl, inr, ℕ, suc, ◌-◌, ◌+◌, true, false, List, [], ◌∷◌, length, map, Option, None, refl, sym, ap, ◌∙◌, subst, arith}
use Rattle.std.specs.Prelude.{All, flat_map, Bool}
use Rattle.std.specs.List.{AllByRecursion}
use Rattle.std.proofs.Math.Path.{transport}
use Rattle.std.proofs.lemmas.List.Elements.{All-nil}
use Rattle.ark_entry.specs.Entry.{entry_blocks}
use Rattle.ark_media.specs.Journal.{History}
use Rattle.ark_region.specs.Frames.{Piece, Space, LiesInRegion, ShareNoFrame}
use Rattle.ark_vic.specs.Queue.{Queue, members}
use Rattle.ark_vic.specs.declared.descriptor.Descriptor.{Descriptor}
use Rattle.ark_vic.specs.declared.descriptor.Completion.{Completion}
use Rattle.ark_entry.specs.Found.{found}
use Rattle.ark_caladan.specs.Chain.{Log, Opened, entries, in_progress, stored}
use Rattle.ark_caladan.specs.Listed.{AreFull, IsListed}
use Rattle.ark_caladan.specs.Open.{Layout}
use Rattle.ark_caladan.specs.Plans.{CanWait}
use Rattle.ark_caladan.specs.Repairing.{Repair, Repairing, repaired_layout}
use Rattle.ark_caladan.specs.Standing.{LogStands, Proceeds, idle, makes_calls}
use Rattle.ark_log.specs.declared.command.Waiting.{Waiting}
use Rattle.ark_log.specs.Open.{OpenChain, IsRight}
use Rattle.ark_log.specs.declared.stage.Stage.{Stage}
use Rattle.ark_log.specs.Stages.{HasEntryBuffer, IsWhole, oldest_in}
use Rattle.ark_log.specs.Stands.{StandsFor}
use Rattle.ark_running.specs.Buffers.{AreRoomsOf, HasNoneOfTrim, HasReadFor, HaveLengths, blocks_read, buffers_of, entry_bytes_in, header_piece}
use Rattle.ark_running.specs.Ringed.{IsRingBy, IsUnderWay, progress_by, progress_of}
use Rattle.ark_running.specs.Opened.{IsNewlyOpen, IsRingEmpty, newly_opened, opened_log}
use Rattle.ark_running.specs.Running.{IsRunning, Where}
use Rattle.ark_running.proofs.Framing.{running_listed}
use Rattle.ark_running.proofs.Having.{has_proceeding}

module _ (h : History) (blocks : List ℕ) (space : Space) (ring : Queue) (v : OpenChain) (r : Repair) (g : Log) (card : List ℕ) where
  abbrev o : Opened
  o = newly_opened card v

  empty_progress : IsRingEmpty ring → progress_of ring ≡ idle
  empty_progress empty = (λ i. progress_by (empty.posted i) (empty.unreaped i) ring.moved)

  pub opens : IsRight v → IsNewlyOpen v space → IsRingEmpty ring → StandsFor v r.list [] → Repairing v.kind v.room h blocks r 1 1 → r.new.start ≡ v.start → v.kind ≡ g.kind → g.blocks ≡ suc v.room → stored g ≡ found r.list → AreFull h blocks
      → Proceeds h blocks (opened_log card v g) o (repaired_layout r) idle → IsRunning h blocks space ring v (repaired_layout r) (opened_log card v g) o
  opens right new empty stands repair start kind room is full goes = record {
    is = record {
      right = right;
      kind = kind;
      room = room;
      opened = refl;
      list = goes.list;
      stands = subst (λ l. StandsFor v l []) (sym (ap entries is)) stands;
      can = subst (λ n. CanWait n (entries (stored g)) []) less goes.is_open.waits.can;
      lengths = subst (λ ws. HaveLengths (entries (stored g)) ws []) (sym new.none) tt;
      start = start;
      done = new.done;
      failed = new.failed;
      header = refl;
      rooms = subst (λ ws. AreRoomsOf ws []) (sym new.none) tt;
      trims = subst (λ ws. AllByRecursion (λ w. HasNoneOfTrim w.command w.buf) ws) (sym new.none) tt;
    };
    size = repair.size ∙ sym room;
    on_disk = repair.on_disk;
    full = full;
    area = subst (λ q. LogStands h blocks (opened_log card v g) (repaired_layout r) q) (sym (empty_progress empty)) goes;
    has = has_proceeding h blocks (repaired_layout r) (opened_log card v g) o idle goes;
    ring = transport (λ i. IsRingBy v space ring.moved (sym empty.posted i) (sym empty.unreaped i)) (empty.moved, record { whole = whole; begins = λ going. new.done });
    buffers = record {
      lies = subst (λ ws. AllByRecursion (LiesInRegion space.taken) (header_piece v ∷ flat_map buffers_of ws)) (sym new.none) (new.lies, tt);
      apart = subst (λ ws. ShareNoFrame (header_piece v ∷ flat_map buffers_of ws)) (sym new.none) (λ j covers live. live, tt);
      hold = ap (λ ws. map (entry_bytes_in space) ws) new.none;
    };
    read = none_read v.waiting new.none;
  }
    where
      less : g.blocks - 1 ≡ v.room
      less = omega (arith, room)

      whole : IsWhole v
      whole = record { header = new.header; entries = subst (λ ws. All (λ w. HasEntryBuffer w.command w.buf) ws) (sym new.none) (All-nil (λ w. HasEntryBuffer w.command w.buf)) }

      none_read : (ws : List Waiting) → ws ≡ [] → Where (makes_calls o (progress_of ring)) (HasReadFor (oldest_in ws).command (repaired_layout r).stored (blocks_read v.done (entry_blocks (oldest_in ws).len) (progress_of ring)) (entry_bytes_in space (oldest_in ws)))
      none_read ws none = subst (λ xs. Where (makes_calls o (progress_of ring)) (HasReadFor (oldest_in xs).command (repaired_layout r).stored (blocks_read v.done (entry_blocks (oldest_in xs).len) (progress_of ring)) (entry_bytes_in space (oldest_in xs)))) (sym none) (nothing (makes_calls o (progress_of ring)))
        where
          nothing : (b : Bool) → Where b (Unit {0})
          nothing true = tt
          nothing false = tt

-- The log that is closed is as listed: what a command in progress leaves is what it was.
pub closes : (h : History) (blocks : List ℕ) (space : Space) (ring : Queue) (v : OpenChain) (p : Layout) (g : Log) (o : Opened) → IsRunning h blocks space ring v p g o → IsListed h blocks (record g { left = in_progress g; opened = None })
closes h blocks space ring v p g o runs = running_listed h blocks space ring v p g o runs

-- where it has failed, or no command waits, its ring has nothing
pub rests_free : (h : History) (blocks : List ℕ) (space : Space) (ring : Queue) (v : OpenChain) (p : Layout) (g : Log) (o : Opened) → IsRunning h blocks space ring v p g o → (v.failed ≡ true) ⊎ (v.waiting ≡ []) → members ring ≡ 0
rests_free h blocks space ring v p g o runs rests = by ring.posted ring.unreaped runs.ring
  where
    off : (stage : Stage) (buf : Option Piece) → IsUnderWay v stage buf → (v.failed ≡ true) ⊎ (v.waiting ≡ []) → ⊥
    off stage buf way (inl failed) = let both : true ≡ false = sym failed ∙ way.going in cc (both)
    off stage buf way (inr none) = let long : length v.waiting ≡ 0 = ap length none in omega (arith, way.some, long)

    by : (ds : List Descriptor) (us : List Completion) → IsRingBy v space ring.moved ds us → length ds + length us ≡ 0
    by [] [] is = refl
    by (d ∷ []) [] is = absurd (off is.0 is.1 is.2.way rests)
    by [] (u ∷ []) is = absurd (off is.1.0 u.buf is.1.1 rests)
    by [] (u ∷ x ∷ us) is = absurd is
    by (d ∷ []) (u ∷ us) is = absurd is
    by (d ∷ x ∷ ds) us is = absurd is
