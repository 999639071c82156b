-- The entries of an open log on its blocks.
use Rattle.std.proofs.Common.{◌≡◌, ℕ, suc, ◌+◌, ◌-◌, ◌%◌, ◌≤◌, ◌<◌, false, List, [], ◌∷◌, ◌++◌, length, get_or, ◌∙◌, arith}
use Rattle.std.proofs.Math.Nat.{mod-lt}
use Rattle.ark_base.specs.declared.kind.Kind.{Kind}
use Rattle.ark_media.specs.Journal.{Event, History}
use Rattle.ark_media.specs.Calls.{Comes}
use Rattle.ark_media.specs.Standing.{after}
use Rattle.ark_entry.specs.Found.{Entries}
use Rattle.ark_caladan.specs.Chain.{Command, Log, Opened, commands, entries}
use Rattle.ark_caladan.specs.Listed.{SameAt}
use Rattle.ark_caladan.specs.Open.{Layout, freed_first, IsOpenWith, oldest_stages}
use Rattle.ark_caladan.specs.Stages.{Stage, call_of, calls_of, syncs}
use Rattle.ark_caladan.specs.Standing.{Proceeds, Progress, calls_made, stage_at}
use Rattle.ark_caladan.proofs.Walking.{walk_reads, walk_reads_failed}
use Rattle.ark_running.specs.Running.{HasEntries}

module _ (kind : Kind) (room : ℕ) (h : History) (blocks : List ℕ) (p : Layout) (l : Entries) where
  -- they stay while its blocks do,
  pub has_same : (later : History) (cs : List Command) → length blocks ≡ suc room → 0 < room → SameAt h later blocks → HasEntries kind room h blocks p l cs → HasEntries kind room later blocks p l cs
  has_same later cs size some same has = record {
    lies = has.lies;
    there = λ u low behind. (same (suc ((p.says.start + u) % room)) (let less = mod-lt (p.says.start + u) some in omega (arith, less, size))).0 ∙ has.there u low behind;
  }

  -- and when one more command waits.
  pub has_more : (cs : List Command) (c : Command) → HasEntries kind room h blocks p l cs → HasEntries kind room h blocks p l (cs ++ c ∷ [])
  has_more cs c has = record { lies = has.lies; there = λ u low behind. has.there u low (less cs u behind) }
    where
      less : (cs : List Command) (u : ℕ) → freed_first l (cs ++ c ∷ []) ≤ u → freed_first l cs ≤ u
      less [] u le = omega arith
      less (x ∷ cs) u le = le

module _ (h : History) (blocks : List ℕ) (p : Layout) (g : Log) (o : Opened) (progress : Progress) (goes : Proceeds h blocks g o p progress) where
  abbrev at_of : List Command → Stage
  at_of cs = get_or (oldest_stages g.kind (g.blocks - 1) p (entries g.list) cs) o.done syncs

  -- They are there while the log makes calls,
  pub has_proceeding : HasEntries g.kind (g.blocks - 1) h blocks p (entries g.list) (commands o)
  has_proceeding = record {
    lies = goes.is_open.waits.lies;
    there = λ u low behind. walk_reads g.kind (g.blocks - 1) h blocks p (entries g.list) (commands o) o.done (calls_made (stage_at g o p) progress) u goes.is_open low behind;
  }

  -- and behind a call that fails.
  pub has_failed : 0 < length (commands o) → (e : Event) → calls_made (stage_at g o p) progress < calls_of (stage_at g o p)
      → Comes (call_of blocks (stage_at g o p) (calls_made (stage_at g o p) progress)) false e → HasEntries g.kind (g.blocks - 1) (after h (e ∷ [])) blocks p (entries g.list) (commands o)
  has_failed some e lt came = by (commands o) some goes.is_open lt came
    where
      by : (cs : List Command) → 0 < length cs → IsOpenWith g.kind (g.blocks - 1) h blocks p (entries g.list) cs o.done (calls_made (at_of cs) progress) → calls_made (at_of cs) progress < calls_of (at_of cs)
          → Comes (call_of blocks (at_of cs) (calls_made (at_of cs) progress)) false e → HasEntries g.kind (g.blocks - 1) (after h (e ∷ [])) blocks p (entries g.list) cs
      by [] some opened lt came = absurd (omega (arith, some))
      by (c ∷ cs) some opened lt came = record {
        lies = opened.waits.lies;
        there = λ u low behind. walk_reads_failed g.kind (g.blocks - 1) h blocks p (entries g.list) c cs o.done (calls_made (at_of (c ∷ cs)) progress) u opened low behind e lt came;
      }
