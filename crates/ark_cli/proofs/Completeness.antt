-- What is asked for is done, where nothing fails.
use Rattle.std.proofs.Common.{◌≡◌, ℕ, ◌≤◌, List, ◌++◌, length, refl, ◌∙◌, ap, inl, inr, arith, length-append}
use Rattle.std.specs.Prelude.{◌⊎◌, Option}
use Rattle.ark_base.specs.declared.status.Status.{Status}
use Rattle.ark_base.specs.declared.status.Status.TheVariants.{Done, Usage, Source, Sink, Device, Memory, Damaged, Long}
use Rattle.ark_media.specs.Calls.{Told, Beside, Script, Takes}
use Rattle.ark_cli.specs.Words.{IsRun, AsksFor}
use Rattle.ark_cli.specs.Line.{limit}
use Rattle.ark_cli.specs.Complete.{IsUntroubled, HasShortScript, FitsRun}
use Rattle.ark_cli.specs.Opening.{Start, blocks_asked}
use Rattle.ark_cli.specs.Ending.{IsClosed, Does, no_command, unread, no_memory, no_device, runs, checks, works, IsCause}
use Rattle.ark_cli.proofs.ClosingLines.{usage_only}

-- more bytes than are run cannot be taken of a short script
takes_few : (before after : Option Script) (bytes : List ℕ) → HasShortScript before after → Takes before after bytes → length bytes ≤ limit
takes_few before after bytes h takes =
    let t = takes.told h.last h.is in
    let same : h.first ≡ t.0 = cc in
    let left : h.first.left ≡ bytes ++ h.last.left = ap (λ (x : Script). x.left) same ∙ t.3 in
    omega (arith, h.short, ap (λ (l : List ℕ). length l) left, length-append bytes h.last.left)

module _ (words : List (List ℕ)) (blocks : Option ℕ) (device : List ℕ) (asked : AsksFor words blocks device) (t0 t1 : Told) (b0 b1 : Beside) (short : FitsRun words b0.script b1.script) (quiet : IsUntroubled t0 t1 b0 b1) where
  not_long : (n : Start) (d : List ℕ) → IsRun words (blocks_asked n) d → IsClosed n d t0 t1 b0 b1 Long → ⊥
  not_long n d run c =
      let few = takes_few b0.script b1.script c.script (short (blocks_asked n) d run) c.since.takes in
      absurd (omega (arith, few, c.long refl))

  never_long : Does words t0 t1 b0 b1 Long → ⊥
  never_long (no_command is none quiet) = cc
  never_long (unread is quiet) = cc
  never_long (no_memory n d is run quiet) = cc
  never_long (no_device n d is other refused) = cc
  never_long (runs n d run closed) = not_long n d run closed
  never_long (checks image d closing check closes r) = r.ends
  never_long (works seed lines d closing work closes r) = r.ends

  pub complete : (status : Status) → Does words t0 t1 b0 b1 status → IsCause t0 t1 b0 b1 status → (status ≡ Done) ⊎ (status ≡ Memory) ⊎ ((block : ℕ) × (status ≡ Damaged block))
  complete Done d h = inl refl
  complete Memory d h = inr (inl refl)
  complete Usage d h = absurd (usage_only words t0 t1 b0 b1 Usage d refl blocks device asked)
  complete Source d h = absurd (quiet.source h)
  complete Sink d h = absurd (quiet.sink h)
  complete Device d (inl h) = absurd (quiet.attach h)
  complete Device d (inr h) = absurd (quiet.device h)
  complete (Damaged block) d h = inr (inr (block, refl))
  complete Long d h = absurd (never_long d)
