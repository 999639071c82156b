-- A device is told to be damaged only where it was there.
use Rattle.std.proofs.Common.{◌≡◌, ℕ, List, [], ◌∷◌, sym, ◌∙◌, ap, subst, decimal, inl, inr}
use Rattle.std.specs.Prelude.{Option, Some, None, option_map, unwrap_or}
use Rattle.ark_base.specs.declared.status.Status.{Status}
use Rattle.ark_base.specs.declared.status.Status.TheVariants.{Damaged}
use Rattle.ark_media.specs.Calls.{Told, Beside}
use Rattle.ark_media.specs.Parts.{parts}
use Rattle.ark_words.specs.Sorted.{Sorted, sorted}
use Rattle.ark_cli.specs.Words.{IsRun, IsCheck, AsksFor}
use Rattle.ark_cli.specs.Working.{WorkEnds}
use Rattle.ark_cli.specs.Opening.{Start, new_device, old_device, blocks_asked}
use Rattle.ark_cli.specs.Ending.{Ends, IsClosed, Does, no_command, unread, no_memory, no_device, runs, checks, works}

abbrev new_words : Option Sorted → List (List ℕ)
new_words o = unwrap_or (option_map (λ s. s.new) o) []

-- words that ask for a new device ask for none that was there
not_both : (words : List (List ℕ)) (size : ℕ) (device other : List ℕ) → IsRun words (Some size) device → IsRun words None other → ⊥
not_both words size device other a b =
    let rest : a.0.0 ≡ b.0.0 = cc (a.0.1, b.0.1) in
    let new : decimal size ∷ [] ≡ [] = ap new_words (sym a.0.2 ∙ ap sorted rest ∙ b.0.2) in
    absurd (cc new)

-- nor are they those of `check`
not_check : (words : List (List ℕ)) (size : ℕ) (device other : List ℕ) → IsRun words (Some size) device → IsCheck words other → ⊥
not_check words size device other a b = absurd (cc (a.0.1, b.0.1))

-- nor does `work` ask for one that was there
made_alone : (words : List (List ℕ)) (size : ℕ) (device other : List ℕ) → AsksFor words (Some size) device → IsRun words None other → ⊥
made_alone words size device other (inl (inl run)) old = not_both words size device other run old
made_alone words size device other (inl (inr work)) old = absurd (cc (work.3.0.1, old.0.1))
made_alone words size device other (inr check) old = absurd (cc check.0)

made_not_checked : (words : List (List ℕ)) (size : ℕ) (device other : List ℕ) → AsksFor words (Some size) device → IsCheck words other → ⊥
made_not_checked words size device other (inl (inl run)) check = not_check words size device other run check
made_not_checked words size device other (inl (inr work)) check = absurd (cc (work.3.0.1, check.0.1))
made_not_checked words size device other (inr none) check = absurd (cc none.0)

module _ (words : List (List ℕ)) (t0 t1 : Told) (b0 b1 : Beside) (status : Status) (block : ℕ) (is : status ≡ Damaged block) (size : ℕ) (device : List ℕ) (command : AsksFor words (Some size) device) where
  none_made : (start : Start) (name : List ℕ) → IsRun words (blocks_asked start) name → IsClosed start name t0 t1 b0 b1 status → ⊥
  none_made (new_device n) name run c = (subst (λ (e : Status). Ends (new_device n) t1 e c.script (parts c.events).whole c.rest) is c.ends).1.0
  none_made (old_device image) name run c = made_alone words size device name command run

  pub damaged_only : Does words t0 t1 b0 b1 status → ⊥
  damaged_only (no_command usage none quiet) = absurd (cc (is, usage))
  damaged_only (unread memory quiet) = absurd (cc (is, memory))
  damaged_only (no_memory blocks name memory run quiet) = absurd (cc (is, memory))
  damaged_only (no_device blocks name failed asked refused) = absurd (cc (is, failed))
  damaged_only (runs start name run closed) = none_made start name run closed
  damaged_only (checks image name closing check closes r) = made_not_checked words size device name command check
  damaged_only (works seed lines name closing work closes r) = subst (λ (e : Status). WorkEnds seed lines e (parts r.run).whole (parts r.run).unfinished r.shown) is r.ends
