-- The log of an area, read by its application.
use Rattle.std.specs.Prelude.{◌≡◌, ◌≤◌, ℕ, ◌+◌, Bool, true, false, List, [], length, take, drop, nat_eq, ◌==◌, Option, Some, None, option_and_then, Result, Ok, Err}
use Rattle.std.specs.Map.{lookup}
use Rattle.ark_media.specs.Journal.{Event, History, current}
use Rattle.ark_media.specs.Calls.{Told}
use Rattle.ark_media.specs.Standing.{after}
use Rattle.ark_entry.specs.Entry.{payload_at}
use Rattle.ark_caladan.specs.Views.{OnDisk, contents_at}
use Rattle.ark_log.specs.Open.{OpenChain}
use Rattle.ark_log.specs.Refused.{length_of}
use Rattle.ark_log.specs.Walked.{HasAt, place_of}
use Rattle.ark_log.specs.declared.walking.ReadAt.{ReadAt}
use Rattle.ark_log.specs.declared.walking.ReadAt.TheVariants.{NoEntry, DeviceFault}
use Rattle.ark_running.specs.Opening.{ReadsArea}
use Rattle.ark_objects.specs.Held.{at}
use Rattle.ark_held.specs.Words.{AreaList}
use Rattle.ark_held.specs.declared.areas.Area.{Area}
use Rattle.ark_held.specs.declared.card.StorageCard.{StorageCard}
use Rattle.ark_logs.specs.declared.finding.OpenAt.{OpenAt}

-- A log with its area, which has one block more than the ring.

abbrev pub if_fits : Bool → OpenChain → Area → Option (OpenChain × Area)
if_fits true v a = Some (v, a)
if_fits false v a = None

abbrev pub both_of : Option OpenChain → Option Area → Option (OpenChain × Area)
both_of (Some v) (Some a) = if_fits (v.room + 1 == length a.spans) v a
both_of (Some v) None = None
both_of None a = None

-- what is open on a card, with the area of a grant
abbrev pub log_with_area : List (Option StorageCard) → AreaList → OpenAt → Option (OpenChain × Area)
log_with_area cards areas a = both_of (option_and_then (λ c. c.log) (at cards a.key)) (lookup (nat_eq a.grant) areas)

-- An entry was read whole: its blocks, and its payload is at the front of the bytes.
pub record HasWalked (told : Told) (v : OpenChain) (blocks : List ℕ) (n len : ℕ) (out : List ℕ) (es : List Event) : Type 0 where
  pub there : HasAt v n
  pub is : len ≡ length_of v n
  pub short : len ≤ 32768
  pub read : ReadsArea blocks true es
  pub payload : (h : History) → told.history ≡ Some (after h es) → OnDisk blocks h.base
      → take len out ≡ payload_at (drop 1 (contents_at (current h.base h.journal) blocks)) (place_of v n) (length_of v n)

-- what was read of an entry: nothing where there is none, and up to the read that failed
abbrev pub IsWalk : Told → OpenChain → List ℕ → ℕ → Result ℕ ReadAt → List ℕ → List Event → Type 0
IsWalk told v blocks n (Ok len) out es = HasWalked told v blocks n len out es
IsWalk told v blocks n (Err NoEntry) out es = (¬ HasAt v n) × (es ≡ [])
IsWalk told v blocks n (Err DeviceFault) out es = HasAt v n × ReadsArea blocks false es
