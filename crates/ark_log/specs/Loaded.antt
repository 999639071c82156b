-- An open log or queue of what stands on a device.
use Rattle.std.specs.Prelude.{◌≡◌, ◌⊎◌, ◌<◌, ◌-◌, ◌^◌, ℕ, false, List, [], Some, Bool, true, Ok, Err}
use Rattle.ark_base.specs.declared.kind.Kind.{Kind}
use Rattle.ark_media.specs.Journal.{Event, AllBlocks}
use Rattle.ark_media.specs.Calls.{Told, Went, OnTold}
use Rattle.ark_region.specs.Frames.{Piece, Space, Wrote}
use Rattle.ark_entry.specs.Header as head
use Rattle.ark_entry.specs.Found.{found_of, damaged}
use Rattle.ark_chain.specs.declared.surveying.Seen.{Seen}
use Rattle.ark_chain.specs.declared.surveying.SurveyFault.{SurveyFault}
use Rattle.ark_chain.specs.declared.surveying.SurveyFault.TheVariants as survey
use Rattle.ark_chain.specs.Survey.{HasFound, IsSeen}
use Rattle.ark_chain.specs.Repair.{AreNoted, HasInspected, repair_calls}
use Rattle.ark_log.specs.declared.loading.LoadFault.{LoadFault}
use Rattle.ark_log.specs.declared.loading.LoadFault.TheVariants.{Memory, DeviceFault, Damaged}
use Rattle.ark_log.specs.Open.{OpenChain}

-- the log or queue of a list that was found
abbrev pub loaded_chain : Kind → ℕ → ℕ → Piece → Seen → List ℕ → OpenChain
loaded_chain kind grant room header seen lengths = record {
  kind = kind;
  grant = grant;
  room = room;
  first = seen.first;
  start = seen.start;
  count = seen.count;
  coming = seen.first;
  lengths = lengths;
  stored = seen.used;
  used = seen.used;
  header_at = header.start;
  header = Some header;
  waiting = [];
  done = 0;
  failed = false;
}

-- the header that is written of it
abbrev pub header_of_seen : Seen → head.Header
header_of_seen seen =
    record { first = seen.first; start = seen.start; count = seen.count; end = seen.end }

abbrev pub header_bytes : Kind → Seen → List ℕ
header_bytes kind seen = head.bytes_of kind (header_of_seen seen)

-- A list was found, by reads alone, in an area of fewer than 2^32 blocks, and the area was repaired: those blocks outside the list
-- became zero that were not, and the header says the list. No call was made after one that failed.
pub record HasRepaired {D : Type 0} (goes : D → List Event → D → Type 0) (told : D → Told)
    (kind : Kind) (seen : Seen) (lengths : List ℕ) (ok : Bool) (old new : D) : Type 0 where
  pub between : D
  pub inspected : HasInspected goes told kind (Ok seen) lengths old between
  pub found : OnTold (told between) (λ image. AllBlocks image → HasFound kind seen lengths image)
  pub is_seen : IsSeen (told old).blocks lengths seen
  pub few : (told old).blocks < 2 ^ 32
  pub noted : List ℕ
  pub is_noted : OnTold (told between) (AreNoted seen noted)
  pub repaired : Went goes (repair_calls noted (header_bytes kind seen)) ok between new

-- Reads were made, and the list is damaged at this number, or a read failed.
pub record HasNotFound {D : Type 0} (goes : D → List Event → D → Type 0) (told : D → Told)
    (kind : Kind) (fault : SurveyFault) (old new : D) : Type 0 where
  pub lengths : List ℕ
  pub inspected : HasInspected goes told kind (Err fault) lengths old new

-- why nothing was opened, and what was done
abbrev pub HasFailedToLoad : {D : Type 0} → (D → List Event → D → Type 0) → (D → Told)
    → Kind → LoadFault → D → D → Type 0
HasFailedToLoad goes told kind Memory old new = new ≡ old
HasFailedToLoad goes told kind (Damaged n) old new =
    HasNotFound goes told kind (survey.Damaged n) old new
    × OnTold (told new) (λ image. AllBlocks image → found_of kind image ≡ damaged n)
HasFailedToLoad goes told kind DeviceFault old new =
    HasNotFound goes told kind survey.DeviceFault old new
    ⊎ ((seen : Seen) × (lengths : List ℕ)
    × HasRepaired goes told kind seen lengths false old new)

-- the buffer holds the header, and so does no other
abbrev pub HoldsHeader : Kind → Seen → Piece → Space → Space → Type 0
HoldsHeader kind seen header old new = Wrote old new header 0 (header_bytes kind seen)

-- it was opened: a list was found, and the chain and the header's buffer are those of it
pub record HasLoaded {D : Type 0} (goes : D → List Event → D → Type 0) (told : D → Told)
    (kind : Kind) (grant : ℕ) (header : Piece) (chain : OpenChain) (region after : Space)
    (old new : D) : Type 0 where
  pub seen : Seen
  pub lengths : List ℕ
  pub repaired : HasRepaired goes told kind seen lengths true old new
  pub chain_is : chain ≡ loaded_chain kind grant ((told old).blocks - 1) header seen lengths
  pub held : HoldsHeader kind seen header region after
