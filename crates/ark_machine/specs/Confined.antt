-- Which blocks a line may touch and which frames it may send, by the grants that are held before it.
use Rattle.std.specs.Prelude.{◌≡◌, ◌⊎◌, ℕ, Bool, true, ◌&&◌, List, [], ◌∷◌, ◌++◌, length, drop, if◌then◌else◌, is_some, option_map, unwrap_or, Ok, Err, Contains, IsTrue}
use Rattle.std.specs.List.{flat_map}
use Rattle.ark_media.specs.Journal.{Event, Read, Write, Sync, Out, has_succeeded, device_events, output_of}
use Rattle.ark_script.specs.Attributes.{attributes}
use Rattle.ark_script.specs.Line as w
use Rattle.ark_script.specs.Line.{Line}
use Rattle.ark_script.specs.Lines.{Meaning, Says, FirstSay}
use Rattle.ark_machine.specs.Machine.{Machine, Held, raw_at, vsic_at, label_numbered}
use Rattle.ark_machine.specs.Control.{is_open_on}
use Rattle.ark_machine.specs.Plane.{blocks_at, slot_of, asked_blocks}
use Rattle.ark_machine.specs.System.{System, machine_of}
use Rattle.ark_machine.specs.Follow.{slots_for}
use Rattle.ark_machine.specs.Sending.{SendsWithin, DeliversWithin, AllKeep, PassesWithin}
use Rattle.ark_machine.specs.Replies.{turn_for, system_after}

-- what a card reaches: the areas that are bound to it, by the numbers of their objects, and the log that is open on it
abbrev pub bound_to : Machine → List ℕ → List ℕ
bound_to m v = unwrap_or (option_map (λ x. x.bound) (vsic_at m v)) []

abbrev pub blocks_numbered : System → List ℕ → Machine → ℕ → List ℕ
blocks_numbered s a m n = blocks_at s.plane a (label_numbered m n)

abbrev pub open_blocks : System → List ℕ → List ℕ → Held → List ℕ
open_blocks s a v h = if is_open_on v h.object then blocks_at s.plane a h.label else []

abbrev pub reach : System → List ℕ → List ℕ → List ℕ
reach s a v =
    flat_map (λ n. blocks_numbered s a (machine_of s a) n) (bound_to (machine_of s a) v)
    ++ flat_map (λ h. open_blocks s a v h) (machine_of s a).held

-- the blocks that a line may read
abbrev pub readable : System → Line → List ℕ
readable s (w.peek a l off) = blocks_at s.plane a l
readable s (w.walk a l n) = blocks_at s.plane a l
readable s (w.log a l v) = blocks_at s.plane a l
readable s (w.queue a l v) = blocks_at s.plane a l
readable s (w.settle a l) = blocks_at s.plane a l
readable s (w.dev a v) = reach s a v
readable s _ = []

-- the blocks that a line may write: of an area that is held, or new ones, with the slot
abbrev pub writable : System → Line → List ℕ
writable s (w.poke a l off bytes) = blocks_at s.plane a l
writable s (w.log a l v) = blocks_at s.plane a l
writable s (w.queue a l v) = blocks_at s.plane a l
writable s (w.settle a l) = blocks_at s.plane a l
writable s (w.dev a v) = reach s a v
writable s (w.vsa a l n k) = slots_for s.plane a (w.vsa a l n k) ++ asked_blocks s.plane (w.vsa a l n k)
writable s (w.grow a l n) = slots_for s.plane a (w.grow a l n) ++ asked_blocks s.plane (w.grow a l n)
writable s (w.drop a x) = slots_for s.plane a (w.drop a x)
writable s _ = []

-- what is there to be synced: a card that moves is a storage card, what grows is a raw area, and what is dropped has a slot
abbrev pub is_synced : System → Line → Bool
is_synced s (w.dev a v) = is_some (vsic_at (machine_of s a) v)
is_synced s (w.grow a l n) = is_some (raw_at (machine_of s a) l)
is_synced s (w.drop a x) = is_some (slot_of s.plane a x)
is_synced s _ = true

-- whether it may sync
abbrev pub may_sync : System → Line → Bool
may_sync s line = (attributes line).may_sync && is_synced s line

abbrev pub IsAllowed : System → Line → Event → Type 0
IsAllowed s line (Read n ok) = Contains (readable s line) n
IsAllowed s line (Write n content took ok) = Contains (writable s line) n
IsAllowed s line (Sync ok) = IsTrue (may_sync s line)
IsAllowed s line (Out bytes) = Unit {0}

abbrev pub AllAllowed : System → Line → List Event → Type 0
AllAllowed s line [] = Unit {0}
AllAllowed s line (e ∷ es) = IsAllowed s line e × AllAllowed s line es

-- no device call follows one that failed
abbrev pub EndsAtFailure : List Event → Type 0
EndsAtFailure [] = Unit {0}
EndsAtFailure (e ∷ []) = Unit {0}
EndsAtFailure (e ∷ f ∷ es) = IsTrue (has_succeeded e) × EndsAtFailure (f ∷ es)

-- the device events of one line: what they touch, that they end at a failure, and that their blocks are within the rate
abbrev pub IsConfined : System → Meaning → List Event → Type 0
IsConfined s (Ok line) es = AllAllowed s line es × EndsAtFailure es × PassesWithin s line es
IsConfined s (Err refusal) es = es ≡ []

-- Each whole part: what was done to the device, the frame that the output shows to have gone out or come in, and the rates that
-- the machines keep for all queues afterwards.
pub record IsPartConfined (s : System) (m : Meaning) (part : List Event) : Type 0 where
  pub device : IsConfined s m (device_events part)
  pub sends : SendsWithin s m (output_of part)
  pub delivers : DeliversWithin s m (output_of part)
  pub rates : AllKeep (turn_for s m part).after

abbrev pub EachConfined : System → List Meaning → List (List Event) → Type 0
EachConfined s [] parts = Unit {0}
EachConfined s (m ∷ ms) [] = Unit {0}
EachConfined s (m ∷ ms) (part ∷ parts) = IsPartConfined s m part × EachConfined (turn_for s m part).after ms parts

-- the part that is not whole, of the next of the lines
abbrev pub BeginsConfined : System → List (List ℕ) → List Event → Type 0
BeginsConfined s [] es = es ≡ []
BeginsConfined s (line ∷ lines) es = (es ≡ []) ⊎ ((m : Meaning) × Says line m × IsConfined s m es)

-- From a system on, every part touches only what its line may touch, and shows no frame that no filter lets out or in or that
-- goes past the rate of its card's queue, with the system as it is before the line.
pub record Confined (s : System) (lines : List (List ℕ)) (whole : List (List Event)) (unfinished : List Event) : Type 0 where
  pub meanings : List Meaning
  pub say : FirstSay lines meanings
  pub count : length meanings ≡ length whole
  pub each : EachConfined s meanings whole
  pub begins : BeginsConfined (system_after s meanings whole) (drop (length whole) lines) (device_events unfinished)
