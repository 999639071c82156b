-- What a kept event stands for.
use Rattle.std.specs.Prelude.{◌≡◌, ℕ, ◌-◌, ◌<◌, ◌≤◌, List, [], ◌∷◌, length, map, take, drop, get_or}
use Rattle.ark_media.specs.Journal.{Event, Read, Write, Sync, Out, output_of}
use Rattle.ark_memory.specs.declared.tape.Kept.{Kept}
use Rattle.ark_memory.specs.declared.tape.Kept.TheVariants as kept

-- the event, by all output and all blocks that were kept
abbrev pub event_of : List ℕ → List (List ℕ) → Kept → Event
event_of text blocks (kept.Read n ok) = Read n ok
event_of text blocks (kept.Write n place took ok) = Write n (get_or blocks place []) took ok
event_of text blocks (kept.Sync ok) = Sync ok
event_of text blocks (kept.Out from to) = Out (take (to - from) (drop from text))

-- what it names stands among so many bytes of output and so many blocks
abbrev pub IsOnTape : ℕ → ℕ → Kept → Type 0
IsOnTape text blocks (kept.Read n ok) = Unit {0}
IsOnTape text blocks (kept.Write n place took ok) = place < blocks
IsOnTape text blocks (kept.Sync ok) = Unit {0}
IsOnTape text blocks (kept.Out from to) = (from ≤ to) × (to ≤ text)

abbrev pub AllWithin : ℕ → ℕ → List Kept → Type 0
AllWithin text blocks [] = Unit {0}
AllWithin text blocks (e ∷ es) = IsOnTape text blocks e × AllWithin text blocks es

-- each event stands in the buffers, and the output is all in its buffer
abbrev pub Sound : List ℕ → List (List ℕ) → List Kept → Type 0
Sound text blocks es = AllWithin (length text) (length blocks) es × (output_of (map (event_of text blocks) es) ≡ text)
