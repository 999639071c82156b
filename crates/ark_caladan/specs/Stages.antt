-- What a command does to its area, stage by stage, and what stands there and may be left at each moment. No standard fixes it.
use Rattle.std.specs.Prelude.{◌≡◌, ◌⊎◌, ◌<◌, ℕ, zero, suc, Bool, true, false, List, [], ◌∷◌, length, get_or}
use Rattle.ark_media.specs.Journal.{Event, Read, Write, Sync, Out, History, block, current}
use Rattle.ark_media.specs.Calls.{Call, Reads, Writes, Syncs}
use Rattle.ark_media.specs.Standing.{MayStand}

-- Blocks are read at these places of the area; at these places the blocks of a view are written; the one write that decides is
-- made; a sync is made.
pub data Stage : Type 0 where
  reads : List ℕ → Stage
  writes : (ℕ → List ℕ) → List ℕ → Stage
  decides : (ℕ → List ℕ) → ℕ → Stage
  syncs : Stage

-- how many device calls it makes
abbrev pub calls_of : Stage → ℕ
calls_of (reads places) = length places
calls_of (writes b places) = length places
calls_of (decides b p) = 1
calls_of syncs = 1

-- its call behind so many
abbrev pub call_of : List ℕ → Stage → ℕ → Call
call_of blocks (reads places) n = Reads (get_or blocks (get_or places n 0) 0)
call_of blocks (writes b places) n = Writes (get_or blocks (get_or places n 0) 0) (b (get_or places n 0))
call_of blocks (decides b p) n = Writes (get_or blocks p 0) (b p)
call_of blocks syncs n = Syncs

-- The area goes from one view to another: so many of these places are written since the last sync. And whether the write that
-- decides has been made.
pub record Moment : Type 0 where
  pub old : ℕ → List ℕ
  pub new : ℕ → List ℕ
  pub places : List ℕ
  pub written : ℕ
  pub took : Bool

-- at rest in a view
abbrev pub resting : (ℕ → List ℕ) → Bool → Moment
resting a took = record { old = a; new = a; places = []; written = 0; took = took }

-- after so many calls of a stage
abbrev pub after_calls : Moment → Stage → ℕ → Moment
after_calls m (reads places) n = m
after_calls m (writes b places) n = record { old = m.new; new = b; places = places; written = n; took = m.took }
after_calls m (decides b p) zero = record { old = m.new; new = b; places = p ∷ []; written = 0; took = m.took }
after_calls m (decides b p) (suc n) = record { old = m.new; new = b; places = p ∷ []; written = 1; took = true }
after_calls m syncs zero = m
after_calls m syncs (suc n) = resting m.new m.took

-- after so many whole stages, and so many calls of the next
abbrev pub moment_at : Moment → List Stage → ℕ → ℕ → Moment
moment_at m [] done n = m
moment_at m (s ∷ ss) zero n = after_calls m s n
moment_at m (s ∷ ss) (suc done) n = moment_at (after_calls m s (calls_of s)) ss done n

-- The area is at a moment. A stop may leave at each place its block of the old view or of the new one. At the places that are
-- written the new one's stands there now, at all others the old one's.
pub record IsAt (history : History) (blocks : List ℕ) (m : Moment) : Type 0 where
  pub left : (k : ℕ) → k < length blocks → (content : List ℕ) → MayStand history (get_or blocks k 0) content
      → (content ≡ m.old k) ⊎ (content ≡ m.new k)
  pub there : (i : ℕ) → i < m.written
      → block (current history.base history.journal) (get_or blocks (get_or m.places i 0) 0) ≡ m.new (get_or m.places i 0)
  pub others : (k : ℕ) → k < length blocks → ((i : ℕ) → i < m.written → get_or m.places i 0 ≡ k → ⊥)
      → block (current history.base history.journal) (get_or blocks k 0) ≡ m.old k

-- whether an event is a write that took
abbrev pub event_took : Event → Bool
event_took (Write n content took ok) = took
event_took (Read n ok) = false
event_took (Sync ok) = false
event_took (Out bytes) = false

-- whether the write that decides has been made, where the next call of the stage came to this event
abbrev pub took_by : Bool → Stage → Event → Bool
took_by was (decides b p) e = event_took e
took_by was (reads places) e = was
took_by was (writes b places) e = was
took_by was syncs e = was
