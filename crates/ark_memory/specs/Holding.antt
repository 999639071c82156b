-- One content at one block, event by event: whether a stop may leave it, and whether it stands.
use Rattle.std.specs.Prelude.{ℕ, ◌==◌, Bool, true, false, ◌||◌, bytes_eq, List, [], ◌∷◌, if◌then◌else◌}
use Rattle.ark_media.specs.Journal.{Event, Read, Write, Sync, Out, block}
use Rattle.ark_memory.specs.declared.holding.Holding.{Holding}

abbrev pub first : Bool → Holding
first is_base = record { left = is_base; stands = is_base }

abbrev pub written : Bool → Bool → Holding → Holding
written same took h = record { left = h.left || same; stands = if took then same else h.stands }

abbrev pub after : ℕ → List ℕ → Event → Holding → Holding
after n content (Write m written_one took ok) h = if m == n then written (bytes_eq written_one content) took h else h
after n content (Sync true) h = record { left = h.stands; stands = h.stands }
after n content (Sync false) h = h
after n content (Read m ok) h = h
after n content (Out bytes) h = h

-- after a journal, which has its last event first
abbrev pub holding : List (List ℕ) → List Event → ℕ → List ℕ → Holding
holding base [] n content = first (bytes_eq (block base n) content)
holding base (e ∷ journal) n content = after n content e (holding base journal n content)
