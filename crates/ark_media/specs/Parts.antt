-- A journal in parts: one for the opening, one for each reply, and what is not finished.
use Rattle.std.specs.Prelude.{◌≡◌, ℕ, Bool, true, false, not, ◌&&◌, ◌||◌, nat_eq, ◌==◌, List, [], ◌∷◌, ◌++◌, codes, if◌then◌else◌}
use Rattle.std.specs.List.{starts_with}
use Rattle.ark_media.specs.Journal.{Event, Read, Write, Sync, Out}

abbrev pub ends_with_newline : List ℕ → Bool
ends_with_newline [] = false
ends_with_newline (b ∷ []) = b == 10
ends_with_newline (b ∷ c ∷ bs) = ends_with_newline (c ∷ bs)

-- a closing line, or the line of a mirror that lost a half: no reply begins so
abbrev pub is_closing : List ℕ → Bool
is_closing bytes = starts_with nat_eq bytes (codes "fault") || starts_with nat_eq bytes (codes "mirror")

-- whether the event puts the newline of the ready line or of a reply
abbrev pub ends_reply : Event → Bool
ends_reply (Out bytes) = ends_with_newline bytes && not (is_closing bytes)
ends_reply (Read n ok) = false
ends_reply (Write n content took ok) = false
ends_reply (Sync ok) = false

pub record Parts : Type 0 where
  pub whole : List (List Event)
  pub unfinished : List Event

abbrev pub into_first : Event → List (List Event) → List Event → Parts
into_first e [] rest = record { whole = []; unfinished = e ∷ rest }
into_first e (part ∷ parts) rest = record { whole = (e ∷ part) ∷ parts; unfinished = rest }

-- the parts with one more event before them: it ends a part of its own, or begins the first
abbrev pub with_front : Event → Parts → Parts
with_front e p = if ends_reply e then record { whole = (e ∷ []) ∷ p.whole; unfinished = p.unfinished } else into_first e p.whole p.unfinished

-- events, in the order in which they came, cut after each that ends a reply
abbrev pub parts : List Event → Parts
parts [] = record { whole = []; unfinished = [] }
parts (e ∷ es) = with_front e (parts es)

-- no event of it ends a reply
abbrev pub IsUnfinished : List Event → Type 0
IsUnfinished [] = Unit {0}
IsUnfinished (e ∷ es) = (ends_reply e ≡ false) × IsUnfinished es

-- its last event, and no other, ends a reply
abbrev pub IsWhole : List Event → Type 0
IsWhole [] = ⊥
IsWhole (e ∷ []) = ends_reply e ≡ true
IsWhole (e ∷ f ∷ es) = (ends_reply e ≡ false) × IsWhole (f ∷ es)

abbrev pub EachIsWhole : List (List Event) → Type 0
EachIsWhole [] = Unit {0}
EachIsWhole (part ∷ parts) = IsWhole part × EachIsWhole parts

-- parts one after another
abbrev pub joined : List (List Event) → List Event
joined [] = []
joined (part ∷ parts) = part ++ joined parts
