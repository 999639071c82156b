-- A disk's history after some events, and what each of its blocks may hold after a stop. No standard fixes it.
use Rattle.std.specs.Prelude.{ℕ, List}
use Rattle.ark_media.specs.Journal.{Event, History, onto}
use Rattle.ark_media.specs.Stops.{MayHold, Whole}

-- the history after these events
abbrev pub after : History → List Event → History
after h es = record { base = h.base; journal = onto es h.journal }

-- a stop after this history may leave this content at block n
abbrev pub MayStand : History → ℕ → List ℕ → Type 0
MayStand h n content = MayHold Whole h.base h.journal n content
