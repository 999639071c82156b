-- An event that is shown.
use Rattle.std.specs.Prelude.{◌≡◌, ◌<◌, ◌≤◌, ℕ, false, List, length, get_or, Option, MatchOption}
use Rattle.ark_media.specs.Journal
use Rattle.ark_memory.specs.declared.event.Event.{Event}
use Rattle.ark_memory.specs.declared.event.Event.TheVariants as shown

abbrev pub Shows : Event → Journal.Event → Type 0
Shows (shown.Read n ok) e = e ≡ Journal.Read n ok
Shows (shown.Write n block took ok) e = e ≡ Journal.Write n block.now took ok
Shows (shown.Sync ok) e = e ≡ Journal.Sync ok
Shows (shown.Out bytes) e = e ≡ Journal.Out bytes.now

-- the event of this number, counted from 0, or none past the last
abbrev pub ShowsAt : List Journal.Event → ℕ → Option Event → Type 0
ShowsAt events i result = MatchOption result (length events ≤ i) (λ e. (i < length events) × Shows e (get_or events i (Journal.Sync false)))
