-- What a refused line may leave behind it.
use Rattle.std.specs.Prelude.{Bool, true, false, ◌&&◌, ◌||◌, List, map, ℕ}
use Rattle.ark_base.specs.declared.refusal.Refusal.{Refusal}
use Rattle.ark_base.specs.declared.refusal.Refusal.TheVariants as r
use Rattle.ark_script.specs.Attributes.{attributes}
use Rattle.ark_script.specs.Line.{Line}
use Rattle.ark_machine.specs.Machine.{Machine}

-- only device calls tell
abbrev pub is_told_late : Refusal → Bool
is_told_late r.DeviceFault = true
is_told_late (r.Damaged n) = true
is_told_late _ = false

-- `sendto` reaps the ring before it is found full, and before no place is found for the frame
abbrev pub is_of_sending : Refusal → Bool
is_of_sending r.RingFull = true
is_of_sending r.NoBuffer = true
is_of_sending _ = false

abbrev pub reaps_first : Line → Bool
reaps_first line = (attributes line).reaps_first

-- a device call failed
abbrev pub is_fault : Refusal → Bool
is_fault r.DeviceFault = true
is_fault _ = false

-- whether a line that is refused so may have changed something
abbrev pub may_leave : Line → Refusal → Bool
may_leave line x = is_fault x || (reaps_first line && is_of_sending x)

-- the line gives its application an area, more blocks, or an open log
abbrev pub is_gain : Line → Bool
is_gain line = (attributes line).gains

-- the line calls the device, and is refused where a call fails
abbrev pub may_fault : Line → Bool
may_fault line = (attributes line).may_fault

-- the line gives a label up
abbrev pub gives_up : Line → Bool
gives_up line = (attributes line).gives_up

-- the line reads the device and changes nothing
abbrev pub is_look : Line → Bool
is_look line = (attributes line).looks

-- the labels that are held
abbrev pub labels : Machine → List (List ℕ)
labels m = map (λ h. h.label) m.held
