-- The rates of an application, by key, and storage cards that are paced.
use Rattle.std.specs.Prelude.{ℕ, List, Option, Some, None, option_map}
use Rattle.ark_objects.specs.Held.{at}
use Rattle.ark_vic.specs.Pace.{Pace}
use Rattle.ark_held.specs.declared.allowance.Allowance.{Allowance}
use Rattle.ark_held.specs.declared.card.StorageCard.{StorageCard}

-- bytes a tick, and bytes of a burst
abbrev pub allowed : Allowance → ℕ × ℕ
allowed a = (a.per_tick, a.burst)

abbrev pub rate_kept : List (Option Allowance) → ℕ → Option (ℕ × ℕ)
rate_kept rates key = option_map allowed (at rates key)

-- a card with another pace, which the rate of this key gave if there is one
abbrev pub repaced : Option Pace → ℕ → StorageCard → StorageCard
repaced pace rate c = record c { vsic = record c.vsic { pace = pace }; rate = rate }

abbrev pub with_pace : ℕ → Pace → StorageCard → StorageCard
with_pace rate pace c = repaced (Some pace) rate c

abbrev pub without_pace : StorageCard → StorageCard
without_pace c = repaced None c.rate c
