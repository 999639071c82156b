-- Why a command is refused, by what is open.
use Rattle.std.specs.Prelude.{◌≡◌, ◌≤◌, ◌<◌, ◌⊎◌, ℕ, ◌+◌, ◌*◌, ◌-◌, ◌^◌, get_or, length, true, false}
use Rattle.ark_log.specs.declared.command.ChainRefusal.{ChainRefusal}
use Rattle.ark_log.specs.declared.command.ChainRefusal.TheVariants.{Failed, Busy, LogFull, NoEntry, NoBuffer}
use Rattle.ark_entry.specs.Entry.{entry_blocks}
use Rattle.ark_region.specs.Frames.{Space}
use Rattle.ark_log.specs.Open.{OpenChain}
use Rattle.ark_log.specs.Buffers.{HasNoPlace}

-- of the entry that is accepted next
abbrev pub next_number : OpenChain → ℕ
next_number v = v.first + length v.lengths

-- it has not failed, and one more command may wait
abbrev pub Admits : OpenChain → Type 0
Admits v = (v.failed ≡ false) × (length v.waiting < 8)

-- It has failed; else 8 commands wait; else what a command is refused for by itself.
abbrev pub IsRefused : OpenChain → (ChainRefusal → Type 0) → ChainRefusal → Type 0
IsRefused v own Failed = v.failed ≡ true
IsRefused v own Busy = (v.failed ≡ false) × (8 ≤ length v.waiting)
IsRefused v own LogFull = Admits v × own LogFull
IsRefused v own NoEntry = Admits v × own NoEntry
IsRefused v own NoBuffer = Admits v × own NoBuffer

abbrev pub IsNever : ChainRefusal → Type 0
IsNever r = ⊥

-- a trim below this number would drop nothing, or an entry that is not there
abbrev pub IsNoEntry : OpenChain → ℕ → ChainRefusal → Type 0
IsNoEntry v n NoEntry = (n ≤ v.coming) ⊎ (next_number v < n)
IsNoEntry v n Failed = ⊥
IsNoEntry v n Busy = ⊥
IsNoEntry v n LogFull = ⊥
IsNoEntry v n NoBuffer = ⊥

-- the ring has no room for so many blocks, or there is no number left
abbrev pub IsFull : OpenChain → ℕ → Type 0
IsFull v blocks = (v.room < v.used + blocks) ⊎ (2 ^ 62 < next_number v)

-- an entry of so many blocks has no room in the ring, or its buffer none in the region
abbrev pub IsNoRoom : OpenChain → Space → ℕ → ChainRefusal → Type 0
IsNoRoom v space blocks LogFull = IsFull v blocks
IsNoRoom v space blocks NoBuffer = ¬ IsFull v blocks × HasNoPlace space.taken (512 * blocks)
IsNoRoom v space blocks Failed = ⊥
IsNoRoom v space blocks Busy = ⊥
IsNoRoom v space blocks NoEntry = ⊥

-- so long is the entry of a number
abbrev pub length_of : OpenChain → ℕ → ℕ
length_of v n = get_or v.lengths (n - v.first) 0

-- the entry that the next pop drops is there, and has this length
pub record IsNextToPop (v : OpenChain) (len : ℕ) : Type 0 where
  pub there : v.coming < next_number v
  pub is : len ≡ length_of v v.coming
  pub short : len ≤ 32768

-- a pop would find no entry, or its buffer has no room in the region
abbrev pub IsNoPop : OpenChain → Space → ChainRefusal → Type 0
IsNoPop v space NoEntry = v.coming ≡ next_number v
IsNoPop v space NoBuffer = (v.coming < next_number v) × HasNoPlace space.taken (512 * entry_blocks (length_of v v.coming))
IsNoPop v space Failed = ⊥
IsNoPop v space Busy = ⊥
IsNoPop v space LogFull = ⊥
