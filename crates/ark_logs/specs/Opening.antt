-- A log or queue that a word opens from its area.
use Rattle.std.specs.Prelude.{◌≡◌, ◌⊎◌, ◌-◌, ◌<◌, ◌≤◌, ℕ, true, false, List, [], length, replicate, Result, Ok, Err, Some}
use Rattle.ark_base.specs.declared.kind.Kind.{Kind}
use Rattle.ark_base.specs.declared.refusal.Refusal.{Refusal}
use Rattle.ark_base.specs.declared.refusal.Refusal.TheVariants as r
use Rattle.ark_media.specs.Journal.{Event, History, current, device_events}
use Rattle.ark_media.specs.Calls.{Told}
use Rattle.ark_media.specs.Standing.{after}
use Rattle.ark_region.specs.Frames.{Apart, Piece, Space, Wrote, bytes_of}
use Rattle.ark_extents.specs.Blocks.{AreDistinct}
use Rattle.ark_entry.specs.Found.{damaged, found_of}
use Rattle.ark_caladan.specs.Listed.{AreFull}
use Rattle.ark_caladan.specs.Views.{OnDisk, contents_at}
use Rattle.ark_chain.specs.declared.surveying.Seen.{Seen}
use Rattle.ark_log.specs.Buffers.{HasNoPlace, IsNewBuffer}
use Rattle.ark_log.specs.Closed.{given_back}
use Rattle.ark_log.specs.Loaded.{header_bytes, loaded_chain}
use Rattle.ark_log.specs.Open.{IsRight, OpenChain}
use Rattle.ark_log.specs.declared.loading.LoadFault.{LoadFault}
use Rattle.ark_log.specs.declared.loading.LoadFault.TheVariants.{Memory, DeviceFault, Damaged}
use Rattle.ark_running.specs.Opening.{HasRepairedAt, ReadsArea}
use Rattle.ark_held.specs.Bound.{with_bound}
use Rattle.ark_held.specs.Rings.{ChangesCard}
use Rattle.ark_held.specs.declared.app.App.{App}
use Rattle.ark_held.specs.declared.card.StorageCard.{StorageCard}
use Rattle.ark_logs.specs.declared.opening.OpenFault.{OpenFault}
use Rattle.ark_logs.specs.declared.opening.OpenFault.TheVariants.{NoBuffer, Load}

-- so it is of each history behind which the disk tells that these events came, where the blocks of the area are full
abbrev pub OnArea : Told → List ℕ → List Event → (History → Type 0) → Type 0
OnArea told blocks es Holds = (h : History) → told.history ≡ Some (after h es) → OnDisk blocks h.base → AreFull h blocks → Holds h

-- The area was repaired by these events, and the log is that of the list that was found; the header's buffer holds the header.
pub record IsLoaded (told : Told) (kind : Kind) (grant : ℕ) (blocks : List ℕ) (header : Piece) (chain : OpenChain) (old new : Space) (es : List Event) : Type 0 where
  pub two : 2 ≤ length blocks
  pub distinct : AreDistinct blocks
  pub seen : Seen
  pub lengths : List ℕ
  pub chain_is : chain ≡ loaded_chain kind grant (length blocks - 1) header seen lengths
  pub held : Wrote old new header 0 (header_bytes kind seen)
  pub devices : device_events es ≡ es
  pub repaired : OnArea told blocks es (λ h. HasRepairedAt kind h blocks seen lengths true es)

-- a read failed, or a call of a repair
abbrev pub FailsAt : Told → Kind → List ℕ → List Event → Type 0
FailsAt told kind blocks es = ReadsArea blocks false es ⊎ ((seen : Seen) × (lengths : List ℕ) × (device_events es ≡ es) × OnArea told blocks es (λ h. HasRepairedAt kind h blocks seen lengths false es))

-- A device call failed.
pub record HasFailed (told : Told) (kind : Kind) (blocks : List ℕ) (es : List Event) : Type 0 where
  pub two : 2 ≤ length blocks
  pub distinct : AreDistinct blocks
  pub at : FailsAt told kind blocks es

-- The area was read, and its list is damaged at this number.
pub record IsReadDamaged (told : Told) (kind : Kind) (blocks : List ℕ) (n : ℕ) (es : List Event) : Type 0 where
  pub two : 2 ≤ length blocks
  pub distinct : AreDistinct blocks
  pub read : ReadsArea blocks true es
  pub damage : OnArea told blocks es (λ h. found_of kind (contents_at (current h.base h.journal) blocks) ≡ damaged n)

-- so it is too of fewer than two blocks, which have no header and no ring
abbrev pub IsDamaged : Told → Kind → List ℕ → ℕ → List Event → Type 0
IsDamaged told kind blocks n es = ((length blocks < 2) × (n ≡ 0) × (es ≡ [])) ⊎ IsReadDamaged told kind blocks n es

-- why it was not loaded, and what was done
abbrev pub IsNotLoaded : Told → Kind → List ℕ → LoadFault → List Event → Type 0
IsNotLoaded told kind blocks Memory es = es ≡ []
IsNotLoaded told kind blocks DeviceFault es = HasFailed told kind blocks es
IsNotLoaded told kind blocks (Damaged n) es = IsDamaged told kind blocks n es

-- the log is open on the card, which may use its area
abbrev pub with_log : ℕ → OpenChain → StorageCard → StorageCard
with_log grant chain c = with_bound grant (record c { log = Some chain })

-- all else that an application holds stays
pub record KeepsRest (old new : App) : Type 0 where
  pub labels : new.labels ≡ old.labels
  pub areas : new.areas ≡ old.areas
  pub buffers : new.store.buffers ≡ old.store.buffers
  pub doors : new.devices.doors ≡ old.devices.doors
  pub rates : new.devices.rates ≡ old.devices.rates
  pub nets : new.devices.nets ≡ old.devices.nets
  pub name : new.name ≡ old.name

-- A buffer for the header was taken, the log was loaded from the area, and is open on the card of a key. Its list begins with this
-- number, and has so many entries.
pub record HasOpened (told : Told) (kind : Kind) (grant : ℕ) (blocks : List ℕ) (key : ℕ) (list : ℕ × ℕ) (old new : App) (es : List Event) : Type 0 where
  pub space : Space
  pub header : Piece
  pub whole : header.len ≡ 512
  pub taken : IsNewBuffer old.store.region space (replicate 512 0) header
  pub chain : OpenChain
  pub right : IsRight chain
  pub loaded : IsLoaded told kind grant blocks header chain space new.store.region es
  pub sized : length new.store.region.taken ≡ length old.store.region.taken
  pub card : ChangesCard old.devices.cards new.devices.cards key (with_log grant chain)
  pub list_is : list ≡ (chain.first, chain.count)
  pub rest : KeepsRest old new

-- the header's buffer was given back, and no other buffer's bytes changed
pub record HasGivenBack (old new : Space) : Type 0 where
  pub space : Space
  pub header : Piece
  pub whole : header.len ≡ 512
  pub taken : IsNewBuffer old space (replicate 512 0) header
  pub back : new.taken ≡ given_back space.taken (Some header)
  pub sized : length new.taken ≡ length old.taken
  pub others : (p : Piece) → Apart header p → bytes_of new p ≡ bytes_of old p

-- it was not opened
abbrev pub HasNotOpened : Told → Kind → List ℕ → OpenFault → App → App → List Event → Type 0
HasNotOpened told kind blocks NoBuffer old new es = HasNoPlace old.store.region.taken 512 × (new ≡ old) × (es ≡ [])
HasNotOpened told kind blocks (Load fault) old new es =
    IsNotLoaded told kind blocks fault es × HasGivenBack old.store.region new.store.region × KeepsRest old new × (new.devices ≡ old.devices)

-- what a word answers for it
abbrev pub refused_by : OpenFault → Refusal
refused_by NoBuffer = r.NoBuffer
refused_by (Load Memory) = r.NoMemory
refused_by (Load DeviceFault) = r.DeviceFault
refused_by (Load (Damaged n)) = r.Damaged n

-- what came of loading it, and of opening it
abbrev pub IsLoad : Told → Kind → ℕ → List ℕ → Piece → Result OpenChain (LoadFault × Piece) → Space → Space → List Event → Type 0
IsLoad told kind grant blocks header (Ok chain) old new es = IsLoaded told kind grant blocks header chain old new es
IsLoad told kind grant blocks header (Err e) old new es = IsNotLoaded told kind blocks e.0 es

abbrev pub IsOpening : Told → Kind → ℕ → List ℕ → ℕ → Result (ℕ × ℕ) OpenFault → App → App → List Event → Type 0
IsOpening told kind grant blocks key (Ok list) old new es = HasOpened told kind grant blocks key list old new es
IsOpening told kind grant blocks key (Err e) old new es = HasNotOpened told kind blocks e old new es
