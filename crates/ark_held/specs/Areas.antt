-- What areas of blocks stand for.
use Rattle.std.specs.Prelude.{◌≡◌, ℕ, ◌*◌, ◌<◌, ◌≤◌, true, List, [], length, nat_eq, get_or, Option, Some, None, Contains}
use Rattle.std.specs.Map.{lookup}
use Rattle.ark_base.specs.declared.kind.Kind.TheVariants as kind
use Rattle.ark_media.specs.Journal.{History, AllBlocks, block, current}
use Rattle.ark_media.specs.Standing.{MayStand}
use Rattle.ark_table.specs.Slots.{Slot}
use Rattle.ark_caps.specs.declared.capability.CapKind.TheVariants as cap_kind
use Rattle.ark_caps.specs.declared.capability.Capability.{Capability}
use Rattle.ark_region.specs.Frames.{Piece}
use Rattle.ark_caladan.specs.Chain.{Log, Opened}
pub use Rattle.ark_caladan.specs.Listed.{MayShow, OpensToLists, IsListed, AreFull}
use Rattle.ark_caladan.specs.Open.{Layout}
use Rattle.ark_vsic.specs.Card.{is_bound}
use Rattle.ark_log.specs.Open.{OpenChain}
use Rattle.ark_running.specs.Running.{IsRunning}
use Rattle.ark_machine.specs.Objects.{Raw}
use Rattle.ark_machine.specs.Bytes.{Frames}
use Rattle.ark_held.specs.Words.{area_in}
use Rattle.ark_held.specs.Kept.{CardKept}
use Rattle.ark_held.specs.Around.{Around, slot_at, Names}

-- the area's content is the current image at these blocks, and each content that a stop may leave of a block is one that the
-- machine lists
pub record IsRaw (h : History) (blocks : List ℕ) (r : Raw) : Type 0 where
  pub size : length r.content ≡ length blocks
  pub content : (k : ℕ) → k < length blocks → get_or r.content k [] ≡ block (current h.base h.journal) (get_or blocks k 0)
  pub choices : length r.maybe ≡ length blocks
  pub maybe : (k : ℕ) → k < length blocks → (c : List ℕ) → MayStand h (get_or blocks k 0) c → Contains (get_or r.maybe k []) c

-- a raw area: its blocks are kept under the number of its grant, and are those of its slot
pub record IsArea (x : Around) (l : List ℕ) (c : Capability) (r : Raw) : Type 0 where
  pub slot : Slot
  pub its_kind : c.kind ≡ cap_kind.Vsa
  pub kept : lookup (nat_eq c.grant) x.areas ≡ Some (area_in slot)
  pub there : slot_at x l ≡ Some slot
  pub raw : slot.kind ≡ kind.Raw
  pub fits : IsRaw x.history slot.blocks r

-- the bytes of so many frames
abbrev pub frames_piece : Frames → Piece
frames_piece f = record { start = f.0; len = 512 * f.1 }

-- The log of this grant as it is open on a card, which is bound to its area. Its list lies in its blocks in some way.
pub record IsOpened (x : Around) (grant : ℕ) (blocks : List ℕ) (g : Log) (o : Opened) : Type 0 where
  pub key : ℕ
  pub card : Names x o.card cap_kind.Vsic key
  pub its_card : CardKept
  pub kept : x.tables.cards key ≡ Some its_card
  pub chain : OpenChain
  pub on : its_card.log ≡ Some chain
  pub its_grant : chain.grant ≡ grant
  pub bound : is_bound grant its_card.bound ≡ true
  pub lies : Layout
  pub runs : IsRunning x.history blocks x.tables.memory its_card.ring chain lies g o

-- a log that is open is so
abbrev pub IsOpenedAs : Around → ℕ → List ℕ → Log → Option Opened → Type 0
IsOpenedAs x grant blocks g None = Unit {0}
IsOpenedAs x grant blocks g (Some o) = IsOpened x grant blocks g o

-- on a device whose blocks had 512 bytes at first, each content that a stop may leave of these has
abbrev pub AreFullIf : History → List ℕ → Type 0
AreFullIf h blocks = AllBlocks h.base → AreFull h blocks

-- a log or queue
pub record IsLog (x : Around) (l : List ℕ) (c : Capability) (g : Log) : Type 0 where
  pub slot : Slot
  pub its_kind : c.kind ≡ cap_kind.Vsa
  pub kept : lookup (nat_eq c.grant) x.areas ≡ Some (area_in slot)
  pub there : slot_at x l ≡ Some slot
  pub same_kind : slot.kind ≡ g.kind
  pub no_raw : g.kind ≡ kind.Raw → ⊥
  pub blocks : g.blocks ≡ length slot.blocks
  -- its header, and a ring
  pub two : 2 ≤ length slot.blocks
  pub opened : IsOpenedAs x c.grant slot.blocks g g.opened
  pub listed : IsListed x.history slot.blocks g
  pub full : AreFullIf x.history slot.blocks
