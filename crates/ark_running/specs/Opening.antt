-- The device events that open the area of a log or queue.
use Rattle.std.specs.Prelude.{◌≡◌, ◌≤◌, ◌<◌, ◌^◌, ℕ, Bool, List, [], ◌∷◌, ◌++◌, length, take, drop, map, get_or, Contains}
use Rattle.std.specs.List.{AllByRecursion}
use Rattle.ark_base.specs.declared.kind.Kind.{Kind}
use Rattle.ark_media.specs.Journal.{Event, History, current}
use Rattle.ark_media.specs.Calls.{Call, Writes, Syncs, Makes}
use Rattle.ark_media.specs.Standing.{after}
use Rattle.ark_caladan.specs.Chain.{Log}
use Rattle.ark_caladan.specs.Listed.{AreFull, IsListed}
use Rattle.ark_caladan.specs.Views.{OnDisk, contents_at}
use Rattle.ark_chain.specs.declared.surveying.Seen.{Seen}
use Rattle.ark_chain.specs.Survey.{HasFound, IsSeen, reads}
use Rattle.ark_chain.specs.Repair.{AreNoted, clears}
use Rattle.ark_log.specs.Loaded.{header_bytes}

-- The log of this kind is known to its machine, and stands in these blocks of the device, its header's block first.
pub record StandsIn (kind : Kind) (h : History) (blocks : List ℕ) (g : Log) : Type 0 where
  pub its_kind : g.kind ≡ kind
  pub size : g.blocks ≡ length blocks
  pub two : 2 ≤ length blocks
  pub on_disk : OnDisk blocks h.base
  pub full : AreFull h blocks
  pub listed : IsListed h blocks g

-- at each front of these events
abbrev pub AtFronts : (History → Type 0) → History → List Event → Type 0
AtFronts Holds h es = (front back : List Event) → es ≡ front ++ back → Holds (after h front)

-- each of these is one of the blocks
abbrev pub AreAmong : List ℕ → List ℕ → Type 0
AreAmong blocks ns = AllByRecursion (λ n. Contains blocks n) ns

-- blocks of the area were read, up to and with the first read that failed
pub record ReadsArea (blocks : List ℕ) (ok : Bool) (es : List Event) : Type 0 where
  pub read : List ℕ
  pub area : AreAmong blocks read
  pub made : Makes (reads read) ok es

-- reads of blocks; a sync, zeros to blocks, the header to its block, and a sync
abbrev pub opening_calls : List ℕ → List ℕ → ℕ → List ℕ → List Call
opening_calls read cleared first header = reads read ++ (Syncs ∷ (clears cleared ++ Writes first header ∷ Syncs ∷ []))

-- Blocks of the area were read; then, behind a sync, blocks of its ring became zero, and this header was written to its first block;
-- and a sync came last. No call was made after one that failed.
pub record RepairsArea (blocks header : List ℕ) (ok : Bool) (es : List Event) : Type 0 where
  pub read : List ℕ
  pub cleared : List ℕ
  pub first : ℕ
  pub area : AreAmong blocks read
  pub ring : AreAmong (drop 1 blocks) cleared
  pub header_at : Contains (take 1 blocks) first
  pub made : Makes (opening_calls read cleared first header) ok es

-- the blocks of an area at these places of it
abbrev pub blocks_of : List ℕ → List ℕ → List ℕ
blocks_of blocks places = map (λ k. get_or blocks k 0) places

-- What the events that repaired an area of this device come from: the list that was found in it, the blocks that were read, and
-- the blocks outside the list that were not zero, all by their places in the area.
pub record HasRepairedAt (kind : Kind) (h : History) (blocks : List ℕ) (seen : Seen) (lengths : List ℕ) (ok : Bool) (es : List Event) : Type 0 where
  pub found : HasFound kind seen lengths (contents_at (current h.base h.journal) blocks)
  pub is_seen : IsSeen (length blocks) lengths seen
  pub few : length blocks < 2 ^ 32
  pub noted : List ℕ
  pub is_noted : AreNoted seen noted (contents_at (current h.base h.journal) blocks)
  pub read : List ℕ
  pub inside : AllByRecursion (λ k. k < length blocks) read
  pub made : Makes (opening_calls (blocks_of blocks read) (blocks_of blocks noted) (get_or blocks 0 0) (header_bytes kind seen)) ok es
