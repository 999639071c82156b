-- What is found in a log's blocks, now and after a stop. No standard fixes it.
use Rattle.std.specs.Prelude.{◌≡◌, ◌<◌, ℕ, List, length, get_or, Contains}
use Rattle.ark_base.specs.declared.kind.Kind.{Kind}
use Rattle.ark_media.specs.Journal.{History, block, current}
use Rattle.ark_media.specs.Calls.{Call, Reads, Writes, Syncs}
use Rattle.ark_media.specs.Standing.{MayStand}
use Rattle.ark_entry.specs.Found.{Found, found_of}
use Rattle.ark_caladan.specs.Chain.{Log, stored, lists}
use Rattle.ark_caladan.specs.Views.{contents_at}

-- a stop may leave these of blocks
pub record MayShow (history : History) (blocks : List ℕ) (contents : List (List ℕ)) : Type 0 where
  pub size : length contents ≡ length blocks
  pub each : (k : ℕ) → k < length blocks → MayStand history (get_or blocks k 0) (block contents k)

-- this is found in the blocks now, and whatever a stop may leave of them opens to one of these
pub record IsFoundIn (kind : Kind) (history : History) (blocks : List ℕ) (x : Found) (choices : List Found) : Type 0 where
  pub now : found_of kind (contents_at (current history.base history.journal) blocks) ≡ x
  pub left : (contents : List (List ℕ)) → MayShow history blocks contents → Contains choices (found_of kind contents)

-- what stands of a log is its stored list, and what a stop may leave of it is one of its lists
abbrev pub IsListed : History → List ℕ → Log → Type 0
IsListed history blocks g = IsFoundIn g.kind history blocks (stored g) (lists g)

-- whatever a stop may leave of these blocks opens to one of the log's lists
abbrev pub OpensToLists : History → List ℕ → Log → Type 0
OpensToLists history blocks g = (contents : List (List ℕ)) → MayShow history blocks contents → Contains (lists g) (found_of g.kind contents)

-- each content that a stop may leave of these blocks has 512 bytes
abbrev pub AreFull : History → List ℕ → Type 0
AreFull history blocks = (k : ℕ) → k < length blocks → (content : List ℕ)
    → MayStand history (get_or blocks k 0) content → length content ≡ 512

-- a call that writes a block writes 512 bytes
abbrev pub WritesFull : Call → Type 0
WritesFull (Reads n) = Unit {0}
WritesFull (Writes n content) = length content ≡ 512
WritesFull Syncs = Unit {0}

-- from history g to h these blocks stay the same, and a stop may leave no more of them
abbrev pub SameAt : History → History → List ℕ → Type 0
SameAt g h blocks = (k : ℕ) → k < length blocks →
    (block (current h.base h.journal) (get_or blocks k 0) ≡ block (current g.base g.journal) (get_or blocks k 0))
    × ((c : List ℕ) → MayStand h (get_or blocks k 0) c → MayStand g (get_or blocks k 0) c)
