-- When the program must come to the end of its script, and what no reply says then.
use Rattle.std.specs.Prelude.{◌≡◌, ◌≤◌, ℕ, List, length, Option, Some}
use Rattle.ark_media.specs.Journal.{History, HasFailed}
use Rattle.ark_media.specs.Calls.{Told, Beside, Script, Rose}
use Rattle.ark_cli.specs.Words.{IsRun}
use Rattle.ark_cli.specs.Line.{limit}

-- no call of the outside has failed: no count rose
pub record IsUntroubled (told0 told1 : Told) (beside0 beside1 : Beside) : Type 0 where
  pub attach : Rose beside0.attach_faults beside1.attach_faults → ⊥
  pub source : Rose beside0.source_faults beside1.source_faults → ⊥
  pub sink : Rose beside0.sink_faults beside1.sink_faults → ⊥
  pub device : Rose told0.faults told1.faults → ⊥

-- The outside tells its script before and after, and at first no more bytes of it were left than are run. Of an outside that
-- does not tell its script nobody knows how long it is.
pub record HasShortScript (before after : Option Script) : Type 0 where
  pub first : Script
  pub last : Script
  pub was : before ≡ Some first
  pub is : after ≡ Some last
  pub short : length first.left ≤ limit

-- where the words are those of `run`, its script is short enough; no other command takes one
abbrev pub FitsRun : List (List ℕ) → Option Script → Option Script → Type 0
FitsRun words before after =
    (blocks : Option ℕ) (device : List ℕ) → IsRun words blocks device → HasShortScript before after

-- where the history is told, no device call failed in it: so no reply says `refused 21`
pub record HasNoFault (after : Option History) : Type 0 where
  pub none : (h : History) → after ≡ Some h → HasFailed h.journal → ⊥
