-- How the contents of areas are read for a report.
use Rattle.std.specs.Prelude.{◌≡◌, ℕ, Bool, true, false, List, [], ◌∷◌, ◌++◌, codes, decimal}
use Rattle.ark_base.specs.declared.kind.Kind.{Kind}
use Rattle.ark_media.specs.Journal.{Event, HasFailed, AreReads}
use Rattle.ark_table.specs.declared.slot.Slot as slot
use Rattle.ark_table.specs.Slots.{Slot}
use Rattle.ark_check.specs.declared.contents.Contents.{Contents}
use Rattle.ark_check.specs.declared.contents.Contents.TheVariants.{Raw, Found, Damaged}
use Rattle.ark_check.specs.Report.{contents}

-- reads, of which one failed or none
pub record IsReading (ok : Bool) (es : List Event) : Type 0 where
  pub reads : AreReads es
  pub failed : ok ≡ false → HasFailed es
  pub worked : ok ≡ true → HasFailed es → ⊥

-- what a slot's line tells behind the number of runs
abbrev pub contents_words : Contents → List ℕ
contents_words Raw = []
contents_words (Found first count) = codes " " ++ decimal first ++ codes " " ++ decimal count
contents_words (Damaged n) = codes " damaged " ++ decimal n

-- it is told of these blocks of an area
abbrev pub AreContents : Kind → List (List ℕ) → Contents → Type 0
AreContents kind view c = contents_words c ≡ contents kind view

-- what slot i of the code says
abbrev pub shown : ℕ → slot.Slot → Slot
shown i s = record { index = i; app = s.app; label = s.label; kind = s.kind; blocks = s.spans }
