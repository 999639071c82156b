-- The table on the device, as the disk goes on beside it.
use Rattle.std.proofs.Common.{◌≡◌, inl, inr, ℕ, ◌<◌, List, [], ◌∷◌, ◌++◌, refl, sym, subst, arith, Contains}
use Rattle.std.specs.Prelude.{Option, Some, None}
use Rattle.std.proofs.lemmas.Bool.{cases_lt}
use Rattle.ark_base.specs.declared.kind.Kind.{Kind}
use Rattle.ark_base.specs.declared.kind.Kind.TheVariants as kind
use Rattle.ark_extents.proofs.RunLemmas.{blocks_of-runs_of}
use Rattle.ark_media.specs.Journal.{Event, Read, Write, Sync, Out, History, block, device_events}
use Rattle.ark_table.specs.Slots.{Slot, area_of}
use Rattle.ark_table.specs.Standing.{IsWritten, Spare, creates, grows as adds, removes}
use Rattle.ark_table.proofs.Standing.{stays, stays_unsettled, written_left}
use Rattle.ark_machine.specs.Objects.{Object}
use Rattle.ark_machine.specs.Plane.{Change, makes, grows, drops}
use Rattle.ark_media.specs.Standing.{after}
use Rattle.ark_held.specs.Beside.{AreBeside}
use Rattle.ark_held.specs.Keeps.{SameAt}
use Rattle.ark_held.proofs.Besides.{not_silent, same_beside}
use Rattle.ark_held.proofs.Members.{contains_in}
use Rattle.ark_plane.specs.Tables.{table_of}
use Rattle.ark_host.specs.Tabled.{LeavesAs, LeavesObject, TableStands, unsettled_blocks}

-- a block that no event writes
pub not_written : (blocks : List ℕ) (es : List Event) (n : ℕ) → AreBeside blocks es → Contains blocks n → IsWritten n es → ⊥
not_written blocks [] n beside has written = absurd written
not_written blocks (Write m content took ok ∷ es) n beside has (inl same) = beside.0 (subst (λ (k : ℕ). Contains blocks k) (sym same) has)
not_written blocks (Write m content took ok ∷ es) n beside has (inr later) = not_written blocks es n beside.1 has later
not_written blocks (Read m ok ∷ es) n beside has written = not_written blocks es n beside has written
not_written blocks (Sync ok ∷ es) n beside has written = not_written blocks es n beside has written
not_written blocks (Out bytes ∷ es) n beside has written = not_written blocks es n beside has written

-- outputs write none
outputs_written : (es : List Event) (n : ℕ) → device_events es ≡ [] → IsWritten n es → ⊥
outputs_written [] n silent written = written
outputs_written (Out bytes ∷ es) n silent written = outputs_written es n silent written
outputs_written (Write m content took ok ∷ es) n silent written = not_silent _ _ silent
outputs_written (Read m ok ∷ es) n silent written = not_silent _ _ silent
outputs_written (Sync ok ∷ es) n silent written = not_silent _ _ silent

pub outputs_spare : (blocks : List ℕ) (es : List Event) → device_events es ≡ [] → Spare blocks es
outputs_spare blocks es silent n written = absurd (outputs_written es n silent written)

one_block : (n : ℕ) → Contains (n ∷ []) n
one_block n = (0, omega arith, refl)

-- events beside each block of the table and beside these blocks
pub spare_of : (blocks : List ℕ) (es : List Event) → ((n : ℕ) → n < 129 → AreBeside (n ∷ []) es) → AreBeside blocks es → Spare blocks es
spare_of blocks es table beside n written = (
  elim (cases_lt n 129) [
    | inl lt ↦ absurd (not_written (n ∷ []) es n (table n lt) (one_block n) written)
    | inr past ↦ past
  ],
  λ has. not_written blocks es n beside has written,
)

-- before more events
pub spare_front : (blocks : List ℕ) (front back : List Event) → Spare blocks (front ++ back) → Spare blocks front
spare_front blocks front back spare n written = spare n (written_left n front back written)

-- events that spare blocks are beside them
spare_beside : (blocks : List ℕ) (es : List Event) → Spare blocks es → AreBeside blocks es
spare_beside blocks [] spare = tt
spare_beside blocks (Write m content took ok ∷ es) spare = ((spare m (inl refl)).1, spare_beside blocks es (λ n later. spare n (inr later)))
spare_beside blocks (Read m ok ∷ es) spare = spare_beside blocks es spare
spare_beside blocks (Sync ok ∷ es) spare = spare_beside blocks es spare
spare_beside blocks (Out bytes ∷ es) spare = spare_beside blocks es spare

-- what a stop leaves of a slot's blocks stays
as_stays : (h now : History) (blocks : List ℕ) (k : Kind) (o : Option Object) → SameAt h now blocks → LeavesAs h blocks k o → LeavesAs now blocks k o
as_stays h now blocks kind.Raw o same left = λ k lt c may. left k lt c ((same k lt).1 c may)
as_stays h now blocks kind.Log o same left = λ contents shown. left contents (record { size = shown.size; each = λ k lt. (same k lt).1 (block contents k) (shown.each k lt) })
as_stays h now blocks kind.Queue o same left = λ contents shown. left contents (record { size = shown.size; each = λ k lt. (same k lt).1 (block contents k) (shown.each k lt) })

pub left_stays : (h : History) (t : Slot) (o : Option Object) (es : List Event) → LeavesObject h t o → AreBeside t.blocks es → LeavesObject (after h es) t o
left_stays h t o es leaves beside = record { inside = leaves.inside; left = as_stays h (after h es) t.blocks t.kind o (same_beside h es t.blocks leaves.inside beside) leaves.left }

-- the table stays, and so does a change that a stop decides
pub table_stays : (h : History) (slots : List Slot) (u : Option Change) (es : List Event) → TableStands h slots u → Spare (unsettled_blocks u) es → TableStands (after h es) slots u
table_stays h slots None es stands spare = stays h (table_of slots) es stands spare
table_stays h slots (Some (makes t)) es stands spare =
    stays_unsettled h (table_of slots) (creates t.index (area_of t)) es stands (subst (λ (bs : List ℕ). Spare bs es) (sym (blocks_of-runs_of t.blocks)) spare)
table_stays h slots (Some (grows t more)) es stands spare = stays_unsettled h (table_of slots) (adds t.index (area_of t) more) es stands spare
table_stays h slots (Some (drops t o)) es stands spare = (
  stays_unsettled h (table_of (t ∷ slots)) (removes t.index) es stands.0 (λ n written. ((spare n written).0, λ has. contains_in [] n has)),
  left_stays h t o es stands.1 (spare_beside t.blocks es spare),
)
