-- The oldest command is acknowledged.
use Rattle.std.proofs.Common.{◌≡◌, ℕ, suc, true, false, ◌-◌, ◌<◌, ◌≤◌, List, ◌∷◌, length, take, drop, get_or, ◌∙◌, ap, subst, arith}
use Rattle.std.proofs.lemmas.List.Sums.{sum_by-take-le}
use Rattle.ark_base.specs.declared.kind.Kind.{Kind}
use Rattle.ark_media.specs.Journal.{History}
use Rattle.ark_entry.specs.Header.{Header, bytes_of}
use Rattle.ark_entry.specs.Entry.{entry_blocks}
use Rattle.ark_entry.specs.Found.{Entries}
use Rattle.ark_entry.specs.Writing.{zeroed}
use Rattle.ark_caladan.specs.Chain.{Command, append, trim, pop, after_command, blocks_of}
use Rattle.ark_caladan.specs.Leaves.{LiesInRing, dropped_by, freed_by}
use Rattle.ark_caladan.specs.Views.{OnDisk, view_of}
use Rattle.ark_caladan.specs.Stages.{Stage, syncs, calls_of, Moment, resting, moment_at, IsAt}
use Rattle.ark_caladan.specs.Plans.{stages_of, header_after, append_stages, CanWait}
use Rattle.ark_caladan.specs.Open.{Layout, layout_dropped, layout_after, IsOpenWith}
use Rattle.ark_caladan.proofs.Places.{zeroed_view}
use Rattle.ark_caladan.proofs.Appending.{ls, used, whole_lies}
use Rattle.ark_caladan.proofs.Dropping.{has_room, header_fits, left_lies}
use Rattle.ark_caladan.proofs.Carrying.{first_some, open_from_rest, at_same, can_rest}

module _ (kind : Kind) (room : ℕ) (history : History) (blocks : List ℕ) (p : Layout) (l : Entries) where
  abbrev ring : List (List ℕ) → ℕ → List ℕ
  ring stored = view_of room p.header p.says.start stored

  -- a place that is given as numbers
  at_place : (ss : List Stage) (f : Moment) (done n d m : ℕ) → done ≡ d → n ≡ m → IsAt history blocks (moment_at f ss done n) → IsAt history blocks (moment_at f ss d m)
  at_place ss f done n d m is_done is_n at = subst (λ (x : ℕ). IsAt history blocks (moment_at f ss x m)) is_done (subst (λ (x : ℕ). IsAt history blocks (moment_at f ss done x)) is_n at)

  -- the blocks that are freed are among the stored ones
  freed_low : (c : Command) (k : ℕ) → LiesInRing kind room p.header p.says p.stored l → 0 < room → blocks_of (take k l.payloads) ≤ length p.stored
  freed_low c k lies some =
      let many : length p.stored ≡ blocks_of l.payloads = used kind room some p.header p.says p.stored l lies in
      let le : blocks_of (take k l.payloads) ≤ blocks_of l.payloads = sum_by-take-le (λ q. entry_blocks (length q)) l.payloads k in
      omega (arith, many, le)

  abbrev header : Command → Header
  header c = header_after room p.says l c

  -- what a trim or pop leaves is the list after it, from its own start on
  dropped_rests : (c : Command) (cs : List Command) → 1 ≤ dropped_by l c → freed_by l c ≤ length p.stored → length blocks ≡ suc room → 0 < room → OnDisk blocks history.base → LiesInRing kind room p.header p.says p.stored l → CanWait room l (c ∷ cs)
      → IsAt history blocks (resting (view_of room (bytes_of kind (header c)) p.says.start (zeroed (freed_by l c) p.stored)) true)
      → IsOpenWith kind room history blocks (layout_dropped kind room p l c) (after_command l c) cs 0 0
  dropped_rests c cs drops low size some on_disk lies can at =
      let first : 1 ≤ l.first = omega (arith, lies.first, (first_some kind room p.header p.says lies.read).0) in
      let right = header_fits kind room some p.header p.says p.stored l lies c cs can drops first in
      open_from_rest kind room blocks (layout_dropped kind room p l c) (after_command l c) history cs true size some on_disk
      (left_lies kind room some p.header p.says p.stored l lies c can.fit.0 drops (bytes_of kind (header c)) (header c) right) (can_rest room l c cs can)
      (at_same history blocks (view_of room (bytes_of kind (header c)) p.says.start (zeroed (freed_by l c) p.stored)) (view_of room (bytes_of kind (header c)) (header c).start (drop (freed_by l c) p.stored)) true true
      (λ k lt. zeroed_view room (bytes_of kind (header c)) p.says.start p.stored (freed_by l c) k (ls kind room some p.header p.says p.stored l lies) low lies.fits (omega (arith, lt, size))) at)

  -- Behind the last call the command is applied to the list; the next one may begin.
  pub open_acked : (c : Command) (cs : List Command) (done n : ℕ) → n ≡ calls_of (get_or (stages_of kind room p.header p.says p.stored l c) done syncs) → suc done ≡ length (stages_of kind room p.header p.says p.stored l c)
      → IsOpenWith kind room history blocks p l (c ∷ cs) done n → IsOpenWith kind room history blocks (layout_after kind room p l c) (after_command l c) cs 0 0
  open_acked (append m payload) cs done n last end opened =
      let three : done ≡ 3 = omega (arith, end) in
      let one : n ≡ 1 = last ∙ ap (λ (d : ℕ). calls_of (get_or (stages_of kind room p.header p.says p.stored l (append m payload)) d syncs)) three in
      open_from_rest kind room blocks (layout_after kind room p l (append m payload)) (after_command l (append m payload)) history cs true opened.size opened.waits.some opened.on_disk
      (whole_lies kind room opened.waits.some p.header p.says p.stored l opened.waits.lies payload (has_room kind room opened.waits.some p.header p.says p.stored l opened.waits.lies m payload cs opened.waits.can)) (can_rest room l (append m payload) cs opened.waits.can)
      (at_place (append_stages room p.header p.says p.stored l payload) (resting (ring p.stored) false) done n 3 1 three one opened.at)
  open_acked (trim m) cs done n last end opened =
      let three : done ≡ 3 = omega (arith, end) in
      let one : n ≡ 1 = last ∙ ap (λ (d : ℕ). calls_of (get_or (stages_of kind room p.header p.says p.stored l (trim m)) d syncs)) three in
      dropped_rests (trim m) cs (omega (arith, opened.waits.can.fit.0.0)) (freed_low (trim m) (m - l.first) opened.waits.lies opened.waits.some) opened.size opened.waits.some opened.on_disk opened.waits.lies opened.waits.can
      (at_place (stages_of kind room p.header p.says p.stored l (trim m)) (resting (ring p.stored) false) done n 3 1 three one opened.at)
  open_acked (pop m) cs done n last end opened =
      let four : done ≡ 4 = omega (arith, end) in
      let one : n ≡ 1 = last ∙ ap (λ (d : ℕ). calls_of (get_or (stages_of kind room p.header p.says p.stored l (pop m)) d syncs)) four in
      dropped_rests (pop m) cs (omega arith) (freed_low (pop m) 1 opened.waits.lies opened.waits.some) opened.size opened.waits.some opened.on_disk opened.waits.lies opened.waits.can
      (at_place (stages_of kind room p.header p.says p.stored l (pop m)) (resting (ring p.stored) false) done n 4 1 four one opened.at)
