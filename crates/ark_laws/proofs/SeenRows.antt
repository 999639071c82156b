-- The rows of all words but four leave the filters and network cards that are held.
use Rattle.std.proofs.Common.{◌≡◌, ℕ, Bool, true, false, List, refl, sym}
use Rattle.std.proofs.lemmas.Bool.{false≢true}
use Rattle.std.specs.Prelude.{Option, Some, None, is_none}
use Rattle.ark_script.specs.Line as w
use Rattle.ark_script.specs.Line.{Line}
use Rattle.ark_machine.specs.Objects.{Buffer}
use Rattle.ark_machine.specs.Machine.{Machine, object_at, buffer_at}
use Rattle.ark_machine.specs.Row.{Given}
use Rattle.ark_machine.specs.Step.{step}
use Rattle.ark_laws.proofs.Seen.{Sees, seen, other, without_sees, vnic_sees, buffer_view, answer_sees}
use Rattle.ark_laws.proofs.SeenMoves.{sees_rows, card_moves_sees}
use Rattle.ark_laws.proofs.RowWalk.{row_goes}

-- the words that change filters or network cards
abbrev pub changes_filters : Line → Bool
changes_filters (w.vnic a v rx tx) = true
changes_filters (w.filter a f rule) = true
changes_filters (w.assign a v f) = true
changes_filters (w.drop a x) = true
changes_filters _ = false

buffer_there : (m : Machine) (b : List ℕ) → is_none (buffer_at m b) ≡ false → seen (object_at m b) ≡ other
buffer_there m b h = by (buffer_at m b) refl h
  where
    by : (o : Option Buffer) → buffer_at m b ≡ o → is_none o ≡ false → seen (object_at m b) ≡ other
    by None is e = absurd (false≢true (sym e))
    by (Some x) is e = buffer_view (object_at m b) x is

pub row_sees : (m : Machine) (line : Line) (g : Given) → changes_filters line ≡ false → Sees m (step m line g).machine
unfolding step
row_sees m (w.vnic a v rx tx) g h = absurd (false≢true (sym h))
row_sees m (w.filter a f rule) g h = absurd (false≢true (sym h))
row_sees m (w.assign a v f) g h = absurd (false≢true (sym h))
row_sees m (w.drop a x) g h = absurd (false≢true (sym h))
row_sees m (w.app a x1) g h = answer_sees m _ _ (λ free kind. record { same = λ l. refl })
row_sees m (w.free a x1) g h = answer_sees m _ _ (λ free kind. without_sees m x1 (buffer_there m x1 kind))
row_sees m (w.send a x1 x2 x3) g h = answer_sees m _ _ (λ free kind. vnic_sees m x1 _)
row_sees m (w.dev a x1) g h = answer_sees m _ _ (λ free kind. card_moves_sees m x1 g _)
row_sees m line g h = row_goes Sees sees_rows m line g refl
