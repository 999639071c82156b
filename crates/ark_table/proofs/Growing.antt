-- The slots that the code keeps, and the area of one with more blocks.
use Rattle.std.proofs.Common.{◌≡◌, ◌<◌, ◌-◌, ℕ, zero, suc, List, [], ◌∷◌, ◌++◌, length, get_or, Option, Some, None, refl, sym, ◌∙◌, ap, arith}
use Rattle.std.specs.Prelude.{unwrap_or}
use Rattle.ark_extents.specs.Blocks.{blocks_of, runs_of}
use Rattle.ark_extents.proofs.RunLemmas.{blocks_of-runs_of}
use Rattle.ark_table.specs.declared.slot.Slot.{Slot}
use Rattle.ark_table.specs.Area.{Area}
use Rattle.ark_table.specs.Table.{area_at}
use Rattle.ark_table.specs.Stated.{stated, stated_if, areas}
use Rattle.ark_table.specs.Standing.{Table, slot_in, grown_area}
use Rattle.ark_table.proofs.Places.{area_at_place}

get_or_same : {X : Type 0} (xs : List X) (k : ℕ) (d e : X) → k < length xs → get_or xs k d ≡ get_or xs k e
get_or_same [] k d e lt = absurd (omega (arith, lt))
get_or_same (x ∷ xs) zero d e lt = refl
get_or_same (x ∷ xs) (suc k) d e lt = get_or_same xs k d e (omega (arith, lt))

-- the area of a slot with more blocks, whatever it was spelled as
pub grown_stated : (slot : Slot) (spans more : List ℕ) (a : Area) → spans ≡ slot.spans ++ more → stated slot ≡ a → stated (record { kind = slot.kind; app = slot.app; label = slot.label; spans = spans }) ≡ grown_area a more
grown_stated slot spans more a joined is =
    (λ j. record { app = slot.app; label = slot.label; kind = slot.kind; runs = runs_of ((joined ∙ ap (λ (l : List ℕ). l ++ more) (sym (blocks_of-runs_of slot.spans))) j) })
    ∙ ap (λ (x : Area). grown_area x more) is

-- the blocks of the area that a slot states are its own
pub own_blocks : (slot : Slot) (a : Area) → stated slot ≡ a → blocks_of a.runs ≡ slot.spans
own_blocks slot a is = ap (λ (x : Area). blocks_of x.runs) (sym is) ∙ blocks_of-runs_of slot.spans

-- slot i of a table, as the code keeps it
pub slot_there : (slots : List (Option Slot)) (table : Table) (i p : ℕ) (d : Option Slot) (slot : Slot) → areas slots ≡ table → p ≡ i → p - 1 < length slots → d ≡ get_or slots (p - 1) d → d ≡ Some slot
    → slot_in table i ≡ Some (stated slot)
slot_there slots table i p d slot view at lt is some =
    (λ j. area_at (sym view j) (sym at j - 1)) ∙ area_at_place slots (p - 1) ∙ ap stated_if (get_or_same slots (p - 1) None d lt ∙ sym is ∙ some)

pub same_area : (x : Option Area) (a b : Area) → x ≡ Some a → x ≡ Some b → a ≡ b
same_area x a b first second = ap (λ (o : Option Area). unwrap_or o a) (sym first ∙ second)
