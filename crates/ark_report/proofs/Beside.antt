-- What a stop leaves goes by the events of the device alone: outputs among them change nothing.
use Rattle.std.proofs.Common.{◌≡◌, inl, inr, ℕ, true, false, List, [], ◌∷◌, refl, sym, ◌∙◌, ap, subst}
use Rattle.std.specs.Prelude.{Option, Some, set}
use Rattle.ark_media.specs.Journal.{Event, Read, Write, Sync, Out, block, current, onto, device_events}
use Rattle.ark_media.specs.Stops.{MayHold, MayLeave, Whole}
use Rattle.ark_script.specs.Lines.{Meaning}
use Rattle.ark_machine.specs.System.{System}
use Rattle.ark_machine.specs.Replies.{turn_for}
use Rattle.ark_machine.specs.Fronts.{AtEachFront, EachAtFronts}

abbrev Image : Type 0
Image = List (List ℕ)

current_devices : (base : Image) (j : List Event) → current base (device_events j) ≡ current base j
current_devices base [] = refl
current_devices base (Write n content true ok ∷ j) = ap (λ (x : Image). set x n content) (current_devices base j)
current_devices base (Write n content false ok ∷ j) = current_devices base j
current_devices base (Read n ok ∷ j) = current_devices base j
current_devices base (Sync ok ∷ j) = current_devices base j
current_devices base (Out bytes ∷ j) = current_devices base j

held_by_devices : (base : Image) (j : List Event) (n : ℕ) (c : List ℕ) → MayHold Whole base j n c → MayHold Whole base (device_events j) n c
held_by_devices base [] n c h = h
held_by_devices base (Write m w took ok ∷ j) n c (inl here) = inl here
held_by_devices base (Write m w took ok ∷ j) n c (inr before) = inr (held_by_devices base j n c before)
held_by_devices base (Sync true ∷ j) n c h = h ∙ ap (λ (x : Image). block x n) (sym (current_devices base j))
held_by_devices base (Sync false ∷ j) n c h = held_by_devices base j n c h
held_by_devices base (Read m ok ∷ j) n c h = held_by_devices base j n c h
held_by_devices base (Out bytes ∷ j) n c h = held_by_devices base j n c h

held_among : (base : Image) (j : List Event) (n : ℕ) (c : List ℕ) → MayHold Whole base (device_events j) n c → MayHold Whole base j n c
held_among base [] n c h = h
held_among base (Write m w took ok ∷ j) n c (inl here) = inl here
held_among base (Write m w took ok ∷ j) n c (inr before) = inr (held_among base j n c before)
held_among base (Sync true ∷ j) n c h = h ∙ ap (λ (x : Image). block x n) (current_devices base j)
held_among base (Sync false ∷ j) n c h = held_among base j n c h
held_among base (Read m ok ∷ j) n c h = held_among base j n c h
held_among base (Out bytes ∷ j) n c h = held_among base j n c h

-- with the same events of the device a stop leaves the same
left_alike : (base : Image) (j k : List Event) (image : Image) → device_events j ≡ device_events k → MayLeave Whole base j image → MayLeave Whole base k image
left_alike base j k image same left = record {
  size = left.size;
  each = λ n lt. held_among base k n (block image n)
      (subst (λ (x : List Event). MayHold Whole base x n (block image n)) same (held_by_devices base j n (block image n) (left.each n lt)));
}

pub onto_alike : (es j k : List Event) → device_events j ≡ device_events k → device_events (onto es j) ≡ device_events (onto es k)
onto_alike [] j k same = same
onto_alike (Write n w took ok ∷ es) j k same = onto_alike es (Write n w took ok ∷ j) (Write n w took ok ∷ k) (ap (λ (x : List Event). Write n w took ok ∷ x) same)
onto_alike (Read n ok ∷ es) j k same = onto_alike es (Read n ok ∷ j) (Read n ok ∷ k) (ap (λ (x : List Event). Read n ok ∷ x) same)
onto_alike (Sync ok ∷ es) j k same = onto_alike es (Sync ok ∷ j) (Sync ok ∷ k) (ap (λ (x : List Event). Sync ok ∷ x) same)
onto_alike (Out bytes ∷ es) j k same = onto_alike es (Out bytes ∷ j) (Out bytes ∷ k) same

-- events behind a journal, and those of the device alone
pub onto_devices : (es j : List Event) → device_events (onto (device_events es) j) ≡ device_events (onto es j)
onto_devices [] j = refl
onto_devices (Write n w took ok ∷ es) j = onto_devices es (Write n w took ok ∷ j)
onto_devices (Read n ok ∷ es) j = onto_devices es (Read n ok ∷ j)
onto_devices (Sync ok ∷ es) j = onto_devices es (Sync ok ∷ j)
onto_devices (Out bytes ∷ es) j = onto_devices es j ∙ onto_alike es j (Out bytes ∷ j) refl

-- what holds at each front behind one journal holds behind another that has the same events of the device
pub fronts_alike : (base : Image) (j k : List Event) (s : System) (m : Option Meaning) (es : List Event) → device_events j ≡ device_events k → AtEachFront base j s m es → AtEachFront base k s m es
fronts_alike base j k s m es same each front back image split left =
    each front back image split (left_alike base (onto front k) (onto front j) image (sym (onto_alike front j k same)) left)

pub each_alike : (base : Image) (j k : List Event) (s : System) (ms : List Meaning) (ps : List (List Event)) → device_events j ≡ device_events k → EachAtFronts base j s ms ps → EachAtFronts base k s ms ps
each_alike base j k s [] [] same each = tt
each_alike base j k s [] (p ∷ ps) same each = absurd each
each_alike base j k s (m ∷ ms) [] same each = absurd each
each_alike base j k s (m ∷ ms) (p ∷ ps) same each = (
  fronts_alike base j k s (Some m) p same each.0,
  each_alike base (onto p j) (onto p k) (turn_for s m p).after ms ps (onto_alike p j k same) each.1,
)
