-- A write to a block of an application's own, by its label.
use Rattle.std.proofs.Common.{◌≡◌, ℕ, Bool, List, [], ◌∷◌, refl, sym, subst, Contains}
use Rattle.std.specs.Prelude.{Option, Some, None}
use Rattle.std.proofs.lemmas.List.Elements.{Contains-get_or}
use Rattle.ark_media.specs.Journal.{Write}
use Rattle.ark_table.specs.Slots.{Slot}
use Rattle.ark_caps.specs.Labels.{value_at}
use Rattle.ark_caps.specs.declared.capability.Capability.{Capability}
use Rattle.ark_machine.specs.Objects.{Object, Raw}
use Rattle.ark_machine.specs.Areas.{raw_written}
use Rattle.ark_machine.specs.Machine.{Held, at}
use Rattle.ark_held.specs.Around.{Around, slot_at}
use Rattle.ark_held.specs.Areas.{IsRaw}
use Rattle.ark_held.specs.Held.{IsObjectOf, AtLabel, Holds}
use Rattle.ark_held.specs.Writes.{IsOwnWrite, with_write}
use Rattle.ark_held.proofs.Lists.{some_same}
use Rattle.ark_held.proofs.Besides.{same_beside}
use Rattle.ark_held.proofs.Finding.{found}
use Rattle.ark_held.proofs.Granted.{not_but}
use Rattle.ark_held.proofs.Written.{raw_stands, written}

module _ (x : Around) (l : List ℕ) (r : Raw) (off n : ℕ) (b : List ℕ) (took ok : Bool) (w : IsOwnWrite x l r off n) (h : Holds x) where
  -- the area as it stands before
  area_of : (c : Option Capability) (o : Option Held) → o ≡ Some w.held → AtLabel x l c o → IsRaw x.history w.slot.blocks r
  area_of (Some c) (Some g) is m =
      let f = subst (λ (o : Object). IsObjectOf x l c o) w.object (subst (λ (z : Held). IsObjectOf x l c z.object) (some_same (Some g) g w.held refl is) m.object) in
      subst (λ (t : Slot). IsRaw x.history t.blocks r) (some_same (slot_at x l) f.slot w.slot f.there w.placed) f.fits
  area_of None None is m = absurd (none_held is)
    where
      none_held : None ≡ Some w.held → ⊥
      none_held e = cc (e)
  area_of None (Some g) is m = absurd m
  area_of (Some c) None is m = absurd m

  before : IsRaw x.history w.slot.blocks r
  before = area_of (value_at x.labels l) (at x.machine l) w.there (found x l x.labels x.machine.held h.held)

  its_block : Contains w.slot.blocks n
  its_block = subst (λ (m : ℕ). Contains w.slot.blocks m) (sym w.block) (Contains-get_or w.slot.blocks off 0 w.near)

  pub own_written : Holds (with_write x l r off n b took ok)
  own_written = written x (with_write x l r off n b took ok) h l w.slot r (raw_written off b took r) w.held w.there w.object w.placed
      (raw_stands x.history w.slot.blocks r off n b took ok w.distinct w.near w.block (w.inside l w.slot n w.placed its_block) before)
      refl refl refl refl refl refl (λ k. refl) refl
      (λ k u apart is. same_beside x.history (Write n b took ok ∷ []) u.blocks (λ m has. w.inside k u m is has) (w.others k u (not_but l k apart) is, tt))
      refl
