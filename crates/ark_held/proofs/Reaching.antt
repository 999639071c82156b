-- The area of a transfer: an application's machine holds it where the application keeps it.
use Rattle.std.proofs.Common.{◌≡◌, ◌⊎◌, inl, inr, ℕ, ◌+◌, ◌≤◌, length, nat_eq, refl, sym, ◌∙◌, ap, subst}
use Rattle.std.specs.Prelude.{Option, Some, None, is_some}
use Rattle.std.specs.Map.{lookup}
use Rattle.std.proofs.lemmas.Bool.{false≢true}
use Rattle.ark_table.specs.Slots.{Slot}
use Rattle.ark_vic.specs.declared.descriptor.Descriptor.{Descriptor}
use Rattle.ark_machine.specs.Objects
use Rattle.ark_machine.specs.Objects.{Object, Raw, Transfer}
use Rattle.ark_machine.specs.Machine.{Held, at, at_serial}
use Rattle.ark_held.specs.Words.{area_in}
use Rattle.ark_held.specs.Around.{Around, slot_at}
use Rattle.ark_held.specs.Areas.{IsRaw}
use Rattle.ark_held.specs.Cards.{IsTransfer}
use Rattle.ark_held.specs.Held.{IsObjectOf, Holds}
use Rattle.ark_held.specs.declared.areas.Area.{Area}
use Rattle.ark_held.proofs.Numbered.{IsNumbered, numbered, of_grant}
use Rattle.ark_held.proofs.Owners.{owner}

-- the raw area that a transfer goes to or comes from, held and kept
pub record IsReached (x : Around) (d : Descriptor) (t : Transfer) : Type 0 where
  pub held : Held
  pub raw : Raw
  pub slot : Slot
  pub numbered : at_serial x.machine t.vsa ≡ Some held
  pub object : held.object ≡ Objects.raw raw
  pub there : at x.machine held.label ≡ Some held
  pub placed : slot_at x held.label ≡ Some slot
  pub fits : IsRaw x.history slot.blocks raw
  pub kept : lookup (nat_eq d.grant) x.areas ≡ Some (area_in slot)
  pub near : d.first + d.count ≤ length slot.blocks

-- it is neither held nor kept
pub record IsGone (x : Around) (d : Descriptor) (t : Transfer) : Type 0 where
  pub numbered : at_serial x.machine t.vsa ≡ None
  pub kept : lookup (nat_eq d.grant) x.areas ≡ None

module _ (x : Around) (holds : Holds x) (d : Descriptor) (t : Transfer) (is : IsTransfer x d t) where
  by_object : (h : Held) (n : IsNumbered x t.vsa d.grant h) (o : Object) → h.object ≡ o → at_serial x.machine t.vsa ≡ Some h → IsObjectOf x h.label n.cap o → IsReached x d t
  by_object h n (Objects.raw z) its at f =
      let here : lookup (nat_eq d.grant) x.areas ≡ Some (area_in f.slot) = subst (λ (g : ℕ). lookup (nat_eq g) x.areas ≡ Some (area_in f.slot)) n.grant f.kept in record {
        held = h;
        raw = z;
        slot = f.slot;
        numbered = at;
        object = its;
        there = n.there;
        placed = f.there;
        fits = f.fits;
        kept = here;
        near = is.on.within (area_in f.slot) here;
      }
  by_object h n (Objects.log z) its at f =
      let here : lookup (nat_eq d.grant) x.areas ≡ Some (area_in f.slot) = subst (λ (g : ℕ). lookup (nat_eq g) x.areas ≡ Some (area_in f.slot)) n.grant f.kept in
      absurd (f.no_raw (sym f.same_kind ∙ is.on.raw (area_in f.slot) here))
  by_object h n (Objects.vsic z) its at f = absurd (cc (is.on.its_kind h.label n.cap n.label n.grant, f.its_kind))
  by_object h n (Objects.vnic z) its at f = absurd (cc (is.on.its_kind h.label n.cap n.label n.grant, f.its_kind))
  by_object h n (Objects.filter z y) its at f = absurd (cc (is.on.its_kind h.label n.cap n.label n.grant, f.its_kind))
  by_object h n (Objects.door z) its at f = absurd (cc (is.on.its_kind h.label n.cap n.label n.grant, f.its_kind))
  by_object h n (Objects.rate z y) its at f = absurd (cc (is.on.its_kind h.label n.cap n.label n.grant, f.its_kind))
  by_object h n (Objects.buffer z) its at f = absurd (cc (is.on.its_kind h.label n.cap n.label n.grant, f.its_kind))
  by_object h n (Objects.socket z) its at f = absurd (cc (is.on.its_kind h.label n.cap n.label n.grant, f.its_kind))

  by_number : (o : Option Held) → at_serial x.machine t.vsa ≡ o → IsReached x d t ⊎ IsGone x d t
  by_number (Some h) at = let n = numbered x holds t.vsa d.grant is.vsa h at in inl (by_object h n h.object refl at n.matches.object)
  by_number None at = inr (record { numbered = at; kept = none (lookup (nat_eq d.grant) x.areas) refl })
    where
      none : (o : Option Area) → lookup (nat_eq d.grant) x.areas ≡ o → o ≡ None
      none None e = refl
      none (Some a) e =
          let its = owner x holds d.grant a e in
          absurd (false≢true (sym (ap is_some at) ∙ of_grant x holds t.vsa d.grant is.vsa its.0 its.1 its.2 its.4))

  pub reached : IsReached x d t ⊎ IsGone x d t
  reached = by_number (at_serial x.machine t.vsa) refl
