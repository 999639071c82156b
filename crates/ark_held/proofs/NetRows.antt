-- The machine with another network card under a label.
use Rattle.std.proofs.Common.{◌≡◌, List, ℕ, refl, ◌∙◌, ap}
use Rattle.std.specs.Prelude.{Option, Some, option_map, unwrap_or}
use Rattle.ark_machine.specs.Objects
use Rattle.ark_machine.specs.Objects.{Vnic}
use Rattle.ark_machine.specs.Machine.{Machine, Held, at, vnic_at, with_object, with_vnic}
use Rattle.ark_held.proofs.Effects.{at_here, set_twice}

module _ (m : Machine) (v : List ℕ) (net : Vnic) (held : Held) (there : at m v ≡ Some held) (object : held.object ≡ Objects.vnic net) where
  pub with_net : (f : Vnic → Vnic) → with_vnic m v f ≡ with_object m v (Objects.vnic (f net))
  with_net f = ap (λ (o : Option Vnic). unwrap_or (option_map (λ x. with_object m v (Objects.vnic (f x))) o) m) vnic_there
    where
      vnic_there : vnic_at m v ≡ Some net
      vnic_there = rw (there, object) refl

  -- the last one counts
  pub with_net_twice : (f g : Vnic → Vnic) → with_vnic (with_vnic m v f) v g ≡ with_object m v (Objects.vnic (g (f net)))
  with_net_twice f g =
      ap (λ (n : Machine). with_vnic n v g) (with_net f)
      ∙ ap (λ (o : Option Vnic). unwrap_or (option_map (λ x. with_object (with_object m v (Objects.vnic (f net))) v (Objects.vnic (g x))) o) (with_object m v (Objects.vnic (f net)))) here
      ∙ set_twice m v (Objects.vnic (f net)) (Objects.vnic (g (f net)))
    where
      here : vnic_at (with_object m v (Objects.vnic (f net))) v ≡ Some (f net)
      here = rw (at_here m v (Objects.vnic (f net)) held there) refl
