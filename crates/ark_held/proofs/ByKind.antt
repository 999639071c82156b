-- A capability tells what its object is.
use Rattle.std.proofs.Common.{◌≡◌, ℕ, List, refl}
use Rattle.std.specs.Prelude.{None}
use Rattle.ark_caps.specs.declared.capability.CapKind.TheVariants as cap_kind
use Rattle.ark_caps.specs.declared.capability.Capability.{Capability}
use Rattle.ark_vic.specs.declared.door.Counts.{Counts}
use Rattle.ark_machine.specs.Objects
use Rattle.ark_machine.specs.Objects.{Object, Vsic, Vnic, Buffer, as_door, as_rate, as_vnic, as_vsic}
use Rattle.ark_held.specs.Around.{Around}
use Rattle.ark_held.specs.Cards.{IsBuffer, IsDoor, IsRate, IsCard}
use Rattle.ark_held.specs.Network.{IsNet}
use Rattle.ark_held.specs.Held.{IsObjectOf}

module _ (x : Around) (l : List ℕ) (c : Capability) where
  pub door_of : (o : Object) → IsObjectOf x l c o → c.kind ≡ cap_kind.Door → (d : Counts) × (o ≡ Objects.door d) × IsDoor x c d
  door_of (Objects.door d) f kind = (d, refl, f)
  door_of (Objects.raw z) f kind = absurd (cc (kind, f.its_kind))
  door_of (Objects.log z) f kind = absurd (cc (kind, f.its_kind))
  door_of (Objects.vsic z) f kind = absurd (cc (kind, f.its_kind))
  door_of (Objects.vnic z) f kind = absurd (cc (kind, f.its_kind))
  door_of (Objects.filter z y) f kind = absurd (cc (kind, f.its_kind))
  door_of (Objects.rate z y) f kind = absurd (cc (kind, f.its_kind))
  door_of (Objects.buffer z) f kind = absurd (cc (kind, f.its_kind))
  door_of (Objects.socket z) f kind = absurd (cc (kind, f.its_kind))

  pub rate_of : (o : Object) → IsObjectOf x l c o → c.kind ≡ cap_kind.Rate → (q : ℕ × ℕ) × (o ≡ Objects.rate q.0 q.1) × IsRate x c q.0 q.1
  rate_of (Objects.rate q b) f kind = ((q, b), refl, f)
  rate_of (Objects.raw z) f kind = absurd (cc (kind, f.its_kind))
  rate_of (Objects.log z) f kind = absurd (cc (kind, f.its_kind))
  rate_of (Objects.vsic z) f kind = absurd (cc (kind, f.its_kind))
  rate_of (Objects.vnic z) f kind = absurd (cc (kind, f.its_kind))
  rate_of (Objects.filter z y) f kind = absurd (cc (kind, f.its_kind))
  rate_of (Objects.door z) f kind = absurd (cc (kind, f.its_kind))
  rate_of (Objects.buffer z) f kind = absurd (cc (kind, f.its_kind))
  rate_of (Objects.socket z) f kind = absurd (cc (kind, f.its_kind))

  pub card_of : (o : Object) → IsObjectOf x l c o → c.kind ≡ cap_kind.Vsic → (v : Vsic) × (o ≡ Objects.vsic v) × IsCard x l c v
  card_of (Objects.vsic v) f kind = (v, refl, f)
  card_of (Objects.raw z) f kind = absurd (cc (kind, f.its_kind))
  card_of (Objects.log z) f kind = absurd (cc (kind, f.its_kind))
  card_of (Objects.door z) f kind = absurd (cc (kind, f.its_kind))
  card_of (Objects.vnic z) f kind = absurd (cc (kind, f.its_kind))
  card_of (Objects.filter z y) f kind = absurd (cc (kind, f.its_kind))
  card_of (Objects.rate z y) f kind = absurd (cc (kind, f.its_kind))
  card_of (Objects.buffer z) f kind = absurd (cc (kind, f.its_kind))
  card_of (Objects.socket z) f kind = absurd (cc (kind, f.its_kind))

  pub net_of : (o : Object) → IsObjectOf x l c o → c.kind ≡ cap_kind.Vnic → (v : Vnic) × (o ≡ Objects.vnic v) × IsNet x l c v
  net_of (Objects.vnic v) f kind = (v, refl, f)
  net_of (Objects.raw z) f kind = absurd (cc (kind, f.its_kind))
  net_of (Objects.log z) f kind = absurd (cc (kind, f.its_kind))
  net_of (Objects.vsic z) f kind = absurd (cc (kind, f.its_kind))
  net_of (Objects.door z) f kind = absurd (cc (kind, f.its_kind))
  net_of (Objects.filter z y) f kind = absurd (cc (kind, f.its_kind))
  net_of (Objects.rate z y) f kind = absurd (cc (kind, f.its_kind))
  net_of (Objects.buffer z) f kind = absurd (cc (kind, f.its_kind))
  net_of (Objects.socket z) f kind = absurd (cc (kind, f.its_kind))

  pub buffer_of : (o : Object) → IsObjectOf x l c o → c.kind ≡ cap_kind.Buf → (b : Buffer) × (o ≡ Objects.buffer b) × IsBuffer x l c b
  buffer_of (Objects.buffer b) f kind = (b, refl, f)
  buffer_of (Objects.raw z) f kind = absurd (cc (kind, f.its_kind))
  buffer_of (Objects.log z) f kind = absurd (cc (kind, f.its_kind))
  buffer_of (Objects.door z) f kind = absurd (cc (kind, f.its_kind))
  buffer_of (Objects.vsic z) f kind = absurd (cc (kind, f.its_kind))
  buffer_of (Objects.vnic z) f kind = absurd (cc (kind, f.its_kind))
  buffer_of (Objects.filter z y) f kind = absurd (cc (kind, f.its_kind))
  buffer_of (Objects.rate z y) f kind = absurd (cc (kind, f.its_kind))
  buffer_of (Objects.socket z) f kind = absurd (cc (kind, f.its_kind))

  pub no_door : (o : Object) → IsObjectOf x l c o → (c.kind ≡ cap_kind.Door → ⊥) → as_door o ≡ None
  no_door (Objects.door d) f other = absurd (other f.its_kind)
  no_door _ f other = refl

  pub no_card : (o : Object) → IsObjectOf x l c o → (c.kind ≡ cap_kind.Vsic → ⊥) → as_vsic o ≡ None
  no_card (Objects.vsic v) f other = absurd (other f.its_kind)
  no_card _ f other = refl

  pub no_net : (o : Object) → IsObjectOf x l c o → (c.kind ≡ cap_kind.Vnic → ⊥) → as_vnic o ≡ None
  no_net (Objects.vnic v) f other = absurd (other f.its_kind)
  no_net _ f other = refl

  pub no_rate : (o : Object) → IsObjectOf x l c o → (c.kind ≡ cap_kind.Rate → ⊥) → as_rate o ≡ None
  no_rate (Objects.rate q b) f other = absurd (other f.its_kind)
  no_rate _ f other = refl
