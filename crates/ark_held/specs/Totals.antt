-- Sums over what an application holds.
use Rattle.std.specs.Prelude.{ℕ, ◌+◌, Bool, true, false, ◌&&◌, List, [], ◌∷◌, nat_le, nat_lt}
use Rattle.ark_machine.specs.Objects
use Rattle.ark_machine.specs.Objects.{Object, Vsic, Vnic, object_frames}
use Rattle.ark_machine.specs.Machine.{Machine}
use Rattle.ark_machine.specs.Bytes.{Frames}
use Rattle.ark_machine.specs.Buffers.{job_has, place_has}
use Rattle.ark_machine.specs.Control.{is_open_on, is_socket_on}

abbrev pub bit : Bool → ℕ
bit true = 1
bit false = 0

-- f of all members, together
abbrev pub total : {X : Type 0} → (X → ℕ) → List X → ℕ
total f [] = 0
total f (x ∷ xs) = f x + total f xs

-- how many descriptors of a storage card have the buffer
abbrev pub vsic_uses : List ℕ → Vsic → ℕ
vsic_uses b v = total (λ j. bit (job_has b j)) v.queue.posted + total (λ u. bit (job_has b u.0)) v.queue.unreaped

-- how many of a network card have it
abbrev pub vnic_uses : List ℕ → Vnic → ℕ
vnic_uses b v =
    (total (λ p. bit (place_has b p)) v.rx.posted + total (λ u. bit (place_has b u.0)) v.rx.unreaped)
    + (total (λ p. bit (place_has b p.0)) v.tx.posted + total (λ u. bit (place_has b u.0)) v.tx.unreaped)

abbrev pub uses : List ℕ → Object → ℕ
uses b (Objects.vsic v) = vsic_uses b v
uses b (Objects.vnic v) = vnic_uses b v
uses b _ = 0

-- how many descriptors have the buffer under a label
abbrev pub lent_count : Machine → List ℕ → ℕ
lent_count m b = total (λ h. uses b h.object) m.held

-- how many logs are open on the card under a label
abbrev pub open_count : Machine → List ℕ → ℕ
open_count m v = total (λ h. bit (is_open_on v h.object)) m.held

-- how many sockets are on the card under a label
abbrev pub socket_count : Machine → List ℕ → ℕ
socket_count m v = total (λ h. bit (is_socket_on v h.object)) m.held

-- frame j is one of these
abbrev pub covers : ℕ → Frames → Bool
covers j f = nat_le f.0 j && nat_lt j (f.0 + f.1)

-- how many live buffers of an object have frame j
abbrev pub object_covers : ℕ → Object → ℕ
object_covers j o = total (λ f. bit (covers j f)) (object_frames o)

-- how many live buffers have frame j
abbrev pub cover_count : Machine → ℕ → ℕ
cover_count m j = total (λ h. object_covers j h.object) m.held
