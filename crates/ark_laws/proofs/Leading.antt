-- The machines of rows, whose queues stay paced.
use Rattle.std.proofs.Common.{◌≡◌, ℕ, Bool, true, false, List, [], ◌∷◌, ◌++◌, ◌&&◌, length, refl, arith, cond, sym, subst}
use Rattle.std.specs.Prelude.{Option, Some, None, option_map, nat_lt, is_none}
use Rattle.ark_base.specs.declared.kind.Kind.{Kind}
use Rattle.ark_base.specs.declared.kind.Kind.TheVariants as kind
use Rattle.ark_base.specs.declared.kind.Outcome.{Outcome}
use Rattle.ark_packet.specs.Udp as udp
use Rattle.ark_filters.specs.declared.filter.Direction.{Direction}
use Rattle.ark_filters.specs.declared.filter.Direction.TheVariants as direction
use Rattle.ark_filters.specs.declared.filter.Filter.{Filter}
use Rattle.ark_script.specs.declared.said.Said.TheVariants as said
use Rattle.ark_script.specs.declared.step.Side.{Side}
use Rattle.ark_script.specs.declared.step.Side.TheVariants as side
use Rattle.ark_machine.specs.Objects
use Rattle.ark_machine.specs.Objects.{Object, Paced, Vsic, Vnic, Job, Place, Datagram, transfer, flush, phase}
use Rattle.ark_machine.specs.Machine.{Machine, rate_at}
use Rattle.ark_machine.specs.Row.{synced}
use Rattle.ark_machine.specs.Control.{lets_go}
use Rattle.ark_machine.specs.Areas.{new_area}
use Rattle.ark_machine.specs.Buffers.{with_new_buffer}
use Rattle.ark_machine.specs.Rates.{pace_of, new_pace, with_pace, no_rings}
use Rattle.ark_machine.specs.Cards.{reap_oldest, reaped}
use Rattle.ark_machine.specs.Network.{assigned_to, take_received, take_sent, take_oldest, received_at, sent_at}
use Rattle.ark_machine.specs.Sockets.{posted_at, delivered, has_port, max_datagrams, give_oldest}
use Rattle.ark_machine.specs.Paced.{IsPacedAt, ArePacedAt}
use Rattle.ark_laws.proofs.Paced.{new_paced, object_paced, each_paced, synced_paced, vsic_paced, vnic_paced, socket_paced}
use Rattle.ark_laws.proofs.Steady.{Leads, RowSteady, leads_walk}
use Rattle.ark_laws.proofs.Walk.{is_plain}
use Rattle.std.proofs.lemmas.Bool.{false≢true}
use Rattle.ark_laws.proofs.RowWalk.{RowWalk, is_new}

-- Machines of the rows.

pub synced_leads : (m k : Machine) (b : Bool) → Leads m k → Leads m (synced b k)
synced_leads m k b lead t h = synced_paced t b k (lead t h)

pub unless_leads : (m k n : Machine) (b : Bool) → Leads m k → Leads m n → Leads m (cond b k n)
unless_leads m k n true f g = f
unless_leads m k n false f g = g

pub area_paced : (t : ℕ) (k : Kind) (n : ℕ) → ArePacedAt t (new_area k n)
area_paced t kind.Raw n = tt
area_paced t kind.Log n = tt
area_paced t kind.Queue n = tt

pub lets_go_paced : (x : List ℕ) (n t : ℕ) (o : Object) → ArePacedAt t o → ArePacedAt t (lets_go x n o)
lets_go_paced x n t (Objects.raw r) h = tt
lets_go_paced x n t (Objects.log g) h = tt
lets_go_paced x n t (Objects.vsic v) h = h
lets_go_paced x n t (Objects.vnic v) h = h
lets_go_paced x n t (Objects.filter f (Some v)) h = tt
lets_go_paced x n t (Objects.filter f None) h = tt
lets_go_paced x n t (Objects.door c) h = tt
lets_go_paced x n t (Objects.rate q b) h = tt
lets_go_paced x n t (Objects.buffer b) h = tt
lets_go_paced x n t (Objects.socket k) h = tt

pub assigned_leads : (m : Machine) (v f : List ℕ) (o : Option Filter) → Leads m (assigned_to m v f o)
assigned_leads m v f None t h = h
assigned_leads m v f (Some rule) t h = object_paced t m f (Objects.filter rule (Some v)) h tt

no_pass : (t q b : ℕ) (l : List ℕ) → IsPacedAt t (Some (new_pace l (q, b)))
no_pass t q b l = (λ s u le. omega arith, tt)

pub pace_of_paced : (t : ℕ) (m : Machine) (o : Option (List ℕ)) → IsPacedAt t (pace_of m o)
pace_of_paced t m None = tt
pace_of_paced t m (Some l) = by (rate_at m l)
  where
    by : (x : Option (ℕ × ℕ)) → IsPacedAt t (option_map (new_pace l) x)
    by None = tt
    by (Some x) = no_pass t x.0 x.1 l

pub with_pace_leads : (m : Machine) (v : List ℕ) (q : Side) (p : Option Paced) → ((t : ℕ) → IsPacedAt t p) → Leads m (with_pace m v q p)
with_pace_leads m v side.Rx p k t h = vnic_paced t m v _ (λ y q. (k t, q.1)) h
with_pace_leads m v side.Tx p k t h = vnic_paced t m v _ (λ y q. (q.0, k t)) h
with_pace_leads m v side.Io p k t h = vsic_paced t m v _ (λ y q. k t) h

pub new_buffer_leads : (m : Machine) (b : List ℕ) (len : ℕ) (o : Option ℕ) → Leads m (with_new_buffer m b len o)
new_buffer_leads m b len None t h = h
new_buffer_leads m b len (Some start) t h = new_paced t m b _ h tt

reaped_plain : (j : Job) (o : Outcome) → is_plain (reaped j o) ≡ true
reaped_plain (transfer x) o = elim x.put as (λ b. is_plain (cond b (said.Put x.buffer o) (said.Got x.buffer o)) ≡ true) [ true ↦ refl | false ↦ refl ]
reaped_plain flush o = refl
reaped_plain (phase p) o = refl

pub reap_steady : (m : Machine) (v : List ℕ) (us : List (Job × Outcome)) → RowSteady m (reap_oldest m v us)
reap_steady m v [] = record { plain = refl; goes = λ t h. h }
reap_steady m v (u ∷ us) = record { plain = reaped_plain u.0 u.1; goes = λ t h. vsic_paced t m v _ (λ y q. q) h }

received_steady : (m : Machine) (v : List ℕ) (us : List (Place × ℕ)) → RowSteady m (take_received m v us)
received_steady m v [] = record { plain = refl; goes = λ t h. h }
received_steady m v (u ∷ us) = record { plain = refl; goes = λ t h. vnic_paced t m v _ (λ y q. q) h }

sent_steady : (m : Machine) (v : List ℕ) (us : List (Place × Outcome)) → RowSteady m (take_sent m v us)
sent_steady m v [] = record { plain = refl; goes = λ t h. h }
sent_steady m v (u ∷ us) = record { plain = refl; goes = λ t h. vnic_paced t m v _ (λ y q. q) h }

pub oldest_steady : (d : Direction) (m : Machine) (v : List ℕ) → RowSteady m (take_oldest d m v)
oldest_steady direction.Rx m v = received_steady m v (received_at m v)
oldest_steady direction.Tx m v = sent_steady m v (sent_at m v)

pub posted_leads : (m : Machine) (v frame : List ℕ) (o : Option ℕ) → Leads m (posted_at m v frame o)
posted_leads m v frame None t h = h
posted_leads m v frame (Some s) t h = vnic_paced t m v _ (λ y q. q) h

delivered_paced : (v : List ℕ) (d : udp.Datagram) (t : ℕ) (o : Object) → ArePacedAt t o → ArePacedAt t (delivered v d o)
delivered_paced v d t (Objects.raw r) h = tt
delivered_paced v d t (Objects.log g) h = tt
delivered_paced v d t (Objects.vsic x) h = h
delivered_paced v d t (Objects.vnic x) h = h
delivered_paced v d t (Objects.filter f c) h = tt
delivered_paced v d t (Objects.door c) h = tt
delivered_paced v d t (Objects.rate q b) h = tt
delivered_paced v d t (Objects.buffer b) h = tt
delivered_paced v d t (Objects.socket k) h =
    elim (has_port v d.to_port (Objects.socket k) && nat_lt (length k.datagrams) max_datagrams) as (λ b. ArePacedAt t (cond b (Objects.socket (record k { datagrams = k.datagrams ++ (record { ip = d.from; port = d.from_port; payload = d.payload }) ∷ [] })) (Objects.socket k))) [ true ↦ tt | false ↦ tt ]

pub give_steady : (m : Machine) (k : List ℕ) (ds : List Datagram) → RowSteady m (give_oldest m k ds)
give_steady m k [] = record { plain = refl; goes = λ t h. h }
give_steady m k (d ∷ ds) = record { plain = refl; goes = λ t h. socket_paced t m k _ h }

none_paced : (t : ℕ) (p : Option Paced) → is_none p ≡ true → IsPacedAt t p
none_paced t None h = tt
none_paced t (Some p) h = absurd (false≢true h)

created_paced : (t : ℕ) (o : Object) → is_new o ≡ true → ArePacedAt t o
created_paced t (Objects.raw r) h = tt
created_paced t (Objects.log g) h = tt
created_paced t (Objects.vsic v) h = none_paced t v.pace h
created_paced t (Objects.vnic v) h = absurd (false≢true h)
created_paced t (Objects.filter f c) h = absurd (false≢true h)
created_paced t (Objects.door c) h = tt
created_paced t (Objects.rate q b) h = tt
created_paced t (Objects.buffer b) h = tt
created_paced t (Objects.socket k) h = tt

pub leads_rows : RowWalk Leads
leads_rows = record {
  walk = leads_walk;
  created = λ m l o free fresh t h. new_paced t m l o h (created_paced t o fresh);
  vnic = λ m v f rx tx posts t h. vnic_paced t m v f (λ x q. (subst (λ (p : Option Paced). IsPacedAt t p) (sym (rx x)) q.0, subst (λ (p : Option Paced). IsPacedAt t p) (sym (tx x)) q.1)) h;
  paces = λ m v q o. with_pace_leads m v q (pace_of m o) (λ t. pace_of_paced t m o);
  socket = λ m k f t h. socket_paced t m k f h;
  delivers = λ m v d t h. each_paced t (delivered v d) m (delivered_paced v d t) h;
  sends = posted_leads;
  looks = λ m d c is t h. object_paced t m d (Objects.door no_rings) h tt;
}
