-- Each change of a machine that leaves its paces, or adds a pass that may pass, leaves its queues paced.
use Rattle.std.proofs.Common.{◌≡◌, ◌≤◌, ℕ, ◌+◌, Bool, true, false, not, List, [], ◌∷◌, ◌++◌, map, sym, subst, arith, cond}
use Rattle.std.proofs.lemmas.Bool.Decides.{nat_tests}
use Rattle.std.specs.Prelude.{Option, Some, None, option_map, option_and_then, find, filter as select, unwrap_or, bytes_eq, nat_le}
use Rattle.std.specs.List.{AllByRecursion}
use Rattle.ark_caladan.specs.Chain.{Log}
use Rattle.ark_vic.specs.Pace.{NoneAfter, Pass, fill_of}
use Rattle.ark_vic.specs.Bells as bells
use Rattle.ark_vic.specs.declared.door.Bell.{Bell}
use Rattle.ark_vic.specs.declared.door.Counts.{Counts}
use Rattle.ark_vic.proofs.PaceLemmas.{kept_law}
use Rattle.ark_machine.specs.Objects
use Rattle.ark_machine.specs.Objects.{Object, Paced, Raw, Vsic, Vnic, Buffer, Socket, as_vsic, as_vnic}
use Rattle.ark_machine.specs.Machine.{Machine, Held, holding, vsic_at, vnic_at, log_at, buffer_at, socket_at, raw_at, door_at, with_object, each_object, with_new, without, with_vsic, with_vnic, with_log, with_buffer, with_socket}
use Rattle.ark_machine.specs.Row.{settled, synced}
use Rattle.ark_machine.specs.Areas.{with_raw}
use Rattle.ark_machine.specs.Rates.{may_pass, passed, rung}
use Rattle.ark_machine.specs.Paced.{IsPacedAt, ArePacedAt, HeldPacedAt, MachinePacedAt}

-- Passes.

past_more : (t n : ℕ) (p : List Pass) → NoneAfter t p → NoneAfter t (p ++ (t, n) ∷ [])
past_more t n [] h = (omega arith, tt)
past_more t n (x ∷ p) h = (h.0, past_more t n p h.1)

le_of : (a b : ℕ) → nat_le a b ≡ true → a ≤ b
le_of a b h = grind (arith, nat_tests)

-- what may pass at the tick leaves the queue paced
pub passed_paced : (t now n : ℕ) (p : Option Paced) → now ≡ t → IsPacedAt t p → may_pass p now n ≡ true → IsPacedAt t (passed now n p)
passed_paced t now n None is h fits = tt
passed_paced t now n (Some p) is h fits =
    subst (λ u. IsPacedAt t (passed u n (Some p))) (sym is)
    ((kept_law p.q p.burst t n p.passes h.1).1 (h.0, le_of (fill_of p.q p.passes t + n) p.burst (subst (λ u. nat_le (fill_of p.q p.passes u + n) p.burst ≡ true) is fits)), past_more t n p.passes h.1)

later_past : (t u : ℕ) (p : List Pass) → t ≤ u → NoneAfter t p → NoneAfter u p
later_past t u [] le h = tt
later_past t u (x ∷ p) le h = (omega (arith, h.0), later_past t u p le h.1)

later_pace : (t u : ℕ) (p : Option Paced) → t ≤ u → IsPacedAt t p → IsPacedAt u p
later_pace t u None le h = tt
later_pace t u (Some p) le h = (h.0, later_past t u p.passes le h.1)

later_object : (t u : ℕ) (o : Object) → t ≤ u → ArePacedAt t o → ArePacedAt u o
later_object t u (Objects.vsic v) le h = later_pace t u v.pace le h
later_object t u (Objects.vnic v) le h = (later_pace t u v.rx_pace le h.0, later_pace t u v.tx_pace le h.1)
later_object t u _ le h = tt

-- what is paced stays so as time goes on
pub later_held : (t u : ℕ) (hs : List Held) → t ≤ u → AllByRecursion (λ h. HeldPacedAt t h) hs → AllByRecursion (λ h. HeldPacedAt u h) hs
later_held t u [] le h = tt
later_held t u (x ∷ xs) le h = (later_object t u x.object le h.0, later_held t u xs le h.1)

-- Objects.

all_more : (t : ℕ) (hs : List Held) (x : Held) → AllByRecursion (λ h. HeldPacedAt t h) hs → HeldPacedAt t x → AllByRecursion (λ h. HeldPacedAt t h) (hs ++ x ∷ [])
all_more t [] x h k = (k, tt)
all_more t (y ∷ ys) x h k = (h.0, all_more t ys x h.1 k)

pub new_paced : (t : ℕ) (m : Machine) (l : List ℕ) (o : Object) → MachinePacedAt t m → ArePacedAt t o → MachinePacedAt t (with_new m l o)
new_paced t m l o h k = (h.0, all_more t m.held (record { label = l; serial = m.serial; object = o }) h.1 k)

all_object : (t : ℕ) (l : List ℕ) (o : Object) (hs : List Held) → AllByRecursion (λ h. HeldPacedAt t h) hs → ArePacedAt t o
    → AllByRecursion (λ h. HeldPacedAt t h) (map (λ h. cond (bytes_eq l h.label) (holding o h) h) hs)
all_object t l o [] h k = tt
all_object t l o (x ∷ xs) h k = (elim (bytes_eq l x.label) as (λ b. HeldPacedAt t (cond b (holding o x) x)) [ true ↦ k | false ↦ h.0 ], all_object t l o xs h.1 k)

pub object_paced : (t : ℕ) (m : Machine) (l : List ℕ) (o : Object) → MachinePacedAt t m → ArePacedAt t o → MachinePacedAt t (with_object m l o)
object_paced t m l o h k = (h.0, all_object t l o m.held h.1 k)

all_each : (t : ℕ) (f : Object → Object) (hs : List Held) → ((o : Object) → ArePacedAt t o → ArePacedAt t (f o)) → AllByRecursion (λ h. HeldPacedAt t h) hs
    → AllByRecursion (λ h. HeldPacedAt t h) (map (λ h. holding (f h.object) h) hs)
all_each t f [] k h = tt
all_each t f (x ∷ xs) k h = (k x.object h.0, all_each t f xs k h.1)

pub each_paced : (t : ℕ) (f : Object → Object) (m : Machine) → ((o : Object) → ArePacedAt t o → ArePacedAt t (f o)) → MachinePacedAt t m → MachinePacedAt t (each_object f m)
each_paced t f m k h = (h.0, all_each t f m.held k h.1)

all_select : (t : ℕ) (q : Held → Bool) (hs : List Held) → AllByRecursion (λ h. HeldPacedAt t h) hs → AllByRecursion (λ h. HeldPacedAt t h) (select q hs)
all_select t q [] h = tt
all_select t q (x ∷ xs) h = elim (q x) as (λ b. AllByRecursion (λ h. HeldPacedAt t h) (cond b (x ∷ select q xs) (select q xs))) [ true ↦ (h.0, all_select t q xs h.1) | false ↦ all_select t q xs h.1 ]

pub without_paced : (t : ℕ) (m : Machine) (l : List ℕ) → MachinePacedAt t m → MachinePacedAt t (without m l)
without_paced t m l h = (h.0, all_select t (λ x. not (bytes_eq l x.label)) m.held h.1)

settled_paced : (t : ℕ) (o : Object) → ArePacedAt t o → ArePacedAt t (settled o)
settled_paced t (Objects.raw r) h = tt
settled_paced t (Objects.log g) h = tt
settled_paced t (Objects.vsic v) h = h
settled_paced t (Objects.vnic v) h = h
settled_paced t (Objects.filter f c) h = tt
settled_paced t (Objects.door c) h = tt
settled_paced t (Objects.rate q b) h = tt
settled_paced t (Objects.buffer b) h = tt
settled_paced t (Objects.socket k) h = tt

pub synced_paced : (t : ℕ) (b : Bool) (m : Machine) → MachinePacedAt t m → MachinePacedAt t (synced b m)
synced_paced t true m h = each_paced t settled m (settled_paced t) h
synced_paced t false m h = h

-- What is at a label.

abbrev FoundPaced : ℕ → Option Object → Type 0
FoundPaced t None = Unit {0}
FoundPaced t (Some o) = ArePacedAt t o

found_paced : (t : ℕ) (q : Held → Bool) (hs : List Held) → AllByRecursion (λ h. HeldPacedAt t h) hs → FoundPaced t (option_map (λ h. h.object) (find q hs))
found_paced t q [] h = tt
found_paced t q (x ∷ xs) h = elim (q x) as (λ b. FoundPaced t (option_map (λ h. h.object) (cond b (Some x) (find q xs)))) [ true ↦ h.0 | false ↦ found_paced t q xs h.1 ]

abbrev pub VsicPaced : ℕ → Option Vsic → Type 0
VsicPaced t None = Unit {0}
VsicPaced t (Some v) = IsPacedAt t v.pace

abbrev pub VnicPaced : ℕ → Option Vnic → Type 0
VnicPaced t None = Unit {0}
VnicPaced t (Some v) = IsPacedAt t v.rx_pace × IsPacedAt t v.tx_pace

as_vsic_paced : (t : ℕ) (o : Option Object) → FoundPaced t o → VsicPaced t (option_and_then as_vsic o)
as_vsic_paced t None h = tt
as_vsic_paced t (Some (Objects.vsic v)) h = h
as_vsic_paced t (Some _) h = tt

as_vnic_paced : (t : ℕ) (o : Option Object) → FoundPaced t o → VnicPaced t (option_and_then as_vnic o)
as_vnic_paced t None h = tt
as_vnic_paced t (Some (Objects.vnic v)) h = h
as_vnic_paced t (Some _) h = tt

pub vsic_at_paced : (t : ℕ) (m : Machine) (v : List ℕ) → MachinePacedAt t m → VsicPaced t (vsic_at m v)
vsic_at_paced t m v h = as_vsic_paced t _ (found_paced t (λ x. bytes_eq v x.label) m.held h.1)

pub vnic_at_paced : (t : ℕ) (m : Machine) (v : List ℕ) → MachinePacedAt t m → VnicPaced t (vnic_at m v)
vnic_at_paced t m v h = as_vnic_paced t _ (found_paced t (λ x. bytes_eq v x.label) m.held h.1)

pub vsic_paced : (t : ℕ) (m : Machine) (v : List ℕ) (f : Vsic → Vsic) → ((x : Vsic) → IsPacedAt t x.pace → IsPacedAt t (f x).pace) → MachinePacedAt t m → MachinePacedAt t (with_vsic m v f)
vsic_paced t m v f k h = by (vsic_at m v) (vsic_at_paced t m v h)
  where
    by : (o : Option Vsic) → VsicPaced t o → MachinePacedAt t (unwrap_or (option_map (λ x. with_object m v (Objects.vsic (f x))) o) m)
    by None q = h
    by (Some x) q = object_paced t m v (Objects.vsic (f x)) h (k x q)

pub vnic_paced : (t : ℕ) (m : Machine) (v : List ℕ) (f : Vnic → Vnic)
    → ((x : Vnic) → IsPacedAt t x.rx_pace × IsPacedAt t x.tx_pace → IsPacedAt t (f x).rx_pace × IsPacedAt t (f x).tx_pace) → MachinePacedAt t m → MachinePacedAt t (with_vnic m v f)
vnic_paced t m v f k h = by (vnic_at m v) (vnic_at_paced t m v h)
  where
    by : (o : Option Vnic) → VnicPaced t o → MachinePacedAt t (unwrap_or (option_map (λ x. with_object m v (Objects.vnic (f x))) o) m)
    by None q = h
    by (Some x) q = object_paced t m v (Objects.vnic (f x)) h (k x q)

pub log_paced : (t : ℕ) (m : Machine) (l : List ℕ) (f : Log → Log) → MachinePacedAt t m → MachinePacedAt t (with_log m l f)
log_paced t m l f h = by (log_at m l)
  where
    by : (o : Option Log) → MachinePacedAt t (unwrap_or (option_map (λ x. with_object m l (Objects.log (f x))) o) m)
    by None = h
    by (Some x) = object_paced t m l (Objects.log (f x)) h tt

pub buffer_paced : (t : ℕ) (m : Machine) (l : List ℕ) (f : Buffer → Buffer) → MachinePacedAt t m → MachinePacedAt t (with_buffer m l f)
buffer_paced t m l f h = by (buffer_at m l)
  where
    by : (o : Option Buffer) → MachinePacedAt t (unwrap_or (option_map (λ x. with_object m l (Objects.buffer (f x))) o) m)
    by None = h
    by (Some x) = object_paced t m l (Objects.buffer (f x)) h tt

pub socket_paced : (t : ℕ) (m : Machine) (l : List ℕ) (f : Socket → Socket) → MachinePacedAt t m → MachinePacedAt t (with_socket m l f)
socket_paced t m l f h = by (socket_at m l)
  where
    by : (o : Option Socket) → MachinePacedAt t (unwrap_or (option_map (λ x. with_object m l (Objects.socket (f x))) o) m)
    by None = h
    by (Some x) = object_paced t m l (Objects.socket (f x)) h tt

pub raw_paced : (t : ℕ) (m : Machine) (l : List ℕ) (f : Raw → Raw) → MachinePacedAt t m → MachinePacedAt t (with_raw m l f)
raw_paced t m l f h = by (raw_at m l)
  where
    by : (o : Option Raw) → MachinePacedAt t (unwrap_or (option_map (λ x. with_object m l (Objects.raw (f x))) o) m)
    by None = h
    by (Some x) = object_paced t m l (Objects.raw (f x)) h tt

door_paced : (t : ℕ) (m : Machine) (d : List ℕ) (bell : Bell) (o : Option Counts) → MachinePacedAt t m → MachinePacedAt t (unwrap_or (option_map (λ c. with_object m d (Objects.door (bells.one_more c bell))) o) m)
door_paced t m d bell None h = h
door_paced t m d bell (Some c) h = object_paced t m d (Objects.door (bells.one_more c bell)) h tt

pub rung_paced : (t : ℕ) (m : Machine) (d : Option (List ℕ)) (bell : Bell) → MachinePacedAt t m → MachinePacedAt t (rung m d bell)
rung_paced t m None bell h = h
rung_paced t m (Some d) bell h = door_paced t m d bell (door_at m d) h
