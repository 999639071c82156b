-- A line sends only what a filter lets out, and leaves every queue at its rate.
use Rattle.std.proofs.Common.{◌≡◌, ℕ, ◌+◌, Bool, true, false, List, [], ◌∷◌, map, refl, sym, ap, subst, arith, cond}
use Rattle.std.specs.Prelude.{Option, Some, None, Ok, Err, IsTrue, option_map, find, unwrap_or, bytes_eq}
use Rattle.std.specs.List.{AllByRecursion}
use Rattle.ark_base.specs.declared.kind.Kind.{Kind}
use Rattle.ark_base.specs.declared.kind.Kind.TheVariants as kind
use Rattle.ark_base.specs.declared.refusal.Refusal.TheVariants as r
use Rattle.ark_media.specs.Journal.{Event, device_events}
use Rattle.ark_table.specs.Slots.{Slot}
use Rattle.ark_script.specs.Line as w
use Rattle.ark_script.specs.Line.{Line}
use Rattle.ark_script.specs.Lines.{Meaning}
use Rattle.ark_script.specs.declared.said.Said.TheVariants as said
use Rattle.ark_machine.specs.Objects
use Rattle.ark_machine.specs.Objects.{Object, Paced}
use Rattle.ark_machine.specs.Machine.{Machine, Held, unmade}
use Rattle.ark_machine.specs.Row.{Ended}
use Rattle.ark_machine.specs.Network.{is_let_out}
use Rattle.ark_machine.specs.Plane.{recorded}
use Rattle.ark_machine.specs.Step.{step, ticked}
use Rattle.ark_machine.specs.System.{System, Turn, listed_machine, machine_of, set_machine, owner, quiet_turn, own_turn, nic_turn, line_turn, tick_turn}
use Rattle.ark_machine.specs.Start.{contents_at, stored_area, with_slot, with_stored, all_stored, start_system}
use Rattle.ark_machine.specs.Built.{turn, is_built}
use Rattle.ark_machine.specs.Replies.{turn_for, has_lacked}
use Rattle.ark_machine.specs.Follow.{ends_of}
use Rattle.ark_machine.specs.Sending.{IsLetOut, KeepsRate, KeepsRates, HeldKeeps, ListedKeeps, AllKeep}
use Rattle.ark_machine.specs.Paced.{IsPacedAt, ArePacedAt, HeldPacedAt, MachinePacedAt, ListedPacedAt, StandsPaced}
use Rattle.ark_laws.proofs.Paced.{later_held, new_paced}
use Rattle.ark_laws.proofs.Walk.{is_plain}
use Rattle.ark_laws.proofs.Answering.{MaySend, plain_not_sent}
use Rattle.ark_laws.proofs.Rows.{row_is, arrive_is}
use Rattle.ark_laws.proofs.Turns.{each_turn, quiet_not_sent}

-- Systems.

abbrev AllPaced : ℕ → List (List ℕ × Machine) → Type 0
AllPaced t ms = AllByRecursion (λ p. ListedPacedAt t p) ms

pub listed_paced : (t : ℕ) (ms : List (List ℕ × Machine)) (a : List ℕ) → AllPaced t ms → MachinePacedAt t (listed_machine ms t a)
listed_paced t [] a h = (refl, tt)
listed_paced t (p ∷ ps) a h =
    elim (bytes_eq a p.0) as (λ b. MachinePacedAt t (unwrap_or (option_map (λ q. q.1) (cond b (Some p) (find (λ q. bytes_eq a q.0) ps))) (record unmade { now = t }))) [
      | true ↦ h.0
      | false ↦ listed_paced t ps a h.1
    ]

pub machine_paced : (s : System) (a : List ℕ) → StandsPaced s → MachinePacedAt s.now (machine_of s a)
machine_paced s a h = listed_paced s.now s.machines a h

set_paced : (t : ℕ) (ms : List (List ℕ × Machine)) (a : List ℕ) (m : Machine) → AllPaced t ms → MachinePacedAt t m → AllPaced t (set_machine ms a m)
set_paced t [] a m h k = elim m.made as (λ b. AllPaced t (cond b ((a, m) ∷ []) [])) [ true ↦ (k, tt) | false ↦ tt ]
set_paced t (p ∷ ps) a m h k =
    elim (bytes_eq a p.0) as (λ b. AllPaced t (cond b ((p.0, m) ∷ ps) (p ∷ set_machine ps a m))) [
      | true ↦ (k, h.1)
      | false ↦ (h.0, set_paced t ps a m h.1 k)
    ]

ticks_paced : (t n : ℕ) (ms : List (List ℕ × Machine)) → AllPaced t ms → AllPaced (t + n) (map (λ p. (p.0, ticked n p.1)) ms)
ticks_paced t n [] h = tt
ticks_paced t n (p ∷ ps) h = ((ap (λ k. k + n) h.0.0, later_held t (t + n) p.1.held (omega arith) h.0.1), ticks_paced t n ps h.1)

-- what is so of each turn
record IsMild (s : System) (line : Line) (t : Turn) : Type 0 where
  sent : t.said ≡ said.Sent → IsLetOut s (Ok line) t.bytes
  rates : StandsPaced s → StandsPaced t.after

plain_mild : (s : System) (line : Line) (t : Turn) → is_plain t.said ≡ true → (StandsPaced s → StandsPaced t.after) → IsMild s line t
plain_mild s line t plain rates = record { sent = λ h. absurd (plain_not_sent t.said plain h); rates = rates }

-- the card is of the application whose line it is
let_out_by : (s : System) (a : List ℕ) (line : Line) (frame : List ℕ) → owner line ≡ Some a → MaySend (machine_of s a) s.plane.own line frame → IsLetOut s (Ok line) frame
let_out_by s a (w.dev b v) frame is h = subst (λ c. IsTrue (is_let_out (machine_of s c) v s.plane.own frame)) (sym (same_owner b a is)) h
  where
    same_owner : (b a : List ℕ) → ◌≡◌ {A = Option (List ℕ)} (Some b) (Some a) → b ≡ a
    same_owner b a h = cc
let_out_by s a _ frame is h = h

own_mild : (s : System) (a : List ℕ) (line : Line) (ends : List Ended) (memory : Bool) → owner line ≡ Some a
    → IsMild s line (own_turn s a line (step (machine_of s a) line (recorded s.plane line ends memory)))
own_mild s a line ends memory is =
    let row = row_is (machine_of s a) line (recorded s.plane line ends memory) in
    record {
      sent = λ h. let_out_by s a line (step (machine_of s a) line (recorded s.plane line ends memory)).bytes is (row.sent h);
      rates = λ k. set_paced s.now s.machines a _ k (row.paced s.now (listed_paced s.now s.machines a k));
    }

line_mild : (s : System) (line : Line) (ends : List Ended) (memory : Bool) → IsMild s line (line_turn s line ends memory)
line_mild s line ends memory = each_turn (λ t. IsMild s line t) s line ends memory (record {
  own = λ a is. own_mild s a line ends memory is;
  ticks = λ n is. plain_mild s line (tick_turn s n) refl (λ k. ticks_paced s.now n s.machines k);
  given = λ own is. plain_mild s line (nic_turn s own None) refl (λ k. k);
  arrives = λ frame own f is addressed found.
      let row = arrive_is f.owner (machine_of s f.owner) (unwrap_or f.card []) frame in
      record { sent = λ h. absurd (row.unsent h); rates = λ k. set_paced s.now s.machines f.owner _ k (row.paced s.now (listed_paced s.now s.machines f.owner k)) };
  quiet = λ reply q. record { sent = λ h. absurd (quiet_not_sent reply q h); rates = λ k. k };
})

-- a frame goes out only by a move of a card, and a filter lets it out
pub line_sends : (s : System) (line : Line) (ends : List Ended) (memory : Bool) → (line_turn s line ends memory).said ≡ said.Sent → IsLetOut s (Ok line) (line_turn s line ends memory).bytes
line_sends s line ends memory h = (line_mild s line ends memory).sent h

-- a line leaves the queues paced
pub line_paced : (s : System) (line : Line) (ends : List Ended) (memory : Bool) → StandsPaced s → StandsPaced (line_turn s line ends memory).after
line_paced s line ends memory k = (line_mild s line ends memory).rates k

-- The starts of runs.

stored_paced : (image : List (List ℕ)) (k : Kind) (blocks : List (List ℕ)) → ArePacedAt 0 (stored_area k blocks)
stored_paced image kind.Raw blocks = tt
stored_paced image kind.Log blocks = tt
stored_paced image kind.Queue blocks = tt

slot_paced : (image : List (List ℕ)) (m : Machine) (t : Slot) → MachinePacedAt 0 m → MachinePacedAt 0 (with_slot image m t)
slot_paced image m t h = new_paced 0 m t.label (stored_area t.kind (contents_at image t.blocks)) h (stored_paced image t.kind (contents_at image t.blocks))

with_stored_paced : (image : List (List ℕ)) (ms : List (List ℕ × Machine)) (t : Slot) → AllPaced 0 ms → AllPaced 0 (with_stored image ms t)
with_stored_paced image [] t h = (slot_paced image unmade t (refl, tt), tt)
with_stored_paced image (p ∷ ps) t h =
    elim (bytes_eq t.app p.0) as (λ b. AllPaced 0 (cond b ((p.0, with_slot image p.1 t) ∷ ps) (p ∷ with_stored image ps t))) [
      | true ↦ (slot_paced image p.1 t h.0, h.1)
      | false ↦ (h.0, with_stored_paced image ps t h.1)
    ]

all_stored_paced : (image : List (List ℕ)) (ms : List (List ℕ × Machine)) (ts : List Slot) → AllPaced 0 ms → AllPaced 0 (all_stored image ms ts)
all_stored_paced image ms [] h = h
all_stored_paced image ms (t ∷ ts) h = all_stored_paced image (with_stored image ms t) ts (with_stored_paced image ms t h)

pub start_paced : (image : List (List ℕ)) (slots : List Slot) → StandsPaced (start_system image slots)
start_paced image slots = all_stored_paced image [] slots tt

-- The law of rates.

pace_keeps : (t : ℕ) (p : Option Paced) → IsPacedAt t p → KeepsRate p
pace_keeps t None h = tt
pace_keeps t (Some p) h = h.0

object_keeps : (t : ℕ) (o : Object) → ArePacedAt t o → KeepsRates o
object_keeps t (Objects.vsic v) h = pace_keeps t v.pace h
object_keeps t (Objects.vnic v) h = (pace_keeps t v.rx_pace h.0, pace_keeps t v.tx_pace h.1)
object_keeps t _ h = tt

held_keep : (t : ℕ) (hs : List Held) → AllByRecursion (λ h. HeldPacedAt t h) hs → AllByRecursion HeldKeeps hs
held_keep t [] h = tt
held_keep t (x ∷ xs) h = (object_keeps t x.object h.0, held_keep t xs h.1)

machines_keep : (t : ℕ) (ms : List (List ℕ × Machine)) → AllPaced t ms → AllByRecursion ListedKeeps ms
machines_keep t [] h = tt
machines_keep t (p ∷ ps) h = (held_keep t p.1.held h.0.1, machines_keep t ps h.1)

-- queues that stand paced keep their rates
pub paced_keep : (s : System) → StandsPaced s → AllKeep s
paced_keep s h = machines_keep s.now s.machines h

-- The program's turns.

pub turn_paced : (s : System) (m : Meaning) (ends : List Ended) (memory : Bool) → StandsPaced s → StandsPaced (turn s m ends memory).after
turn_paced s (Err x) ends memory k = k
turn_paced s (Ok line) ends memory k =
    elim (is_built line) as (λ b. StandsPaced (cond b (line_turn s line ends memory) (quiet_turn s (said.Refused r.UnknownWord))).after) [ true ↦ line_paced s line ends memory k | false ↦ k ]

pub rates_kept : (s : System) (m : Meaning) (part : List Event) → StandsPaced s → StandsPaced (turn_for s m part).after
rates_kept s m part k = turn_paced s m (ends_of (device_events part)) (has_lacked part) k
