-- Moves, polls and settling leave the queues paced.
use Rattle.std.proofs.Common.{ℕ, Bool, List, sym, subst}
use Rattle.std.specs.Prelude.{Option}
use Rattle.ark_script.specs.declared.said.Said.{Said}
use Rattle.ark_machine.specs.Objects
use Rattle.ark_machine.specs.Objects.{Object, Paced, Vsic}
use Rattle.ark_machine.specs.Machine.{Machine}
use Rattle.ark_machine.specs.Row.{Row, Ended}
use Rattle.ark_machine.specs.Moves.{deciding_tried, move}
use Rattle.ark_machine.specs.Polls.{Next, polled, settle_move, next_call, settling}
use Rattle.ark_machine.specs.Paced.{IsPacedAt, ArePacedAt, MachinePacedAt}
use Rattle.ark_laws.proofs.Paced.{VsicPaced, passed_paced, object_paced, each_paced, synced_paced, vsic_at_paced, vsic_paced, log_paced, buffer_paced, raw_paced, rung_paced}
use Rattle.ark_laws.proofs.Walk.{Walk, Goes, NextGoes, goes_behind, move_goes, settle_move_goes, polled_goes, next_call_goes, settling_goes}

-- a machine's queues stay paced
abbrev pub Leads : Machine → Machine → Type 0
Leads m n = (t : ℕ) → MachinePacedAt t m → MachinePacedAt t n

deciding_paced : (v : List ℕ) (took : Bool) (t : ℕ) (o : Object) → ArePacedAt t o → ArePacedAt t (deciding_tried v took o)
deciding_paced v took t (Objects.raw r) h = tt
deciding_paced v took t (Objects.log g) h = tt
deciding_paced v took t (Objects.vsic x) h = h
deciding_paced v took t (Objects.vnic x) h = h
deciding_paced v took t (Objects.filter f c) h = tt
deciding_paced v took t (Objects.door c) h = tt
deciding_paced v took t (Objects.rate q b) h = tt
deciding_paced v took t (Objects.buffer b) h = tt
deciding_paced v took t (Objects.socket k) h = tt

pub leads_walk : Walk Leads
leads_walk = record {
  same = λ m t h. h;
  then = λ m k n f g t h. g t (f t h);
  vsic = λ m v f keeps t h. vsic_paced t m v f (λ y q. subst (λ (p : Option Paced). IsPacedAt t p) (sym (keeps y)) q) h;
  passes = λ m k v x f at fits is lead t h.
      let card : IsPacedAt t x.pace = subst (λ (o : Option Vsic). VsicPaced t o) at (vsic_at_paced t m v h) in
      vsic_paced t k v f (λ y q. subst (λ (p : Option Paced). IsPacedAt t p) (sym (is y)) (passed_paced t m.now 512 x.pace h.0 card fits)) (lead t h);
  rings = λ m d b t h. rung_paced t m d b h;
  log = λ m l f t h. log_paced t m l f h;
  acks = λ m l g old at t h. object_paced t m l (Objects.log g) h tt;
  raw = λ m l f t h. raw_paced t m l f h;
  bytes = λ m b off bytes t h. buffer_paced t m b _ h;
  syncs = λ b m t h. synced_paced t b m h;
  decides = λ m v took t h. each_paced t (deciding_tried v took) m (deciding_paced v took t) h;
}

abbrev pub IsSteady : Machine → Machine → Said → Type 0
IsSteady m after x = Goes Leads m after x

abbrev pub RowSteady : Machine → Row → Type 0
RowSteady m r = IsSteady m r.machine r.said

abbrev pub NextSteady : Machine → Next → Type 0
NextSteady m n = NextGoes Leads leads_walk m n

pub behind : (m n after : Machine) (x : Said) → Leads m n → IsSteady n after x → IsSteady m after x
behind m n after x lead s = goes_behind Leads leads_walk m n after x lead s

pub move_steady : (m : Machine) (v : List ℕ) (e : Ended) → IsSteady m (move m v e).machine (move m v e).said
move_steady m v e = move_goes Leads leads_walk m v e

pub polled_steady : (m : Machine) (s : List ℕ) → RowSteady m (polled m s).row
polled_steady m s = polled_goes Leads leads_walk m s

pub settle_move_steady : (m : Machine) (s : List ℕ) (e : Ended) → IsSteady m (settle_move m s e).machine (settle_move m s e).said
settle_move_steady m s e = settle_move_goes Leads leads_walk m s e

pub next_call_steady : (m : Machine) (s : List ℕ) → NextSteady m (next_call m s)
next_call_steady m s = next_call_goes Leads leads_walk m s

pub settling_steady : (m : Machine) (es : List Ended) (s : List ℕ) (n : Next) → NextSteady m n → RowSteady m (settling es s n)
settling_steady m es s n h = settling_goes Leads leads_walk m es s n h
