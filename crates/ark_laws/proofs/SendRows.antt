-- The rows of the words that send: `sendto` and `dev`.
use Rattle.std.proofs.Common.{◌≡◌, inr, ℕ, Bool, true, false, not, List, [], ◌∷◌, ◌&&◌, ◌||◌, take, refl, sym, ◌∙◌, subst, cond}
use Rattle.std.proofs.lemmas.Bool.{false≢true}
use Rattle.std.specs.Prelude.{Option, Some, None, IsTrue, is_none}
use Rattle.ark_base.specs.Conditions.{Conditions, early, late, when}
use Rattle.ark_base.specs.declared.kind.Outcome.{Outcome}
use Rattle.ark_base.specs.declared.kind.Outcome.TheVariants as outcome
use Rattle.ark_base.specs.declared.refusal.Refusal.{Refusal}
use Rattle.ark_base.specs.declared.refusal.Refusal.TheVariants as r
use Rattle.ark_packet.specs.declared.own.Own.{Own}
use Rattle.ark_vic.specs.declared.door.Bell.TheVariants as bell
use Rattle.ark_script.specs.Line as w
use Rattle.ark_script.specs.Line.{Line}
use Rattle.ark_script.specs.declared.said.Said.TheVariants as said
use Rattle.ark_machine.specs.Objects.{Paced, Vnic, Place}
use Rattle.ark_machine.specs.Machine.{Machine, room_for, with_vnic}
use Rattle.ark_machine.specs.Row.{Row, Given, says, answer, unless_refused}
use Rattle.ark_machine.specs.Rates.{is_over_burst, may_pass, passed}
use Rattle.ark_machine.specs.Network.{is_tx_full, is_let_out, bytes_in, tx_ended, tx_ending, tx_passed, frame_moves, tx_moves}
use Rattle.ark_machine.specs.Sockets.{sent_reaped, card_at, posted_at, framed, send_reaped, frame_frames}
use Rattle.ark_machine.specs.Moves.{Move, moves, move, first_end}
use Rattle.ark_machine.specs.Devices.{card_moves}
use Rattle.ark_machine.specs.Refused.{is_told_late, is_of_sending}
use Rattle.ark_machine.specs.Paced.{IsPacedAt, MachinePacedAt}
use Rattle.ark_laws.proofs.Paced.{VnicPaced, passed_paced, vnic_paced, rung_paced}
use Rattle.ark_laws.proofs.Early.{some_refusal, same_refusal, told_not_sending}
use Rattle.ark_laws.proofs.Steady.{Leads, move_steady}
use Rattle.ark_laws.proofs.Answering.{plain_not_sent, plain_not_refused, plain_not_delivered, needs_application, IsRow, early_row}
use Rattle.ark_laws.proofs.Leading.{posted_leads, leads_rows}
use Rattle.ark_laws.proofs.RowWalk.{sent_reaped_goes}

-- `sendto`: reaped first, and then refused or posted

of_sending : (a b : Bool) (x : Refusal) → when a r.RingFull (when b r.NoBuffer None) ≡ Some x → is_of_sending x ≡ true
of_sending true b x h = subst (λ y. is_of_sending y ≡ true) (some_refusal r.RingFull x h) refl
of_sending false true x h = subst (λ y. is_of_sending y ≡ true) (some_refusal r.NoBuffer x h) refl
of_sending false false x h = cc

sending_leaves : (x : Refusal) → is_of_sending x ≡ true → (is_told_late x || (true && is_of_sending x)) ≡ false → ⊥
sending_leaves x h e = by (is_told_late x) (is_of_sending x) h e
  where
    by : (b c : Bool) → c ≡ true → (b || (true && c)) ≡ false → ⊥
    by true c h e = false≢true (sym e)
    by false c h e = false≢true (sym e ∙ h)

pub sendto_row : (a : List ℕ) (m : Machine) (own : Option Own) (k ip : List ℕ) (port : ℕ) (payload : List ℕ) (c : Conditions) (g : Given) → c.no_application ≡ not m.made → late c ≡ None
    → IsRow (w.sendto a k ip port payload) m own (answer m c (send_reaped (sent_reaped m k) k ip port payload g))
unfolding answer
sendto_row a m own k ip port payload c g asks none_late =
    by (early c) (is_tx_full n (card_at n k)) (is_none (room_for n (frame_frames payload))) refl
  where
    n : Machine
    n = sent_reaped m k

    row : Row
    row = says (posted_at n (card_at n k) (framed n k g.own ip port payload) (room_for n (frame_frames payload))) said.Ok

    by : (first : Option Refusal) (full lacks : Bool) → early c ≡ first
        → IsRow (w.sendto a k ip port payload) m own (unless_refused first (late c) m (unless_refused (when full r.RingFull (when lacks r.NoBuffer None)) None n row))
    by (Some x) full lacks is = early_row (w.sendto a k ip port payload) m own c x is
    by None full lacks is = rw none_late (then (when full r.RingFull (when lacks r.NoBuffer None)) refl)
      where
        then : (next : Option Refusal) → when full r.RingFull (when lacks r.NoBuffer None) ≡ next → IsRow (w.sendto a k ip port payload) m own (unless_refused next None n row)
        then (Some x) also = record {
          sent = λ h. absurd cc;
          undelivered = λ b u h. absurd cc;
          told = λ y h late_one. absurd (told_not_sending y late_one (subst (λ z. is_of_sending z ≡ true) (same_refusal x y h) (of_sending full lacks x also)));
          refused = λ y h no. absurd (sending_leaves y (subst (λ z. is_of_sending z ≡ true) (same_refusal x y h) (of_sending full lacks x also)) no);
          paced = sent_reaped_goes Leads leads_rows m k;
          unmade = λ no. absurd (needs_application c (asks ∙ rw no refl) is);
        }
        then None also = record {
          sent = λ h. absurd cc;
          undelivered = λ b u h. absurd cc;
          refused = λ y h no. absurd cc;
          told = λ y h late_one. absurd cc;
          paced = λ t h. posted_leads n (card_at n k) (framed n k g.own ip port payload) (room_for n (frame_frames payload)) t (sent_reaped_goes Leads leads_rows m k t h);
          unmade = λ no. absurd (needs_application c (asks ∙ rw no refl) is);
        }

-- `dev`

pub record IsMove (m : Machine) (own : Option Own) (v : List ℕ) (x : Move) : Type 0 where
  pub sent : x.said ≡ said.Sent → IsTrue (is_let_out m v own x.bytes)
  pub undelivered : (b u : List ℕ) → x.said ≡ said.Delivered b u → ⊥
  pub unrefused : (y : Refusal) → x.said ≡ said.Refused y → ⊥
  pub paced : Leads m x.machine

abbrev pub IsTxOf : Machine → Option Paced → Type 0
IsTxOf m p = (t : ℕ) → MachinePacedAt t m → IsPacedAt t p

tx_ended_leads : (m k : Machine) (v : List ℕ) (x : Vnic) (p : Place) (ps : List (Place × ℕ)) (o : Outcome) → Leads m k → Leads m (tx_ended k v x p ps o)
tx_ended_leads m k v x p ps o lead t h = rung_paced t (with_vnic k v (tx_ending p ps o)) x.tx_door bell.Tx (vnic_paced t k v (tx_ending p ps o) (λ y q. q) (lead t h))

frame_is : (m : Machine) (v : List ℕ) (x : Vnic) (own : Option Own) (p : Place) (len : ℕ) (ps : List (Place × ℕ)) (frame : List ℕ) → IsTxOf m x.tx_pace → IsMove m own v (frame_moves m v x own p len ps frame)
frame_is m v x own p len ps frame of = by (is_let_out m v own frame) (is_over_burst x.tx_pace len) (may_pass x.tx_pace m.now len) refl refl
  where
    unfit : Move
    unfit = moves (tx_ended m v x p ps outcome.NoFilter) (said.Done outcome.NoFilter) []

    over : Move
    over = moves (tx_ended m v x p ps outcome.OverBurst) (said.Done outcome.OverBurst) []

    held : Move
    held = moves m said.Held []

    pace : Option Paced
    pace = passed m.now len x.tx_pace

    gone : Move
    gone = record { machine = tx_ended (with_vnic m v (tx_passed pace)) v x p ps outcome.Ok; said = said.Sent; bytes = frame; calls = [] }

    by : (a b c : Bool) → is_let_out m v own frame ≡ a → may_pass x.tx_pace m.now len ≡ c → IsMove m own v (cond (not a) unfit (cond b over (cond (not c) held gone)))
    by false b c is fits = record { sent = λ h. absurd cc; undelivered = λ b u h. absurd cc; unrefused = λ y h. cc; paced = tx_ended_leads m m v x p ps outcome.NoFilter (λ t h. h) }
    by true true c is fits = record { sent = λ h. absurd cc; undelivered = λ b u h. absurd cc; unrefused = λ y h. cc; paced = tx_ended_leads m m v x p ps outcome.OverBurst (λ t h. h) }
    by true false false is fits = record { sent = λ h. absurd cc; undelivered = λ b u h. absurd cc; unrefused = λ y h. cc; paced = λ t h. h }
    by true false true is fits = record {
      sent = λ h. is;
      undelivered = λ b u h. absurd cc;
      unrefused = λ y h. cc;
      paced = tx_ended_leads m (with_vnic m v (tx_passed pace)) v x p ps outcome.Ok (λ t h. vnic_paced t m v (tx_passed pace) (λ y q. (q.0, passed_paced t m.now len x.tx_pace h.0 (of t h) fits)) h);
    }

tx_is : (m : Machine) (v : List ℕ) (x : Vnic) (own : Option Own) (ps : List (Place × ℕ)) → IsTxOf m x.tx_pace → IsMove m own v (tx_moves m v x own ps)
tx_is m v x own [] of = record { sent = λ h. absurd cc; undelivered = λ b u h. absurd cc; unrefused = λ y h. cc; paced = λ t h. h }
tx_is m v x own (p ∷ ps) of = frame_is m v x own p.0 p.1 ps (take p.1 (bytes_in m p.0)) of

pub card_is : (m : Machine) (v : List ℕ) (g : Given) (o : Option Vnic) → ((t : ℕ) → MachinePacedAt t m → VnicPaced t o) → IsMove m g.own v (card_moves m v g o)
card_is m v g None of =
    let s = move_steady m v (first_end g.ended) in
    record { sent = λ h. absurd (plain_not_sent (move m v (first_end g.ended)).said s.plain h); undelivered = λ b u h. plain_not_delivered (move m v (first_end g.ended)).said b u s.plain h; unrefused = λ y h. plain_not_refused (move m v (first_end g.ended)).said y s.plain h; paced = s.goes }
card_is m v g (Some x) of = tx_is m v x g.own x.tx.posted (λ t h. (of t h).1)

pub dev_row : (a v : List ℕ) (m : Machine) (own : Option Own) (c : Conditions) (row : Row) → c.no_application ≡ not m.made → late c ≡ None
    → (row.said ≡ said.Sent → IsTrue (is_let_out m v own row.bytes)) → ((b u : List ℕ) → row.said ≡ said.Delivered b u → ⊥) → ((y : Refusal) → row.said ≡ said.Refused y → ⊥) → Leads m row.machine
    → IsRow (w.dev a v) m own (answer m c row)
unfolding answer
dev_row a v m own c row asks none_late sent undelivered unrefused lead = by (early c) refl
  where
    by : (first : Option Refusal) → early c ≡ first → IsRow (w.dev a v) m own (unless_refused first (late c) m row)
    by (Some x) is = early_row (w.dev a v) m own c x is
    by None is = rw none_late (record {
      sent = sent;
      undelivered = undelivered;
      refused = λ y h no. absurd (unrefused y h);
      told = λ y h late_one. absurd (unrefused y h);
      paced = lead;
      unmade = λ no. absurd (needs_application c (asks ∙ rw no refl) is);
    })

pub quiet_row : (line : Line) (m : Machine) (own : Option Own) → IsRow line m own (says m said.Ok)
quiet_row line m own = record { sent = λ h. absurd cc; undelivered = λ b u h. absurd cc; refused = λ y h no. absurd cc; told = λ y h late_one. absurd cc; paced = λ t h. h; unmade = λ no. inr refl }
