-- What a refused `sendto` leaves, and the labels that refused lines leave.
use Rattle.std.proofs.Common.{◌≡◌, ℕ, Bool, true, false, not, List, [], ◌∷◌, map, refl, sym, ◌∙◌, ap, subst, cond}
use Rattle.std.proofs.lemmas.Bool.{false≢true}
use Rattle.std.specs.Prelude.{Option, Some, None, option_map, unwrap_or, bytes_eq, is_none}
use Rattle.ark_base.specs.Conditions.{when, when_some}
use Rattle.ark_base.specs.declared.refusal.Refusal.{Refusal}
use Rattle.ark_base.specs.declared.refusal.Refusal.TheVariants as r
use Rattle.ark_script.specs.Line as w
use Rattle.ark_script.specs.Line.{Line}
use Rattle.ark_script.specs.declared.said.Said.TheVariants as said
use Rattle.ark_machine.specs.Bytes.{padded}
use Rattle.ark_machine.specs.Objects
use Rattle.ark_machine.specs.Objects.{Object, Raw, Vnic}
use Rattle.ark_machine.specs.Machine.{Machine, Held, holding, raw_at, vnic_at, socket_at, missing, room_for, with_object, with_vnic}
use Rattle.ark_machine.specs.Row.{Row, Given, Ended, says, answer, unless_refused, synced_by}
use Rattle.ark_machine.specs.Areas.{with_raw, raw_written, block_written}
use Rattle.ark_machine.specs.Network.{is_tx_full}
use Rattle.ark_machine.specs.Sockets.{tx_reaped, sent_reaped, card_at, posted_at, framed, frame_frames}
use Rattle.ark_machine.specs.Plane.{Plane, Change, recorded}
use Rattle.ark_machine.specs.Granting.{after_refusal, change_of}
use Rattle.ark_machine.specs.Step.{step}
use Rattle.ark_machine.specs.System.{System, machine_of, set_machine, owner, line_turn}
use Rattle.ark_machine.specs.Refused.{is_told_late, is_of_sending, reaps_first, may_fault, gives_up, labels}
use Rattle.ark_laws.proofs.Answering.{may_begin}
use Rattle.ark_laws.proofs.Damaged.{damaged_left}
use Rattle.ark_laws.proofs.Early.{same_refusal}
use Rattle.ark_laws.proofs.Rows.{row_is}
use Rattle.ark_laws.proofs.Refusing.{refused_spared}
use Rattle.ark_laws.proofs.Leaving.{refused_after}
use Rattle.ark_laws.proofs.Faults.{late_machine, Late, vsa_left, grow_left, log_left, queue_left, synced_labels, turn_machine, turn_said}

-- `sendto`, refused after it has reaped.

module _ (m : Machine) (a k ip : List ℕ) (port : ℕ) (payload : List ℕ) (g : Given) where
  abbrev reaped : Machine
  reaped = sent_reaped m k

  abbrev posted : Row
  posted = says (posted_at reaped (card_at reaped k) (framed reaped k g.own ip port payload) (room_for reaped (frame_frames payload))) said.Ok

  -- by what refuses it
  abbrev sending : Bool → Option (List ℕ) → Bool → Bool → Bool → Row
  sending lacks label wrong full none = unless_refused (when lacks r.NoApplication (when_some label (λ l. r.NoGrant l) (when wrong r.WrongKind None))) None m (unless_refused (when full r.RingFull (when none r.NoBuffer None)) None reaped posted)

  sent_of : (x y : Refusal) → is_of_sending y ≡ false → said.Refused y ≡ said.Refused x → is_of_sending x ≡ true → ⊥
  sent_of x y plain h of = false≢true (sym plain ∙ subst (λ z. is_of_sending z ≡ true) (sym (same_refusal y x h)) of)

  sending_left : (x : Refusal) (lacks : Bool) (label : Option (List ℕ)) (wrong full none : Bool) → (sending lacks label wrong full none).said ≡ said.Refused x → is_of_sending x ≡ true
      → (sending lacks label wrong full none).machine ≡ reaped
  sending_left x true label wrong full none h of = absurd (sent_of x r.NoApplication refl h of)
  sending_left x false (Some l) wrong full none h of = absurd (sent_of x (r.NoGrant l) refl h of)
  sending_left x false None true full none h of = absurd (sent_of x r.WrongKind refl h of)
  sending_left x false None false true none h of = refl
  sending_left x false None false false true h of = refl
  sending_left x false None false false false h of = absurd cc

  sending_calls : (lacks : Bool) (label : Option (List ℕ)) (wrong full none : Bool) → (sending lacks label wrong full none).calls ≡ []
  sending_calls true label wrong full none = refl
  sending_calls false (Some l) wrong full none = refl
  sending_calls false None true full none = refl
  sending_calls false None false true none = refl
  sending_calls false None false false true = refl
  sending_calls false None false false false = refl

  sendto_left : (x : Refusal) → (step m (w.sendto a k ip port payload) g).said ≡ said.Refused x → is_of_sending x ≡ true → (step m (w.sendto a k ip port payload) g).machine ≡ reaped
  unfolding step answer
  sendto_left x h of = sending_left x (not m.made) (missing m (k ∷ [])) (is_none (socket_at m k)) (is_tx_full reaped (card_at reaped k)) (is_none (room_for reaped (frame_frames payload))) h of

  sendto_calls : (step m (w.sendto a k ip port payload) g).calls ≡ []
  unfolding step answer
  sendto_calls = sending_calls (not m.made) (missing m (k ∷ [])) (is_none (socket_at m k)) (is_tx_full reaped (card_at reaped k)) (is_none (room_for reaped (frame_frames payload)))

sending_plane : (p : Plane) (x : Refusal) (c : Option Change) → is_of_sending x ≡ true → after_refusal p x c ≡ p
sending_plane p r.DeviceFault c of = absurd (false≢true of)
sending_plane p _ c of = refl

-- it has reaped the ring, and done no more
pub sendto_refused : (s : System) (a k ip : List ℕ) (port : ℕ) (payload : List ℕ) (ends : List Ended) (memory : Bool) (x : Refusal) → (line_turn s (w.sendto a k ip port payload) ends memory).said ≡ said.Refused x
    → is_of_sending x ≡ true → (line_turn s (w.sendto a k ip port payload) ends memory).after ≡ record s { machines = set_machine s.machines a (sent_reaped (machine_of s a) k) }
sendto_refused s a k ip port payload ends memory x h of =
    let line : Line = w.sendto a k ip port payload in
    let m : Machine = machine_of s a in
    refused_after s a line ends memory x (sent_reaped m k) refl h (sendto_left m a k ip port payload (recorded s.plane line ends memory) x h of)
    ∙ ap (λ (p : Plane). record s { plane = p; machines = set_machine s.machines a (sent_reaped m k) }) (sending_plane s.plane x (change_of s.plane m line) of)

-- no device was called, where no call tells the refusal
pub refused_quiet : (s : System) (line : Line) (ends : List Ended) (memory : Bool) (x : Refusal) → (line_turn s line ends memory).said ≡ said.Refused x → is_told_late x ≡ false
    → (line_turn s line ends memory).calls ≡ []
refused_quiet s (w.sendto a k ip port payload) ends memory x h plain = sendto_calls (machine_of s a) a k ip port payload (recorded s.plane (w.sendto a k ip port payload) ends memory)
refused_quiet s line ends memory x h plain = (refused_spared s line ends memory x h (rw plain refl)).1

-- The labels that are held.

object_labels : (l : List ℕ) (o : Object) (hs : List Held) → map (λ h. h.label) (map (λ h. cond (bytes_eq l h.label) (holding o h) h) hs) ≡ map (λ h. h.label) hs
object_labels l o [] = refl
object_labels l o (x ∷ xs) = by (object_labels l o xs) (bytes_eq l x.label)
  where
    by : map (λ h. h.label) (map (λ h. cond (bytes_eq l h.label) (holding o h) h) xs) ≡ map (λ h. h.label) xs → (b : Bool)
        → (cond b (holding o x) x).label ∷ map (λ h. h.label) (map (λ h. cond (bytes_eq l h.label) (holding o h) h) xs) ≡ x.label ∷ map (λ h. h.label) xs
    by rest true = ap (λ ls. x.label ∷ ls) rest
    by rest false = ap (λ ls. x.label ∷ ls) rest

raw_labels : (m : Machine) (l : List ℕ) (f : Raw → Raw) → labels (with_raw m l f) ≡ labels m
raw_labels m l f = by (raw_at m l)
  where
    by : (o : Option Raw) → labels (unwrap_or (option_map (λ r. with_object m l (Objects.raw (f r))) o) m) ≡ labels m
    by None = refl
    by (Some y) = object_labels l (Objects.raw (f y)) m.held

vnic_labels : (m : Machine) (l : List ℕ) (f : Vnic → Vnic) → labels (with_vnic m l f) ≡ labels m
vnic_labels m l f = by (vnic_at m l)
  where
    by : (o : Option Vnic) → labels (unwrap_or (option_map (λ y. with_object m l (Objects.vnic (f y))) o) m) ≡ labels m
    by None = refl
    by (Some y) = object_labels l (Objects.vnic (f y)) m.held

written_labels : (m : Machine) (l : List ℕ) (off : ℕ) (block : List ℕ) (es : List Ended) → labels (block_written m l off block es) ≡ labels m
written_labels m l off block [] = refl
written_labels m l off block (e ∷ es) = raw_labels m l (raw_written off block e.took)

opened_labels : (m : Machine) (line : Line) (g : Given) (x : Refusal) → ((step m line g).said ≡ said.Refused r.DeviceFault → (step m line g).machine ≡ synced_by g.ended m)
    → Late (step m line g) x → labels (step m line g).machine ≡ labels m
opened_labels m line g r.DeviceFault left h = ap labels (left h.0) ∙ synced_labels m g.ended
opened_labels m line g (r.Damaged n) left h = ap labels (damaged_left m line g n h.0)
opened_labels m line g _ left h = absurd (false≢true h.1)

late_labels : (m : Machine) (line : Line) (g : Given) (x : Refusal) → may_fault line ≡ true → gives_up line ≡ false → Late (step m line g) x → labels (step m line g).machine ≡ labels m
unfolding step
late_labels m (w.vsa a s n k) g x may up h = ap labels (vsa_left m a s n k g x h) ∙ synced_labels m g.ended
late_labels m (w.grow a s n) g x may up h = ap labels (grow_left m a s n g x h) ∙ synced_labels m g.ended
late_labels m (w.log a s v) g x may up h = opened_labels m (w.log a s v) g x (log_left m a s v g) h
late_labels m (w.queue a s v) g x may up h = opened_labels m (w.queue a s v) g x (queue_left m a s v g) h
late_labels m (w.peek a s off) g x may up h = ap labels (late_machine m _ _ x refl h.0 h.1).0
late_labels m (w.walk a s n) g x may up h = ap labels (late_machine m _ _ x refl h.0 h.1).0
late_labels m (w.poke a s off bytes) g x may up h = ap labels (late_machine m _ _ x refl h.0 h.1).0 ∙ written_labels m s off (padded bytes) g.ended
late_labels m (w.drop a l) g x may up h = absurd (false≢true (sym up))
late_labels m _ g x may up h = absurd (false≢true may)

sent_labels : (m : Machine) (line : Line) (g : Given) (x : Refusal) → reaps_first line ≡ true → (step m line g).said ≡ said.Refused x → is_of_sending x ≡ true → labels (step m line g).machine ≡ labels m
sent_labels m (w.sendto a k ip port payload) g x first h of = ap labels (sendto_left m a k ip port payload g x h of) ∙ vnic_labels m (card_at m k) tx_reaped
sent_labels m _ g x first h of = absurd (false≢true first)

row_labels : (m : Machine) (line : Line) (g : Given) (x : Refusal) → gives_up line ≡ false → (step m line g).said ≡ said.Refused x → labels (step m line g).machine ≡ labels m
row_labels m line g x up h = by (is_told_late x) (reaps_first line) (is_of_sending x) refl refl refl
  where
    spared : may_begin line x ≡ false → labels (step m line g).machine ≡ labels m
    spared spare = ap (λ row. labels row.machine) ((row_is m line g).refused x h spare)

    by : (told first of : Bool) → is_told_late x ≡ told → reaps_first line ≡ first → is_of_sending x ≡ of → labels (step m line g).machine ≡ labels m
    by true first of e i j = late_labels m line g x ((row_is m line g).told x h e) up (h, e)
    by false false of e i j = spared (rw (e, i) refl)
    by false true false e i j = spared (rw (e, i, j) refl)
    by false true true e i j = sent_labels m line g x i h j

-- no refused line gives a label, and only one that gives a label up takes one
pub labels_refused : (s : System) (a : List ℕ) (line : Line) (ends : List Ended) (memory : Bool) (x : Refusal) → owner line ≡ Some a → gives_up line ≡ false
    → (line_turn s line ends memory).said ≡ said.Refused x → labels (machine_of (line_turn s line ends memory).after a) ≡ labels (machine_of s a)
labels_refused s a line ends memory x is up h =
    ap labels (turn_machine s a line ends memory (step (machine_of s a) line (recorded s.plane line ends memory)).machine is refl)
    ∙ row_labels (machine_of s a) line (recorded s.plane line ends memory) x up (turn_said s a line ends memory x is h)
