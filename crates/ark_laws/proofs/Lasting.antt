-- An object keeps its number: what stays under its label is the same one. So do the filters of all words but three.
use Rattle.std.proofs.Common.{◌≡◌, ℕ, Bool, true, false, not, List, [], ◌∷◌, ◌++◌, map, length, take, refl, sym, ◌∙◌, ap, subst, cond}
use Rattle.std.proofs.lemmas.Bool.{false≢true}
use Rattle.std.proofs.lemmas.List.Folds.{find-append}
use Rattle.std.proofs.lemmas.Option.{same_Some}
use Rattle.std.specs.Prelude.{Option, Some, None, option_map, option_and_then, find, filter as select, unwrap_or, bytes_eq, is_none, nat_lt, ◌&&◌}
use Rattle.std.specs.Option.{option_or}
use Rattle.ark_base.specs.Conditions.{Conditions, early, late, none}
use Rattle.ark_base.specs.declared.kind.Outcome.{Outcome}
use Rattle.ark_base.specs.declared.kind.Outcome.TheVariants as outcome
use Rattle.ark_base.specs.declared.refusal.Refusal.{Refusal}
use Rattle.ark_filters.specs.declared.filter.Filter.{Filter}
use Rattle.ark_packet.specs.declared.own.Own.{Own}
use Rattle.ark_script.specs.Line as w
use Rattle.ark_script.specs.Line.{Line}
use Rattle.ark_script.specs.declared.said.Said.TheVariants as said
use Rattle.ark_script.specs.declared.step.Side.{Side}
use Rattle.ark_script.specs.declared.step.Side.TheVariants as side
use Rattle.ark_vic.specs.Bells as bells
use Rattle.ark_vic.specs.declared.door.Bell.{Bell}
use Rattle.ark_vic.specs.declared.door.Bell.TheVariants as bell
use Rattle.ark_machine.specs.Objects
use Rattle.ark_machine.specs.Objects.{Object, Paced, Vnic, Buffer, Place, as_buffer, is_buffer, is_vsa}
use Rattle.ark_machine.specs.Machine.{Machine, Held, holding, at, object_at, raw_at, log_at, vsic_at, vnic_at, door_at, buffer_at, socket_at, serial_at, is_so, missing, with_object, each_object, with_new, without, with_vnic, with_buffer}
use Rattle.ark_machine.specs.Row.{Row, Given, says, answer, unless_refused, settled, synced, synced_by, has_fault, writes_slot, syncs}
use Rattle.ark_machine.specs.Buffers.{is_lent}
use Rattle.ark_machine.specs.Network.{is_let_out, bytes_in, tx_ended, tx_ending, tx_passed, frame_moves, tx_moves, with_frame, filled_place, rx_ending, rx_passed, received, arrival, arrive}
use Rattle.ark_machine.specs.Rates.{is_over_burst, may_pass, passed, pace_of, with_pace, no_rings, rung}
use Rattle.ark_machine.specs.Moves.{Move, moves, deciding_tried, first_end}
use Rattle.ark_machine.specs.Sockets.{delivered, posted_at}
use Rattle.ark_machine.specs.Devices.{card_moves}
use Rattle.ark_machine.specs.Control.{lets_go, is_in_use}
use Rattle.ark_machine.specs.Filters.{as_assigned}
use Rattle.ark_machine.specs.Step.{step}
use Rattle.ark_laws.proofs.Granted.{kind_and_limit}
use Rattle.ark_laws.proofs.Listed.{same_bytes}
use Rattle.ark_laws.proofs.Setting.{each_found}
use Rattle.ark_laws.proofs.Seen.{gone_there}
use Rattle.ark_laws.proofs.SeenMoves.{arrive_sees}
use Rattle.ark_laws.proofs.Keeping.{keeps_of, changes_list}
use Rattle.ark_laws.proofs.Agreeing.{row_keeps}
use Rattle.ark_laws.proofs.Dropping.{free_card}
use Rattle.ark_laws.proofs.Walk.{Walk, move_goes}
use Rattle.ark_laws.proofs.RowWalk.{RowWalk, row_goes}

-- the number of the object under a label
abbrev pub number_in : List ℕ → List Held → Option ℕ
number_in l hs = option_map (λ h. h.serial) (find (λ h. bytes_eq l h.label) hs)

abbrev pub number_at : Machine → List ℕ → Option ℕ
number_at m l = number_in l m.held

-- what m holds under a label is there still in n
pub record Lasts (m n : Machine) : Type 0 where
  pub still : (l : List ℕ) (k : ℕ) → number_at m l ≡ Some k → number_at n l ≡ Some k

pub lasts_itself : (m : Machine) → Lasts m m
lasts_itself m = record { still = λ l k is. is }

pub lasts_then : {m k n : Machine} → Lasts m k → Lasts k n → Lasts m n
lasts_then one two = record { still = λ l k is. two.still l k (one.still l k is) }

-- Objects in another state.

same_numbers : (f : Held → Held) → ((h : Held) → (f h).label ≡ h.label) → ((h : Held) → (f h).serial ≡ h.serial) → (l : List ℕ) (hs : List Held) → number_in l (map f hs) ≡ number_in l hs
same_numbers f labels serials l [] = refl
same_numbers f labels serials l (x ∷ xs) =
    ap (λ b. option_map (λ h. h.serial) (cond b (Some (f x)) (find (λ h. bytes_eq l h.label) (map f xs)))) (ap (λ k. bytes_eq l k) (labels x))
    ∙ by (bytes_eq l x.label) (same_numbers f labels serials l xs)
  where
    by : (t : Bool) → number_in l (map f xs) ≡ number_in l xs
        → option_map (λ h. h.serial) (cond t (Some (f x)) (find (λ h. bytes_eq l h.label) (map f xs))) ≡ option_map (λ h. h.serial) (cond t (Some x) (find (λ h. bytes_eq l h.label) xs))
    by true rest = ap (λ k. Some k) (serials x)
    by false rest = rest

pub each_number : (f : Object → Object) (l : List ℕ) (hs : List Held) → number_in l (map (λ h. holding (f h.object) h) hs) ≡ number_in l hs
each_number f l hs = same_numbers (λ h. holding (f h.object) h) (λ h. refl) (λ h. refl) l hs

set_number : (v : List ℕ) (o : Object) (l : List ℕ) (hs : List Held) → number_in l (map (λ h. cond (bytes_eq v h.label) (holding o h) h) hs) ≡ number_in l hs
set_number v o l hs = same_numbers (λ h. cond (bytes_eq v h.label) (holding o h) h) (λ h. label (bytes_eq v h.label) h) (λ h. serial (bytes_eq v h.label) h) l hs
  where
    label : (t : Bool) (h : Held) → (cond t (holding o h) h).label ≡ h.label
    label true h = refl
    label false h = refl

    serial : (t : Bool) (h : Held) → (cond t (holding o h) h).serial ≡ h.serial
    serial true h = refl
    serial false h = refl

pub object_lasts : (m : Machine) (v : List ℕ) (o : Object) → Lasts m (with_object m v o)
object_lasts m v o = record { still = λ l k is. set_number v o l m.held ∙ is }

pub each_lasts : (m : Machine) (f : Object → Object) → Lasts m (each_object f m)
each_lasts m f = record { still = λ l k is. each_number f l m.held ∙ is }

-- what is at a label, if it is of some kind
kind_lasts : {X : Type 0} (m : Machine) (v : List ℕ) (f : X → Object) (o : Option X) → Lasts m (unwrap_or (option_map (λ (x : X). with_object m v (f x)) o) m)
kind_lasts m v f None = lasts_itself m
kind_lasts m v f (Some x) = object_lasts m v (f x)

vnic_lasts : (m : Machine) (v : List ℕ) (f : Vnic → Vnic) → Lasts m (with_vnic m v f)
vnic_lasts m v f = kind_lasts m v (λ x. Objects.vnic (f x)) (vnic_at m v)

buffer_lasts : (m : Machine) (b : List ℕ) (f : Buffer → Buffer) → Lasts m (with_buffer m b f)
buffer_lasts m b f = kind_lasts m b (λ x. Objects.buffer (f x)) (buffer_at m b)

rung_lasts : (m : Machine) (d : Option (List ℕ)) (bell : Bell) → Lasts m (rung m d bell)
rung_lasts m None bell = lasts_itself m
rung_lasts m (Some d) bell = kind_lasts m d (λ c. Objects.door (bells.one_more c bell)) (door_at m d)

synced_lasts : (b : Bool) (m : Machine) → Lasts m (synced b m)
synced_lasts true m = each_lasts m settled
synced_lasts false m = lasts_itself m

-- A new object, and one that is gone.

pub new_lasts : (m : Machine) (l : List ℕ) (o : Object) → Lasts m (with_new m l o)
new_lasts m l o = record { still = λ k n is. ap (λ (z : Option Held). option_map (λ h. h.serial) z) (find-append (λ h. bytes_eq k h.label) m.held (record { label = l; serial = m.serial; object = o } ∷ [])) ∙ by (at m k) _ n is }
  where
    by : (a b : Option Held) (n : ℕ) → option_map (λ h. h.serial) a ≡ Some n → option_map (λ h. h.serial) (option_or a b) ≡ Some n
    by None b n is = absurd cc
    by (Some h) b n is = is

pub without_number : (k l : List ℕ) (hs : List Held) → bytes_eq k l ≡ false → number_in k (select (λ h. not (bytes_eq l h.label)) hs) ≡ number_in k hs
without_number k l [] apart = refl
without_number k l (x ∷ xs) apart = by (bytes_eq l x.label) refl (without_number k l xs apart)
  where
    by : (t : Bool) → bytes_eq l x.label ≡ t → number_in k (select (λ h. not (bytes_eq l h.label)) xs) ≡ number_in k xs
        → number_in k (cond (not t) (x ∷ select (λ h. not (bytes_eq l h.label)) xs) (select (λ h. not (bytes_eq l h.label)) xs)) ≡ number_in k (x ∷ xs)
    by true e rest = let away : bytes_eq k x.label ≡ false = subst (λ y. bytes_eq k y ≡ false) (same_bytes l x.label e) apart in rw away rest
    by false e rest = elim (bytes_eq k x.label) as (λ t. option_map (λ h. h.serial) (cond t (Some x) (find (λ h. bytes_eq k h.label) (select (λ h. not (bytes_eq l h.label)) xs))) ≡ option_map (λ h. h.serial) (cond t (Some x) (find (λ h. bytes_eq k h.label) xs))) [
      | true ↦ refl
      | false ↦ rest
    ]

-- Walks.

lasts_walk : Walk Lasts
lasts_walk = record {
  same = lasts_itself;
  then = λ m k n one two. lasts_then one two;
  vsic = λ m v f keeps. kind_lasts m v (λ x. Objects.vsic (f x)) (vsic_at m v);
  passes = λ m k v x f at fits is before. lasts_then before (kind_lasts k v (λ y. Objects.vsic (f y)) (vsic_at k v));
  rings = rung_lasts;
  log = λ m l f. kind_lasts m l (λ g. Objects.log (f g)) (log_at m l);
  acks = λ m l g old at. object_lasts m l (Objects.log g);
  raw = λ m l f. kind_lasts m l (λ x. Objects.raw (f x)) (raw_at m l);
  bytes = λ m b off bytes. buffer_lasts m b _;
  syncs = synced_lasts;
  decides = λ m v took. each_lasts m (deciding_tried v took);
}

pace_lasts : (m : Machine) (v : List ℕ) (q : Side) (p : Option Paced) → Lasts m (with_pace m v q p)
pace_lasts m v side.Rx p = vnic_lasts m v _
pace_lasts m v side.Tx p = vnic_lasts m v _
pace_lasts m v side.Io p = kind_lasts m v _ (vsic_at m v)

posted_lasts : (m : Machine) (v frame : List ℕ) (o : Option ℕ) → Lasts m (posted_at m v frame o)
posted_lasts m v frame None = lasts_itself m
posted_lasts m v frame (Some s) = vnic_lasts m v _

lasts_rows : RowWalk Lasts
lasts_rows = record {
  walk = lasts_walk;
  created = λ m l o free fresh. new_lasts m l o;
  vnic = λ m v f rx tx posts. vnic_lasts m v f;
  paces = λ m v q o. pace_lasts m v q (pace_of m o);
  socket = λ m k f. kind_lasts m k (λ x. Objects.socket (f x)) (socket_at m k);
  delivers = λ m v d. each_lasts m (delivered v d);
  sends = posted_lasts;
  looks = λ m d c is. object_lasts m d (Objects.door no_rings);
}

-- Frames that go out and that arrive.

tx_ended_lasts : (m : Machine) (v : List ℕ) (x : Vnic) (p : Place) (ps : List (Place × ℕ)) (o : Outcome) → Lasts m (tx_ended m v x p ps o)
tx_ended_lasts m v x p ps o = lasts_then (vnic_lasts m v (tx_ending p ps o)) (rung_lasts (with_vnic m v (tx_ending p ps o)) x.tx_door bell.Tx)

frame_lasts : (m : Machine) (v : List ℕ) (x : Vnic) (own : Option Own) (p : Place) (len : ℕ) (ps : List (Place × ℕ)) (frame : List ℕ) → Lasts m (frame_moves m v x own p len ps frame).machine
frame_lasts m v x own p len ps frame = by (is_let_out m v own frame) (is_over_burst x.tx_pace len) (may_pass x.tx_pace m.now len)
  where
    pace : Option Paced
    pace = passed m.now len x.tx_pace

    gone : Move
    gone = record { machine = tx_ended (with_vnic m v (tx_passed pace)) v x p ps outcome.Ok; said = said.Sent; bytes = frame; calls = [] }

    by : (a b c : Bool) → Lasts m (cond (not a) (moves (tx_ended m v x p ps outcome.NoFilter) (said.Done outcome.NoFilter) [])
        (cond b (moves (tx_ended m v x p ps outcome.OverBurst) (said.Done outcome.OverBurst) []) (cond (not c) (moves m said.Held []) gone))).machine
    by false b c = tx_ended_lasts m v x p ps outcome.NoFilter
    by true true c = tx_ended_lasts m v x p ps outcome.OverBurst
    by true false false = lasts_itself m
    by true false true = lasts_then (vnic_lasts m v (tx_passed pace)) (tx_ended_lasts (with_vnic m v (tx_passed pace)) v x p ps outcome.Ok)

card_moves_lasts : (m : Machine) (v : List ℕ) (g : Given) (o : Option Vnic) → Lasts m (card_moves m v g o).machine
card_moves_lasts m v g None = (move_goes Lasts lasts_walk m v (first_end g.ended)).goes
card_moves_lasts m v g (Some x) = by x.tx.posted
  where
    by : (ps : List (Place × ℕ)) → Lasts m (tx_moves m v x g.own ps).machine
    by [] = lasts_itself m
    by (p ∷ ps) = frame_lasts m v x g.own p.0 p.1 ps (take p.1 (bytes_in m p.0))

with_frame_lasts : (m : Machine) (p : Place) (frame : List ℕ) → Lasts m (with_frame m p frame)
with_frame_lasts m (Objects.named b) frame = buffer_lasts m b _
with_frame_lasts m (Objects.taken b) frame = lasts_itself m

received_lasts : (m : Machine) (v : List ℕ) (x : Vnic) (p : Place) (ps : List Place) (frame : List ℕ) → Lasts m (received m v x p ps frame)
received_lasts m v x p ps frame =
    let pace : Option Paced = passed m.now (length frame) x.rx_pace in
    let one : Machine = with_vnic (with_frame m p frame) v (rx_passed pace) in
    lasts_then (with_frame_lasts m p frame) (lasts_then (vnic_lasts (with_frame m p frame) v (rx_passed pace))
    (lasts_then (vnic_lasts one v (rx_ending (filled_place p frame) ps (length frame))) (rung_lasts (with_vnic one v (rx_ending (filled_place p frame) ps (length frame))) x.rx_door bell.Rx)))

arrival_lasts : (a : List ℕ) (m : Machine) (v : List ℕ) (x : Vnic) (ps : List Place) (frame : List ℕ) → Lasts m (arrival a m v x ps frame).machine
arrival_lasts a m v x [] frame = lasts_itself m
arrival_lasts a m v x (p ∷ ps) frame = by (nat_lt (length (bytes_in m p)) (length frame)) (may_pass x.rx_pace m.now (length frame))
  where
    by : (b c : Bool) → Lasts m (cond b (says m (said.DroppedTooLong a v)) (cond (not c) (says m (said.DroppedThrottled a v)) (says (received m v x p ps frame) (said.Delivered a v)))).machine
    by true c = lasts_itself m
    by false false = lasts_itself m
    by false true = received_lasts m v x p ps frame

pub arrive_lasts : (a : List ℕ) (m : Machine) (v frame : List ℕ) → Lasts m (arrive a m v frame).machine
arrive_lasts a m v frame = by (vnic_at m v)
  where
    by : (o : Option Vnic) → Lasts m (unwrap_or (option_map (λ x. arrival a m v x x.rx.posted frame) o) (says m said.DroppedNoFilter)).machine
    by None = lasts_itself m
    by (Some x) = arrival_lasts a m v x x.rx.posted frame

-- Rows.

answer_lasts : (m : Machine) (c : Conditions) (row : Row) → Lasts m row.machine → Lasts m (answer m c row).machine
unfolding answer
answer_lasts m c row h = by (early c) (late c)
  where
    by : (one two : Option Refusal) → Lasts m (unless_refused one two m row).machine
    by (Some x) two = lasts_itself m
    by None None = h
    by None (Some y) = h

-- the words that take an object away, or change a filter
abbrev pub gives_away : Line → Bool
gives_away (w.filter a f rule) = true
gives_away (w.assign a v f) = true
gives_away (w.drop a x) = true
gives_away (w.free a b) = true
gives_away _ = false

pub row_lasts : (m : Machine) (line : Line) (g : Given) → gives_away line ≡ false → Lasts m (step m line g).machine
unfolding step
row_lasts m (w.filter a f rule) g h = absurd (false≢true (sym h))
row_lasts m (w.assign a v f) g h = absurd (false≢true (sym h))
row_lasts m (w.drop a x) g h = absurd (false≢true (sym h))
row_lasts m (w.free a b) g h = absurd (false≢true (sym h))
row_lasts m (w.app a frames) g h = answer_lasts m _ _ (record { still = λ l k is. is })
row_lasts m (w.vnic a v rx tx) g h = answer_lasts m _ _ (new_lasts m v _)
row_lasts m (w.send a v b len) g h = answer_lasts m _ _ (vnic_lasts m v _)
row_lasts m (w.dev a v) g h = answer_lasts m _ _ (card_moves_lasts m v g _)
row_lasts m line g h = row_goes Lasts lasts_rows m line g refl

-- what is under another label than that of a buffer that is freed
pub free_lasts : (m : Machine) (a b : List ℕ) (g : Given) (l : List ℕ) (k : ℕ) → (is_none (buffer_at m b) ≡ false → bytes_eq l b ≡ false) → number_at m l ≡ Some k → number_at (step m (w.free a b) g).machine l ≡ Some k
unfolding step answer
free_lasts m a b g l k apart is = by (early c) (late c) refl
  where
    c : Conditions
    c = record none { no_application = not m.made; no_grant = missing m (b ∷ []); wrong_kind = is_none (buffer_at m b); lent = is_lent m b }

    by : (one two : Option Refusal) → early c ≡ one → number_at (unless_refused one two m (says (without m b) said.Ok)).machine l ≡ Some k
    by (Some x) two e = is
    by None None e = without_number l b m.held (apart (kind_and_limit c e).0) ∙ is
    by None (Some y) e = without_number l b m.held (apart (kind_and_limit c e).0) ∙ is

-- Filters.

-- a filter that m holds under a label is the same one in n, assigned to the card that it was assigned to, or to none
pub record FilterLasts (m n : Machine) (l : List ℕ) (f : Filter) (c : Option (List ℕ)) (k : ℕ) : Type 0 where
  pub card : Option (List ℕ)
  pub object : object_at n l ≡ Some (Objects.filter f card)
  pub number : number_at n l ≡ Some k
  pub same : (v : List ℕ) → card ≡ Some v → c ≡ Some v

held_filter : (o : Option Object) (f : Filter) (c : Option (List ℕ)) → option_and_then as_assigned o ≡ Some (f, c) → o ≡ Some (Objects.filter f c)
held_filter None f c h = absurd cc
held_filter (Some (Objects.filter x y)) f c h =
    let same : (x, y) ≡ (f, c) = same_Some (x, y) (f, c) h in
    let one : x ≡ f = ap (λ (p : Filter × Option (List ℕ)). p.0) same in
    let two : y ≡ c = ap (λ (p : Filter × Option (List ℕ)). p.1) same in rw (one, two) refl
held_filter (Some _) f c h = absurd cc

no_buffer : (m : Machine) (l b : List ℕ) (f : Filter) (c : Option (List ℕ)) → object_at m l ≡ Some (Objects.filter f c) → is_none (buffer_at m b) ≡ false → bytes_eq l b ≡ false
no_buffer m l b f c is some = by (bytes_eq l b) refl
  where
    by : (t : Bool) → bytes_eq l b ≡ t → bytes_eq l b ≡ false
    by false e = e
    by true e = absurd (false≢true (sym some ∙ ap (λ (q : Option Object). is_none (option_and_then as_buffer q)) (ap (λ z. object_at m z) (sym (same_bytes l b e)) ∙ is)))

module _ (m : Machine) (g : Given) (l : List ℕ) (f : Filter) (c : Option (List ℕ)) (k : ℕ) (is : object_at m l ≡ Some (Objects.filter f c)) (number : number_at m l ≡ Some k) where
  its_number : (line : Line) → changes_list line ≡ false → number_at (step m line g).machine l ≡ Some k
  its_number (w.free a b) h = free_lasts m a b g l k (no_buffer m l b f c is) number
  its_number (w.filter a x rule) h = absurd (false≢true (sym h))
  its_number (w.assign a v x) h = absurd (false≢true (sym h))
  its_number (w.drop a x) h = absurd (false≢true (sym h))
  its_number line h = (row_lasts m line g refl).still l k number

  -- the words that change no filter
  pub filter_lasts : (line : Line) → changes_list line ≡ false → FilterLasts m (step m line g).machine l f c k
  filter_lasts line h = record {
    card = c;
    object = held_filter (object_at (step m line g).machine l) f c ((row_keeps m line g h).held l ∙ ap (λ q. option_and_then as_assigned q) is);
    number = its_number line h;
    same = λ v e. e;
  }

  -- one arrives at a card
  pub arrive_filter : (a v frame : List ℕ) → FilterLasts m (arrive a m v frame).machine l f c k
  arrive_filter a v frame = record {
    card = c;
    object = held_filter (object_at (arrive a m v frame).machine l) f c ((keeps_of (arrive_sees a m v frame)).held l ∙ ap (λ q. option_and_then as_assigned q) is);
    number = (arrive_lasts a m v frame).still l k number;
    same = λ v e. e;
  }

  -- another object is given up
  module _ (a x : List ℕ) (apart : bytes_eq l x ≡ false) where
    abbrev n : Machine
    n = each_object (lets_go x (serial_at m x)) (without m x)

    lets : object_at n l ≡ Some (Objects.filter f (free_card x c))
    lets = each_found (lets_go x (serial_at m x)) l (without m x).held ∙ ap (λ q. option_map (lets_go x (serial_at m x)) q) (gone_there l x m.held apart ∙ is) ∙ by c
      where
        by : (d : Option (List ℕ)) → Some (lets_go x (serial_at m x) (Objects.filter f d)) ≡ Some (Objects.filter f (free_card x d))
        by None = refl
        by (Some v) = refl

    freed_same : (d : Option (List ℕ)) (v : List ℕ) → free_card x d ≡ Some v → d ≡ Some v
    freed_same None v e = e
    freed_same (Some y) v e = by (bytes_eq x y) e
      where
        by : (t : Bool) → cond t None (Some y) ≡ Some v → Some y ≡ Some v
        by true e = absurd cc
        by false e = e

    left : FilterLasts m n l f c k
    left = record { card = free_card x c; object = lets; number = each_number (lets_go x (serial_at m x)) l (without m x).held ∙ without_number l x m.held apart ∙ number; same = freed_same c }

    went : (b : Bool) → FilterLasts m (synced b n) l f c k
    went false = left
    went true = record {
      card = free_card x c;
      object = each_found settled l n.held ∙ ap (λ q. option_map settled q) lets;
      number = each_number settled l n.held ∙ left.number;
      same = freed_same c;
    }

    itself : FilterLasts m m l f c k
    itself = record { card = c; object = is; number = number; same = λ v e. e }

    pub drop_filter_lasts : FilterLasts m (step m (w.drop a x) g).machine l f c k
    unfolding step answer
    drop_filter_lasts = by (early conditions) (late conditions)
      where
        conditions : Conditions
        conditions = record none { no_application = not m.made; no_grant = missing m (x ∷ []); wrong_kind = is_so is_buffer (object_at m x); table_failed = g.table_failed && is_so is_vsa (object_at m x); busy = is_so (is_in_use m x) (object_at m x); device_fault = has_fault g.ended }

        row : Row
        row = record { machine = synced_by g.ended n; said = said.Ok; bytes = []; calls = cond (is_so is_vsa (object_at m x)) (writes_slot ∷ syncs ∷ []) [] }

        by : (one two : Option Refusal) → FilterLasts m (unless_refused one two m row).machine l f c k
        by (Some y) two = itself
        by None None = went _
        by None (Some y) = went _
