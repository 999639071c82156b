-- A frame that arrives at a network card that an application keeps comes to the row of its machine.
use Rattle.std.proofs.Common.{◌≡◌, inl, inr, ℕ, ◌+◌, ◌≤◌, Bool, true, false, not, List, [], ◌∷◌, length, nat_lt, refl, sym, ◌∙◌, ap, subst, arith, bytes_eq}
use Rattle.std.specs.Prelude.{Option, Some, None, if◌then◌else◌, MatchOption, is_some, option_map, slice_get, unwrap_or}
use Rattle.std.proofs.lemmas.Bool.{cases_eq, false≢true}
use Rattle.std.proofs.lemmas.Bool.Decides.{nat_tests}
use Rattle.ark_base.specs.declared.kind.Outcome.TheVariants as outcome
use Rattle.ark_caps.specs.declared.capability.Capability.{Capability}
use Rattle.ark_region.specs.Frames.{Piece, Space, Wrote}
use Rattle.ark_script.specs.declared.said.Said.TheVariants as said
use Rattle.ark_vic.specs.Queue.{finished}
use Rattle.ark_vic.specs.declared.descriptor.Descriptor.{Descriptor}
use Rattle.ark_vic.specs.declared.door.Bell.TheVariants as bell
use Rattle.ark_vic.specs.declared.door.Counts.{Counts}
use Rattle.ark_vnic.specs.Arrivals.{HoldsFrameIn, arrived_for, room_of}
use Rattle.ark_vnic.specs.Card.{ended, head_of, may_pass}
use Rattle.ark_vnic.specs.declared.arrived.Arrived.{Arrived}
use Rattle.ark_vnic.specs.declared.arrived.Arrived.TheVariants as arrived
use Rattle.ark_machine.specs.Objects
use Rattle.ark_machine.specs.Objects.{Vnic, Place, Buffer, named, taken}
use Rattle.ark_machine.specs.Machine.{Machine, at, bytes_at, with_object, with_vnic}
use Rattle.ark_machine.specs.Network.{arrival, received, rx_ending, rx_passed, with_frame}
use Rattle.ark_machine.specs.Rates as rates
use Rattle.ark_machine.specs.Rates.{passed, rung}
use Rattle.ark_machine.specs.Row.{Row, says}
use Rattle.ark_held.specs.Around.{Around, Each, piece_of}
use Rattle.ark_held.specs.Cards.{HasBuffer}
use Rattle.ark_held.specs.Frames.{said_of}
use Rattle.ark_held.specs.Held.{Holds}
use Rattle.ark_held.specs.Kept.{NetKept}
use Rattle.ark_held.specs.Network.{IsFramePlace, IsReceiving}
use Rattle.ark_held.specs.Ringing.{Sets, RingsFor}
use Rattle.ark_held.proofs.Effects.{at_other, labels_apart}
use Rattle.ark_held.proofs.EndedNet.{receives_frame}
use Rattle.ark_held.proofs.Lists.{by_test}
use Rattle.ark_held.proofs.Named.{NamedBuffer, named_buffer}
use Rattle.ark_held.proofs.NetRows.{with_net_twice}
use Rattle.ark_held.proofs.Netting.{OnNet, on_net}
use Rattle.ark_held.proofs.Paces.{may_same, passed_both, with_passed}
use Rattle.ark_held.proofs.Rewriting.{refilled, with_memory, with_written}

-- what is around the application with this memory, these network cards and doors, and this machine
abbrev pub brought : Around → Space → (ℕ → Option NetKept) → (ℕ → Option Counts) → Machine → Around
brought x memory nets doors m = record x { tables = record x.tables { memory = memory; nets = nets; doors = doors }; machine = m }

-- the card that is kept after a frame of so many bytes
abbrev pub arrived_kept : NetKept → Arrived → ℕ → ℕ → NetKept
arrived_kept k arrived.Into len now = record k { rx = ended k.rx (head_of k.rx) outcome.Ok len; rx_pace = option_map (with_passed len now) k.rx_pace }
arrived_kept k _ len now = k

-- What a frame came to at a kept card, and what became of the memory, the cards and the doors.
pub record WasBrought (x : Around) (key : ℕ) (k : NetKept) (frame : List ℕ) (a : Arrived) (memory : Space) (nets : ℕ → Option NetKept) (doors : ℕ → Option Counts) : Type 0 where
  pub answer : a ≡ arrived_for (head_of k.rx) (option_map (λ z. z.pace) k.rx_pace) (length frame) x.now
  pub sets : Sets key (arrived_kept k a (length frame) x.now) x.tables.nets nets
  pub holds : HoldsFrameIn (head_of k.rx) a frame x.tables.memory memory
  pub rings : RingsFor a k.rx_door x.tables.doors doors

-- The row is answered so, and labels and tables stand for its machine.
pub record Brings (x : Around) (row : Row) (name v : List ℕ) (a : Arrived) (memory : Space) (nets : ℕ → Option NetKept) (doors : ℕ → Option Counts) : Type 0 where
  pub machine : Machine
  pub is : row ≡ says machine (said_of name v a)
  pub holds : Holds (brought x memory nets doors machine)

module _ (x : Around) (v : List ℕ) (c : Capability) (k : NetKept) (net : Vnic) (on : OnNet x v c k net) (bare : k.ports ≡ None) (frame : List ℕ) (a : Arrived) (memory : Space) (nets : ℕ → Option NetKept) (doors : ℕ → Option Counts)
    (w : WasBrought x c.key k frame a memory nets doors) (name : List ℕ) where
  abbrev m : Machine
  m = x.machine

  abbrev len : ℕ
  len = length frame

  abbrev row : Row
  row = arrival name m v net net.rx.posted frame

  abbrev Result : Type 0
  Result = Brings x row name v a memory nets doors

  -- A frame that is dropped changes nothing.

  same_nets : Sets c.key k x.tables.nets nets → nets ≡ x.tables.nets
  same_nets sets = λ i key. at_key key i
    where
      at_key : (key : ℕ) → nets key ≡ x.tables.nets key
      at_key key = elim (cases_eq key c.key) [
        | inl e ↦ ap nets e ∙ sets.here ∙ sym on.was ∙ ap x.tables.nets (sym e)
        | inr other ↦ sets.others key other
      ]

  dropped : memory ≡ x.tables.memory → Sets c.key k x.tables.nets nets → doors ≡ x.tables.doors → row ≡ says m (said_of name v a) → Result
  dropped same sets quiet is = record {
    machine = m;
    is = is;
    holds = subst (λ (z : Space). Holds (brought x z nets doors m)) (sym same)
        (subst (λ (n : ℕ → Option NetKept). Holds (brought x x.tables.memory n doors m)) (sym (same_nets sets))
        (subst (λ (d : ℕ → Option Counts). Holds (brought x x.tables.memory x.tables.nets d m)) (sym quiet) on.holds));
  }

  -- what is left by an answer
  sets_by : (b : Arrived) → a ≡ b → Sets c.key (arrived_kept k b len x.now) x.tables.nets nets
  sets_by b is = subst (λ (z : Arrived). Sets c.key (arrived_kept k z len x.now) x.tables.nets nets) is w.sets

  rings_by : (b : Arrived) → a ≡ b → RingsFor b k.rx_door x.tables.doors doors
  rings_by b is = subst (λ (z : Arrived). RingsFor z k.rx_door x.tables.doors doors) is w.rings

  module _ (head : Option Descriptor) (oldest : head_of k.rx ≡ head) where
    holds_by : (b : Arrived) → a ≡ b → HoldsFrameIn head b frame x.tables.memory memory
    holds_by b is = subst (λ (z : Arrived). HoldsFrameIn head z frame x.tables.memory memory) is (subst (λ (o : Option Descriptor). HoldsFrameIn o a frame x.tables.memory memory) oldest w.holds)

    answer_by : a ≡ arrived_for head (option_map (λ z. z.pace) k.rx_pace) len x.now
    answer_by = w.answer ∙ ap (λ (o : Option Descriptor). arrived_for o (option_map (λ z. z.pace) k.rx_pace) len x.now) oldest

  -- Nothing is posted.
  no_buffer : k.rx.posted ≡ [] → net.rx.posted ≡ [] → Result
  no_buffer posted places =
      let oldest : head_of k.rx ≡ None = ap (λ (zs : List Descriptor). slice_get zs 0) posted in
      let so : a ≡ arrived.NoBuffer = answer_by None oldest in
      dropped (holds_by None oldest arrived.NoBuffer so) (sets_by arrived.NoBuffer so) (rings_by arrived.NoBuffer so)
      (ap (λ (zs : List Place). arrival name m v net zs frame) places ∙ ap (λ (z : Arrived). says m (said_of name v z)) (sym so))

  -- A buffer is posted.
  module _ (d : Descriptor) (ds : List Descriptor) (b : List ℕ) (ps : List Place) (posted : k.rx.posted ≡ d ∷ ds) (places : net.rx.posted ≡ named b ∷ ps) (has : HasBuffer x d.tag d.buf b) where
    abbrev n : NamedBuffer x d.buf b
    n = named_buffer x on.holds d.tag d.buf b has

    oldest : head_of k.rx ≡ Some d
    oldest = ap (λ (zs : List Descriptor). slice_get zs 0) posted

    abbrev is_long : Bool
    is_long = nat_lt (length n.buffer.bytes) len

    abbrev may : Bool
    may = rates.may_pass net.rx_pace x.now len

    abbrev full : Machine
    full = received m v net (named b) ps frame

    answer_is : a ≡ (if is_long then arrived.TooLong else if may then arrived.Into else arrived.Throttled)
    answer_is =
        let room : room_of d ≡ length n.buffer.bytes = ap (λ (o : Option Piece). unwrap_or (option_map (λ p. p.len) o) 0) n.place in
        answer_by (Some d) oldest
        ∙ ap (λ r. if nat_lt r len then arrived.TooLong else if may_pass (option_map (λ z. z.pace) k.rx_pace) len x.now then arrived.Into else arrived.Throttled) room
        ∙ ap (λ t. if is_long then arrived.TooLong else if t then arrived.Into else arrived.Throttled) (may_same x len k.rx_pace net.rx_pace on.fits.rx_pace)

    row_is : row ≡ (if is_long then says m (said.DroppedTooLong name v) else if not may then says m (said.DroppedThrottled name v) else says full (said.Delivered name v))
    row_is =
        let bytes : bytes_at m b ≡ n.buffer.bytes = rw (n.there, n.object) refl in
        ap (λ (zs : List Place). arrival name m v net zs frame) places
        ∙ ap (λ (bs : List ℕ). if nat_lt (length bs) len then says m (said.DroppedTooLong name v) else if not (rates.may_pass net.rx_pace m.now len) then says m (said.DroppedThrottled name v) else says full (said.Delivered name v)) bytes
        ∙ ap (λ t. if is_long then says m (said.DroppedTooLong name v) else if not (rates.may_pass net.rx_pace t len) then says m (said.DroppedThrottled name v) else says full (said.Delivered name v)) on.holds.now

    too_long : is_long ≡ true → Result
    too_long long =
        let so : a ≡ arrived.TooLong = answer_is ∙ ap (λ t. if t then arrived.TooLong else if may then arrived.Into else arrived.Throttled) long in
        dropped (holds_by (Some d) oldest arrived.TooLong so) (sets_by arrived.TooLong so) (rings_by arrived.TooLong so)
        (row_is ∙ ap (λ t. if t then says m (said.DroppedTooLong name v) else if not may then says m (said.DroppedThrottled name v) else says full (said.Delivered name v)) long ∙ ap (λ (z : Arrived). says m (said_of name v z)) (sym so))

    module _ (short : is_long ≡ false) where
      answer_then : a ≡ (if may then arrived.Into else arrived.Throttled)
      answer_then = answer_is ∙ ap (λ t. if t then arrived.TooLong else if may then arrived.Into else arrived.Throttled) short

      row_then : row ≡ (if not may then says m (said.DroppedThrottled name v) else says full (said.Delivered name v))
      row_then = row_is ∙ ap (λ t. if t then says m (said.DroppedTooLong name v) else if not may then says m (said.DroppedThrottled name v) else says full (said.Delivered name v)) short

      throttled : may ≡ false → Result
      throttled wait =
          let so : a ≡ arrived.Throttled = answer_then ∙ ap (λ t. if t then arrived.Into else arrived.Throttled) wait in
          dropped (holds_by (Some d) oldest arrived.Throttled so) (sets_by arrived.Throttled so) (rings_by arrived.Throttled so)
          (row_then ∙ ap (λ t. if not t then says m (said.DroppedThrottled name v) else says full (said.Delivered name v)) wait ∙ ap (λ (z : Arrived). says m (said_of name v z)) (sym so))

      -- It is delivered.
      module _ (passes : may ≡ true) where
        so : a ≡ arrived.Into
        so = answer_then ∙ ap (λ t. if t then arrived.Into else arrived.Throttled) passes

        wrote : Wrote x.tables.memory memory (piece_of n.buffer) 0 frame
        wrote = subst (λ (o : Option Piece). MatchOption o ⊥ (λ p. Wrote x.tables.memory memory p 0 frame)) n.place (holds_by (Some d) oldest arrived.Into so)

        fits : 0 + len ≤ length n.buffer.bytes
        fits = grind (arith, nat_tests, short)

        abbrev x1 : Around
        x1 = with_memory x b n.buffer 0 frame memory

        apart : bytes_eq b v ≡ false
        apart = labels_apart m b v n.held on.held n.there on.there (λ same. buffer_is_no_card n.buffer net (sym n.object ∙ same ∙ on.object))
          where
            buffer_is_no_card : (z : Buffer) (s : Vnic) → Objects.buffer z ≡ Objects.vnic s → ⊥
            buffer_is_no_card z s same = cc (same)

        there : at x1.machine v ≡ Some on.held
        there = at_other m b v (Objects.buffer (with_written n.buffer 0 frame)) apart ∙ on.there

        on_then : OnNet x1 v c k net
        on_then = on_net x1 v c k net on.held (refilled x b n.buffer n.held 0 frame memory fits on.holds n.there n.object wrote) on.named on.kind there on.object on.was

        abbrev card : Vnic
        card = rx_ending (named b) ps len (rx_passed (passed x.now len net.rx_pace) net)

        abbrev last : Machine
        last = rung (with_object x1.machine v (Objects.vnic card)) net.rx_door bell.Rx

        machine_is : full ≡ last
        machine_is =
            let filled : with_frame m (named b) frame ≡ x1.machine = rw (n.there, n.object) refl in
            ap (λ (z : Machine). rung (with_vnic (with_vnic z v (rx_passed (passed m.now len net.rx_pace))) v (rx_ending (named b) ps len)) net.rx_door bell.Rx) filled
            ∙ ap (λ t. rung (with_vnic (with_vnic x1.machine v (rx_passed (passed t len net.rx_pace))) v (rx_ending (named b) ps len)) net.rx_door bell.Rx) on.holds.now
            ∙ ap (λ (z : Machine). rung z net.rx_door bell.Rx) (with_net_twice x1.machine v net on.held there on.object (rx_passed (passed x.now len net.rx_pace)) (rx_ending (named b) ps len))

        sets_then : Sets c.key (record k { rx = finished k.rx d outcome.Ok len; rx_pace = option_map (with_passed len x.now) k.rx_pace }) x.tables.nets nets
        sets_then = subst (λ (o : Option Descriptor). Sets c.key (record k { rx = ended k.rx o outcome.Ok len; rx_pace = option_map (with_passed len x.now) k.rx_pace }) x.tables.nets nets) oldest (sets_by arrived.Into so)

        delivered : Result
        delivered = record {
          machine = last;
          is = row_then ∙ ap (λ t. if not t then says m (said.DroppedThrottled name v) else says full (said.Delivered name v)) passes ∙ ap (λ (z : Machine). says z (said.Delivered name v)) machine_is
              ∙ ap (λ (z : Arrived). says last (said_of name v z)) (sym so);
          holds = receives_frame x1 v c k net on_then d ds b ps posted places len (option_map (with_passed len x.now) k.rx_pace) (passed x.now len net.rx_pace)
              (passed_both x1 len k.rx_pace net.rx_pace on_then.fits.rx_pace passes) nets doors sets_then (rings_by arrived.Into so);
        }

    by_tests : Result
    by_tests = by_test (λ t. is_long ≡ t → Result) is_long (λ yes long. too_long long)
        (λ no short. by_test (λ t. may ≡ t → Result) may (λ yes passes. delivered short passes) (λ no wait. throttled short wait) refl) refl

  place_of : (d : Descriptor) (p : Place) → IsReceiving x k.ports d p → IsFramePlace x k.ports d.tag d.buf p
  place_of d p is = is.1

  by_posted : (ds : List Descriptor) (ps : List Place) → k.rx.posted ≡ ds → net.rx.posted ≡ ps → Each (IsReceiving x k.ports) ds ps → Result
  by_posted [] [] posted places each = no_buffer posted places
  by_posted (d ∷ ds) (named b ∷ ps) posted places each = by_tests d ds b ps posted places (place_of d (named b) each.0)
  by_posted (d ∷ ds) (taken b ∷ ps) posted places each = absurd (false≢true (ap is_some (sym bare) ∙ (place_of d (taken b) each.0).0))
  by_posted [] (p ∷ ps) posted places each = absurd each
  by_posted (d ∷ ds) [] posted places each = absurd each

  -- what becomes of the frame
  pub brings : Result
  brings = by_posted k.rx.posted net.rx.posted refl refl on.fits.rx_posted
