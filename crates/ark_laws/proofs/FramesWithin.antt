-- A frame that a reply shows is let out or in, within the rate of its card's queue.
use Rattle.std.proofs.Common.{◌≡◌, ◌≤◌, ℕ, Bool, true, false, ◌&&◌, List, [], ◌∷◌, ◌++◌, length, refl, sym, ◌∙◌, ap, subst, arith, cond}
use Rattle.std.proofs.lemmas.Bool.{and_parts, false≢true}
use Rattle.std.specs.Prelude.{Option, Some, None, is_some, option_and_then, find, unwrap_or, Ok, Err}
use Rattle.ark_base.specs.declared.refusal.Refusal.TheVariants as r
use Rattle.ark_filters.specs.In.{is_in}
use Rattle.ark_media.specs.Journal.{Event, output_of, device_events}
use Rattle.ark_packet.specs.declared.own.Own.{Own}
use Rattle.ark_vic.proofs.PaceLemmas.{kept_law}
use Rattle.ark_script.specs.Line as w
use Rattle.ark_script.specs.Line.{Line}
use Rattle.ark_script.specs.Lines.{Meaning}
use Rattle.ark_script.specs.Text.{text}
use Rattle.ark_script.specs.declared.said.Said.{Said}
use Rattle.ark_script.specs.declared.said.Said.TheVariants as said
use Rattle.ark_machine.specs.Objects.{Paced, Vnic}
use Rattle.ark_machine.specs.Machine.{Machine, vnic_at}
use Rattle.ark_machine.specs.Row.{Ended}
use Rattle.ark_machine.specs.Rates.{passed}
use Rattle.ark_machine.specs.Plane.{LiveFilter, is_receive, recorded}
use Rattle.ark_machine.specs.Network.{arrive}
use Rattle.ark_machine.specs.System.{System, machine_of, takes, quiet_turn, line_turn, arrival_turn}
use Rattle.ark_machine.specs.Built.{turn, is_built}
use Rattle.ark_machine.specs.Follow.{ends_of}
use Rattle.ark_machine.specs.Replies.{turn_for, has_lacked, Answers}
use Rattle.ark_machine.specs.Sending.{KeepsWith, tx_pace_at, rx_pace_at, FrameWithin, IsLetOut, IsPacedOut, SendsWithin, SendsFront, IsLetIn, IsDelivered, DeliversWithin, DeliversFront}
use Rattle.ark_machine.specs.Frames.{IsCounted}
use Rattle.ark_machine.specs.Paced.{IsPacedAt, MachinePacedAt, StandsPaced}
use Rattle.ark_laws.proofs.Paced.{VnicPaced, vnic_at_paced}
use Rattle.ark_laws.proofs.Rows.{row_is, within_of, arrive_is}
use Rattle.ark_laws.proofs.Letting.{sent_counted, sends_by_card}
use Rattle.ark_laws.proofs.Sent.{machine_paced, line_sends, line_paced}
use Rattle.ark_laws.proofs.Texts.{sent_letter, text_sent, delivered_letters, text_delivered}
use Rattle.ark_laws.proofs.Turns.{each_turn, quiet_not_delivered}

-- Frames that go out.

-- fewer bytes may pass where more may
fewer : (t n k : ℕ) (p : Option Paced) → IsPacedAt t p → k ≤ n → KeepsWith p ((t, n) ∷ []) → KeepsWith p ((t, k) ∷ [])
fewer t n k None paced le h = tt
fewer t n k (Some p) paced le h =
    let fits = ((kept_law p.q p.burst t n p.passes paced.1).0 h).1 in
    (kept_law p.q p.burst t k p.passes paced.1).1 (paced.0, omega (arith, le, fits))

tx_paced : (t : ℕ) (m : Machine) (v : List ℕ) → MachinePacedAt t m → IsPacedAt t (tx_pace_at m v)
tx_paced t m v h = by (vnic_at m v) (vnic_at_paced t m v h)
  where
    by : (o : Option Vnic) → VnicPaced t o → IsPacedAt t (option_and_then (λ x. x.tx_pace) o)
    by None q = tt
    by (Some x) q = q.1

card_paced_out : (s : System) (a v : List ℕ) (ends : List Ended) (memory : Bool) → StandsPaced s → (line_turn s (w.dev a v) ends memory).said ≡ said.Sent
    → FrameWithin (tx_pace_at (machine_of s a) v) s.now (line_turn s (w.dev a v) ends memory).bytes
card_paced_out s a v ends memory paced h =
    let m : Machine = machine_of s a in
    let card = sends_by_card a v m (recorded s.plane (w.dev a v) ends memory) h in
    let c : IsCounted m v card.0 (line_turn s (w.dev a v) ends memory).bytes (machine_of (line_turn s (w.dev a v) ends memory).after a) = sent_counted s a v ends memory card.0 card.1 h in
    let at : tx_pace_at m v ≡ card.0.tx_pace = ap (λ o. option_and_then (λ (y : Vnic). y.tx_pace) o) card.1 in
    let mine : MachinePacedAt s.now m = machine_paced s a paced in
    let later : MachinePacedAt s.now (machine_of (line_turn s (w.dev a v) ends memory).after a) = machine_paced (line_turn s (w.dev a v) ends memory).after a (line_paced s (w.dev a v) ends memory paced) in
    let counted : IsPacedAt s.now (passed s.now c.len card.0.tx_pace) = subst (λ n. IsPacedAt s.now (passed n c.len card.0.tx_pace)) mine.0 (subst (λ p. IsPacedAt s.now p) c.pace (tx_paced s.now (machine_of (line_turn s (w.dev a v) ends memory).after a) v later)) in
    subst (λ p. FrameWithin p s.now (line_turn s (w.dev a v) ends memory).bytes) (sym at)
    (fewer s.now c.len (length (line_turn s (w.dev a v) ends memory).bytes) card.0.tx_pace (subst (λ p. IsPacedAt s.now p) at (tx_paced s.now m v mine)) c.within (within_of s.now c.len card.0.tx_pace counted))

-- a frame that goes out is within the rate of its card's transmit queue
pub line_paced_out : (s : System) (line : Line) (ends : List Ended) (memory : Bool) → StandsPaced s → (line_turn s line ends memory).said ≡ said.Sent → IsPacedOut s (Ok line) (line_turn s line ends memory).bytes
line_paced_out s (w.dev a v) ends memory paced h = card_paced_out s a v ends memory paced h
line_paced_out s line ends memory paced h = line_sends s line ends memory h

-- Frames that come in.

find_takes : (own : Own) (frame : List ℕ) (fs : List LiveFilter) (f : LiveFilter) → find (λ g. takes own frame g) fs ≡ Some f → takes own frame f ≡ true
find_takes own frame [] f h = absurd cc
find_takes own frame (g ∷ gs) f h = by (takes own frame g) refl h (λ e. find_takes own frame gs f e)
  where
    the_filter : (x y : LiveFilter) → ◌≡◌ {A = Option LiveFilter} (Some x) (Some y) → x ≡ y
    the_filter x y e = cc

    by : (b : Bool) → takes own frame g ≡ b → cond b (Some g) (find (λ x. takes own frame x) gs) ≡ Some f → (find (λ x. takes own frame x) gs ≡ Some f → takes own frame f ≡ true) → takes own frame f ≡ true
    by true is e next = subst (λ x. takes own frame x ≡ true) (the_filter g f e) is
    by false is e next = next e

card_is : (o : Option (List ℕ)) → is_some o ≡ true → o ≡ Some (unwrap_or o [])
card_is None h = absurd (false≢true h)
card_is (Some v) h = refl

arrival_delivered : (s : System) (frame : List ℕ) (own : Own) (f : LiveFilter) → StandsPaced s → s.plane.own ≡ Some own → find (λ f. takes own frame f) s.plane.filters ≡ Some f
    → (b u : List ℕ) → (arrival_turn s f.owner (arrive f.owner (machine_of s f.owner) (unwrap_or f.card []) frame)).said ≡ said.Delivered b u → IsLetIn s b u frame
arrival_delivered s frame own f paced addressed is b u h =
    let a : List ℕ = f.owner in
    let v : List ℕ = unwrap_or f.card [] in
    let row = arrive_is a (machine_of s a) v frame in
    let d = row.delivered s.now b u (machine_paced s a paced) h in
    let parts = and_parts (is_receive f.rule.direction) (is_some f.card && is_in f.rule frame own) (find_takes own frame s.plane.filters f is) in
    record {
      filter = f;
      takes = rw addressed is;
      owner = sym d.0;
      card = card_is f.card (and_parts (is_some f.card) (is_in f.rule frame own) parts.1).0 ∙ ap (λ (x : List ℕ). Some x) (sym d.1);
      paced = subst (λ x. FrameWithin (rx_pace_at (machine_of s x) u) s.now frame) (sym d.0) (subst (λ x. FrameWithin (rx_pace_at (machine_of s a) x) s.now frame) (sym d.1) d.2);
    }

-- a frame that is delivered is let in
pub line_delivered : (s : System) (line : Line) (ends : List Ended) (memory : Bool) → StandsPaced s → (b u : List ℕ) → (line_turn s line ends memory).said ≡ said.Delivered b u → IsDelivered s (Ok line) b u
line_delivered s line ends memory paced b u = each_turn (λ t. t.said ≡ said.Delivered b u → IsDelivered s (Ok line) b u) s line ends memory (record {
  own = λ a is h. absurd ((row_is (machine_of s a) line (recorded s.plane line ends memory)).undelivered b u h);
  ticks = λ n is h. absurd cc;
  given = λ own is h. absurd cc;
  arrives = λ frame own f is addressed found h. subst (λ (x : Line). IsDelivered s (Ok x) b u) (sym is) (arrival_delivered s frame own f paced addressed found b u h);
  quiet = λ reply q h. absurd (quiet_not_delivered reply b u q h);
})

-- The program's turns.

turn_sends : (s : System) (m : Meaning) (ends : List Ended) (memory : Bool) → StandsPaced s → (turn s m ends memory).said ≡ said.Sent
    → IsLetOut s m (turn s m ends memory).bytes × IsPacedOut s m (turn s m ends memory).bytes
turn_sends s (Err x) ends memory paced h = absurd cc
turn_sends s (Ok line) ends memory paced h = by (is_built line) h
  where
    by : (b : Bool) → (cond b (line_turn s line ends memory) (quiet_turn s (said.Refused r.UnknownWord))).said ≡ said.Sent
        → IsLetOut s (Ok line) (cond b (line_turn s line ends memory) (quiet_turn s (said.Refused r.UnknownWord))).bytes
        × IsPacedOut s (Ok line) (cond b (line_turn s line ends memory) (quiet_turn s (said.Refused r.UnknownWord))).bytes
    by true g = (line_sends s line ends memory g, line_paced_out s line ends memory paced g)
    by false g = absurd cc

turn_delivers : (s : System) (m : Meaning) (ends : List Ended) (memory : Bool) → StandsPaced s → (b u : List ℕ) → (turn s m ends memory).said ≡ said.Delivered b u → IsDelivered s m b u
turn_delivers s (Err x) ends memory paced b u h = absurd cc
turn_delivers s (Ok line) ends memory paced b u h = by (is_built line) h
  where
    by : (t : Bool) → (cond t (line_turn s line ends memory) (quiet_turn s (said.Refused r.UnknownWord))).said ≡ said.Delivered b u → IsDelivered s (Ok line) b u
    by true g = line_delivered s line ends memory paced b u g
    by false g = absurd cc

sent_of : (s : System) (m : Meaning) (x : Said) (bytes output : List ℕ) → (x ≡ said.Sent → IsLetOut s m bytes × IsPacedOut s m bytes) → output ≡ text x bytes → SendsWithin s m output
sent_of s m x bytes output lets is frame h =
    let sent : x ≡ said.Sent = text_sent x bytes frame (sym is ∙ h) in
    (bytes, is ∙ ap (λ (y : Said). text y bytes) sent, (lets sent).0, (lets sent).1)

pub sends_within : (s : System) (m : Meaning) (part : List Event) → StandsPaced s → Answers s m part → SendsWithin s m (output_of part)
sends_within s m part paced h =
    sent_of s m (turn_for s m part).said (turn_for s m part).bytes (output_of part) (turn_sends s m (ends_of (device_events part)) (has_lacked part) paced) h.output

delivered_of : (s : System) (m : Meaning) (x : Said) (bytes output : List ℕ) → ((b u : List ℕ) → x ≡ said.Delivered b u → IsDelivered s m b u) → output ≡ text x bytes → DeliversWithin s m output
delivered_of s m x bytes output lets is a v h =
    let d = text_delivered x bytes a v (sym is ∙ h) in
    (d.0, d.1, is ∙ ap (λ (y : Said). text y bytes) d.2, lets d.0 d.1 d.2)

pub delivers_within : (s : System) (m : Meaning) (part : List Event) → StandsPaced s → Answers s m part → DeliversWithin s m (output_of part)
delivers_within s m part paced h =
    delivered_of s m (turn_for s m part).said (turn_for s m part).bytes (output_of part) (turn_delivers s m (ends_of (device_events part)) (has_lacked part) paced) h.output

-- A reply's line of which the first bytes came out.

sent_front : (s : System) (m : Meaning) (x : Said) (bytes output more : List ℕ) → (x ≡ said.Sent → IsLetOut s m bytes × IsPacedOut s m bytes) → text x bytes ≡ output ++ more → SendsFront s m output
sent_front s m x bytes output more lets is rest begins =
    let sent : x ≡ said.Sent = sent_letter x bytes _ (is ∙ ap (λ (o : List ℕ). o ++ more) begins) in
    (bytes, more, ap (λ (y : Said). text y bytes) (sym sent) ∙ is, (lets sent).0, (lets sent).1)

pub sends_front : (s : System) (m : Meaning) (ends : List Ended) (memory : Bool) (output more : List ℕ) → StandsPaced s → text (turn s m ends memory).said (turn s m ends memory).bytes ≡ output ++ more → SendsFront s m output
sends_front s m ends memory output more paced is = sent_front s m (turn s m ends memory).said (turn s m ends memory).bytes output more (turn_sends s m ends memory paced) is

delivered_front : (s : System) (m : Meaning) (x : Said) (bytes output more : List ℕ) → ((b u : List ℕ) → x ≡ said.Delivered b u → IsDelivered s m b u) → text x bytes ≡ output ++ more → DeliversFront s m output
delivered_front s m x bytes output more lets is rest begins =
    let d = delivered_letters x bytes _ (is ∙ ap (λ (o : List ℕ). o ++ more) begins) in
    (d.0, d.1, more, ap (λ (y : Said). text y bytes) (sym d.2) ∙ is, lets d.0 d.1 d.2)

pub delivers_front : (s : System) (m : Meaning) (ends : List Ended) (memory : Bool) (output more : List ℕ) → StandsPaced s → text (turn s m ends memory).said (turn s m ends memory).bytes ≡ output ++ more → DeliversFront s m output
delivers_front s m ends memory output more paced is = delivered_front s m (turn s m ends memory).said (turn s m ends memory).bytes output more (turn_delivers s m ends memory paced) is
