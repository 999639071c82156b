-- The laws of frames that go out, applied to a worked script.
use Rattle.std.proofs.Common.{◌≡◌, ℕ, false, List, [], ◌∷◌, ◌++◌, length, codes, refl}
use Rattle.std.specs.Prelude.{Some, None}
use Rattle.ark_script.specs.Line as w
use Rattle.ark_script.specs.declared.said.Said.TheVariants as said
use Rattle.ark_machine.specs.Objects.{Paced, Vnic, named, no_queue}
use Rattle.ark_machine.specs.Machine.{vnic_at}
use Rattle.ark_machine.specs.Row.{answer}
use Rattle.ark_machine.specs.Step.{step}
use Rattle.ark_machine.specs.System.{System, Turn, fresh_system, machine_of, line_turn}
use Rattle.ark_machine.specs.Sending.{tx_pace_at}
use Rattle.ark_machine.specs.Follow.{ends_of}
use Rattle.ark_machine.specs.Rates.{passed}
use Rattle.ark_machine.specs.Frames.{LetsOut, FramesThere, IsCounted}
use Rattle.ark_worked.proofs.Playing.{Played, turn_played, played}
use Rattle.ark_worked.proofs.Sending.{paced, sends}
use Rattle.ark_laws.proofs.Sent.{line_sends}
use Rattle.ark_laws.proofs.FramesKept.{fresh_there, line_there}
use Rattle.ark_laws.proofs.Letting.{let_out_by_filter, sent_counted, sent_exactly}
use Rattle.ark_worked.proofs.Labels.{a, n}

-- a frame of 200 bytes waits on a card with a burst of 300
abbrev before : System
before = played (fresh_system 200) (paced ++ (sends (codes "b1") 200 ∷ []))

abbrev goes : Turn
goes = line_turn before (w.dev a n) [] false

pub goes-sent : goes.said ≡ said.Sent
unfolding step answer
goes-sent = refl

abbrev pace : List (ℕ × ℕ) → Paced
pace passes = record { rate = codes "r"; q = 100; burst = 300; passes = passes }

abbrev card : Vnic
card = record {
  rx_size = 2;
  tx_size = 8;
  rx = no_queue;
  tx = record { posted = (named (codes "b1"), 200) ∷ []; moved = 0; unreaped = [] };
  rx_pace = None;
  tx_pace = Some (pace []);
  rx_door = None;
  tx_door = None;
  socketed = false;
}

pub has_card : vnic_at (machine_of before a) n ≡ Some card
unfolding step answer
has_card = refl

pub goes-counted : IsCounted (machine_of before a) n card goes.bytes (machine_of goes.after a)
goes-counted = sent_counted before a n [] false card has_card goes-sent

played_there : (t : System) (ps : List Played) → FramesThere (machine_of t a) → FramesThere (machine_of (played t ps) a)
played_there t [] h = h
played_there t (p ∷ ps) h = played_there (turn_played t p).after ps (line_there t p.0 (ends_of p.1) false a h)

pub goes-counted_exactly : tx_pace_at (machine_of goes.after a) n ≡ passed (machine_of before a).now (length goes.bytes) card.tx_pace
goes-counted_exactly = sent_exactly before a n [] false card (played_there (fresh_system 200) (paced ++ (sends (codes "b1") 200 ∷ [])) (fresh_there 200 a)) has_card goes-sent

pub goes-pace : tx_pace_at (machine_of goes.after a) n ≡ Some (pace ((0, 200) ∷ []))
unfolding step answer
goes-pace = refl

pub goes-let_out : LetsOut before a n goes.bytes
goes-let_out = let_out_by_filter before a n goes.bytes (line_sends before (w.dev a n) [] false goes-sent)

-- all of its bytes went out
pub goes-whole : length goes.bytes ≡ 200
unfolding step answer
goes-whole = refl
