-- What becomes of a log's commands: `poll` and `settle`.
use Rattle.std.specs.Prelude.{ℕ, ◌+◌, Bool, true, false, not, List, [], ◌∷◌, ◌++◌, drop, if◌then◌else◌, Option, Some, None, is_none, option_map, unwrap_or, slice_index_or}
use Rattle.ark_base.specs.Conditions.{none}
use Rattle.ark_base.specs.declared.kind.Kind.{Kind}
use Rattle.ark_base.specs.declared.kind.Kind.TheVariants as kind
use Rattle.ark_base.specs.declared.kind.Outcome.{Outcome}
use Rattle.ark_base.specs.declared.kind.Outcome.TheVariants as outcome
use Rattle.ark_entry.specs.Found.{Entries, found}
use Rattle.ark_caladan.specs.Chain.{Log, Opened, Command, append, trim, pop, Phase, after_command, entries, commands, phases_of}
use Rattle.ark_script.specs.declared.said.Said.{Said}
use Rattle.ark_script.specs.declared.said.Said.TheVariants as said
use Rattle.ark_machine.specs.Objects
use Rattle.ark_machine.specs.Objects.{Vsic, Job, phase, no_queue}
use Rattle.ark_machine.specs.Machine.{Machine, log_at, vsic_at, missing, with_object, with_vsic}
use Rattle.ark_machine.specs.Row.{Row, Given, Ended, Call, says, answer}
use Rattle.ark_machine.specs.Cards.{posting}
use Rattle.ark_machine.specs.Moves.{Move, log_move, first_end, row_of}
use Rattle.ark_machine.specs.Logs.{opened_of, has_failed, with_opened, card_of}

-- One poll.

abbrev pub acked : Kind → Command → Said
acked kind.Queue (append n p) = said.AckedPush n
acked k (append n p) = said.AckedAppend n
acked k (trim n) = said.AckedTrim n
acked k (pop n) = said.AckedPop n

-- the bytes that an acknowledged command gives
abbrev pub popped : Entries → Command → List ℕ
popped l (pop n) = slice_index_or l.payloads 0 []
popped l (append n p) = []
popped l (trim n) = []

abbrev pub oldest_done : Opened → Opened
oldest_done o = record o { waiting = drop 1 o.waiting; done = 0; decided = false }

-- the oldest command is acknowledged: it is applied to the list, and waits no more
abbrev pub acknowledging : Command → Log → Log
acknowledging c g = record g { list = found (after_command (entries g.list) c); opened = option_map oldest_done g.opened }

-- what a poll answers, and whether the card has to move before the next one answers more
pub record Polled : Type 0 where
  pub row : Row
  pub due : Bool

abbrev pub rests : Row → Polled
rests r = record { row = r; due = false }

abbrev pub is_due : Row → Polled
is_due r = record { row = r; due = true }

abbrev pub acknowledged_row : Machine → List ℕ → Log → Command → Row
acknowledged_row m s g c = record { machine = with_object m s (Objects.log (acknowledging c g)); said = acked g.kind c; bytes = popped (entries g.list) c; calls = [] }

-- the next phase is posted, or there is none and the oldest command is acknowledged
abbrev pub next_phase : Machine → List ℕ → Log → Opened → Command → List Phase → Polled
next_phase m s g o c [] = rests (acknowledged_row m s g c)
next_phase m s g o c (p ∷ ps) = is_due (says (with_vsic m o.card (posting (phase p))) said.Posted)

abbrev pub phases_left : Log → Opened → Command → List Phase
phases_left g o c = drop o.done (phases_of (entries g.list) c)

abbrev pub emptied : Vsic → Vsic
emptied v = record v { queue = no_queue }

abbrev pub failing : Opened → Opened
failing o = record o { failed = true }

abbrev pub one_done : Opened → Opened
one_done o = record o { done = o.done + 1 }

-- the phase that was posted has ended, and is reaped
abbrev pub phase_ended : Machine → List ℕ → Log → Opened → Command → Outcome → Polled
phase_ended m s g o c outcome.Ok =
    next_phase (with_opened (with_vsic m o.card emptied) s one_done) s (record g { opened = Some (one_done o) }) (one_done o) c (phases_left g (one_done o) c)
phase_ended m s g o c e = rests (says (with_opened (with_vsic m o.card emptied) s failing) (said.Failed e))

-- by what is unreaped and posted on the card
abbrev pub poll_card : Machine → List ℕ → Log → Opened → Command → List (Job × Outcome) → List Job → Polled
poll_card m s g o c (u ∷ us) js = phase_ended m s g o c u.1
poll_card m s g o c [] (j ∷ js) = is_due (says m said.Nothing)
poll_card m s g o c [] [] = next_phase m s g o c (phases_left g o c)

abbrev pub unreaped_on : Option Vsic → List (Job × Outcome)
unreaped_on v = unwrap_or (option_map (λ x. x.queue.unreaped) v) []

abbrev pub posted_on : Option Vsic → List Job
posted_on v = unwrap_or (option_map (λ x. x.queue.posted) v) []

abbrev pub poll_oldest : Machine → List ℕ → Log → Opened → List Command → Option Vsic → Polled
poll_oldest m s g o [] v = rests (says m said.Nothing)
poll_oldest m s g o (c ∷ cs) v = poll_card m s g o c (unreaped_on v) (posted_on v)

abbrev pub poll_opened : Machine → List ℕ → Log → Option Opened → Polled
poll_opened m s g None = rests (says m said.Nothing)
poll_opened m s g (Some o) = poll_oldest m s g o (commands o) (vsic_at m o.card)

abbrev pub poll_log : Machine → List ℕ → Option Log → Polled
poll_log m s None = rests (says m said.Nothing)
poll_log m s (Some g) = poll_opened m s g g.opened

-- one poll of the log or queue at a label
abbrev pub polled : Machine → List ℕ → Polled
polled m s = poll_log m s (log_at m s)

-- `poll A s`
abbrev pub poll : Machine → List ℕ → Given → Row
poll m s g =
    answer m
    (record none {
      no_application = not m.made;
      no_grant = missing m (s ∷ []);
      wrong_kind = is_none (opened_of (log_at m s));
      log_failed = has_failed (opened_of (log_at m s));
    })
    (polled m s).row

-- Settling: polls, and a move of the card wherever one is due.

abbrev pub with_calls : List Call → Row → Row
with_calls calls r = record r { calls = calls ++ r.calls }

abbrev pub is_held : Said → Bool
is_held said.Held = true
is_held _ = false

-- a move of the log's own phase
abbrev pub settle_move : Machine → List ℕ → Ended → Move
settle_move m s e = log_move s m (card_of m s) e

-- what settling comes to before its next device call: it stops with a row, or the card makes the call from this machine
pub data Next : Type 0 where
  stops : Row → Next
  calls_on : Machine → Next

-- A move that makes no call is held, or has ended its descriptor, so that the next poll fails.
abbrev pub without_call : List ℕ → Machine → Move → Next
without_call s m x = if is_held x.said then stops (says m said.OkHeld) else stops (polled x.machine s).row

abbrev pub by_calls : List ℕ → Machine → Move → List Call → Next
by_calls s m x [] = without_call s m x
by_calls s m x (c ∷ cs) = calls_on m

abbrev pub due_move : List ℕ → Machine → Move → Next
due_move s m x = by_calls s m x x.calls

abbrev pub next_of : List ℕ → Polled → Next
next_of s p = if p.due then due_move s p.row.machine (settle_move p.row.machine s (first_end [])) else stops p.row

abbrev pub next_call : Machine → List ℕ → Next
next_call m s = next_of s (polled m s)

-- with no further outcome, the next call is the last that is known
abbrev pub settle_end : List ℕ → Next → Row
settle_end s (stops row) = row
settle_end s (calls_on m) = row_of (settle_move m s (first_end []))

-- one outcome for each device call, in order
abbrev pub settling : List Ended → List ℕ → Next → Row
settling [] s n = settle_end s n
settling (e ∷ es) s (stops row) = row
settling (e ∷ es) s (calls_on m) = with_calls (settle_move m s e).calls (settling es s (next_call (settle_move m s e).machine s))

-- `settle A s`
abbrev pub settle : Machine → List ℕ → Given → Row
settle m s g =
    answer m
    (record none {
      no_application = not m.made;
      no_grant = missing m (s ∷ []);
      wrong_kind = is_none (opened_of (log_at m s));
      log_failed = has_failed (opened_of (log_at m s));
    })
    (settling g.ended s (next_call m s))
