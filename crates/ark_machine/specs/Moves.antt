-- The move of a storage card: its oldest posted descriptor makes its next device call.
use Rattle.std.specs.Prelude.{ℕ, ◌+◌, ◌*◌, Bool, true, false, not, ◌&&◌, List, [], ◌∷◌, ◌++◌, nat_lt, ◌==◌, if◌then◌else◌, Option, Some, None, is_some, option_map, option_and_then, find, unwrap_or, slice_index_or, bytes_eq}
use Rattle.std.specs.List.{list_any}
use Rattle.ark_base.specs.declared.kind.Outcome.{Outcome}
use Rattle.ark_base.specs.declared.kind.Outcome.TheVariants as outcome
use Rattle.ark_vic.specs.declared.door.Bell.TheVariants as bell
use Rattle.ark_caladan.specs.Chain.{Opened, Phase, Verb, reading, writing, syncing}
use Rattle.ark_script.specs.declared.said.Said.{Said}
use Rattle.ark_script.specs.declared.said.Said.TheVariants as said
use Rattle.ark_machine.specs.Bytes.{block_of}
use Rattle.ark_machine.specs.Objects
use Rattle.ark_machine.specs.Objects.{Object, Raw, Vsic, Paced, Job, Transfer, transfer, flush, phase, as_raw}
use Rattle.ark_machine.specs.Machine.{Machine, at_serial, vsic_at, label_numbered, bytes_at, with_vsic, each_object}
use Rattle.ark_machine.specs.Row.{Row, Ended, Call, reads, writes, syncs, reads_in, writes_in, synced}
use Rattle.ark_machine.specs.Control.{is_open_on}
use Rattle.ark_machine.specs.Areas.{raw_written, with_raw}
use Rattle.ark_machine.specs.Buffers.{with_bytes}
use Rattle.ark_machine.specs.Rates.{is_over_burst, may_pass, passed, rung}

-- what a move answers, the machine after it, the bytes that went out, and the device call, if one is made
pub record Move : Type 0 where
  pub machine : Machine
  pub said : Said
  pub bytes : List ℕ
  pub calls : List Call

-- a move that shows no bytes
abbrev pub moves : Machine → Said → List Call → Move
moves m s calls = record { machine = m; said = s; bytes = []; calls = calls }

abbrev pub ending : Job → List Job → Outcome → Vsic → Vsic
ending j js o v = record v { queue = record { posted = js; moved = 0; unreaped = v.queue.unreaped ++ (j, o) ∷ [] } }

-- the descriptor j has ended, with js behind it, and the card's doorbell rings
abbrev pub ended : Machine → List ℕ → Vsic → Job → List Job → Outcome → Machine
ended m v x j js o = rung (with_vsic m v (ending j js o)) x.door bell.Io

abbrev pub ends : Machine → List ℕ → Vsic → Job → List Job → Outcome → List Call → Move
ends m v x j js o calls = moves (ended m v x j js o) (said.Done o) calls

abbrev pub outcome_of : Bool → Outcome
outcome_of true = outcome.Ok
outcome_of false = outcome.DeviceFault

-- a block has passed: with this pace, and where another is due with one more moved
abbrev pub block_passed : Option Paced → Vsic → Vsic
block_passed pace v = record v { pace = pace }

abbrev pub block_moved : Option Paced → Vsic → Vsic
block_moved pace v = record v { pace = pace; queue = record v.queue { moved = v.queue.moved + 1 } }

-- A block of the descriptor was tried at tick `now`, of count in all. It has passed the card's rate. The next one is due where
-- it succeeded; else, and at the last, the descriptor has ended. x is the card as it was.
abbrev pub tried : ℕ → Bool → ℕ → Machine → List ℕ → Vsic → Job → List Job → List Call → Move
tried now ok count m v x j js calls =
    if ok && nat_lt (x.queue.moved + 1) count
    then moves (with_vsic m v (block_moved (passed now 512 x.pace))) said.Moved calls
    else ends (with_vsic m v (block_passed (passed now 512 x.pace))) v x j js (outcome_of ok) calls

-- the first of these that applies to the next block, before it is tried
abbrev pub gated : Machine → List ℕ → Vsic → Job → List Job → Bool → Move → Move
gated m v x j js is_bound move =
    if not is_bound then ends m v x j js outcome.NoGrant []
    else if is_over_burst x.pace 512 then ends m v x j js outcome.OverBurst []
    else if not (may_pass x.pace m.now 512) then moves m said.Held []
    else move

-- Blocks between an area and a buffer.

abbrev pub raw_numbered : Machine → ℕ → Option Raw
raw_numbered m n = option_and_then (λ h. as_raw h.object) (at_serial m n)

-- the area is held still, and bound to the card
abbrev pub is_bound : Machine → Vsic → ℕ → Bool
is_bound m x n = list_any (λ b. b == n) x.bound && is_some (at_serial m n)

-- block k of a transfer was tried: a put writes the buffer's block to the area, a get the area's block to the buffer
abbrev pub transferred : Machine → Transfer → ℕ → Ended → Option Raw → Machine
transferred m t k e None = m
transferred m t k e (Some r) =
    if t.put then with_raw m (label_numbered m t.vsa) (raw_written (t.off + k) (block_of (bytes_at m t.buffer) k) e.took)
    else if e.ok then with_bytes m t.buffer (512 * k) (slice_index_or r.content (t.off + k) [])
    else m

abbrev pub transfer_call : Machine → Transfer → ℕ → Call
transfer_call m t k =
    if t.put then writes (label_numbered m t.vsa) (t.off + k) (block_of (bytes_at m t.buffer) k)
    else reads (label_numbered m t.vsa) (t.off + k)

-- Phases of the log that is open on the card.

-- the label of the log that is open on the card
abbrev pub log_on : Machine → List ℕ → Option (List ℕ)
log_on m v = option_map (λ h. h.label) (find (λ h. is_open_on v h.object) m.held)

abbrev pub decided_on : List ℕ → Bool → Opened → Opened
decided_on v took o = if bytes_eq v o.card then record o { decided = took } else o

-- the write that decides whether a stop finds the log's command was tried
abbrev pub deciding_tried : List ℕ → Bool → Object → Object
deciding_tried v took (Objects.log g) = Objects.log (record g { opened = option_map (decided_on v took) g.opened })
deciding_tried v took o = o

abbrev pub phase_written : Machine → List ℕ → Phase → Ended → Machine
phase_written m v p e = if p.decides then each_object (deciding_tried v e.took) m else m

-- one device call of a phase of the log at label l, by its kind
abbrev pub phase_moves : Verb → List ℕ → Machine → List ℕ → Vsic → Phase → List Job → Ended → Move
phase_moves syncing l m v x p js e = ends (synced e.ok m) v x (phase p) js (outcome_of e.ok) (syncs ∷ [])
phase_moves reading l m v x p js e = gated m v x (phase p) js true (tried m.now e.ok p.count m v x (phase p) js (reads_in l ∷ []))
phase_moves writing l m v x p js e = gated m v x (phase p) js true (tried m.now e.ok p.count (phase_written m v p e) v x (phase p) js (writes_in l ∷ []))

-- a phase is of the log that is open on the card
abbrev pub phase_moves_on : Option (List ℕ) → Machine → List ℕ → Vsic → Phase → List Job → Ended → Move
phase_moves_on None m v x p js e = moves m said.Idle []
phase_moves_on (Some l) m v x p js e = phase_moves p.verb l m v x p js e

-- the move, by what is posted
abbrev pub moved : Machine → List ℕ → Vsic → List Job → Ended → Move
moved m v x [] e = moves m said.Idle []
moved m v x (flush ∷ js) e = ends (synced e.ok m) v x flush js (outcome_of e.ok) (syncs ∷ [])
moved m v x (transfer t ∷ js) e =
    gated m v x (transfer t) js (is_bound m x t.vsa)
    (tried m.now e.ok t.count (transferred m t x.queue.moved e (raw_numbered m t.vsa)) v x (transfer t) js (transfer_call m t x.queue.moved ∷ []))
moved m v x (phase p ∷ js) e = phase_moves_on (log_on m v) m v x p js e

-- a move of the storage card at a label, whose device call, if it makes one, ends so
abbrev pub move : Machine → List ℕ → Ended → Move
move m v e = unwrap_or (option_map (λ x. moved m v x x.queue.posted e) (vsic_at m v)) (moves m said.Idle [])

-- the move of the phase that is posted for the log at label s, on the card of that label
abbrev pub log_moved : List ℕ → Machine → List ℕ → Vsic → List Job → Ended → Move
log_moved s m v x (phase p ∷ js) e = phase_moves p.verb s m v x p js e
log_moved s m v x _ e = moves m said.Idle []

abbrev pub log_move : List ℕ → Machine → List ℕ → Ended → Move
log_move s m v e = unwrap_or (option_map (λ x. log_moved s m v x x.queue.posted e) (vsic_at m v)) (moves m said.Idle [])

-- how the first device call ended; a move that makes no call does not ask
abbrev pub first_end : List Ended → Ended
first_end [] = record { verb = syncing; ok = true; took = true }
first_end (e ∷ es) = e

abbrev pub row_of : Move → Row
row_of x = record { machine = x.machine; said = x.said; bytes = x.bytes; calls = x.calls }
