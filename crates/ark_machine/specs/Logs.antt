-- Logs and queues: `log`, `queue`, `append`, `push`, `trim`, `pop`, `walk`, `close`.
use Rattle.std.specs.Prelude.{ℕ, ◌+◌, ◌-◌, ◌^◌, Bool, true, false, not, ◌&&◌, ◌||◌, List, [], ◌∷◌, ◌++◌, length, take, nat_le, nat_lt, ◌==◌, if◌then◌else◌, Option, Some, None, is_some, is_none, option_map, option_and_then, unwrap_or, slice_get, sum_by}
use Rattle.ark_base.specs.Conditions.{none}
use Rattle.ark_base.specs.declared.kind.Kind.{Kind}
use Rattle.ark_base.specs.declared.kind.Kind.TheVariants as kind
use Rattle.ark_entry.specs.Entry.{entry_blocks}
use Rattle.ark_entry.specs.Found.{Entries, Found, found, damaged}
use Rattle.ark_caladan.specs.Chain.{Log, Opened, Command, append, trim, pop, after_all, next_number, entries, commands, stored, in_progress}
use Rattle.ark_script.specs.declared.said.Said.TheVariants as said
use Rattle.ark_machine.specs.Bytes.{Frames}
use Rattle.ark_machine.specs.Objects.{held_in}
use Rattle.ark_machine.specs.Machine.{Machine, log_at, vsic_at, serial_at, missing, with_log, with_vsic, room_for}
use Rattle.ark_machine.specs.Row.{Row, Given, Call, syncs, reads_some, zeroes_some, writes_first, says, answer, has_fault, synced_by}
use Rattle.ark_machine.specs.Control.{has_log}
use Rattle.ark_machine.specs.Cards.{bound_with, bound_without}

abbrev pub same_kind : Kind → Kind → Bool
same_kind kind.Raw kind.Raw = true
same_kind kind.Log kind.Log = true
same_kind kind.Queue kind.Queue = true
same_kind _ _ = false

abbrev pub of_kind : Kind → Log → Option Log
of_kind k g = if same_kind g.kind k then Some g else None

-- the log or queue of this kind at a label
abbrev pub chain_at : Machine → List ℕ → Kind → Option Log
chain_at m s k = option_and_then (of_kind k) (log_at m s)

abbrev pub opened_of : Option Log → Option Opened
opened_of g = option_and_then (λ x. x.opened) g

-- the same where it is open
abbrev pub opened_at : Machine → List ℕ → Kind → Option Opened
opened_at m s k = opened_of (chain_at m s k)

-- an open log with another state of its opening
abbrev pub with_opened : Machine → List ℕ → (Opened → Opened) → Machine
with_opened m s f = with_log m s (λ g. record g { opened = option_map f g.opened })

-- Opening.

-- what stands on the device, by what the machine knows
abbrev pub found_in : Option Log → Found
found_in g = unwrap_or (option_map stored g) (damaged 0)

abbrev pub damage_of : Found → Option ℕ
damage_of (found l) = None
damage_of (damaged n) = Some n

-- what is stored becomes the acknowledged list, and a command that was left over has ended
abbrev pub opening : List ℕ → Option ℕ → Log → Log
opening v (Some start) g = record g {
  list = stored g;
  left = None;
  opened = Some (record { card = v; failed = false; header_frame = start; waiting = []; done = 0; decided = false });
}
opening v None g = g

-- the reads; then, where the list is not damaged, a sync, zeros to ring blocks, the header to the first block, a sync
abbrev pub opening_calls : List ℕ → Found → List Call
opening_calls s (damaged n) = reads_some s ∷ []
opening_calls s (found l) = reads_some s ∷ syncs ∷ zeroes_some s ∷ writes_first s ∷ syncs ∷ []

-- a log is open on the card, or a descriptor is in its ring
abbrev pub is_card_busy : Machine → List ℕ → Bool
is_card_busy m v = has_log m v || unwrap_or (option_map (λ x. nat_lt 0 (held_in x.queue)) (vsic_at m v)) false

-- open on the card, and bound there
abbrev pub opened_on : Machine → List ℕ → List ℕ → Machine
opened_on m s v = with_vsic (with_log m s (opening v (room_for m 1))) v (bound_with (serial_at m s))

-- not opened where a call failed; as it was where the list is damaged
abbrev pub opened_machine : Machine → List ℕ → List ℕ → Given → Machine
opened_machine m s v g =
    if has_fault g.ended then synced_by g.ended m
    else if is_some (damage_of (found_in (log_at m s))) then m
    else synced_by g.ended (opened_on m s v)

abbrev pub found_entries : Machine → List ℕ → Entries
found_entries m s = entries (found_in (log_at m s))

-- `log A s v` and `queue A s v`: opens the log or queue on the card, and binds it there
abbrev pub open_row : Kind → Machine → List ℕ → List ℕ → Given → Row
open_row k m s v g =
    answer m
    (record none {
      no_application = not m.made;
      no_grant = missing m (s ∷ v ∷ []);
      wrong_kind = is_none (chain_at m s k) || is_none (vsic_at m v);
      busy = is_some (opened_of (log_at m s)) || is_card_busy m v;
      no_buffer = is_none (room_for m 1);
      no_memory = g.no_memory;
      device_fault = has_fault g.ended;
      damaged = damage_of (found_in (log_at m s));
    })
    (record {
      machine = opened_machine m s v g;
      said = said.Pair (found_entries m s).first (length (found_entries m s).payloads);
      bytes = [];
      calls = opening_calls s (found_in (log_at m s));
    })

-- Commands.

abbrev pub has_failed : Option Opened → Bool
has_failed o = unwrap_or (option_map (λ x. x.failed) o) false

-- no more commands wait for one log
abbrev pub max_waiting : ℕ
max_waiting = 8

abbrev pub is_crowded : Option Opened → Bool
is_crowded o = unwrap_or (option_map (λ x. nat_le max_waiting (length x.waiting)) o) false

abbrev pub waiting_of : Option Opened → List Command
waiting_of o = unwrap_or (option_map (λ x. commands x) o) []

abbrev pub acknowledged : Option Log → Entries
acknowledged g = unwrap_or (option_map (λ x. entries x.list) g) (record { first = 1; payloads = [] })

-- the list after all commands that wait
abbrev pub coming : Machine → List ℕ → Entries
coming m s = after_all (acknowledged (log_at m s)) (waiting_of (opened_of (log_at m s)))

abbrev pub payload_blocks : List ℕ → ℕ
payload_blocks p = entry_blocks (length p)

abbrev pub append_blocks : Command → ℕ
append_blocks (append n p) = payload_blocks p
append_blocks (trim n) = 0
append_blocks (pop n) = 0

-- the blocks of entries that are not dropped yet, and of appends that wait
abbrev pub used_blocks : Machine → List ℕ → ℕ
used_blocks m s = sum_by payload_blocks (acknowledged (log_at m s)).payloads + sum_by append_blocks (waiting_of (opened_of (log_at m s)))

-- all blocks but the header's
abbrev pub ring_blocks : Machine → List ℕ → ℕ
ring_blocks m s = unwrap_or (option_map (λ g. g.blocks - 1) (log_at m s)) 0

-- the number of no entry is greater
abbrev pub max_number : ℕ
max_number = 2 ^ 62

abbrev pub waits : Command → List Frames → Opened → Opened
waits c room o = record o { waiting = o.waiting ++ (record { command = c; room = room }) ∷ [] }

-- so many frames at this place, if there is one
abbrev pub frames_at : Option ℕ → ℕ → List Frames
frames_at (Some start) n = (start, n) ∷ []
frames_at None n = []

-- a command waits, with room for so many blocks of its entry
abbrev pub with_waiting : Machine → List ℕ → Command → ℕ → Machine
with_waiting m s c blocks = with_opened m s (waits c (frames_at (room_for m blocks) blocks))

-- `append A s HEX0` and `push A s HEX0`
abbrev pub append_row : Kind → Machine → List ℕ → List ℕ → Given → Row
append_row k m s payload g =
    answer m
    (record none {
      no_application = not m.made;
      no_grant = missing m (s ∷ []);
      wrong_kind = is_none (opened_at m s k);
      log_failed = has_failed (opened_at m s k);
      busy = is_crowded (opened_at m s k);
      log_full = nat_lt (ring_blocks m s) (used_blocks m s + payload_blocks payload) || nat_lt max_number (next_number (coming m s));
      no_buffer = is_none (room_for m (payload_blocks payload));
    })
    (says (with_waiting m s (append (next_number (coming m s)) payload) (payload_blocks payload)) (said.Num (next_number (coming m s))))

-- `trim A s N`: drops the entries below N
abbrev pub trim_row : Machine → List ℕ → ℕ → Given → Row
trim_row m s n g =
    answer m
    (record none {
      no_application = not m.made;
      no_grant = missing m (s ∷ []);
      wrong_kind = is_none (opened_at m s kind.Log);
      log_failed = has_failed (opened_at m s kind.Log);
      busy = is_crowded (opened_at m s kind.Log);
      no_entry = nat_le n (coming m s).first || nat_lt (next_number (coming m s)) n;
    })
    (says (with_opened m s (waits (trim n) [])) said.Ok)

-- the blocks of the entry that the next pop drops
abbrev pub pop_blocks : Machine → List ℕ → ℕ
pop_blocks m s = sum_by payload_blocks (take 1 (coming m s).payloads)

-- `pop A s`: drops the first entry, and gives it when it is acknowledged
abbrev pub pop_row : Machine → List ℕ → Given → Row
pop_row m s g =
    answer m
    (record none {
      no_application = not m.made;
      no_grant = missing m (s ∷ []);
      wrong_kind = is_none (opened_at m s kind.Queue);
      log_failed = has_failed (opened_at m s kind.Queue);
      busy = is_crowded (opened_at m s kind.Queue);
      no_entry = length (coming m s).payloads == 0;
      no_buffer = is_none (room_for m (pop_blocks m s));
    })
    (says (with_waiting m s (pop (coming m s).first) (pop_blocks m s)) (said.Num (coming m s).first))

abbrev pub entry_numbered : Entries → ℕ → Option (List ℕ)
entry_numbered l n = if nat_le l.first n then slice_get l.payloads (n - l.first) else None

-- `walk A s N`: shows an acknowledged entry that no waiting command drops
abbrev pub walk : Machine → List ℕ → ℕ → Given → Row
walk m s n g =
    answer m
    (record none {
      no_application = not m.made;
      no_grant = missing m (s ∷ []);
      wrong_kind = is_none (opened_of (log_at m s));
      log_failed = has_failed (opened_of (log_at m s));
      no_entry = is_none (entry_numbered (acknowledged (log_at m s)) n) || nat_lt n (coming m s).first;
      device_fault = has_fault g.ended;
    })
    (record { machine = m; said = said.Bytes; bytes = unwrap_or (entry_numbered (acknowledged (log_at m s)) n) []; calls = reads_some s ∷ [] })

-- Closing.

-- the label of the card that it is open on
abbrev pub card_of : Machine → List ℕ → List ℕ
card_of m s = unwrap_or (option_map (λ o. o.card) (opened_of (log_at m s))) []

-- of a failed log the oldest command is left over; the others are dropped
abbrev pub closing : Log → Log
closing g = record g { left = in_progress g; opened = None }

-- it has not failed, and a command waits
abbrev pub is_waiting : Option Opened → Bool
is_waiting o = unwrap_or (option_map (λ x. not x.failed && nat_lt 0 (length x.waiting)) o) false

-- `close A s`
abbrev pub close : Machine → List ℕ → Given → Row
close m s g =
    answer m
    (record none {
      no_application = not m.made;
      no_grant = missing m (s ∷ []);
      wrong_kind = is_none (opened_of (log_at m s));
      busy = is_waiting (opened_of (log_at m s));
    })
    (says (with_vsic (with_log m s closing) (card_of m s) (bound_without (serial_at m s))) said.Ok)
