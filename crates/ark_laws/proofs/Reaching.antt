-- Each device call of a line is within what the line may touch, word by word.
use Rattle.std.proofs.Common.{◌≡◌, ℕ, zero, suc, ◌+◌, Bool, true, false, not, List, [], ◌∷◌, ◌++◌, take, drop, map, refl, arith, if◌then◌else◌, ◌&&◌, cond}
use Rattle.std.specs.Prelude.{Option, Some, None, slice_get, Contains, nat_lt, IsTrue}
use Rattle.std.specs.List.{AllByRecursion, range_with_len}
use Rattle.ark_base.specs.declared.kind.Outcome.{Outcome}
use Rattle.ark_base.specs.declared.kind.Outcome.TheVariants as outcome
use Rattle.ark_media.specs.Journal.{Event, Read, Write, Sync, Out}
use Rattle.ark_caladan.specs.Chain.{Log, Opened, Command, Phase, Verb, reading, writing, syncing, commands}
use Rattle.ark_entry.specs.Found.{Found, found, damaged}
use Rattle.ark_script.specs.Line.{Line}
use Rattle.ark_script.specs.declared.said.Said.TheVariants as said
use Rattle.ark_machine.specs.Machine.{Machine, vsic_at, log_at}
use Rattle.ark_machine.specs.Objects.{Vsic, Job, phase}
use Rattle.ark_machine.specs.Row
use Rattle.ark_machine.specs.Row.{Row, Call, Ended, Given, says, unless_refused, synced}
use Rattle.ark_machine.specs.Areas.{grant_calls}
use Rattle.ark_machine.specs.Rates.{is_over_burst, may_pass, passed}
use Rattle.ark_machine.specs.Moves.{Move, moves, move, gated, tried, ends, phase_moves, phase_written, block_passed, block_moved, outcome_of}
use Rattle.ark_machine.specs.Machine.{with_vsic}
use Rattle.ark_machine.specs.Logs.{opening_calls, with_opened}
use Rattle.ark_machine.specs.Polls.{polled, poll_log, poll_opened, poll_oldest, poll_card, phase_ended, next_phase, phases_left, one_done, emptied, unreaped_on, posted_on}
use Rattle.ark_machine.specs.System.{System}
use Rattle.ark_machine.specs.Plane.{blocks_at, asked_blocks}
use Rattle.ark_machine.specs.Follow.{Makes, slots_for}
use Rattle.ark_machine.specs.Confined.{IsAllowed, readable, writable, may_sync}

-- whatever event makes the call is allowed
abbrev pub AllowsCall : System → List ℕ → Line → Call → Type 0
AllowsCall s a line c = (e : Event) → Makes s a line c e → IsAllowed s line e

abbrev pub AllowsAll : System → List ℕ → Line → List Call → Type 0
AllowsAll s a line cs = AllByRecursion (AllowsCall s a line) cs

-- Blocks of areas.

at_contains : (xs : List ℕ) (k n : ℕ) → slice_get xs k ≡ Some n → Contains xs n
at_contains [] k n h = cc
at_contains (x ∷ xs) zero n h = (0, omega arith, cc)
at_contains (x ∷ xs) (suc k) n h =
    let ih : Contains xs n = at_contains xs k n h in (suc ih.0, omega (arith, ih.1), ih.2)

behind_first : (xs : List ℕ) (n : ℕ) → Contains (drop 1 xs) n → Contains xs n
behind_first [] n h = h
behind_first (x ∷ xs) n h = (suc h.0, omega (arith, h.1), h.2)

at_first : (xs : List ℕ) (n : ℕ) → Contains (take 1 xs) n → Contains xs n
at_first [] n h = h
at_first (x ∷ xs) n (zero, lt, is) = (zero, omega arith, is)
at_first (x ∷ xs) n (suc k, lt, is) = absurd (omega (arith, lt))

-- one list has all of another
abbrev pub AreIn : List ℕ → List ℕ → Type 0
AreIn xs ys = (n : ℕ) → Contains xs n → Contains ys n

reads_in : (s : System) (a : List ℕ) (line : Line) (l : List ℕ) → AreIn (blocks_at s.plane a l) (readable s line) → AllowsCall s a line (Row.reads_in l)
reads_in s a line l within (Read n ok) h = within n h
reads_in s a line l within (Write n b took ok) h = absurd h
reads_in s a line l within (Sync ok) h = absurd h
reads_in s a line l within (Out bytes) h = absurd h

pub reads_some : (s : System) (a : List ℕ) (line : Line) (l : List ℕ) → AreIn (blocks_at s.plane a l) (readable s line) → AllowsCall s a line (Row.reads_some l)
reads_some s a line l within (Read n ok) h = within n h
reads_some s a line l within (Write n b took ok) h = absurd h
reads_some s a line l within (Sync ok) h = absurd h
reads_some s a line l within (Out bytes) h = absurd h

pub reads : (s : System) (a : List ℕ) (line : Line) (l : List ℕ) (k : ℕ) → AreIn (blocks_at s.plane a l) (readable s line) → AllowsCall s a line (Row.reads l k)
reads s a line l k within (Read n ok) h = within n (at_contains (blocks_at s.plane a l) k n h)
reads s a line l k within (Write n b took ok) h = absurd h
reads s a line l k within (Sync ok) h = absurd h
reads s a line l k within (Out bytes) h = absurd h

writes_in : (s : System) (a : List ℕ) (line : Line) (l : List ℕ) → AreIn (blocks_at s.plane a l) (writable s line) → AllowsCall s a line (Row.writes_in l)
writes_in s a line l within (Write n b took ok) h = within n h.0
writes_in s a line l within (Read n ok) h = absurd h
writes_in s a line l within (Sync ok) h = absurd h
writes_in s a line l within (Out bytes) h = absurd h

writes_first : (s : System) (a : List ℕ) (line : Line) (l : List ℕ) → AreIn (blocks_at s.plane a l) (writable s line) → AllowsCall s a line (Row.writes_first l)
writes_first s a line l within (Write n b took ok) h = within n (at_first (blocks_at s.plane a l) n h.0)
writes_first s a line l within (Read n ok) h = absurd h
writes_first s a line l within (Sync ok) h = absurd h
writes_first s a line l within (Out bytes) h = absurd h

zeroes_some : (s : System) (a : List ℕ) (line : Line) (l : List ℕ) → AreIn (blocks_at s.plane a l) (writable s line) → AllowsCall s a line (Row.zeroes_some l)
zeroes_some s a line l within (Write n b took ok) h = within n (behind_first (blocks_at s.plane a l) n h.0)
zeroes_some s a line l within (Read n ok) h = absurd h
zeroes_some s a line l within (Sync ok) h = absurd h
zeroes_some s a line l within (Out bytes) h = absurd h

pub writes : (s : System) (a : List ℕ) (line : Line) (l : List ℕ) (k : ℕ) (content : List ℕ) → AreIn (blocks_at s.plane a l) (writable s line) → AllowsCall s a line (Row.writes l k content)
writes s a line l k content within (Write n b took ok) h = within n (at_contains (blocks_at s.plane a l) k n h.0)
writes s a line l k content within (Read n ok) h = absurd h
writes s a line l k content within (Sync ok) h = absurd h
writes s a line l k content within (Out bytes) h = absurd h

pub syncs : (s : System) (a : List ℕ) (line : Line) → IsTrue (may_sync s line) → AllowsCall s a line Row.syncs
syncs s a line may (Sync ok) h = may
syncs s a line may (Read n ok) h = absurd h
syncs s a line may (Write n b took ok) h = absurd h
syncs s a line may (Out bytes) h = absurd h

zeroes_new : (s : System) (a : List ℕ) (line : Line) (k : ℕ) → AreIn (asked_blocks s.plane line) (writable s line) → AllowsCall s a line (Row.zeroes_new k)
zeroes_new s a line k within (Write n b took ok) h = within n (at_contains (asked_blocks s.plane line) k n h.0)
zeroes_new s a line k within (Read n ok) h = absurd h
zeroes_new s a line k within (Sync ok) h = absurd h
zeroes_new s a line k within (Out bytes) h = absurd h

writes_slot : (s : System) (a : List ℕ) (line : Line) → AreIn (slots_for s.plane a line) (writable s line) → AllowsCall s a line Row.writes_slot
writes_slot s a line within (Write n b took ok) h = within n (at_contains (slots_for s.plane a line) 0 n h.0)
writes_slot s a line within (Read n ok) h = absurd h
writes_slot s a line within (Sync ok) h = absurd h
writes_slot s a line within (Out bytes) h = absurd h

all_append : (P : Call → Type 0) (cs ds : List Call) → AllByRecursion P cs → AllByRecursion P ds → AllByRecursion P (cs ++ ds)
all_append P [] ds h k = k
all_append P (c ∷ cs) ds h k = (h.0, all_append P cs ds h.1 k)

-- `vsa` and `grow`
zeroes_all : (s : System) (a : List ℕ) (line : Line) → AreIn (asked_blocks s.plane line) (writable s line) → (ks : List ℕ) → AllowsAll s a line (map Row.zeroes_new ks)
zeroes_all s a line within [] = tt
zeroes_all s a line within (k ∷ ks) = (zeroes_new s a line k within, zeroes_all s a line within ks)

pub grants : (s : System) (a : List ℕ) (line : Line) (n : ℕ) → AreIn (asked_blocks s.plane line) (writable s line) → AreIn (slots_for s.plane a line) (writable s line) → IsTrue (may_sync s line)
    → AllowsAll s a line (grant_calls n)
grants s a line n within slot may =
    all_append (AllowsCall s a line) (map Row.zeroes_new (range_with_len 0 n)) (Row.syncs ∷ Row.writes_slot ∷ Row.syncs ∷ []) (zeroes_all s a line within (range_with_len 0 n))
    (syncs s a line may, (writes_slot s a line slot, (syncs s a line may, tt)))

-- `drop`
pub drops : (s : System) (a : List ℕ) (line : Line) (is_area : Bool) → AreIn (slots_for s.plane a line) (writable s line) → IsTrue (may_sync s line)
    → AllowsAll s a line (if is_area then Row.writes_slot ∷ Row.syncs ∷ [] else [])
drops s a line true slot may = (writes_slot s a line slot, (syncs s a line may, tt))
drops s a line false slot may = tt

-- `log` and `queue`
pub opens : (s : System) (a : List ℕ) (line : Line) (l : List ℕ) (f : Found) → AreIn (blocks_at s.plane a l) (readable s line) → AreIn (blocks_at s.plane a l) (writable s line) → IsTrue (may_sync s line)
    → AllowsAll s a line (opening_calls l f)
opens s a line l (damaged n) r x may = (reads_some s a line l r, tt)
opens s a line l (found es) r x may = (reads_some s a line l r, (syncs s a line may, (zeroes_some s a line l x, (writes_first s a line l x, (syncs s a line may, tt)))))

-- Moves.

pub gated_calls : (P : Call → Type 0) (m : Machine) (v : List ℕ) (x : Vsic) (j : Job) (js : List Job) (bound : Bool) (move : Move) →
    (bound ≡ true → AllByRecursion P move.calls) → AllByRecursion P (gated m v x j js bound move).calls
gated_calls P m v x j js false move some = tt
gated_calls P m v x j js true move some =
    let held : Move = moves m said.Held [] in
    let ended : Move = ends m v x j js outcome.OverBurst [] in
    elim (is_over_burst x.pace 512) as (λ b. AllByRecursion P (cond b ended (cond (not (may_pass x.pace m.now 512)) held move)).calls) [
      | true ↦ tt
      | false ↦ elim (not (may_pass x.pace m.now 512)) as (λ b. AllByRecursion P (cond b held move).calls) [ true ↦ tt | false ↦ some refl ]
    ]

pub tried_calls : (P : Call → Type 0) (now : ℕ) (ok : Bool) (count : ℕ) (m : Machine) (v : List ℕ) (x : Vsic) (j : Job) (js : List Job) (calls : List Call) → AllByRecursion P calls → AllByRecursion P (tried now ok count m v x j js calls).calls
tried_calls P now ok count m v x j js calls h =
    let going : Move = moves (with_vsic m v (block_moved (passed now 512 x.pace))) said.Moved calls in
    let ending : Move = ends (with_vsic m v (block_passed (passed now 512 x.pace))) v x j js (outcome_of ok) calls in
    elim (ok && nat_lt (x.queue.moved + 1) count) as (λ b. AllByRecursion P (cond b going ending).calls) [ true ↦ h | false ↦ h ]

-- a phase of the log at label l
pub phase_calls : (s : System) (a : List ℕ) (line : Line) (l : List ℕ) (verb : Verb) (m : Machine) (v : List ℕ) (x : Vsic) (p : Phase) (js : List Job) (e : Ended)
    → AreIn (blocks_at s.plane a l) (readable s line) → AreIn (blocks_at s.plane a l) (writable s line) → IsTrue (may_sync s line)
    → AllowsAll s a line (phase_moves verb l m v x p js e).calls
phase_calls s a line l syncing m v x p js e r w' may = (syncs s a line may, tt)
phase_calls s a line l reading m v x p js e r w' may =
    gated_calls (AllowsCall s a line) m v x (phase p) js true (tried m.now e.ok p.count m v x (phase p) js (Row.reads_in l ∷ [])) (λ g. tried_calls (AllowsCall s a line) m.now e.ok p.count m v x (phase p) js (Row.reads_in l ∷ []) (reads_in s a line l r, tt))
phase_calls s a line l writing m v x p js e r w' may =
    gated_calls (AllowsCall s a line) m v x (phase p) js true (tried m.now e.ok p.count (phase_written m v p e) v x (phase p) js (Row.writes_in l ∷ []))
    (λ g. tried_calls (AllowsCall s a line) m.now e.ok p.count (phase_written m v p e) v x (phase p) js (Row.writes_in l ∷ []) (writes_in s a line l w', tt))

-- `settle`

abbrev pub IsQuiet : Row → Type 0
IsQuiet r = r.calls ≡ []

next_quiet : (m : Machine) (l : List ℕ) (g : Log) (o : Opened) (c : Command) (ps : List Phase) → IsQuiet (next_phase m l g o c ps).row
next_quiet m l g o c [] = refl
next_quiet m l g o c (p ∷ ps) = refl

ended_quiet : (m : Machine) (l : List ℕ) (g : Log) (o : Opened) (c : Command) (out : Outcome) → IsQuiet (phase_ended m l g o c out).row
ended_quiet m l g o c outcome.Ok = next_quiet (with_opened (with_vsic m o.card emptied) l one_done) l (record g { opened = Some (one_done o) }) (one_done o) c (phases_left g (one_done o) c)
ended_quiet m l g o c outcome.NoGrant = refl
ended_quiet m l g o c outcome.OutOfRange = refl
ended_quiet m l g o c outcome.OverBurst = refl
ended_quiet m l g o c outcome.DeviceFault = refl
ended_quiet m l g o c outcome.NoFilter = refl

card_quiet : (m : Machine) (l : List ℕ) (g : Log) (o : Opened) (c : Command) (us : List (Job × Outcome)) (js : List Job) → IsQuiet (poll_card m l g o c us js).row
card_quiet m l g o c (u ∷ us) js = ended_quiet m l g o c u.1
card_quiet m l g o c [] (j ∷ js) = refl
card_quiet m l g o c [] [] = next_quiet m l g o c (phases_left g o c)

oldest_quiet : (m : Machine) (l : List ℕ) (g : Log) (o : Opened) (cs : List Command) (v : Option Vsic) → IsQuiet (poll_oldest m l g o cs v).row
oldest_quiet m l g o [] v = refl
oldest_quiet m l g o (c ∷ cs) v = card_quiet m l g o c (unreaped_on v) (posted_on v)

opened_quiet : (m : Machine) (l : List ℕ) (g : Log) (o : Option Opened) → IsQuiet (poll_opened m l g o).row
opened_quiet m l g None = refl
opened_quiet m l g (Some o) = oldest_quiet m l g o (commands o) (vsic_at m o.card)

log_quiet : (m : Machine) (l : List ℕ) (g : Option Log) → IsQuiet (poll_log m l g).row
log_quiet m l None = refl
log_quiet m l (Some g) = opened_quiet m l g g.opened

-- a poll calls no device
pub poll_quiet : (m : Machine) (l : List ℕ) → IsQuiet (polled m l).row
poll_quiet m l = log_quiet m l (log_at m l)
