-- The rows of the words that give a log a command.
use Rattle.std.proofs.Common.{◌≡◌, ◌⊎◌, inl, inr, ℕ, ◌+◌, ◌-◌, ◌*◌, ◌/◌, ◌^◌, ◌<◌, ◌≤◌, Bool, true, false, ◌||◌, List, [], ◌∷◌, ◌++◌, drop, length, replicate, take, refl, sym, ◌∙◌, ap, subst, arith, nat_eq}
use Rattle.std.specs.Prelude.{◌==◌, if◌then◌else◌, Option, Some, None, Result, Ok, Err, is_none, is_ok, nat_le, nat_lt, option_and_then, slice_get, slice_index_or}
use Rattle.std.specs.Map.{lookup}
use Rattle.std.specs.List.{AllByRecursion}
use Rattle.std.proofs.lemmas.Bool.{cases_lt, false≢true}
use Rattle.std.proofs.Math.Seq.{take-append_seam}
use Rattle.std.proofs.lemmas.Bool.Decides.{nat_tests}
use Rattle.ark_base.specs.Conditions.{early}
use Rattle.ark_base.specs.declared.kind.Kind.{Kind}
use Rattle.ark_base.specs.declared.kind.Kind.TheVariants as kind
use Rattle.ark_base.specs.declared.refusal.Refusal.{Refusal}
use Rattle.ark_base.specs.declared.refusal.Refusal.TheVariants as r
use Rattle.ark_media.specs.Calls.{Told}
use Rattle.ark_script.specs.declared.said.Said.TheVariants as said
use Rattle.ark_region.specs.Frames.{Apart, Covers, Piece, Space, bytes_of, frames_of, put}
use Rattle.ark_entry.specs.Entry.{entry_blocks}
use Rattle.ark_caladan.specs.Chain as log
use Rattle.ark_caladan.specs.Chain.{Log}
use Rattle.ark_log.specs.Buffers.{IsNewBuffer}
use Rattle.ark_log.specs.declared.command.ChainRefusal.{ChainRefusal}
use Rattle.ark_log.specs.declared.command.ChainRefusal.TheVariants.{Failed, Busy, LogFull, NoEntry, NoBuffer}
use Rattle.ark_log.specs.declared.command.Command.TheVariants.{Append, Trim, Pop}
use Rattle.ark_log.specs.declared.command.Waiting.{Waiting}
use Rattle.ark_log.specs.Open.{IsRight, OpenChain}
use Rattle.ark_log.specs.Refused.{IsNoEntry, IsNoPop, IsNoRoom, IsRefused, length_of, next_number}
use Rattle.ark_log.specs.Waits.{waits, with_buffer}
use Rattle.ark_log.proofs.Turns.{next_to_pop, none_to_pop, right_adds, right_waits}
use Rattle.ark_running.specs.Accepted.{with_one_more, with_opened}
use Rattle.ark_running.specs.Buffers.{pieces_of}
use Rattle.ark_running.specs.Running.{IsRunning}
use Rattle.ark_running.proofs.Commanding as running
use Rattle.ark_machine.specs.Bytes.{Frames}
use Rattle.ark_machine.specs.Objects
use Rattle.ark_machine.specs.Machine.{Machine, log_at, room_for, with_object}
use Rattle.ark_machine.specs.Logs as rows
use Rattle.ark_machine.specs.Logs.{coming, frames_at, has_failed, is_crowded, of_kind, opened_at, opened_of, payload_blocks, pop_blocks, same_kind, with_waiting}
use Rattle.ark_machine.specs.Row.{Row, Given, says}
use Rattle.ark_held.specs.Accepting.{HasAppended, HasPopped, HasTrimmed}
use Rattle.ark_held.specs.Beyond.{Beyond, around}
use Rattle.ark_held.specs.Closing.{IsOpenAt, OfLogAt}
use Rattle.ark_held.specs.Words.{AreaList}
use Rattle.ark_held.specs.Does.{Acts}
use Rattle.ark_held.specs.Held.{Holds}
use Rattle.ark_held.specs.Totals.{bit, covers}
use Rattle.ark_held.specs.declared.app.App.{App}
use Rattle.ark_held.specs.declared.areas.Area.{Area}
use Rattle.ark_held.specs.declared.card.StorageCard.{StorageCard}
use Rattle.ark_held.proofs.Besides.{same_history}
use Rattle.ark_held.proofs.Doing.{comes}
use Rattle.ark_held.proofs.Lists.{le_true, le_false, lt_true, lt_false, plus_zero}
use Rattle.ark_held.proofs.Logged.{Reaches}
use Rattle.ark_held.proofs.Taking.{taken_bit}
use Rattle.ark_script.specs.Line.{spelled}
use Rattle.ark_own.proofs.OfBytes.{half_digits}
use Rattle.ark_own.proofs.Looked.{Looked, is_there, is_missing}
use Rattle.ark_logs.specs.Finds.{if_of, in_area, of_area, open_of, open_under}
use Rattle.ark_logs.specs.Refused.{refused_by}
use Rattle.ark_logs.specs.declared.finding.OpenAt.{OpenAt}
use Rattle.ark_held.proofs.LogFrames.{count}
use Rattle.ark_logs.proofs.Accepts.{accepted_holds, new_apart}
use Rattle.ark_logs.proofs.OfCommands as of
use Rattle.ark_logs.proofs.OfCommands.{is_full, own_conditions}
use Rattle.ark_logs.proofs.OfLogs.{FoundAs, FoundOpen, found_open, open_there_at}

-- What is found of a log of one kind.

module _ (app : App) (s : List ℕ) (k : Kind) where
  abbrev pub other : Machine → Bool
  other m = is_none (opened_at m s k)

  abbrev pub failed : Machine → Bool
  failed m = has_failed (opened_at m s k)

  abbrev pub busy : Machine → Bool
  busy m = is_crowded (opened_at m s k)

  abbrev pub IsOf : Beyond → OpenAt → Type 0
  IsOf y a = (f : FoundOpen (around y app) app.devices.cards s a) × (same_kind f.both.log.kind k ≡ true)

  abbrev FoundOf : Beyond → Result OpenAt Refusal → Type 0
  FoundOf y (Ok a) = IsOf y a
  FoundOf y (Err e) = Looked {A = OpenAt} y.machine (s ∷ []) (other y.machine) (Err e)

  none_of : (o : Option Log) → opened_of o ≡ None → opened_of (option_and_then (of_kind k) o) ≡ None
  none_of None none = refl
  none_of (Some g) none = by (same_kind g.kind k)
    where
      by : (b : Bool) → opened_of (if b then Some g else None) ≡ None
      by true = none
      by false = refl

  module _ (y : Beyond) (h : Holds (around y app)) (a : OpenAt) (f : FoundOpen (around y app) app.devices.cards s a) where
    wrong : same_kind f.both.log.kind k ≡ false → FoundOf y (Err r.WrongKind)
    wrong differs = let none : opened_at y.machine s k ≡ None = rw (f.both.there_log, f.both.object_log, differs) refl in (is_there y.machine s (ap is_none f.both.there_log), ap is_none none)

    by_kinds : (i j : Kind) → f.both.log.kind ≡ i → same_kind f.both.log.kind k ≡ same_kind i j → FoundOf y (if_of i j a)
    by_kinds kind.Log kind.Log is same = (f, same)
    by_kinds kind.Queue kind.Queue is same = (f, same)
    by_kinds kind.Raw kind.Raw is same = absurd (f.both.log_fits.no_raw is)
    by_kinds kind.Raw kind.Log is same = wrong same
    by_kinds kind.Raw kind.Queue is same = wrong same
    by_kinds kind.Log kind.Raw is same = wrong same
    by_kinds kind.Log kind.Queue is same = wrong same
    by_kinds kind.Queue kind.Raw is same = wrong same
    by_kinds kind.Queue kind.Log is same = wrong same

    in_its_area : FoundOf y (in_area k a (lookup (nat_eq a.grant) app.areas))
    in_its_area =
        let slot = f.both.log_fits.slot in
        let kept = ap (λ n. lookup (nat_eq n) app.areas) (sym f.grant_is) ∙ f.both.log_fits.kept in
        subst (λ (o : Option Area). FoundOf y (in_area k a o)) (sym kept) (by_kinds slot.kind k (sym f.both.log_fits.same_kind) (ap (λ i. same_kind i k) (sym f.both.log_fits.same_kind)))

  found_of : (y : Beyond) → Holds (around y app) → (u : Result OpenAt Refusal) → FoundAs (around y app) app.devices.cards s u → FoundOf y (of_area app.areas k u)
  found_of y h (Ok a) f = in_its_area y h a f
  found_of y h (Err (r.NoGrant l)) f = is_missing y.machine s (ap is_none f.1) ∙ ap Some (sym f.0)
  found_of y h (Err r.WrongKind) f = (is_there y.machine s (ap is_none f.1), ap is_none (none_of (log_at y.machine s) f.2))
  found_of y h (Err _) f = absurd f

  module _ (res : Result OpenAt Refusal) (is : res ≡ open_of app.labels app.areas app.devices.cards k s) where
    pub its_found : (y : Beyond) → Holds (around y app) → FoundOf y res
    its_found y h = subst (λ (z : Result OpenAt Refusal). FoundOf y z) (sym is) (found_of y h (open_under app.labels app.devices.cards s) (found_open y app h s (open_under app.labels app.devices.cards s) refl))

  pub looks : (a : OpenAt) → ((y : Beyond) → Holds (around y app) → IsOf y a) → (y : Beyond) → Holds (around y app) → Looked {A = OpenAt} y.machine (s ∷ []) (other y.machine) (Ok a)
  looks a its y h = let i = its y h in (is_there y.machine s (ap is_none i.0.both.there_log), ap is_none (of.opened_at_is y app h s a i.0 k i.1))

-- what is open as one of its kind is open
under_kind : (k : Kind) (a z : OpenAt) (o : Option Area) → Ok a ≡ in_area k z o → ◌≡◌ {A = Result OpenAt Refusal} (Ok a) (Ok z)
under_kind k a z None is = absurd (false≢true (sym (ap is_ok is)))
under_kind k a z (Some area) is = by area.kind k is
  where
    by : (i j : Kind) → Ok a ≡ if_of i j z → ◌≡◌ {A = Result OpenAt Refusal} (Ok a) (Ok z)
    by kind.Log kind.Log is = is
    by kind.Queue kind.Queue is = is
    by kind.Log kind.Raw is = absurd (false≢true (sym (ap is_ok is)))
    by kind.Log kind.Queue is = absurd (false≢true (sym (ap is_ok is)))
    by kind.Queue kind.Raw is = absurd (false≢true (sym (ap is_ok is)))
    by kind.Queue kind.Log is = absurd (false≢true (sym (ap is_ok is)))
    by kind.Raw kind.Raw is = absurd (false≢true (sym (ap is_ok is)))
    by kind.Raw kind.Log is = absurd (false≢true (sym (ap is_ok is)))
    by kind.Raw kind.Queue is = absurd (false≢true (sym (ap is_ok is)))

under_of : (areas : AreaList) (k : Kind) (a : OpenAt) (u : Result OpenAt Refusal) → Ok a ≡ of_area areas k u → Ok a ≡ u
under_of areas k a (Err e) is = absurd (false≢true (sym (ap is_ok is)))
under_of areas k a (Ok z) is = under_kind k a z (lookup (nat_eq z.grant) areas) is

pub open_of_at : (app : App) (s : List ℕ) (k : Kind) (a : OpenAt) → Ok a ≡ open_of app.labels app.areas app.devices.cards k s → IsOpenAt app.devices.cards a.key
open_of_at app s k a is = open_there_at app.labels app.devices.cards s a (under_of app.areas k a (open_under app.labels app.devices.cards s) is)

-- the bytes that digits spell, read into a room
pub read_is : (digits room now : List ℕ) → length digits ≡ 2 * (length digits / 2) → now ≡ spelled digits ++ drop (length digits / 2) room → take (length digits / 2) now ≡ spelled digits
read_is digits room now even is =
    let long = half_digits digits even in
    ap (λ (xs : List ℕ). take (length digits / 2) xs) is ∙ ap (λ n. take n (spelled digits ++ drop (length digits / 2) room)) (sym long) ∙ take-append_seam (spelled digits) (drop (length digits / 2) room)

-- The first refusal, by what is so of the log.
module _ (failed busy full nothing placeless : Bool) where
  abbrev first : Option Refusal
  first = early (own_conditions failed busy full nothing placeless)

  has_failed_first : failed ≡ true → first ≡ Some r.LogFailed
  has_failed_first p = λ i. early (own_conditions (p i) busy full nothing placeless)

  busy_first : failed ≡ false → busy ≡ true → first ≡ Some r.Busy
  busy_first p q = λ i. early (own_conditions (p i) (q i) full nothing placeless)

  full_first : failed ≡ false → busy ≡ false → full ≡ true → first ≡ Some r.LogFull
  full_first p q u = λ i. early (own_conditions (p i) (q i) (u i) nothing placeless)

  nothing_first : failed ≡ false → busy ≡ false → full ≡ false → nothing ≡ true → first ≡ Some r.NoEntry
  nothing_first p q u v = λ i. early (own_conditions (p i) (q i) (u i) (v i) placeless)

  placeless_first : failed ≡ false → busy ≡ false → full ≡ false → nothing ≡ false → placeless ≡ true → first ≡ Some r.NoBuffer
  placeless_first p q u v w = λ i. early (own_conditions (p i) (q i) (u i) (v i) (w i))

  none_first : failed ≡ false → busy ≡ false → full ≡ false → nothing ≡ false → placeless ≡ false → first ≡ None
  none_first p q u v w = λ i. early (own_conditions (p i) (q i) (u i) (v i) (w i))

not_more : (n m : ℕ) → ((m < n) → ⊥) → n ≤ m
not_more n m never = elim (cases_lt m n) [
  | inl less ↦ absurd (never less)
  | inr more ↦ omega (arith, more)
]

off : (b : Bool) → (b ≡ true → ⊥) → b ≡ false
off true never = absurd (never refl)
off false never = refl

-- The row's machine, where the log is open.
module _ (y : Beyond) (app : App) (s : List ℕ) (a : OpenAt) (f : FoundOpen (around y app) app.devices.cards s a) where
  abbrev machine_with : log.Waiting → Machine
  machine_with c = with_object y.machine s (Objects.log (with_opened f.both.log (with_one_more f.opened c)))

  waits_is : (c : log.Command) (room : List Frames) → rows.with_opened y.machine s (rows.waits c room) ≡ machine_with (record { command = c; room = room })
  waits_is c room = rw (f.both.there_log, f.both.object_log, f.is_open) refl

  waits_at : (c : log.Command) (blocks start : ℕ) → room_for y.machine blocks ≡ Some start → with_waiting y.machine s c blocks ≡ machine_with (record { command = c; room = (start, blocks) ∷ [] })
  waits_at c blocks start place = ap (λ (o : Option ℕ). rows.with_opened y.machine s (rows.waits c (frames_at o blocks))) place ∙ waits_is c ((start, blocks) ∷ [])

-- A new buffer of so many blocks.
module _ (y : Beyond) (app : App) (s : List ℕ) (a : OpenAt) (h : Holds (around y app)) (f : FoundOpen (around y app) app.devices.cards s a) (after : Space) (bytes : List ℕ) (b : Piece) (blocks : ℕ) (long : b.len ≡ 512 * blocks) (made : IsNewBuffer app.store.region after bytes b) where
  abbrev taken : List Bool
  taken = app.store.region.taken

  size : frames_of b.len ≡ blocks
  size = omega (arith, long)

  free : (j : ℕ) → Covers b j → slice_index_or taken j false ≡ false
  free j has = off (slice_index_or taken j false) (made.place.here.free j has.0 has.1)

  fresh : (j : ℕ) → bit (slice_index_or taken j false) + count j ((b.start, blocks) ∷ []) ≡ bit (slice_index_or after.taken j false)
  fresh j =
      let step = taken_bit taken b.start (frames_of b.len) j made.place.here in
      let same : bit (covers j (b.start, frames_of b.len)) ≡ bit (covers j (b.start, blocks)) = ap (λ n. bit (covers j (b.start, n))) size in
      let now : bit (slice_index_or after.taken j false) ≡ bit (slice_index_or (put taken b.start (replicate (frames_of b.len) true)) j false) = ap (λ (bs : List Bool). bit (slice_index_or bs j false)) made.taken in
      omega (arith, step, same, now)

  away : AllByRecursion (Apart b) (pieces_of f.chain)
  away = new_apart y app s a h f b (λ j has. ap bit (free j has))

-- What a word leaves of its application.
module _ (app app1 : App) (buffers : app1.store.buffers ≡ app.store.buffers) (labels : app1.labels ≡ app.labels) (areas : app1.areas ≡ app.areas) (doors : app1.devices.doors ≡ app.devices.doors) (rates : app1.devices.rates ≡ app.devices.rates) (nets : app1.devices.nets ≡ app.devices.nets) (frames : length app1.store.region.taken ≡ length app.store.region.taken) where
  reaches : (y : Beyond) (s : List ℕ) (touched : ℕ → Type 0) → ((p : Piece) → ((j : ℕ) → touched j → Covers p j → ⊥) → bytes_of app1.store.region p ≡ bytes_of app.store.region p) → Reaches y app app1 s y.history touched
  reaches y s touched bytes = record {
    buffers = buffers;
    labels = labels;
    areas = areas;
    doors = doors;
    rates = rates;
    nets = nets;
    base = refl;
    beside = λ l t is there. same_history y.history t.blocks;
    frames = frames;
    bytes = bytes;
  }

-- `append` and `push`.
module _ (t : Told) (app : App) (s : List ℕ) (k : Kind) (payload : List ℕ) where
  abbrev append_row : Machine → Given → Row
  append_row m g = rows.append_row k m s payload g

  abbrev append_rest : Machine → Given → Row
  append_rest m g = says (with_waiting m s (log.append (log.next_number (coming m s)) payload) (payload_blocks payload)) (said.Num (log.next_number (coming m s)))

  abbrev placeless : Machine → Bool
  placeless m = is_none (room_for m (payload_blocks payload))

  abbrev never : Machine → Bool
  never m = false

  pub append_not_open : (e : Refusal) → Err e ≡ open_of app.labels app.areas app.devices.cards k s → Acts t app app append_row [] (said.Refused e) []
  append_not_open e is = of.not_found t app s (other app s k) (failed app s k) (busy app s k) (is_full s payload) never placeless append_row append_rest (λ m g. refl) OpenAt e (its_found app s k (Err e) is)

  module _ (a : OpenAt) (is : Ok a ≡ open_of app.labels app.areas app.devices.cards k s) where
    abbrev its : (y : Beyond) → Holds (around y app) → IsOf app s k y a
    its y h = its_found app s k (Ok a) is y h

    its_log : (P : StorageCard → OpenChain → Type 0) → OfLogAt app.devices.cards a.key P → (y : Beyond) (h : Holds (around y app)) → P (its y h).0.one (its y h).0.chain
    its_log P all y h = all (its y h).0.one (its y h).0.chain (its y h).0.here (its y h).0.its_log

    abbrev blocks : ℕ
    blocks = entry_blocks (length payload)

    some_blocks : 0 < blocks
    some_blocks = omega arith

    append_refused_by : (e : ChainRefusal) → ((y : Beyond) (h : Holds (around y app)) → IsRefused (its y h).0.chain (IsNoRoom (its y h).0.chain app.store.region blocks) e) → (y : Beyond) (h : Holds (around y app))
        → early (own_conditions (failed app s k y.machine) (busy app s k y.machine) (is_full s payload y.machine) false (placeless y.machine)) ≡ Some (refused_by e)
    append_refused_by Failed why y h =
        let f = (its y h).0 in
        has_failed_first (failed app s k y.machine) (busy app s k y.machine) (is_full s payload y.machine) false (placeless y.machine) (of.failed_same y app h s a f k (its y h).1 ∙ why y h)
    append_refused_by Busy why y h =
        let f = (its y h).0 in
        busy_first (failed app s k y.machine) (busy app s k y.machine) (is_full s payload y.machine) false (placeless y.machine) (of.failed_same y app h s a f k (its y h).1 ∙ (why y h).0) (of.crowded_true y app h s a f k (its y h).1 (why y h).1)
    append_refused_by LogFull why y h =
        let f = (its y h).0 in
        full_first (failed app s k y.machine) (busy app s k y.machine) (is_full s payload y.machine) false (placeless y.machine) (of.failed_same y app h s a f k (its y h).1 ∙ (why y h).0.0) (of.crowded_false y app h s a f k (its y h).1 (why y h).0.1) (of.full_true y app h s a f payload (why y h).1)
    append_refused_by NoEntry why y h = absurd (why y h).1
    append_refused_by NoBuffer why y h =
        let f = (its y h).0 in
        placeless_first (failed app s k y.machine) (busy app s k y.machine) (is_full s payload y.machine) false (placeless y.machine) (of.failed_same y app h s a f k (its y h).1 ∙ (why y h).0.0) (of.crowded_false y app h s a f k (its y h).1 (why y h).0.1) (of.full_false y app h s a f payload (why y h).1.0) refl
        (of.unplaced y app h s a f blocks some_blocks (why y h).1.1)

    pub append_refused : (e : ChainRefusal) → OfLogAt app.devices.cards a.key (λ one v. IsRefused v (IsNoRoom v app.store.region blocks) e) → Acts t app app append_row [] (said.Refused (refused_by e)) []
    append_refused e why = of.is_refused t app s (other app s k) (failed app s k) (busy app s k) (is_full s payload) never placeless append_row append_rest (λ m g. refl) (looks app s k a its) (refused_by e)
        (append_refused_by e (λ y h. its_log (λ one v. IsRefused v (IsNoRoom v app.store.region blocks) e) why y h))

    module _ (short : length payload ≤ 32768) (app1 : App) (n : ℕ) (accepts : OfLogAt app.devices.cards a.key (λ one v. HasAppended app.devices.cards app1.devices.cards a.key one v payload app.store.region app1.store.region n))
        (frames : length app1.store.region.taken ≡ length app.store.region.taken) (buffers : app1.store.buffers ≡ app.store.buffers) (labels : app1.labels ≡ app.labels) (areas : app1.areas ≡ app.areas)
        (doors : app1.devices.doors ≡ app.devices.doors) (rates : app1.devices.rates ≡ app.devices.rates) (nets : app1.devices.nets ≡ app.devices.nets) (name : app1.name ≡ app.name) where
      module _ (y : Beyond) (h : Holds (around y app)) where
        abbrev f : FoundOpen (around y app) app.devices.cards s a
        f = (its y h).0

        abbrev got : HasAppended app.devices.cards app1.devices.cards a.key f.one f.chain payload app.store.region app1.store.region n
        got = its_log (λ one v. HasAppended app.devices.cards app1.devices.cards a.key one v payload app.store.region app1.store.region n) accepts y h

        abbrev b : Piece
        b = got.waits.buffer

        abbrev waiting : log.Waiting
        waiting = record { command = log.append (next_number f.chain) payload; room = (b.start, blocks) ∷ [] }

        room_left : (f.chain.used + blocks ≤ f.chain.room) × (next_number f.chain ≤ 2 ^ 62)
        room_left = (not_more (f.chain.used + blocks) f.chain.room (λ over. got.room (inl over)), not_more (next_number f.chain) (2 ^ 62) (λ over. got.room (inr over)))

        right : IsRight got.log
        right = subst IsRight (sym got.waits.waiting)
            (right_adds f.chain (with_buffer (Append (next_number f.chain)) (length payload) b) _ _ (length payload) blocks f.runs.is.right got.admitted.1 refl refl refl short room_left.0 room_left.1 refl (short, (refl, got.waits.len)))

        runs : IsRunning y.history f.both.log_fits.slot.blocks app1.store.region f.one.vsic.ring got.log f.lies (with_opened f.both.log (with_one_more f.opened waiting)) (with_one_more f.opened waiting)
        runs = running.appends y.history f.both.log_fits.slot.blocks app.store.region f.one.vsic.ring f.chain f.lies f.both.log f.opened f.runs got.admitted.0 got.log payload app1.store.region got.waits right short got.room frames
            (away y app s a h f app1.store.region _ b blocks got.waits.len got.waits.made)

        place : room_for y.machine blocks ≡ Some b.start
        place = of.placed y app h s a f blocks b.start b.len some_blocks got.waits.len got.waits.made.place

        free_conditions : early (own_conditions (failed app s k y.machine) (busy app s k y.machine) (is_full s payload y.machine) false (placeless y.machine)) ≡ None
        free_conditions =
            none_first (failed app s k y.machine) (busy app s k y.machine) (is_full s payload y.machine) false (placeless y.machine) (of.failed_same y app h s a f k (its y h).1 ∙ got.admitted.0) (of.crowded_false y app h s a f k (its y h).1 got.admitted.1) (of.full_false y app h s a f payload got.room) refl (ap is_none place)

        rest_is : (g : Given) → append_rest y.machine g ≡ record { machine = machine_with y app s a f waiting; said = said.Num n; bytes = []; calls = [] }
        rest_is g =
            ap (λ i. says (with_waiting y.machine s (log.append i payload) blocks) (said.Num i)) (of.next_same y app h s a f)
            ∙ ap (λ (m : Machine). says m (said.Num (next_number f.chain))) (waits_at y app s a f (log.append (next_number f.chain) payload) blocks b.start place)
            ∙ ap (λ i. says (machine_with y app s a f waiting) (said.Num i)) (sym got.number)

        then_holds : Holds (around (record y { machine = machine_with y app s a f waiting }) app1)
        then_holds = accepted_holds y app s a h f app1 got.log waiting (with_buffer (Append (next_number f.chain)) (length payload) b) (Covers b)
            (reaches app app1 buffers labels areas doors rates nets frames y s (Covers b) (λ p spares. got.waits.made.others p (λ j in_b in_p. spares j in_b in_p))) got.card
            (ap (λ (z : OpenChain). z.grant) got.waits.waiting) (ap (λ (z : OpenChain). z.waiting) got.waits.waiting) (ap (λ (z : OpenChain). z.done) got.waits.waiting) runs
            (free y app s a h f app1.store.region _ b blocks got.waits.len got.waits.made) (fresh y app s a h f app1.store.region _ b blocks got.waits.len got.waits.made)

      pub append_done : Acts t app app1 append_row [] (said.Num n) []
      append_done = comes t app app1 append_row (said.Num n) [] areas name (λ y g sited h. (
        machine_with y app s a (f y h) (waiting y h),
        of.done t app s (other app s k) (failed app s k) (busy app s k) (is_full s payload) never placeless append_row append_rest (λ m g. refl) (looks app s k a its) y g h (free_conditions y h) ∙ rest_is y h g,
        then_holds y h,
      ))

-- `trim`.
module _ (t : Told) (app : App) (s : List ℕ) (n : ℕ) where
  abbrev trim_row : Machine → Given → Row
  trim_row m g = rows.trim_row m s n g

  abbrev trim_rest : Machine → Given → Row
  trim_rest m g = says (rows.with_opened m s (rows.waits (log.trim n) [])) said.Ok

  -- it would drop nothing, or an entry that is not there
  abbrev nothing : Machine → Bool
  nothing m = nat_le n (coming m s).first || nat_lt (log.next_number (coming m s)) n

  abbrev none_of_it : Machine → Bool
  none_of_it m = false

  pub trim_not_open : (e : Refusal) → Err e ≡ open_of app.labels app.areas app.devices.cards kind.Log s → Acts t app app trim_row [] (said.Refused e) []
  trim_not_open e is = of.not_found t app s (other app s kind.Log) (failed app s kind.Log) (busy app s kind.Log) none_of_it nothing none_of_it trim_row trim_rest (λ m g. refl) OpenAt e (its_found app s kind.Log (Err e) is)

  module _ (a : OpenAt) (is : Ok a ≡ open_of app.labels app.areas app.devices.cards kind.Log s) where
    abbrev its_open : (y : Beyond) → Holds (around y app) → IsOf app s kind.Log y a
    its_open y h = its_found app s kind.Log (Ok a) is y h

    of_its : (P : StorageCard → OpenChain → Type 0) → OfLogAt app.devices.cards a.key P → (y : Beyond) (h : Holds (around y app)) → P (its_open y h).0.one (its_open y h).0.chain
    of_its P all y h = all (its_open y h).0.one (its_open y h).0.chain (its_open y h).0.here (its_open y h).0.its_log

    module _ (y : Beyond) (h : Holds (around y app)) where
      abbrev v : OpenChain
      v = (its_open y h).0.chain

      abbrev conditions_are : Option Refusal
      conditions_are = early (own_conditions (failed app s kind.Log y.machine) (busy app s kind.Log y.machine) false (nothing y.machine) false)

      going : v.failed ≡ false → failed app s kind.Log y.machine ≡ false
      going q = of.failed_same y app h s a (its_open y h).0 kind.Log (its_open y h).1 ∙ q

      few : length v.waiting < 8 → busy app s kind.Log y.machine ≡ false
      few q = of.crowded_false y app h s a (its_open y h).0 kind.Log (its_open y h).1 q

      or_yes : (b : Bool) → b || true ≡ true
      or_yes true = refl
      or_yes false = refl

      nothing_there : (n ≤ v.coming) ⊎ (next_number v < n) → nothing y.machine ≡ true
      nothing_there (inl low) = let first = of.first_is y app h s a (its_open y h).0 in ap (λ b. b || nat_lt (log.next_number (coming y.machine s)) n) (le_true n (coming y.machine s).first (omega (arith, first, low)))
      nothing_there (inr high) = let next = of.next_same y app h s a (its_open y h).0 in ap (λ b. nat_le n (coming y.machine s).first || b) (lt_true (log.next_number (coming y.machine s)) n (omega (arith, next, high))) ∙ or_yes (nat_le n (coming y.machine s).first)

      something : v.coming < n → n ≤ next_number v → nothing y.machine ≡ false
      something low high =
          let first = of.first_is y app h s a (its_open y h).0 in
          let next = of.next_same y app h s a (its_open y h).0 in
          ap (λ b. b || nat_lt (log.next_number (coming y.machine s)) n) (le_false n (coming y.machine s).first (omega (arith, first, low))) ∙ lt_false (log.next_number (coming y.machine s)) n (omega (arith, next, high))

      trim_refused_by : (e : ChainRefusal) → IsRefused v (IsNoEntry v n) e → conditions_are ≡ Some (refused_by e)
      trim_refused_by Failed why = has_failed_first (failed app s kind.Log y.machine) (busy app s kind.Log y.machine) false (nothing y.machine) false (of.failed_same y app h s a (its_open y h).0 kind.Log (its_open y h).1 ∙ why)
      trim_refused_by Busy why = busy_first (failed app s kind.Log y.machine) (busy app s kind.Log y.machine) false (nothing y.machine) false (going why.0) (of.crowded_true y app h s a (its_open y h).0 kind.Log (its_open y h).1 why.1)
      trim_refused_by NoEntry why = nothing_first (failed app s kind.Log y.machine) (busy app s kind.Log y.machine) false (nothing y.machine) false (going why.0.0) (few why.0.1) refl (nothing_there why.1)
      trim_refused_by LogFull why = absurd why.1
      trim_refused_by NoBuffer why = absurd why.1

    pub trim_refused : (e : ChainRefusal) → OfLogAt app.devices.cards a.key (λ one v. IsRefused v (IsNoEntry v n) e) → Acts t app app trim_row [] (said.Refused (refused_by e)) []
    trim_refused e why = of.is_refused t app s (other app s kind.Log) (failed app s kind.Log) (busy app s kind.Log) none_of_it nothing none_of_it trim_row trim_rest (λ m g. refl) (looks app s kind.Log a its_open) (refused_by e)
        (λ y h. trim_refused_by y h e (of_its (λ one v. IsRefused v (IsNoEntry v n) e) why y h))

    module _ (app1 : App) (accepts : OfLogAt app.devices.cards a.key (λ one v. HasTrimmed app.devices.cards app1.devices.cards a.key one v n)) (region : app1.store.region ≡ app.store.region) (buffers : app1.store.buffers ≡ app.store.buffers)
        (labels : app1.labels ≡ app.labels) (areas : app1.areas ≡ app.areas) (doors : app1.devices.doors ≡ app.devices.doors) (rates : app1.devices.rates ≡ app.devices.rates) (nets : app1.devices.nets ≡ app.devices.nets) (name : app1.name ≡ app.name) where
      module _ (y : Beyond) (h : Holds (around y app)) where
        abbrev g : FoundOpen (around y app) app.devices.cards s a
        g = (its_open y h).0

        abbrev has : HasTrimmed app.devices.cards app1.devices.cards a.key g.one g.chain n
        has = of_its (λ one v. HasTrimmed app.devices.cards app1.devices.cards a.key one v n) accepts y h

        abbrev behind : Waiting
        behind = record { command = Trim n; len = 0; start = 0; buf = None }

        abbrev trims : log.Waiting
        trims = record { command = log.trim n; room = [] }

        right_then : IsRight (waits g.chain behind n)
        right_then = right_waits g.chain behind (g.chain.waiting ++ behind ∷ []) n g.runs.is.right has.admitted.1 refl (has.some, has.there) refl refl (omega arith, tt)

        runs_then : IsRunning y.history g.both.log_fits.slot.blocks app1.store.region g.one.vsic.ring (waits g.chain behind n) g.lies (with_opened g.both.log (with_one_more g.opened trims)) (with_one_more g.opened trims)
        runs_then = subst (λ (z : Space). IsRunning y.history g.both.log_fits.slot.blocks z g.one.vsic.ring (waits g.chain behind n) g.lies (with_opened g.both.log (with_one_more g.opened trims)) (with_one_more g.opened trims)) (sym region)
            (running.trims y.history g.both.log_fits.slot.blocks app.store.region g.one.vsic.ring g.chain g.lies g.both.log g.opened g.runs has.admitted.0 n right_then has.some has.there)

        trimmed_holds : Holds (around (record y { machine = machine_with y app s a g trims }) app1)
        trimmed_holds = accepted_holds y app s a h g app1 (waits g.chain behind n) trims behind (λ j. ⊥)
            (reaches app app1 buffers labels areas doors rates nets (ap (λ (z : Space). length z.taken) region) y s (λ j. ⊥) (λ p spares. ap (λ (z : Space). bytes_of z p) region)) has.card
            refl refl refl runs_then (λ j no. absurd no)
            (λ j. plus_zero (bit (slice_index_or app.store.region.taken j false)) ∙ ap (λ (z : Space). bit (slice_index_or z.taken j false)) (sym region))

      pub trim_done : Acts t app app1 trim_row [] said.Ok []
      trim_done = comes t app app1 trim_row said.Ok [] areas name (λ y i sited h. (
        machine_with y app s a (g y h) (trims y h),
        of.done t app s (other app s kind.Log) (failed app s kind.Log) (busy app s kind.Log) none_of_it nothing none_of_it trim_row trim_rest (λ m j. refl) (looks app s kind.Log a its_open) y i h
            (none_first (failed app s kind.Log y.machine) (busy app s kind.Log y.machine) false (nothing y.machine) false (going y h (has y h).admitted.0) (few y h (has y h).admitted.1) refl (something y h (has y h).some (has y h).there) refl)
            ∙ ap (λ (m : Machine). says m said.Ok) (waits_is y app s a (g y h) (log.trim n) []),
        trimmed_holds y h,
      ))

-- `pop`.
module _ (t : Told) (app : App) (s : List ℕ) where
  abbrev pop_row : Machine → Given → Row
  pop_row m g = rows.pop_row m s g

  abbrev pop_rest : Machine → Given → Row
  pop_rest m g = says (with_waiting m s (log.pop (coming m s).first) (pop_blocks m s)) (said.Num (coming m s).first)

  abbrev no_entry : Machine → Bool
  no_entry m = length (coming m s).payloads == 0

  abbrev no_place : Machine → Bool
  no_place m = is_none (room_for m (pop_blocks m s))

  abbrev not_asked : Machine → Bool
  not_asked m = false

  pub pop_not_open : (e : Refusal) → Err e ≡ open_of app.labels app.areas app.devices.cards kind.Queue s → Acts t app app pop_row [] (said.Refused e) []
  pop_not_open e is = of.not_found t app s (other app s kind.Queue) (failed app s kind.Queue) (busy app s kind.Queue) not_asked no_entry no_place pop_row pop_rest (λ m g. refl) OpenAt e (its_found app s kind.Queue (Err e) is)

  module _ (a : OpenAt) (is : Ok a ≡ open_of app.labels app.areas app.devices.cards kind.Queue s) where
    abbrev its_queue : (y : Beyond) → Holds (around y app) → IsOf app s kind.Queue y a
    its_queue y h = its_found app s kind.Queue (Ok a) is y h

    of_queue : (P : StorageCard → OpenChain → Type 0) → OfLogAt app.devices.cards a.key P → (y : Beyond) (h : Holds (around y app)) → P (its_queue y h).0.one (its_queue y h).0.chain
    of_queue P all y h = all (its_queue y h).0.one (its_queue y h).0.chain (its_queue y h).0.here (its_queue y h).0.its_log

    module _ (y : Beyond) (h : Holds (around y app)) where
      abbrev u : OpenChain
      u = (its_queue y h).0.chain

      abbrev len : ℕ
      len = length_of u u.coming

      goes : u.failed ≡ false → failed app s kind.Queue y.machine ≡ false
      goes q = of.failed_same y app h s a (its_queue y h).0 kind.Queue (its_queue y h).1 ∙ q

      not_crowded : length u.waiting < 8 → busy app s kind.Queue y.machine ≡ false
      not_crowded q = of.crowded_false y app h s a (its_queue y h).0 kind.Queue (its_queue y h).1 q

      empty_there : u.coming ≡ next_number u → no_entry y.machine ≡ true
      empty_there none = let many = of.many_is y app h s a (its_queue y h).0 in grind (arith, nat_tests, many, none)

      entry_there : u.coming < next_number u → no_entry y.machine ≡ false
      entry_there some = let many = of.many_is y app h s a (its_queue y h).0 in grind (arith, nat_tests, many, some)

      its_blocks : u.coming < next_number u → pop_blocks y.machine s ≡ entry_blocks len
      its_blocks some = of.pop_blocks_is y app h s a (its_queue y h).0 some

      has_blocks : 0 < entry_blocks len
      has_blocks = omega arith

      pop_refused_by : (e : ChainRefusal) → IsRefused u (IsNoPop u app.store.region) e → early (own_conditions (failed app s kind.Queue y.machine) (busy app s kind.Queue y.machine) false (no_entry y.machine) (no_place y.machine)) ≡ Some (refused_by e)
      pop_refused_by Failed why = has_failed_first (failed app s kind.Queue y.machine) (busy app s kind.Queue y.machine) false (no_entry y.machine) (no_place y.machine) (of.failed_same y app h s a (its_queue y h).0 kind.Queue (its_queue y h).1 ∙ why)
      pop_refused_by Busy why = busy_first (failed app s kind.Queue y.machine) (busy app s kind.Queue y.machine) false (no_entry y.machine) (no_place y.machine) (goes why.0) (of.crowded_true y app h s a (its_queue y h).0 kind.Queue (its_queue y h).1 why.1)
      pop_refused_by NoEntry why = nothing_first (failed app s kind.Queue y.machine) (busy app s kind.Queue y.machine) false (no_entry y.machine) (no_place y.machine) (goes why.0.0) (not_crowded why.0.1) refl (empty_there why.1)
      pop_refused_by NoBuffer why = placeless_first (failed app s kind.Queue y.machine) (busy app s kind.Queue y.machine) false (no_entry y.machine) (no_place y.machine) (goes why.0.0) (not_crowded why.0.1) refl (entry_there why.1.0)
          (ap (λ i. is_none (room_for y.machine i)) (its_blocks why.1.0) ∙ of.unplaced y app h s a (its_queue y h).0 (entry_blocks len) has_blocks why.1.1)
      pop_refused_by LogFull why = absurd why.1

    pub pop_refused : (e : ChainRefusal) → OfLogAt app.devices.cards a.key (λ one v. IsRefused v (IsNoPop v app.store.region) e) → Acts t app app pop_row [] (said.Refused (refused_by e)) []
    pop_refused e why = of.is_refused t app s (other app s kind.Queue) (failed app s kind.Queue) (busy app s kind.Queue) not_asked no_entry no_place pop_row pop_rest (λ m g. refl) (looks app s kind.Queue a its_queue) (refused_by e)
        (λ y h. pop_refused_by y h e (of_queue (λ one v. IsRefused v (IsNoPop v app.store.region) e) why y h))

    module _ (app1 : App) (n : ℕ) (accepts : OfLogAt app.devices.cards a.key (λ one v. HasPopped app.devices.cards app1.devices.cards a.key one v app.store.region app1.store.region n))
        (frames : length app1.store.region.taken ≡ length app.store.region.taken) (buffers : app1.store.buffers ≡ app.store.buffers) (labels : app1.labels ≡ app.labels) (areas : app1.areas ≡ app.areas)
        (doors : app1.devices.doors ≡ app.devices.doors) (rates : app1.devices.rates ≡ app.devices.rates) (nets : app1.devices.nets ≡ app.devices.nets) (name : app1.name ≡ app.name) where
      module _ (y : Beyond) (h : Holds (around y app)) where
        abbrev q : FoundOpen (around y app) app.devices.cards s a
        q = (its_queue y h).0

        abbrev did : HasPopped app.devices.cards app1.devices.cards a.key q.one q.chain app.store.region app1.store.region n
        did = of_queue (λ one v. HasPopped app.devices.cards app1.devices.cards a.key one v app.store.region app1.store.region n) accepts y h

        abbrev size_of : ℕ
        size_of = entry_blocks (length_of q.chain q.chain.coming)

        abbrev bf : Piece
        bf = did.waits.buffer

        abbrev pops : log.Waiting
        pops = record { command = log.pop q.chain.coming; room = (bf.start, size_of) ∷ [] }

        abbrev last : Waiting
        last = with_buffer (Pop q.chain.coming) (length_of q.chain q.chain.coming) bf

        short_entry : length_of q.chain q.chain.coming ≤ 32768
        short_entry = by (slice_get q.chain.lengths (q.chain.coming - q.chain.first)) refl
          where
            by : (o : Option ℕ) → slice_get q.chain.lengths (q.chain.coming - q.chain.first) ≡ o → length_of q.chain q.chain.coming ≤ 32768
            by None is = let same = none_to_pop q.chain q.runs.is.right is in let some = did.some in absurd (omega (arith, same, some))
            by (Some z) is = let next = next_to_pop q.chain z q.runs.is.right is in subst (λ i. i ≤ 32768) next.is next.short

        popped_right : IsRight did.log
        popped_right = subst IsRight (sym did.waits.waiting) (right_waits q.chain last _ (q.chain.coming + 1) q.runs.is.right did.admitted.1 refl (refl, did.some) refl refl (short_entry, (refl, did.waits.len)))

        popped_runs : IsRunning y.history q.both.log_fits.slot.blocks app1.store.region q.one.vsic.ring did.log q.lies (with_opened q.both.log (with_one_more q.opened pops)) (with_one_more q.opened pops)
        popped_runs = running.pops y.history q.both.log_fits.slot.blocks app.store.region q.one.vsic.ring q.chain q.lies q.both.log q.opened q.runs did.admitted.0 did.log app1.store.region did.waits popped_right did.some frames
            (away y app s a h q app1.store.region _ bf size_of did.waits.len did.waits.made)

        popped_place : room_for y.machine size_of ≡ Some bf.start
        popped_place = of.placed y app h s a q size_of bf.start bf.len (has_blocks y h) did.waits.len did.waits.made.place

        popped_free : early (own_conditions (failed app s kind.Queue y.machine) (busy app s kind.Queue y.machine) false (no_entry y.machine) (no_place y.machine)) ≡ None
        popped_free = none_first (failed app s kind.Queue y.machine) (busy app s kind.Queue y.machine) false (no_entry y.machine) (no_place y.machine) (goes y h did.admitted.0) (not_crowded y h did.admitted.1) refl (entry_there y h did.some)
            (ap (λ i. is_none (room_for y.machine i)) (its_blocks y h did.some) ∙ ap is_none popped_place)

        pop_rest_is : (g : Given) → pop_rest y.machine g ≡ record { machine = machine_with y app s a q pops; said = said.Num n; bytes = []; calls = [] }
        pop_rest_is g =
            ap (λ i. says (with_waiting y.machine s (log.pop i) (pop_blocks y.machine s)) (said.Num i)) (of.first_is y app h s a q)
            ∙ ap (λ i. says (with_waiting y.machine s (log.pop q.chain.coming) i) (said.Num q.chain.coming)) (its_blocks y h did.some)
            ∙ ap (λ (m : Machine). says m (said.Num q.chain.coming)) (waits_at y app s a q (log.pop q.chain.coming) size_of bf.start popped_place)
            ∙ ap (λ i. says (machine_with y app s a q pops) (said.Num i)) (sym did.number)

        popped_holds : Holds (around (record y { machine = machine_with y app s a q pops }) app1)
        popped_holds = accepted_holds y app s a h q app1 did.log pops last (Covers bf)
            (reaches app app1 buffers labels areas doors rates nets frames y s (Covers bf) (λ p spares. did.waits.made.others p (λ j in_b in_p. spares j in_b in_p))) did.card
            (ap (λ (z : OpenChain). z.grant) did.waits.waiting) (ap (λ (z : OpenChain). z.waiting) did.waits.waiting) (ap (λ (z : OpenChain). z.done) did.waits.waiting) popped_runs
            (free y app s a h q app1.store.region _ bf size_of did.waits.len did.waits.made) (fresh y app s a h q app1.store.region _ bf size_of did.waits.len did.waits.made)

      pub pop_done : Acts t app app1 pop_row [] (said.Num n) []
      pop_done = comes t app app1 pop_row (said.Num n) [] areas name (λ y g sited h. (
        machine_with y app s a (q y h) (pops y h),
        of.done t app s (other app s kind.Queue) (failed app s kind.Queue) (busy app s kind.Queue) not_asked no_entry no_place pop_row pop_rest (λ m j. refl) (looks app s kind.Queue a its_queue) y g h (popped_free y h) ∙ pop_rest_is y h g,
        popped_holds y h,
      ))
