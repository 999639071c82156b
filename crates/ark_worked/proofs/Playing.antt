-- Scripts played on the machines, with the device events of each line: their replies, and whether the events follow the calls.
use Rattle.std.proofs.Common.{◌≡◌, ℕ, Bool, true, false, not, ◌&&◌, ◌||◌, ◌==◌, nat_eq, List, [], ◌∷◌, take, drop, refl, ap, if◌then◌else◌}
use Rattle.std.proofs.lemmas.Bool.{and_parts, eqb-true, false≢true}
use Rattle.std.proofs.lemmas.Map.Views.{Contains-from_any}
use Rattle.std.proofs.lemmas.Slice.Eq.{bytes_eq-Decides}
use Rattle.std.specs.Prelude.{Option, Some, None, slice_get, bytes_eq, Contains}
use Rattle.std.specs.List.{list_any}
use Rattle.ark_media.specs.Journal.{Event, Read, Write, Sync, Out, zero_block, has_succeeded}
use Rattle.ark_script.specs.Line.{Line}
use Rattle.ark_script.specs.Text.{reply_words}
use Rattle.ark_machine.specs.Row
use Rattle.ark_machine.specs.Row.{Call}
use Rattle.ark_machine.specs.Plane.{blocks_at, asked_blocks}
use Rattle.ark_machine.specs.System.{System, Turn, line_turn, owner}
use Rattle.ark_machine.specs.Follow.{slots_for, slot_content, is_repeated, ends_of, Makes, Took, ReadsAt, WritesAt, ReadsIn, WritesIn, ZeroesIn, IsSync, Follow, ended, fails, goes_on, again, passes}

-- a line, and the device events of its part
abbrev pub Played : Type 0
Played = Line × List Event

abbrev pub turn_played : System → Played → Turn
turn_played s p = line_turn s p.0 (ends_of p.1) false

abbrev pub words_said : Turn → List ℕ
words_said t = reply_words t.said t.bytes

-- the replies, without their newlines
abbrev pub replies : System → List Played → List (List ℕ)
replies s [] = []
replies s (p ∷ ps) = words_said (turn_played s p) ∷ replies (turn_played s p).after ps

-- the system afterwards
abbrev pub played : System → List Played → System
played s [] = s
played s (p ∷ ps) = played (turn_played s p).after ps

-- Whether events follow calls.

abbrev is_at : Option ℕ → ℕ → Bool
is_at None n = false
is_at (Some m) n = m == n

abbrev has : List ℕ → ℕ → Bool
has area n = list_any (nat_eq n) area

abbrev reads_at : Option ℕ → Event → Bool
reads_at place (Read n ok) = is_at place n
reads_at place _ = false

abbrev writes_at : Option ℕ → List ℕ → Event → Bool
writes_at place content (Write n written took ok) = is_at place n && bytes_eq written content && (not ok || took)
writes_at place content _ = false

abbrev reads_in : List ℕ → Event → Bool
reads_in area (Read n ok) = has area n
reads_in area _ = false

abbrev writes_in : List ℕ → Event → Bool
writes_in area (Write n content took ok) = has area n && (not ok || took)
writes_in area _ = false

abbrev zeroes_in : List ℕ → Event → Bool
zeroes_in area (Write n content took ok) = has area n && bytes_eq content zero_block && (not ok || took)
zeroes_in area _ = false

abbrev is_sync : Event → Bool
is_sync (Sync ok) = true
is_sync _ = false

abbrev makes : System → List ℕ → Line → Call → Event → Bool
makes s a line (Row.reads l k) e = reads_at (slice_get (blocks_at s.plane a l) k) e
makes s a line (Row.writes l k content) e = writes_at (slice_get (blocks_at s.plane a l) k) content e
makes s a line Row.syncs e = is_sync e
makes s a line (Row.reads_in l) e = reads_in (blocks_at s.plane a l) e
makes s a line (Row.writes_in l) e = writes_in (blocks_at s.plane a l) e
makes s a line (Row.writes_first l) e = writes_in (take 1 (blocks_at s.plane a l)) e
makes s a line (Row.reads_some l) e = reads_in (blocks_at s.plane a l) e
makes s a line (Row.zeroes_some l) e = zeroes_in (drop 1 (blocks_at s.plane a l)) e
makes s a line (Row.zeroes_new k) e = writes_at (slice_get (asked_blocks s.plane line) k) zero_block e
makes s a line Row.writes_slot e = writes_at (slice_get (slots_for s.plane a line) 0) (slot_content s.plane a line) e

abbrev is_none_left : List Event → Bool
is_none_left [] = true
is_none_left (e ∷ es) = false

-- the calls from the first on that the event makes, or that is made once
abbrev left : System → List ℕ → Line → Event → List Call → List Call
left s a line e [] = []
left s a line e (c ∷ cs) = if is_repeated c then (if makes s a line c e then c ∷ cs else left s a line e cs) else c ∷ cs

abbrev all_repeated : List Call → Bool
all_repeated [] = true
all_repeated (c ∷ cs) = is_repeated c && all_repeated cs

abbrev after_call : List Call → Call → List Call
after_call cs c = if is_repeated c then c ∷ cs else cs

-- the event makes the first of the calls, and what comes next follows the others
abbrev made_first : System → List ℕ → Line → Event → List Event → (List Call → Bool) → List Call → Bool
made_first s a line e es next [] = false
made_first s a line e es next (c ∷ cs) = makes s a line c e && (if has_succeeded e then next (after_call cs c) else is_none_left es)

-- whether the events make the calls, up to and with the first that fails
abbrev pub follows : System → List ℕ → Line → List Call → List Event → Bool
follows s a line cs [] = all_repeated cs
follows s a line cs (e ∷ es) = made_first s a line e es (λ ds. follows s a line ds es) (left s a line e cs)

-- A write that is said to have succeeded, and did not take effect, follows no call.

untaken : (n : ℕ) (content : List ℕ) → WritesAt (Some n) content (Write n content false true) → ⊥
untaken n content h = false≢true (h.2 refl)

untaken_in : (area : List ℕ) (n : ℕ) (content : List ℕ) → WritesIn area (Write n content false true) → ⊥
untaken_in area n content h = false≢true (h.1 refl)

-- The test is right.

at_is : (place : Option ℕ) (n : ℕ) → is_at place n ≡ true → place ≡ Some n
at_is None n h = absurd (false≢true h)
at_is (Some m) n h = ap (λ x. Some x) (eqb-true m n h)

bytes_are : (xs ys : List ℕ) → bytes_eq xs ys ≡ true → xs ≡ ys
bytes_are xs ys h = (bytes_eq-Decides xs ys).0 h

has_is : (area : List ℕ) (n : ℕ) → has area n ≡ true → Contains area n
has_is area n h = Contains-from_any (λ x y e. eqb-true x y e) n area h

took_is : (took ok : Bool) → (not ok || took) ≡ true → Took took ok
took_is took false h = λ bad. absurd (false≢true bad)
took_is took true h = λ good. h

reads_at_is : (place : Option ℕ) (e : Event) → reads_at place e ≡ true → ReadsAt place e
reads_at_is place (Read n ok) h = at_is place n h
reads_at_is place (Write n c took ok) h = absurd (false≢true h)
reads_at_is place (Sync ok) h = absurd (false≢true h)
reads_at_is place (Out bytes) h = absurd (false≢true h)

writes_at_is : (place : Option ℕ) (content : List ℕ) (e : Event) → writes_at place content e ≡ true → WritesAt place content e
writes_at_is place content (Write n c took ok) h =
    let parts = and_parts (is_at place n && bytes_eq c content) (not ok || took) h in
    let rest = and_parts (is_at place n) (bytes_eq c content) parts.0 in
    (at_is place n rest.0, bytes_are c content rest.1, took_is took ok parts.1)
writes_at_is place content (Read n ok) h = absurd (false≢true h)
writes_at_is place content (Sync ok) h = absurd (false≢true h)
writes_at_is place content (Out bytes) h = absurd (false≢true h)

reads_in_is : (area : List ℕ) (e : Event) → reads_in area e ≡ true → ReadsIn area e
reads_in_is area (Read n ok) h = has_is area n h
reads_in_is area (Write n c took ok) h = absurd (false≢true h)
reads_in_is area (Sync ok) h = absurd (false≢true h)
reads_in_is area (Out bytes) h = absurd (false≢true h)

writes_in_is : (area : List ℕ) (e : Event) → writes_in area e ≡ true → WritesIn area e
writes_in_is area (Write n c took ok) h = let parts = and_parts (has area n) (not ok || took) h in (has_is area n parts.0, took_is took ok parts.1)
writes_in_is area (Read n ok) h = absurd (false≢true h)
writes_in_is area (Sync ok) h = absurd (false≢true h)
writes_in_is area (Out bytes) h = absurd (false≢true h)

zeroes_in_is : (area : List ℕ) (e : Event) → zeroes_in area e ≡ true → ZeroesIn area e
zeroes_in_is area (Write n c took ok) h =
    let parts = and_parts (has area n && bytes_eq c zero_block) (not ok || took) h in
    let rest = and_parts (has area n) (bytes_eq c zero_block) parts.0 in
    (has_is area n rest.0, bytes_are c zero_block rest.1, took_is took ok parts.1)
zeroes_in_is area (Read n ok) h = absurd (false≢true h)
zeroes_in_is area (Sync ok) h = absurd (false≢true h)
zeroes_in_is area (Out bytes) h = absurd (false≢true h)

sync_is : (e : Event) → is_sync e ≡ true → IsSync e
sync_is (Sync ok) h = tt
sync_is (Read n ok) h = absurd (false≢true h)
sync_is (Write n c took ok) h = absurd (false≢true h)
sync_is (Out bytes) h = absurd (false≢true h)

makes_is : (s : System) (a : List ℕ) (line : Line) (c : Call) (e : Event) → makes s a line c e ≡ true → Makes s a line c e
makes_is s a line (Row.reads l k) e h = reads_at_is (slice_get (blocks_at s.plane a l) k) e h
makes_is s a line (Row.writes l k content) e h = writes_at_is (slice_get (blocks_at s.plane a l) k) content e h
makes_is s a line Row.syncs e h = sync_is e h
makes_is s a line (Row.reads_in l) e h = reads_in_is (blocks_at s.plane a l) e h
makes_is s a line (Row.writes_in l) e h = writes_in_is (blocks_at s.plane a l) e h
makes_is s a line (Row.writes_first l) e h = writes_in_is (take 1 (blocks_at s.plane a l)) e h
makes_is s a line (Row.reads_some l) e h = reads_in_is (blocks_at s.plane a l) e h
makes_is s a line (Row.zeroes_some l) e h = zeroes_in_is (drop 1 (blocks_at s.plane a l)) e h
makes_is s a line (Row.zeroes_new k) e h = writes_at_is (slice_get (asked_blocks s.plane line) k) zero_block e h
makes_is s a line Row.writes_slot e h = writes_at_is (slice_get (slots_for s.plane a line) 0) (slot_content s.plane a line) e h

none_left : (es : List Event) → is_none_left es ≡ true → es ≡ []
none_left [] h = refl
none_left (e ∷ es) h = absurd (false≢true h)

none_follows : (s : System) (a : List ℕ) (line : Line) (cs : List Call) → all_repeated cs ≡ true → Follow s a line cs []
none_follows s a line [] h = ended
none_follows s a line (c ∷ cs) h = let parts = and_parts (is_repeated c) (all_repeated cs) h in passes parts.0 (none_follows s a line cs parts.1)

-- one call more before calls that are left
skip : (s : System) (a : List ℕ) (line : Line) (e : Event) (es : List Event) (c : Call) (cs : List Call) (r m : Bool) → is_repeated c ≡ r
    → (Follow s a line (left s a line e cs) (e ∷ es) → Follow s a line cs (e ∷ es))
    → Follow s a line (if r then (if m then c ∷ cs else left s a line e cs) else c ∷ cs) (e ∷ es) → Follow s a line (c ∷ cs) (e ∷ es)
skip s a line e es c cs true true is rest h = h
skip s a line e es c cs true false is rest h = passes is (rest h)
skip s a line e es c cs false m is rest h = h

unskip : (s : System) (a : List ℕ) (line : Line) (e : Event) (es : List Event) (cs : List Call) → Follow s a line (left s a line e cs) (e ∷ es) → Follow s a line cs (e ∷ es)
unskip s a line e es [] h = h
unskip s a line e es (c ∷ cs) h = skip s a line e es c cs (is_repeated c) (makes s a line c e) refl (λ x. unskip s a line e es cs x) h

goes_after : (s : System) (a : List ℕ) (line : Line) (c : Call) (cs : List Call) (e : Event) (es : List Event) (r : Bool) → is_repeated c ≡ r
    → Makes s a line c e → has_succeeded e ≡ true → Follow s a line (if r then c ∷ cs else cs) es → Follow s a line (c ∷ cs) (e ∷ es)
goes_after s a line c cs e es true is made good h = again made good is h
goes_after s a line c cs e es false is made good h = goes_on made good is h

by_end : (s : System) (a : List ℕ) (line : Line) (c : Call) (cs : List Call) (e : Event) (es : List Event) (next : List Call → Bool)
    → ((ds : List Call) → next ds ≡ true → Follow s a line ds es) → Makes s a line c e
    → (ok : Bool) → has_succeeded e ≡ ok → (if ok then next (after_call cs c) else is_none_left es) ≡ true → Follow s a line (c ∷ cs) (e ∷ es)
by_end s a line c cs e es next sound made true is h = goes_after s a line c cs e es (is_repeated c) refl made is (sound (after_call cs c) h)
by_end s a line c cs e es next sound made false is h = rw (none_left es h) (fails made is)

first_follows : (s : System) (a : List ℕ) (line : Line) (e : Event) (es : List Event) (next : List Call → Bool)
    → ((ds : List Call) → next ds ≡ true → Follow s a line ds es) → (cs : List Call) → made_first s a line e es next cs ≡ true → Follow s a line cs (e ∷ es)
first_follows s a line e es next sound [] h = absurd (false≢true h)
first_follows s a line e es next sound (c ∷ cs) h =
    let parts = and_parts (makes s a line c e) (if has_succeeded e then next (after_call cs c) else is_none_left es) h in
    by_end s a line c cs e es next sound (makes_is s a line c e parts.0) (has_succeeded e) refl parts.1

pub follows_is : (s : System) (a : List ℕ) (line : Line) (cs : List Call) (es : List Event) → follows s a line cs es ≡ true → Follow s a line cs es
follows_is s a line cs [] h = none_follows s a line cs h
follows_is s a line cs (e ∷ es) h =
    unskip s a line e es cs (first_follows s a line e es (λ ds. follows s a line ds es) (λ ds g. follows_is s a line ds es g) (left s a line e cs) h)

-- Whole scripts.

abbrev pub performs_for : System → Line → Turn → List Event → Option (List ℕ) → Bool
performs_for s line t es (Some a) = follows s a line t.calls es
performs_for s line t es None = is_none_left es

-- whether the device events of each line follow its calls
abbrev pub performed : System → List Played → Bool
performed s [] = true
performed s (p ∷ ps) = performs_for s p.0 (turn_played s p) p.1 (owner p.0) && performed (turn_played s p).after ps
