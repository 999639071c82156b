-- What follows a line's calls touches only what the line may touch: the law that carries confinement for every word.
use Rattle.std.proofs.Common.{◌≡◌, inl, inr, ℕ, Bool, true, false, List, [], ◌∷◌, ◌++◌, length, drop, refl, arith, cond}
use Rattle.std.specs.Prelude.{Option, Some, None, Ok, Err}
use Rattle.ark_base.specs.declared.refusal.Refusal.TheVariants as r
use Rattle.ark_media.specs.Journal.{Event, device_events}
use Rattle.ark_script.specs.Line as w
use Rattle.ark_script.specs.Line.{Line}
use Rattle.ark_script.specs.Lines.{Meaning}
use Rattle.ark_script.specs.declared.said.Said.TheVariants as said
use Rattle.ark_machine.specs.Bytes.{padded}
use Rattle.ark_machine.specs.Objects.{Raw, is_vsa}
use Rattle.ark_machine.specs.Machine.{object_at, raw_at, log_at, vnic_at, is_so}
use Rattle.ark_machine.specs.Row
use Rattle.ark_machine.specs.Row.{Row, Ended, Given}
use Rattle.ark_machine.specs.Cards.{unreaped_at}
use Rattle.ark_machine.specs.Logs.{found_in}
use Rattle.ark_machine.specs.Polls.{polled, next_call}
use Rattle.ark_machine.specs.Sockets.{pulled, card_at, datagrams_at}
use Rattle.ark_machine.specs.Plane.{recorded, asked_blocks, slot_of}
use Rattle.ark_machine.specs.Step.{step}
use Rattle.ark_machine.specs.System.{System, machine_of, owner, line_turn, quiet_turn}
use Rattle.ark_machine.specs.Built.{turn, is_built}
use Rattle.ark_machine.specs.Follow.{Follow, ended, Performs, PerformsFor, ends_of, slots_for}
use Rattle.ark_machine.specs.Replies.{turn_for, system_after, has_lacked, EachAnswers, Begins, Replies}
use Rattle.ark_machine.specs.Confined.{AllAllowed, EndsAtFailure, IsConfined, EachConfined, BeginsConfined, Confined}
use Rattle.ark_laws.proofs.Following.{allowed_front, ends_front, none_front, slot_in, new_in, only, by_calls, answered, by_row, by_wrong, by_none, by_runs, drop_runs}
use Rattle.ark_laws.proofs.Reaching.{AllowsCall, reads, reads_some, writes, grants, opens, poll_quiet}
use Rattle.ark_machine.specs.Paced.{StandsPaced}
use Rattle.ark_machine.specs.Sending.{pace_by, PassesWithin}
use Rattle.ark_laws.proofs.Moving.{none_within, line_passes}
use Rattle.ark_laws.proofs.Passing.{events_front}
use Rattle.ark_laws.proofs.FramesWithin.{sends_within, delivers_within}
use Rattle.ark_laws.proofs.Sent.{rates_kept, paced_keep}
use Rattle.ark_laws.proofs.Touching.{settles, call_quiet, devices, reaped_quiet, taken_quiet, given_quiet, quiet_all}

grow_confined : (s : System) (a l : List ℕ) (n : ℕ) (g : Given) (es : List Event) → Follow s a (w.grow a l n) (step (machine_of s a) (w.grow a l n) g).calls es
    → (o : Option Raw) → raw_at (machine_of s a) l ≡ o → AllAllowed s (w.grow a l n) es × EndsAtFailure es
unfolding step
grow_confined s a l n g es h None is = by_wrong s a (w.grow a l n) _ _ _ es h (rw is refl)
grow_confined s a l n g es h (Some x) is =
    by_row s a (w.grow a l n) _ _ _ es h
    (grants s a (w.grow a l n) n (new_in (slots_for s.plane a (w.grow a l n)) (asked_blocks s.plane (w.grow a l n))) (slot_in (slots_for s.plane a (w.grow a l n)) (asked_blocks s.plane (w.grow a l n))) (rw is refl))

-- what comes of a line's calls is within what the line may touch, and ends at a failure
pub line_confined : (s : System) (line : Line) (ends : List Ended) (memory : Bool) (es : List Event) → PerformsFor s line (line_turn s line ends memory).calls es (owner line) → AllAllowed s line es × EndsAtFailure es
unfolding step
line_confined s (w.app a x1) ends memory es h = by_row s a (w.app a x1) _ _ _ es h tt
line_confined s (w.vsic a x1 x2) ends memory es h = by_row s a (w.vsic a x1 x2) _ _ _ es h tt
line_confined s (w.vnic a x1 x2 x3) ends memory es h = by_row s a (w.vnic a x1 x2 x3) _ _ _ es h tt
line_confined s (w.vsa a l n k) ends memory es h = by_row s a (w.vsa a l n k) _ _ _ es h (grants s a (w.vsa a l n k) n (new_in (slots_for s.plane a (w.vsa a l n k)) (asked_blocks s.plane (w.vsa a l n k))) (slot_in (slots_for s.plane a (w.vsa a l n k)) (asked_blocks s.plane (w.vsa a l n k))) refl)
line_confined s (w.grow a l n) ends memory es h = grow_confined s a l n (recorded s.plane (w.grow a l n) ends memory) es h (raw_at (machine_of s a) l) refl
line_confined s (w.bind a x1 x2) ends memory es h = by_row s a (w.bind a x1 x2) _ _ _ es h tt
line_confined s (w.unbind a x1 x2) ends memory es h = by_row s a (w.unbind a x1 x2) _ _ _ es h tt
line_confined s (w.filter a x1 x2) ends memory es h = by_row s a (w.filter a x1 x2) _ _ _ es h tt
line_confined s (w.assign a x1 x2) ends memory es h = by_row s a (w.assign a x1 x2) _ _ _ es h tt
line_confined s (w.rate a x1 x2 x3) ends memory es h = by_row s a (w.rate a x1 x2 x3) _ _ _ es h tt
line_confined s (w.pace a x1 x2 x3) ends memory es h = by_row s a (w.pace a x1 x2 x3) _ _ _ es h tt
line_confined s (w.door a x1) ends memory es h = by_row s a (w.door a x1) _ _ _ es h tt
line_confined s (w.watch a x1 x2 x3) ends memory es h = by_row s a (w.watch a x1 x2 x3) _ _ _ es h tt
line_confined s (w.drop a x) ends memory es h = by_runs s a (w.drop a x) _ _ _ es h (drop_runs s a x (is_so is_vsa (object_at (machine_of s a) x)) (slot_of s.plane a x) refl)
line_confined s (w.buf a x1 x2) ends memory es h = by_row s a (w.buf a x1 x2) _ _ _ es h tt
line_confined s (w.fill a x1 x2 x3) ends memory es h = by_row s a (w.fill a x1 x2 x3) _ _ _ es h tt
line_confined s (w.show a x1 x2 x3) ends memory es h = by_row s a (w.show a x1 x2 x3) _ _ _ es h tt
line_confined s (w.copy a x1 x2 x3) ends memory es h = by_row s a (w.copy a x1 x2 x3) _ _ _ es h tt
line_confined s (w.free a x1) ends memory es h = by_row s a (w.free a x1) _ _ _ es h tt
line_confined s (w.peek a l off) ends memory es h = by_row s a (w.peek a l off) _ _ _ es h (only s a (w.peek a l off) (Row.reads l off) (reads s a (w.peek a l off) l off (λ n h. h)))
line_confined s (w.poke a l off bytes) ends memory es h = by_row s a (w.poke a l off bytes) _ _ _ es h (only s a (w.poke a l off bytes) (Row.writes l off (padded bytes)) (writes s a (w.poke a l off bytes) l off (padded bytes) (λ n h. h)))
line_confined s (w.get a x1 x2 x3 x4 x5) ends memory es h = by_row s a (w.get a x1 x2 x3 x4 x5) _ _ _ es h tt
line_confined s (w.put a x1 x2 x3 x4 x5) ends memory es h = by_row s a (w.put a x1 x2 x3 x4 x5) _ _ _ es h tt
line_confined s (w.flush a x1) ends memory es h = by_row s a (w.flush a x1) _ _ _ es h tt
line_confined s (w.reap a v) ends memory es h = by_row s a (w.reap a v) _ _ _ es h (reaped_quiet (AllowsCall s a (w.reap a v)) (machine_of s a) v (unreaped_at (machine_of s a) v))
line_confined s (w.post a x1 x2) ends memory es h = by_row s a (w.post a x1 x2) _ _ _ es h tt
line_confined s (w.send a x1 x2 x3) ends memory es h = by_row s a (w.send a x1 x2 x3) _ _ _ es h tt
line_confined s (w.take a v d) ends memory es h = by_row s a (w.take a v d) _ _ _ es h (taken_quiet (AllowsCall s a (w.take a v d)) (machine_of s a) v d)
line_confined s (w.sock a x1 x2 x3) ends memory es h = by_row s a (w.sock a x1 x2 x3) _ _ _ es h tt
line_confined s (w.sendto a k ip port payload) ends memory es h = by_row s a (w.sendto a k ip port payload) _ _ _ es h (answered (AllowsCall s a (w.sendto a k ip port payload)) _ _ _ tt)
line_confined s (w.recv a k) ends memory es h = by_row s a (w.recv a k) _ _ _ es h (given_quiet (AllowsCall s a (w.recv a k)) (pulled (machine_of s a) (card_at (machine_of s a) k) s.plane.own) k (datagrams_at (pulled (machine_of s a) (card_at (machine_of s a) k) s.plane.own) k))
line_confined s (w.look a x1) ends memory es h = by_row s a (w.look a x1) _ _ _ es h tt
line_confined s (w.log a l v) ends memory es h = by_row s a (w.log a l v) _ _ _ es h (opens s a (w.log a l v) l (found_in (log_at (machine_of s a) l)) (λ n h. h) (λ n h. h) refl)
line_confined s (w.queue a l v) ends memory es h = by_row s a (w.queue a l v) _ _ _ es h (opens s a (w.queue a l v) l (found_in (log_at (machine_of s a) l)) (λ n h. h) (λ n h. h) refl)
line_confined s (w.append a x1 x2) ends memory es h = by_row s a (w.append a x1 x2) _ _ _ es h tt
line_confined s (w.push a x1 x2) ends memory es h = by_row s a (w.push a x1 x2) _ _ _ es h tt
line_confined s (w.trim a x1 x2) ends memory es h = by_row s a (w.trim a x1 x2) _ _ _ es h tt
line_confined s (w.pop a x1) ends memory es h = by_row s a (w.pop a x1) _ _ _ es h tt
line_confined s (w.walk a l n) ends memory es h = by_row s a (w.walk a l n) _ _ _ es h (only s a (w.walk a l n) (Row.reads_some l) (reads_some s a (w.walk a l n) l (λ n h. h)))
line_confined s (w.poll a l) ends memory es h = by_row s a (w.poll a l) _ _ _ es h (quiet_all (AllowsCall s a (w.poll a l)) (polled (machine_of s a) l).row (poll_quiet (machine_of s a) l))
line_confined s (w.settle a l) ends memory es h = by_row s a (w.settle a l) _ _ _ es h (settles s a l ends (next_call (machine_of s a) l) (call_quiet (machine_of s a) l))
line_confined s (w.close a x1) ends memory es h = by_row s a (w.close a x1) _ _ _ es h tt
line_confined s (w.dev a v) ends memory es h = by_row s a (w.dev a v) _ _ _ es h (devices s a v (recorded s.plane (w.dev a v) ends memory) (vnic_at (machine_of s a) v))
line_confined s (w.nic own) ends memory es h = by_none s (w.nic own) es h
line_confined s (w.wire frame) ends memory es h = by_none s (w.wire frame) es h
line_confined s (w.tick n) ends memory es h = by_none s (w.tick n) es h

-- The composed run.

-- where no call is made
none_done : (s : System) (line : Line) (es : List Event) (o : Option (List ℕ)) → PerformsFor s line [] es o → es ≡ []
none_done s line es None f = f
none_done s line es (Some a) f = nothing f
  where
    nothing : {fs : List Event} → Follow s a line [] fs → fs ≡ []
    nothing ended = refl

pub performs_confined : (s : System) (m : Meaning) (ends : List Ended) (memory : Bool) (es : List Event) → StandsPaced s → Performs s m (turn s m ends memory).calls es → IsConfined s m es
performs_confined s (Err refusal) ends memory es paced h = h
performs_confined s (Ok line) ends memory es paced h = by_built (is_built line) h
  where
    by_built : (b : Bool) → PerformsFor s line (cond b (line_turn s line ends memory) (quiet_turn s (said.Refused r.UnknownWord))).calls es (owner line) → IsConfined s (Ok line) es
    by_built true g = let touches = line_confined s line ends memory es g in (touches.0, touches.1, line_passes s line ends memory es paced g)
    by_built false g = rw (none_done s line es (owner line) g) (tt, tt, none_within s line paced)

confined_front : (s : System) (m : Meaning) (es more : List Event) → IsConfined s m (es ++ more) → IsConfined s m es
confined_front s (Ok line) es more h = (allowed_front s line es more h.0, ends_front es more h.1, events_front s.now (pace_by s line) es more h.2)
confined_front s (Err refusal) es more h = none_front es more h

each_confined : (s : System) (ms : List Meaning) (ps : List (List Event)) → StandsPaced s → EachAnswers s ms ps → EachConfined s ms ps
each_confined s [] ps k h = tt
each_confined s (m ∷ ms) [] k h = tt
each_confined s (m ∷ ms) (p ∷ ps) k h = (
  record {
    device = performs_confined s m (ends_of (device_events p)) (has_lacked p) (device_events p) k h.0.calls;
    sends = sends_within s m p k h.0;
    delivers = delivers_within s m p k h.0;
    rates = paced_keep (turn_for s m p).after (rates_kept s m p k);
  },
  each_confined (turn_for s m p).after ms ps (rates_kept s m p k) h.1,
)

pub each_count : (s : System) (ms : List Meaning) (ps : List (List Event)) → EachAnswers s ms ps → length ms ≡ length ps
each_count s [] [] h = refl
each_count s [] (p ∷ ps) h = absurd h
each_count s (m ∷ ms) [] h = absurd h
each_count s (m ∷ ms) (p ∷ ps) h = let rest : length ms ≡ length ps = each_count (turn_for s m p).after ms ps h.1 in omega (arith, rest)

begins_confined : (s : System) (lines : List (List ℕ)) (es : List Event) → StandsPaced s → Begins s lines es → BeginsConfined s lines es
begins_confined s [] es k h = h
begins_confined s (line ∷ lines) es k (inl none) = inl none
begins_confined s (line ∷ lines) es k (inr b) =
    inr (b.0, b.1, confined_front s b.0 es b.2.more (performs_confined s b.0 (ends_of (es ++ b.2.more)) false (es ++ b.2.more) k b.2.calls))

pub run_paced : (s : System) (ms : List Meaning) (ps : List (List Event)) → StandsPaced s → StandsPaced (system_after s ms ps)
run_paced s [] ps k = k
run_paced s (m ∷ ms) [] k = k
run_paced s (m ∷ ms) (p ∷ ps) k = run_paced (turn_for s m p).after ms ps (rates_kept s m p k)

-- whoever answers as the machines do is confined
pub confined_of : (s : System) (lines : List (List ℕ)) (whole : List (List Event)) (unfinished : List Event) → StandsPaced s → Replies s lines whole unfinished → Confined s lines whole unfinished
confined_of s lines whole unfinished k r = record {
  meanings = r.meanings;
  say = r.say;
  count = each_count s r.meanings whole r.each;
  each = each_confined s r.meanings whole k r.each;
  begins = begins_confined (system_after s r.meanings whole) (drop (length whole) lines) (device_events unfinished) (run_paced s r.meanings whole k) r.begins;
}
