-- A run goes on by one line.
use Rattle.std.proofs.Common.{◌≡◌, inl, ℕ, List, [], ◌∷◌, ◌++◌, length, drop, refl, sym, ◌∙◌, ap, subst, arith}
use Rattle.std.specs.Prelude.{Ok, Err, Option, Some, None}
use Rattle.ark_media.specs.Journal.{Event, Read, Write, Sync, Out, device_events}
use Rattle.ark_script.specs.Line.{Line}
use Rattle.ark_script.specs.Lines.{Meaning, EachSays}
use Rattle.ark_script.proofs.Lining.{first_say, each_says_count}
use Rattle.ark_machine.specs.Row
use Rattle.ark_machine.specs.Row.{Call}
use Rattle.ark_machine.specs.System.{System, owner}
use Rattle.ark_machine.specs.Follow.{Makes, Follow, ended, fails, goes_on, again, passes, Performs}
use Rattle.ark_machine.specs.Replies.{turn_for, system_after, Answers, EachAnswers, Begins, Replies}

pub each_more : (s : System) (ms : List Meaning) (ps : List (List Event)) (m : Meaning) (p : List Event) →
    EachAnswers s ms ps → Answers (system_after s ms ps) m p → EachAnswers s (ms ++ m ∷ []) (ps ++ p ∷ [])
each_more s [] [] m p h a = (a, tt)
each_more s [] (q ∷ ps) m p h a = absurd h
each_more s (x ∷ ms) [] m p h a = absurd h
each_more s (x ∷ ms) (q ∷ ps) m p h a = (h.0, each_more (turn_for s x q).after ms ps m p h.1 a)

pub system_after-more : (s : System) (ms : List Meaning) (ps : List (List Event)) (m : Meaning) (p : List Event) → length ps ≡ length ms →
    system_after s (ms ++ m ∷ []) (ps ++ p ∷ []) ≡ (turn_for (system_after s ms ps) m p).after
system_after-more s [] [] m p h = refl
system_after-more s [] (q ∷ ps) m p h = absurd (omega (arith, h))
system_after-more s (x ∷ ms) [] m p h = absurd (omega (arith, h))
system_after-more s (x ∷ ms) (q ∷ ps) m p h = system_after-more (turn_for s x q).after ms ps m p (omega (arith, h))

drop-lines : (lines more : List (List ℕ)) (n : ℕ) → n ≡ length lines → drop n (lines ++ more) ≡ more
drop-lines [] more n h = rw h refl
drop-lines (l ∷ lines) more n h = rw h (drop-lines lines more (length lines) refl)

-- lines that were answered, and others behind them
pub replies_of : (s : System) (lines more : List (List ℕ)) (ms : List Meaning) (whole : List (List Event)) (rest : List Event) →
    EachSays lines ms → length whole ≡ length ms → EachAnswers s ms whole → Begins (system_after s ms whole) more (device_events rest) → Replies s (lines ++ more) whole rest
replies_of s lines more ms whole rest says count each begins = record {
  meanings = ms;
  say = first_say lines more ms says;
  each = each;
  begins = subst (λ (l : List (List ℕ)). Begins (system_after s ms whole) l (device_events rest)) (sym (drop-lines lines more (length whole) (count ∙ sym (each_says_count lines ms says)))) begins;
}

-- nothing was done for the lines that are left
pub begins_none : (s : System) (lines : List (List ℕ)) → Begins s lines []
begins_none s [] = refl
begins_none s (l ∷ lines) = inl refl

makes_device : (s : System) (a : List ℕ) (line : Line) (c : Call) (e : Event) (es : List Event) → Makes s a line c e → device_events (e ∷ es) ≡ e ∷ device_events es
makes_device s a line c (Read n ok) es h = refl
makes_device s a line c (Write n b took ok) es h = refl
makes_device s a line c (Sync ok) es h = refl
makes_device s a line (Row.reads l k) (Out bytes) es h = absurd h
makes_device s a line (Row.writes l k b) (Out bytes) es h = absurd h
makes_device s a line Row.syncs (Out bytes) es h = absurd h
makes_device s a line (Row.reads_in l) (Out bytes) es h = absurd h
makes_device s a line (Row.writes_in l) (Out bytes) es h = absurd h
makes_device s a line (Row.writes_first l) (Out bytes) es h = absurd h
makes_device s a line (Row.reads_some l) (Out bytes) es h = absurd h
makes_device s a line (Row.zeroes_some l) (Out bytes) es h = absurd h
makes_device s a line (Row.zeroes_new k) (Out bytes) es h = absurd h
makes_device s a line Row.writes_slot (Out bytes) es h = absurd h

-- what follows a line's calls is device events alone
pub follow_devices : (s : System) (a : List ℕ) (line : Line) {cs : List Call} {es : List Event} → Follow s a line cs es → device_events es ≡ es
follow_devices s a line ended = refl
follow_devices s a line (fails {c = c} {e = e} makes bad) = makes_device s a line c e [] makes
follow_devices s a line (goes_on {c = c} {e = e} {es = es} makes good once more) = makes_device s a line c e es makes ∙ ap (λ (x : List Event). e ∷ x) (follow_devices s a line more)
follow_devices s a line (again {c = c} {e = e} {es = es} makes good many more) = makes_device s a line c e es makes ∙ ap (λ (x : List Event). e ∷ x) (follow_devices s a line more)
follow_devices s a line (passes many more) = follow_devices s a line more

performs_for : (s : System) (cs : List Call) (es : List Event) (line : Line) (o : Option (List ℕ)) → owner line ≡ o → Performs s (Ok line) cs es → device_events es ≡ es
performs_for s cs es line (Some a) is h = follow_devices s a line (rw is at h)
performs_for s cs es line None is h = let none : es ≡ [] = rw is at h in rw none refl

pub performs_devices : (s : System) (m : Meaning) (cs : List Call) (es : List Event) → Performs s m cs es → device_events es ≡ es
performs_devices s (Err e) cs es h = rw h refl
performs_devices s (Ok line) cs es h = performs_for s cs es line (owner line) refl h
