-- Texts put out one after another.
use Rattle.std.proofs.Common.{◌≡◌, ◌∙◌, inr, ⊎_elim, ℕ, Bool, true, false, List, [], ◌∷◌, ◌++◌, Ok, Err, refl, sym, ap, subst, append_assoc}
use Rattle.std.specs.Prelude.{Result}
use Rattle.ark_base.specs.declared.status.Status.{Status}
use Rattle.ark_base.specs.declared.status.Status.TheVariants.{Done, Usage, Source, Sink, Device, Memory, Damaged, Long}
use Rattle.ark_media.specs.Journal.{Event, Read, Write, Sync, Out, AllBlocks, onto, current, output_of, device_events, HasFailed, AreReads}
use Rattle.ark_media.specs.Calls.{Told, Beside, Tells, KeepsBeside, Rose, OnTold}
use Rattle.ark_media.specs.Going.{failed_append}
use Rattle.ark_media.proofs.Composing.{goes_none, goes_kept, goes_then, output_of-append, device_events-append, devices_silent}
use Rattle.ark_check.specs.Reading.{IsReading}
use Rattle.ark_check.specs.Putting.{CameOut, EndedBy, PutsText}

abbrev Text : Type 0
Text = List (List ℕ) → List ℕ

failed_behind : (es fs : List Event) → HasFailed fs → HasFailed (es ++ fs)
failed_behind [] fs bad = bad
failed_behind (e ∷ es) fs bad = inr (failed_behind es fs bad)

pub reads_append : (es fs : List Event) → AreReads es → AreReads fs → AreReads (es ++ fs)
reads_append [] fs are next = next
reads_append (Read n ok ∷ es) fs are next = reads_append es fs are next
reads_append (Write n content took ok ∷ es) fs are next = absurd are
reads_append (Sync ok ∷ es) fs are next = absurd are
reads_append (Out bytes ∷ es) fs are next = absurd are

pub reads_alone : (es : List Event) → AreReads es → device_events es ≡ es
reads_alone [] are = refl
reads_alone (Read n ok ∷ es) are = ap (λ (l : List Event). Read n ok ∷ l) (reads_alone es are)
reads_alone (Write n content took ok ∷ es) are = absurd are
reads_alone (Sync ok ∷ es) are = absurd are
reads_alone (Out bytes ∷ es) are = absurd are

-- reads and output leave the image
pub reads_leave : (es : List Event) (base : List (List ℕ)) (j : List Event) → AreReads (device_events es) → current base (onto es j) ≡ current base j
reads_leave [] base j are = refl
reads_leave (Read n ok ∷ es) base j are = reads_leave es base (Read n ok ∷ j) are
reads_leave (Out bytes ∷ es) base j are = reads_leave es base (Out bytes ∷ j) are
reads_leave (Write n content took ok ∷ es) base j are = absurd are
reads_leave (Sync ok ∷ es) base j are = absurd are

came_then : (r : Result (Unit {0}) Status) (f g out more : List ℕ) → out ≡ f → CameOut r g more → CameOut r (f ++ g) (out ++ more)
came_then (Ok done) f g out more first next = λ i. first i ++ next i
came_then (Err status) f g out more first next = (next.0, (λ i. sym first i ++ next.1 i) ∙ sym (append_assoc out more next.0))

ended_then : (r : Result (Unit {0}) Status) (es fs : List Event) (b0 b1 b2 : Beside) → EndedBy (Ok tt) es b0 b1 → EndedBy r fs b1 b2 → EndedBy r (es ++ fs) b0 b2
ended_then (Ok done) es fs b0 b1 b2 first next = (λ bad. ⊎_elim first.0 next.0 (failed_append es fs bad), next.1 ∙ first.1)
ended_then (Err Device) es fs b0 b1 b2 first next = (failed_behind es fs next.0, next.1 ∙ first.1)
ended_then (Err Sink) es fs b0 b1 b2 first next = (λ bad. ⊎_elim first.0 next.0 (failed_append es fs bad), subst (λ n. Rose n b2.sink_faults) first.1 next.1)
ended_then (Err Done) es fs b0 b1 b2 first next = absurd next
ended_then (Err Usage) es fs b0 b1 b2 first next = absurd next
ended_then (Err Source) es fs b0 b1 b2 first next = absurd next
ended_then (Err Memory) es fs b0 b1 b2 first next = absurd next
ended_then (Err (Damaged block)) es fs b0 b1 b2 first next = absurd next
ended_then (Err Long) es fs b0 b1 b2 first next = absurd next

module _ (t1 t2 : Told) (b1 b2 : Beside) (g : Text) (r : Result (Unit {0}) Status) (q : PutsText t1 t2 b1 b2 g r) where
  -- what was so of the image before is so of it still
  pub so_before : (P : List (List ℕ) → Type 0) → OnTold t1 P → OnTold t2 P
  so_before P so h told =
      let was = q.goes.tells.adds.told h told in
      subst P (sym (ap (λ (j : List Event). current h.base j) was.2 ∙ reads_leave q.events h.base was.0 q.reads)) (so (record { base = h.base; journal = was.0 }) was.1)

  -- it came out behind another text
  pub puts_then : (t0 : Told) (b0 : Beside) (f : Text) → PutsText t0 t1 b0 b1 f (Ok tt) → PutsText t0 t2 b0 b2 (λ image. f image ++ g image) r
  puts_then t0 b0 f p = record {
    events = p.events ++ q.events;
    goes = goes_then p.events q.events [] [] t0 t1 t2 b0 b1 b2 p.goes q.goes;
    source = q.source ∙ p.source;
    reads = subst AreReads (sym (device_events-append p.events q.events)) (reads_append (device_events p.events) (device_events q.events) p.reads q.reads);
    ended = ended_then r p.events q.events b0 b1 b2 p.ended q.ended;
    shows = λ h told whole. let image = current h.base h.journal in
        subst (λ out. CameOut r (f image ++ g image) out) (sym (output_of-append p.events q.events))
        (came_then r (f image) (g image) (output_of p.events) (output_of q.events) (so_before (λ x. AllBlocks x → output_of p.events ≡ f x) p.shows h told whole) (q.shows h told whole));
  }

  -- the text under another spelling
  pub puts_as : (f : Text) → OnTold t2 (λ image. AllBlocks image → g image ≡ f image) → PutsText t1 t2 b1 b2 f r
  puts_as f same = record {
    events = q.events;
    goes = q.goes;
    source = q.source;
    reads = q.reads;
    ended = q.ended;
    shows = λ h told whole. subst (λ text. CameOut r text (output_of q.events)) (same h told whole) (q.shows h told whole);
  }

module _ (t0 t1 : Told) (b0 b1 : Beside) (f : Text) (status : Status) where
  -- where it ended early, the text is the front of a longer one
  pub puts_front : PutsText t0 t1 b0 b1 f (Err status) → (g : Text) → ((image : List (List ℕ)) → (rest : List ℕ) × (g image ≡ f image ++ rest)) → PutsText t0 t1 b0 b1 g (Err status)
  puts_front p g longer = record {
    events = p.events;
    goes = p.goes;
    source = p.source;
    reads = p.reads;
    ended = p.ended;
    shows = λ h told whole.
        let image = current h.base h.journal in
        let came = p.shows h told whole in
        let more = longer image in (
          came.0 ++ more.0,
          more.1 ∙ ap (λ text. text ++ more.0) came.1 ∙ append_assoc (output_of p.events) came.0 more.0,
        );
  }

pub puts_none : (t : Told) (b : Beside) → PutsText t t b b (λ image. []) (Ok tt)
puts_none t b = record { events = []; goes = goes_none t t b b refl refl; source = refl; reads = tt; ended = (λ bad. bad, refl); shows = λ h told whole. refl }

module _ (t0 t1 : Told) (b0 b1 : Beside) (es : List Event) (tells : Tells es t0 t1) (keeps : KeepsBeside b0 b1) where
  silent : (ok : Bool) → IsReading ok es → output_of es ≡ []
  silent ok reading = devices_silent es (reads_alone es reading.reads)

  pub puts_read : IsReading true es → PutsText t0 t1 b0 b1 (λ image. []) (Ok tt)
  puts_read reading = record {
    events = es;
    goes = goes_kept t0 t1 b0 b1 es tells keeps;
    source = keeps.source;
    reads = subst AreReads (sym (reads_alone es reading.reads)) reading.reads;
    ended = (reading.worked refl, keeps.sink);
    shows = λ h told whole. silent true reading;
  }

  pub puts_unread : (f : Text) → IsReading false es → PutsText t0 t1 b0 b1 f (Err Device)
  puts_unread f reading = record {
    events = es;
    goes = goes_kept t0 t1 b0 b1 es tells keeps;
    source = keeps.source;
    reads = subst AreReads (sym (reads_alone es reading.reads)) reading.reads;
    ended = (reading.failed refl, keeps.sink);
    shows = λ h told whole. (f (current h.base h.journal), ap (λ out. out ++ f (current h.base h.journal)) (sym (silent false reading)));
  }
