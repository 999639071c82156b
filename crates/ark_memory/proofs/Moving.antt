-- One call of a world in memory.
use Rattle.std.proofs.Common.{◌≡◌, inl, inr, ℕ, ◌+◌, ◌-◌, ◌*◌, ◌/◌, ◌%◌, ◌<◌, ◌≤◌, min, Bool, true, false, List, [], ◌∷◌, ◌++◌, length, take, drop, refl, sym, ◌∙◌, ap, subst, arith, length-append, append-nil}
use Rattle.std.proofs.lemmas.Bool.{leb-true}
use Rattle.std.proofs.lemmas.List.{take-append-drop, length-take}
use Rattle.std.specs.Prelude.{Option, Some, Result, Ok, Err, is_ok, OnOk, leb, ◌&&◌, if◌then◌else◌}
use Rattle.ark_media.specs.Journal.{Event, Out, History, AllBlocks, onto, block, current, output_of, HasFailed, has_succeeded}
use Rattle.ark_media.specs.Calls.{Call, Reads, Writes, Syncs, Comes, Makes, Adds, Rose, Puts, Beside, Moves, GivesBlock, HasCause}
use Rattle.ark_media.specs.Blocks.{whole_blocks}
use Rattle.ark_memory.specs.Reels.{Reel, IsReady, with_event, lost_of, begun, history_of, told_history, told_of}
use Rattle.ark_memory.specs.Turns.{works, takes, is_over, let_out, counted, after_call, after_put, after_begin}
use Rattle.ark_memory.specs.Plan.{IsTurn}
use Rattle.ark_memory.specs.declared.schedule.Turn.{Turn}
use Rattle.ark_memory.specs.declared.schedule.Turn.TheVariants as by
use Rattle.ark_media.specs.Going.{onto-append, keeps_none}
use Rattle.ark_media.proofs.Flat.{length-blocks_in}
use Rattle.ark_media.proofs.Composing.{output_of-append}

-- what is told after one event more
told_at : (lost : Bool) (base : List (List ℕ)) (es : List Event) (e : Event)
    → Adds (told_history lost (record { base = base; journal = onto es [] })) (told_history lost (record { base = base; journal = onto (es ++ e ∷ []) [] })) (e ∷ [])
told_at true base es e = record { told = λ h is. absurd (cc (is)) }
told_at false base es e = record {
  told = λ h is.
      let same : record { base = base; journal = onto (es ++ e ∷ []) [] } ≡ h = cc (is) in
      (onto es [], ap (λ (x : History). Some (record { base = x.base; journal = onto es [] })) same, sym (ap (λ (x : History). x.journal) same) ∙ onto-append es (e ∷ []) []);
}

untold : (r : Reel) (h : Option History) (es : List Event) → Adds h (history_of (lost_of r)) es
untold r h es = record { told = λ x is. absurd (cc (is)) }

noted_adds : (turn : Turn) (old new : Reel) (e : Event) → new ≡ after_call turn old (with_event old e) → Adds (history_of old) (history_of new) (e ∷ [])
noted_adds turn old new e is = subst (λ (r : Reel). Adds (history_of old) (history_of r) (e ∷ [])) (sym is) (at turn)
  where
    at : (t : Turn) → Adds (history_of old) (history_of (after_call t old (with_event old e))) (e ∷ [])
    at by.Works = told_at old.lost old.base old.events e
    at (by.Fails took part) = told_at old.lost old.base old.events e
    at by.Over = untold old (history_of old) (e ∷ [])

noted_base : (turn : Turn) (old new : Reel) (e : Event) → new ≡ after_call turn old (with_event old e) → length new.base ≡ length old.base
noted_base turn old new e is = ap (λ (r : Reel). length r.base) is ∙ at turn
  where
    at : (t : Turn) → length (after_call t old (with_event old e)).base ≡ length old.base
    at by.Works = refl
    at (by.Fails took part) = refl
    at by.Over = refl

came_true : (c : Call) (e : Event) → Comes c true e → has_succeeded e ≡ true
came_true (Reads n) e is = ap has_succeeded is
came_true (Writes n b) e is = ap has_succeeded is.2
came_true Syncs e is = ap has_succeeded is

none_failed : (e : Event) → has_succeeded e ≡ true → HasFailed (e ∷ []) → ⊥
none_failed e works (inl failed) = absurd (cc (works, failed))
none_failed e works (inr bad) = bad

rose : (faults faults2 : ℕ) → faults2 ≡ counted false faults → Rose faults faults2
rose faults faults2 is = omega (arith, is)

-- a device call was made, and noted by its event
module _ (turn : Turn) (c : Call) (e : Event) (old new : Reel) (beside : Beside) (faults faults2 : ℕ) (noted : new ≡ after_call turn old (with_event old e)) (later : faults ≤ faults2) where
  went_by : (ok : Bool) → Comes c ok e → faults2 ≡ counted ok faults → (es : List Event) × Makes (c ∷ []) ok es × Moves es (told_of old faults) (told_of new faults2) beside beside
  went_by true came counts = (
    e ∷ [],
    inl (came, refl),
    record {
      tells = record { adds = noted_adds turn old new e noted; blocks = noted_base turn old new e noted; later = later; cause = λ bad. absurd (none_failed e (came_true c e came) bad) };
      keeps = keeps_none beside;
    },
  )
  went_by false came counts = (
    e ∷ [],
    inr (came, refl, refl),
    record {
      tells = record { adds = noted_adds turn old new e noted; blocks = noted_base turn old new e noted; later = later; cause = λ bad. rose faults faults2 counts };
      keeps = keeps_none beside;
    },
  )

  pub went : (ok : Bool) → ok ≡ works turn → Comes c (works turn) e → faults2 ≡ counted ok faults → (es : List Event) × Makes (c ∷ []) ok es × Moves es (told_of old faults) (told_of new faults2) beside beside
  went ok planned came counts = went_by ok (subst (λ (b : Bool). Comes c b e) (sym planned) came) counts

-- a write that works takes effect
pub works_takes : (turn : Turn) → works turn ≡ true → takes turn ≡ true
works_takes by.Works is = refl
works_takes (by.Fails took part) is = absurd (cc (is))
works_takes by.Over is = absurd (cc (is))

-- the count rises where a call fails, and nowhere else
pub has_cause : {T E : Type 0} (r : Result T E) (before now : ℕ) → before ≤ now → now ≡ counted (is_ok r) before → HasCause before now r
has_cause (Ok x) before now later is = record { later = later; failed = tt; worked = is }
has_cause (Err e) before now later is = record { later = later; failed = rose before now is; worked = tt }

-- a read over a history that is told
pub honest : (r : Reel) (n : ℕ) (out : List ℕ) → out ≡ block (current r.base (onto r.events [])) n → GivesBlock (history_of r) n out
honest r n out is = record { told = at r.lost }
  where
    at : (lost : Bool) (h : History) → told_history lost (record { base = r.base; journal = onto r.events [] }) ≡ Some h → out ≡ block (current h.base h.journal) n
    at true h bad = absurd (cc (bad))
    at false h same = let equal : record { base = r.base; journal = onto r.events [] } ≡ h = cc (same) in is ∙ ap (λ (x : History). block (current x.base x.journal) n) equal

none_after : (bytes : List ℕ) (part : ℕ) → part ≡ length bytes → drop part bytes ≡ []
none_after bytes part is = ap (λ k. drop k bytes) is ∙ whole bytes
  where
    whole : (l : List ℕ) → drop (length l) l ≡ []
    whole [] = refl
    whole (x ∷ xs) = whole xs

-- all of it, where the call works and there is room
put_all : (turn : Turn) (ok : Bool) (bytes room : ℕ) → ok ≡ (works turn && leb bytes room) → ok ≡ true → let_out turn bytes room ≡ bytes
put_all by.Works ok bytes room is done = let fits : leb bytes room ≡ true = cc (is, done) in let least : bytes ≤ room = leb-true bytes room fits in omega (arith, least)
put_all (by.Fails took part) ok bytes room is done = absurd (cc (is, done))
put_all by.Over ok bytes room is done = absurd (cc (is, done))

-- a front of the bytes was put out
pub puts : (turn : Turn) (bytes : List ℕ) (room : ℕ) (ok : Bool) (old new : Reel) (faults : ℕ) → ok ≡ (works turn && leb (length bytes) room)
    → new ≡ after_put turn (take (let_out turn (length bytes) room) bytes) old → Puts (told_of old faults) (told_of new faults) bytes ok
puts turn bytes room ok old new faults is noted =
    let part = let_out turn (length bytes) room in
    record {
      part = take part bytes;
      more = drop part bytes;
      prefix = sym (take-append-drop part bytes);
      all = λ works. none_after bytes part (put_all turn ok (length bytes) room is works);
      rests = record { adds = noted_adds turn old new (Out (take part bytes)) noted; blocks = noted_base turn old new (Out (take part bytes)) noted; faults = refl };
    }

-- The world is ready for its next call:
module _ (found room : ℕ) (old : Reel) (calls made made2 text : ℕ) (ready : IsReady found room old calls made text) (counted : made2 ≡ min (made + 1) calls) where
  -- after an event,
  pub ready_event : (e : Event) (text2 : ℕ) → length (output_of (e ∷ [])) + text2 ≡ text → made < calls → IsReady found room (with_event old e) calls made2 text2
  ready_event e text2 spent due = record {
    whole = ready.whole;
    base = ready.base;
    found_fits = ready.found_fits;
    room_fits = ready.room_fits;
    calls_fit = ready.calls_fit;
    events_fit = omega (arith, length-append old.events (e ∷ []), ready.events_fit, counted, due);
    made_fits = omega (arith, counted);
    text_fits = omega (arith, ap length (output_of-append old.events (e ∷ [])), length-append (output_of old.events) (output_of (e ∷ [])), spent, ready.text_fits);
    tells = λ more. ready.tells due;
  }

  -- after a call that leaves the device,
  pub ready_same : made < calls → IsReady found room old calls made2 text
  ready_same due = record {
    whole = ready.whole;
    base = ready.base;
    found_fits = ready.found_fits;
    room_fits = ready.room_fits;
    calls_fit = ready.calls_fit;
    events_fit = omega (arith, ready.events_fit, counted, due);
    made_fits = omega (arith, counted);
    text_fits = ready.text_fits;
    tells = λ more. ready.tells due;
  }

  -- after one that begins a device, or does not,
  pub ready_begun : (base : List (List ℕ)) → AllBlocks base → (begins : Bool) → made < calls → IsReady found room (if begins then begun old base else old) calls made2 text
  ready_begun base blocks false due = ready_same due
  ready_begun base blocks true due = record {
    whole = ready.whole;
    base = blocks;
    found_fits = ready.found_fits;
    room_fits = ready.room_fits;
    calls_fit = ready.calls_fit;
    events_fit = omega arith;
    made_fits = omega (arith, counted);
    text_fits = omega (arith, ready.text_fits);
    tells = λ more. ready.tells due;
  }

  -- and after a call past the end.
  ready_lost : calls ≤ made → IsReady found room (lost_of old) calls made2 text
  ready_lost over = record {
    whole = ready.whole;
    base = ready.base;
    found_fits = ready.found_fits;
    room_fits = ready.room_fits;
    calls_fit = ready.calls_fit;
    events_fit = omega (arith, ready.events_fit, counted, ready.made_fits);
    made_fits = omega (arith, counted);
    text_fits = ready.text_fits;
    tells = λ more. absurd (omega (arith, counted, over, more));
  }

  by_turn : (turn : Turn) → IsTurn turn made calls → (next : Reel) (text2 : ℕ) → (made < calls → IsReady found room next calls made2 text2) → (is_over turn ≡ true → text2 ≡ text)
      → IsReady found room (after_call turn old next) calls made2 text2
  by_turn by.Works due next text2 goes stays = goes due
  by_turn (by.Fails took part) due next text2 goes stays = goes due
  by_turn by.Over past next text2 goes stays = subst (λ (t : ℕ). IsReady found room (lost_of old) calls made2 t) (sym (stays refl)) (ready_lost past)

  -- Each call by its turn: it goes to the next device, or does nothing.
  pub ready_call : (turn : Turn) → IsTurn turn made calls → (next new : Reel) (text2 calls2 : ℕ) → (made < calls → IsReady found room next calls made2 text2) → (is_over turn ≡ true → text2 ≡ text)
      → new ≡ after_call turn old next → calls2 ≡ calls → IsReady found room new calls2 made2 text2
  ready_call turn due next new text2 calls2 goes stays is same =
      subst (λ (k : ℕ). IsReady found room new k made2 text2) (sym same) (subst (λ (x : Reel). IsReady found room x calls made2 text2) (sym is) (by_turn turn due next text2 goes stays))

  -- a device call that is noted
  pub ready_noted : (turn : Turn) → IsTurn turn made calls → (e : Event) (new : Reel) (calls2 : ℕ) → length (output_of (e ∷ [])) ≡ 0 → new ≡ after_call turn old (with_event old e) → calls2 ≡ calls
      → IsReady found room new calls2 made2 text
  ready_noted turn due e new calls2 silent is same = ready_call turn due (with_event old e) new text calls2 (ready_event e text (omega (arith, silent))) (λ over. refl) is same

-- a device that was attached has at most so many blocks
pub small_base : (turn : Turn) (bytes : List ℕ) (old new : Reel) → new ≡ after_begin turn (leb (length bytes) (512 * 2097152)) (whole_blocks bytes) old → (works turn && leb (length bytes) (512 * 2097152)) ≡ true
    → length new.base ≤ 2097152
small_base by.Works bytes old new is fits =
    let begins : new ≡ begun old (whole_blocks bytes) = is ∙ ap (λ (b : Bool). if b then begun old (whole_blocks bytes) else old) fits in
    let small : length bytes ≤ 512 * 2097152 = leb-true (length bytes) (512 * 2097152) fits in
    omega (arith, ap (λ (r : Reel). length r.base) begins, length-blocks_in (length bytes / 512) bytes, small)
small_base (by.Fails took part) bytes old new is fits = absurd (cc (fits))
small_base by.Over bytes old new is fits = absurd (cc (fits))

pub on_ok : {T E P : Type 0} (r : Result T E) → (is_ok r ≡ true → P) → OnOk r P
on_ok (Ok x) p = p refl
on_ok (Err e) p = tt

-- a put takes of the room for output
pub spent : (bytes : List ℕ) (part text : ℕ) → part ≤ length bytes → part ≤ text → length (output_of (Out (take part bytes) ∷ [])) + (text - part) ≡ text
spent bytes part text inside room = omega (arith, ap length (append-nil (take part bytes)), length-take part bytes, inside, room)

pub over_none : (turn : Turn) (bytes text : ℕ) → is_over turn ≡ true → text - let_out turn bytes text ≡ text
over_none by.Works bytes text over = absurd (cc (over))
over_none (by.Fails took part) bytes text over = absurd (cc (over))
over_none by.Over bytes text over = omega arith

-- before the first call
pub ready_first : (bytes found : List ℕ) (room limit calls calls2 made text : ℕ) (reel : Reel) → found ≡ take (length bytes - length bytes % 512) bytes
    → reel ≡ record { lost = false; base = []; events = []; limits = record { device = limit; events = calls; text = text } } → calls2 ≡ calls → made ≡ 0
    → 512 * room ≤ limit → length bytes - length bytes % 512 ≤ limit → IsReady (length found) room reel calls2 made text
ready_first bytes found room limit calls calls2 made text reel whole is same none fits holds =
    let size : length found ≡ length bytes - length bytes % 512 = ap length whole ∙ length-take (length bytes - length bytes % 512) bytes ∙ omega arith in
    rw is (record {
      whole = omega (arith, size);
      base = λ n inside. absurd (omega (arith, inside));
      found_fits = omega (arith, size, holds);
      room_fits = fits;
      calls_fit = same;
      events_fit = omega arith;
      made_fits = omega (arith, none);
      text_fits = omega arith;
      tells = λ more. refl;
    })
