-- A move of a card that an application keeps is the move of its machine's card.
use Rattle.std.proofs.Common.{◌≡◌, ℕ, Bool, List, [], ◌∷◌, None, refl, sym, ◌∙◌, ap, subst}
use Rattle.std.specs.Prelude.{Option}
use Rattle.ark_base.specs.declared.kind.Outcome.{Outcome}
use Rattle.ark_media.specs.Journal.{History, Event}
use Rattle.ark_media.specs.Calls.{Makes}
use Rattle.ark_media.specs.Standing.{after}
use Rattle.ark_region.specs.Frames.{Space}
use Rattle.ark_caps.specs.declared.capability.Capability.{Capability}
use Rattle.ark_script.specs.declared.said.Said.{Said}
use Rattle.ark_script.specs.declared.said.Said.TheVariants as said
use Rattle.ark_vic.specs.Queue.{Queue, finished}
use Rattle.ark_vic.specs.declared.descriptor.Descriptor.{Descriptor}
use Rattle.ark_vic.specs.declared.door.Counts.{Counts}
use Rattle.ark_vsic.specs.Card.{head_of}
use Rattle.ark_vsic.specs.Moves.{due_of, calls_of, calls_for, answer_of, worked, Leaves, LeavesFor, ring_after}
use Rattle.ark_vsic.specs.declared.due.Due.{Due}
use Rattle.ark_vsic.specs.declared.due.Due.TheVariants as due
use Rattle.ark_vsic.specs.declared.due.Moved.{Moved}
use Rattle.ark_vsic.specs.declared.due.Moved.TheVariants as moved
use Rattle.ark_machine.specs.Objects.{Vsic, Job}
use Rattle.ark_machine.specs.Machine.{Machine}
use Rattle.ark_machine.specs.Row.{Call}
use Rattle.ark_machine.specs.Follow.{Follows, MakesAt, ends_of, ended}
use Rattle.ark_machine.specs.Moves.{Move, move, moves, first_end}
use Rattle.ark_held.specs.Around.{Around, blocks_under}
use Rattle.ark_held.specs.Kept.{CardKept, PaceKept}
use Rattle.ark_held.specs.Does.{LogsAtFronts}
use Rattle.ark_held.specs.Held.{Holds}
use Rattle.ark_held.specs.Moving.{card_of, blocks_held, card_moved, pace_moved, said_of}
use Rattle.ark_held.specs.Ringing.{Sets, RingsAt}
use Rattle.ark_held.proofs.Ending.{OnCard, stays, ends_so}
use Rattle.ark_held.proofs.Fronts.{logs_still}
use Rattle.ark_held.proofs.MoveRows.{ended_by}

-- what is around the application after these events, with this machine, memory, cards and doors
abbrev pub carried : Around → List Event → Machine → Space → (ℕ → Option CardKept) → (ℕ → Option Counts) → Around
carried x es m memory cards doors = record x { history = after x.history es; machine = m; tables = record x.tables { memory = memory; cards = cards; doors = doors } }

-- The move of a machine's card is answered so, makes these events, and leaves what is kept.
pub record Carries (x : Around) (row : Move) (es : List Event) (answer : Moved) (memory : Space) (cards : ℕ → Option CardKept) (doors : ℕ → Option Counts) : Type 0 where
  pub said : said_of answer ≡ row.said
  pub bytes : row.bytes ≡ []
  pub calls : Follows (MakesAt (blocks_under x)) row.calls es
  pub holds : Holds (carried x es row.machine memory cards doors)
  pub logs : LogsAtFronts x es

-- What a kept card was moved to: the calls of what was due, the answer, and what became of the memory, the cards and the doors.
pub record WasMoved (x : Around) (key : ℕ) (k : CardKept) (told : Option History) (es : List Event) (answer : Moved) (memory : Space) (cards : ℕ → Option CardKept) (doors : ℕ → Option Counts) : Type 0 where
  pub makes : Makes (calls_of (card_of k) (due_of (card_of k) (blocks_held x.areas) x.now) x.tables.memory) (worked answer) es
  pub answer_is : answer ≡ answer_of (card_of k) (due_of (card_of k) (blocks_held x.areas) x.now) (worked answer)
  pub leaves : Leaves (card_of k) (due_of (card_of k) (blocks_held x.areas) x.now) (worked answer) told x.tables.memory memory
  pub taken : memory.taken ≡ x.tables.memory.taken
  pub sets : Sets key (card_moved k (due_of (card_of k) (blocks_held x.areas) x.now) answer x.now) x.tables.cards cards
  pub rings : RingsAt answer k.door x.tables.doors doors

pub none_made : (es : List Event) (ok : Bool) → Makes [] ok es → es ≡ []
none_made [] ok h = refl
none_made (e ∷ es) ok h = absurd h

module _ (x : Around) (v : List ℕ) (c : Capability) (k : CardKept) (card : Vsic) (on : OnCard x v c k card) (told : Option History) (es : List Event) (a : Moved) (memory : Space) (cards : ℕ → Option CardKept) (doors : ℕ → Option Counts)
    (w : WasMoved x c.key k told es a memory cards doors) where
  abbrev what : Due
  what = due_of (card_of k) (blocks_held x.areas) x.now

  abbrev row : Move
  row = move x.machine v (first_end (ends_of es))

  -- what is due, of what descriptor
  module _ (head : Option Descriptor) (oldest : head_of k.ring ≡ head) (y : Due) (is : what ≡ y) where
    pub made_of : Makes (calls_for head y k.ring.moved x.tables.memory) (worked a) es
    made_of = subst (λ (o : Option Descriptor). Makes (calls_for o y k.ring.moved x.tables.memory) (worked a) es) oldest (subst (λ (z : Due). Makes (calls_for (head_of k.ring) z k.ring.moved x.tables.memory) (worked a) es) is w.makes)

    pub leaves_of : LeavesFor head y (worked a) k.ring.moved told x.tables.memory memory
    leaves_of = subst (λ (o : Option Descriptor). LeavesFor o y (worked a) k.ring.moved told x.tables.memory memory) oldest (subst (λ (z : Due). LeavesFor (head_of k.ring) z (worked a) k.ring.moved told x.tables.memory memory) is w.leaves)

  pub answer_by : (y : Due) → what ≡ y → a ≡ answer_of (card_of k) y (worked a)
  answer_by y is = w.answer_is ∙ ap (λ (z : Due). answer_of (card_of k) z (worked a)) is

  pub sets_by : (y : Due) → what ≡ y → (b : Moved) → a ≡ b → Sets c.key (record k { ring = ring_after k.ring b; pace = pace_moved k.pace y x.now }) x.tables.cards cards
  sets_by y is b same = subst (λ (z : Moved). Sets c.key (record k { ring = ring_after k.ring z; pace = pace_moved k.pace y x.now }) x.tables.cards cards) same
      (subst (λ (z : Due). Sets c.key (record k { ring = ring_after k.ring a; pace = pace_moved k.pace z x.now }) x.tables.cards cards) is w.sets)

  pub rings_by : (b : Moved) → a ≡ b → RingsAt b k.door x.tables.doors doors
  rings_by b same = subst (λ (z : Moved). RingsAt z k.door x.tables.doors doors) same w.rings

  -- a row of this kind
  pub carries_by : (m : Machine) (s : Said) (calls : List Call) → row ≡ moves m s calls → said_of a ≡ s → Follows (MakesAt (blocks_under x)) calls es → Holds (carried x es m memory cards doors) → LogsAtFronts x es → Carries x row es a memory cards doors
  carries_by m s calls is said_is follows holds logs = record {
    said = said_is ∙ sym (ap (λ (r : Move). r.said) is);
    bytes = ap (λ (r : Move). r.bytes) is;
    calls = subst (λ (z : List Call). Follows (MakesAt (blocks_under x)) z es) (sym (ap (λ (r : Move). r.calls) is)) follows;
    holds = subst (λ (z : Machine). Holds (carried x es z memory cards doors)) (sym (ap (λ (r : Move). r.machine) is)) holds;
    logs = logs;
  }

  -- no device call was made, and the memory is as it was
  module _ (quiet : es ≡ []) (same : memory ≡ x.tables.memory) where
    pub no_logs : LogsAtFronts x es
    no_logs = subst (λ (z : List Event). LogsAtFronts x z) (sym quiet) (logs_still x on.holds)

    pub no_calls : Follows (MakesAt (blocks_under x)) [] es
    no_calls = subst (λ (z : List Event). Follows (MakesAt (blocks_under x)) [] z) (sym quiet) ended

    pub unmoved : (m : Machine) → Holds (carried x [] m x.tables.memory cards doors) → Holds (carried x es m memory cards doors)
    unmoved m h = subst (λ (z : Space). Holds (carried x es m z cards doors)) (sym same) (subst (λ (z : List Event). Holds (carried x z m x.tables.memory cards doors)) (sym quiet) h)

    -- the card did not move either
    pub still : (b : Moved) (s : Said) → a ≡ b → said_of b ≡ s → ring_after k.ring b ≡ k.ring → pace_moved k.pace what x.now ≡ k.pace → doors ≡ x.tables.doors → row ≡ moves x.machine s [] → Carries x row es a memory cards doors
    still b s is said_is ring pace same_doors row_is =
        let sets : Sets c.key k x.tables.cards cards =
        subst (λ (p : Option PaceKept). Sets c.key (record k { pace = p }) x.tables.cards cards) pace
        (subst (λ (q : Queue). Sets c.key (record k { ring = q; pace = pace_moved k.pace what x.now }) x.tables.cards cards) ring (sets_by what refl b is)) in
        carries_by x.machine s [] row_is (ap said_of is ∙ said_is) no_calls
        (unmoved x.machine (subst (λ (z : ℕ → Option Counts). Holds (carried x [] x.machine x.tables.memory cards z)) (sym same_doors) (stays x v c k card on cards sets))) no_logs

    -- the oldest descriptor has ended with no call
    pub ended_quietly : (d : Descriptor) (ds : List Descriptor) (j : Job) (js : List Job) (posted : k.ring.posted ≡ d ∷ ds) (jobs : card.queue.posted ≡ j ∷ js) → k.log ≡ None → (o : Outcome) → what ≡ due.Ends o → a ≡ moved.Done o
        → row ≡ moves (ended_by x.machine v card j js o card.pace) (said.Done o) [] → Carries x row es a memory cards doors
    ended_quietly d ds j js posted jobs none o is so row_is =
        let sets : Sets c.key (record k { ring = finished k.ring d o 0 }) x.tables.cards cards =
        subst (λ (q : Queue). Sets c.key (record k { ring = q }) x.tables.cards cards) (ended_is d ds posted o) (sets_by (due.Ends o) is (moved.Done o) so) in
        carries_by (ended_by x.machine v card j js o card.pace) (said.Done o) [] row_is (ap said_of so) no_calls
        (unmoved (ended_by x.machine v card j js o card.pace)
        (ends_so x v c k card on d ds j js posted jobs o none k.pace card.pace on.fits.pace cards doors sets (rings_by (moved.Done o) so))) no_logs
      where
        ended_is : (d : Descriptor) (ds : List Descriptor) → k.ring.posted ≡ d ∷ ds → (o : Outcome) → ring_after k.ring (moved.Done o) ≡ finished k.ring d o 0
        ended_is d ds posted o = rw posted refl
