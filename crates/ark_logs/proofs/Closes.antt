-- The row of `close`: the log is closed, its card has neither it nor its area any more, and its frames are free.
use Rattle.std.proofs.Common.{◌≡◌, inl, inr, ℕ, ◌+◌, ◌*◌, ◌≤◌, Bool, true, false, not, ◌&&◌, List, [], ◌∷◌, length, map, refl, sym, ◌∙◌, ap, subst, arith, bytes_eq, nat_eq}
use Rattle.std.specs.Prelude.{IfSome, IsSome, Option, Some, None, Result, Ok, Err, is_some, is_none, nat_lt, option_map, flat_map, slice_get, slice_index_or}
use Rattle.std.specs.Map.{lookup}
use Rattle.std.specs.List.{AllByRecursion}
use Rattle.std.proofs.lemmas.Bool.{false≢true}
use Rattle.std.proofs.lemmas.Bool.Decides.{nat_tests}
use Rattle.std.proofs.lemmas.List.Elements.{recursion_from_All}
use Rattle.std.proofs.Math.Bool.{and-false}
use Rattle.ark_base.specs.declared.refusal.Refusal.{Refusal}
use Rattle.ark_base.specs.declared.refusal.Refusal.TheVariants as r
use Rattle.ark_media.specs.Calls.{Told}
use Rattle.ark_script.specs.declared.said.Said.TheVariants as said
use Rattle.ark_region.specs.Frames.{Piece, Space, bytes_of, frames_of}
use Rattle.ark_entry.specs.Entry.{entry_blocks}
use Rattle.ark_vic.specs.Queue.{members}
use Rattle.ark_caladan.specs.Chain as log
use Rattle.ark_caladan.specs.Chain.{Log, Opened}
use Rattle.ark_log.specs.declared.command.Command.{Command}
use Rattle.ark_log.specs.declared.command.Command.TheVariants.{Append, Trim, Pop}
use Rattle.ark_log.specs.declared.command.Waiting.{Waiting}
use Rattle.ark_log.specs.Closed as given
use Rattle.ark_log.specs.Closed.{HasBuffersIn, all_given_back, given_back, space_closed}
use Rattle.ark_log.specs.Open.{OpenChain, HasBuffer}
use Rattle.ark_log.specs.Stages.{HasEntryBuffer, IsWhole}
use Rattle.ark_running.specs.Buffers.{AreRoomsOf, HasNoneOfTrim, buffers_by}
use Rattle.ark_running.proofs.Acks.{given_long}
use Rattle.ark_running.proofs.Like.{buffers_in}
use Rattle.ark_running.proofs.More.{as_many}
use Rattle.ark_running.proofs.Opens.{closes, rests_free}
use Rattle.ark_running.proofs.Polls.{free_whole}
use Rattle.ark_objects.specs.Held.{at as key_at, Changes}
use Rattle.ark_machine.specs.Objects
use Rattle.ark_machine.specs.Objects.{Object, Vsic, object_frames, opened_frames}
use Rattle.ark_machine.specs.Machine.{Machine, Held, at, log_at, serial_at, with_log, with_vsic, with_object}
use Rattle.ark_machine.specs.Cards.{bound_without}
use Rattle.ark_machine.specs.Logs as rows
use Rattle.ark_machine.specs.Logs.{card_of, closing, is_waiting, opened_of}
use Rattle.ark_machine.specs.Row.{Row, Given, says}
use Rattle.ark_machine.specs.Control.{is_open_on}
use Rattle.ark_held.specs.Words.{AreaList}
use Rattle.ark_held.specs.Totals.{bit, total, covers, object_covers, open_count}
use Rattle.ark_held.specs.Kept.{CardKept}
use Rattle.ark_held.specs.Rings.{kept_card}
use Rattle.ark_held.specs.Around.{Around, Each, Both}
use Rattle.ark_held.specs.Areas.{IsLog}
use Rattle.ark_held.specs.Cards.{IsCard, IsJob, IsEnded, IsPaced, IsWatched}
use Rattle.ark_held.specs.Closing.{CanClose, HasClosed, IsWaiting, OfLogAt, closed}
use Rattle.ark_held.specs.Held.{Holds}
use Rattle.ark_held.specs.Keeps.{Keeps, Within, any_label}
use Rattle.ark_held.specs.Beyond.{Beyond, around}
use Rattle.ark_held.specs.Does.{Acts}
use Rattle.ark_held.specs.declared.app.App.{App}
use Rattle.ark_held.specs.declared.card.StorageCard.{StorageCard}
use Rattle.ark_held.proofs.Besides.{same_history}
use Rattle.ark_held.proofs.Covering.{Spares, in_total, found_in, within_spares}
use Rattle.ark_held.proofs.Doing.{comes}
use Rattle.ark_held.proofs.Effects.{at_other}
use Rattle.ark_held.proofs.Finding.{stands_at}
use Rattle.ark_held.proofs.Keeping.{paced_kept, watched_kept}
use Rattle.ark_held.proofs.Lists.{name_other, name_same, some_same, turned, plus_zero}
use Rattle.ark_held.proofs.Logged.{Reaches, keeps, logged, opened_then}
use Rattle.ark_held.proofs.Placing.{total_append}
use Rattle.ark_held.proofs.Taking.{given_bit}
use Rattle.ark_own.proofs.Bindings.{each_without}
use Rattle.ark_own.proofs.Looked as looked
use Rattle.ark_own.proofs.Looked.{Looked, is_there, is_missing}
use Rattle.ark_logs.specs.Finds.{open_under}
use Rattle.ark_logs.specs.declared.finding.OpenAt.{OpenAt}
use Rattle.ark_logs.proofs.OfLogs.{FoundAs, FoundOpen, found_open}

-- Frames that are given back.

abbrev count : ℕ → List (ℕ × ℕ) → ℕ
count j fs = total (λ f. bit (covers j f)) fs

abbrev pub taken_at : List Bool → ℕ → ℕ
taken_at taken j = bit (slice_index_or taken j false)

module _ (j n : ℕ) where
  -- a buffer of so many blocks lies in a memory of n frames
  abbrev Lies : Option Piece → Type 0
  Lies buf = IfSome buf (λ b. b.start + frames_of b.len ≤ n)

  -- it goes, and its frames are free
  abbrev IsFreed : List Bool → List Bool → List (ℕ × ℕ) → Type 0
  IsFreed before after room = (taken_at after j + count j room ≡ taken_at before j) × (length after ≡ length before)

  one_back : (taken : List Bool) (start blocks : ℕ) (buf : Option Piece) → length taken ≡ n → IsSome buf → IfSome buf (λ b. (b.start ≡ start) × (b.len ≡ 512 * blocks)) → Lies buf → bit (covers j (start, blocks)) ≤ taken_at taken j
      → (taken_at (given_back taken buf) j + bit (covers j (start, blocks)) ≡ taken_at taken j) × (length (given_back taken buf) ≡ length taken)
  one_back taken start blocks None long some its lies most = absurd (false≢true some)
  one_back taken start blocks (Some b) long some its lies most =
      let size : frames_of b.len ≡ blocks = (let bytes = its.1 in omega (arith, bytes)) in
      let same : (b.start, frames_of b.len) ≡ (start, blocks) = ap (λ k. (k, frames_of b.len)) its.0 ∙ ap (λ k. (start, k)) size in
      let less : bit (covers j (b.start, frames_of b.len)) ≤ taken_at taken j = subst (λ (f : ℕ × ℕ). bit (covers j f) ≤ taken_at taken j) (sym same) most in
      let inside : b.start + frames_of b.len ≤ length taken = subst (λ k. b.start + frames_of b.len ≤ k) (sym long) lies in
      let step = given_bit taken b.start (frames_of b.len) j inside less in (
        subst (λ (f : ℕ × ℕ). taken_at (given_back taken (Some b)) j + bit (covers j f) ≡ taken_at taken j) same step,
        given_long taken (Some b) inside,
      )

  -- of a command, by what it does
  pub command_back : (c : Command) (w : Waiting) (room : List (ℕ × ℕ)) (taken : List Bool) → length taken ≡ n → room ≡ map (λ b. (b.start, entry_blocks w.len)) (buffers_by c w) → HasBuffer w → HasEntryBuffer c w.buf → HasNoneOfTrim c w.buf → Lies w.buf
      → count j room ≤ taken_at taken j → IsFreed taken (given_back taken w.buf) room
  command_back (Append k) w room taken long is buffer there none lies most =
      let one : count j room ≡ bit (covers j (w.start, entry_blocks w.len)) + 0 = ap (count j) is in
      let step = one_back taken w.start (entry_blocks w.len) w.buf long there buffer.1 lies (omega (arith, one, most)) in
      let freed = step.0 in (omega (arith, one, freed), step.1)
  command_back (Pop k) w room taken long is buffer there none lies most =
      let one : count j room ≡ bit (covers j (w.start, entry_blocks w.len)) + 0 = ap (count j) is in
      let step = one_back taken w.start (entry_blocks w.len) w.buf long there buffer.1 lies (omega (arith, one, most)) in
      let freed = step.0 in (omega (arith, one, freed), step.1)
  command_back (Trim k) w room taken long is buffer there none lies most =
      let zero_room : count j room ≡ 0 = ap (count j) is in
      subst (λ (b : Option Piece). IsFreed taken (given_back taken b) room) (sym none) (let z : taken_at taken j + count j room ≡ taken_at taken j = omega (arith, zero_room) in (z, refl))

  all_back : (ws : List Waiting) (ms : List log.Waiting) (taken : List Bool) → length taken ≡ n → AreRoomsOf ws ms → AllByRecursion HasBuffer ws → AllByRecursion (λ w. HasEntryBuffer w.command w.buf) ws → AllByRecursion (λ w. HasNoneOfTrim w.command w.buf) ws
      → AllByRecursion (λ w. Lies w.buf) ws → count j (flat_map (λ m. m.room) ms) ≤ taken_at taken j → taken_at (all_given_back taken ws) j + count j (flat_map (λ m. m.room) ms) ≡ taken_at taken j
  all_back [] [] taken long rooms buffers there none lie most = plus_zero (taken_at taken j)
  all_back (w ∷ ws) (m ∷ ms) taken long rooms buffers there none lie most =
      let sum = total_append (λ f. bit (covers j f)) m.room (flat_map (λ z. z.room) ms) in
      let step = command_back w.command w m.room taken long rooms.0 buffers.0 there.0 none.0 lie.0 (omega (arith, sum, most)) in
      let freed = step.0 in
      let rest = all_back ws ms (given_back taken w.buf) (step.1 ∙ long) rooms.1 buffers.1 there.1 none.1 lie.1 (omega (arith, sum, most, freed)) in
      omega (arith, sum, freed, rest)
  all_back [] (m ∷ ms) taken long rooms buffers there none lie most = absurd rooms
  all_back (w ∷ ws) [] taken long rooms buffers there none lie most = absurd rooms

no_more : {X : Type 0} (xs : List X) → length xs ≡ 0 → xs ≡ []
no_more [] none = refl
no_more (x ∷ xs) none = absurd (let z : ⊥ = omega (arith, none) in z)

-- nothing stands for nothing, whatever that would be
each_empty : {X Y : Type 0} (P Q : X → Y → Type 0) (xs : List X) (ys : List Y) → xs ≡ [] → Each P xs ys → Each Q xs ys
each_empty P Q [] [] none each = tt
each_empty P Q [] (y ∷ ys) none each = absurd each
each_empty P Q (x ∷ xs) ys none each = absurd (cc none)

-- The word.

open_looked : (y : Beyond) (app : App) (s : List ℕ) (res : Result OpenAt Refusal) → FoundAs (around y app) app.devices.cards s res → Looked y.machine (s ∷ []) (is_none (opened_of (log_at y.machine s))) res
open_looked y app s (Ok a) f = (is_there y.machine s (ap is_none f.both.there_log), rw (f.both.there_log, f.both.object_log, f.is_open) refl)
open_looked y app s (Err (r.NoGrant k)) f = is_missing y.machine s (ap is_none f.1) ∙ ap Some (sym f.0)
open_looked y app s (Err r.WrongKind) f = (is_there y.machine s (ap is_none f.1), ap is_none f.2)
open_looked y app s (Err _) f = absurd f

module _ (r : Beyond) (app : App) (s : List ℕ) (a : OpenAt) (f : FoundOpen (around r app) app.devices.cards s a) where
  opened_is : opened_of (log_at r.machine s) ≡ Some f.opened
  opened_is = rw (f.both.there_log, f.both.object_log, f.is_open) refl

  many : length f.chain.waiting ≡ length f.opened.waiting
  many = as_many f.chain.waiting f.opened.waiting f.runs.is.stands.waiting

  waits : IsWaiting f.chain → is_waiting (opened_of (log_at r.machine s)) ≡ true
  waits w =
      let going : f.opened.failed ≡ false = sym f.runs.is.failed ∙ w.going in
      let some : nat_lt 0 (length f.opened.waiting) ≡ true = (let n = many in let m = w.some in grind (arith, nat_tests, n, m)) in
      ap is_waiting opened_is ∙ ap (λ t. not t && nat_lt 0 (length f.opened.waiting)) going ∙ some

  rests : CanClose f.chain → is_waiting (opened_of (log_at r.machine s)) ≡ false
  rests (inl failed) = ap is_waiting opened_is ∙ ap (λ t. not t && nat_lt 0 (length f.opened.waiting)) (sym f.runs.is.failed ∙ failed)
  rests (inr none) =
      let zero_long : length f.opened.waiting ≡ 0 = sym many ∙ ap length none in
      ap is_waiting opened_is ∙ ap (λ k. not f.opened.failed && nat_lt 0 k) zero_long ∙ and-false (not f.opened.failed)

  -- the log is no card
  apart : bytes_eq s f.v ≡ false
  apart = name_other s f.v (λ same.
      let object = sym f.both.object_log ∙ ap (λ (g : Held). g.object) (some_same (at r.machine s) f.both.held_log f.both.held_card f.both.there_log (ap (λ k. at r.machine k) same ∙ f.both.there_card)) ∙ f.both.object_card in
      false≢true (sym (ap (λ (o : Object). is_some (Objects.as_log o)) object)))

  abbrev pub log_then : Log
  log_then = closing f.both.log

  abbrev pub card_then : Vsic
  card_then = bound_without f.both.held_log.serial f.both.vsic

  abbrev pub machine_then : Machine
  machine_then = with_object (with_object r.machine s (Objects.log log_then)) f.v (Objects.vsic card_then)

  rest_is : says (with_vsic (with_log r.machine s closing) (card_of r.machine s) (bound_without (serial_at r.machine s))) said.Ok ≡ record { machine = machine_then; said = said.Ok; bytes = []; calls = [] }
  rest_is =
      let m1 = with_object r.machine s (Objects.log log_then) in
      let first : with_log r.machine s closing ≡ m1 = rw (f.both.there_log, f.both.object_log) refl in
      let second : card_of r.machine s ≡ f.v = rw (f.both.there_log, f.both.object_log, f.is_open) f.on in
      let third : serial_at r.machine s ≡ f.both.held_log.serial = rw f.both.there_log refl in
      let card : at m1 f.v ≡ Some f.both.held_card = at_other r.machine s f.v (Objects.log log_then) apart ∙ f.both.there_card in
      let fourth : with_vsic m1 f.v (bound_without f.both.held_log.serial) ≡ machine_then = rw (card, f.both.object_card) refl in
      ap (λ (m : Machine). says (with_vsic m (card_of r.machine s) (bound_without (serial_at r.machine s))) said.Ok) first
      ∙ ap (λ (v : List ℕ). says (with_vsic m1 v (bound_without (serial_at r.machine s))) said.Ok) second
      ∙ ap (λ (n : ℕ). says (with_vsic m1 f.v (bound_without n)) said.Ok) third
      ∙ ap (λ (m : Machine). says m said.Ok) fourth

  -- What labels stand for then.
  module _ (app1 : App) (h : Holds (around r app)) (c : HasClosed app.devices.cards app1.devices.cards a.key f.one f.chain app.store.region app1.store.region) (frames : length app1.store.region.taken ≡ length app.store.region.taken)
      (buffers : app1.store.buffers ≡ app.store.buffers) (labels : app1.labels ≡ app.labels) (areas : app1.areas ≡ app.areas) (doors : app1.devices.doors ≡ app.devices.doors) (rates : app1.devices.rates ≡ app.devices.rates) (nets : app1.devices.nets ≡ app.devices.nets) where
    abbrev x : Around
    x = around r app

    abbrev none : ℕ → Type 0
    none j = ⊥

    abbrev one_then : StorageCard
    one_then = closed f.chain.grant f.one

    reaches : Reaches r app app1 s r.history none
    reaches = record {
      buffers = buffers;
      labels = labels;
      areas = areas;
      doors = doors;
      rates = rates;
      nets = nets;
      base = refl;
      beside = λ l t is there. same_history r.history t.blocks;
      frames = frames;
      bytes = λ p spares. ap (λ (z : Space). bytes_of z p) c.space;
    }

    here : key_at app.devices.cards f.both.card.key ≡ Some f.one
    here = ap (λ k. key_at app.devices.cards k) f.key_is ∙ f.here

    cards : Changes app.devices.cards app1.devices.cards f.both.card.key (Some one_then)
    cards = subst (λ k. Changes app.devices.cards app1.devices.cards k (Some one_then)) (sym f.key_is) c.card

    only : (q : OpenChain) → f.one.log ≡ Some q → q.grant ≡ f.both.area.grant
    only q is = ap (λ (z : OpenChain). z.grant) (some_same f.one.log q f.chain is f.its_log) ∙ f.its_grant ∙ sym f.grant_is

    was_open : (k : List ℕ) → is_open_on k (Objects.log f.both.log) ≡ bytes_eq k f.v
    was_open k = rw f.is_open (ap (λ l. bytes_eq k l) f.on)

    opens : (k : List ℕ) → bytes_eq f.v k ≡ false → is_open_on k (Objects.log log_then) ≡ is_open_on k (Objects.log f.both.log)
    opens k other = sym (was_open k ∙ turned f.v k other)

    empty : members f.one.vsic.ring ≡ 0
    empty = rests_free r.history f.both.log_fits.slot.blocks app.store.region f.one.vsic.ring f.chain f.lies f.both.log f.opened f.runs c.can

    whole : IsWhole f.chain
    whole = free_whole f.chain app.store.region f.one.vsic.ring.moved f.one.vsic.ring.posted f.one.vsic.ring.unreaped f.runs.ring empty

    lie : HasBuffersIn app.store.region.taken f.chain
    lie = buffers_in app.store.region.taken f.chain f.runs.is.right f.runs.is.trims f.runs.buffers.lies

    its_frames : object_frames (Objects.log f.both.log) ≡ (f.opened.header_frame, 1) ∷ flat_map (λ m. m.room) f.opened.waiting
    its_frames = ap opened_frames f.is_open

    -- all frames that it has are taken, and are given back
    freed : (j : ℕ) → taken_at app1.store.region.taken j + object_covers j (Objects.log f.both.log) ≡ taken_at app.store.region.taken j
    freed j =
        let taken = app.store.region.taken in
        let waiting = flat_map (λ (m : log.Waiting). m.room) f.opened.waiting in
        let own = in_total (λ g. object_covers j g.object) r.machine.held f.both.held_log (found_in s r.machine.held f.both.held_log f.both.there_log).0 in
        let its : object_covers j f.both.held_log.object ≡ bit (covers j (f.opened.header_frame, 1)) + count j waiting = ap (object_covers j) f.both.object_log ∙ ap (count j) its_frames in
        let same : object_covers j f.both.held_log.object ≡ object_covers j (Objects.log f.both.log) = ap (object_covers j) f.both.object_log in
        let was = h.taken j in
        let header = one_back j (length taken) taken f.opened.header_frame 1 f.chain.header refl whole.header header_is lie.header (omega (arith, own, its, was)) in
        let first = header.0 in
        let rest = all_back j (length taken) f.chain.waiting f.opened.waiting (given_back taken f.chain.header) header.1 f.runs.is.rooms (recursion_from_All HasBuffer f.chain.waiting f.runs.is.right.buffers)
        (recursion_from_All (λ w. HasEntryBuffer w.command w.buf) f.chain.waiting whole.entries) f.runs.is.trims (recursion_from_All (given.LiesIn taken) f.chain.waiting lie.waiting) (omega (arith, own, its, was, first)) in
        let now : taken_at app1.store.region.taken j ≡ taken_at (all_given_back (given_back taken f.chain.header) f.chain.waiting) j = ap (λ (z : Space). taken_at z.taken j) c.space in
        omega (arith, its, same, first, rest, now)
      where
        header_is : IfSome f.chain.header (λ b. (b.start ≡ f.opened.header_frame) × (b.len ≡ 512 * 1))
        header_is = subst (λ k. IfSome f.chain.header (λ b. (b.start ≡ k) × (b.len ≡ 512))) f.runs.is.header f.runs.is.right.header_is

    taken_then : (j : ℕ) → taken_at app.store.region.taken j + object_covers j (Objects.log log_then) ≡ taken_at app1.store.region.taken j + object_covers j (Objects.log f.both.log)
    taken_then j = plus_zero (taken_at app.store.region.taken j) ∙ sym (freed j)

    abbrev neither : List ℕ → Bool
    neither k = not (bytes_eq s k) && not (bytes_eq f.v k)

    -- The ring is empty.

    none_posted : f.one.vsic.ring.posted ≡ []
    none_posted = let none = empty in no_more f.one.vsic.ring.posted (omega (arith, none))

    none_unreaped : f.one.vsic.ring.unreaped ≡ []
    none_unreaped = let none = empty in no_more f.one.vsic.ring.unreaped (omega (arith, none))

    abbrev y : Around
    y = around (record r { machine = machine_then }) app1

    keeps_rest : Keeps neither any_label (Spares none) x y
    keeps_rest = keeps r app app1 s f.v h f.both r.history none reaches (λ j no. absurd no) f.one one_then here cards only log_then card_then (λ k. refl) opens taken_then

    none_open : bit (is_some one_then.log) ≡ open_count machine_then f.v
    none_open =
        let count_then = opened_then r app app1 s f.v h f.both r.history none reaches (λ j no. absurd no) f.one one_then here cards only log_then card_then (λ k. refl) opens taken_then in
        let was : bit (is_open_on f.v (Objects.log f.both.log)) ≡ 1 = ap bit (was_open f.v ∙ name_same f.v f.v refl) in
        let one : open_count r.machine f.v ≡ 1 = sym f.both.card_fits.log ∙ ap (λ (k : CardKept). bit (is_some k.log)) f.kept ∙ ap (λ (o : Option OpenChain). bit (is_some o)) f.its_log in
        omega (arith, count_then, was, one)

    bound_then : Each (λ g k. slice_get r.numbers k ≡ Some g) one_then.vsic.bound card_then.bound
    bound_then = each_without x h.one f.both.held_log.serial f.chain.grant its_number f.one.vsic.bound f.both.vsic.bound
        (subst (λ (k : CardKept). Each (λ g n. slice_get r.numbers n ≡ Some g) k.bound f.both.vsic.bound) f.kept f.both.card_fits.bound)
      where
        its_number : slice_get r.numbers f.both.held_log.serial ≡ Some f.chain.grant
        its_number =
            let stands = stands_at x s f.both.area h f.both.area_label in
            let same : stands.held ≡ f.both.held_log = some_same (at r.machine s) stands.held f.both.held_log stands.there f.both.there_log in
            ap (λ (g : Held). slice_get r.numbers g.serial) (sym same) ∙ stands.matches.serial ∙ ap (λ (n : ℕ). Some n) (f.grant_is ∙ sym f.its_grant)

    card_now : IsCard y f.v f.both.card card_then
    card_now =
        let k = f.both.card_fits in
        let inside : Within any_label (Spares none) (Objects.vsic f.both.vsic) = within_spares none (Objects.vsic f.both.vsic) (λ j no. absurd no) in
        record {
          its_kind = k.its_kind;
          card = kept_card one_then;
          kept = ap (λ (o : Option StorageCard). option_map kept_card o) cards.changed;
          size = k.size ∙ ap (λ (z : CardKept). z.ring.size) f.kept;
          posted = each_empty (IsJob x f.one.log) (IsJob y None) f.one.vsic.ring.posted f.both.vsic.queue.posted none_posted
              (subst (λ (z : CardKept). Each (IsJob x z.log) z.ring.posted f.both.vsic.queue.posted) f.kept k.posted);
          unreaped = each_empty (IsEnded x f.one.log) (IsEnded y None) f.one.vsic.ring.unreaped f.both.vsic.queue.unreaped none_unreaped
              (subst (λ (z : CardKept). Each (IsEnded x z.log) z.ring.unreaped f.both.vsic.queue.unreaped) f.kept k.unreaped);
          moved = k.moved ∙ ap (λ (z : CardKept). z.ring.moved) f.kept;
          bound = bound_then;
          pace = subst (λ (z : CardKept). Both (IsPaced y) z.pace f.both.vsic.pace) f.kept (paced_kept neither any_label (Spares none) x y keeps_rest k.card.pace f.both.vsic.pace inside.2 k.pace);
          door = subst (λ (z : CardKept). Both (IsWatched y) z.door f.both.vsic.door) f.kept (watched_kept neither any_label (Spares none) x y keeps_rest k.card.door f.both.vsic.door inside.3 k.door);
          log = none_open;
          phases = tt;
        }

    log_now : IsLog y s f.both.area log_then
    log_now = let k = f.both.log_fits in record {
      slot = k.slot;
      its_kind = k.its_kind;
      kept = ap (λ (es : AreaList). lookup (nat_eq f.both.area.grant) es) areas ∙ k.kept;
      there = k.there;
      same_kind = k.same_kind;
      no_raw = k.no_raw;
      blocks = k.blocks;
      two = k.two;
      opened = tt;
      listed = closes r.history k.slot.blocks app.store.region f.one.vsic.ring f.chain f.lies f.both.log f.opened f.runs;
      full = k.full;
    }

    pub closed_holds : Holds y
    closed_holds = logged r app app1 s f.v h f.both r.history none reaches (λ j no. absurd no) f.one one_then here cards only log_then card_then (λ k. refl) opens taken_then card_now log_now

module _ (t : Told) (app : App) (s : List ℕ) where
  abbrev its_labels : List (List ℕ)
  its_labels = s ∷ []

  abbrev other : Machine → Bool
  other m = is_none (opened_of (log_at m s))

  abbrev busy : Machine → Bool
  busy m = is_waiting (opened_of (log_at m s))

  abbrev no : Machine → Bool
  no m = false

  abbrev row : Machine → Given → Row
  row m g = rows.close m s g

  abbrev rest : Machine → Given → Row
  rest m g = says (with_vsic (with_log m s closing) (card_of m s) (bound_without (serial_at m s))) said.Ok

  looks : (res : Result OpenAt Refusal) → res ≡ open_under app.labels app.devices.cards s → (y : Beyond) → Holds (around y app) → Looked y.machine its_labels (other y.machine) res
  looks res is y h = open_looked y app s res (found_open y app h s res is)

  pub not_open : (e : Refusal) → Err e ≡ open_under app.labels app.devices.cards s → Acts t app app row [] (said.Refused e) []
  not_open e is = looked.not_found t app its_labels other no busy no no row rest (λ m g. refl) OpenAt e (looks (Err e) is)

  module _ (a : OpenAt) (is : Ok a ≡ open_under app.labels app.devices.cards s) where
    abbrev its : (y : Beyond) → Holds (around y app) → FoundOpen (around y app) app.devices.cards s a
    its y h = found_open y app h s (Ok a) is

    -- what is so of the log that is open there
    pub its_log : (P : StorageCard → OpenChain → Type 0) → OfLogAt app.devices.cards a.key P → (y : Beyond) (h : Holds (around y app)) → P (its y h).one (its y h).chain
    its_log P all y h = all (its y h).one (its y h).chain (its y h).here (its y h).its_log

    pub is_busy : OfLogAt app.devices.cards a.key (λ one chain. IsWaiting chain) → Acts t app app row [] (said.Refused r.Busy) []
    is_busy waiting = looked.is_busy t app its_labels other no busy no no row rest (λ m g. refl) (looks (Ok a) is) (λ y h. refl) (λ y h. waits y app s a (its y h) (its_log (λ one chain. IsWaiting chain) waiting y h))

    pub close_done : (app1 : App) → OfLogAt app.devices.cards a.key (λ one chain. HasClosed app.devices.cards app1.devices.cards a.key one chain app.store.region app1.store.region) → length app1.store.region.taken ≡ length app.store.region.taken
        → app1.store.buffers ≡ app.store.buffers → app1.labels ≡ app.labels → app1.areas ≡ app.areas → app1.devices.doors ≡ app.devices.doors → app1.devices.rates ≡ app.devices.rates → app1.devices.nets ≡ app.devices.nets → app1.name ≡ app.name → Acts t app app1 row [] said.Ok []
    close_done app1 closes_it frames buffers labels areas doors rates nets name = comes t app app1 row said.Ok [] areas name (λ y g sited h.
        let f = its y h in
        let c = its_log (λ one chain. HasClosed app.devices.cards app1.devices.cards a.key one chain app.store.region app1.store.region) closes_it y h in (
          machine_then y app s a f,
          looked.done t app its_labels other no busy no no row rest (λ m g. refl) (looks (Ok a) is) (λ y h. refl)
              (λ z i. rests z app s a (its z i) (its_log (λ one chain. HasClosed app.devices.cards app1.devices.cards a.key one chain app.store.region app1.store.region) closes_it z i).can) (λ y h. refl) y g h refl
              ∙ rest_is y app s a f,
          closed_holds y app s a f app1 h c frames buffers labels areas doors rates nets,
        ))
