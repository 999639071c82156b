-- A log accepts a command: it waits behind the others, with a new buffer if it has one, and all else stays.
use Rattle.std.proofs.Common.{◌≡◌, ◌⊎◌, inl, inr, ℕ, ◌+◌, ◌<◌, ◌≤◌, Bool, true, false, not, cond, ◌&&◌, List, [], ◌∷◌, ◌++◌, length, map, refl, sym, ◌∙◌, ap, subst, arith, bytes_eq, nat_eq}
use Rattle.std.specs.Prelude.{Option, Some, is_some, option_map, slice_get, slice_index_or}
use Rattle.std.specs.Map.{lookup}
use Rattle.std.specs.List.{AllByRecursion}
use Rattle.std.proofs.lemmas.Bool.{false≢true}
use Rattle.ark_region.specs.Frames.{Apart, Covers, Piece}
use Rattle.ark_vic.specs.declared.descriptor.Descriptor.{Descriptor}
use Rattle.ark_vic.specs.declared.descriptor.Completion.{Completion}
use Rattle.ark_base.specs.declared.kind.Outcome.{Outcome}
use Rattle.ark_caladan.specs.Chain as log
use Rattle.ark_caladan.specs.Chain.{Log, Opened}
use Rattle.ark_log.specs.declared.command.Waiting.{Waiting}
use Rattle.ark_log.specs.Open.{OpenChain}
use Rattle.ark_log.specs.Polled.{stage_of}
use Rattle.ark_log.specs.Stages.{oldest_in, stages_of}
use Rattle.ark_running.specs.Accepted.{with_one_more, with_opened}
use Rattle.ark_running.specs.Buffers.{pieces_of}
use Rattle.ark_running.specs.Running.{IsRunning}
use Rattle.ark_running.proofs.Framing.{running_listed}
use Rattle.ark_running.proofs.More.{oldest_more}
use Rattle.ark_objects.specs.Held.{at as key_at, Changes}
use Rattle.ark_caps.specs.Labels.{value_at}
use Rattle.ark_vsic.specs.Card.{is_bound}
use Rattle.ark_machine.specs.Objects
use Rattle.ark_machine.specs.Objects.{Job, Object, Vsic, object_frames, opened_frames, transfer, flush, phase}
use Rattle.ark_machine.specs.Machine.{Machine, Held, at, with_object}
use Rattle.ark_machine.specs.Control.{is_open_on}
use Rattle.ark_held.specs.Accepting.{GoesOnAs}
use Rattle.ark_held.specs.Words.{AreaList, Labels}
use Rattle.ark_held.specs.Totals.{bit, covers, object_covers, open_count}
use Rattle.ark_held.specs.Kept.{CardKept}
use Rattle.ark_held.specs.Rings.{kept_card}
use Rattle.ark_held.specs.Around.{Around, Each, Both}
use Rattle.ark_held.specs.Areas.{IsLog, IsOpened}
use Rattle.ark_held.specs.Cards.{HasPhases, IsCard, IsEnded, IsJob, IsPaced, IsPhaseOf, IsWatched}
use Rattle.ark_held.specs.Held.{Holds}
use Rattle.ark_held.specs.Keeps.{JobWithin, Keeps, Within, any_label}
use Rattle.ark_held.specs.Beyond.{Beyond, around}
use Rattle.ark_held.specs.declared.app.App.{App}
use Rattle.ark_held.specs.declared.card.StorageCard.{StorageCard}
use Rattle.ark_held.proofs.Changing.{put_at}
use Rattle.ark_held.proofs.Covering.{Spares, found_in, in_total, within_spares}
use Rattle.ark_held.proofs.Finding.{found_there}
use Rattle.ark_held.proofs.Keeping.{ended_kept, job_kept, paced_kept, watched_kept}
use Rattle.ark_held.proofs.Lists.{by_test, each_kept, name_other, same_name, some_same}
use Rattle.ark_held.proofs.LogFrames.{count, its_frames, own_apart, rooms}
use Rattle.ark_held.proofs.Logged.{Reaches, keeps, logged, opened_then}
use Rattle.ark_held.proofs.Members.{In}
use Rattle.ark_held.proofs.Placing.{total_append}
use Rattle.ark_logs.specs.declared.finding.OpenAt.{OpenAt}
use Rattle.ark_logs.proofs.OfLogs.{FoundOpen}

-- the frames of commands, with one more
rooms_sum : (j : ℕ) (ms : List log.Waiting) (c : log.Waiting) → count j (rooms (ms ++ c ∷ [])) ≡ count j (rooms ms) + count j c.room
rooms_sum j [] c = let sum = total_append (λ f. bit (covers j f)) c.room [] in omega (arith, sum)
rooms_sum j (m ∷ ms) c =
    let sum = total_append (λ f. bit (covers j f)) m.room (rooms (ms ++ c ∷ [])) in
    let was = total_append (λ f. bit (covers j f)) m.room (rooms ms) in
    let rest = rooms_sum j ms c in
    omega (arith, sum, was, rest)

-- Jobs of its card with one more command behind.
module _ (v w : OpenChain) (x : Waiting) (grant : w.grant ≡ v.grant) (waiting : w.waiting ≡ v.waiting ++ x ∷ []) (done : w.done ≡ v.done) where
  phase_more : (p : log.Phase) (d : Descriptor) → IsPhaseOf v p d → IsPhaseOf w p d
  phase_more p d is =
      let oldest_same : oldest_in w.waiting ≡ oldest_in v.waiting = ap oldest_in waiting ∙ oldest_more v.waiting x is.waits in
      let same : stage_of w ≡ stage_of v = ap (λ (z : Waiting). slice_get (stages_of z.command) w.done) oldest_same ∙ ap (λ n. slice_get (stages_of (oldest_in v.waiting).command) n) done in
      record {
        grant = grant ∙ is.grant;
        waits = subst (λ (ws : List Waiting). 0 < length ws) (sym waiting) (longer v.waiting);
        does = is.does;
        stage = is.stage;
        under_way = same ∙ is.under_way;
        decides = is.decides;
      }
    where
      longer : (ws : List Waiting) → 0 < length (ws ++ x ∷ [])
      longer [] = omega arith
      longer (y ∷ ys) = omega arith

  pub job_more : (y : Around) (d : Descriptor) (j : Job) → IsJob y (Some v) d j → IsJob y (Some w) d j
  job_more y d (transfer t) is = is
  job_more y d flush is = is
  job_more y d (phase p) is = phase_more p d is

  pub ended_more : (y : Around) (u : Completion) (e : Job × Outcome) → IsEnded y (Some v) u e → IsEnded y (Some w) u e
  ended_more y u (transfer t, o) is = is
  ended_more y u (flush, o) is = is
  ended_more y u (phase p, o) is = is

module _ (r : Beyond) (app : App) (s : List ℕ) (a : OpenAt) (h : Holds (around r app)) (f : FoundOpen (around r app) app.devices.cards s a) where
  abbrev x : Around
  x = around r app

  abbrev pub taken_at : ℕ → ℕ
  taken_at j = bit (slice_index_or app.store.region.taken j false)

  frames_are : object_frames (Objects.log f.both.log) ≡ (f.opened.header_frame, 1) ∷ rooms f.opened.waiting
  frames_are = its_frames r.history f.both.log_fits.slot.blocks app.store.region f.one.vsic.ring f.chain f.lies f.both.log f.opened f.runs

  -- its frames are taken
  its_count : (j : ℕ) → bit (covers j (f.opened.header_frame, 1)) + count j (rooms f.opened.waiting) ≤ taken_at j
  its_count j =
      let own = in_total (λ g. object_covers j g.object) r.machine.held f.both.held_log (found_in s r.machine.held f.both.held_log f.both.there_log).0 in
      let its : object_covers j f.both.held_log.object ≡ bit (covers j (f.opened.header_frame, 1)) + count j (rooms f.opened.waiting) = ap (object_covers j) f.both.object_log ∙ ap (count j) frames_are in
      let was = h.taken j in
      omega (arith, own, its, was)

  -- a new buffer is apart from all that it has
  pub new_apart : (b : Piece) → ((j : ℕ) → Covers b j → taken_at j ≡ 0) → AllByRecursion (Apart b) (pieces_of f.chain)
  new_apart b free = own_apart r.history f.both.log_fits.slot.blocks app.store.region f.one.vsic.ring f.chain f.lies f.both.log f.opened f.runs b (λ j has. ap (count j) frames_are ∙ (let own = its_count j in let none = free j has in omega (arith, own, none)))

  module _ (app1 : App) (w : OpenChain) (c : log.Waiting) (behind : Waiting) (touched : ℕ → Type 0) (reaches : Reaches r app app1 s r.history touched) (changes : GoesOnAs app.devices.cards app1.devices.cards a.key f.one w)
      (grant : w.grant ≡ f.chain.grant) (waiting : w.waiting ≡ f.chain.waiting ++ behind ∷ []) (done : w.done ≡ f.chain.done)
      (runs : IsRunning r.history f.both.log_fits.slot.blocks app1.store.region f.one.vsic.ring w f.lies (with_opened f.both.log (with_one_more f.opened c)) (with_one_more f.opened c))
      (free : (j : ℕ) → touched j → slice_index_or app.store.region.taken j false ≡ false) (fresh : (j : ℕ) → taken_at j + count j c.room ≡ bit (slice_index_or app1.store.region.taken j false)) where
    abbrev pub log_then : Log
    log_then = with_opened f.both.log (with_one_more f.opened c)

    abbrev one_then : StorageCard
    one_then = record f.one { log = Some w }

    here : key_at app.devices.cards f.both.card.key ≡ Some f.one
    here = ap (λ k. key_at app.devices.cards k) f.key_is ∙ f.here

    cards : Changes app.devices.cards app1.devices.cards f.both.card.key (Some one_then)
    cards = subst (λ k. Changes app.devices.cards app1.devices.cards k (Some one_then)) (sym f.key_is) changes

    only : (q : OpenChain) → f.one.log ≡ Some q → q.grant ≡ f.both.area.grant
    only q is = ap (λ (z : OpenChain). z.grant) (some_same f.one.log q f.chain is f.its_log) ∙ f.its_grant ∙ sym f.grant_is

    open_same : (k : List ℕ) → is_open_on k (Objects.log log_then) ≡ is_open_on k (Objects.log f.both.log)
    open_same k = rw f.is_open refl

    taken_then : (j : ℕ) → taken_at j + object_covers j (Objects.log log_then) ≡ bit (slice_index_or app1.store.region.taken j false) + object_covers j (Objects.log f.both.log)
    taken_then j =
        let its : object_covers j (Objects.log f.both.log) ≡ bit (covers j (f.opened.header_frame, 1)) + count j (rooms f.opened.waiting) = ap (count j) frames_are in
        let sum = rooms_sum j f.opened.waiting c in
        let more = fresh j in
        omega (arith, its, sum, more)

    -- what labels stand for then is said of this machine
    abbrev machine_then : Machine
    machine_then = with_object (with_object r.machine s (Objects.log log_then)) f.v (Objects.vsic f.both.vsic)

    abbrev neither : List ℕ → Bool
    neither k = not (bytes_eq s k) && not (bytes_eq f.v k)

    abbrev y : Around
    y = around (record r { machine = machine_then }) app1

    its_own : (j : ℕ) → touched j → (slice_index_or app.store.region.taken j false ≡ false) ⊎ (object_covers j (Objects.log f.both.log) ≡ 1)
    its_own j is = inl (free j is)

    keeps_rest : Keeps neither any_label (Spares touched) x y
    keeps_rest = keeps r app app1 s f.v h f.both r.history touched reaches its_own f.one one_then here cards only log_then f.both.vsic (λ k. refl) (λ k other. open_same k) taken_then

    one_open : bit (is_some one_then.log) ≡ open_count machine_then f.v
    one_open =
        let count_then = opened_then r app app1 s f.v h f.both r.history touched reaches its_own f.one one_then here cards only log_then f.both.vsic (λ k. refl) (λ k other. open_same k) taken_then in
        let same : bit (is_open_on f.v (Objects.log log_then)) ≡ bit (is_open_on f.v (Objects.log f.both.log)) = ap bit (open_same f.v) in
        let one : open_count r.machine f.v ≡ 1 = sym f.both.card_fits.log ∙ ap (λ (k : CardKept). bit (is_some k.log)) f.kept ∙ ap (λ (o : Option OpenChain). bit (is_some o)) f.its_log in
        omega (arith, count_then, same, one)

    card_now : IsCard y f.v f.both.card f.both.vsic
    card_now =
        let k = f.both.card_fits in
        let inside : Within any_label (Spares touched) (Objects.vsic f.both.vsic) = within_spares touched (Objects.vsic f.both.vsic) (λ j is. refl) in
        let kept_now = ap (λ (o : Option StorageCard). option_map kept_card o) cards.changed in
        let log_was : f.one.log ≡ Some f.chain = f.its_log in
        record {
          its_kind = k.its_kind;
          card = kept_card one_then;
          kept = kept_now;
          size = k.size ∙ ap (λ (z : CardKept). z.ring.size) f.kept;
          posted = each_kept (IsJob x (Some f.chain)) (IsJob y (Some w)) (JobWithin any_label (Spares touched))
              (λ d j in_it is. job_kept neither any_label (Spares touched) x y keeps_rest (Some w) d j in_it (job_more f.chain w behind grant waiting done x d j is))
              f.one.vsic.ring.posted f.both.vsic.queue.posted inside.0
              (subst (λ (o : Option OpenChain). Each (IsJob x o) f.one.vsic.ring.posted f.both.vsic.queue.posted) log_was
              (subst (λ (z : CardKept). Each (IsJob x z.log) z.ring.posted f.both.vsic.queue.posted) f.kept k.posted));
          unreaped = each_kept (IsEnded x (Some f.chain)) (IsEnded y (Some w)) (λ u. JobWithin any_label (Spares touched) u.0)
              (λ u e in_it is. ended_kept neither any_label (Spares touched) x y keeps_rest (Some w) u e in_it (ended_more f.chain w behind grant waiting done x u e is))
              f.one.vsic.ring.unreaped f.both.vsic.queue.unreaped inside.1
              (subst (λ (o : Option OpenChain). Each (IsEnded x o) f.one.vsic.ring.unreaped f.both.vsic.queue.unreaped) log_was
              (subst (λ (z : CardKept). Each (IsEnded x z.log) z.ring.unreaped f.both.vsic.queue.unreaped) f.kept k.unreaped));
          moved = k.moved ∙ ap (λ (z : CardKept). z.ring.moved) f.kept;
          bound = subst (λ (z : CardKept). Each (λ g n. slice_get r.numbers n ≡ Some g) z.bound f.both.vsic.bound) f.kept k.bound;
          pace = subst (λ (z : CardKept). Both (IsPaced y) z.pace f.both.vsic.pace) f.kept (paced_kept neither any_label (Spares touched) x y keeps_rest k.card.pace f.both.vsic.pace inside.2 k.pace);
          door = subst (λ (z : CardKept). Both (IsWatched y) z.door f.both.vsic.door) f.kept (watched_kept neither any_label (Spares touched) x y keeps_rest k.card.door f.both.vsic.door inside.3 k.door);
          log = one_open;
          phases = subst (λ (o : Option OpenChain). HasPhases o f.both.vsic.queue.posted f.both.vsic.queue.unreaped) log_was (subst (λ (z : CardKept). HasPhases z.log f.both.vsic.queue.posted f.both.vsic.queue.unreaped) f.kept k.phases);
        }

    opened_now : IsOpened y f.both.area.grant f.both.log_fits.slot.blocks log_then (with_one_more f.opened c)
    opened_now = record {
      key = f.both.card.key;
      card = record { cap = f.both.card; there = ap (λ (l : List ℕ). value_at app1.labels l) f.on ∙ ap (λ (ls : Labels). value_at ls f.v) reaches.labels ∙ f.both.card_label; its_kind = f.both.card_fits.its_kind; its_key = refl };
      its_card = kept_card one_then;
      kept = ap (λ (o : Option StorageCard). option_map kept_card o) cards.changed;
      chain = w;
      on = refl;
      its_grant = grant ∙ f.its_grant ∙ sym f.grant_is;
      bound = subst (λ n. is_bound n f.one.vsic.bound ≡ true) (sym f.grant_is) f.bound;
      lies = f.lies;
      runs = runs;
    }

    log_now : IsLog y s f.both.area log_then
    log_now = let k = f.both.log_fits in record {
      slot = k.slot;
      its_kind = k.its_kind;
      kept = ap (λ (es : AreaList). lookup (nat_eq f.both.area.grant) es) reaches.areas ∙ k.kept;
      there = k.there;
      same_kind = k.same_kind;
      no_raw = k.no_raw;
      blocks = k.blocks;
      two = k.two;
      opened = opened_now;
      listed = running_listed r.history k.slot.blocks app1.store.region f.one.vsic.ring w f.lies log_then (with_one_more f.opened c) runs;
      full = λ whole. runs.full;
    }

    then_holds : Holds y
    then_holds = logged r app app1 s f.v h f.both r.history touched reaches its_own f.one one_then here cards only log_then f.both.vsic (λ k. refl) (λ k other. open_same k) taken_then card_now log_now

    -- Its card is the same, so the machine is that with the log alone changed.

    apart : bytes_eq s f.v ≡ false
    apart = name_other s f.v (λ same.
        let object = sym f.both.object_log ∙ ap (λ (g : Held). g.object) (some_same (at r.machine s) f.both.held_log f.both.held_card f.both.there_log (ap (λ k. at r.machine k) same ∙ f.both.there_card)) ∙ f.both.object_card in
        false≢true (sym (ap (λ (o : Object). is_some (Objects.as_log o)) object)))

    put_again : (g : Held) → (bytes_eq f.v g.label ≡ true → g.object ≡ Objects.vsic f.both.vsic) → put_at f.v (Objects.vsic f.both.vsic) (put_at s (Objects.log log_then) g) ≡ put_at s (Objects.log log_then) g
    put_again g its = by_test (λ t. bytes_eq f.v g.label ≡ t → put_at f.v (Objects.vsic f.both.vsic) (put_at s (Objects.log log_then) g) ≡ put_at s (Objects.log log_then) g) (bytes_eq f.v g.label)
        (λ yes q.
        let not_s : bytes_eq s g.label ≡ false = ap (λ k. bytes_eq s k) (sym (same_name f.v g.label q)) ∙ apart in
        let first : put_at s (Objects.log log_then) g ≡ g = ap (λ b. cond b (record g { object = Objects.log log_then }) g) not_s in
        ap (λ (z : Held). put_at f.v (Objects.vsic f.both.vsic) z) first ∙ ap (λ b. cond b (record g { object = Objects.vsic f.both.vsic }) g) q ∙ ap (λ (o : Object). record g { object = o }) (sym (its q)) ∙ sym first)
        (λ no q.
        let label : (put_at s (Objects.log log_then) g).label ≡ g.label = by_test (λ t. (cond t (record g { object = Objects.log log_then }) g).label ≡ g.label) (bytes_eq s g.label) (λ yes. refl) (λ n. refl) in
        ap (λ b. cond b (record (put_at s (Objects.log log_then) g) { object = Objects.vsic f.both.vsic }) (put_at s (Objects.log log_then) g)) (ap (λ k. bytes_eq f.v k) label ∙ q)) refl

    all_again : (gs : List Held) → ((g : Held) → In gs g → bytes_eq f.v g.label ≡ true → g.object ≡ Objects.vsic f.both.vsic)
        → map (λ z. put_at f.v (Objects.vsic f.both.vsic) z) (map (λ z. put_at s (Objects.log log_then) z) gs) ≡ map (λ z. put_at s (Objects.log log_then) z) gs
    all_again [] its = refl
    all_again (g ∷ gs) its =
        ap (λ (z : Held). z ∷ map (λ z. put_at f.v (Objects.vsic f.both.vsic) z) (map (λ z. put_at s (Objects.log log_then) z) gs)) (put_again g (its g (inl refl)))
        ∙ ap (λ (zs : List Held). put_at s (Objects.log log_then) g ∷ zs) (all_again gs (λ z inn. its z (inr inn)))

    machine_same : machine_then ≡ with_object r.machine s (Objects.log log_then)
    machine_same = ap (λ (hs : List Held). record r.machine { held = hs }) (all_again r.machine.held (λ g inn q.
        let mine : g ≡ f.both.held_card = some_same (at r.machine f.v) g f.both.held_card (ap (λ k. at r.machine k) (same_name f.v g.label q) ∙ found_there x app.labels r.machine.held g h.apart h.held inn) f.both.there_card in
        ap (λ (z : Held). z.object) mine ∙ f.both.object_card))

    pub accepted_holds : Holds (around (record r { machine = with_object r.machine s (Objects.log log_then) }) app1)
    accepted_holds = subst (λ (m : Machine). Holds (around (record r { machine = m }) app1)) machine_same then_holds
