-- A log and the ring of its card go on together: what labels stand for then.
use Rattle.std.proofs.Common.{◌≡◌, ℕ, ◌+◌, Bool, true, false, not, ◌&&◌, List, [], ◌∷◌, refl, sym, ◌∙◌, ap, subst, arith, bytes_eq, nat_eq}
use Rattle.std.specs.Prelude.{Option, Some, is_some, option_map, slice_get, slice_index_or, unwrap_or}
use Rattle.std.specs.Map.{lookup}
use Rattle.std.specs.List.{AllByRecursion}
use Rattle.ark_base.specs.declared.kind.Outcome.{Outcome}
use Rattle.ark_objects.specs.Held.{at as key_at, Changes}
use Rattle.ark_caps.specs.Labels.{value_at}
use Rattle.ark_vic.specs.Queue.{Queue}
use Rattle.ark_vsic.specs.Card.{is_bound}
use Rattle.ark_caladan.specs.Chain.{Log, Opened}
use Rattle.ark_caladan.specs.Open.{Layout}
use Rattle.ark_log.specs.Open.{OpenChain}
use Rattle.ark_running.specs.Running.{IsRunning}
use Rattle.ark_running.proofs.Framing.{running_listed}
use Rattle.ark_machine.specs.Objects
use Rattle.ark_machine.specs.Objects.{Job, Object, Vsic, transfer, flush, phase}
use Rattle.ark_machine.specs.Machine.{Machine, with_object}
use Rattle.ark_machine.specs.Buffers.{job_has}
use Rattle.ark_machine.specs.Control.{is_open_on}
use Rattle.ark_held.specs.Words.{AreaList, Labels}
use Rattle.ark_held.specs.Totals.{bit, total, uses, object_covers, open_count}
use Rattle.ark_held.specs.Kept.{CardKept}
use Rattle.ark_held.specs.Rings.{kept_card}
use Rattle.ark_held.specs.Around.{Around, Each, Both}
use Rattle.ark_held.specs.Areas.{IsLog, IsOpened, IsOpenedAs}
use Rattle.ark_held.specs.Cards.{HasPhases, IsCard, IsEnded, IsJob, IsPaced, IsPhaseJob, IsWatched}
use Rattle.ark_held.specs.Held.{Holds}
use Rattle.ark_held.specs.Keeps.{Keeps, Within, any_label}
use Rattle.ark_held.specs.Polling.{with_polled}
use Rattle.ark_held.specs.Beyond.{Beyond, around}
use Rattle.ark_held.specs.declared.app.App.{App}
use Rattle.ark_held.specs.declared.card.StorageCard.{StorageCard}
use Rattle.ark_held.proofs.Covering.{Spares, within_spares}
use Rattle.ark_held.proofs.Keeping.{paced_kept, watched_kept}
use Rattle.ark_held.proofs.Lists.{some_same}
use Rattle.ark_held.proofs.Logged.{IsItsFrame, Reaches, keeps, logged, opened_then}
use Rattle.ark_logs.specs.declared.finding.OpenAt.{OpenAt}
use Rattle.ark_logs.proofs.OfLogs.{FoundOpen}

-- phases have no buffer of an application
pub phases_use : (k : List ℕ) (js : List Job) → AllByRecursion IsPhaseJob js → total (λ j. bit (job_has k j)) js ≡ 0
phases_use k [] all = refl
phases_use k (phase p ∷ js) all = let rest = phases_use k js all.1 in omega (arith, rest)
phases_use k (transfer t ∷ js) all = absurd all.0
phases_use k (flush ∷ js) all = absurd all.0

pub ended_use : (k : List ℕ) (us : List (Job × Outcome)) → AllByRecursion (λ u. IsPhaseJob u.0) us → total (λ u. bit (job_has k u.0)) us ≡ 0
ended_use k [] all = refl
ended_use k ((phase p, o) ∷ us) all = let rest = ended_use k us all.1 in omega (arith, rest)
ended_use k ((transfer t, o) ∷ us) all = absurd all.0
ended_use k ((flush, o) ∷ us) all = absurd all.0

module _ (r : Beyond) (app : App) (s : List ℕ) (a : OpenAt) (h : Holds (around r app)) (f : FoundOpen (around r app) app.devices.cards s a) where
  abbrev x : Around
  x = around r app

  abbrev pub taken_at : App → ℕ → ℕ
  taken_at y j = bit (slice_index_or y.store.region.taken j false)

  -- all jobs of its card are phases
  pub its_phases : AllByRecursion IsPhaseJob f.both.vsic.queue.posted × AllByRecursion (λ u. IsPhaseJob u.0) f.both.vsic.queue.unreaped
  its_phases = subst (λ (o : Option OpenChain). HasPhases o f.both.vsic.queue.posted f.both.vsic.queue.unreaped) f.its_log (subst (λ (z : CardKept). HasPhases z.log f.both.vsic.queue.posted f.both.vsic.queue.unreaped) f.kept f.both.card_fits.phases)

  module _ (app1 : App) (ring : Queue) (w : OpenChain) (lies : Layout) (log1 : Log) (o1 : Opened) (queue : Objects.Queue Job (Job × Outcome)) (touched : ℕ → Type 0) (reaches : Reaches r app app1 s r.history touched) (its_own : (j : ℕ) → touched j → IsItsFrame app f.both.log j)
      (changes : Changes app.devices.cards app1.devices.cards a.key (Some (with_polled ring w f.one))) (runs : IsRunning r.history f.both.log_fits.slot.blocks app1.store.region ring w lies log1 o1)
      (grant : w.grant ≡ f.chain.grant) (kind : log1.kind ≡ f.both.log.kind) (blocks : log1.blocks ≡ f.both.log.blocks) (on : o1.card ≡ f.opened.card) (size : ring.size ≡ f.one.vsic.ring.size)
      (posted : (y : Around) → Each (IsJob y (Some w)) ring.posted queue.posted) (unreaped : (y : Around) → Each (IsEnded y (Some w)) ring.unreaped queue.unreaped) (moved : queue.moved ≡ ring.moved)
      (phases : AllByRecursion IsPhaseJob queue.posted × AllByRecursion (λ u. IsPhaseJob u.0) queue.unreaped)
      (taken : (j : ℕ) → taken_at app j + object_covers j (Objects.log log1) ≡ taken_at app1 j + object_covers j (Objects.log f.both.log)) where
    abbrev one_then : StorageCard
    one_then = with_polled ring w f.one

    abbrev pub card_then : Vsic
    card_then = record f.both.vsic { queue = queue }

    abbrev pub machine_then : Machine
    machine_then = with_object (with_object r.machine s (Objects.log log1)) f.v (Objects.vsic card_then)

    here : key_at app.devices.cards f.both.card.key ≡ Some f.one
    here = ap (λ k. key_at app.devices.cards k) f.key_is ∙ f.here

    cards : Changes app.devices.cards app1.devices.cards f.both.card.key (Some one_then)
    cards = subst (λ k. Changes app.devices.cards app1.devices.cards k (Some one_then)) (sym f.key_is) changes

    only : (q : OpenChain) → f.one.log ≡ Some q → q.grant ≡ f.both.area.grant
    only q is = ap (λ (z : OpenChain). z.grant) (some_same f.one.log q f.chain is f.its_log) ∙ f.its_grant ∙ sym f.grant_is

    used : (k : List ℕ) → uses k (Objects.vsic card_then) ≡ uses k (Objects.vsic f.both.vsic)
    used k =
        let was = phases_use k f.both.vsic.queue.posted its_phases.0 in
        let were = ended_use k f.both.vsic.queue.unreaped its_phases.1 in
        let is = phases_use k queue.posted phases.0 in
        let are = ended_use k queue.unreaped phases.1 in
        omega (arith, was, were, is, are)

    open_same : (k : List ℕ) → is_open_on k (Objects.log log1) ≡ is_open_on k (Objects.log f.both.log)
    open_same k =
        let on_it : (o : Option Opened) → Bool = λ o. unwrap_or (option_map (λ (z : Opened). bytes_eq k z.card) o) false in
        ap on_it runs.is.opened ∙ ap (λ c. bytes_eq k c) on ∙ sym (ap on_it f.is_open)

    abbrev y : Around
    y = around (record r { machine = machine_then }) app1

    abbrev neither : List ℕ → Bool
    neither k = not (bytes_eq s k) && not (bytes_eq f.v k)

    keeps_rest : Keeps neither any_label (Spares touched) x y
    keeps_rest = keeps r app app1 s f.v h f.both r.history touched reaches its_own f.one one_then here cards only log1 card_then used (λ k other. open_same k) taken

    one_open : bit (is_some one_then.log) ≡ open_count machine_then f.v
    one_open =
        let count_then = opened_then r app app1 s f.v h f.both r.history touched reaches its_own f.one one_then here cards only log1 card_then used (λ k other. open_same k) taken in
        let same : bit (is_open_on f.v (Objects.log log1)) ≡ bit (is_open_on f.v (Objects.log f.both.log)) = ap bit (open_same f.v) in
        let one : open_count r.machine f.v ≡ 1 = sym f.both.card_fits.log ∙ ap (λ (k : CardKept). bit (is_some k.log)) f.kept ∙ ap (λ (o : Option OpenChain). bit (is_some o)) f.its_log in
        omega (arith, count_then, same, one)

    card_now : IsCard y f.v f.both.card card_then
    card_now =
        let k = f.both.card_fits in
        let inside : Within any_label (Spares touched) (Objects.vsic f.both.vsic) = within_spares touched (Objects.vsic f.both.vsic) (λ j is. refl) in
        record {
          its_kind = k.its_kind;
          card = kept_card one_then;
          kept = ap (λ (o : Option StorageCard). option_map kept_card o) cards.changed;
          size = k.size ∙ ap (λ (z : CardKept). z.ring.size) f.kept ∙ sym size;
          posted = posted y;
          unreaped = unreaped y;
          moved = moved;
          bound = subst (λ (z : CardKept). Each (λ g n. slice_get r.numbers n ≡ Some g) z.bound f.both.vsic.bound) f.kept k.bound;
          pace = subst (λ (z : CardKept). Both (IsPaced y) z.pace f.both.vsic.pace) f.kept (paced_kept neither any_label (Spares touched) x y keeps_rest k.card.pace f.both.vsic.pace inside.2 k.pace);
          door = subst (λ (z : CardKept). Both (IsWatched y) z.door f.both.vsic.door) f.kept (watched_kept neither any_label (Spares touched) x y keeps_rest k.card.door f.both.vsic.door inside.3 k.door);
          log = one_open;
          phases = phases;
        }

    opened_now : IsOpened y f.both.area.grant f.both.log_fits.slot.blocks log1 o1
    opened_now = record {
      key = f.both.card.key;
      card = record { cap = f.both.card; there = ap (λ (l : List ℕ). value_at app1.labels l) (on ∙ f.on) ∙ ap (λ (ls : Labels). value_at ls f.v) reaches.labels ∙ f.both.card_label; its_kind = f.both.card_fits.its_kind; its_key = refl };
      its_card = kept_card one_then;
      kept = ap (λ (o : Option StorageCard). option_map kept_card o) cards.changed;
      chain = w;
      on = refl;
      its_grant = grant ∙ f.its_grant ∙ sym f.grant_is;
      bound = subst (λ n. is_bound n f.one.vsic.bound ≡ true) (sym f.grant_is) f.bound;
      lies = lies;
      runs = runs;
    }

    log_now : IsLog y s f.both.area log1
    log_now = let k = f.both.log_fits in record {
      slot = k.slot;
      its_kind = k.its_kind;
      kept = ap (λ (es : AreaList). lookup (nat_eq f.both.area.grant) es) reaches.areas ∙ k.kept;
      there = k.there;
      same_kind = k.same_kind ∙ sym kind;
      no_raw = λ raw. k.no_raw (sym kind ∙ raw);
      blocks = blocks ∙ k.blocks;
      two = k.two;
      opened = subst (λ (z : Option Opened). IsOpenedAs y f.both.area.grant k.slot.blocks log1 z) (sym runs.is.opened) opened_now;
      listed = running_listed r.history k.slot.blocks app1.store.region ring w lies log1 o1 runs;
      full = λ whole. runs.full;
    }

    -- all that its labels stand for
    pub goes_on_holds : Holds y
    goes_on_holds = logged r app app1 s f.v h f.both r.history touched reaches its_own f.one one_then here cards only log1 card_then used (λ k other. open_same k) taken card_now log_now
