-- An open log and the card on which it is open change together, with the device and the bytes of the log's buffers.
use Rattle.std.proofs.Common.{◌≡◌, inl, inr, ℕ, Bool, true, false, List, length, map, refl, sym, ◌∙◌, ap, subst, arith, bytes_eq}
use Rattle.std.specs.Prelude.{Option, Some, slice_index_or}
use Rattle.std.proofs.lemmas.Bool.{cases_eq}
use Rattle.ark_media.specs.Journal.{History}
use Rattle.ark_caps.specs.Labels.{value_at}
use Rattle.ark_caps.specs.declared.capability.Capability.{Capability}
use Rattle.ark_caps.specs.declared.capability.CapKind.TheVariants as cap_kind
use Rattle.ark_region.specs.Frames.{Piece, Space, bytes_of}
use Rattle.ark_caladan.specs.Chain.{Log, Opened}
use Rattle.ark_caladan.specs.Open.{Layout}
use Rattle.ark_log.specs.Open.{OpenChain}
use Rattle.ark_running.specs.Running.{IsRunning}
use Rattle.ark_running.proofs.Framing.{running_listed}
use Rattle.ark_vsic.specs.Card.{is_bound}
use Rattle.ark_table.specs.Slots.{Slot}
use Rattle.ark_machine.specs.Objects
use Rattle.ark_machine.specs.Objects.{Object, Vsic}
use Rattle.ark_machine.specs.Machine.{Machine, Held}
use Rattle.ark_machine.specs.Control.{is_open_on, is_socket_on}
use Rattle.ark_held.specs.Totals.{bit, uses, object_covers, open_count}
use Rattle.ark_held.specs.Kept.{CardKept}
use Rattle.ark_held.specs.Around.{Around, Both, slot_at}
use Rattle.ark_held.specs.Areas.{IsLog, IsOpened, IsOpenedAs}
use Rattle.ark_held.specs.Cards.{IsCard, IsEnded, IsJob, IsWatched}
use Rattle.ark_held.specs.Held.{Holds, has_key}
use Rattle.ark_held.specs.Keeps.{Keeps, IsOpenOn, JobWithin, SameAt, StaysOpen, Within, any_label}
use Rattle.ark_held.specs.Ringing.{Sets}
use Rattle.ark_held.proofs.Lists.{each_kept, other_name, some_same}
use Rattle.ark_held.proofs.BothPut.{HasOpen, apart, both_label, both_put, both_serial, both_then, count_same, machine_is, neither, then_other, touches}
use Rattle.ark_held.proofs.Covering.{Spares, other_spared, within_spares}
use Rattle.ark_held.proofs.Ending.{StandsFor}
use Rattle.ark_held.proofs.Keeping.{ended_kept, job_kept, paced_kept, watched_kept}
use Rattle.ark_held.proofs.Opens.{stays_same}
use Rattle.ark_held.proofs.Spreading.{spread_same}
use Rattle.ark_held.proofs.Turning.{turned}

module _ (x : Around) (s v : List ℕ) (h : Holds x) (both : HasOpen x s v) (log1 : Log) (vsic1 : Vsic) (opens : (k : List ℕ) → is_open_on k (Objects.log log1) ≡ is_open_on k (Objects.log both.log)) (used : (k : List ℕ) → uses k (Objects.vsic vsic1) ≡ uses k (Objects.vsic both.vsic)) (covered : (j : ℕ) → object_covers j (Objects.log log1) ≡ object_covers j (Objects.log both.log))
    (history : History) (base : history.base ≡ x.history.base) (beside : (l : List ℕ) (t : Slot) → bytes_eq s l ≡ false → slot_at x l ≡ Some t → SameAt x.history history t.blocks)
    (memory : Space) (taken : memory.taken ≡ x.tables.memory.taken) (bytes : (p : Piece) → Spares (λ j. object_covers j (Objects.log both.log) ≡ 1) p → bytes_of memory p ≡ bytes_of x.tables.memory p)
    (k now : CardKept) (was : x.tables.cards both.card.key ≡ Some k) (cards : ℕ → Option CardKept) (sets : Sets both.card.key now x.tables.cards cards) (only : (q : OpenChain) → k.log ≡ Some q → q.grant ≡ both.area.grant) where
  abbrev touched : ℕ → Type 0
  touched j = object_covers j (Objects.log both.log) ≡ 1

  abbrev then_with : Machine → Around
  then_with m = record x { history = history; machine = m; tables = record x.tables { memory = memory; cards = cards } }

  -- what is around the application then
  abbrev pub moved : Around
  moved = then_with (both_then x s v h both log1 vsic1)

  abbrev z : Around
  z = then_with (record x.machine { held = map (both_put x s v h both log1 vsic1) x.machine.held })

  z_is : z ≡ moved
  z_is = ap then_with (machine_is x s v h both log1 vsic1)

  logs_stay : (l i : List ℕ) (d c : Capability) (w : CardKept) → neither s v l ≡ true → value_at x.labels l ≡ Some d → any_label i ≡ true → value_at x.labels i ≡ Some c → c.kind ≡ cap_kind.Vsic → x.tables.cards c.key ≡ Some w → IsOpenOn d.grant w → StaysOpen d.grant w (cards c.key)
  logs_stay l i d c w stays at_l named is kind there on = elim (cases_eq c.key both.card.key) [
    | inl mine ↦
        let kept : k ≡ w = some_same (x.tables.cards c.key) k w (ap x.tables.cards mine ∙ was) there in
        let grant = only on.0 (ap (λ (y : CardKept). y.log) kept ∙ on.1) in
        absurd (other_name s l (apart x s v h both l stays).0 (h.own.grants s l both.area d both.area_label at_l (sym grant ∙ on.2)))
    | inr other ↦ stays_same d.grant w (x.tables.cards c.key) (cards c.key) (sets.others c.key other) there
  ]

  keeps_then : Keeps (neither s v) any_label (Spares touched) x z
  keeps_then = record {
    now = omega arith;
    numbers = λ i n is. is;
    frames = ap (λ (ts : List Bool). length ts) taken;
    base = base;
    bytes = bytes;
    granted = λ l c i is old. is;
    spread = λ i g a old is. spread_same x.areas g a is;
    labels = λ l c named is. is;
    places = λ l c named is kind. refl;
    logs = logs_stay;
    buffers = λ l c stays is kind. refl;
    cards = λ l c stays is kind. sets.others c.key (λ q. other_name v l (apart x s v h both l stays).1 (h.own.keys v l both.card c both.card_label is (both.card_fits.its_kind ∙ sym kind) (ap has_key both.card_fits.its_kind) (sym q)));
    nets = λ l c stays is kind. refl;
    doors = λ l c stays is kind. refl;
    rates = λ l c stays is kind. refl;
    sockets = λ l c stays is kind. refl;
    rules = λ l c stays is kind. refl;
    areas = λ l c stays is kind. refl;
    slots = λ l stays. refl;
    history = λ l t stays is. beside l t (apart x s v h both l stays).0 is;
    lent = λ l stays. count_same x s v h both log1 vsic1 (uses l) (used l) refl;
    opened = λ l stays. count_same x s v h both log1 vsic1 (λ o. bit (is_open_on l o)) refl (ap bit (opens l));
    socketed = λ l stays. count_same x s v h both log1 vsic1 (λ o. bit (is_socket_on l o)) refl refl;
  }

  -- all but the two stay
  pub keeps : Keeps (neither s v) any_label (Spares touched) x moved
  keeps = subst (λ (w : Around). Keeps (neither s v) any_label (Spares touched) x w) z_is keeps_then

  one_open : open_count moved.machine v ≡ open_count x.machine v
  one_open = ap (λ (m : Machine). open_count m v) (sym (machine_is x s v h both log1 vsic1)) ∙ count_same x s v h both log1 vsic1 (λ o. bit (is_open_on v o)) refl (ap bit (opens v))

  module _ (q : OpenChain) (o1 : Opened) (lies : Layout) (fits : StandsFor x v now vsic1) (has : now.log ≡ Some q) (grant : q.grant ≡ both.area.grant) (bound : is_bound both.area.grant now.bound ≡ true) (on : o1.card ≡ v)
      (kind : log1.kind ≡ both.log.kind) (blocks : log1.blocks ≡ both.log.blocks) (runs : IsRunning history both.log_fits.slot.blocks memory now.ring q lies log1 o1) where
    inside : Within any_label (Spares touched) (Objects.vsic vsic1)
    inside = within_spares touched (Objects.vsic vsic1) (λ j is. refl)

    -- the door that watches the card does so still
    pub door_now : Both (IsWatched moved) now.door vsic1.door
    door_now = watched_kept (neither s v) any_label (Spares touched) x moved keeps now.door vsic1.door inside.3 fits.door

    card_now : IsCard moved v both.card vsic1
    card_now =
        let w = inside in
        record {
          its_kind = both.card_fits.its_kind;
          card = now;
          kept = sets.here;
          size = fits.size;
          posted = each_kept (IsJob x now.log) (IsJob moved now.log) (JobWithin any_label (Spares touched)) (job_kept (neither s v) any_label (Spares touched) x moved keeps now.log) now.ring.posted vsic1.queue.posted w.0 fits.posted;
          unreaped = each_kept (IsEnded x now.log) (IsEnded moved now.log) (λ u. JobWithin any_label (Spares touched) u.0) (ended_kept (neither s v) any_label (Spares touched) x moved keeps now.log) now.ring.unreaped vsic1.queue.unreaped w.1 fits.unreaped;
          moved = fits.moved;
          bound = fits.bound;
          pace = paced_kept (neither s v) any_label (Spares touched) x moved keeps now.pace vsic1.pace w.2 fits.pace;
          door = door_now;
          log = fits.log ∙ sym one_open;
          phases = fits.phases;
        }

    opened_now : IsOpened moved both.area.grant both.log_fits.slot.blocks log1 o1
    opened_now = record {
      key = both.card.key;
      card = record { cap = both.card; there = ap (λ (l : List ℕ). value_at x.labels l) on ∙ both.card_label; its_kind = both.card_fits.its_kind; its_key = refl };
      its_card = now;
      kept = sets.here;
      chain = q;
      on = has;
      its_grant = grant;
      bound = bound;
      lies = lies;
      runs = runs;
    }

    log_now : IsLog moved s both.area log1
    log_now = let f = both.log_fits in record {
      slot = f.slot;
      its_kind = f.its_kind;
      kept = f.kept;
      there = f.there;
      same_kind = f.same_kind ∙ sym kind;
      no_raw = λ raw. f.no_raw (sym kind ∙ raw);
      blocks = blocks ∙ f.blocks;
      two = f.two;
      opened = subst (λ (w : Option Opened). IsOpenedAs moved both.area.grant f.slot.blocks log1 w) (sym runs.is.opened) opened_now;
      listed = running_listed history f.slot.blocks memory now.ring q lies log1 o1 runs;
      full = λ whole. runs.full;
    }

    -- what its labels stand for
    pub both_holds : Holds moved
    both_holds = subst (λ (w : Around). Holds w) z_is (turned x z h (both_put x s v h both log1 vsic1) (neither s v) (Spares touched) keeps_then (both_label x s v h both log1 vsic1) (both_serial x s v h both log1 vsic1)
        (λ p g yes inn m. record {
          same = ap (λ (w : Held). w.object) (then_other x s v h both log1 vsic1 g (ap (λ l. bytes_eq s l) m.label ∙ (apart x s v h both p.0 yes).0) (ap (λ l. bytes_eq v l) m.label ∙ (apart x s v h both p.0 yes).1));
          within = within_spares touched g.object (λ j own. other_spared x h s both.held_log both.there_log j (ap (object_covers j) both.object_log ∙ own) g inn (ap (λ l. bytes_eq s l) m.label ∙ (apart x s v h both p.0 yes).0));
        })
        (touches x s v h both log1 vsic1 z (subst (λ (w : Around). IsCard w v both.card vsic1) (sym z_is) card_now) (subst (λ (w : Around). IsLog w s both.area log1) (sym z_is) log_now)) refl refl refl refl refl (λ l. refl)
        (λ j. count_same x s v h both log1 vsic1 (object_covers j) refl (covered j) ∙ h.taken j ∙ ap (λ (ts : List Bool). bit (slice_index_or ts j false)) (sym taken)))
