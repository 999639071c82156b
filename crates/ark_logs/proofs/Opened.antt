-- A log that was opened on a card, as its application has it.
use Rattle.std.proofs.Common.{◌≡◌, inl, ℕ, ◌+◌, ◌==◌, ◌||◌, ◌&&◌, not, Bool, true, false, List, [], ◌∷◌, ◌++◌, length, nat_eq, replicate, refl, sym, ◌∙◌, ap, subst, arith, bytes_eq}
use Rattle.std.specs.Prelude.{Option, Some, None, Ok, if◌then◌else◌, is_some, option_map, slice_get, slice_index_or, unwrap_or}
use Rattle.std.specs.List.{AllByRecursion}
use Rattle.std.specs.Map.{lookup}
use Rattle.std.proofs.lemmas.Bool.Decides.{nat_tests}
use Rattle.std.proofs.lemmas.Bool.{false≢true}
use Rattle.ark_base.specs.declared.kind.Kind.{Kind}
use Rattle.ark_base.specs.declared.kind.Outcome.{Outcome}
use Rattle.ark_objects.specs.Held.{at as slot, Changes}
use Rattle.ark_caps.specs.Labels.{value_at}
use Rattle.ark_region.specs.Frames.{Apart, Covers, Piece, Space, bytes_of, frames_of, put}
use Rattle.ark_vic.specs.declared.descriptor.Descriptor.{Descriptor}
use Rattle.ark_vic.specs.declared.descriptor.Completion.{Completion}
use Rattle.ark_vsic.specs.Card as vsic_card
use Rattle.ark_caladan.specs.Chain.{Log, Opened}
use Rattle.ark_caladan.specs.Open.{Layout}
use Rattle.ark_log.specs.Buffers.{IsNewBuffer}
use Rattle.ark_log.specs.Open.{OpenChain}
use Rattle.ark_running.specs.Opened.{newly_opened, opened_log}
use Rattle.ark_running.specs.Running.{IsRunning}
use Rattle.ark_running.proofs.Framing.{running_listed}
use Rattle.ark_machine.specs.Objects
use Rattle.ark_machine.specs.Objects.{Job, Object, Vsic, opened_frames}
use Rattle.ark_machine.specs.Machine.{with_object}
use Rattle.ark_machine.specs.Cards.{bound_with}
use Rattle.ark_machine.specs.Control.{is_open_on}
use Rattle.ark_held.specs.Totals.{bit, covers, object_covers, open_count, total, uses}
use Rattle.ark_held.specs.Kept.{CardKept}
use Rattle.ark_held.specs.Words.{AreaList, Labels}
use Rattle.ark_held.specs.Rings.{ChangesCard, card_kept, kept_card}
use Rattle.ark_held.specs.Around.{Around, Both, Each}
use Rattle.ark_held.specs.Areas.{IsLog, IsOpened}
use Rattle.ark_held.specs.Cards.{IsPhaseJob, IsCard, IsEnded, IsJob, IsPaced, IsWatched}
use Rattle.ark_held.specs.Held.{Holds}
use Rattle.ark_held.specs.Keeps.{Keeps, Within, any_label}
use Rattle.ark_held.specs.Beyond.{Beyond, around}
use Rattle.ark_held.specs.declared.app.App.{App}
use Rattle.ark_held.specs.declared.card.StorageCard.{StorageCard}
use Rattle.ark_held.proofs.Lists.{by_test, each_length, name_other, name_same, other_name}
use Rattle.ark_held.proofs.Besides.{same_history}
use Rattle.ark_held.proofs.Covering.{Spares, within_spares}
use Rattle.ark_held.proofs.Keeping.{paced_kept, watched_kept}
use Rattle.ark_held.proofs.Logged as logged_laws
use Rattle.ark_held.proofs.BothPut.{HasOpen}
use Rattle.ark_held.proofs.Logged.{IsItsFrame, Reaches, logged}
use Rattle.ark_held.proofs.Taking.{taken_bit}
use Rattle.ark_own.specs.Keys.{card_key}
use Rattle.ark_own.proofs.Bindings.{each_with}
use Rattle.ark_own.proofs.OfCards as cards
use Rattle.ark_own.proofs.OfCards.{HasCard}
use Rattle.ark_logs.specs.declared.areas.LogArea.{LogArea}
use Rattle.ark_logs.specs.Opening.{KeepsRest, with_log}
use Rattle.ark_logs.proofs.OfAreas.{HasLog}

bound_now : (g : ℕ) (bs : List ℕ) → vsic_card.is_bound g (vsic_card.bound_with g bs) ≡ true
bound_now g bs = by_test (λ t. vsic_card.is_bound g bs ≡ t → vsic_card.is_bound g (if t then bs else bs ++ g ∷ []) ≡ true) (vsic_card.is_bound g bs) (λ yes q. q) (λ no q. at_end bs) refl
  where
    or_true : (b : Bool) → (b || true) ≡ true
    or_true true = refl
    or_true false = refl

    at_end : (cs : List ℕ) → vsic_card.is_bound g (cs ++ g ∷ []) ≡ true
    at_end [] = let same : (g == g) ≡ true = grind (arith, nat_tests) in rw same refl
    at_end (c ∷ cs) = rw (at_end cs) (or_true (c == g))

module _ (r : Beyond) (app app1 : App) (s v : List ℕ) (h : Holds (around r app)) (k : Kind) (area : LogArea) (key : ℕ) (log : HasLog (around r app) k s area) (is : Ok key ≡ card_key app.labels v) (card : HasCard (around r app) v key) (closed : log.log.opened ≡ None)
    (one : StorageCard) (here : slot app.devices.cards key ≡ Some one) (free : one.log ≡ None) (posted : one.vsic.ring.posted ≡ []) (unreaped : one.vsic.ring.unreaped ≡ [])
    (space : Space) (header : Piece) (whole : header.len ≡ 512) (new : IsNewBuffer app.store.region space (replicate 512 0) header) (chain : OpenChain) (grant : chain.grant ≡ area.grant) (header_at : chain.header_at ≡ header.start)
    (taken : app1.store.region.taken ≡ space.taken) (frames : length app1.store.region.taken ≡ length app.store.region.taken) (others : (p : Piece) → Apart header p → bytes_of app1.store.region p ≡ bytes_of space p)
    (changes : ChangesCard app.devices.cards app1.devices.cards key (with_log area.grant chain)) (rest : KeepsRest app app1) (lies : Layout)
    (runs : IsRunning r.history log.fits.slot.blocks app1.store.region one.vsic.ring chain lies (opened_log v chain log.log) (newly_opened v chain)) where
  abbrev log1 : Log
  log1 = opened_log v chain log.log

  abbrev vsic1 : Vsic
  vsic1 = bound_with log.held.serial card.vsic

  abbrev one1 : StorageCard
  one1 = with_log area.grant chain one

  abbrev touched : ℕ → Type 0
  touched = Covers header

  abbrev both : HasOpen (around r app) s v
  both = record {
    held_log = log.held;
    log = log.log;
    area = log.cap;
    there_log = log.there;
    object_log = log.object;
    area_label = log.label;
    log_fits = log.fits;
    held_card = card.held;
    vsic = card.vsic;
    card = card.cap;
    there_card = card.there;
    object_card = card.object;
    card_label = card.label;
    card_fits = card.fits;
  }

  reaches : Reaches r app app1 s r.history touched
  reaches = record {
    buffers = rest.buffers;
    labels = rest.labels;
    areas = rest.areas;
    doors = rest.doors;
    rates = rest.rates;
    nets = rest.nets;
    base = refl;
    beside = λ l t apart there. same_history r.history t.blocks;
    frames = frames;
    bytes = λ p spares. others p spares ∙ new.others p spares;
  }

  false_of : (b : Bool) → (b ≡ true → ⊥) → b ≡ false
  false_of true never = absurd (never refl)
  false_of false never = refl

  its : (j : ℕ) → touched j → IsItsFrame app log.log j
  its j has = inl (false_of (slice_index_or app.store.region.taken j false) (new.place.here.free j has.0 has.1))

  one_here : slot app.devices.cards card.cap.key ≡ Some one
  one_here = ap (λ i. slot app.devices.cards i) card.key_is ∙ here

  one_changes : Changes app.devices.cards app1.devices.cards card.cap.key (Some one1)
  one_changes = subst (λ (i : ℕ). Changes app.devices.cards app1.devices.cards i (Some one1)) (sym card.key_is) (changes one here)

  only : (q : OpenChain) → one.log ≡ Some q → q.grant ≡ log.cap.grant
  only q there = absurd (false≢true (ap is_some (sym free ∙ there)))

  uses_same : (l : List ℕ) → uses l (Objects.vsic vsic1) ≡ uses l (Objects.vsic card.vsic)
  uses_same l = refl

  opens : (l : List ℕ) → bytes_eq v l ≡ false → is_open_on l (Objects.log log1) ≡ is_open_on l (Objects.log log.log)
  opens l apart = name_other l v (λ e. other_name v l apart (sym e)) ∙ sym (ap (λ (o : Option Opened). unwrap_or (option_map (λ z. bytes_eq l z.card) o) false) closed)

  taken_then : (j : ℕ) → bit (slice_index_or app.store.region.taken j false) + object_covers j (Objects.log log1) ≡ bit (slice_index_or app1.store.region.taken j false) + object_covers j (Objects.log log.log)
  taken_then j =
      let step = taken_bit app.store.region.taken header.start (frames_of header.len) j new.place.here in
      let one_frame : frames_of header.len ≡ 1 = ap (λ n. frames_of n) whole in
      let size : bit (covers j (header.start, frames_of header.len)) ≡ bit (covers j (chain.header_at, 1)) = ap (λ n. bit (covers j (header.start, n))) one_frame ∙ ap (λ n. bit (covers j (n, 1))) (sym header_at) in
      let now : bit (slice_index_or app1.store.region.taken j false) ≡ bit (slice_index_or (put app.store.region.taken header.start (replicate (frames_of header.len) true)) j false) = ap (λ (bs : List Bool). bit (slice_index_or bs j false)) (taken ∙ new.taken) in
      let none : object_covers j (Objects.log log.log) ≡ 0 = ap (λ (o : Option Opened). total (λ f. bit (covers j f)) (opened_frames o)) closed in
      omega (arith, step, size, now, none)

  abbrev pub y : Around
  y = around (record r { machine = with_object (with_object r.machine s (Objects.log log1)) v (Objects.vsic vsic1) }) app1

  keeps : Keeps (λ l. not (bytes_eq s l) && not (bytes_eq v l)) any_label (Spares touched) (around r app) y
  keeps = logged_laws.keeps r app app1 s v h both r.history touched reaches its one one1 one_here one_changes only log1 vsic1 uses_same opens taken_then

  abbrev entry : card.fits.card ≡ kept_card one
  entry = cards.entry_same app v key is one here r card

  inside : Within any_label (Spares touched) (Objects.vsic card.vsic)
  inside = within_spares touched (Objects.vsic card.vsic) (λ j has. refl)

  none_of : {X : Type 0} (xs : List X) → length xs ≡ 0 → xs ≡ []
  none_of [] none = refl
  none_of (x ∷ xs) none = absurd (let z : ⊥ = omega (arith, none) in z)

  none_posted : card.vsic.queue.posted ≡ []
  none_posted =
      let long = each_length (IsJob (around r app) card.fits.card.log) card.fits.card.ring.posted card.vsic.queue.posted card.fits.posted in
      let none : length card.fits.card.ring.posted ≡ 0 = ap (λ (z : CardKept). length z.ring.posted) entry ∙ ap (λ (ds : List Descriptor). length ds) posted in
      none_of card.vsic.queue.posted (omega (arith, long, none))

  none_unreaped : card.vsic.queue.unreaped ≡ []
  none_unreaped =
      let long = each_length (IsEnded (around r app) card.fits.card.log) card.fits.card.ring.unreaped card.vsic.queue.unreaped card.fits.unreaped in
      let none : length card.fits.card.ring.unreaped ≡ 0 = ap (λ (z : CardKept). length z.ring.unreaped) entry ∙ ap (λ (us : List Completion). length us) unreaped in
      none_of card.vsic.queue.unreaped (omega (arith, long, none))

  bound_before : Each (λ g n. slice_get r.numbers n ≡ Some g) one.vsic.bound card.vsic.bound
  bound_before = subst (λ (z : CardKept). Each (λ g n. slice_get r.numbers n ≡ Some g) z.bound card.vsic.bound) entry card.fits.bound

  counted : open_count y.machine v ≡ 1
  counted =
      let all = logged_laws.opened_then r app app1 s v h both r.history touched reaches its one one1 one_here one_changes only log1 vsic1 uses_same opens taken_then in
      let mine : bit (is_open_on v (Objects.log log1)) ≡ 1 = ap bit (name_same v v refl) in
      let none : bit (is_open_on v (Objects.log log.log)) ≡ 0 = ap (λ (o : Option Opened). bit (unwrap_or (option_map (λ z. bytes_eq v z.card) o) false)) closed in
      let was : open_count r.machine v ≡ 0 = sym card.fits.log ∙ ap (λ (z : CardKept). bit (is_some z.log)) entry ∙ ap (λ (o : Option OpenChain). bit (is_some o)) free in
      omega (arith, all, mine, none, was)

  kept_now : card_kept app1.devices.cards card.cap.key ≡ Some (kept_card one1)
  kept_now = ap (λ o. option_map kept_card o) one_changes.changed

  card_now : IsCard y v card.cap vsic1
  card_now = record {
    its_kind = card.fits.its_kind;
    card = kept_card one1;
    kept = kept_now;
    size = card.fits.size ∙ ap (λ (z : CardKept). z.ring.size) entry;
    posted = subst (λ (ds : List Descriptor). Each (IsJob y (Some chain)) ds card.vsic.queue.posted) (sym posted) (subst (λ (js : List Job). Each (IsJob y (Some chain)) [] js) (sym none_posted) tt);
    unreaped = subst (λ (us : List Completion). Each (IsEnded y (Some chain)) us card.vsic.queue.unreaped) (sym unreaped) (subst (λ (js : List (Job × Outcome)). Each (IsEnded y (Some chain)) [] js) (sym none_unreaped) tt);
    moved = card.fits.moved ∙ ap (λ (z : CardKept). z.ring.moved) entry;
    bound = each_with (around r app) h.one log.held.serial area.grant (log.serial ∙ ap (λ n. Some n) log.grant_is) one.vsic.bound card.vsic.bound bound_before;
    pace = subst (λ (z : CardKept). Both (IsPaced y) z.pace card.vsic.pace) entry (paced_kept _ any_label (Spares touched) (around r app) y keeps card.fits.card.pace card.vsic.pace inside.2 card.fits.pace);
    door = subst (λ (z : CardKept). Both (IsWatched y) z.door card.vsic.door) entry (watched_kept _ any_label (Spares touched) (around r app) y keeps card.fits.card.door card.vsic.door inside.3 card.fits.door);
    log = sym counted;
    phases = (subst (λ (js : List Job). AllByRecursion IsPhaseJob js) (sym none_posted) tt, subst (λ (us : List (Job × Outcome)). AllByRecursion (λ u. IsPhaseJob u.0) us) (sym none_unreaped) tt);
  }

  opened_now : IsOpened y log.cap.grant log.fits.slot.blocks log1 (newly_opened v chain)
  opened_now = record {
    key = card.cap.key;
    card = record { cap = card.cap; there = ap (λ (ls : Labels). value_at ls v) rest.labels ∙ card.label; its_kind = card.fits.its_kind; its_key = refl };
    its_card = kept_card one1;
    kept = kept_now;
    chain = chain;
    on = refl;
    its_grant = grant ∙ sym log.grant_is;
    bound = ap (λ g. vsic_card.is_bound g (vsic_card.bound_with area.grant one.vsic.bound)) log.grant_is ∙ bound_now area.grant one.vsic.bound;
    lies = lies;
    runs = runs;
  }

  log_now : IsLog y s log.cap log1
  log_now = record {
    slot = log.fits.slot;
    its_kind = log.fits.its_kind;
    kept = ap (λ (es : AreaList). lookup (nat_eq log.cap.grant) es) rest.areas ∙ log.fits.kept;
    there = log.fits.there;
    same_kind = log.fits.same_kind;
    no_raw = log.fits.no_raw;
    blocks = log.fits.blocks;
    two = log.fits.two;
    opened = opened_now;
    listed = running_listed r.history log.fits.slot.blocks app1.store.region one.vsic.ring chain lies log1 (newly_opened v chain) runs;
    full = λ whole. runs.full;
  }

  -- the machine has it open, and labels and tables stand for that
  pub opened : Holds y
  opened = logged r app app1 s v h both r.history touched reaches its one one1 one_here one_changes only log1 vsic1 uses_same opens taken_then card_now log_now
