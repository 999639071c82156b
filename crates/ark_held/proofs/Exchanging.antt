-- The ring of a storage card and the right to a buffer change together: what stays, and what labels stand for then.
use Rattle.std.proofs.Common.{◌≡◌, ℕ, ◌+◌, Bool, false, not, ◌&&◌, List, sym, ◌∙◌, ap, subst, arith, bytes_eq, None}
use Rattle.std.specs.Prelude.{Option, Some, is_some, is_none, option_map, slice_get}
use Rattle.ark_base.specs.declared.kind.Outcome.{Outcome}
use Rattle.ark_objects.specs.Held.{at as key_at, Changes}
use Rattle.ark_caps.specs.Labels.{value_at}
use Rattle.ark_caps.specs.declared.capability.Capability.{Capability}
use Rattle.ark_caps.specs.declared.capability.CapKind.TheVariants as cap_kind
use Rattle.ark_region.specs.Frames.{Piece}
use Rattle.ark_vic.specs.Queue.{Queue}
use Rattle.ark_machine.specs.Objects
use Rattle.ark_machine.specs.Objects.{Object, Vsic, Buffer, Job}
use Rattle.ark_machine.specs.Machine.{Held, at, with_object}
use Rattle.ark_machine.specs.Control.{is_open_on, is_socket_on}
use Rattle.ark_held.specs.Totals.{bit, uses, object_covers, lent_count}
use Rattle.ark_held.specs.Kept.{CardKept}
use Rattle.ark_held.specs.Stored.{place_kept}
use Rattle.ark_held.specs.Rings.{kept_card, card_kept}
use Rattle.ark_held.specs.Nets.{net_kept}
use Rattle.ark_held.specs.Around.{Around, Each, Both}
use Rattle.ark_held.specs.Cards.{IsBuffer, IsCard, IsJob, IsEnded, IsPaced, IsWatched}
use Rattle.ark_held.specs.Held.{Holds, has_key}
use Rattle.ark_held.specs.Keeps.{Keeps, JobWithin, Within, any_label, any_piece}
use Rattle.ark_held.specs.Beyond.{Beyond, around}
use Rattle.ark_held.specs.declared.app.App.{App}
use Rattle.ark_held.specs.declared.buffer.Buffer as kept
use Rattle.ark_held.specs.declared.card.StorageCard.{StorageCard}
use Rattle.ark_held.specs.declared.nets.Nets.{Nets}
use Rattle.ark_held.proofs.Lists.{other_name, some_same, each_kept}
use Rattle.ark_held.proofs.Keeping.{job_kept, ended_kept, paced_kept, watched_kept}
use Rattle.ark_held.proofs.Opens.{shut_phases, card_logs_by, shut_stays}
use Rattle.ark_held.proofs.Staying.{within}
use Rattle.ark_held.proofs.Swapping as swapping
use Rattle.ark_held.proofs.Swapping.{Swaps}

-- a card and a buffer under their labels
pub record HasBoth (x : Around) (v b : List ℕ) : Type 0 where
  pub held : Held
  pub vsic : Vsic
  pub card : Capability
  pub there : at x.machine v ≡ Some held
  pub object : held.object ≡ Objects.vsic vsic
  pub card_label : value_at x.labels v ≡ Some card
  pub card_fits : IsCard x v card vsic
  pub cap : Capability
  pub buffer_label : value_at x.labels b ≡ Some cap
  pub buffer : Buffer
  pub buffer_fits : IsBuffer x b cap buffer

-- the card with another ring
abbrev pub with_ring : Queue → StorageCard → StorageCard
with_ring q one = record one { vsic = record one.vsic { ring = q } }

abbrev pub with_queue : Objects.Queue Job (Job × Outcome) → Vsic → Vsic
with_queue q v = record v { queue = q }

module _ (r : Beyond) (app app1 : App) (v b : List ℕ) (h : Holds (around r app)) (both : HasBoth (around r app) v b) (one : StorageCard) (here : key_at app.devices.cards both.card.key ≡ Some one) (shut : one.log ≡ None) (lent : kept.Buffer)
    (was : key_at app.store.buffers both.cap.key ≡ Some lent) (ring : Queue) (queue : Objects.Queue Job (Job × Outcome)) (right : Option Piece)
    (cards : Changes app.devices.cards app1.devices.cards both.card.key (Some (with_ring ring one))) (buffers : Changes app.store.buffers app1.store.buffers both.cap.key (Some (record lent { buf = right })))
    (region : app1.store.region ≡ app.store.region) (labels : app1.labels ≡ app.labels) (doors : app1.devices.doors ≡ app.devices.doors) (rates : app1.devices.rates ≡ app.devices.rates) (nets : app1.devices.nets ≡ app.devices.nets) (areas : app1.areas ≡ app.areas)
    (used : (k : List ℕ) → bytes_eq k b ≡ false → uses k (Objects.vsic (with_queue queue both.vsic)) ≡ uses k (Objects.vsic both.vsic)) where
  abbrev x : Around
  x = around r app

  abbrev o : Object
  o = Objects.vsic (with_queue queue both.vsic)

  abbrev pub y : Around
  y = around (record r { machine = with_object r.machine v o }) app1

  abbrev rest : List ℕ → Bool
  rest k = not (bytes_eq v k) && not (bytes_eq b k)

  other_card : (k : List ℕ) (c : Capability) → bytes_eq v k ≡ false → value_at app.labels k ≡ Some c → c.kind ≡ cap_kind.Vsic → card_kept app1.devices.cards c.key ≡ card_kept app.devices.cards c.key
  other_card k c apart is kind = ap (λ z. option_map kept_card z)
      (cards.others c.key (λ e. other_name v k apart (h.own.keys v k both.card c both.card_label is (both.card_fits.its_kind ∙ sym kind) (ap has_key both.card_fits.its_kind) (sym e))))

  abbrev swaps : Swaps r app app1 v b o right
  swaps = record {
    holds = h;
    held = both.held;
    there = both.there;
    card = both.card;
    card_label = both.card_label;
    cap = both.cap;
    buffer_label = both.buffer_label;
    buffer = both.buffer;
    buffer_fits = both.buffer_fits;
    lent = lent;
    was = was;
    buffers = buffers;
    region = region;
    labels = labels;
    doors = doors;
    rates = rates;
    areas = areas;
    cards = other_card;
    nets = λ k c apart is kind. ap (λ (ns : Nets). net_kept ns.cards c.key) nets;
    logs = card_logs_by app.labels app.devices.cards app1.devices.cards both.card.key one (with_ring ring one) here cards (shut_stays one (with_ring ring one) (ap is_some shut));
    used = λ k apart. used k apart ∙ sym (ap (uses k) both.object);
    opens = λ k. ap (λ z. bit (is_open_on k z)) both.object;
    sockets = λ k. ap (λ z. bit (is_socket_on k z)) both.object;
    covers = λ j. ap (object_covers j) both.object;
  }

  -- what the card's new descriptors add to the uses of a buffer
  pub lent_then : (k : List ℕ) → lent_count (with_object r.machine v o) k + uses k (Objects.vsic both.vsic) ≡ lent_count r.machine k + uses k o
  lent_then k =
      let put = swapping.lent_then r app app1 v b o right swaps k in
      let old : uses k both.held.object ≡ uses k (Objects.vsic both.vsic) = ap (uses k) both.object in
      omega (arith, put, old)

  pub keeps : Keeps rest any_label any_piece x y
  keeps = swapping.keeps r app app1 v b o right swaps

  pub entry_same : both.card_fits.card ≡ kept_card one
  entry_same = some_same (card_kept app.devices.cards both.card.key) both.card_fits.card (kept_card one) both.card_fits.kept (ap (λ z. option_map kept_card z) here)

  pub was_lent : bit (is_none lent.buf) ≡ lent_count r.machine b
  was_lent = swapping.was_lent r app app1 v b o right swaps

  abbrev inside : Within any_label any_piece (Objects.vsic both.vsic)
  inside = within (Objects.vsic both.vsic)

  -- the card's descriptors, as they are then
  pub posted_then : Each (IsJob y one.log) one.vsic.ring.posted both.vsic.queue.posted
  posted_then = let f = both.card_fits in subst (λ (k : CardKept). Each (IsJob y k.log) k.ring.posted both.vsic.queue.posted) entry_same
      (each_kept (IsJob x f.card.log) (IsJob y f.card.log) (JobWithin any_label any_piece) (job_kept rest any_label any_piece x y keeps f.card.log) f.card.ring.posted both.vsic.queue.posted inside.0 f.posted)

  pub unreaped_then : Each (IsEnded y one.log) one.vsic.ring.unreaped both.vsic.queue.unreaped
  unreaped_then = let f = both.card_fits in subst (λ (k : CardKept). Each (IsEnded y k.log) k.ring.unreaped both.vsic.queue.unreaped) entry_same
      (each_kept (IsEnded x f.card.log) (IsEnded y f.card.log) (λ u. JobWithin any_label any_piece u.0) (ended_kept rest any_label any_piece x y keeps f.card.log) f.card.ring.unreaped both.vsic.queue.unreaped inside.1 f.unreaped)

  pub moved_then : both.vsic.queue.moved ≡ one.vsic.ring.moved
  moved_then = both.card_fits.moved ∙ ap (λ (k : CardKept). k.ring.moved) entry_same

  module _ (size : ring.size ≡ one.vsic.ring.size) (posted : Each (IsJob y one.log) ring.posted queue.posted) (unreaped : Each (IsEnded y one.log) ring.unreaped queue.unreaped) (moved : queue.moved ≡ ring.moved)
      (owned : (p : Piece) → right ≡ Some p → p ≡ place_kept lent) (counted : bit (is_none right) ≡ lent_count (with_object r.machine v o) b) where
    card_now : IsCard y v both.card (with_queue queue both.vsic)
    card_now =
        let f = both.card_fits in
        record {
          its_kind = f.its_kind;
          card = kept_card (with_ring ring one);
          kept = ap (λ z. option_map kept_card z) cards.changed;
          size = f.size ∙ ap (λ (k : CardKept). k.ring.size) entry_same ∙ sym size;
          posted = posted;
          unreaped = unreaped;
          moved = moved;
          bound = subst (λ (k : CardKept). Each (λ g s. slice_get y.numbers s ≡ Some g) k.bound both.vsic.bound) entry_same f.bound;
          pace = subst (λ (k : CardKept). Both (IsPaced y) k.pace both.vsic.pace) entry_same (paced_kept rest any_label any_piece x y keeps f.card.pace both.vsic.pace inside.2 f.pace);
          door = subst (λ (k : CardKept). Both (IsWatched y) k.door both.vsic.door) entry_same (watched_kept rest any_label any_piece x y keeps f.card.door both.vsic.door inside.3 f.door);
          log = ap (λ (k : CardKept). bit (is_some k.log)) (sym entry_same) ∙ f.log ∙ sym (swapping.opens_same r app app1 v b o right swaps v);
          phases = shut_phases one.log queue.posted queue.unreaped shut;
        }

    pub exchanged : Holds y
    exchanged = swapping.swapped r app app1 v b o right swaps card_now owned counted
