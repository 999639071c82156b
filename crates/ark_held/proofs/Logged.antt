-- A log and the card on which it is open change together, with bytes and frames of its own: what stays, and what labels stand for then.
use Rattle.std.proofs.Common.{◌≡◌, ◌⊎◌, inl, inr, ℕ, ◌+◌, Bool, true, false, List, length, map, refl, sym, ◌∙◌, ap, subst, arith, bytes_eq, nat_eq}
use Rattle.std.specs.Prelude.{Option, Some, option_map, slice_index_or}
use Rattle.std.specs.Map.{lookup}
use Rattle.std.proofs.lemmas.Bool.{cases_eq}
use Rattle.ark_media.specs.Journal.{History}
use Rattle.ark_objects.specs.Held.{at as key_at, Changes}
use Rattle.ark_caps.specs.Labels.{value_at}
use Rattle.ark_caps.specs.declared.capability.Capability.{Capability}
use Rattle.ark_caps.specs.declared.capability.CapKind.TheVariants as cap_kind
use Rattle.ark_region.specs.Frames.{Piece, bytes_of}
use Rattle.ark_vic.specs.declared.door.Counts.{Counts}
use Rattle.ark_caladan.specs.Chain.{Log}
use Rattle.ark_log.specs.Open.{OpenChain}
use Rattle.ark_table.specs.Slots.{Slot}
use Rattle.ark_machine.specs.Objects
use Rattle.ark_machine.specs.Objects.{Object, Vsic}
use Rattle.ark_machine.specs.Machine.{Machine, Held, at}
use Rattle.ark_machine.specs.Control.{is_open_on, is_socket_on}
use Rattle.ark_held.specs.Words.{Labels, AreaList}
use Rattle.ark_held.specs.Totals.{bit, total, uses, object_covers, cover_count, lent_count, open_count, socket_count}
use Rattle.ark_held.specs.Kept.{CardKept}
use Rattle.ark_held.specs.Stored.{buffer_kept}
use Rattle.ark_held.specs.Rings.{kept_card, card_kept}
use Rattle.ark_held.specs.Pacing.{rate_kept}
use Rattle.ark_held.specs.Nets.{net_kept}
use Rattle.ark_held.specs.Around.{Around, slot_at}
use Rattle.ark_held.specs.Areas.{IsLog}
use Rattle.ark_held.specs.Cards.{IsCard}
use Rattle.ark_held.specs.Held.{IsObjectOf, Matches, Holds, has_key}
use Rattle.ark_held.specs.Keeps.{Keeps, IsOpenOn, SameAt, StaysOpen, any_label}
use Rattle.ark_held.specs.Beyond.{Beyond, around}
use Rattle.ark_held.specs.declared.allowance.Allowance.{Allowance}
use Rattle.ark_held.specs.declared.app.App.{App}
use Rattle.ark_held.specs.declared.buffer.Buffer.{Buffer}
use Rattle.ark_held.specs.declared.card.StorageCard.{StorageCard}
use Rattle.ark_held.specs.declared.nets.Nets.{Nets}
use Rattle.ark_held.proofs.Lists.{other_name, some_same}
use Rattle.ark_held.proofs.BothPut.{HasOpen, apart, both_label, both_put, both_serial, both_then, count_same, counted, machine_is, neither, then_other, touches}
use Rattle.ark_held.proofs.Covering.{Spares, in_total, other_spared, within_spares}
use Rattle.ark_held.proofs.Members.{In}
use Rattle.ark_held.proofs.Spreading.{spread_same}
use Rattle.ark_held.proofs.Turning.{turned}
use Rattle.ark_held.proofs.Opens.{stays_same}

-- What a word of the log under a label leaves of its application: the memory but for these frames, and all areas but its own.
pub record Reaches (r : Beyond) (app app1 : App) (s : List ℕ) (history : History) (touched : ℕ → Type 0) : Type 0 where
  pub buffers : app1.store.buffers ≡ app.store.buffers
  pub labels : app1.labels ≡ app.labels
  pub areas : app1.areas ≡ app.areas
  pub doors : app1.devices.doors ≡ app.devices.doors
  pub rates : app1.devices.rates ≡ app.devices.rates
  pub nets : app1.devices.nets ≡ app.devices.nets
  pub base : history.base ≡ r.history.base
  pub beside : (l : List ℕ) (t : Slot) → bytes_eq s l ≡ false → slot_at (around r app) l ≡ Some t → SameAt r.history history t.blocks
  pub frames : length app1.store.region.taken ≡ length app.store.region.taken
  pub bytes : (p : Piece) → Spares touched p → bytes_of app1.store.region p ≡ bytes_of app.store.region p

-- the frames are free, or the log's own
abbrev pub IsItsFrame : App → Log → ℕ → Type 0
IsItsFrame app log j = (slice_index_or app.store.region.taken j false ≡ false) ⊎ (object_covers j (Objects.log log) ≡ 1)

module _ (r : Beyond) (app : App) (h : Holds (around r app)) (s : List ℕ) (held : Held) (log : Log) (there : at r.machine s ≡ Some held) (object : held.object ≡ Objects.log log) where
  -- no other object has such a frame
  other_has : (j : ℕ) → IsItsFrame app log j → (g : Held) → In r.machine.held g → bytes_eq s g.label ≡ false → object_covers j g.object ≡ 0
  other_has j (inl free) g inn apart =
      let most = in_total (λ z. object_covers j z.object) r.machine.held g inn in
      let was = h.taken j in
      let none : bit (slice_index_or app.store.region.taken j false) ≡ 0 = ap bit free in
      omega (arith, most, was, none)
  other_has j (inr own) g inn apart = other_spared (around r app) h s held there j (ap (object_covers j) object ∙ own) g inn apart

  module _ (app1 : App) (history : History) (touched : ℕ → Type 0) (e : Reaches r app app1 s history touched) (its : (j : ℕ) → touched j → IsItsFrame app log j) (f : Held → Held) (rest : List ℕ → Bool) (apart : (k : List ℕ) → rest k ≡ true → bytes_eq s k ≡ false)
      (label : (g : Held) → (f g).label ≡ g.label) (serial : (g : Held) → (f g).serial ≡ g.serial) (stays : (g : Held) → rest g.label ≡ true → (f g).object ≡ g.object)
      (cards : (k : List ℕ) (c : Capability) → rest k ≡ true → value_at app.labels k ≡ Some c → c.kind ≡ cap_kind.Vsic → card_kept app1.devices.cards c.key ≡ card_kept app.devices.cards c.key)
      (logs : (k l : List ℕ) (d c : Capability) (q : CardKept) → rest k ≡ true → value_at app.labels k ≡ Some d → value_at app.labels l ≡ Some c → c.kind ≡ cap_kind.Vsic → card_kept app.devices.cards c.key ≡ Some q → IsOpenOn d.grant q → StaysOpen d.grant q (card_kept app1.devices.cards c.key))
      (lent : (k : List ℕ) → total (λ z. uses k z.object) (map f r.machine.held) ≡ lent_count r.machine k)
      (opens : (k : List ℕ) → rest k ≡ true → total (λ z. bit (is_open_on k z.object)) (map f r.machine.held) ≡ open_count r.machine k)
      (sockets : (k : List ℕ) → total (λ z. bit (is_socket_on k z.object)) (map f r.machine.held) ≡ socket_count r.machine k) where
    abbrev pub reached : Around
    reached = around (record r { history = history; machine = record r.machine { held = map f r.machine.held } }) app1

    pub log_keeps : Keeps rest any_label (Spares touched) (around r app) reached
    log_keeps = record {
      now = omega arith;
      numbers = λ i n is. is;
      frames = e.frames;
      base = e.base;
      bytes = e.bytes;
      granted = λ k c i is old. ap (λ (ls : Labels). value_at ls k) (sym e.labels) ∙ is;
      spread = λ i g a old is. spread_same app.areas g a (ap (λ (es : AreaList). lookup (nat_eq g) es) (sym e.areas) ∙ is);
      labels = λ k c named is. ap (λ (ls : Labels). value_at ls k) e.labels ∙ is;
      places = λ k c named is kind. ap (λ (bs : List (Option Buffer)). option_map (λ z. z.piece) (buffer_kept bs c.key)) e.buffers;
      logs = λ k l d c q stays at named is kind there on. logs k l d c q stays at is kind there on;
      buffers = λ k c stays is kind. ap (λ (bs : List (Option Buffer)). buffer_kept bs c.key) e.buffers;
      cards = cards;
      nets = λ k c stays is kind. ap (λ (ns : Nets). net_kept ns.cards c.key) e.nets;
      doors = λ k c stays is kind. ap (λ (ds : List (Option Counts)). key_at ds c.key) e.doors;
      rates = λ k c stays is kind. ap (λ (rs : List (Option Allowance)). rate_kept rs c.key) e.rates;
      sockets = λ k c stays is kind. refl;
      rules = λ k c stays is kind. refl;
      areas = λ k c stays is kind. ap (λ (es : AreaList). lookup (nat_eq c.grant) es) e.areas;
      slots = λ k stays. refl;
      history = λ k u stays is. e.beside k u (apart k stays) is;
      lent = λ k stays. lent k;
      opened = opens;
      socketed = λ k stays. sockets k;
    }

    pub relogged : ((p : List ℕ × Capability) (g : Held) → rest p.0 ≡ false → In r.machine.held g → value_at app.labels p.0 ≡ Some p.1 → Matches (around r app) p g → IsObjectOf reached p.0 p.1 (f g).object)
        → ((j : ℕ) → cover_count reached.machine j ≡ bit (slice_index_or app1.store.region.taken j false)) → Holds reached
    relogged touches taken = turned (around r app) reached h f rest (Spares touched) log_keeps label serial
        (λ p g yes inn m. record {
          same = stays g (ap rest m.label ∙ yes);
          within = within_spares touched g.object (λ j has. other_has j (its j has) g inn (ap (λ k. bytes_eq s k) m.label ∙ apart p.0 yes));
        })
        touches refl e.labels refl refl (ap (λ (es : AreaList). length es) e.areas) (λ k. refl) taken

module _ (r : Beyond) (app app1 : App) (s v : List ℕ) (h : Holds (around r app)) (both : HasOpen (around r app) s v) (history : History) (touched : ℕ → Type 0) (e : Reaches r app app1 s history touched) (its : (j : ℕ) → touched j → IsItsFrame app both.log j)
    (one one1 : StorageCard) (here : key_at app.devices.cards both.card.key ≡ Some one) (cards : Changes app.devices.cards app1.devices.cards both.card.key (Some one1)) (only : (q : OpenChain) → one.log ≡ Some q → q.grant ≡ both.area.grant) (log1 : Log) (vsic1 : Vsic)
    (uses_same : (k : List ℕ) → uses k (Objects.vsic vsic1) ≡ uses k (Objects.vsic both.vsic)) (opens : (k : List ℕ) → bytes_eq v k ≡ false → is_open_on k (Objects.log log1) ≡ is_open_on k (Objects.log both.log))
    (taken : (j : ℕ) → bit (slice_index_or app.store.region.taken j false) + object_covers j (Objects.log log1) ≡ bit (slice_index_or app1.store.region.taken j false) + object_covers j (Objects.log both.log)) where
  abbrev x : Around
  x = around r app

  -- What stays.

  other_card : (k : List ℕ) (c : Capability) → bytes_eq v k ≡ false → value_at app.labels k ≡ Some c → c.kind ≡ cap_kind.Vsic → card_kept app1.devices.cards c.key ≡ card_kept app.devices.cards c.key
  other_card k c not_v is kind = ap (λ z. option_map kept_card z)
      (cards.others c.key (λ q. other_name v k not_v (h.own.keys v k both.card c both.card_label is (both.card_fits.its_kind ∙ sym kind) (ap has_key both.card_fits.its_kind) (sym q))))

  logs_stay : (k l : List ℕ) (d c : Capability) (q : CardKept) → neither s v k ≡ true → value_at app.labels k ≡ Some d → value_at app.labels l ≡ Some c → c.kind ≡ cap_kind.Vsic → card_kept app.devices.cards c.key ≡ Some q → IsOpenOn d.grant q → StaysOpen d.grant q (card_kept app1.devices.cards c.key)
  logs_stay k l d c q stays at is kind there on = elim (cases_eq c.key both.card.key) [
    | inl mine ↦
        let kept : kept_card one ≡ q = some_same (card_kept app.devices.cards c.key) (kept_card one) q (ap (λ i. card_kept app.devices.cards i) mine ∙ ap (λ z. option_map kept_card z) here) there in
        let grant = only on.0 (ap (λ (z : CardKept). z.log) kept ∙ on.1) in
        absurd (other_name s k (apart x s v h both k stays).0 (h.own.grants s k both.area d both.area_label at (sym grant ∙ on.2)))
    | inr other ↦ stays_same d.grant q (card_kept app.devices.cards c.key) (card_kept app1.devices.cards c.key) (ap (λ z. option_map kept_card z) (cards.others c.key other)) there
  ]

  abbrev pub y : Around
  y = around (record r { history = history; machine = both_then x s v h both log1 vsic1 }) app1

  abbrev z : Around
  z = around (record r { history = history; machine = record r.machine { held = map (both_put x s v h both log1 vsic1) r.machine.held } }) app1

  z_is : z ≡ y
  z_is = ap (λ (m : Machine). around (record r { history = history; machine = m }) app1) (machine_is x s v h both log1 vsic1)

  keeps_then : Keeps (neither s v) any_label (Spares touched) x z
  keeps_then = log_keeps r app h s both.held_log both.log both.there_log both.object_log app1 history touched e its (both_put x s v h both log1 vsic1) (neither s v) (λ k q. (apart x s v h both k q).0)
      (both_label x s v h both log1 vsic1) (both_serial x s v h both log1 vsic1)
      (λ g q. ap (λ (w : Held). w.object) (then_other x s v h both log1 vsic1 g (apart x s v h both g.label q).0 (apart x s v h both g.label q).1)) (λ k c q. other_card k c (apart x s v h both k q).1) logs_stay
      (λ k. count_same x s v h both log1 vsic1 (uses k) (uses_same k) refl) (λ k q. count_same x s v h both log1 vsic1 (λ o. bit (is_open_on k o)) refl (ap bit (opens k (apart x s v h both k q).1))) (λ k. count_same x s v h both log1 vsic1 (λ o. bit (is_socket_on k o)) refl refl)

  -- all but the two stay
  pub keeps : Keeps (neither s v) any_label (Spares touched) x y
  keeps = subst (λ (w : Around). Keeps (neither s v) any_label (Spares touched) x w) z_is keeps_then

  -- so many logs are open on the card
  pub opened_then : open_count (both_then x s v h both log1 vsic1) v + bit (is_open_on v (Objects.log both.log)) ≡ open_count r.machine v + bit (is_open_on v (Objects.log log1))
  opened_then =
      let all = counted x s v h both log1 vsic1 (λ o. bit (is_open_on v o)) refl in
      let same : open_count (record r.machine { held = map (both_put x s v h both log1 vsic1) r.machine.held }) v ≡ open_count (both_then x s v h both log1 vsic1) v = ap (λ (m : Machine). open_count m v) (machine_is x s v h both log1 vsic1) in
      omega (arith, all, same)

  pub logged : IsCard y v both.card vsic1 → IsLog y s both.area log1 → Holds y
  logged card_now log_now = subst (λ (w : Around). Holds w) z_is
      (relogged r app h s both.held_log both.log both.there_log both.object_log app1 history touched e its (both_put x s v h both log1 vsic1) (neither s v) (λ k q. (apart x s v h both k q).0)
      (both_label x s v h both log1 vsic1) (both_serial x s v h both log1 vsic1)
      (λ g q. ap (λ (w : Held). w.object) (then_other x s v h both log1 vsic1 g (apart x s v h both g.label q).0 (apart x s v h both g.label q).1)) (λ k c q. other_card k c (apart x s v h both k q).1) logs_stay
      (λ k. count_same x s v h both log1 vsic1 (uses k) (uses_same k) refl) (λ k q. count_same x s v h both log1 vsic1 (λ o. bit (is_open_on k o)) refl (ap bit (opens k (apart x s v h both k q).1))) (λ k. count_same x s v h both log1 vsic1 (λ o. bit (is_socket_on k o)) refl refl)
      (touches x s v h both log1 vsic1 z (subst (λ (w : Around). IsCard w v both.card vsic1) (sym z_is) card_now) (subst (λ (w : Around). IsLog w s both.area log1) (sym z_is) log_now))
      (λ j.
      let all = counted x s v h both log1 vsic1 (object_covers j) refl in
      let was = h.taken j in
      let step = taken j in
      omega (arith, all, was, step)))
