-- A header's buffer that was taken and given back: labels and tables stand for what they stood for.
use Rattle.std.proofs.Common.{◌≡◌, inl, ℕ, Bool, true, false, not, List, map, nat_eq, refl, sym, ◌∙◌, ap, subst, arith, bytes_eq}
use Rattle.std.specs.Prelude.{Option, Some, None, replicate, slice_index_or}
use Rattle.std.specs.Map.{lookup}
use Rattle.std.proofs.lemmas.Bool.{false≢true}
use Rattle.std.proofs.lemmas.List.{map-id}
use Rattle.ark_caps.specs.Labels.{value_at}
use Rattle.ark_caps.specs.declared.capability.Capability.{Capability}
use Rattle.ark_region.specs.Frames.{Covers, frames_of, put}
use Rattle.ark_caladan.specs.Chain.{Log, Opened}
use Rattle.ark_machine.specs.Objects
use Rattle.ark_machine.specs.Objects.{Object}
use Rattle.ark_machine.specs.Machine.{Held, Machine, at}
use Rattle.ark_machine.specs.Control.{is_open_on, is_socket_on}
use Rattle.ark_held.specs.Totals.{bit, cover_count, total, uses}
use Rattle.ark_held.specs.Rings.{card_kept}
use Rattle.ark_held.specs.Words.{AreaList}
use Rattle.ark_held.specs.Around.{Around}
use Rattle.ark_held.specs.Areas.{IsLog, IsOpenedAs}
use Rattle.ark_held.specs.Held.{Holds, IsObjectOf, Matches}
use Rattle.ark_held.specs.Beyond.{Beyond, around}
use Rattle.ark_held.specs.declared.app.App.{App}
use Rattle.ark_held.specs.declared.devices.Devices.{Devices}
use Rattle.ark_held.proofs.Lists.{by_test, same_name, some_same}
use Rattle.ark_held.proofs.Besides.{same_history}
use Rattle.ark_held.proofs.Creating.{but}
use Rattle.ark_held.proofs.Finding.{found_there}
use Rattle.ark_held.proofs.Granted.{not_but}
use Rattle.ark_held.proofs.Logged.{IsItsFrame, Reaches, relogged}
use Rattle.ark_held.proofs.Members.{In}
use Rattle.ark_held.proofs.Opens.{stays_same}
use Rattle.ark_held.proofs.Taking.{given_bit, taken_bit}
use Rattle.ark_logs.specs.Opening.{HasGivenBack, KeepsRest}

false_of : (b : Bool) → (b ≡ true → ⊥) → b ≡ false
false_of true never = absurd (never refl)
false_of false never = refl

module _ (q : Beyond) (app app1 : App) (h : Holds (around q app)) (s : List ℕ) (held : Held) (log : Log) (there : at q.machine s ≡ Some held) (object : held.object ≡ Objects.log log) (cap : Capability) (label : value_at app.labels s ≡ Some cap) (fits : IsLog (around q app) s cap log) (closed : log.opened ≡ None)
    (back : HasGivenBack app.store.region app1.store.region) (rest : KeepsRest app app1) (devices : app1.devices ≡ app.devices) where
  reaches : Reaches q app app1 s q.history (Covers back.header)
  reaches = record {
    buffers = rest.buffers;
    labels = rest.labels;
    areas = rest.areas;
    doors = rest.doors;
    rates = rest.rates;
    nets = rest.nets;
    base = refl;
    beside = λ l t apart at. same_history q.history t.blocks;
    frames = back.sized;
    bytes = λ p spares. back.others p spares;
  }

  its : (j : ℕ) → Covers back.header j → IsItsFrame app log j
  its j has = inl (false_of (slice_index_or app.store.region.taken j false) (back.taken.place.here.free j has.0 has.1))

  same_bit : (j : ℕ) → bit (slice_index_or app1.store.region.taken j false) ≡ bit (slice_index_or app.store.region.taken j false)
  same_bit j =
      let start = back.header.start in
      let k = frames_of back.header.len in
      let took = taken_bit app.store.region.taken start k j back.taken.place.here in
      let mid : bit (slice_index_or back.space.taken j false) ≡ bit (slice_index_or (put app.store.region.taken start (replicate k true)) j false) = ap (λ (bs : List Bool). bit (slice_index_or bs j false)) back.taken.taken in
      let lies = back.taken.lies in
      let gave = given_bit back.space.taken start k j lies (omega (arith, took, mid)) in
      let now : bit (slice_index_or app1.store.region.taken j false) ≡ bit (slice_index_or (put back.space.taken start (replicate k false)) j false) = ap (λ (bs : List Bool). bit (slice_index_or bs j false)) back.back in
      omega (arith, took, mid, gave, now)

  same_held : map (λ (g : Held). g) q.machine.held ≡ q.machine.held
  same_held = map-id q.machine.held

  same_cards : (i : ℕ) → card_kept app1.devices.cards i ≡ card_kept app.devices.cards i
  same_cards i = ap (λ (d : Devices). card_kept d.cards i) devices

  abbrev z : Machine → Around
  z m = around (record q { machine = m }) app1

  its_log : (m : Machine) (c : Capability) → value_at app.labels s ≡ Some c → IsLog (z m) s c log
  its_log m c is = subst (λ (d : Capability). IsLog (z m) s d log) (some_same (value_at app.labels s) cap c label is) (record {
    slot = fits.slot;
    its_kind = fits.its_kind;
    kept = ap (λ (es : AreaList). lookup (nat_eq cap.grant) es) rest.areas ∙ fits.kept;
    there = fits.there;
    same_kind = fits.same_kind;
    no_raw = fits.no_raw;
    blocks = fits.blocks;
    two = fits.two;
    opened = subst (λ (o : Option Opened). IsOpenedAs (z m) cap.grant fits.slot.blocks log o) (sym closed) tt;
    listed = fits.listed;
    full = fits.full;
  })

  pub returned : Holds (around q app1)
  returned = subst (λ (hs : List Held). Holds (z (record q.machine { held = hs }))) same_held
      (relogged q app h s held log there object app1 q.history (Covers back.header) reaches its (λ g. g) (but s) (λ k e. not_but s k e) (λ g. refl) (λ g. refl) (λ g e. refl) (λ k c e is kind. same_cards c.key)
      (λ k l d c x stays at is kind there2 on. stays_same d.grant x _ _ (same_cards c.key) there2)
      (λ k. ap (λ (hs : List Held). total (λ g. uses k g.object) hs) same_held) (λ k e. ap (λ (hs : List Held). total (λ g. bit (is_open_on k g.object)) hs) same_held) (λ k. ap (λ (hs : List Held). total (λ g. bit (is_socket_on k g.object)) hs) same_held)
      (λ p g other inn is m.
      let mine : bytes_eq s p.0 ≡ true = by_test (λ t. bytes_eq s p.0 ≡ t → t ≡ true) (bytes_eq s p.0) (λ yes e. refl) (λ no e. absurd (false≢true (sym other ∙ ap not e))) refl in
      let name = same_name s p.0 mine in
      let held_is : g.object ≡ Objects.log log = ap (λ (w : Held). w.object) (its_held p g inn m name) ∙ object in
      subst (λ (o : Object). IsObjectOf (z (record q.machine { held = map (λ w. w) q.machine.held })) p.0 p.1 o) (sym held_is)
      (subst (λ (k : List ℕ). IsLog (z (record q.machine { held = map (λ w. w) q.machine.held })) k p.1 log) name (its_log (record q.machine { held = map (λ w. w) q.machine.held }) p.1 (ap (λ k. value_at app.labels k) name ∙ is))))
      (λ j. ap (λ (hs : List Held). cover_count (record q.machine { held = hs }) j) same_held ∙ h.taken j ∙ sym (same_bit j)))
    where
      its_held : (p : List ℕ × Capability) (g : Held) → In q.machine.held g → Matches (around q app) p g → s ≡ p.0 → g ≡ held
      its_held p g inn m name = some_same (at q.machine s) g held (ap (λ k. at q.machine k) (name ∙ sym m.label) ∙ found_there (around q app) app.labels q.machine.held g h.apart h.held inn) there
