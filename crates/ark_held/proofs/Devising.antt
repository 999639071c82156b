-- A storage card or a doorbell that changes, under its label and its key.
use Rattle.std.proofs.Common.{◌≡◌, ℕ, Bool, true, not, List, refl, sym, ◌∙◌, ap, subst, arith, bytes_eq}
use Rattle.std.specs.Prelude.{Option, Some}
use Rattle.ark_caps.specs.Labels.{value_at}
use Rattle.ark_caps.specs.declared.capability.Capability.{Capability}
use Rattle.ark_caps.specs.declared.capability.CapKind.TheVariants as cap_kind
use Rattle.ark_vic.specs.declared.door.Counts.{Counts}
use Rattle.ark_machine.specs.Objects
use Rattle.ark_machine.specs.Objects.{Object, Vsic}
use Rattle.ark_machine.specs.Machine.{Machine, Held, at, with_object}
use Rattle.ark_machine.specs.Control.{is_open_on, is_socket_on}
use Rattle.ark_held.specs.Totals.{bit, total, uses, lent_count, open_count, socket_count, object_covers}
use Rattle.ark_held.specs.Kept.{CardKept}
use Rattle.ark_held.specs.Around.{Around}
use Rattle.ark_held.specs.Cards.{IsCard}
use Rattle.ark_held.specs.Held.{Holds, has_key}
use Rattle.ark_held.specs.Keeps.{IsOpenOn, StaysOpen, Keeps, any_label, any_piece, LogsStay}
use Rattle.ark_held.specs.Ringing.{Sets}
use Rattle.ark_held.proofs.Lists.{by_test, same_name, other_name, some_same}
use Rattle.ark_held.proofs.Besides.{same_history}
use Rattle.ark_held.proofs.Changing.{changed, same_put}
use Rattle.ark_held.proofs.Creating.{but}
use Rattle.ark_held.proofs.Granted.{not_but}
use Rattle.ark_held.proofs.Opens.{stays_same}
use Rattle.ark_held.proofs.Spreading.{spread_same}
use Rattle.ark_held.proofs.Staying.{within}

-- what is around the application with these cards and doors, and this machine
abbrev pub with_devices : Around → (ℕ → Option CardKept) → (ℕ → Option Counts) → Machine → Around
with_devices x cards doors machine = record x { tables = record x.tables { cards = cards; doors = doors }; machine = machine }

module _ (x : Around) (cards : ℕ → Option CardKept) (doors : ℕ → Option Counts) (machine : Machine) (same : List ℕ → Bool)
    (same_cards : (k : List ℕ) (c : Capability) → same k ≡ true → value_at x.labels k ≡ Some c → c.kind ≡ cap_kind.Vsic → cards c.key ≡ x.tables.cards c.key)
    (same_logs : LogsStay x.labels x.tables.cards cards)
    (same_doors : (k : List ℕ) (c : Capability) → same k ≡ true → value_at x.labels k ≡ Some c → c.kind ≡ cap_kind.Door → doors c.key ≡ x.tables.doors c.key)
    (lent : (k : List ℕ) → lent_count machine k ≡ lent_count x.machine k) (opened : (k : List ℕ) → open_count machine k ≡ open_count x.machine k) (socketed : (k : List ℕ) → socket_count machine k ≡ socket_count x.machine k) where
  pub devices_keep : Keeps same any_label any_piece x (with_devices x cards doors machine)
  devices_keep = record {
    now = omega arith;
    numbers = λ i n is. is;
    frames = refl;
    base = refl;
    bytes = λ p rests. refl;
    granted = λ k c i is old. is;
    spread = λ i g a old is. spread_same x.areas g a is;
    labels = λ k c named is. is;
    places = λ k c named is kind. refl;
    logs = λ s k d c card stays at named is kind there on. same_logs k c is kind card d.grant there on;
    buffers = λ k c stays is kind. refl;
    cards = same_cards;
    nets = λ k c stays is kind. refl;
    doors = same_doors;
    rates = λ k c stays is kind. refl;
    sockets = λ k c stays is kind. refl;
    rules = λ k c stays is kind. refl;
    areas = λ k c stays is kind. refl;
    slots = λ k stays. refl;
    history = λ k u stays is. same_history x.history u.blocks;
    lent = λ k stays. lent k;
    opened = λ k stays. opened k;
    socketed = λ k stays. socketed k;
  }

-- the key of another label of the kind is another one
pub key_apart : (x : Around) (h : Holds x) (v : List ℕ) (c : Capability) (named : value_at x.labels v ≡ Some c) (stored : has_key c.kind ≡ true)
    → (k : List ℕ) (d : Capability) → but v k ≡ true → value_at x.labels k ≡ Some d → d.kind ≡ c.kind → d.key ≡ c.key → ⊥
key_apart x h v c named stored k d other is kind same = other_name v k (not_but v k other) (h.own.keys v k c d named is (sym kind) stored (sym same))

-- A card.

module _ (x : Around) (h : Holds x) (v : List ℕ) (c : Capability) (named : value_at x.labels v ≡ Some c) (kind : c.kind ≡ cap_kind.Vsic) (held : Held) (at_v : at x.machine v ≡ Some held) (old new : Vsic) (object : held.object ≡ Objects.vsic old)
    (cards : ℕ → Option CardKept) (kept now : CardKept) (was : x.tables.cards c.key ≡ Some kept) (sets : Sets c.key now x.tables.cards cards) (stays : (grant : ℕ) → IsOpenOn grant kept → StaysOpen grant kept (Some now)) (uses_same : (l : List ℕ) → uses l (Objects.vsic new) ≡ uses l (Objects.vsic old)) where
  abbrev machine : Machine
  machine = with_object x.machine v (Objects.vsic new)

  abbrev y : Around
  y = with_devices x cards x.tables.doors machine

  count : (f : Object → ℕ) → f (Objects.vsic new) ≡ f (Objects.vsic old) → total (λ z. f z.object) machine.held ≡ total (λ z. f z.object) x.machine.held
  count f same = same_put x h v (Objects.vsic new) held f at_v (ap f object ∙ sym same)

  its_log : (k : List ℕ) (d : Capability) → value_at x.labels k ≡ Some d → v ≡ k → (q : CardKept) (grant : ℕ) → x.tables.cards d.key ≡ Some q → IsOpenOn grant q → StaysOpen grant q (cards d.key)
  its_log k d is name q grant there on =
      let same : c ≡ d = some_same (value_at x.labels v) c d named (ap (λ (l : List ℕ). value_at x.labels l) name ∙ is) in
      let kept_is : kept ≡ q = some_same (x.tables.cards c.key) kept q was (ap (λ (z : Capability). x.tables.cards z.key) same ∙ there) in
      let then : StaysOpen grant q (Some now) = subst (λ (z : CardKept). StaysOpen grant z (Some now)) kept_is (stays grant (subst (λ (z : CardKept). IsOpenOn grant z) (sym kept_is) on)) in
      subst (λ (o : Option CardKept). StaysOpen grant q o) (sym (ap (λ (z : Capability). cards z.key) (sym same) ∙ sets.here)) then

  card_log : LogsStay x.labels x.tables.cards cards
  card_log k d is its q grant there on = by_test (λ t. bytes_eq v k ≡ t → StaysOpen grant q (cards d.key)) (bytes_eq v k)
      (λ yes same. its_log k d is (same_name v k same) q grant there on)
      (λ no q1. stays_same grant q (x.tables.cards d.key) (cards d.key) (sets.others d.key (key_apart x h v c named (ap has_key kind) k d (ap (λ b. not b) q1) is (its ∙ sym kind))) there) refl

  pub card_keeps : Keeps (but v) any_label any_piece x y
  card_keeps = devices_keep x cards x.tables.doors machine (but v)
      (λ k d other is its. sets.others d.key (key_apart x h v c named (ap has_key kind) k d other is (its ∙ sym kind))) card_log (λ k d other is its. refl)
      (λ k. count (uses k) (uses_same k)) (λ k. count (λ o. bit (is_open_on k o)) refl) (λ k. count (λ o. bit (is_socket_on k o)) refl)

  pub open_same : open_count machine v ≡ open_count x.machine v
  open_same = count (λ o. bit (is_open_on v o)) refl

  pub card_set : IsCard y v c new → Holds y
  card_set fits = changed x y h v held (Objects.vsic new) at_v any_piece card_keeps (λ p k apart inn m. within k.object) refl refl refl refl refl (λ k none. refl)
      (λ j. let none : object_covers j held.object ≡ 0 = ap (object_covers j) object in omega (arith, none))
      (λ d is m. subst (λ (z : Capability). IsCard y v z new) (some_same (value_at x.labels v) c d named is) fits)

-- A door.

module _ (x : Around) (h : Holds x) (l : List ℕ) (c : Capability) (named : value_at x.labels l ≡ Some c) (kind : c.kind ≡ cap_kind.Door) (held : Held) (at_l : at x.machine l ≡ Some held) (old new : Counts) (object : held.object ≡ Objects.door old)
    (doors : ℕ → Option Counts) (sets : Sets c.key new x.tables.doors doors) where
  abbrev changed_machine : Machine
  changed_machine = with_object x.machine l (Objects.door new)

  door_count : (f : Object → ℕ) → f (Objects.door new) ≡ f (Objects.door old) → total (λ z. f z.object) changed_machine.held ≡ total (λ z. f z.object) x.machine.held
  door_count f same = same_put x h l (Objects.door new) held f at_l (ap f object ∙ sym same)

  door_keeps : Keeps (but l) any_label any_piece x (with_devices x x.tables.cards doors changed_machine)
  door_keeps = devices_keep x x.tables.cards doors changed_machine (but l) (λ k d other is its. refl) (λ k d is its q grant there on. stays_same grant q (x.tables.cards d.key) (x.tables.cards d.key) refl there)
      (λ k d other is its. sets.others d.key (key_apart x h l c named (ap has_key kind) k d other is (its ∙ sym kind)))
      (λ k. door_count (uses k) refl) (λ k. door_count (λ o. bit (is_open_on k o)) refl) (λ k. door_count (λ o. bit (is_socket_on k o)) refl)

  pub door_set : Holds (with_devices x x.tables.cards doors changed_machine)
  door_set = changed x (with_devices x x.tables.cards doors changed_machine) h l held (Objects.door new) at_l any_piece door_keeps (λ p k apart inn m. within k.object) refl refl refl refl refl (λ k none. refl)
      (λ j. let none : object_covers j held.object ≡ 0 = ap (object_covers j) object in omega (arith, none))
      (λ d is m. record { its_kind = ap (λ (z : Capability). z.kind) (sym (some_same (value_at x.labels l) c d named is)) ∙ kind; kept = ap (λ (z : Capability). doors z.key) (sym (some_same (value_at x.labels l) c d named is)) ∙ sets.here })
