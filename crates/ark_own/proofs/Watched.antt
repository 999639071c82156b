-- Whether a door watches a card: as the labels and the cards say, and as the machine has it.
use Rattle.std.proofs.Common.{◌≡◌, ℕ, true, false, List, [], ◌∷◌, nat_eq, refl, sym, ◌∙◌, ap, arith, bytes_eq}
use Rattle.std.specs.Prelude.{Option, Some, None, ◌||◌, option_map}
use Rattle.std.specs.List.{list_any}
use Rattle.std.proofs.lemmas.Bool.{false≢true}
use Rattle.std.proofs.lemmas.Bool.Decides.{nat_tests}
use Rattle.ark_caps.specs.Labels.{value_at}
use Rattle.ark_caps.specs.declared.capability.CapKind.{CapKind}
use Rattle.ark_caps.specs.declared.capability.CapKind.TheVariants as cap_kind
use Rattle.ark_caps.specs.declared.capability.Capability.{Capability}
use Rattle.ark_objects.specs.Held.{at as slot}
use Rattle.ark_machine.specs.Objects
use Rattle.ark_machine.specs.Objects.{Object}
use Rattle.ark_machine.specs.Machine.{Held, holds_any}
use Rattle.ark_machine.specs.Control.{is_label, is_watched}
use Rattle.ark_held.specs.Words.{Labels}
use Rattle.ark_held.specs.Kept.{CardKept, NetKept}
use Rattle.ark_held.specs.Rings.{kept_card}
use Rattle.ark_held.specs.Nets.{kept_net}
use Rattle.ark_held.specs.Seen.{is_card_seen, is_key, is_net_seen, is_seen_by, sees_any}
use Rattle.ark_held.specs.Around.{Around, Both}
use Rattle.ark_held.specs.Cards.{IsWatched}
use Rattle.ark_held.specs.Held.{IsObjectOf, AllMatch, Holds, has_key}
use Rattle.ark_held.specs.Beyond.{Beyond, around}
use Rattle.ark_held.specs.declared.app.App.{App}
use Rattle.ark_held.specs.declared.card.StorageCard.{StorageCard}
use Rattle.ark_held.specs.declared.network_card.NetworkCard.{NetworkCard}
use Rattle.ark_held.proofs.Lists.{by_test, name_same, name_other, not_some, some_same}

door_kept : (key : ℕ) (o : Option StorageCard) (k : CardKept) → option_map kept_card o ≡ Some k → is_card_seen key o ≡ is_key key k.door
door_kept key None k is = absurd (not_some None k refl is)
door_kept key (Some c) k is = ap (λ (z : CardKept). is_key key z.door) (some_same (Some (kept_card c)) (kept_card c) k refl is)

doors_kept : (key : ℕ) (o : Option NetworkCard) (k : NetKept) → option_map kept_net o ≡ Some k → is_net_seen key o ≡ (is_key key k.rx_door || is_key key k.tx_door)
doors_kept key None k is = absurd (not_some None k refl is)
doors_kept key (Some c) k is = ap (λ (z : NetKept). is_key key z.rx_door || is_key key z.tx_door) (some_same (Some (kept_net c)) (kept_net c) k refl is)

module _ (y : Beyond) (app : App) (h : Holds (around y app)) (d : List ℕ) (cap : Capability) (label : value_at app.labels d ≡ Some cap) (kind : cap.kind ≡ cap_kind.Door) where
  abbrev x : Around
  x = around y app

  -- a card is watched by the door of this key where it is by the one under the label
  same_door : (k : Option ℕ) (l : Option (List ℕ)) → Both (IsWatched x) k l → is_key cap.key k ≡ is_label d l
  same_door None None is = refl
  same_door (Some k) (Some l) is = by_test (λ b. nat_eq k cap.key ≡ b → b ≡ bytes_eq d l) (nat_eq k cap.key)
      (λ yes q.
      let key : k ≡ cap.key = grind (arith, nat_tests, q) in
      sym (name_same d l (h.own.keys d l cap is.cap label is.there (kind ∙ sym is.its_kind) (ap has_key kind) (sym key ∙ sym is.its_key))))
      (λ no q. sym (name_other d l (λ e.
      let same : is.cap ≡ cap = some_same (value_at app.labels l) is.cap cap is.there (ap (λ z. value_at app.labels z) (sym e) ∙ label) in
      let key : k ≡ cap.key = sym is.its_key ∙ ap (λ (z : Capability). z.key) same in
      let yes : nat_eq k cap.key ≡ true = grind (arith, nat_tests, key) in
      false≢true (sym q ∙ yes)))) refl
  same_door None (Some l) is = absurd is
  same_door (Some k) None is = absurd is

  plain : (c : Capability) (k : CapKind) → c.kind ≡ k → is_seen_by app.devices.cards app.devices.nets.cards cap.key k c.key ≡ false → is_seen_by app.devices.cards app.devices.nets.cards cap.key c.kind c.key ≡ false
  plain c k is unseen = ap (λ (z : CapKind). is_seen_by app.devices.cards app.devices.nets.cards cap.key z c.key) is ∙ unseen

  one : (l : List ℕ) (c : Capability) (o : Object) → IsObjectOf x l c o → is_seen_by app.devices.cards app.devices.nets.cards cap.key c.kind c.key ≡ is_watched d o
  one l c (Objects.vsic v) f =
      ap (λ (z : CapKind). is_seen_by app.devices.cards app.devices.nets.cards cap.key z c.key) f.its_kind
      ∙ door_kept cap.key (slot app.devices.cards c.key) f.card f.kept
      ∙ same_door f.card.door v.door f.door
  one l c (Objects.vnic v) f =
      ap (λ (z : CapKind). is_seen_by app.devices.cards app.devices.nets.cards cap.key z c.key) f.its_kind
      ∙ doors_kept cap.key (slot app.devices.nets.cards c.key) f.net f.kept
      ∙ ap (λ b. b || is_key cap.key f.net.tx_door) (same_door f.net.rx_door v.rx_door f.rx_door)
      ∙ ap (λ b. is_label d v.rx_door || b) (same_door f.net.tx_door v.tx_door f.tx_door)
  one l c (Objects.raw z) f = plain c cap_kind.Vsa f.its_kind refl
  one l c (Objects.log z) f = plain c cap_kind.Vsa f.its_kind refl
  one l c (Objects.filter z q) f = plain c cap_kind.Filter f.its_kind refl
  one l c (Objects.door z) f = plain c cap_kind.Door f.its_kind refl
  one l c (Objects.rate z q) f = plain c cap_kind.Rate f.its_kind refl
  one l c (Objects.buffer z) f = plain c cap_kind.Buf f.its_kind refl
  one l c (Objects.socket z) f = plain c cap_kind.Sock f.its_kind refl

  all : (ps : Labels) (hs : List Held) → AllMatch x ps hs → sees_any app.devices.cards app.devices.nets.cards cap.key ps ≡ list_any (λ g. is_watched d g.object) hs
  all [] [] m = refl
  all (p ∷ ps) (g ∷ gs) m = ap (λ b. b || sees_any app.devices.cards app.devices.nets.cards cap.key ps) (one p.0 p.1 g.object m.0.object) ∙ ap (λ b. is_watched d g.object || b) (all ps gs m.1)
  all [] (g ∷ gs) m = absurd m
  all (p ∷ ps) [] m = absurd m

  pub watched_same : sees_any app.devices.cards app.devices.nets.cards cap.key app.labels ≡ holds_any y.machine (is_watched d)
  watched_same = all app.labels y.machine.held h.held
