-- Whether a rate paces a card: as the labels and the cards say, and as the machine has it.
use Rattle.std.proofs.Common.{◌≡◌, ℕ, true, false, List, [], ◌∷◌, nat_eq, refl, sym, ◌∙◌, ap, arith, bytes_eq}
use Rattle.std.specs.Prelude.{Option, Some, None, ◌||◌, Bool, option_map}
use Rattle.std.specs.List.{list_any}
use Rattle.std.proofs.lemmas.Bool.{false≢true}
use Rattle.std.proofs.lemmas.Bool.Decides.{nat_tests}
use Rattle.ark_caps.specs.Labels.{value_at}
use Rattle.ark_caps.specs.declared.capability.CapKind.{CapKind}
use Rattle.ark_caps.specs.declared.capability.CapKind.TheVariants as cap_kind
use Rattle.ark_caps.specs.declared.capability.Capability.{Capability}
use Rattle.ark_objects.specs.Held.{at as slot}
use Rattle.ark_vic.specs.Pace.{Pace}
use Rattle.ark_machine.specs.Objects
use Rattle.ark_machine.specs.Objects.{Object, Paced}
use Rattle.ark_machine.specs.Machine.{Held, holds_any}
use Rattle.ark_machine.specs.Control.{is_paced, is_paced_by as is_given_by}
use Rattle.ark_held.specs.Words.{Labels}
use Rattle.ark_held.specs.Kept.{CardKept, NetKept, PaceKept}
use Rattle.ark_held.specs.Rings.{kept_card}
use Rattle.ark_held.specs.Nets.{kept_net, side_pace}
use Rattle.ark_held.specs.Seen.{is_given, is_net_paced, is_pace_of, is_paced_by, paces_any}
use Rattle.ark_held.specs.Around.{Around, Both}
use Rattle.ark_held.specs.Cards.{IsPaced}
use Rattle.ark_held.specs.Held.{IsObjectOf, AllMatch, Holds, has_key}
use Rattle.ark_held.specs.Beyond.{Beyond, around}
use Rattle.ark_held.specs.declared.app.App.{App}
use Rattle.ark_held.specs.declared.card.StorageCard.{StorageCard}
use Rattle.ark_held.specs.declared.network_card.NetworkCard.{NetworkCard}
use Rattle.ark_held.proofs.Lists.{by_test, name_same, name_other, not_some, some_same}

-- whether a pace as it is kept came from the rate of a key
abbrev is_from : ℕ → Option PaceKept → Bool
is_from key None = false
is_from key (Some p) = nat_eq p.rate key

pace_from : (key rate : ℕ) (p : Option Pace) → is_given key rate p ≡ is_from key (option_map (λ q. record { rate = rate; pace = q }) p)
pace_from key rate None = refl
pace_from key rate (Some p) = refl

pace_kept : (key : ℕ) (o : Option StorageCard) (k : CardKept) → option_map kept_card o ≡ Some k → is_pace_of key o ≡ is_from key k.pace
pace_kept key None k is = absurd (not_some None k refl is)
pace_kept key (Some c) k is = pace_from key c.rate c.vsic.pace ∙ ap (λ (z : CardKept). is_from key z.pace) (some_same (Some (kept_card c)) (kept_card c) k refl is)

net_paced : (key : ℕ) (o : Option NetworkCard) (k : NetKept) → option_map kept_net o ≡ Some k → is_net_paced key o ≡ (is_from key k.rx_pace || is_from key k.tx_pace)
net_paced key None k is = absurd (not_some None k refl is)
net_paced key (Some c) k is =
    ap (λ b. b || is_given key c.tx.rate c.vnic.tx_pace) (pace_from key c.rx.rate c.vnic.rx_pace)
    ∙ ap (λ b. is_from key (side_pace c.rx c.vnic.rx_pace) || b) (pace_from key c.tx.rate c.vnic.tx_pace)
    ∙ ap (λ (z : NetKept). is_from key z.rx_pace || is_from key z.tx_pace) (some_same (Some (kept_net c)) (kept_net c) k refl is)

module _ (y : Beyond) (app : App) (h : Holds (around y app)) (d : List ℕ) (cap : Capability) (label : value_at app.labels d ≡ Some cap) (kind : cap.kind ≡ cap_kind.Rate) where
  abbrev x : Around
  x = around y app

  -- a card is paced by the rate of this key where it is by the one under the label
  same_rate : (k : Option PaceKept) (p : Option Paced) → Both (IsPaced x) k p → is_from cap.key k ≡ is_given_by d p
  same_rate None None is = refl
  same_rate (Some k) (Some p) is = by_test (λ b. nat_eq k.rate cap.key ≡ b → b ≡ bytes_eq d p.rate) (nat_eq k.rate cap.key)
      (λ yes q.
      let key : k.rate ≡ cap.key = grind (arith, nat_tests, q) in
      sym (name_same d p.rate (h.own.keys d p.rate cap is.rate.cap label is.rate.there (kind ∙ sym is.rate.its_kind) (ap has_key kind) (sym key ∙ sym is.rate.its_key))))
      (λ no q. sym (name_other d p.rate (λ e.
      let same : is.rate.cap ≡ cap = some_same (value_at app.labels p.rate) is.rate.cap cap is.rate.there (ap (λ z. value_at app.labels z) (sym e) ∙ label) in
      let key : k.rate ≡ cap.key = sym is.rate.its_key ∙ ap (λ (z : Capability). z.key) same in
      let yes : nat_eq k.rate cap.key ≡ true = grind (arith, nat_tests, key) in
      false≢true (sym q ∙ yes)))) refl
  same_rate None (Some p) is = absurd is
  same_rate (Some k) None is = absurd is

  plain : (c : Capability) (k : CapKind) → c.kind ≡ k → is_paced_by app.devices.cards app.devices.nets.cards cap.key k c.key ≡ false → is_paced_by app.devices.cards app.devices.nets.cards cap.key c.kind c.key ≡ false
  plain c k is unpaced = ap (λ (z : CapKind). is_paced_by app.devices.cards app.devices.nets.cards cap.key z c.key) is ∙ unpaced

  one : (l : List ℕ) (c : Capability) (o : Object) → IsObjectOf x l c o → is_paced_by app.devices.cards app.devices.nets.cards cap.key c.kind c.key ≡ is_paced d o
  one l c (Objects.vsic v) f =
      ap (λ (z : CapKind). is_paced_by app.devices.cards app.devices.nets.cards cap.key z c.key) f.its_kind
      ∙ pace_kept cap.key (slot app.devices.cards c.key) f.card f.kept
      ∙ same_rate f.card.pace v.pace f.pace
  one l c (Objects.vnic v) f =
      ap (λ (z : CapKind). is_paced_by app.devices.cards app.devices.nets.cards cap.key z c.key) f.its_kind
      ∙ net_paced cap.key (slot app.devices.nets.cards c.key) f.net f.kept
      ∙ ap (λ b. b || is_from cap.key f.net.tx_pace) (same_rate f.net.rx_pace v.rx_pace f.rx_pace)
      ∙ ap (λ b. is_given_by d v.rx_pace || b) (same_rate f.net.tx_pace v.tx_pace f.tx_pace)
  one l c (Objects.raw z) f = plain c cap_kind.Vsa f.its_kind refl
  one l c (Objects.log z) f = plain c cap_kind.Vsa f.its_kind refl
  one l c (Objects.filter z q) f = plain c cap_kind.Filter f.its_kind refl
  one l c (Objects.door z) f = plain c cap_kind.Door f.its_kind refl
  one l c (Objects.rate z q) f = plain c cap_kind.Rate f.its_kind refl
  one l c (Objects.buffer z) f = plain c cap_kind.Buf f.its_kind refl
  one l c (Objects.socket z) f = plain c cap_kind.Sock f.its_kind refl

  all : (ps : Labels) (hs : List Held) → AllMatch x ps hs → paces_any app.devices.cards app.devices.nets.cards cap.key ps ≡ list_any (λ g. is_paced d g.object) hs
  all [] [] m = refl
  all (p ∷ ps) (g ∷ gs) m = ap (λ b. b || paces_any app.devices.cards app.devices.nets.cards cap.key ps) (one p.0 p.1 g.object m.0.object) ∙ ap (λ b. is_paced d g.object || b) (all ps gs m.1)
  all [] (g ∷ gs) m = absurd m
  all (p ∷ ps) [] m = absurd m

  pub paced_same : paces_any app.devices.cards app.devices.nets.cards cap.key app.labels ≡ holds_any y.machine (is_paced d)
  paced_same = all app.labels y.machine.held h.held
