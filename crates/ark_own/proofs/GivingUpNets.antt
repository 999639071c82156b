-- The row of `drop`, of a network card.
use Rattle.std.proofs.Common.{◌≡◌, ℕ, ◌<◌, ◌+◌, true, false, not, List, [], ◌∷◌, length, refl, sym, ◌∙◌, ap, subst, arith}
use Rattle.std.specs.Prelude.{Option, Some, None, Ok, Err, ◌||◌, ◌&&◌, nat_lt, find, nat_eq, option_map}
use Rattle.std.specs.List.{list_any}
use Rattle.std.proofs.lemmas.Bool.{false≢true}
use Rattle.std.proofs.lemmas.Bool.Decides.{nat_tests}
use Rattle.ark_base.specs.declared.refusal.Refusal.{Refusal}
use Rattle.ark_base.specs.declared.refusal.Refusal.TheVariants as r
use Rattle.ark_caps.specs.Labels.{others, value_at}
use Rattle.ark_caps.specs.declared.capability.Capability.{Capability}
use Rattle.ark_caps.specs.declared.capability.CapKind.{CapKind}
use Rattle.ark_caps.specs.declared.capability.CapKind.TheVariants as cap_kind
use Rattle.ark_filters.specs.declared.live.Live.{Live}
use Rattle.ark_objects.specs.Held.{at as slot, Changes}
use Rattle.ark_script.specs.declared.said.Said.{Said}
use Rattle.ark_script.specs.declared.said.Said.TheVariants as said
use Rattle.ark_vic.specs.Queue.{members}
use Rattle.ark_vic.specs.declared.door.Counts.{Counts}
use Rattle.ark_machine.specs.Objects
use Rattle.ark_machine.specs.Objects.{Object, Vnic, held_in, is_buffer, is_vsa}
use Rattle.ark_machine.specs.Machine.{Held}
use Rattle.ark_machine.specs.Control.{is_in_use}
use Rattle.ark_held.specs.Words.{Labels}
use Rattle.ark_held.specs.Kept.{Tables}
use Rattle.ark_held.specs.Rings.{card_kept, kept_card, unbound}
use Rattle.ark_held.specs.Nets.{is_empty, kept_net, net_kept}
use Rattle.ark_held.specs.Pacing.{rate_kept}
use Rattle.ark_held.specs.Held.{IsObjectOf, AllMatch, Holds, has_key, is_area, is_net, is_net_kind}
use Rattle.ark_held.specs.Beyond.{Beyond, around, tables_of}
use Rattle.ark_held.specs.Does.{GivesUpNet}
use Rattle.ark_held.specs.declared.allowance.Allowance.{Allowance}
use Rattle.ark_held.specs.declared.app.App.{App}
use Rattle.ark_held.specs.declared.network_card.NetworkCard.{NetworkCard}
use Rattle.ark_held.specs.declared.store.Store.{Store}
use Rattle.ark_held.proofs.Doing.{does_by, refused_first}
use Rattle.ark_held.proofs.Lending.{names_net, no_socket_on}
use Rattle.ark_held.proofs.Lists.{not_some}
use Rattle.ark_held.proofs.Losing.{IsDevice, LosesOne, lost_all}
use Rattle.ark_held.proofs.Parts.{CountsNothing}
use Rattle.ark_held.proofs.Quiet.{empty_ring}
use Rattle.ark_held.proofs.Unbound.{kept_unbound, tables_unbound, unbound_tables}
use Rattle.ark_own.specs.Keys.{cap_under, net_key, net_under, key_if_net}
use Rattle.ark_own.proofs.GivingUp.{conditions, early_busy, left, row, row_done, without_it}
use Rattle.ark_own.proofs.OfNets as nets
use Rattle.ark_own.proofs.OfNets.{HasNet, no_socket, sockets_none, rx_same, tx_same}

-- a network card's label is there
pub there_is : (l : List ℕ) (o : Option Capability) (e : Refusal) → is_net o ≡ true → Err e ≡ cap_under l o → ⊥
there_is l None e net is = false≢true net
there_is l (Some c) e net is = cc (is)

pub kind_is : (c : Capability) → is_net_kind c.kind ≡ true → c.kind ≡ cap_kind.Vnic
kind_is c net = by c.kind net
  where
    by : (k : CapKind) → is_net_kind k ≡ true → k ≡ cap_kind.Vnic
    by cap_kind.Vnic e = refl
    by _ e = absurd (false≢true e)

-- nothing is refused that can't be
pub never_so : (app app1 : App) (l : List ℕ) (reply : Said) → ((y : Beyond) → Holds (around y app) → ⊥) → GivesUpNet app app1 (row l) reply
never_so app app1 l reply none y g grant rules came h = absurd (none y h)

-- a card with nothing in its rings
abbrev bare : Vnic → Vnic
bare v = record v { rx = record v.rx { posted = []; unreaped = [] }; tx = record v.tx { posted = []; unreaped = [] } }

no_items : {X : Type 0} (xs : List X) → length xs ≡ 0 → xs ≡ []
no_items [] none = refl
no_items (x ∷ xs) none = absurd (let z : ⊥ = omega (arith, none) in z)

is_bare : (v : Vnic) → held_in v.rx ≡ 0 → held_in v.tx ≡ 0 → v ≡ bare v
is_bare v rx tx =
    let a = no_items v.rx.posted (omega (arith, rx)) in
    let b = no_items v.rx.unreaped (omega (arith, rx)) in
    let c = no_items v.tx.posted (omega (arith, tx)) in
    let d = no_items v.tx.unreaped (omega (arith, tx)) in
    λ i. record v { rx = record v.rx { posted = a i; unreaped = b i }; tx = record v.tx { posted = c i; unreaped = d i } }

-- Where no filter is live, and there is no socket, nothing names the card.
module _ (y : Beyond) (app : App) (l : List ℕ) (rules : y.rules ≡ []) where
  no_live : (grant : ℕ) (live : Live) → find (λ z. nat_eq z.grant grant) y.rules ≡ Some live → ⊥
  no_live grant live is = not_some (find (λ z. nat_eq z.grant grant) y.rules) live (ap (λ (zs : List Live). find (λ z. nat_eq z.grant grant) zs) rules) is

  unnamed : (k : List ℕ) (c : Capability) (o : Object) → IsObjectOf (around y app) k c o → names_net l o ≡ false
  unnamed k c (Objects.filter z on) f = absurd (no_live c.grant f.live f.kept)
  unnamed k c (Objects.socket z) f = absurd (not_some None f.socket refl f.kept)
  unnamed k c _ f = refl

  all_unnamed : (ps : Labels) (hs : List Held) → AllMatch (around y app) ps hs → list_any (λ g. names_net l g.object) hs ≡ false
  all_unnamed [] [] all = refl
  all_unnamed (p ∷ ps) (g ∷ gs) all = ap (λ b. b || list_any (λ z. names_net l z.object) gs) (unnamed p.0 p.1 g.object all.0.object) ∙ all_unnamed ps gs all.1
  all_unnamed [] (g ∷ gs) all = absurd all
  all_unnamed (p ∷ ps) [] all = absurd all

module _ (app app1 : App) (l : List ℕ) (cap : Capability) (label : value_at app.labels l ≡ Some cap) (kind : cap.kind ≡ cap_kind.Vnic) where
  is_key : Ok cap.key ≡ net_key app.labels l
  is_key = sym (ap (λ o. net_under l o) label ∙ ap (λ (k : CapKind). key_if_net k cap.key) kind)

  its : (y : Beyond) → Holds (around y app) → HasNet (around y app) l cap.key
  its y h = nets.its app l cap.key is_key y h

  device : IsDevice cap
  device = record { no_buffer = λ e. cc (kind, e); plain = ap is_area kind; stored = ap has_key kind }

  pub no_net_there : (reply : Said) → slot app.devices.nets.cards cap.key ≡ None → GivesUpNet app app1 (row l) reply
  no_net_there reply gone = never_so app app1 l reply (λ y h. nets.never_gone app l cap.key is_key y h gone)

  module _ (one : NetworkCard) (here : slot app.devices.nets.cards cap.key ≡ Some one) (quiet : is_empty one.vnic.tx ≡ true) where
    none_sent : (y : Beyond) (v : HasNet (around y app) l cap.key) → held_in v.vnic.tx ≡ 0
    none_sent y v =
        let e = empty_ring one.vnic.tx quiet in
        let posted : length one.vnic.tx.posted ≡ 0 = ap (λ xs. length xs) e.0 in
        let unreaped : length one.vnic.tx.unreaped ≡ 0 = ap (λ xs. length xs) e.1 in
        let same = tx_same app l cap.key is_key one here y v in
        omega (arith, posted, unreaped, same)

    in_use : (y : Beyond) (h : Holds (around y app)) (v : HasNet (around y app) l cap.key) → is_in_use y.machine l v.held.object ≡ nat_lt 0 (members one.vnic.rx)
    in_use y h v =
        let free = no_socket app l cap.key is_key one here y v in
        let alone = no_socket_on y.machine l (sockets_none app l cap.key is_key one here y v) in
        let rx = rx_same app l cap.key is_key one here y v in
        let tx = none_sent y v in
        let all : held_in v.vnic.rx + held_in v.vnic.tx ≡ members one.vnic.rx = omega (arith, rx, tx) in
        ap (λ (o : Object). is_in_use y.machine l o) v.object
        ∙ ap (λ b. b || (not v.vnic.socketed && nat_lt 0 (held_in v.vnic.rx + held_in v.vnic.tx))) alone
        ∙ ap (λ b. not b && nat_lt 0 (held_in v.vnic.rx + held_in v.vnic.tx)) free
        ∙ ap (λ n. nat_lt 0 n) all

    pub net_busy : 0 < members one.vnic.rx → GivesUpNet app app (row l) (said.Refused r.Busy)
    net_busy some y g grant rules came h =
        let v = its y h in
        let used : nat_lt 0 (members one.vnic.rx) ≡ true = grind (arith, nat_tests, some) in
        does_by y app app (row l y.machine g) (said.Refused r.Busy) [] grant refl refl h (
          y.machine,
          refused_first y.machine (conditions y.machine l g) _ r.Busy (early_busy y.machine l g h.made v.held v.there (ap is_buffer v.object) (ap is_vsa v.object) (in_use y h v ∙ used)),
          h,
        )

    module _ (few : members one.vnic.rx ≡ 0) (labels : app1.labels ≡ others l app.labels) (changes : Changes app.devices.nets.cards app1.devices.nets.cards cap.key None)
        (unbind : (k : ℕ) → slot app1.devices.cards k ≡ option_map (unbound cap.grant) (slot app.devices.cards k)) (doors : app1.devices.doors ≡ app.devices.doors) (rates : app1.devices.rates ≡ app.devices.rates) (areas : app1.areas ≡ app.areas) (name : app1.name ≡ app.name) (store : app1.store ≡ app.store) where
      tables_less : Tables
      tables_less = record (tables_of app.store app.devices) { nets = net_kept app1.devices.nets.cards }

      net_less : LosesOne (tables_of app.store app.devices) tables_less cap
      unfolding tables_less
      net_less = record { cards = λ k other. refl; doors = λ k other. refl; rates = λ k other. refl; nets = λ k other. ap (λ o. option_map kept_net o) (changes.others k (λ e. other kind e)); rest = refl }

      tables_then : tables_of app1.store app1.devices ≡ unbound_tables cap.grant tables_less
      unfolding tables_less
      tables_then = tables_unbound app1.store app.store app1.devices app.devices cap.grant (card_kept app.devices.cards) (slot app.devices.doors) (rate_kept app.devices.rates) (net_kept app1.devices.nets.cards) (ap (λ (z : Store). z.region) store) (ap (λ (z : Store). z.buffers) store)
          (λ k. ap (λ o. option_map kept_card o) (unbind k) ∙ kept_unbound cap.grant (slot app.devices.cards k)) (λ k. ap (λ (z : List (Option Counts)). slot z k) doors) (λ k. ap (λ (z : List (Option Allowance)). rate_kept z k) rates) (λ k. refl)

      nothing : (y : Beyond) (v : HasNet (around y app) l cap.key) → CountsNothing v.held.object
      nothing y v =
          let empty = is_bare v.vnic (rx_same app l cap.key is_key one here y v ∙ few) (none_sent y v) in
          subst (λ (o : Object). CountsNothing o) (sym (v.object ∙ ap (λ (z : Vnic). Objects.vnic z) empty)) (record { uses = λ k. refl; opens = λ k. refl; sockets = λ k. refl; covers = λ j. refl })

      gone : (y : Beyond) → y.rules ≡ [] → (h : Holds (around y app)) → Holds (around (record y { machine = left y.machine l }) app1)
      gone y rules h =
          let v = its y h in
          without_it y app app1 l cap.grant tables_less labels areas tables_then
          (lost_all (around y app) h l cap label v.held v.there device (nothing y v) (λ door. cc (kind, door)) (λ card. cc (kind, card)) (λ rate. cc (kind, rate))
          (λ net. all_unnamed y app l rules app.labels y.machine.held h.held) tables_less net_less)

      pub net_done : GivesUpNet app app1 (row l) said.Ok
      net_done y g grant rules came h =
          let v = its y h in
          let unused : nat_lt 0 (members one.vnic.rx) ≡ false = grind (arith, nat_tests, few) in
          does_by y app app1 (row l y.machine g) said.Ok [] grant areas name h (
            left y.machine l,
            row_done y.machine l g h.made v.held v.there (ap is_buffer v.object) (ap is_vsa v.object) came (in_use y h v ∙ unused),
            gone y rules h,
          )
