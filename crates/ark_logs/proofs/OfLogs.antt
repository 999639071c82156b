-- Open logs and queues, as words on them come to their rows.
use Rattle.std.proofs.Common.{◌≡◌, ℕ, Bool, true, cond, List, [], ◌∷◌, refl, sym, ◌∙◌, ap, subst}
use Rattle.std.specs.Prelude.{Option, Some, None, Result, Ok, Err, find, is_ok, option_map, option_and_then}
use Rattle.std.proofs.lemmas.Bool.{false≢true}
use Rattle.ark_base.specs.declared.refusal.Refusal.{Refusal}
use Rattle.ark_base.specs.declared.refusal.Refusal.TheVariants as r
use Rattle.ark_caps.specs.Labels.{value_at}
use Rattle.ark_caps.specs.declared.capability.Capability.{Capability}
use Rattle.ark_caps.specs.declared.capability.CapKind.{CapKind}
use Rattle.ark_caps.specs.declared.capability.CapKind.TheVariants as cap_kind
use Rattle.ark_caladan.specs.Chain.{Log, Opened}
use Rattle.ark_caladan.specs.Open.{Layout}
use Rattle.ark_objects.specs.Held.{at as key_at}
use Rattle.ark_log.specs.Open.{OpenChain}
use Rattle.ark_vsic.specs.Card.{is_bound}
use Rattle.ark_running.specs.Running.{IsRunning}
use Rattle.ark_machine.specs.Objects
use Rattle.ark_machine.specs.Objects.{Object, Vsic, as_log}
use Rattle.ark_machine.specs.Machine.{Held, at, log_at}
use Rattle.ark_machine.specs.Logs.{opened_of}
use Rattle.ark_held.specs.Words.{Labels}
use Rattle.ark_held.specs.Around.{Around}
use Rattle.ark_held.specs.Areas.{IsLog, IsOpened, IsOpenedAs}
use Rattle.ark_held.specs.Cards.{IsCard}
use Rattle.ark_held.specs.Held.{IsObjectOf, AtLabel, Holds}
use Rattle.ark_held.specs.Kept.{CardKept}
use Rattle.ark_held.specs.Rings.{kept_card, card_kept}
use Rattle.ark_held.specs.Closing.{IsOpenAt}
use Rattle.ark_held.specs.OpenLogs.{is_log_of, is_open_by, opened_on}
use Rattle.ark_held.specs.Beyond.{Beyond, around}
use Rattle.ark_held.specs.declared.app.App.{App}
use Rattle.ark_held.specs.declared.card.StorageCard.{StorageCard}
use Rattle.ark_held.proofs.Lists.{by_test, not_some, some_same}
use Rattle.ark_held.proofs.Finding.{found, stands_at}
use Rattle.ark_held.proofs.BothPut.{HasOpen}
use Rattle.ark_held.proofs.OpenCards.{shut, on_its_card, its_vsic, its_stands, open_there, is_there}
use Rattle.ark_logs.specs.Finds.{open_under, open_by, open_at}
use Rattle.ark_logs.specs.declared.finding.OpenAt.{OpenAt}

-- the log or queue under a label, with the card on which it is open, the chain that the card has, and how it runs
pub record FoundOpen (x : Around) (cards : List (Option StorageCard)) (s : List ℕ) (a : OpenAt) : Type 0 where
  pub v : List ℕ
  pub both : HasOpen x s v
  pub grant_is : both.area.grant ≡ a.grant
  pub key_is : both.card.key ≡ a.key
  pub opened : Opened
  pub is_open : both.log.opened ≡ Some opened
  pub on : opened.card ≡ v
  pub one : StorageCard
  pub here : key_at cards a.key ≡ Some one
  pub kept : both.card_fits.card ≡ kept_card one
  pub chain : OpenChain
  pub its_log : one.log ≡ Some chain
  pub its_grant : chain.grant ≡ a.grant
  pub bound : is_bound a.grant one.vsic.bound ≡ true
  pub lies : Layout
  pub runs : IsRunning x.history both.log_fits.slot.blocks x.tables.memory one.vsic.ring chain lies both.log opened

-- it is no log or queue, or is not open
abbrev pub HasNone : Around → List ℕ → Refusal → Type 0
HasNone x l (r.NoGrant k) = (k ≡ l) × (at x.machine l ≡ None)
HasNone x l r.WrongKind = (h : Held) × (at x.machine l ≡ Some h) × (opened_of (log_at x.machine l) ≡ None)
HasNone x l _ = ⊥

abbrev pub FoundAs : Around → List (Option StorageCard) → List ℕ → Result OpenAt Refusal → Type 0
FoundAs x cards l (Ok a) = FoundOpen x cards l a
FoundAs x cards l (Err e) = HasNone x l e

passes_find : {X : Type 0} (f : X → Bool) (xs : List X) (x : X) → find f xs ≡ Some x → f x ≡ true
passes_find f [] x is = absurd (not_some None x refl is)
passes_find f (y ∷ ys) x is =
    by_test (λ b. f y ≡ b → cond b (Some y) (find f ys) ≡ Some x → f x ≡ true) (f y)
    (λ yes q e. ap f (sym (some_same (Some y) y x refl e)) ∙ q) (λ no q e. passes_find f ys x e) refl is

one_there : (o : Option StorageCard) (k : CardKept) → option_map kept_card o ≡ Some k → (one : StorageCard) × (o ≡ Some one) × (k ≡ kept_card one)
one_there None k is = absurd (not_some None k refl is)
one_there (Some one) k is = (one, refl, sym (some_same (Some (kept_card one)) (kept_card one) k refl is))

module _ (r : Beyond) (app : App) (holds : Holds (around r app)) (l : List ℕ) where
  -- found on no card
  none_open : (c : Capability) (o : Object) → IsObjectOf (around r app) l c o → value_at app.labels l ≡ Some c → opened_on app.devices.cards c.grant app.labels ≡ None → opened_of (as_log o) ≡ None
  none_open c (Objects.log g) f label none = shut r app holds l c label f.slot.blocks g g.opened refl f.opened none
  none_open c _ f label none = refl

  module _ (c : Capability) (label : value_at app.labels l ≡ Some c) (p : List ℕ × Capability) (is : opened_on app.devices.cards c.grant app.labels ≡ Some p) where
    abbrev the_card : Vsic
    the_card = (its_vsic r app holds l c label p is).0

    abbrev card_fits : IsCard (around r app) p.0 p.1 (its_vsic r app holds l c label p is).0
    card_fits = (its_vsic r app holds l c label p is).2

    open_as : (g : Log) (o : Opened) → IsLog (around r app) l c g → at r.machine l ≡ Some (open_there r app holds l c label p is).held → (open_there r app holds l c label p is).held.object ≡ Objects.log g → g.opened ≡ Some o → o.card ≡ p.0
        → FoundOpen (around r app) app.devices.cards l (record { grant = c.grant; key = p.1.key })
    open_as g o f there object is_open on =
        let both : HasOpen (around r app) l p.0 = record {
          held_log = (open_there r app holds l c label p is).held;
          log = g;
          area = c;
          there_log = there;
          object_log = object;
          area_label = label;
          log_fits = f;
          held_card = (its_stands r app holds l c label p is).held;
          vsic = the_card;
          card = p.1;
          there_card = (its_stands r app holds l c label p is).there;
          object_card = (its_vsic r app holds l c label p is).1;
          card_label = (on_its_card r app holds l c label p is).named;
          card_fits = card_fits;
        } in
        let one = one_there (key_at app.devices.cards p.1.key) card_fits.card card_fits.kept in
        let opens : IsOpened (around r app) c.grant f.slot.blocks g o = subst (λ (z : Option Opened). IsOpenedAs (around r app) c.grant f.slot.blocks g z) is_open f.opened in
        let cap : opens.card.cap ≡ p.1 = some_same (value_at app.labels p.0) opens.card.cap p.1 (ap (λ (k : List ℕ). value_at app.labels k) (sym on) ∙ opens.card.there) (on_its_card r app holds l c label p is).named in
        let card : opens.its_card ≡ kept_card one.0 =
        some_same (card_kept app.devices.cards p.1.key) opens.its_card (kept_card one.0) (ap (λ (k : Capability). card_kept app.devices.cards k.key) (sym cap) ∙ ap (λ k. card_kept app.devices.cards k) opens.card.its_key ∙ opens.kept) (ap (λ (z : Option StorageCard). option_map kept_card z) one.1) in
        record {
          v = p.0;
          both = both;
          grant_is = refl;
          key_is = refl;
          opened = o;
          is_open = is_open;
          on = on;
          one = one.0;
          here = one.1;
          kept = one.2;
          chain = opens.chain;
          its_log = ap (λ (z : CardKept). z.log) (sym card) ∙ opens.on;
          its_grant = opens.its_grant;
          bound = ap (λ (z : CardKept). is_bound c.grant z.bound) (sym card) ∙ opens.bound;
          lies = opens.lies;
          runs = subst (λ (z : CardKept). IsRunning r.history f.slot.blocks app.store.region z.ring opens.chain opens.lies g o) card opens.runs;
        }

    is_found : FoundOpen (around r app) app.devices.cards l (record { grant = c.grant; key = p.1.key })
    is_found =
        let s = stands_at (around r app) l c holds label in
        let o = open_there r app holds l c label p is in
        let there = is_there r app holds l c label p is in
        let same : s.held ≡ o.held = some_same (at r.machine l) s.held o.held s.there there in
        let f : IsLog (around r app) l c o.log = subst (λ (z : Object). IsObjectOf (around r app) l c z) (ap (λ (z : Held). z.object) same ∙ o.object) s.matches.object in
        open_as o.log o.opened f there o.object o.is_open o.on

  by_card : (c : Capability) (h : Held) (o : Option (List ℕ × Capability)) → value_at app.labels l ≡ Some c → at r.machine l ≡ Some h → IsObjectOf (around r app) l c h.object → opened_on app.devices.cards c.grant app.labels ≡ o
      → FoundAs (around r app) app.devices.cards l (open_at c.grant (option_map (λ q. q.1) o))
  by_card c h None label there f is = (h, there, ap (λ (z : Option Held). opened_of (option_and_then as_log (option_map (λ y. y.object) z))) there ∙ none_open c h.object f label is)
  by_card c h (Some p) label there f is = is_found c label p is

  by_label : (c : Option Capability) (o : Option Held) → value_at app.labels l ≡ c → at r.machine l ≡ o → AtLabel (around r app) l c o → FoundAs (around r app) app.devices.cards l (open_by app.labels app.devices.cards l c)
  by_label None None label there m = (refl, there)
  by_label (Some c) (Some h) label there m = by_card c h (opened_on app.devices.cards c.grant app.labels) label there m.object refl
  by_label None (Some h) label there m = absurd m
  by_label (Some c) None label there m = absurd m

  -- what a word finds under a label
  pub found_open : (res : Result OpenAt Refusal) → res ≡ open_under app.labels app.devices.cards l → FoundAs (around r app) app.devices.cards l res
  found_open res is = subst (λ (z : Result OpenAt Refusal). FoundAs (around r app) app.devices.cards l z) (sym is) (by_label (value_at app.labels l) (at r.machine l) refl refl (found (around r app) l app.labels r.machine.held holds.held))

-- The log that is found is open there, as the code has it.
module _ (labels : Labels) (cards : List (Option StorageCard)) (l : List ℕ) (a : OpenAt) where
  open_on : (o : Option StorageCard) → key_at cards a.key ≡ o → is_log_of a.grant (option_and_then (λ c. c.log) o) ≡ true → IsOpenAt cards a.key
  open_on None there is = absurd (false≢true is)
  open_on (Some one) there is = has_log one.log refl is
    where
      has_log : (log : Option OpenChain) → one.log ≡ log → is_log_of a.grant log ≡ true → IsOpenAt cards a.key
      has_log None log is = absurd (false≢true is)
      has_log (Some chain) log is = record { one = one; there = there; chain = chain; log = log }

  by_kind : (k : CapKind) → is_open_by cards a.grant k a.key ≡ true → IsOpenAt cards a.key
  by_kind cap_kind.Vsic is = open_on (key_at cards a.key) refl is
  by_kind cap_kind.Vsa is = absurd (false≢true is)
  by_kind cap_kind.Vnic is = absurd (false≢true is)
  by_kind cap_kind.Filter is = absurd (false≢true is)
  by_kind cap_kind.Door is = absurd (false≢true is)
  by_kind cap_kind.Rate is = absurd (false≢true is)
  by_kind cap_kind.Buf is = absurd (false≢true is)
  by_kind cap_kind.Sock is = absurd (false≢true is)

  by_found : (grant : ℕ) (o : Option (List ℕ × Capability)) → opened_on cards grant labels ≡ o → Ok a ≡ open_at grant (option_map (λ p. p.1) o) → IsOpenAt cards a.key
  by_found grant None found is = absurd (false≢true (sym (ap is_ok is)))
  by_found grant (Some p) found is =
      let same : a ≡ record { grant = grant; key = p.1.key } = cc is in
      by_kind p.1.kind (ap (λ (z : OpenAt). is_open_by cards z.grant p.1.kind z.key) same ∙ passes_find (λ q. is_open_by cards grant q.1.kind q.1.key) labels p found)

  by_cap : (c : Option Capability) → Ok a ≡ open_by labels cards l c → IsOpenAt cards a.key
  by_cap None is = absurd (false≢true (sym (ap is_ok is)))
  by_cap (Some c) is = by_found c.grant (opened_on cards c.grant labels) refl is

  pub open_there_at : Ok a ≡ open_under labels cards l → IsOpenAt cards a.key
  open_there_at is = by_cap (value_at labels l) is
