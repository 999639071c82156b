-- The log that is open on a card, found from the card.
use Rattle.std.proofs.Common.{◌≡◌, ℕ, ◌<◌, Bool, cond, true, false, List, [], ◌∷◌, refl, sym, ◌∙◌, ap, subst, arith, bytes_eq, eqb-true}
use Rattle.std.specs.Prelude.{◌==◌, Option, Some, None, find, is_some, option_and_then, option_map, unwrap_or}
use Rattle.std.proofs.lemmas.Bool.Decides.{nat_tests}
use Rattle.std.proofs.lemmas.Bool.{false≢true}
use Rattle.ark_caps.specs.Labels.{value_at}
use Rattle.ark_caps.specs.declared.capability.Capability.{Capability}
use Rattle.ark_table.specs.Slots.{Slot}
use Rattle.ark_caladan.specs.Chain.{Log, Opened}
use Rattle.ark_log.specs.Open.{OpenChain}
use Rattle.ark_machine.specs.Objects
use Rattle.ark_machine.specs.Objects.{Object, Vsic}
use Rattle.ark_machine.specs.Machine.{Held, at}
use Rattle.ark_machine.specs.Control.{is_open_on}
use Rattle.ark_held.specs.Words.{Labels}
use Rattle.ark_held.specs.Totals.{bit, total}
use Rattle.ark_held.specs.Kept.{CardKept}
use Rattle.ark_held.specs.Around.{Around}
use Rattle.ark_held.specs.Areas.{IsOpened, IsOpenedAs}
use Rattle.ark_held.specs.Held.{IsObjectOf, AllMatch, AreDistinctLabels, Holds, Matches}
use Rattle.ark_held.specs.OpenLogs.{is_log_of, is_open_by, opened_on}
use Rattle.ark_held.specs.Rings.{card_kept, kept_card}
use Rattle.ark_held.specs.Beyond.{Beyond, around}
use Rattle.ark_held.specs.declared.card.StorageCard.{StorageCard}
use Rattle.ark_held.specs.declared.app.App.{App}
use Rattle.ark_objects.specs.Held.{at as key_at}
use Rattle.ark_caps.specs.declared.capability.CapKind.{CapKind}
use Rattle.ark_held.proofs.Lists.{by_test, name_same, not_some, same_name, some_same, value_behind, value_first}
use Rattle.ark_held.proofs.Ending.{OnCard, on_card}
use Rattle.ark_held.proofs.Finding.{Stands, stands_at}
use Rattle.ark_held.proofs.ByKind.{card_of}
use Rattle.ark_held.specs.Cards.{IsCard}
use Rattle.ark_caps.specs.declared.capability.CapKind.TheVariants as cap_kind

module _ (x : Around) (v : List ℕ) where
  -- among these labels a log is open on the card
  pub record OpenOn (ps : Labels) (hs : List Held) : Type 0 where
    pub label : List ℕ
    pub cap : Capability
    pub labelled : value_at ps label ≡ Some cap
    pub held : Held
    pub there : find (λ h. bytes_eq label h.label) hs ≡ Some held
    pub log : Log
    pub object : held.object ≡ Objects.log log
    pub opened : Opened
    pub is_open : log.opened ≡ Some opened
    pub on : opened.card ≡ v
    pub slot : Slot
    pub fits : IsOpened x cap.grant slot.blocks log opened

  module _ (p : List ℕ × Capability) (h : Held) (ps : Labels) (hs : List Held) (m : Matches x p h) where
    open_as : (g : Log) (t : Slot) (o : Option Opened) → h.object ≡ Objects.log g → g.opened ≡ o → IsOpenedAs x p.1.grant t.blocks g o → unwrap_or (option_map (λ z. bytes_eq v z.card) o) false ≡ true → OpenOn (p ∷ ps) (h ∷ hs)
    open_as g t (Some o) object is fits on = record {
      label = p.0;
      cap = p.1;
      labelled = value_first p ps;
      held = h;
      there = ap (λ b. cond b (Some h) (find (λ z. bytes_eq p.0 z.label) hs)) (ap (λ l. bytes_eq p.0 l) m.label ∙ name_same p.0 p.0 refl);
      log = g;
      object = object;
      opened = o;
      is_open = is;
      on = sym (same_name v o.card on);
      slot = t;
      fits = fits;
    }
    open_as g t None object is fits on = absurd (false≢true on)

    open_here : (o : Object) → h.object ≡ o → IsObjectOf x p.0 p.1 o → is_open_on v o ≡ true → OpenOn (p ∷ ps) (h ∷ hs)
    open_here (Objects.log g) is f on = open_as g f.slot g.opened is refl f.opened on
    open_here (Objects.raw z) is f on = absurd (false≢true on)
    open_here (Objects.vsic z) is f on = absurd (false≢true on)
    open_here (Objects.vnic z) is f on = absurd (false≢true on)
    open_here (Objects.filter z y) is f on = absurd (false≢true on)
    open_here (Objects.door z) is f on = absurd (false≢true on)
    open_here (Objects.rate z y) is f on = absurd (false≢true on)
    open_here (Objects.buffer z) is f on = absurd (false≢true on)
    open_here (Objects.socket z) is f on = absurd (false≢true on)

    open_behind : AreDistinctLabels (p ∷ ps) → OpenOn ps hs → OpenOn (p ∷ ps) (h ∷ hs)
    open_behind apart o = record {
      label = o.label;
      cap = o.cap;
      held = o.held;
      log = o.log;
      object = o.object;
      opened = o.opened;
      is_open = o.is_open;
      on = o.on;
      slot = o.slot;
      fits = o.fits;
      labelled = value_behind p ps o.label o.cap apart o.labelled;
      there = ap (λ b. cond b (Some h) (find (λ z. bytes_eq o.label z.label) hs)) (ap (λ l. bytes_eq o.label l) m.label ∙ other (bytes_eq o.label p.0) refl) ∙ o.there;
    }
      where
        other : (b : Bool) → bytes_eq o.label p.0 ≡ b → b ≡ false
        other true q = absurd (not_some (value_at ps o.label) o.cap (ap (λ l. value_at ps l) (same_name o.label p.0 q) ∙ apart.0) o.labelled)
        other false q = refl

  open_among : (ps : Labels) (hs : List Held) → AreDistinctLabels ps → AllMatch x ps hs → 0 < total (λ h. bit (is_open_on v h.object)) hs → OpenOn ps hs
  open_among [] [] apart all some = absurd (let z : ⊥ = omega (arith, some) in z)
  open_among (p ∷ ps) (h ∷ hs) apart all some =
      by_test (λ t. is_open_on v h.object ≡ t → OpenOn (p ∷ ps) (h ∷ hs)) (is_open_on v h.object)
      (λ yes q. open_here p h ps hs all.0 h.object refl all.0.object q)
      (λ no q. let none : bit (is_open_on v h.object) ≡ 0 = ap bit q in open_behind p h ps hs all.0 apart (open_among ps hs apart.1 all.1 (omega (arith, some, none)))) refl
  open_among [] (h ∷ hs) apart all some = absurd all
  open_among (p ∷ ps) [] apart all some = absurd all

module _ (x : Around) (v : List ℕ) (c : Capability) (k : CardKept) (card : Vsic) (on : OnCard x v c k card) (q : OpenChain) (log : k.log ≡ Some q) where
  pub the_open : OpenOn x v x.labels x.machine.held
  the_open = open_among x v x.labels x.machine.held on.holds.apart on.holds.held (let one = ap (λ (o : Option OpenChain). bit (is_some o)) (sym log) ∙ on.fits.log in omega (arith, one))

  -- its card is this one, and it is the log that the card has
  pub its_card : the_open.fits.its_card ≡ k
  its_card =
      let n = the_open.fits.card in
      let same : n.cap ≡ c = some_same (value_at x.labels v) n.cap c (ap (λ (l : List ℕ). value_at x.labels l) (sym the_open.on) ∙ n.there) on.named in
      some_same (x.tables.cards c.key) the_open.fits.its_card k
      (ap x.tables.cards (ap (λ (z : Capability). z.key) (sym same) ∙ n.its_key) ∙ the_open.fits.kept) on.was

  pub its_chain : the_open.fits.chain ≡ q
  its_chain = some_same k.log the_open.fits.chain q (ap (λ (z : CardKept). z.log) (sym its_card) ∙ the_open.fits.on) log

-- Whether the log of an area is open, as the code finds it and as the machine has it.
module _ (r : Beyond) (app : App) (h : Holds (around r app)) (l : List ℕ) (c : Capability) (named : value_at app.labels l ≡ Some c) where
  abbrev pub y : Around
  y = around r app

  its_log : (o : Option StorageCard) → option_and_then (λ z. z.log) o ≡ option_and_then (λ (k : CardKept). k.log) (option_map kept_card o)
  its_log None = refl
  its_log (Some one) = refl

  none_value : (f : Capability → Bool) (ps : Labels) (k : List ℕ) (d : Capability) → find (λ p. f p.1) ps ≡ None → value_at ps k ≡ Some d → f d ≡ false
  none_value f [] k d none is = absurd (not_some None d refl is)
  none_value f (p ∷ ps) k d none is =
      by_test (λ b. f p.1 ≡ b → cond b (Some p) (find (λ z. f z.1) ps) ≡ None → f d ≡ false) (f p.1)
      (λ yes q e. absurd (not_some (Some p) p e refl))
      (λ no q e. by_test (λ b. bytes_eq k p.0 ≡ b → cond b (Some p.1) (value_at ps k) ≡ Some d → f d ≡ false) (bytes_eq k p.0)
      (λ here s i. ap f (sym (some_same (Some p.1) p.1 d refl i)) ∙ q) (λ there s i. none_value f ps k d e i) refl is) refl none

  -- found on no card, it is closed
  pub shut : (blocks : List ℕ) (g : Log) (o : Option Opened) → g.opened ≡ o → IsOpenedAs y c.grant blocks g o → opened_on app.devices.cards c.grant app.labels ≡ None → g.opened ≡ None
  shut blocks g None is f none = is
  shut blocks g (Some o) is f none =
      let missed = none_value (λ d. is_open_by app.devices.cards c.grant d.kind d.key) app.labels o.card f.card.cap none f.card.there in
      let log : option_and_then (λ z. z.log) (key_at app.devices.cards f.card.cap.key) ≡ Some f.chain =
      its_log (key_at app.devices.cards f.card.cap.key) ∙ ap (λ i. option_and_then (λ (k : CardKept). k.log) (card_kept app.devices.cards i)) f.card.its_key ∙ ap (λ (k : Option CardKept). option_and_then (λ z. z.log) k) f.kept ∙ f.on in
      let same : (f.chain.grant == c.grant) ≡ true = let e = f.its_grant in grind (arith, nat_tests, e) in
      absurd (false≢true (sym missed ∙ ap (λ (k : CapKind). is_open_by app.devices.cards c.grant k f.card.cap.key) f.card.its_kind ∙ ap (λ q. is_log_of c.grant q) log ∙ same))

  -- found on a card, it is open
  module _ (p : List ℕ × Capability) (found : opened_on app.devices.cards c.grant app.labels ≡ Some p) where
    passes : (f : List ℕ × Capability → Bool) (ps : Labels) → AreDistinctLabels ps → find f ps ≡ Some p → (f p ≡ true) × (value_at ps p.0 ≡ Some p.1)
    passes f [] apart is = absurd (not_some None p refl is)
    passes f (q ∷ ps) apart is =
        by_test (λ b. f q ≡ b → cond b (Some q) (find f ps) ≡ Some p → (f p ≡ true) × (value_at (q ∷ ps) p.0 ≡ Some p.1)) (f q)
        (λ yes e i. let same = some_same (Some q) q p refl i in (ap f (sym same) ∙ e, subst (λ (z : List ℕ × Capability). value_at (q ∷ ps) z.0 ≡ Some z.1) same (value_first q ps)))
        (λ no e i. let rest = passes f ps apart.1 i in (rest.0, value_behind q ps p.0 p.1 apart rest.1)) refl is

    its : (is_open_by app.devices.cards c.grant p.1.kind p.1.key ≡ true) × (value_at app.labels p.0 ≡ Some p.1)
    its = passes (λ z. is_open_by app.devices.cards c.grant z.1.kind z.1.key) app.labels h.apart found

    card_kind : (k : CapKind) → is_open_by app.devices.cards c.grant k p.1.key ≡ true → p.1.kind ≡ k → p.1.kind ≡ cap_kind.Vsic
    card_kind cap_kind.Vsic e is = is
    card_kind cap_kind.Vsa e is = absurd (false≢true e)
    card_kind cap_kind.Vnic e is = absurd (false≢true e)
    card_kind cap_kind.Filter e is = absurd (false≢true e)
    card_kind cap_kind.Door e is = absurd (false≢true e)
    card_kind cap_kind.Rate e is = absurd (false≢true e)
    card_kind cap_kind.Buf e is = absurd (false≢true e)
    card_kind cap_kind.Sock e is = absurd (false≢true e)

    pub its_kind : p.1.kind ≡ cap_kind.Vsic
    its_kind = card_kind p.1.kind its.0 refl

    pub its_stands : Stands y p.0 p.1
    its_stands = stands_at y p.0 p.1 h its.1

    abbrev pub its_vsic : (v : Vsic) × (its_stands.held.object ≡ Objects.vsic v) × IsCard y p.0 p.1 v
    its_vsic = card_of y p.0 p.1 its_stands.held.object its_stands.matches.object its_kind

    pub on_its_card : OnCard y p.0 p.1 its_vsic.2.card its_vsic.0
    on_its_card = on_card y p.0 p.1 its_vsic.2.card its_vsic.0 its_stands.held h its.1 its_kind its_stands.there its_vsic.1 its_vsic.2.kept

    log_there : (o : Option OpenChain) → is_log_of c.grant o ≡ true → (q : OpenChain) × (o ≡ Some q) × (q.grant ≡ c.grant)
    log_there None e = absurd (false≢true e)
    log_there (Some q) e = (q, refl, eqb-true q.grant c.grant e)

    pub its_open : (q : OpenChain) × (its_vsic.2.card.log ≡ Some q) × (q.grant ≡ c.grant)
    its_open = log_there its_vsic.2.card.log
        (ap (λ z. is_log_of c.grant z) (sym (its_log (key_at app.devices.cards p.1.key) ∙ ap (λ (k : Option CardKept). option_and_then (λ z. z.log) k) its_vsic.2.kept))
        ∙ ap (λ k. is_open_by app.devices.cards c.grant k p.1.key) (sym its_kind) ∙ its.0)

    abbrev pub open_there : OpenOn y p.0 app.labels r.machine.held
    open_there = the_open y p.0 p.1 its_vsic.2.card its_vsic.0 on_its_card its_open.0 its_open.1

    -- it is the log under the label
    pub its_label : open_there.label ≡ l
    its_label = h.own.grants open_there.label l open_there.cap c open_there.labelled named
        (sym open_there.fits.its_grant ∙ ap (λ (z : OpenChain). z.grant) (its_chain y p.0 p.1 its_vsic.2.card its_vsic.0 on_its_card its_open.0 its_open.1) ∙ its_open.2)

    pub is_there : at r.machine l ≡ Some open_there.held
    is_there = ap (λ k. at r.machine k) (sym its_label) ∙ open_there.there
