-- The row of `take`: the oldest completion of a ring goes, and its buffer comes back.
use Rattle.std.proofs.Common.{◌≡◌, ℕ, Bool, true, false, List, [], ◌∷◌, refl, sym, ◌∙◌, ap, subst, arith}
use Rattle.std.specs.Prelude.{Option, Some, None, Result, Ok, Err, is_none, is_some, length, option_map, slice_get}
use Rattle.std.proofs.lemmas.Bool.{false≢true}
use Rattle.ark_base.specs.declared.refusal.Refusal.{Refusal}
use Rattle.ark_caps.specs.declared.capability.CapKind.TheVariants as cap_kind
use Rattle.ark_filters.specs.declared.filter.Direction.{Direction}
use Rattle.ark_filters.specs.declared.filter.Direction.TheVariants as direction
use Rattle.ark_media.specs.Calls.{Told}
use Rattle.ark_objects.specs.Held.{at as slot, Changes}
use Rattle.ark_region.specs.Frames.{Piece}
use Rattle.ark_script.specs.declared.said.Said.{Said}
use Rattle.ark_script.specs.declared.said.Said.TheVariants as said
use Rattle.ark_vic.specs.declared.descriptor.Completion.{Completion}
use Rattle.ark_machine.specs.Objects
use Rattle.ark_machine.specs.Objects.{Vnic, Place, named, taken}
use Rattle.ark_machine.specs.Machine.{Machine, Held, at, vnic_at, with_object}
use Rattle.ark_machine.specs.Network as rows
use Rattle.ark_machine.specs.Network.{is_socketed, received_at, sent_at, take_oldest, take_received, take_sent}
use Rattle.ark_machine.specs.Row.{Row, Given, says}
use Rattle.ark_held.specs.Kept.{BufferKept, NetKept}
use Rattle.ark_held.specs.Stored.{ChangesRight, kept_of, place_kept}
use Rattle.ark_held.specs.Nets.{is_empty, with_taken}
use Rattle.ark_held.specs.Around.{Around, Names, Each}
use Rattle.ark_held.specs.Cards.{HasBuffer}
use Rattle.ark_held.specs.Network.{IsReceived, IsSent}
use Rattle.ark_held.specs.Held.{Holds}
use Rattle.ark_held.specs.Beyond.{Beyond, around}
use Rattle.ark_held.specs.Does.{Acts}
use Rattle.ark_held.specs.declared.app.App.{App}
use Rattle.ark_held.specs.declared.buffer.Buffer as kept
use Rattle.ark_held.specs.declared.network_card.NetworkCard.{NetworkCard}
use Rattle.ark_held.proofs.ByKind.{buffer_of}
use Rattle.ark_held.proofs.Doing.{comes, never}
use Rattle.ark_held.proofs.Finding.{stands_at}
use Rattle.ark_held.proofs.Lists.{not_some, some_same}
use Rattle.ark_held.proofs.NetRings.{HasNetAndBuffer}
use Rattle.ark_held.proofs.Quiet.{empty_ring}
use Rattle.ark_held.proofs.Receiving.{takes_back}
use Rattle.ark_own.specs.Keys.{IsLabelOf, net_key}
use Rattle.ark_own.proofs.Looked as looked
use Rattle.ark_own.proofs.Looked.{Looked}
use Rattle.ark_own.proofs.OfNets as nets
use Rattle.ark_own.proofs.OfNets.{HasNet, found_net, net_looked, not_socketed, entry_same}
use Rattle.ark_own.proofs.TakingBack.{named_by, one_label}

-- nothing stands for nothing
pub none_there : {X Y : Type 0} (P : X → Y → Type 0) (xs : List X) (ys : List Y) → xs ≡ [] → Each P xs ys → ys ≡ []
none_there P [] [] e each = refl
none_there P [] (y ∷ ys) e each = absurd each
none_there P (x ∷ xs) ys e each = absurd (cc (e))

no_items : {X : Type 0} (xs : List X) → length xs ≡ 0 → xs ≡ []
no_items [] none = refl
no_items (x ∷ xs) none = absurd (let z : ⊥ = omega (arith, none) in z)

-- the oldest completion of the receive ring goes
oldest_row : (m : Machine) (v : List ℕ) (held : Held) (x : Vnic) (l : List ℕ) (len : ℕ) (us : List (Place × ℕ)) → at m v ≡ Some held → held.object ≡ Objects.vnic x → x.rx.unreaped ≡ (named l, len) ∷ us
    → take_oldest direction.Rx m v ≡ says (with_object m v (Objects.vnic (record x { rx = record x.rx { unreaped = us } }))) (said.TakenRx l len)
oldest_row m v held x l len us there object received =
    let all : received_at m v ≡ (named l, len) ∷ us = rw (there, object) received in
    ap (λ (zs : List (Place × ℕ)). take_received m v zs) all ∙ rw (there, object) refl

module _ (t : Told) (app : App) (v : List ℕ) (ring : Direction) where
  abbrev its_labels : List (List ℕ)
  its_labels = v ∷ []

  abbrev other : Machine → Bool
  other m = is_none (vnic_at m v)

  abbrev never_so : Machine → Bool
  never_so m = false

  abbrev used : Machine → Bool
  used m = is_socketed m v

  abbrev rest : Machine → Given → Row
  rest m g = take_oldest ring m v

  abbrev pub row : Machine → Given → Row
  row m g = rows.take_frame m v ring g

  abbrev row_is : (m : Machine) (g : Given) → row m g ≡ row m g
  row_is m g = refl

  net_there : (res : Result ℕ Refusal) → res ≡ net_key app.labels v → (y : Beyond) → Holds (around y app) → Looked y.machine its_labels (other y.machine) res
  net_there res is y h = net_looked (around y app) v res (found_net (around y app) v h res is)

  pub no_key : (e : Refusal) → Err e ≡ net_key app.labels v → Acts t app app row [] (said.Refused e) []
  no_key e is = looked.not_found t app its_labels other never_so used never_so never_so row rest row_is ℕ e (net_there (Err e) is)

  module _ (key : ℕ) (is : Ok key ≡ net_key app.labels v) where
    pub no_net : (e : Refusal) → slot app.devices.nets.cards key ≡ None → Acts t app app row [] (said.Refused e) []
    no_net e gone = looked.never_there t app its_labels other never_so used never_so never_so row rest row_is e (λ y h. nets.never_gone app v key is y h gone)

    module _ (one : NetworkCard) (here : slot app.devices.nets.cards key ≡ Some one) where
      -- nothing refuses it
      pub done : (y : Beyond) (g : Given) → Holds (around y app) → row y.machine g ≡ take_oldest ring y.machine v
      done y g h = looked.done t app its_labels other never_so used never_so never_so row rest row_is (net_there (Ok key) is) (λ y h. refl)
          (λ y h. not_socketed app v key is one here y (nets.its app v key is y h)) (λ y h. refl) y g h refl

module _ (t : Told) (app : App) (v : List ℕ) (key : ℕ) (is : Ok key ≡ net_key app.labels v) (one : NetworkCard) (here : slot app.devices.nets.cards key ≡ Some one) where
  -- So far nothing is sent.
  pub none_sent : is_empty one.vnic.tx ≡ true → Acts t app app (row t app v direction.Tx) [] said.Nothing []
  none_sent quiet = comes t app app (row t app v direction.Tx) said.Nothing [] refl refl (λ y g sited h.
      let c = nets.its app v key is y h in
      let sent : Each (IsSent (around y app) None) one.vnic.tx.unreaped c.vnic.tx.unreaped =
      subst (λ (k : NetKept). Each (IsSent (around y app) k.ports) k.tx.unreaped c.vnic.tx.unreaped) (entry_same app v key is one here y c) c.fits.tx_unreaped in
      let none : c.vnic.tx.unreaped ≡ [] = none_there (IsSent (around y app) None) one.vnic.tx.unreaped c.vnic.tx.unreaped (empty_ring one.vnic.tx quiet).1 sent in
      (y.machine, done t app v direction.Tx key is one here y g h ∙ rw (c.there, c.object, none) refl, h))

  abbrev its_row : Machine → Given → Row
  its_row = row t app v direction.Rx

  each_received : (y : Beyond) (c : HasNet (around y app) v key) → Each (IsReceived (around y app) None) one.vnic.rx.unreaped c.vnic.rx.unreaped
  each_received y c = subst (λ (k : NetKept). Each (IsReceived (around y app) k.ports) k.rx.unreaped c.vnic.rx.unreaped) (entry_same app v key is one here y c) c.fits.rx_unreaped

  -- No completion.
  pub none_received : length one.vnic.rx.unreaped ≡ 0 → Acts t app app its_row [] said.Nothing []
  none_received few = comes t app app its_row said.Nothing [] refl refl (λ y g sited h.
      let c = nets.its app v key is y h in
      let none : c.vnic.rx.unreaped ≡ [] = none_there (IsReceived (around y app) None) one.vnic.rx.unreaped c.vnic.rx.unreaped (no_items one.vnic.rx.unreaped few) (each_received y c) in
      (y.machine, done t app v direction.Rx key is one here y g h ∙ rw (c.there, c.object, none) refl, h))

  module _ (ended : Completion) (is_oldest : slice_get one.vnic.rx.unreaped 0 ≡ Some ended) where
    -- The oldest completion, and what was received.
    record Oldest (x : Around) (cs : List Completion) (us : List (Place × ℕ)) : Type 0 where
      rest : List Completion
      first : cs ≡ ended ∷ rest
      label : List ℕ
      others : List (Place × ℕ)
      received : us ≡ (named label, ended.len) ∷ others
      buffer : HasBuffer x ended.tag ended.buf label

    oldest_of : (x : Around) (cs : List Completion) (us : List (Place × ℕ)) → slice_get cs 0 ≡ Some ended → Each (IsReceived x None) cs us → Oldest x cs us
    oldest_of x [] us first each = absurd (not_some None ended refl first)
    oldest_of x (c ∷ cs) [] first each = absurd each
    oldest_of x (c ∷ cs) ((taken z, len) ∷ us) first each = absurd (false≢true each.0.1.0)
    oldest_of x (c ∷ cs) ((named l, len) ∷ us) first each =
        let same : c ≡ ended = some_same (Some c) c ended refl first in
        record {
          rest = cs;
          first = ap (λ z. z ∷ cs) same;
          label = l;
          others = us;
          received = ap (λ (n : ℕ). (named l, n) ∷ us) (sym each.0.0 ∙ ap (λ (z : Completion). z.len) same);
          buffer = subst (λ (z : Completion). HasBuffer x z.tag z.buf l) same each.0.1;
        }

    its_oldest : (y : Beyond) (c : HasNet (around y app) v key) → Oldest (around y app) one.vnic.rx.unreaped c.vnic.rx.unreaped
    its_oldest y c = oldest_of (around y app) one.vnic.rx.unreaped c.vnic.rx.unreaped is_oldest (each_received y c)

    -- it has a buffer
    pub never_bare : (app1 : App) (reply : Said) → ended.buf ≡ None → Acts t app app1 its_row [] reply []
    never_bare app1 reply none = never t app app1 its_row reply [] (λ y h.
        let o = its_oldest y (nets.its app v key is y h) in false≢true (sym (by ended.buf o.buffer.some) ∙ ap (λ (p : Option Piece). is_none p) none))
      where
        by : (p : Option Piece) → is_some p ≡ true → is_none p ≡ false
        by (Some z) e = refl
        by None e = absurd (false≢true e)

    -- which has a label
    pub never_unnamed : (app1 : App) (reply : Said) → ((l : List ℕ) → IsLabelOf app.labels ended.tag l → ⊥) → Acts t app app1 its_row [] reply []
    never_unnamed app1 reply none = never t app app1 its_row reply [] (λ y h.
        let o = its_oldest y (nets.its app v key is y h) in none o.label (named_by (around y app) h o.label ended.tag o.buffer.named))

    module _ (app1 : App) (changes : Changes app.devices.nets.cards app1.devices.nets.cards key (Some (with_taken one))) (labels : app1.labels ≡ app.labels) (cards : app1.devices.cards ≡ app.devices.cards) (doors : app1.devices.doors ≡ app.devices.doors) (rates : app1.devices.rates ≡ app.devices.rates) (areas : app1.areas ≡ app.areas) (name : app1.name ≡ app.name)
        (right : Piece) (some : ended.buf ≡ Some right) (label : List ℕ) (labelled : IsLabelOf app.labels ended.tag label) (region : app1.store.region ≡ app.store.region)
        (restored : (lent : kept.Buffer) → slot app.store.buffers ended.tag ≡ Some lent → right ≡ place_kept lent → ChangesRight app.store.buffers app1.store.buffers ended.tag (Some right)) where
      module _ (y : Beyond) (h : Holds (around y app)) (c : HasNet (around y app) v key) where
        abbrev x : Around
        x = around y app

        abbrev o : Oldest x one.vnic.rx.unreaped c.vnic.rx.unreaped
        o = its_oldest y c

        abbrev n : Names x o.label cap_kind.Buf ended.tag
        n = o.buffer.named

        abbrev both : HasNetAndBuffer x v o.label
        both =
            let s = stands_at x o.label n.cap h n.there in
            let z = buffer_of x o.label n.cap s.held.object s.matches.object n.its_kind in
            record { held = c.held; vnic = c.vnic; card = c.cap; there = c.there; object = c.object; card_label = c.label; card_fits = c.fits; cap = n.cap; buffer_label = n.there; buffer = z.0; buffer_fits = z.2 }

        its_lent : (e : Option kept.Buffer) → slot app.store.buffers ended.tag ≡ e → option_map (λ (b : BufferKept). b.piece) (option_map kept_of e) ≡ Some right → (lent : kept.Buffer) × (slot app.store.buffers ended.tag ≡ Some lent) × (right ≡ place_kept lent)
        its_lent None e place = absurd (not_some None right refl place)
        its_lent (Some lent) e place = (lent, e, some_same (Some (place_kept lent)) right (place_kept lent) place refl)

        the_lent : (lent : kept.Buffer) × (slot app.store.buffers ended.tag ≡ Some lent) × (right ≡ place_kept lent)
        the_lent = its_lent (slot app.store.buffers ended.tag) refl (o.buffer.place ∙ some)

        here_then : slot app.devices.nets.cards c.cap.key ≡ Some one
        here_then = ap (λ i. slot app.devices.nets.cards i) c.key_is ∙ here

        was_then : slot app.store.buffers n.cap.key ≡ Some the_lent.0
        was_then = ap (λ i. slot app.store.buffers i) n.its_key ∙ the_lent.1

        nets_then : Changes app.devices.nets.cards app1.devices.nets.cards c.cap.key (Some (with_taken one))
        nets_then = subst (λ i. Changes app.devices.nets.cards app1.devices.nets.cards i (Some (with_taken one))) (sym c.key_is) changes

        buffers_then : Changes app.store.buffers app1.store.buffers n.cap.key (Some (record the_lent.0 { buf = Some (place_kept the_lent.0) }))
        buffers_then = subst (λ (p : Piece). Changes app.store.buffers app1.store.buffers n.cap.key (Some (record the_lent.0 { buf = Some p }))) the_lent.2
            (subst (λ i. Changes app.store.buffers app1.store.buffers i (Some (record the_lent.0 { buf = Some right }))) (sym n.its_key) (restored the_lent.0 the_lent.1 the_lent.2 the_lent.0 the_lent.1))

        abbrev left : Vnic
        left = record c.vnic { rx = record c.vnic.rx { unreaped = o.others } }

        holds_then : Holds (around (record y { machine = with_object y.machine v (Objects.vnic left) }) app1)
        holds_then = takes_back y app app1 v o.label h both one here_then the_lent.0 was_then region labels cards doors rates areas ended o.rest o.first ended.len o.others o.received nets_then buffers_then

        its_row_is : take_oldest direction.Rx y.machine v ≡ says (with_object y.machine v (Objects.vnic left)) (said.TakenRx label ended.len)
        its_row_is = oldest_row y.machine v c.held c.vnic o.label ended.len o.others c.there c.object o.received
            ∙ ap (λ (l : List ℕ). says (with_object y.machine v (Objects.vnic left)) (said.TakenRx l ended.len)) (sym (one_label x h o.label ended.tag n label labelled))

      pub taken_back : Acts t app app1 its_row [] (said.TakenRx label ended.len) []
      taken_back = comes t app app1 its_row (said.TakenRx label ended.len) [] areas name (λ y g sited h.
          let c = nets.its app v key is y h in
          (with_object y.machine v (Objects.vnic (left y h c)), done t app v direction.Rx key is one here y g h ∙ its_row_is y h c, holds_then y h c))
