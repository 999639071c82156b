-- The descriptors that have a buffer.
use Rattle.std.proofs.Common.{◌≡◌, ℕ, ◌+◌, ◌<◌, Bool, true, false, not, nat_lt, List, [], ◌∷◌, refl, sym, ◌∙◌, ap, arith, bytes_eq}
use Rattle.std.specs.Prelude.{Option, Some, None, ◌||◌, option_map, unwrap_or}
use Rattle.std.specs.List.{list_any, AllByRecursion}
use Rattle.std.proofs.lemmas.Bool.Decides.{nat_tests}
use Rattle.ark_base.specs.declared.kind.Outcome.{Outcome}
use Rattle.ark_caps.specs.Labels.{value_at}
use Rattle.ark_caps.specs.declared.capability.CapKind.{CapKind}
use Rattle.ark_caps.specs.declared.capability.CapKind.TheVariants as cap_kind
use Rattle.ark_caps.specs.declared.capability.Capability.{Capability}
use Rattle.ark_region.specs.Frames.{Piece}
use Rattle.ark_vic.specs.declared.descriptor.Descriptor.{Descriptor}
use Rattle.ark_vic.specs.declared.descriptor.Completion.{Completion}
use Rattle.ark_caladan.specs.Chain.{Log, Opened}
use Rattle.ark_log.specs.Open.{OpenChain}
use Rattle.ark_machine.specs.Objects
use Rattle.ark_machine.specs.Objects.{Object, Job, transfer, flush, phase, Place, named as in_buffer, taken, Paced}
use Rattle.ark_machine.specs.Machine.{Machine, Held, holds_any}
use Rattle.ark_machine.specs.Buffers.{is_lent, has_buffer, job_has, place_has}
use Rattle.ark_machine.specs.Control.{has_log, is_label, is_open_on, is_paced, is_paced_by, is_socket_on, is_watched}
use Rattle.ark_held.specs.Words.{Labels}
use Rattle.ark_held.specs.Totals.{bit, total, uses, lent_count, open_count, socket_count}
use Rattle.ark_held.specs.Kept.{PaceKept}
use Rattle.ark_held.specs.Around.{Around, Names, IsGranted, Each, Both}
use Rattle.ark_held.specs.Areas.{IsOpenedAs}
use Rattle.ark_held.specs.Cards.{IsPaced, IsWatched, IsJob, IsEnded}
use Rattle.ark_held.specs.Network.{IsFramePlace, IsReceiving, IsReceived, IsSending, IsSent}
use Rattle.ark_held.specs.Held.{IsObjectOf, AllMatch}
use Rattle.ark_held.specs.Keeps.{JobWithin, PlaceWithin, PacedWithin, LabelWithin, OpenedWithin, Within, any_label}
use Rattle.ark_held.proofs.Lists.{by_test, name_other, other_name, not_some, some_same}
use Rattle.ark_held.proofs.Creating.{but}
use Rattle.ark_held.proofs.Seeing.{none_of_both}

-- Whether a buffer is lent.

some_of : (a b : ℕ) → nat_lt 0 (a + b) ≡ (nat_lt 0 a || nat_lt 0 b)
some_of a b = by_test (λ t. nat_lt 0 (a + b) ≡ (nat_lt 0 a || nat_lt 0 b)) (nat_lt 0 a)
    (λ p. let lt : 0 < a = grind (arith, nat_tests, p) in let q : nat_lt 0 (a + b) ≡ true = grind (arith, nat_tests, lt) in rw (p, q) refl)
    (λ p. let e : a ≡ 0 = grind (arith, nat_tests, p) in let q : a + b ≡ b = omega (arith, e) in rw (p, q) refl)

bit_some : (b : Bool) → nat_lt 0 (bit b) ≡ b
bit_some true = refl
bit_some false = refl

any_is : {X : Type 0} (p : X → Bool) (f : X → ℕ) → ((x : X) → p x ≡ nat_lt 0 (f x)) → (xs : List X) → list_any p xs ≡ nat_lt 0 (total f xs)
any_is p f same [] = refl
any_is p f same (x ∷ xs) = ap (λ b. b || list_any p xs) (same x) ∙ ap (λ b. nat_lt 0 (f x) || b) (any_is p f same xs) ∙ sym (some_of (f x) (total f xs))

any_bit : {X : Type 0} (p : X → Bool) (xs : List X) → list_any p xs ≡ nat_lt 0 (total (λ x. bit (p x)) xs)
any_bit p xs = any_is p (λ x. bit (p x)) (λ x. sym (bit_some (p x))) xs

two_any : {X Y : Type 0} (p : X → Bool) (q : Y → Bool) (xs : List X) (ys : List Y) → (list_any p xs || list_any q ys) ≡ nat_lt 0 (total (λ x. bit (p x)) xs + total (λ y. bit (q y)) ys)
two_any p q xs ys = ap (λ b. b || list_any q ys) (any_bit p xs) ∙ ap (λ b. nat_lt 0 (total (λ x. bit (p x)) xs) || b) (any_bit q ys) ∙ sym (some_of (total (λ x. bit (p x)) xs) (total (λ y. bit (q y)) ys))

uses_is : (l : List ℕ) (o : Object) → has_buffer l o ≡ nat_lt 0 (uses l o)
uses_is l (Objects.vsic v) = two_any (job_has l) (λ u. job_has l u.0) v.queue.posted v.queue.unreaped
uses_is l (Objects.vnic v) =
    ap (λ b. b || (list_any (λ p. place_has l p.0) v.tx.posted || list_any (λ u. place_has l u.0) v.tx.unreaped)) (two_any (place_has l) (λ u. place_has l u.0) v.rx.posted v.rx.unreaped)
    ∙ ap (λ b. nat_lt 0 (total (λ p. bit (place_has l p)) v.rx.posted + total (λ u. bit (place_has l u.0)) v.rx.unreaped) || b) (two_any (λ p. place_has l p.0) (λ u. place_has l u.0) v.tx.posted v.tx.unreaped)
    ∙ sym (some_of (total (λ p. bit (place_has l p)) v.rx.posted + total (λ u. bit (place_has l u.0)) v.rx.unreaped) (total (λ p. bit (place_has l p.0)) v.tx.posted + total (λ u. bit (place_has l u.0)) v.tx.unreaped))
uses_is l (Objects.raw z) = refl
uses_is l (Objects.log z) = refl
uses_is l (Objects.filter z y) = refl
uses_is l (Objects.door z) = refl
uses_is l (Objects.rate z y) = refl
uses_is l (Objects.buffer z) = refl
uses_is l (Objects.socket z) = refl

-- a buffer is lent where a descriptor has it
pub lent_is : (m : Machine) (l : List ℕ) (b : Bool) → bit b ≡ lent_count m l → is_lent m l ≡ b
lent_is m l b is = any_is (λ h. has_buffer l h.object) (λ h. uses l h.object) (λ h. uses_is l h.object) m.held ∙ ap (λ n. nat_lt 0 n) (sym is) ∙ bit_some b

-- a log is open on a card where one says so
pub log_is : (m : Machine) (l : List ℕ) (b : Bool) → bit b ≡ open_count m l → has_log m l ≡ b
log_is m l b is = any_bit (λ h. is_open_on l h.object) m.held ∙ ap (λ n. nat_lt 0 n) (sym is) ∙ bit_some b

-- no socket is on a card where none is counted
pub no_socket_on : (m : Machine) (l : List ℕ) → 0 ≡ socket_count m l → holds_any m (is_socket_on l) ≡ false
no_socket_on m l is = any_bit (λ h. is_socket_on l h.object) m.held ∙ ap (λ n. nat_lt 0 n) (sym is)

-- Nothing has a buffer under a label that is no buffer's.

each_zero : {X Y : Type 0} (P : X → Y → Type 0) (f : Y → ℕ) → ((x : X) (y : Y) → P x y → f y ≡ 0) → (xs : List X) (ys : List Y) → Each P xs ys → total f ys ≡ 0
each_zero P f none [] [] e = refl
each_zero P f none (x ∷ xs) (y ∷ ys) e = let one = none x y e.0 in let rest = each_zero P f none xs ys e.1 in omega (arith, one, rest)
each_zero P f none [] (y ∷ ys) e = absurd e
each_zero P f none (x ∷ xs) [] e = absurd e

-- what is under the label is not of this kind
name_none : (x : Around) (l : List ℕ) (kind : CapKind) → ((c : Capability) → value_at x.labels l ≡ Some c → c.kind ≡ kind → ⊥) → (b : List ℕ) (key : ℕ) → Names x b kind key → bit (bytes_eq l b) ≡ 0
name_none x l kind other b key n = ap bit (name_other l b (λ e. other n.cap (ap (λ k. value_at x.labels k) e ∙ n.there) n.its_kind))

module _ (x : Around) (l : List ℕ) (other : (c : Capability) → value_at x.labels l ≡ Some c → c.kind ≡ cap_kind.Buf → ⊥) where
  job_none : (log : Option OpenChain) (d : Descriptor) (j : Job) → IsJob x log d j → bit (job_has l j) ≡ 0
  job_none log d (transfer t) is = name_none x l cap_kind.Buf other t.buffer d.tag is.buffer.named
  job_none log d flush is = refl
  job_none log d (phase p) is = refl

  ended_none : (log : Option OpenChain) (c : Completion) (u : Job × Outcome) → IsEnded x log c u → bit (job_has l u.0) ≡ 0
  ended_none log c (transfer t, o) is = name_none x l cap_kind.Buf other t.buffer c.tag is.2.named
  ended_none log c (flush, o) is = refl
  ended_none log c (phase p, o) is = refl

  place_none : (ports : Option ℕ) (tag : ℕ) (given : Option Piece) (p : Place) → IsFramePlace x ports tag given p → bit (place_has l p) ≡ 0
  place_none ports tag given (in_buffer b) is = name_none x l cap_kind.Buf other b tag is.named
  place_none ports tag given (taken b) is = refl

  received_none : (ports : Option ℕ) (c : Completion) (u : Place × ℕ) → IsReceived x ports c u → bit (place_has l u.0) ≡ 0
  received_none ports c (p, len) is = place_none ports c.tag c.buf p is.1

  sending_none : (ports : Option ℕ) (d : Descriptor) (p : Place × ℕ) → IsSending x ports d p → bit (place_has l p.0) ≡ 0
  sending_none ports d (p, len) is = place_none ports d.tag d.buf p is.2

  sent_none : (ports : Option ℕ) (c : Completion) (u : Place × Outcome) → IsSent x ports c u → bit (place_has l u.0) ≡ 0
  sent_none ports c (p, o) is = place_none ports c.tag c.buf p is.1

  pub none_uses : (k : List ℕ) (c : Capability) (o : Object) → IsObjectOf x k c o → uses l o ≡ 0
  none_uses k c (Objects.vsic v) f =
      let a = each_zero (IsJob x f.card.log) (λ j. bit (job_has l j)) (job_none f.card.log) f.card.ring.posted v.queue.posted f.posted in
      let b = each_zero (IsEnded x f.card.log) (λ u. bit (job_has l u.0)) (ended_none f.card.log) f.card.ring.unreaped v.queue.unreaped f.unreaped in
      omega (arith, a, b)
  none_uses k c (Objects.vnic v) f =
      let a = each_zero (IsReceiving x f.net.ports) (λ p. bit (place_has l p)) (λ d p is. place_none f.net.ports d.tag d.buf p is.1) f.net.rx.posted v.rx.posted f.rx_posted in
      let b = each_zero (IsReceived x f.net.ports) (λ u. bit (place_has l u.0)) (received_none f.net.ports) f.net.rx.unreaped v.rx.unreaped f.rx_unreaped in
      let d = each_zero (IsSending x f.net.ports) (λ p. bit (place_has l p.0)) (sending_none f.net.ports) f.net.tx.posted v.tx.posted f.tx_posted in
      let e = each_zero (IsSent x f.net.ports) (λ u. bit (place_has l u.0)) (sent_none f.net.ports) f.net.tx.unreaped v.tx.unreaped f.tx_unreaped in
      omega (arith, a, b, d, e)
  none_uses k c (Objects.raw z) f = refl
  none_uses k c (Objects.log z) f = refl
  none_uses k c (Objects.filter z y) f = refl
  none_uses k c (Objects.door z) f = refl
  none_uses k c (Objects.rate z y) f = refl
  none_uses k c (Objects.buffer z) f = refl
  none_uses k c (Objects.socket z) f = refl

  none_used : (ps : Labels) (hs : List Held) → AllMatch x ps hs → total (λ h. uses l h.object) hs ≡ 0
  none_used [] [] all = refl
  none_used (p ∷ ps) (h ∷ hs) all = let a = none_uses p.0 p.1 h.object all.0.object in let b = none_used ps hs all.1 in omega (arith, a, b)
  none_used [] (h ∷ hs) all = absurd all
  none_used (p ∷ ps) [] all = absurd all

-- and none under one that is not there
pub none_lent : (x : Around) (l : List ℕ) → value_at x.labels l ≡ None → (ps : Labels) (hs : List Held) → AllMatch x ps hs → total (λ h. uses l h.object) hs ≡ 0
none_lent x l absent ps hs all = none_used x l (λ c is kind. not_some (value_at x.labels l) c absent is) ps hs all

-- Nor is a log open on a card there.

module _ (x : Around) (l : List ℕ) (absent : value_at x.labels l ≡ None) where
  opened_none : (grant : ℕ) (blocks : List ℕ) (g : Log) (o : Option Opened) → IsOpenedAs x grant blocks g o → bit (unwrap_or (option_map (λ z. bytes_eq l z.card) o) false) ≡ 0
  opened_none grant blocks g None is = refl
  opened_none grant blocks g (Some o) is = name_none x l cap_kind.Vsic (λ c is kind. not_some (value_at x.labels l) c absent is) o.card is.key is.card

  object_open : (k : List ℕ) (c : Capability) (o : Object) → IsObjectOf x k c o → bit (is_open_on l o) ≡ 0
  object_open k c (Objects.log g) f = opened_none c.grant f.slot.blocks g g.opened f.opened
  object_open k c (Objects.vsic v) f = refl
  object_open k c (Objects.vnic v) f = refl
  object_open k c (Objects.raw z) f = refl
  object_open k c (Objects.filter z y) f = refl
  object_open k c (Objects.door z) f = refl
  object_open k c (Objects.rate z y) f = refl
  object_open k c (Objects.buffer z) f = refl
  object_open k c (Objects.socket z) f = refl

  pub none_open : (ps : Labels) (hs : List Held) → AllMatch x ps hs → total (λ h. bit (is_open_on l h.object)) hs ≡ 0
  none_open [] [] all = refl
  none_open (p ∷ ps) (h ∷ hs) all = let a = object_open p.0 p.1 h.object all.0.object in let b = none_open ps hs all.1 in omega (arith, a, b)
  none_open [] (h ∷ hs) all = absurd all
  none_open (p ∷ ps) [] all = absurd all

-- Nor is a socket.

module _ (x : Around) (l : List ℕ) (absent : value_at x.labels l ≡ None) where
  object_socketed : (k : List ℕ) (c : Capability) (o : Object) → IsObjectOf x k c o → bit (is_socket_on l o) ≡ 0
  object_socketed k c (Objects.socket z) f = name_none x l cap_kind.Vnic (λ d is kind. not_some (value_at x.labels l) d absent is) z.card f.socket.card f.card
  object_socketed k c _ f = refl

  pub none_socketed : (ps : Labels) (hs : List Held) → AllMatch x ps hs → total (λ h. bit (is_socket_on l h.object)) hs ≡ 0
  none_socketed [] [] all = refl
  none_socketed (p ∷ ps) (h ∷ hs) all = let a = object_socketed p.0 p.1 h.object all.0.object in let b = none_socketed ps hs all.1 in omega (arith, a, b)
  none_socketed [] (h ∷ hs) all = absurd all
  none_socketed (p ∷ ps) [] all = absurd all

-- An object that does not have the buffer under a label names other labels alone.

bit_zero : (b : Bool) → bit b ≡ 0 → not b ≡ true
bit_zero true h = absurd (let z : ⊥ = omega (arith, h) in z)
bit_zero false h = refl

narrow : {X : Type 0} (P Q : X → Type 0) (f : X → ℕ) → ((x : X) → f x ≡ 0 → P x → Q x) → (xs : List X) → total f xs ≡ 0 → AllByRecursion P xs → AllByRecursion Q xs
narrow P Q f step [] none all = tt
narrow P Q f step (x ∷ xs) none all = (step x (omega (arith, none)) all.0, narrow P Q f step xs (omega (arith, none)) all.1)

-- What names no label of this kind, or not this one of it, has all else within the others.

-- a filter is assigned to the network card under a label, or a socket is on it
abbrev pub names_net : List ℕ → Object → Bool
names_net l (Objects.filter f card) = is_label l card
names_net l (Objects.socket k) = bytes_eq l k.card
names_net l _ = false

module _ (x : Around) (l : List ℕ) (cap : Capability) (there : value_at x.labels l ≡ Some cap) (rests : Piece → Type 0) where
  name_apart : (b : List ℕ) (c : Capability) (kind : CapKind) → value_at x.labels b ≡ Some c → c.kind ≡ kind → (cap.kind ≡ kind → bytes_eq l b ≡ false) → but l b ≡ true
  name_apart b c kind at is other =
      ap not (name_other l b (λ e. other_name l b
      (other (sym (ap (λ (z : Capability). z.kind) (some_same (value_at x.labels b) c cap at (ap (λ k. value_at x.labels k) (sym e) ∙ there))) ∙ is)) e))

  job_narrow : (j : Job) → bit (job_has l j) ≡ 0 → JobWithin any_label rests j → JobWithin (but l) rests j
  job_narrow (transfer t) none w = bit_zero (bytes_eq l t.buffer) none
  job_narrow flush none w = tt
  job_narrow (phase p) none w = tt

  place_narrow : (p : Place) → bit (place_has l p) ≡ 0 → PlaceWithin any_label rests p → PlaceWithin (but l) rests p
  place_narrow (in_buffer b) none w = bit_zero (bytes_eq l b) none
  place_narrow (taken b) none w = w

  paced_narrow : (k : Option PaceKept) (p : Option Paced) → Both (IsPaced x) k p → (cap.kind ≡ cap_kind.Rate → is_paced_by l p ≡ false) → PacedWithin (but l) rests p
  paced_narrow None None is unpaced = tt
  paced_narrow (Some k) (Some p) is unpaced = name_apart p.rate is.rate.cap cap_kind.Rate is.rate.there is.rate.its_kind unpaced
  paced_narrow None (Some p) is unpaced = absurd is
  paced_narrow (Some k) None is unpaced = absurd is

  door_narrow : (k : Option ℕ) (d : Option (List ℕ)) → Both (IsWatched x) k d → (cap.kind ≡ cap_kind.Door → is_label l d ≡ false) → LabelWithin (but l) rests d
  door_narrow None None is unwatched = tt
  door_narrow (Some k) (Some d) is unwatched = name_apart d is.cap cap_kind.Door is.there is.its_kind unwatched
  door_narrow None (Some d) is unwatched = absurd is
  door_narrow (Some k) None is unwatched = absurd is

  card_narrow : (k : Option ℕ) (v : Option (List ℕ)) → Both (λ g v. IsGranted x v cap_kind.Vnic g) k v → (cap.kind ≡ cap_kind.Vnic → is_label l v ≡ false) → LabelWithin (but l) rests v
  card_narrow None None is unused = tt
  card_narrow (Some k) (Some v) is unused = name_apart v is.cap cap_kind.Vnic is.there is.its_kind unused
  card_narrow None (Some v) is unused = absurd is
  card_narrow (Some k) None is unused = absurd is

  opened_narrow : (grant : ℕ) (blocks : List ℕ) (g : Log) (o : Option Opened) → IsOpenedAs x grant blocks g o → (cap.kind ≡ cap_kind.Vsic → unwrap_or (option_map (λ z. bytes_eq l z.card) o) false ≡ false) → OpenedWithin any_label rests o → OpenedWithin (but l) rests o
  opened_narrow grant blocks g None is closed w = tt
  opened_narrow grant blocks g (Some o) is closed w = (name_apart o.card is.card.cap cap_kind.Vsic is.card.there is.card.its_kind closed, w.1, w.2)

  pub narrowed_from : (k : List ℕ) (c : Capability) (o : Object) → IsObjectOf x k c o → uses l o ≡ 0 → (cap.kind ≡ cap_kind.Door → is_watched l o ≡ false) → (cap.kind ≡ cap_kind.Vsic → is_open_on l o ≡ false) → (cap.kind ≡ cap_kind.Rate → is_paced l o ≡ false)
      → (cap.kind ≡ cap_kind.Vnic → names_net l o ≡ false) → Within any_label rests o → Within (but l) rests o
  narrowed_from k c (Objects.raw z) f none seen closed unpaced unused w = tt
  narrowed_from k c (Objects.log g) f none seen closed unpaced unused w = opened_narrow c.grant f.slot.blocks g g.opened f.opened closed w
  narrowed_from k c (Objects.vsic v) f none seen closed unpaced unused w = (
    narrow (JobWithin any_label rests) (JobWithin (but l) rests) (λ j. bit (job_has l j)) job_narrow v.queue.posted (omega (arith, none)) w.0,
    narrow (λ u. JobWithin any_label rests u.0) (λ u. JobWithin (but l) rests u.0) (λ u. bit (job_has l u.0)) (λ u. job_narrow u.0) v.queue.unreaped (omega (arith, none)) w.1,
    paced_narrow f.card.pace v.pace f.pace unpaced,
    door_narrow f.card.door v.door f.door seen,
  )
  narrowed_from k c (Objects.vnic v) f none seen closed unpaced unused w = (
    narrow (PlaceWithin any_label rests) (PlaceWithin (but l) rests) (λ p. bit (place_has l p)) place_narrow v.rx.posted (omega (arith, none)) w.0,
    narrow (λ u. PlaceWithin any_label rests u.0) (λ u. PlaceWithin (but l) rests u.0) (λ u. bit (place_has l u.0)) (λ u. place_narrow u.0) v.rx.unreaped (omega (arith, none)) w.1,
    narrow (λ p. PlaceWithin any_label rests p.0) (λ p. PlaceWithin (but l) rests p.0) (λ p. bit (place_has l p.0)) (λ p. place_narrow p.0) v.tx.posted (omega (arith, none)) w.2,
    narrow (λ u. PlaceWithin any_label rests u.0) (λ u. PlaceWithin (but l) rests u.0) (λ u. bit (place_has l u.0)) (λ u. place_narrow u.0) v.tx.unreaped (omega (arith, none)) w.3,
    paced_narrow f.net.rx_pace v.rx_pace f.rx_pace (λ e. (none_of_both (is_paced_by l v.rx_pace) (is_paced_by l v.tx_pace) (unpaced e)).0),
    paced_narrow f.net.tx_pace v.tx_pace f.tx_pace (λ e. (none_of_both (is_paced_by l v.rx_pace) (is_paced_by l v.tx_pace) (unpaced e)).1),
    door_narrow f.net.rx_door v.rx_door f.rx_door (λ e. (none_of_both (is_label l v.rx_door) (is_label l v.tx_door) (seen e)).0),
    door_narrow f.net.tx_door v.tx_door f.tx_door (λ e. (none_of_both (is_label l v.rx_door) (is_label l v.tx_door) (seen e)).1),
  )
  narrowed_from k c (Objects.filter z card) f none seen closed unpaced unused w = card_narrow f.live.vnic card f.card unused
  narrowed_from k c (Objects.door z) f none seen closed unpaced unused w = tt
  narrowed_from k c (Objects.rate z y) f none seen closed unpaced unused w = tt
  narrowed_from k c (Objects.buffer z) f none seen closed unpaced unused w = w
  narrowed_from k c (Objects.socket z) f none seen closed unpaced unused w = name_apart z.card f.card.cap cap_kind.Vnic f.card.there f.card.its_kind unused

-- of a buffer's label
pub narrowed : (x : Around) (l : List ℕ) (cap : Capability) → value_at x.labels l ≡ Some cap → cap.kind ≡ cap_kind.Buf → (rests : Piece → Type 0) (k : List ℕ) (c : Capability) (o : Object) → IsObjectOf x k c o → uses l o ≡ 0
    → Within any_label rests o → Within (but l) rests o
narrowed x l cap there is rests k c o f none w = narrowed_from x l cap there rests k c o f none (λ e. cc (is, e)) (λ e. cc (is, e)) (λ e. cc (is, e)) (λ e. cc (is, e)) w

-- of a label of another kind
pub narrowed_other : (x : Around) (l : List ℕ) (cap : Capability) → value_at x.labels l ≡ Some cap → (cap.kind ≡ cap_kind.Buf → ⊥) → (rests : Piece → Type 0) (k : List ℕ) (c : Capability) (o : Object) → IsObjectOf x k c o
    → (cap.kind ≡ cap_kind.Door → is_watched l o ≡ false) → (cap.kind ≡ cap_kind.Vsic → is_open_on l o ≡ false) → (cap.kind ≡ cap_kind.Rate → is_paced l o ≡ false)
    → (cap.kind ≡ cap_kind.Vnic → names_net l o ≡ false) → Within any_label rests o → Within (but l) rests o
narrowed_other x l cap there no_buffer rests k c o f seen closed unpaced unused w =
    narrowed_from x l cap there rests k c o f
    (none_uses x l (λ d at kind. no_buffer (ap (λ (z : Capability). z.kind) (some_same (value_at x.labels l) cap d there at) ∙ kind)) k c o f) seen closed unpaced unused w

-- An object names no area by its label.
pub narrowed_area : (x : Around) (l : List ℕ) (cap : Capability) → value_at x.labels l ≡ Some cap → cap.kind ≡ cap_kind.Vsa → (rests : Piece → Type 0) (k : List ℕ) (c : Capability) (o : Object) → IsObjectOf x k c o
    → Within any_label rests o → Within (but l) rests o
narrowed_area x l cap there is rests k c o f w = narrowed_other x l cap there (λ e. cc (is, e)) rests k c o f (λ e. cc (is, e)) (λ e. cc (is, e)) (λ e. cc (is, e)) (λ e. cc (is, e)) w
