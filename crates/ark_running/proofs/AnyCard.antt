-- Moves of the card of any open log.
use Rattle.std.proofs.Common.{◌≡◌, ℕ, ◌<◌, List, [], ◌∷◌, length, Option, Some, None, refl, sym, ap, ◌∙◌, subst, arith}
use Rattle.std.specs.Prelude.{IfSome, slice_get}
use Rattle.std.specs.List.{AllByRecursion}
use Rattle.ark_media.specs.Journal.{Event, History}
use Rattle.ark_media.specs.Calls.{Call}
use Rattle.ark_media.specs.Standing.{after}
use Rattle.ark_region.specs.Frames.{Apart, Piece, Space, bytes_of}
use Rattle.ark_vic.specs.Queue.{Queue}
use Rattle.ark_vic.specs.declared.descriptor.Descriptor.{Descriptor}
use Rattle.ark_vsic.specs.Card.{Areas, Card, head_of}
use Rattle.ark_vsic.specs.Moves.{CanMove, LeavesFor, area_of, calls_for, calls_of, due_by, due_of, due_paced, ring_after, worked}
use Rattle.ark_vsic.specs.declared.due.Moved.{Moved}
use Rattle.ark_caladan.specs.Chain as log
use Rattle.ark_caladan.specs.Chain.{Log, Opened}
use Rattle.ark_caladan.specs.Listed.{WritesFull}
use Rattle.ark_caladan.specs.Open.{Layout}
use Rattle.ark_caladan.specs.Views.{AreApart, Elsewhere}
use Rattle.ark_caladan.specs.Standing as standing
use Rattle.ark_caladan.proofs.Standing as standing_proofs
use Rattle.ark_log.specs.declared.command.Waiting.{Waiting}
use Rattle.ark_log.specs.declared.stage.Stage.{Stage}
use Rattle.ark_log.specs.Open.{OpenChain}
use Rattle.ark_log.specs.Polled.{stage_of}
use Rattle.ark_running.specs.Accepted.{with_opened}
use Rattle.ark_running.specs.Buffers.{pieces_of}
use Rattle.ark_running.specs.Moving.{HasMoved, decided_by_all}
use Rattle.ark_running.specs.Running.{IsRunning}
use Rattle.ark_running.proofs.Bounds.{can_move}
use Rattle.ark_running.proofs.CardDue as card_due
use Rattle.ark_running.proofs.More.{as_many}
use Rattle.ark_running.proofs.Own as own
use Rattle.ark_running.proofs.Proceeding.{alone_posted}
use Rattle.ark_running.proofs.Like.{some_same}

-- a command waits of a log whose descriptor is posted
module _ (h : History) (blocks : List ℕ) (space : Space) (ring : Queue) (v : OpenChain) (p : Layout) (g : Log) (o : Opened) (d : Descriptor) (first : slice_get ring.posted 0 ≡ Some d) (runs : IsRunning h blocks space ring v p g o) where
  some : 0 < length v.waiting
  some = (alone_posted v space ring.moved ring.posted ring.unreaped d runs.ring first).2.2.way.some

  with_front : (Z : OpenChain → Opened → Type 0) → ((w : Waiting) (ws : List Waiting) (m : log.Waiting) (ms : List log.Waiting) → Z (record v { waiting = w ∷ ws }) (record o { waiting = m ∷ ms })) → Z v o
  with_front Z given = by v.waiting o.waiting refl refl
    where
      many : length v.waiting ≡ length o.waiting
      many = as_many v.waiting o.waiting runs.is.stands.waiting

      by : (xs : List Waiting) (ys : List log.Waiting) → v.waiting ≡ xs → o.waiting ≡ ys → Z v o
      by [] ys none_v is_o = let long : length v.waiting ≡ 0 = ap length none_v in absurd (omega (arith, long, some))
      by (w ∷ ws) [] is_v none_o = let long : length o.waiting ≡ 0 = ap length none_o in absurd (omega (arith, long, many, some))
      by (w ∷ ws) (m ∷ ms) is_v is_o =
          subst (λ y. Z y o) (λ i. record v { waiting = sym is_v i }) (subst (λ q. Z (record v { waiting = w ∷ ws }) q) (λ i. record o { waiting = sym is_o i }) (given w ws m ms))

  pub next_sound : CanMove space.taken ring.moved d
  next_sound = with_front (λ y q. IsRunning h blocks space ring y p g q → CanMove space.taken ring.moved d)
      (λ w ws m ms here.
      let its = own.own h blocks space ring v w ws p g o m ms here d first in
      subst (λ x. CanMove space.taken ring.moved x) (sym its.1.is)
      (can_move v w ws space.taken here.buffers.lies its.0 d.buf ring.moved its.1.at its.1.its its.1.whole (subst (λ (x : Descriptor). ring.moved < x.count) its.1.is its.1.less))) runs

module _ (h : History) (blocks : List ℕ) (old : Space) (card : Card) (v : OpenChain) (p : Layout) (g : Log) (o : Opened) (held : Areas) (now : ℕ) (runs : IsRunning h blocks old card.ring v p g o) (area : area_of v.grant card.bound held ≡ Some blocks) where
  -- of a descriptor that is posted
  module _ (d : Descriptor) (first : slice_get card.ring.posted 0 ≡ Some d) where
    pub is_due : (n : ℕ) × (due_of card held now ≡ due_by d.job (due_paced card.pace now n))
    is_due = with_front h blocks old card.ring v p g o d first runs
        (λ y q. IsRunning h blocks old card.ring y p g q → area_of y.grant card.bound held ≡ Some blocks → (n : ℕ) × (due_of card held now ≡ due_by d.job (due_paced card.pace now n)))
        (λ w ws m ms here bound. let its = own.own h blocks old card.ring v w ws p g o m ms here d first in (_, card_due.is_due h blocks old card v w ws p g o m ms held now here bound d its.0 its.1)) runs area

    pub away : (other : List ℕ) → AreApart blocks other → (call : Call) → calls_of card (due_of card held now) old ≡ call ∷ [] → Elsewhere other call
    away other apart call made = with_front h blocks old card.ring v p g o d first runs
        (λ y q. IsRunning h blocks old card.ring y p g q → area_of y.grant card.bound held ≡ Some blocks → Elsewhere other call)
        (λ w ws m ms here bound.
        let its = own.own h blocks old card.ring v w ws p g o m ms here d first in
        let many = own.calls_are h blocks old card.ring v w ws p g o m ms here d its.0 its.1 in
        subst (Elsewhere other) (sym (card_due.call_is h blocks old card v w ws p g o m ms held now here bound d its.0 its.1 call made))
        (standing_proofs.call_apart blocks g p h (record o { waiting = m ∷ ms }) (standing.posted card.ring.moved) (own.goes h blocks old card.ring v w ws p g o m ms here d its.0 its.1) (omega arith) other apart (omega (arith, many, its.1.less)))) runs area

    pub whole : (call : Call) → calls_of card (due_of card held now) old ≡ call ∷ [] → WritesFull call
    whole call made = with_front h blocks old card.ring v p g o d first runs
        (λ y q. IsRunning h blocks old card.ring y p g q → area_of y.grant card.bound held ≡ Some blocks → WritesFull call)
        (λ w ws m ms here bound.
        let its = own.own h blocks old card.ring v w ws p g o m ms here d first in
        subst WritesFull (sym (card_due.call_is h blocks old card v w ws p g o m ms held now here bound d its.0 its.1 call made)) (own.full h blocks old card.ring v w ws p g o m ms here d its.0 its.1)) runs area

    module _ (new : Space) (events : List Event) (result : Moved) (has : HasMoved card held now h old new events result) where
      pub moves : (stage : Stage) → stage_of v ≡ Some stage → IsRunning (after h events) blocks new (ring_after card.ring result) v p (with_opened g (decided_by_all stage events o)) (decided_by_all stage events o)
      moves stage at = with_front h blocks old card.ring v p g o d first runs
          (λ y q. IsRunning h blocks old card.ring y p g q → area_of y.grant card.bound held ≡ Some blocks → stage_of y ≡ Some stage
          → IsRunning (after h events) blocks new (ring_after card.ring result) y p (with_opened g (decided_by_all stage events q)) (decided_by_all stage events q))
          (λ w ws m ms here bound there.
          let its = own.own h blocks old card.ring v w ws p g o m ms here d first in
          let same : its.0 ≡ stage = some_same its.0 stage (sym its.1.at ∙ there) in
          let q : Opened = record o { waiting = m ∷ ms } in
          subst (λ t. IsRunning (after h events) blocks new (ring_after card.ring result) (record v { waiting = w ∷ ws }) p (with_opened g (decided_by_all t events q)) (decided_by_all t events q)) same
          (card_due.runs_on h blocks old card v w ws p g o m ms held now here bound d its.0 its.1 new events result has)) runs area at

      pub beside : (b : Piece) → AllByRecursion (λ a. Apart a b) (pieces_of v) → bytes_of new b ≡ bytes_of old b
      beside b apart = with_front h blocks old card.ring v p g o d first runs
          (λ y q. IsRunning h blocks old card.ring y p g q → area_of y.grant card.bound held ≡ Some blocks → AllByRecursion (λ a. Apart a b) (pieces_of y) → bytes_of new b ≡ bytes_of old b)
          (λ w ws m ms here bound far.
          let its = own.own h blocks old card.ring v w ws p g o m ms here d first in
          card_due.beside h blocks old card v w ws p g o m ms held now here bound d its.0 its.1 new events result has b far) runs area apart

  -- where none is posted, no call is made
  pub elsewhere : (other : List ℕ) → AreApart blocks other → (call : Call) → calls_of card (due_of card held now) old ≡ call ∷ [] → Elsewhere other call
  elsewhere other apart call made = by (head_of card.ring) refl
    where
      by : (x : Option Descriptor) → head_of card.ring ≡ x → Elsewhere other call
      by None none = let no_call = sym made ∙ ap (λ y. calls_for y (due_of card held now) card.ring.moved old) none in absurd (cc (no_call))
      by (Some d) first = away d first other apart call made

  pub full : (call : Call) → calls_of card (due_of card held now) old ≡ call ∷ [] → WritesFull call
  full call made = by (head_of card.ring) refl
    where
      by : (x : Option Descriptor) → head_of card.ring ≡ x → WritesFull call
      by None none = let no_call = sym made ∙ ap (λ y. calls_for y (due_of card held now) card.ring.moved old) none in absurd (cc (no_call))
      by (Some d) first = whole d first call made

  pub all_beside : (new : Space) (events : List Event) (result : Moved) → HasMoved card held now h old new events result → (b : Piece) → AllByRecursion (λ a. Apart a b) (pieces_of v) → bytes_of new b ≡ bytes_of old b
  all_beside new events result has b apart = by (head_of card.ring) refl
    where
      by : (x : Option Descriptor) → head_of card.ring ≡ x → bytes_of new b ≡ bytes_of old b
      by None none = ap (λ y. bytes_of y b) (subst (λ y. LeavesFor y (due_of card held now) (worked result) card.ring.moved (Some (after h events)) old new) none has.leaves)
      by (Some d) first = beside d first new events result has b apart

pub sound : (h : History) (blocks : List ℕ) (space : Space) (ring : Queue) (v : OpenChain) (p : Layout) (g : Log) (o : Opened) → IsRunning h blocks space ring v p g o → IfSome (head_of ring) (λ d. CanMove space.taken ring.moved d)
sound h blocks space ring v p g o runs = by (head_of ring) refl
  where
    by : (x : Option Descriptor) → head_of ring ≡ x → IfSome (head_of ring) (λ d. CanMove space.taken ring.moved d)
    by None none = subst (λ y. IfSome y (λ d. CanMove space.taken ring.moved d)) (sym none) tt
    by (Some d) first = subst (λ y. IfSome y (λ d. CanMove space.taken ring.moved d)) (sym first) (next_sound h blocks space ring v p g o d first runs)
