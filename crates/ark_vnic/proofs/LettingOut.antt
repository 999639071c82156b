-- What becomes of the oldest posted frame, by the filters and its rate.
use Rattle.std.proofs.Common.{◌≡◌, ℕ, ◌+◌, nat_lt, nat_le, true, ◌&&◌, List, [], ◌∷◌, ◌++◌, Option, Some, None, refl, ap, subst, arith}
use Rattle.std.specs.Prelude.{IfSome}
use Rattle.std.specs.List.{Any}
use Rattle.std.proofs.lemmas.Bool.{cond_both, and_parts, eqb-true, false≢true}
use Rattle.std.proofs.lemmas.Bool.Decides.{nat_tests}
use Rattle.std.proofs.lemmas.List.Folds.{Any-from_list_any}
use Rattle.ark_packet.specs.declared.own.Own.{Own}
use Rattle.ark_filters.specs.In.{is_in}
use Rattle.ark_filters.specs.Rules.{is_on, is_tx, sends}
use Rattle.ark_filters.specs.declared.filter.Direction.{Direction}
use Rattle.ark_filters.specs.declared.filter.Direction.TheVariants as direction
use Rattle.ark_filters.specs.declared.live.Live.{Live}
use Rattle.ark_region.specs.Frames.{Space}
use Rattle.ark_vic.specs.Pace.{Pace, Pass, WithinRate, IsPaceOf, fill_at, with_fill}
use Rattle.ark_vic.specs.declared.descriptor.Descriptor.{Descriptor}
use Rattle.ark_vnic.specs.Card.{NetCard, IsPacedFor, head_of}
use Rattle.ark_vnic.specs.Sending.{frame_in, is_let_out, sent_paced, sent_for, sent_of}
use Rattle.ark_vnic.specs.LetOut.{IsLetOut}
use Rattle.ark_vnic.specs.declared.sent.Sent.{Sent}
use Rattle.ark_vnic.specs.declared.sent.Sent.TheVariants as sent
use Rattle.ark_vnic.proofs.Passing as passing

-- A predicate on what becomes of a frame, by what it means that so many bytes go out, or wait. All else has it.
abbrev Means : (ℕ → Type 0) → Type 0 → Sent → Type 0
Means Goes Waits (sent.Frame n) = Goes n
Means Goes Waits sent.Held = Waits
Means Goes Waits sent.Idle = Unit {0}
Means Goes Waits sent.NoFilter = Unit {0}
Means Goes Waits sent.OverBurst = Unit {0}

weaker : (A B : ℕ → Type 0) (W : Type 0) → ((n : ℕ) → A n → B n) → (x : Sent) → Means A W x → Means B W x
weaker A B W f (sent.Frame n) h = f n h
weaker A B W f sent.Held h = h
weaker A B W f sent.Idle h = tt
weaker A B W f sent.NoFilter h = tt
weaker A B W f sent.OverBurst h = tt

transmits : (d : Direction) → is_tx d ≡ true → d ≡ direction.Tx
transmits direction.Tx is = refl
transmits direction.Rx is = absurd (false≢true is)

on_card : (vnic : Option ℕ) (grant : ℕ) → is_on grant vnic ≡ true → vnic ≡ Some grant
on_card None grant is = absurd (false≢true is)
on_card (Some other) grant is = ap (λ (n : ℕ). Some n) (eqb-true other grant is)

-- a card whose frame some filter lets out
by_filter : (card : NetCard) (rules : List Live) (own : Own) (space : Space) (d : Descriptor) (n : ℕ) → head_of card.tx ≡ Some d → is_let_out card.grant rules own (frame_in d space) ≡ true → d.len ≡ n
    → IsLetOut card rules own space n
by_filter card rules own space d n oldest lets whole =
    let frame = frame_in d space in
    let found : Any (λ live. sends (λ f. is_in f frame own) card.grant live ≡ true) rules = Any-from_list_any _ rules lets in
    let live = found.1 in
    let parts = and_parts (is_on card.grant live.vnic) (is_tx live.filter.direction && is_in live.filter frame own) found.4 in
    let rest = and_parts (is_tx live.filter.direction) (is_in live.filter frame own) parts.1 in record {
      head = d;
      oldest = oldest;
      whole = whole;
      live = live;
      among = (found.0, found.2, found.3);
      assigned = on_card live.vnic card.grant parts.0;
      transmits = transmits live.filter.direction rest.0;
      matching = rest.1;
    }

module _ (card : NetCard) (rules : List Live) (own : Own) (space : Space) (now : ℕ) where
  abbrev Waits : Option Descriptor → Type 0
  Waits head = IfSome head (λ d. passing.MayNot d.len now card.tx_pace)

  paced_means : (pace : Option Pace) (len : ℕ) → Means (λ n. (len ≡ n) × passing.May n now pace) (passing.MayNot len now pace) (sent_paced pace len now)
  paced_means None len = (refl, tt)
  paced_means (Some r) len =
      cond_both (nat_lt r.burst len) _ _ (Means (λ n. (len ≡ n) × passing.May n now (Some r)) (passing.MayNot len now (Some r))) (λ over. tt)
      (λ within. cond_both (nat_le (fill_at r now + len) r.burst) _ _ (Means (λ n. (len ≡ n) × passing.May n now (Some r)) (passing.MayNot len now (Some r)))
      (λ may. (refl, grind (arith, nat_tests, may))) (λ waits. grind (arith, nat_tests, waits)))

  abbrev Goes : ℕ → Type 0
  Goes n = IsLetOut card rules own space n × passing.May n now card.tx_pace

  for_means : (head : Option Descriptor) → head_of card.tx ≡ head → Means Goes (Waits head) (sent_for head card rules own space now)
  for_means None is = tt
  for_means (Some d) is =
      cond_both (is_let_out card.grant rules own (frame_in d space)) _ _ (Means Goes (Waits (Some d)))
      (λ lets. weaker (λ n. (d.len ≡ n) × passing.May n now card.tx_pace) Goes (Waits (Some d)) (λ n h. (by_filter card rules own space d n is lets h.0, h.1)) (sent_paced card.tx_pace d.len now) (paced_means card.tx_pace d.len))
      (λ none. tt)

  means : (x : Sent) → sent_of card rules own space now ≡ x → Means Goes (Waits (head_of card.tx)) x
  means x is = subst (Means Goes (Waits (head_of card.tx))) is (for_means (head_of card.tx) refl)

  pub let_out : (n : ℕ) → sent_of card rules own space now ≡ sent.Frame n → IsLetOut card rules own space n
  let_out n is = (means (sent.Frame n) is).0

  module _ (r : Pace) (p : List Pass) (paced : IsPacedFor card.tx_pace r p now) where
    pub keeps : (n : ℕ) → sent_of card rules own space now ≡ sent.Frame n → WithinRate r.per_tick r.burst (p ++ (now, n) ∷ [])
    keeps n is = passing.keeps n now card.tx_pace r p paced (means (sent.Frame n) is).1

    pub stands : (n : ℕ) → sent_of card rules own space now ≡ sent.Frame n → IsPaceOf (with_fill r n now) (p ++ (now, n) ∷ [])
    stands n is = passing.stands n now card.tx_pace r p paced (means (sent.Frame n) is).1

    breaks_for : (head : Option Descriptor) → Waits head → IfSome head (λ d. ¬ WithinRate r.per_tick r.burst (p ++ (now, d.len) ∷ []))
    breaks_for None waits = tt
    breaks_for (Some d) waits = passing.breaks d.len now card.tx_pace r p paced waits

    pub held : sent_of card rules own space now ≡ sent.Held → IfSome (head_of card.tx) (λ d. ¬ WithinRate r.per_tick r.burst (p ++ (now, d.len) ∷ []))
    held is = breaks_for (head_of card.tx) (means sent.Held is)
