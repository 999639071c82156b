-- What stays of a log that is open on a card.
use Rattle.std.proofs.Common.{◌≡◌, inl, inr, ℕ, true, false, not, cond, List, [], ◌∷◌, None, refl, sym, ◌∙◌, ap, subst, eqb-true}
use Rattle.std.specs.Prelude.{◌==◌, Option, Some, is_some, option_map, ◌||◌}
use Rattle.std.proofs.lemmas.Bool.{cases_eq, false≢true}
use Rattle.ark_objects.specs.Held.{Changes, at as slot}
use Rattle.ark_vsic.specs.Card.{is_bound, bound_without}
use Rattle.ark_base.specs.declared.kind.Outcome.{Outcome}
use Rattle.ark_log.specs.Open.{OpenChain}
use Rattle.ark_machine.specs.Objects.{Job}
use Rattle.ark_held.specs.Cards.{HasPhases}
use Rattle.ark_held.specs.Kept.{CardKept}
use Rattle.ark_held.specs.Words.{Labels}
use Rattle.ark_held.specs.Keeps.{IsOpenOn, StaysOpen, LogsStay}
use Rattle.ark_held.specs.Rings.{card_kept, kept_card}
use Rattle.ark_held.specs.declared.card.StorageCard.{StorageCard}
use Rattle.ark_held.proofs.Lists.{by_test, some_same, not_some}

-- the card stays as it is
pub stays_same : (grant : ℕ) (k : CardKept) (was now : Option CardKept) → now ≡ was → was ≡ Some k → StaysOpen grant k now
stays_same grant k was now same is = record { card = k; there = same ∙ is; log = refl; ring = refl; bound = λ z. z }

-- no log is open on it
pub none_open : (grant : ℕ) (k : CardKept) (now : Option CardKept) → k.log ≡ None → IsOpenOn grant k → StaysOpen grant k now
none_open grant k now none on = absurd (not_some k.log on.0 none on.1)

-- another area's right is given up
pub still_bound : (a g : ℕ) → (a ≡ g → ⊥) → (bs : List ℕ) → is_bound a bs ≡ true → is_bound a (bound_without g bs) ≡ true
still_bound a g other [] is = is
still_bound a g other (b ∷ bs) is =
    by_test (λ t. (b == g) ≡ t → is_bound a (cond (not t) (b ∷ bound_without g bs) (bound_without g bs)) ≡ true) (b == g)
    (λ yes q. still_bound a g other bs (by_test (λ t. (b == a) ≡ t → (t || is_bound a bs) ≡ true → is_bound a bs ≡ true) (b == a)
    (λ same r told. absurd (other (sym (eqb-true b a r) ∙ eqb-true b g q))) (λ no r told. told) refl is))
    (λ no q. by_test (λ t. (b == a) ≡ t → (t || is_bound a bs) ≡ true → (t || is_bound a (bound_without g bs)) ≡ true) (b == a)
    (λ same r told. refl) (λ apart r told. still_bound a g other bs told) refl is) refl

-- one card changes, with what is open on it as it was
pub card_logs_by : (labels : Labels) (old new : List (Option StorageCard)) (key : ℕ) (one one1 : StorageCard) → slot old key ≡ Some one → Changes old new key (Some one1)
    → ((grant : ℕ) → IsOpenOn grant (kept_card one) → StaysOpen grant (kept_card one) (Some (kept_card one1))) → LogsStay labels (card_kept old) (card_kept new)
card_logs_by labels old new key one one1 here changes stays l c is kind k grant there on = elim (cases_eq c.key key) [
  | inl e ↦
      let was : kept_card one ≡ k = some_same (card_kept old c.key) (kept_card one) k (ap (λ i. card_kept old i) e ∙ ap (λ z. option_map kept_card z) here) there in
      let then : StaysOpen grant k (Some (kept_card one1)) = subst (λ (z : CardKept). StaysOpen grant z (Some (kept_card one1))) was (stays grant (subst (λ (z : CardKept). IsOpenOn grant z) (sym was) on)) in
      subst (λ (o : Option CardKept). StaysOpen grant k o) (sym (ap (λ i. card_kept new i) e ∙ ap (λ z. option_map kept_card z) changes.changed)) then
  | inr other ↦ stays_same grant k (card_kept old c.key) (card_kept new c.key) (ap (λ z. option_map kept_card z) (changes.others c.key other)) there
]

-- a card on which no log is open may change
pub shut_stays : (one one1 : StorageCard) → is_some one.log ≡ false → (grant : ℕ) → IsOpenOn grant (kept_card one) → StaysOpen grant (kept_card one) (Some (kept_card one1))
shut_stays one one1 shut grant on = absurd (false≢true (sym shut ∙ ap is_some on.1))

-- a card on which one is open may change otherwise
pub alike_stays : (one one1 : StorageCard) → one1.log ≡ one.log → one1.vsic.ring ≡ one.vsic.ring → one1.vsic.bound ≡ one.vsic.bound
    → (grant : ℕ) → IsOpenOn grant (kept_card one) → StaysOpen grant (kept_card one) (Some (kept_card one1))
alike_stays one one1 log ring bound grant on = record { card = kept_card one1; there = refl; log = log; ring = ring; bound = λ has. ap (λ bs. is_bound grant bs) bound ∙ has }

-- where none is open nothing is asked of the jobs
pub shut_phases : (log : Option OpenChain) (posted : List Job) (unreaped : List (Job × Outcome)) → log ≡ None → HasPhases log posted unreaped
shut_phases log posted unreaped none = subst (λ (o : Option OpenChain). HasPhases o posted unreaped) (sym none) tt
