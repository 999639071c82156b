-- What is so of each card, and of the log of each.
use Rattle.std.proofs.Common.{◌≡◌, inl, inr, ℕ, Bool, List, length, refl, sym, ◌∙◌, ap, subst}
use Rattle.std.specs.Prelude.{Option, Some, None, IfSome, is_some}
use Rattle.std.proofs.lemmas.Bool.{cases_eq, false≢true}
use Rattle.std.proofs.Math.Bridge.{le_prop}
use Rattle.std.proofs.Math.Logic.{∥∥₁_elim}
use Rattle.ark_objects.specs.Held.{at, Changes}
use Rattle.ark_region.specs.Frames.{Piece, LiesInRegion}
use Rattle.ark_log.specs.Closed.{HasBuffersIn}
use Rattle.ark_log.specs.Open.{OpenChain}
use Rattle.ark_held.specs.LogBuffers.{AllLie}
use Rattle.ark_held.specs.declared.card.StorageCard.{StorageCard}
use Rattle.ark_held.proofs.Lists.{some_same}

module _ {T : Type 0} (P : T → Type 0) where
  abbrev OfEachCard : List (Option T) → Type 0
  OfEachCard cards = (key : ℕ) (c : T) → at cards key ≡ Some c → P c

  -- a key has another card, of which it is so
  pub card_set : (before after : List (Option T)) (key : ℕ) (one : T) → Changes before after key (Some one) → P one → OfEachCard before → OfEachCard after
  card_set before after key one changes its all k c there = elim (cases_eq k key) [
    | inl e ↦ subst P (some_same (at after key) one c changes.changed (ap (λ (i : ℕ). at after i) (sym e) ∙ there)) its
    | inr other ↦ all k c (sym (changes.others k other) ∙ there)
  ]

  -- a key has no card any more
  pub card_less : (before after : List (Option T)) (key : ℕ) → Changes before after key None → OfEachCard before → OfEachCard after
  card_less before after key changes all k c there = elim (cases_eq k key) [
    | inl e ↦ absurd (false≢true (ap is_some (sym changes.changed ∙ ap (λ (i : ℕ). at after i) (sym e) ∙ there)))
    | inr other ↦ all k c (sym (changes.others k other) ∙ there)
  ]

  -- where there is no card
  pub no_card : (cards : List (Option T)) → ((key : ℕ) → at cards key ≡ None) → OfEachCard cards
  no_card cards vacant key c there = absurd (false≢true (ap is_some (sym (vacant key) ∙ there)))

module _ (P : Option OpenChain → Type 0) where
  abbrev OfEach : List (Option StorageCard) → Type 0
  OfEach cards = (key : ℕ) (c : StorageCard) → at cards key ≡ Some c → P c.log

  -- a key has another card, of whose log it is so
  pub log_set : (before after : List (Option StorageCard)) (key : ℕ) (one : StorageCard) → Changes before after key (Some one) → P one.log → OfEach before → OfEach after
  log_set before after key one changes its all = card_set (λ c. P c.log) before after key one changes its all

  -- a key has no card any more
  pub log_less : (before after : List (Option StorageCard)) (key : ℕ) → Changes before after key None → OfEach before → OfEach after
  log_less before after key changes all = card_less (λ c. P c.log) before after key changes all

  -- one card changes, with its log as it was
  pub log_turned : (before after : List (Option StorageCard)) (key : ℕ) (one now : StorageCard) → at before key ≡ Some one → Changes before after key (Some now) → now.log ≡ one.log → OfEach before → OfEach after
  log_turned before after key one now there changes same all = log_set before after key now changes (subst P (sym same) (all key one there)) all

  -- where there is no card
  pub none_logged : (cards : List (Option StorageCard)) → ((key : ℕ) → at cards key ≡ None) → OfEach cards
  none_logged cards vacant = no_card (λ c. P c.log) cards vacant

-- That buffers lie in a memory is a plain fact.

piece_plain : (taken : List Bool) (b : Option Piece) → IsProp (IfSome b (LiesInRegion taken))
piece_plain taken None = λ x y. refl
piece_plain taken (Some b) = le_prop

pub lies_plain : (taken : List Bool) (chain : OpenChain) → IsProp (HasBuffersIn taken chain)
lies_plain taken chain x y = λ i. record {
  header = piece_plain taken chain.header x.header y.header i;
  waiting = λ k d less. piece_plain taken _ (x.waiting k d less) (y.waiting k d less) i;
}

-- the buffers of an open log lie in the memory
pub lies_at : (frames : ℕ) (cards : List (Option StorageCard)) (key : ℕ) (one : StorageCard) (chain : OpenChain) (taken : List Bool) → ∥ AllLie frames cards ∥₁ → at cards key ≡ Some one → one.log ≡ Some chain → frames ≡ length taken → HasBuffersIn taken chain
lies_at frames cards key one chain taken lie there log size = ∥∥₁_elim lie (lies_plain taken chain) (λ all. subst (λ (o : Option OpenChain). IfSome o (HasBuffersIn taken)) log (all key one there taken (sym size)))
