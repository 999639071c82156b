-- Network cards with nothing in their transmit rings.
use Rattle.std.proofs.Common.{◌≡◌, ℕ, true, List, [], refl, ap, ◌∙◌}
use Rattle.std.specs.Prelude.{◌==◌, Option, Some, None, length}
use Rattle.std.proofs.lemmas.Bool.{and_parts}
use Rattle.std.proofs.Math.Bool.{Bool-set}
use Rattle.std.proofs.Math.Logic.{∥∥₁_elim}
use Rattle.ark_objects.specs.Held.{at, Changes}
use Rattle.ark_vic.specs.Queue.{Queue}
use Rattle.ark_vnic.specs.Arrivals.{after_arrival}
use Rattle.ark_vnic.specs.Card.{NetCard}
use Rattle.ark_vnic.specs.declared.arrived.Arrived.{Arrived}
use Rattle.ark_vnic.specs.declared.arrived.Arrived.TheVariants as arrived
use Rattle.ark_held.specs.Nets.{AreQuiet, is_empty}
use Rattle.ark_held.specs.declared.network_card.NetworkCard.{NetworkCard}
use Rattle.ark_held.proofs.CardLogs.{card_less, card_set, no_card}
use Rattle.ark_held.proofs.LogRings.{none_in}

abbrev IsQuiet : NetworkCard → Type 0
IsQuiet c = is_empty c.vnic.tx ≡ true

-- a key has another card, which is quiet
pub quiet_set : (before after : List (Option NetworkCard)) (key : ℕ) (one : NetworkCard) → Changes before after key (Some one) → is_empty one.vnic.tx ≡ true → AreQuiet before → AreQuiet after
quiet_set before after key one changes its all = card_set IsQuiet before after key one changes its all

-- a key has no card any more
pub quiet_less : (before after : List (Option NetworkCard)) (key : ℕ) → Changes before after key None → AreQuiet before → AreQuiet after
quiet_less before after key changes all = card_less IsQuiet before after key changes all

-- one card changes, with its transmit ring as it was
pub quiet_turned : (before after : List (Option NetworkCard)) (key : ℕ) (one now : NetworkCard) → at before key ≡ Some one → Changes before after key (Some now) → now.vnic.tx ≡ one.vnic.tx → AreQuiet before → AreQuiet after
quiet_turned before after key one now there changes same all = quiet_set before after key now changes (ap is_empty same ∙ all key one there) all

-- each card is quiet
pub quiet_at : (nets : List (Option NetworkCard)) (key : ℕ) (one : NetworkCard) → ∥ AreQuiet nets ∥₁ → at nets key ≡ Some one → is_empty one.vnic.tx ≡ true
quiet_at nets key one quiet there = ∥∥₁_elim quiet (Bool-set (is_empty one.vnic.tx) true) (λ all. all key one there)

-- nothing is in an empty ring
pub empty_ring : (q : Queue) → is_empty q ≡ true → (q.posted ≡ []) × (q.unreaped ≡ [])
empty_ring q empty = let p = and_parts (length q.posted == 0) (length q.unreaped == 0) empty in (none_in q.posted p.0, none_in q.unreaped p.1)

-- where there is no card
pub no_quiet : (nets : List (Option NetworkCard)) → ((key : ℕ) → at nets key ≡ None) → AreQuiet nets
no_quiet nets vacant = no_card IsQuiet nets vacant

-- a frame that comes leaves the transmit ring
pub tx_arrived : (v : NetCard) (x : Arrived) (len now : ℕ) → (after_arrival v x len now).tx ≡ v.tx
tx_arrived v arrived.Into len now = refl
tx_arrived v arrived.NoBuffer len now = refl
tx_arrived v arrived.TooLong len now = refl
tx_arrived v arrived.Throttled len now = refl
