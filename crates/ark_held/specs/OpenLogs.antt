-- The logs that are open on the cards of an application.
use Rattle.std.specs.Prelude.{◌==◌, ℕ, Bool, false, List, find, Option, Some, None, option_and_then}
use Rattle.ark_objects.specs.Held.{at}
use Rattle.ark_caps.specs.declared.capability.CapKind.{CapKind}
use Rattle.ark_caps.specs.declared.capability.CapKind.TheVariants as cap_kind
use Rattle.ark_caps.specs.declared.capability.Capability.{Capability}
use Rattle.ark_log.specs.Open.{OpenChain}
use Rattle.ark_held.specs.Words.{Labels}
use Rattle.ark_held.specs.declared.card.StorageCard.{StorageCard}

-- whether the log is that of the area of this grant
abbrev pub is_log_of : ℕ → Option OpenChain → Bool
is_log_of grant None = false
is_log_of grant (Some v) = v.grant == grant

-- whether it is open on what a capability stands for
abbrev pub is_open_by : List (Option StorageCard) → ℕ → CapKind → ℕ → Bool
is_open_by cards grant cap_kind.Vsic key = is_log_of grant (option_and_then (λ c. c.log) (at cards key))
is_open_by cards grant _ key = false

-- the label of the card on which it is open, with its capability
abbrev pub opened_on : List (Option StorageCard) → ℕ → Labels → Option (List ℕ × Capability)
opened_on cards grant labels = find (λ p. is_open_by cards grant p.1.kind p.1.key) labels
