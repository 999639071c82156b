-- Where the log or queue under a label is open.
use Rattle.std.specs.Prelude.{ℕ, List, Option, Some, None, option_map, nat_eq, Result, Ok, Err}
use Rattle.std.specs.Map.{lookup}
use Rattle.ark_base.specs.declared.kind.Kind.{Kind}
use Rattle.ark_base.specs.declared.kind.Kind.TheVariants as kind
use Rattle.ark_base.specs.declared.refusal.Refusal.{Refusal}
use Rattle.ark_base.specs.declared.refusal.Refusal.TheVariants as r
use Rattle.ark_caps.specs.Labels.{value_at}
use Rattle.ark_caps.specs.declared.capability.Capability.{Capability}
use Rattle.ark_held.specs.Words.{AreaList, Labels}
use Rattle.ark_held.specs.OpenLogs.{opened_on}
use Rattle.ark_held.specs.declared.areas.Area.{Area}
use Rattle.ark_held.specs.declared.card.StorageCard.{StorageCard}
use Rattle.ark_logs.specs.declared.finding.OpenAt.{OpenAt}

-- open on this card, if on any
abbrev pub open_at : ℕ → Option Capability → Result OpenAt Refusal
open_at grant None = Err r.WrongKind
open_at grant (Some card) = Ok (record { grant = grant; key = card.key })

abbrev pub open_by : Labels → List (Option StorageCard) → List ℕ → Option Capability → Result OpenAt Refusal
open_by labels cards l None = Err (r.NoGrant l)
open_by labels cards l (Some c) = open_at c.grant (option_map (λ p. p.1) (opened_on cards c.grant labels))

-- the grant of the log or queue under a label and the key of its card, or why there are none
abbrev pub open_under : Labels → List (Option StorageCard) → List ℕ → Result OpenAt Refusal
open_under labels cards l = open_by labels cards l (value_at labels l)

-- it is of this kind
abbrev pub if_of : Kind → Kind → OpenAt → Result OpenAt Refusal
if_of kind.Log kind.Log a = Ok a
if_of kind.Queue kind.Queue a = Ok a
if_of _ _ a = Err r.WrongKind

abbrev pub in_area : Kind → OpenAt → Option Area → Result OpenAt Refusal
in_area k a None = Err r.WrongKind
in_area k a (Some area) = if_of area.kind k a

abbrev pub of_area : AreaList → Kind → Result OpenAt Refusal → Result OpenAt Refusal
of_area areas k (Err e) = Err e
of_area areas k (Ok a) = in_area k a (lookup (nat_eq a.grant) areas)

-- the same of a log or queue of this kind
abbrev pub open_of : Labels → AreaList → List (Option StorageCard) → Kind → List ℕ → Result OpenAt Refusal
open_of labels areas cards k l = of_area areas k (open_under labels cards l)
