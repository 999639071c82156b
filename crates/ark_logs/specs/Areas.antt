-- The area of a log or queue under a label.
use Rattle.std.specs.Prelude.{ℕ, List, nat_eq, Option, Some, None, Result, Ok, Err}
use Rattle.std.specs.Map.{lookup}
use Rattle.ark_base.specs.declared.kind.Kind.{Kind}
use Rattle.ark_base.specs.declared.kind.Kind.TheVariants as kind
use Rattle.ark_base.specs.declared.refusal.Refusal.{Refusal}
use Rattle.ark_base.specs.declared.refusal.Refusal.TheVariants as r
use Rattle.ark_caps.specs.Labels.{value_at}
use Rattle.ark_caps.specs.declared.capability.Capability.{Capability}
use Rattle.ark_caps.specs.declared.capability.CapKind.{CapKind}
use Rattle.ark_caps.specs.declared.capability.CapKind.TheVariants as cap_kind
use Rattle.ark_held.specs.Words.{Labels, AreaList}
use Rattle.ark_held.specs.declared.areas.Area.{Area}
use Rattle.ark_logs.specs.declared.areas.LogArea.{LogArea}

-- the area, if it is a log or queue of this kind
abbrev pub if_kind : Kind → Kind → LogArea → Result LogArea Refusal
if_kind kind.Log kind.Log area = Ok area
if_kind kind.Queue kind.Queue area = Ok area
if_kind _ _ area = Err r.WrongKind

abbrev pub log_found : Kind → ℕ → Option Area → Result LogArea Refusal
log_found k grant None = Err r.WrongKind
log_found k grant (Some a) = if_kind k a.kind (record { grant = grant; spans = a.spans })

abbrev pub log_granted : AreaList → Kind → CapKind → ℕ → Result LogArea Refusal
log_granted areas k cap_kind.Vsa grant = log_found k grant (lookup (nat_eq grant) areas)
log_granted areas k _ grant = Err r.WrongKind

abbrev pub log_under : AreaList → Kind → List ℕ → Option Capability → Result LogArea Refusal
log_under areas k l None = Err (r.NoGrant l)
log_under areas k l (Some c) = log_granted areas k c.kind c.grant

-- the log or queue of a kind under a label, or why there is none
abbrev pub log_area : Labels → AreaList → Kind → List ℕ → Result LogArea Refusal
log_area labels areas k l = log_under areas k l (value_at labels l)
