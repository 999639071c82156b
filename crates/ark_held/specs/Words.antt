-- What is found under a label, and why nothing can be added there.
use Rattle.std.specs.Prelude.{ℕ, Bool, true, false, ◌||◌, ◌&&◌, List, [], ◌∷◌, ◌++◌, length, nat_eq, nat_le, if◌then◌else◌, Option, Some, None, is_none, Result, Ok, Err}
use Rattle.std.specs.Result.{result_map_both}
use Rattle.std.specs.Borrow.{Bor}
use Rattle.std.specs.Map.{lookup}
use Rattle.ark_base.specs.declared.kind.Kind.{Kind}
use Rattle.ark_base.specs.declared.kind.Kind.TheVariants as kind
use Rattle.ark_base.specs.declared.refusal.Refusal.{Refusal}
use Rattle.ark_base.specs.declared.refusal.Refusal.TheVariants as r
use Rattle.ark_table.specs.Slots.{Slot}
use Rattle.ark_caps.specs.Labels.{value_at}
use Rattle.ark_caps.specs.declared.capability.CapKind.{CapKind}
use Rattle.ark_caps.specs.declared.capability.CapKind.TheVariants as cap_kind
use Rattle.ark_caps.specs.declared.capability.Capability.{Capability}
use Rattle.ark_held.specs.declared.areas.Area.{Area}

-- an application's labels, and its areas by the numbers of their grants
abbrev pub Labels : Type 0
Labels = List (List ℕ × Capability)

abbrev pub AreaList : Type 0
AreaList = List (ℕ × Area)

-- the area of a slot
abbrev pub area_in : Slot → Area
area_in t = record { kind = t.kind; slot = t.index; spans = t.blocks }

-- a raw area with its grant; the blocks of a log or queue are its own
abbrev pub grant_if_raw : Kind → ℕ → Area → Result (ℕ × Area) Refusal
grant_if_raw kind.Raw grant a = Ok (grant, a)
grant_if_raw kind.Log grant a = Err r.WrongKind
grant_if_raw kind.Queue grant a = Err r.WrongKind

abbrev pub found_grant : ℕ → Option Area → Result (ℕ × Area) Refusal
found_grant grant None = Err r.WrongKind
found_grant grant (Some a) = grant_if_raw a.kind grant a

abbrev pub grant_of : AreaList → CapKind → ℕ → Result (ℕ × Area) Refusal
grant_of areas cap_kind.Vsa grant = found_grant grant (lookup (nat_eq grant) areas)
grant_of areas _ grant = Err r.WrongKind

abbrev pub grant_under : AreaList → List ℕ → Option Capability → Result (ℕ × Area) Refusal
grant_under areas l None = Err (r.NoGrant l)
grant_under areas l (Some c) = grant_of areas c.kind c.grant

-- the raw area under a label with its grant, or why there is none
abbrev pub grant_at : Labels → AreaList → List ℕ → Result (ℕ × Area) Refusal
grant_at labels areas l = grant_under areas l (value_at labels l)

-- what a reference to it shows with its grant
abbrev pub granted : Result (ℕ × Bor Area) Refusal → Result (ℕ × Area) Refusal
granted found = result_map_both (λ p. (p.0, p.1.now)) (λ e. e) found

abbrev pub limit_if : Bool → Option Refusal
limit_if true = Some r.Limit
limit_if false = None

abbrev pub room_under : Labels → AreaList → Option Capability → Option Refusal
room_under labels areas (Some c) = Some r.NameTaken
room_under labels areas None = limit_if (nat_le 64 (length labels) || nat_le 8 (length areas))

-- why no area can be added under a label, if so
abbrev pub no_room : Labels → AreaList → List ℕ → Option Refusal
no_room labels areas l = room_under labels areas (value_at labels l)

-- the capability of an area
abbrev pub new_area_cap : ℕ → Capability
new_area_cap grant = record { kind = cap_kind.Vsa; grant = grant; key = 0 }

abbrev pub added_to : AreaList → ℕ → Area → Option Area → AreaList
added_to areas grant area None = areas ++ (grant, area) ∷ []
added_to areas grant area (Some old) = areas

-- with an area more at the end, unless there is one of this grant
abbrev pub with_area : AreaList → ℕ → Area → AreaList
with_area areas grant area = added_to areas grant area (lookup (nat_eq grant) areas)

-- no grant has two areas
abbrev pub are_once : AreaList → Bool
are_once [] = true
are_once (x ∷ xs) = is_none (lookup (nat_eq x.0) xs) && are_once xs

-- without the area of this grant
abbrev pub without_area : AreaList → ℕ → AreaList
without_area [] grant = []
without_area (x ∷ xs) grant = if nat_eq x.0 grant then xs else x ∷ without_area xs grant

-- the number of a grant with the slot of its area, or why there is none
abbrev pub grant_slot : ℕ → Option Area → Result (ℕ × ℕ) Refusal
grant_slot grant None = Err r.WrongKind
grant_slot grant (Some a) = Ok (grant, a.slot)

abbrev pub slot_of_kind : AreaList → CapKind → ℕ → Result (ℕ × ℕ) Refusal
slot_of_kind areas cap_kind.Vsa grant = grant_slot grant (lookup (nat_eq grant) areas)
slot_of_kind areas _ grant = Err r.WrongKind

abbrev pub slot_of_cap : AreaList → List ℕ → Option Capability → Result (ℕ × ℕ) Refusal
slot_of_cap areas l None = Err (r.NoGrant l)
slot_of_cap areas l (Some c) = slot_of_kind areas c.kind c.grant

-- the grant and the slot of the area under a label, or why there is none
abbrev pub slot_under : Labels → AreaList → List ℕ → Result (ℕ × ℕ) Refusal
slot_under labels areas l = slot_of_cap areas l (value_at labels l)

-- with these blocks in place of those of the first area of this grant
abbrev pub with_spans : AreaList → ℕ → List ℕ → AreaList
with_spans [] grant spans = []
with_spans (x ∷ xs) grant spans = if nat_eq grant x.0 then (x.0, record x.1 { spans = spans }) ∷ xs else x ∷ with_spans xs grant spans
