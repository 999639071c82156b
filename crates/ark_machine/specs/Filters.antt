-- What holds of the live filters of a run.
use Rattle.std.specs.Prelude.{◌≡◌, ℕ, true, false, List, [], ◌∷◌, ◌++◌, Option, Some, None, option_map, option_and_then, find, is_some}
use Rattle.std.specs.List.{All}
use Rattle.ark_packet.specs.declared.own.Own.{Own}
use Rattle.ark_filters.specs.Overlap.{Overlaps}
use Rattle.ark_filters.specs.Rule.{IsReceive, IsRule}
use Rattle.ark_filters.specs.declared.filter.Filter.{Filter}
use Rattle.ark_machine.specs.Objects
use Rattle.ark_machine.specs.Objects.{Object}
use Rattle.ark_machine.specs.Machine.{Machine, object_at, vnic_at}
use Rattle.ark_machine.specs.Plane.{Plane, LiveFilter}
use Rattle.ark_machine.specs.Granting.{is_filter_of}
use Rattle.ark_machine.specs.System.{System, machine_of}

-- Some frame passes a live filter and the new one, and both are receive filters.
pub record SharesFrame (own : Own) (rule : Filter) (live : LiveFilter) : Type 0 where
  pub receives : IsReceive rule
  pub live_receives : IsReceive live.rule
  pub frame : Overlaps rule live.rule own

-- the earliest live filter that shares a frame with the new one, by its owner and label
pub record IsFirstSharing (own : Own) (rule : Filter) (filters : List LiveFilter) (owner label : List ℕ) : Type 0 where
  pub before : List LiveFilter
  pub live : LiveFilter
  pub after : List LiveFilter
  pub list : filters ≡ before ++ live ∷ after
  pub owned : live.owner ≡ owner
  pub labelled : live.label ≡ label
  pub shares : SharesFrame own rule live
  pub earliest : All (λ other. SharesFrame own rule other → ⊥) before

-- each live filter is one that a line can give
abbrev pub HasRules : Plane → Type 0
HasRules p = All (λ f. IsRule f.rule) p.filters

-- the same system, with no live filter
abbrev pub without_filters : System → System
without_filters s = record s { plane = record s.plane { filters = [] } }

-- One list of filters.

-- a filter with the card that it is assigned to
abbrev pub as_assigned : Object → Option (Filter × Option (List ℕ))
as_assigned (Objects.filter rule card) = Some (rule, card)
as_assigned _ = None

-- the filter that a machine holds at a label
abbrev pub held_at : Machine → List ℕ → Option (Filter × Option (List ℕ))
held_at m l = option_and_then as_assigned (object_at m l)

-- the live filter that is listed under an owner and a label
abbrev pub listed_at : List LiveFilter → List ℕ → List ℕ → Option (Filter × Option (List ℕ))
listed_at filters a l = option_map (λ f. (f.rule, f.card)) (find (λ f. is_filter_of a l f) filters)

-- no two are of one owner and one label
abbrev pub EachOnce : List LiveFilter → Type 0
EachOnce [] = Unit {0}
EachOnce (f ∷ filters) = (is_some (listed_at filters f.owner f.label) ≡ false) × EachOnce filters

-- The plane lists just the filters that the machines hold, each once, with its rule and its card. A card that one is assigned
-- to is a network card that its owner holds.
pub record FiltersAgree (s : System) : Type 0 where
  pub same : (a l : List ℕ) → listed_at s.plane.filters a l ≡ held_at (machine_of s a) l
  pub once : EachOnce s.plane.filters
  pub cards : (a l v : List ℕ) (rule : Filter) → held_at (machine_of s a) l ≡ Some (rule, Some v) → is_some (vnic_at (machine_of s a) v) ≡ true
