-- The live filters in order of grant, and which of them a frame is for.
use Rattle.std.specs.Prelude.{◌≡◌, ℕ, ◌<◌, List, [], ◌∷◌, ◌++◌, Bool, true, false, not, ◌&&◌, nat_eq, if◌then◌else◌, Option, Some, None, is_some, option_map, option_and_then}
use Rattle.std.specs.List.{All, AllByRecursion, Contains, filter as select, find}
use Rattle.ark_packet.specs.declared.own.Own.{Own}
use Rattle.ark_filters.specs.declared.filter.Filter.{Filter}
use Rattle.ark_filters.specs.declared.filter.Direction.{Direction}
use Rattle.ark_filters.specs.declared.filter.Direction.TheVariants.{Rx, Tx}
use Rattle.ark_filters.specs.declared.live.Live.{Live}
use Rattle.ark_filters.specs.Overlap.{Overlaps, meets}
use Rattle.ark_filters.specs.Rule.{IsReceive, IsRule}

abbrev pub is_rx : Direction → Bool
is_rx Rx = true
is_rx Tx = false

abbrev pub is_tx : Direction → Bool
is_tx Rx = false
is_tx Tx = true

abbrev pub is_on : ℕ → Option ℕ → Bool
is_on vnic None = false
is_on vnic (Some other) = nat_eq other vnic

-- the filter of this grant goes to a VNIC
abbrev pub assigned : ℕ → ℕ → Live → Live
assigned grant vnic live =
    record { owner = live.owner; grant = live.grant; filter = live.filter; vnic = if nat_eq live.grant grant then Some vnic else live.vnic }

-- those of a VNIC go to none
abbrev pub unassigned : ℕ → Live → Live
unassigned vnic live =
    record { owner = live.owner; grant = live.grant; filter = live.filter; vnic = if is_on vnic live.vnic then None else live.vnic }

abbrev pub without : ℕ → List Live → List Live
without grant rules = select (λ live. not (nat_eq live.grant grant)) rules

-- two receive filters that overlap
abbrev pub clashes : Filter → Live → Bool
clashes new live = is_rx new.direction && (is_rx live.filter.direction && meets new live.filter)

-- the grant of the earliest that overlaps a new one
abbrev pub first_clash : Filter → List Live → Option ℕ
first_clash new rules = option_map (λ live. live.grant) (find (clashes new) rules)

-- a live receive filter that overlaps the new one
pub record OverlapsLive (new : Filter) (own : Own) (live : Live) : Type 0 where
  pub direction : IsReceive live.filter
  pub frame : Overlaps new live.filter own

-- This grant is that of the earliest.
pub record IsEarliest (new : Filter) (own : Own) (rules : List Live) (grant : ℕ) : Type 0 where
  pub before : List Live
  pub live : Live
  pub after : List Live
  pub list : rules ≡ before ++ live ∷ after
  pub granted : live.grant ≡ grant
  pub overlaps : OverlapsLive new own live
  pub first : All (λ other. OverlapsLive new own other → ⊥) before

-- a receive filter that is assigned and takes the frame: passes says which filters it matches
abbrev pub takes : (Filter → Bool) → Live → Bool
takes passes live = is_some live.vnic && (is_rx live.filter.direction && passes live.filter)

-- owner and VNIC
abbrev pub receiver : Live → Option (ℕ × ℕ)
receiver live = option_map (λ vnic. (live.owner, vnic)) live.vnic

-- owner and VNIC of the first that takes the frame
abbrev pub classified : (Filter → Bool) → List Live → Option (ℕ × ℕ)
classified passes rules = option_and_then receiver (find (takes passes) rules)

-- The frame is for this owner and this VNIC: a receive filter of theirs passes.
pub record IsFor (passes : Filter → Bool) (rules : List Live) (owner vnic : ℕ) : Type 0 where
  pub live : Live
  pub among : Contains rules live
  pub passing : takes passes live ≡ true
  pub owned : live.owner ≡ owner
  pub used : live.vnic ≡ Some vnic

-- a transmit filter that is assigned to the VNIC, and passes
abbrev pub sends : (Filter → Bool) → ℕ → Live → Bool
sends passes vnic live = is_on vnic live.vnic && (is_tx live.filter.direction && passes live.filter)

-- The one was granted before the other, and they do not overlap.
pub record Precedes (first second : Live) : Type 0 where
  pub earlier : first.grant < second.grant
  pub apart : clashes second.filter first ≡ false

-- each precedes all after it
abbrev pub InOrder : List Live → Type 0
InOrder [] = Unit {0}
InOrder (live ∷ rest) = AllByRecursion (Precedes live) rest × InOrder rest

-- what holds of the live filters at all times
pub record AreRules (rules : List Live) : Type 0 where
  pub each : All (λ live. IsRule live.filter) rules
  pub in_order : InOrder rules
