-- Rates, doorbells, and the queues that they pace and watch: `rate`, `pace`, `door`, `watch`, `look`.
use Rattle.std.specs.Prelude.{ℕ, ◌+◌, Bool, true, false, not, ◌||◌, List, [], ◌∷◌, ◌++◌, nat_le, nat_lt, Option, Some, None, is_some, is_none, option_map, unwrap_or}
use Rattle.ark_base.specs.Conditions.{none}
use Rattle.ark_vic.specs.Bells as bells
use Rattle.ark_vic.specs.Pace.{fill_of}
use Rattle.ark_vic.specs.declared.door.Bell.{Bell}
use Rattle.ark_vic.specs.declared.door.Counts.{Counts}
use Rattle.ark_script.specs.declared.said.Said.TheVariants as said
use Rattle.ark_script.specs.declared.step.Side.{Side}
use Rattle.ark_script.specs.declared.step.Side.TheVariants as side
use Rattle.ark_machine.specs.Objects
use Rattle.ark_machine.specs.Objects.{Object, Paced, Vsic, Vnic}
use Rattle.ark_machine.specs.Machine.{Machine, at, door_at, rate_at, vsic_at, vnic_at, missing, given_label, is_full, with_new, with_object, with_vsic, with_vnic}
use Rattle.ark_machine.specs.Row.{Row, Given, says, answer}

-- The law of rates, on a queue that may be paced.

-- so many bytes are more than a burst
abbrev pub is_over_burst : Option Paced → ℕ → Bool
is_over_burst None n = false
is_over_burst (Some p) n = nat_lt p.burst n

-- so many bytes may pass at a tick: with them the passes keep the law
abbrev pub may_pass : Option Paced → ℕ → ℕ → Bool
may_pass None now n = true
may_pass (Some p) now n = nat_le (fill_of p.q p.passes now + n) p.burst

-- they have passed
abbrev pub passed : ℕ → ℕ → Option Paced → Option Paced
passed now n None = None
passed now n (Some p) = Some (record p { passes = p.passes ++ (now, n) ∷ [] })

-- the doorbell, if there is one, has rung
abbrev pub rung : Machine → Option (List ℕ) → Bell → Machine
rung m None bell = m
rung m (Some d) bell = unwrap_or (option_map (λ c. with_object m d (Objects.door (bells.one_more c bell))) (door_at m d)) m

-- `rate A r Q B`: Q bytes a tick, and B bytes of a burst
abbrev pub rate : Machine → List ℕ → ℕ → ℕ → Given → Row
rate m r q b g =
    answer m
    (record none {
      no_application = not m.made;
      name_taken = is_some (at m r);
      limit = is_full m;
    })
    (says (with_new m r (Objects.rate q b)) said.Ok)

-- the card at a label has this queue
abbrev pub has_side : Machine → List ℕ → Side → Bool
has_side m v side.Rx = is_some (vnic_at m v)
has_side m v side.Tx = is_some (vnic_at m v)
has_side m v side.Io = is_some (vsic_at m v)

-- with no passes yet
abbrev pub new_pace : List ℕ → ℕ × ℕ → Paced
new_pace r x = record { rate = r; q = x.0; burst = x.1; passes = [] }

abbrev pub pace_of : Machine → Option (List ℕ) → Option Paced
pace_of m None = None
pace_of m (Some r) = option_map (new_pace r) (rate_at m r)

abbrev pub with_pace : Machine → List ℕ → Side → Option Paced → Machine
with_pace m v side.Rx p = with_vnic m v (λ x. record x { rx_pace = p })
with_pace m v side.Tx p = with_vnic m v (λ x. record x { tx_pace = p })
with_pace m v side.Io p = with_vsic m v (λ x. record x { pace = p })

-- a label that is given and is of no rate
abbrev pub is_no_rate : Machine → Option (List ℕ) → Bool
is_no_rate m None = false
is_no_rate m (Some r) = is_none (rate_at m r)

-- `pace A v r QUEUE`: the rate paces the queue from now on; `-` for none
abbrev pub pace : Machine → List ℕ → Option (List ℕ) → Side → Given → Row
pace m v r q g =
    answer m
    (record none {
      no_application = not m.made;
      no_grant = missing m (v ∷ given_label r);
      wrong_kind = not (has_side m v q) || is_no_rate m r;
    })
    (says (with_pace m v q (pace_of m r)) said.Ok)

abbrev pub no_rings : Counts
no_rings = record { rx = 0; tx = 0; io = 0 }

-- `door A d`: a doorbell
abbrev pub door : Machine → List ℕ → Given → Row
door m d g =
    answer m
    (record none {
      no_application = not m.made;
      name_taken = is_some (at m d);
      limit = is_full m;
    })
    (says (with_new m d (Objects.door no_rings)) said.Ok)

abbrev pub with_door : Machine → List ℕ → Side → Option (List ℕ) → Machine
with_door m v side.Rx d = with_vnic m v (λ x. record x { rx_door = d })
with_door m v side.Tx d = with_vnic m v (λ x. record x { tx_door = d })
with_door m v side.Io d = with_vsic m v (λ x. record x { door = d })

abbrev pub is_no_door : Machine → Option (List ℕ) → Bool
is_no_door m None = false
is_no_door m (Some d) = is_none (door_at m d)

-- `watch A v d QUEUE`: the queue's finished descriptors ring the doorbell; `-` for none
abbrev pub watch : Machine → List ℕ → Option (List ℕ) → Side → Given → Row
watch m v d q g =
    answer m
    (record none {
      no_application = not m.made;
      no_grant = missing m (v ∷ given_label d);
      wrong_kind = not (has_side m v q) || is_no_door m d;
    })
    (says (with_door m v q d) said.Ok)

abbrev pub counts_at : Machine → List ℕ → Counts
counts_at m d = unwrap_or (door_at m d) no_rings

-- `look A d`: how often each bell rang since the last look
abbrev pub look : Machine → List ℕ → Given → Row
look m d g =
    answer m
    (record none {
      no_application = not m.made;
      no_grant = missing m (d ∷ []);
      wrong_kind = is_none (door_at m d);
    })
    (says (with_object m d (Objects.door no_rings)) (said.Rings (counts_at m d).rx (counts_at m d).tx (counts_at m d).io))
