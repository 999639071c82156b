-- The rows of `app` and `drop`.
use Rattle.std.specs.Prelude.{ℕ, ◌+◌, Bool, true, false, not, ◌&&◌, ◌||◌, List, [], ◌∷◌, nat_lt, ◌==◌, if◌then◌else◌, Option, Some, None, is_some, option_map, filter as select, unwrap_or, bytes_eq}
use Rattle.ark_base.specs.Conditions.{none}
use Rattle.ark_script.specs.declared.said.Said.TheVariants as said
use Rattle.ark_machine.specs.Objects
use Rattle.ark_machine.specs.Objects.{Object, Paced, held_in, is_vsa, is_buffer}
use Rattle.ark_machine.specs.Machine.{Machine, object_at, serial_at, is_so, holds_any, missing, each_object, without}
use Rattle.ark_machine.specs.Row.{Row, Given, writes_slot, syncs, says, answer, has_fault, synced_by}

-- `app A F`: makes the application, with F frames of memory. It holds what was stored for it.
abbrev pub app : Machine → ℕ → Given → Row
app m frames g =
    answer m
    (record none {
      name_taken = m.made;
      limit = g.limit;
      no_memory = g.no_memory;
    })
    (says (record m { made = true; frames = frames }) said.Ok)

-- whether a log or queue is open on the card
abbrev pub is_open_on : List ℕ → Object → Bool
is_open_on v (Objects.log g) = unwrap_or (option_map (λ o. bytes_eq v o.card) g.opened) false
is_open_on v _ = false

abbrev pub has_log : Machine → List ℕ → Bool
has_log m v = holds_any m (is_open_on v)

-- What of an application's objects names another one.

abbrev pub is_paced_by : List ℕ → Option Paced → Bool
is_paced_by r pace = unwrap_or (option_map (λ p. bytes_eq r p.rate) pace) false

abbrev pub is_label : List ℕ → Option (List ℕ) → Bool
is_label l other = unwrap_or (option_map (λ k. bytes_eq l k) other) false

-- the rate paces one of its queues
abbrev pub is_paced : List ℕ → Object → Bool
is_paced r (Objects.vsic v) = is_paced_by r v.pace
is_paced r (Objects.vnic v) = is_paced_by r v.rx_pace || is_paced_by r v.tx_pace
is_paced r _ = false

-- the doorbell watches one of its queues
abbrev pub is_watched : List ℕ → Object → Bool
is_watched d (Objects.vsic v) = is_label d v.door
is_watched d (Objects.vnic v) = is_label d v.rx_door || is_label d v.tx_door
is_watched d _ = false

abbrev pub is_socket_on : List ℕ → Object → Bool
is_socket_on v (Objects.socket k) = bytes_eq v k.card
is_socket_on v _ = false

-- whether an object is still in use, so that it cannot be dropped
abbrev pub is_in_use : Machine → List ℕ → Object → Bool
is_in_use m x (Objects.raw r) = false
is_in_use m x (Objects.log g) = is_some g.opened
is_in_use m x (Objects.vsic v) = has_log m x || nat_lt 0 (held_in v.queue)
is_in_use m x (Objects.vnic v) = holds_any m (is_socket_on x) || (not v.socketed && nat_lt 0 (held_in v.rx + held_in v.tx))
is_in_use m x (Objects.rate q b) = holds_any m (is_paced x)
is_in_use m x (Objects.door c) = holds_any m (is_watched x)
is_in_use m x (Objects.filter f card) = false
is_in_use m x (Objects.buffer b) = false
is_in_use m x (Objects.socket k) = false

-- what ends with an object: a filter of a dropped card is assigned to none, and no card is bound to a dropped area
abbrev pub lets_go : List ℕ → ℕ → Object → Object
lets_go x n (Objects.filter f (Some v)) = Objects.filter f (if bytes_eq x v then None else Some v)
lets_go x n (Objects.vsic v) = Objects.vsic (record v { bound = select (λ b. not (b == n)) v.bound })
lets_go x n o = o

-- `drop A x`: gives an object up. An area's slot is removed from the device; the label is gone also where that fails.
abbrev pub drop : Machine → List ℕ → Given → Row
drop m x g =
    answer m
    (record none {
      no_application = not m.made;
      no_grant = missing m (x ∷ []);
      wrong_kind = is_so is_buffer (object_at m x);
      table_failed = g.table_failed && is_so is_vsa (object_at m x);
      busy = is_so (is_in_use m x) (object_at m x);
      device_fault = has_fault g.ended;
    })
    (record {
      machine = synced_by g.ended (each_object (lets_go x (serial_at m x)) (without m x));
      said = said.Ok;
      bytes = [];
      calls = (if is_so is_vsa (object_at m x) then writes_slot ∷ syncs ∷ [] else []);
    })
