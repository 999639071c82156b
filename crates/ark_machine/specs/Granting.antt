-- What the plane takes over from a line, by its reply.
use Rattle.std.specs.Prelude.{ℕ, Bool, true, false, not, ◌&&◌, List, [], ◌∷◌, ◌++◌, map, ◌==◌, if◌then◌else◌, Option, Some, None, option_map, filter as select, unwrap_or, bytes_eq}
use Rattle.ark_base.specs.declared.kind.Kind.{Kind}
use Rattle.ark_base.specs.declared.refusal.Refusal.{Refusal}
use Rattle.ark_base.specs.declared.refusal.Refusal.TheVariants as r
use Rattle.ark_table.specs.Slots.{Slot}
use Rattle.ark_script.specs.Line as w
use Rattle.ark_script.specs.Line.{Line}
use Rattle.ark_script.specs.declared.said.Said.{Said}
use Rattle.ark_script.specs.declared.said.Said.TheVariants as said
use Rattle.ark_machine.specs.Machine.{Machine, object_at}
use Rattle.ark_machine.specs.Plane.{Plane, LiveFilter, Change, makes, grows, drops, slot_of, lowest, free_slot}

-- the slot of a new area
abbrev pub new_slot : Plane → List ℕ → List ℕ → Kind → ℕ → Slot
new_slot p a s k n = record { index = free_slot p; app = a; label = s; kind = k; blocks = lowest p n }

-- the change of the table that a line asks for; the machine is as it was before the line
abbrev pub change_of : Plane → Machine → Line → Option Change
change_of p m (w.vsa a s n k) = Some (makes (new_slot p a s k n))
change_of p m (w.grow a s n) = option_map (λ t. grows t (lowest p n)) (slot_of p a s)
change_of p m (w.drop a x) = option_map (λ t. drops t (object_at m x)) (slot_of p a x)
change_of p m _ = None

-- a slot with more blocks behind its own
abbrev pub with_more : Slot → List ℕ → Slot
with_more t more = record { index = t.index; app = t.app; label = t.label; kind = t.kind; blocks = t.blocks ++ more }

abbrev pub without_slot : Slot → List Slot → List Slot
without_slot s slots = select (λ t. not (t.index == s.index)) slots

abbrev pub with_change : Plane → Change → Plane
with_change p (makes s) = record p { slots = p.slots ++ s ∷ [] }
with_change p (grows s more) = record p { slots = map (λ t. if t.index == s.index then with_more t more else t) p.slots }
with_change p (drops s o) = record p { slots = without_slot s p.slots }

-- a change that failed: a new slot or more blocks are not granted, and a dropped slot is gone all the same
abbrev pub with_failed : Plane → Change → Plane
with_failed p (makes s) = record p { failed = true; unsettled = Some (makes s) }
with_failed p (grows s more) = record p { failed = true; unsettled = Some (grows s more) }
with_failed p (drops s o) = record p { failed = true; unsettled = Some (drops s o); slots = without_slot s p.slots }

abbrev pub changed : Plane → Option Change → Plane
changed p None = p
changed p (Some c) = with_change p c

abbrev pub failed_change : Plane → Option Change → Plane
failed_change p None = p
failed_change p (Some c) = with_failed p c

-- Filters.

abbrev pub is_filter_of : List ℕ → List ℕ → LiveFilter → Bool
is_filter_of a l f = bytes_eq a f.owner && bytes_eq l f.label

abbrev pub assigned : Option (List ℕ) → LiveFilter → LiveFilter
assigned card f = record f { card = card }

abbrev pub is_on : List ℕ → List ℕ → LiveFilter → Bool
is_on a v f = bytes_eq a f.owner && unwrap_or (option_map (λ c. bytes_eq v c) f.card) false

-- a filter under this label is gone, and those that are assigned to a card of this label are assigned to none
abbrev pub without_label : Plane → List ℕ → List ℕ → Plane
without_label p a x = record p {
  filters = map (λ f. if is_on a x f then assigned None f else f) (select (λ f. not (is_filter_of a x f)) p.filters);
}

-- what an accepted line brings beside a change of the table
abbrev pub with_granted : Plane → Line → Plane
with_granted p (w.nic own) = record p { own = Some own }
with_granted p (w.app a frames) = record p { apps = p.apps ++ a ∷ [] }
with_granted p (w.filter a f rule) = record p { filters = p.filters ++ (record { owner = a; label = f; rule = rule; card = None }) ∷ [] }
with_granted p (w.assign a v f) = record p { filters = map (λ x. if is_filter_of a f x then assigned (Some v) x else x) p.filters }
with_granted p (w.drop a x) = without_label p a x
with_granted p _ = p

abbrev pub after_refusal : Plane → Refusal → Option Change → Plane
after_refusal p r.DeviceFault c = failed_change p c
after_refusal p _ c = p

-- the plane after a line with this reply
abbrev pub plane_after : Plane → Machine → Line → Said → Plane
plane_after p m line said.Ok = with_granted (changed p (change_of p m line)) line
plane_after p m line (said.Refused refusal) = after_refusal p refusal (change_of p m line)
plane_after p m line _ = p
