-- Storage cards: `vsic`, `bind`, `unbind`, `get`, `put`, `flush`, `reap`.
use Rattle.std.specs.Prelude.{ℕ, ◌+◌, ◌*◌, Bool, false, not, ◌||◌, List, [], ◌∷◌, ◌++◌, length, nat_le, nat_lt, ◌==◌, if◌then◌else◌, None, is_some, is_none, option_map, filter as select, unwrap_or}
use Rattle.std.specs.List.{list_any}
use Rattle.ark_base.specs.Conditions.{none}
use Rattle.ark_base.specs.declared.kind.Outcome.{Outcome}
use Rattle.ark_script.specs.declared.said.Said.{Said}
use Rattle.ark_script.specs.declared.said.Said.TheVariants as said
use Rattle.ark_machine.specs.Objects
use Rattle.ark_machine.specs.Objects.{Vsic, Job, transfer, flush, phase, held_in, no_queue, is_card}
use Rattle.ark_machine.specs.Machine.{Machine, at, raw_at, vsic_at, buffer_at, serial_at, missing, is_full, held_count, with_new, with_vsic, bytes_at}
use Rattle.ark_machine.specs.Row.{Row, Given, says, answer}
use Rattle.ark_machine.specs.Control.{has_log}
use Rattle.ark_machine.specs.Areas.{area_blocks}
use Rattle.ark_machine.specs.Buffers.{is_lent}

-- no application has more cards, of both kinds together, than these
abbrev pub max_cards : ℕ
max_cards = 8

-- whether there is no room for one more card
abbrev pub no_more_cards : Machine → Bool
no_more_cards m = is_full m || nat_le max_cards (held_count is_card m)

-- `vsic A v SIZE`: a storage card with a ring of so many descriptors
abbrev pub vsic : Machine → List ℕ → ℕ → Given → Row
vsic m v size g =
    answer m
    (record none {
      no_application = not m.made;
      name_taken = is_some (at m v);
      limit = no_more_cards m;
      no_memory = g.no_memory;
    })
    (says (with_new m v (Objects.vsic (record { size = size; queue = no_queue; bound = []; pace = None; door = None }))) said.Ok)

abbrev pub bound_with : ℕ → Vsic → Vsic
bound_with n v = record v { bound = (if list_any (λ b. b == n) v.bound then v.bound else v.bound ++ n ∷ []) }

abbrev pub bound_without : ℕ → Vsic → Vsic
bound_without n v = record v { bound = select (λ b. not (b == n)) v.bound }

-- `bind A v s`: descriptors on the card may use the area
abbrev pub bind : Machine → List ℕ → List ℕ → Given → Row
bind m v s g =
    answer m
    (record none {
      no_application = not m.made;
      no_grant = missing m (v ∷ s ∷ []);
      wrong_kind = is_none (vsic_at m v) || is_none (raw_at m s);
      busy = has_log m v;
    })
    (says (with_vsic m v (bound_with (serial_at m s))) said.Ok)

-- `unbind A v s`: they may not any more
abbrev pub unbind : Machine → List ℕ → List ℕ → Given → Row
unbind m v s g =
    answer m
    (record none {
      no_application = not m.made;
      no_grant = missing m (v ∷ s ∷ []);
      wrong_kind = is_none (vsic_at m v) || is_none (raw_at m s);
      busy = has_log m v;
    })
    (says (with_vsic m v (bound_without (serial_at m s))) said.Ok)

abbrev pub posting : Job → Vsic → Vsic
posting j v = record v { queue = record v.queue { posted = v.queue.posted ++ j ∷ [] } }

abbrev pub is_ring_full : Machine → List ℕ → Bool
is_ring_full m v = unwrap_or (option_map (λ x. nat_le x.size (held_in x.queue)) (vsic_at m v)) false

-- `get A v s OFF COUNT b` and `put A v s OFF COUNT b`: posts a read of COUNT blocks into the buffer, or a write from it
abbrev pub post : Bool → Machine → List ℕ → List ℕ → ℕ → ℕ → List ℕ → Given → Row
post put m v s off count b g =
    answer m
    (record none {
      no_application = not m.made;
      no_grant = missing m (v ∷ s ∷ b ∷ []);
      wrong_kind = is_none (vsic_at m v) || is_none (raw_at m s) || is_none (buffer_at m b);
      out_of_range = nat_lt (area_blocks m s) (off + count) || nat_lt (length (bytes_at m b)) (512 * count);
      busy = has_log m v;
      lent = is_lent m b;
      ring_full = is_ring_full m v;
    })
    (says (with_vsic m v (posting (transfer (record { put = put; vsa = serial_at m s; off = off; count = count; buffer = b })))) said.Ok)

-- `flush A v`: posts a sync
abbrev pub flush_card : Machine → List ℕ → Given → Row
flush_card m v g =
    answer m
    (record none {
      no_application = not m.made;
      no_grant = missing m (v ∷ []);
      wrong_kind = is_none (vsic_at m v);
      busy = has_log m v;
      ring_full = is_ring_full m v;
    })
    (says (with_vsic m v (posting flush)) said.Ok)

abbrev pub reaped : Job → Outcome → Said
reaped (transfer t) o = (if t.put then said.Put t.buffer o else said.Got t.buffer o)
reaped flush o = said.Flushed o
reaped (phase p) o = said.Flushed o

abbrev pub reap_oldest : Machine → List ℕ → List (Job × Outcome) → Row
reap_oldest m v [] = says m said.Nothing
reap_oldest m v (u ∷ us) = says (with_vsic m v (λ x. record x { queue = record x.queue { unreaped = us } })) (reaped u.0 u.1)

abbrev pub unreaped_at : Machine → List ℕ → List (Job × Outcome)
unreaped_at m v = unwrap_or (option_map (λ x. x.queue.unreaped) (vsic_at m v)) []

-- `reap A v`: takes the oldest finished descriptor
abbrev pub reap : Machine → List ℕ → Given → Row
reap m v g =
    answer m
    (record none {
      no_application = not m.made;
      no_grant = missing m (v ∷ []);
      wrong_kind = is_none (vsic_at m v);
      busy = has_log m v;
    })
    (reap_oldest m v (unreaped_at m v))
