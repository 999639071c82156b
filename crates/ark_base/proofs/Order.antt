-- The one order of refusals, evaluated: of all that hold, the first is named; without it the next, and so on.
use Rattle.std.specs.Prelude.{◌≡◌, ℕ, true, false, List, [], ◌∷◌, map, Option, Some, None, option_map, refl}
use Rattle.ark_base.specs.Conditions.{Conditions, first}
use Rattle.ark_base.specs.Refusal.{number_of}

-- every condition holds
abbrev all : Conditions
all = record {
  too_long = true;
  unknown_word = true;
  syntax_fault = true;
  no_application = true;
  name_taken = true;
  no_grant = Some [];
  wrong_kind = true;
  limit = true;
  no_nic = true;
  out_of_range = true;
  table_failed = true;
  log_failed = true;
  busy = true;
  lent = true;
  ring_full = true;
  log_full = true;
  no_entry = true;
  no_buffer = true;
  no_space = true;
  scattered = true;
  overlap = Some ([], []);
  no_memory = true;
  device_fault = true;
  damaged = Some 7;
}

-- one condition after another, each taken back in turn
abbrev removals : List (Conditions → Conditions)
removals = (λ c. record c { too_long = false })
    ∷ (λ c. record c { unknown_word = false })
    ∷ (λ c. record c { syntax_fault = false })
    ∷ (λ c. record c { no_application = false })
    ∷ (λ c. record c { name_taken = false })
    ∷ (λ c. record c { no_grant = None })
    ∷ (λ c. record c { wrong_kind = false })
    ∷ (λ c. record c { limit = false })
    ∷ (λ c. record c { no_nic = false })
    ∷ (λ c. record c { out_of_range = false })
    ∷ (λ c. record c { table_failed = false })
    ∷ (λ c. record c { log_failed = false })
    ∷ (λ c. record c { busy = false })
    ∷ (λ c. record c { lent = false })
    ∷ (λ c. record c { ring_full = false })
    ∷ (λ c. record c { log_full = false })
    ∷ (λ c. record c { no_entry = false })
    ∷ (λ c. record c { no_buffer = false })
    ∷ (λ c. record c { no_space = false })
    ∷ (λ c. record c { scattered = false })
    ∷ (λ c. record c { overlap = None })
    ∷ (λ c. record c { no_memory = false })
    ∷ (λ c. record c { device_fault = false })
    ∷ (λ c. record c { damaged = None })
    ∷ []

-- the conditions before the first removal, and after each
abbrev after_each : List (Conditions → Conditions) → Conditions → List Conditions
after_each [] c = c ∷ []
after_each (remove ∷ removes) c = c ∷ after_each removes (remove c)

-- the number of the refusal of a line that meets these conditions
abbrev number_at : Conditions → Option ℕ
number_at c = option_map number_of (first c)

pub order : map number_at (after_each removals all)
    ≡ Some 24 ∷ Some 2 ∷ Some 1 ∷ Some 3 ∷ Some 4 ∷ Some 5 ∷ Some 6 ∷ Some 7 ∷ Some 8 ∷ Some 9 ∷ Some 22 ∷ Some 17
    ∷ Some 16 ∷ Some 15 ∷ Some 13 ∷ Some 18 ∷ Some 19 ∷ Some 14 ∷ Some 10 ∷ Some 11 ∷ Some 12 ∷ Some 20 ∷ Some 21
    ∷ Some 23 ∷ None ∷ []
order = refl
