-- Openings as what a ghost field holds.
use Rattle.std.specs.Prelude.{ℕ, ◌==◌, Bool, true, false, List, Option, Some, None, slice_index, refl}
use Rattle.std.specs.Coded.{Coded, code_by, coded×, coded_ℕ, coded_bool, coded_list, coded_option}
use Rattle.ark_media.specs.Calls.{Opening}

abbrev pub openings_code : Coded (List Opening)
openings_code = coded_list (code_by (List ℕ × (Option ℕ × Bool)) (coded× (coded_list coded_ℕ) (coded× (coded_option coded_ℕ) coded_bool))
    (λ o. (o.name, (o.size, o.ok))) (λ p. record { name = p.0; size = p.1.0; ok = p.1.1 }) (λ _. refl))

abbrev size_of : Bool → ℕ → Option ℕ
size_of true blocks = Some blocks
size_of false blocks = None

-- an opening by its name and numbers: whether the device was to be made (1) or attached (0), of how many blocks, and whether
-- that succeeded (1)
abbrev pub opening_of : List ℕ → List ℕ → Opening
opening_of numbers name = record { name = name; size = size_of (slice_index numbers 0 == 1) (slice_index numbers 1); ok = slice_index numbers 2 == 1 }
