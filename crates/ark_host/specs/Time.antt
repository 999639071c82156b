-- The tick and the grants of a host, what a word leaves of them, and why no count of them is too large.
use Rattle.std.specs.Prelude.{◌≡◌, ℕ, ◌+◌, ◌*◌, ◌≤◌}
use Rattle.ark_script.specs.Form.{a_billion}
use Rattle.ark_host.specs.declared.host.Host.{Host}

-- The first grant of a run over a device that was there. Below are the grants of what is stored, by its slots' indices.
abbrev pub first_grant : ℕ
first_grant = 129

-- The host's lines bound its tick and its grants: none lets time go on by more than a billion, or makes more than one grant.
abbrev pub IsSound : Host → Type 0
IsSound host = (host.clock ≤ a_billion * host.lines) × (host.grants ≤ host.lines + first_grant)

-- A word let time go on by so many ticks, and made at most so many grants. It counts no line: the step does.
abbrev pub Counts : Host → Host → ℕ → ℕ → Type 0
Counts old now ticks most =
    (now.clock ≡ old.clock + ticks) × (now.lines ≡ old.lines) × (old.grants ≤ now.grants) × (now.grants ≤ old.grants + most)

-- A line let time go on by no more than a billion ticks, and made at most one grant. The step counts it.
abbrev pub CountsLine : Host → Host → Type 0
CountsLine old now =
    (now.clock ≤ old.clock + a_billion) × (now.lines ≡ old.lines) × (old.grants ≤ now.grants) × (now.grants ≤ old.grants + 1)
