-- The law of rates, and the running number that stands for a list of passes.
use Rattle.std.specs.List.{AllByRecursion}
use Rattle.std.specs.Prelude.{◌≡◌, ◌+◌, ◌-◌, ◌*◌, ◌≤◌, ◌&&◌, ℕ, List, [], ◌∷◌, max, nat_le, if◌then◌else◌}

-- a tick, and the bytes that passed then
abbrev pub Pass : Type 0
Pass = ℕ × ℕ

-- the bytes of the passes with ticks s to t
abbrev pub passed_between : ℕ → ℕ → List Pass → ℕ
passed_between s t [] = 0
passed_between s t (x ∷ p) = (if nat_le s x.0 && nat_le x.0 t then x.1 else 0) + passed_between s t p

-- the law: in each window from tick s to tick t at most b + q * (t - s) bytes passed
abbrev pub WithinRate : ℕ → ℕ → List Pass → Type 0
WithinRate q b p = (s t : ℕ) → s ≤ t → passed_between s t p ≤ b + q * (t - s)

-- no pass is after tick t
abbrev pub NoneAfter : ℕ → List Pass → Type 0
NoneAfter t p = AllByRecursion (λ x. x.0 ≤ t) p

-- the bytes of the passes from tick s on
abbrev pub passed_from : ℕ → List Pass → ℕ
passed_from s [] = 0
passed_from s (x ∷ p) = (if nat_le s x.0 then x.1 else 0) + passed_from s p

-- the greatest of 0 and, for each pass of xs at a tick s, the bytes of p from s on less q * (t - s)
abbrev pub greatest : ℕ → ℕ → List Pass → List Pass → ℕ
greatest q t p [] = 0
greatest q t p (x ∷ xs) = max (passed_from x.0 p - q * (t - x.0)) (greatest q t p xs)

-- what the passes of p take of the burst at tick t
abbrev pub fill_of : ℕ → List Pass → ℕ → ℕ
fill_of q p t = greatest q t p p

-- what contracts see of a rate: bytes a tick, bytes of a burst, and what the passes take of the burst at a tick
pub record Pace : Type 0 where
  pub per_tick : ℕ
  pub burst : ℕ
  pub tick : ℕ
  pub fill : ℕ

-- the passes are kept, none is after the rate's tick, and its fill is theirs
pub record IsPaceOf (r : Pace) (p : List Pass) : Type 0 where
  pub kept : WithinRate r.per_tick r.burst p
  pub past : NoneAfter r.tick p
  pub fill_is : r.fill ≡ fill_of r.per_tick p r.tick

-- the fill at a later tick
abbrev pub fill_at : Pace → ℕ → ℕ
fill_at r t = r.fill - r.per_tick * (t - r.tick)

-- the rate after a pass of n bytes at tick t
abbrev pub with_fill : Pace → ℕ → ℕ → Pace
with_fill r n t = record r { tick = t; fill = fill_at r t + n }
