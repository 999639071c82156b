-- Areas that go together.
use Rattle.std.proofs.Common.{◌≡◌, inl, inr, ℕ, ◌+◌, ◌≤◌, List, [], ◌∷◌, Bool, true, false, not, ◌&&◌, length, refl, sym, ◌∙◌, ap, arith}
use Rattle.std.specs.Prelude.{nat_le, bytes_eq}
use Rattle.std.specs.List.{list_all}
use Rattle.std.proofs.lemmas.Bool.{and_parts, or_left, or_right, le-leb, leb-true, cases_lt, false≢true}
use Rattle.std.proofs.lemmas.Slice.Eq.{bytes_eq-Decides}
use Rattle.ark_base.specs.declared.block.Span.{Span}
use Rattle.ark_extents.specs.Blocks.{blocks_of, ShareNoBlock}
use Rattle.ark_extents.specs.Runs.{are_apart, fits, are_spans, share_none, are_longest, is_count}
use Rattle.ark_extents.specs.Free.{HasBlock, AnyHas}
use Rattle.ark_extents.proofs.Holding.{has_contained, contains_had, none_shared}
use Rattle.ark_table.specs.Area.{Area, is_area}
use Rattle.ark_table.specs.Slots.{share_no_block, is_same}
use Rattle.ark_table.specs.Table.{Together}

any_apart : (xs ys : List Span) → share_no_block xs ys ≡ true → (n : ℕ) → AnyHas xs n → AnyHas ys n → ⊥
any_apart [] ys shared n a b = a
any_apart (x ∷ xs) ys shared n (inl a) b = none_shared x ys (and_parts (list_all (are_apart x) ys) (share_no_block xs ys) shared).0 n a b
any_apart (x ∷ xs) ys shared n (inr a) b = any_apart xs ys (and_parts (list_all (are_apart x) ys) (share_no_block xs ys) shared).1 n a b

runs_apart : (xs ys : List Span) → share_no_block xs ys ≡ true → ShareNoBlock (blocks_of xs) (blocks_of ys)
runs_apart xs ys shared n a b = any_apart xs ys shared n (has_contained xs n a) (has_contained ys n b)

-- each run has a block
abbrev Filled : List Span → Type 0
Filled [] = Unit {0}
Filled (run ∷ runs) = (1 ≤ run.len) × Filled runs

filled_from : (runs : List Span) → list_all fits runs ≡ true → Filled runs
filled_from [] h = tt
filled_from (run ∷ runs) h =
    let p = and_parts (fits run) (list_all fits runs) h in
    (leb-true 1 run.len (and_parts (nat_le 1 run.len) _ p.0).0, filled_from runs p.1)

one_apart : (x y : Span) → 1 ≤ x.len → 1 ≤ y.len → ((n : ℕ) → HasBlock x n → HasBlock y n → ⊥) → are_apart x y ≡ true
one_apart x y some_x some_y none = elim (cases_lt y.start (x.start + x.len)) [
  | inl before ↦ elim (cases_lt x.start (y.start + y.len)) [
    | inl behind ↦ absurd (elim (cases_lt x.start y.start) [
      | inl lt ↦ none y.start (omega (arith, lt), before) (omega arith, omega (arith, some_y))
      | inr le ↦ none x.start (omega arith, omega (arith, some_x)) (le, behind)
    ])
    | inr past ↦ or_right (nat_le (x.start + x.len) y.start) (nat_le (y.start + y.len) x.start) (le-leb (y.start + y.len) x.start past)
  ]
  | inr past ↦ or_left (nat_le (x.start + x.len) y.start) (nat_le (y.start + y.len) x.start) (le-leb (x.start + x.len) y.start past)
]

one_from_all : (x : Span) (ys : List Span) → 1 ≤ x.len → Filled ys → ((n : ℕ) → HasBlock x n → AnyHas ys n → ⊥) → list_all (are_apart x) ys ≡ true
one_from_all x [] some filled none = refl
one_from_all x (y ∷ ys) some filled none = λ i. one_apart x y some filled.0 (λ n a b. none n a (inl b)) i && one_from_all x ys some filled.1 (λ n a b. none n a (inr b)) i

all_apart : (xs ys : List Span) → Filled xs → Filled ys → ((n : ℕ) → AnyHas xs n → AnyHas ys n → ⊥) → share_no_block xs ys ≡ true
all_apart [] ys fx fy none = refl
all_apart (x ∷ xs) ys fx fy none = λ i. one_from_all x ys fx.0 fy (λ n a b. none n (inl a) b) i && all_apart xs ys fx.1 fy (λ n a b. none n (inr a) b) i

area_filled : (size : ℕ) (a : Area) → is_area size a ≡ true → Filled a.runs
area_filled size a kept =
    let one = (and_parts _ _ kept).1 in
    let two = (and_parts _ _ one).1 in
    let spans : are_spans a.runs ≡ true = (and_parts (are_spans a.runs) _ two).0 in
    let outer = and_parts _ (are_longest a.runs) spans in
    let middle = and_parts _ (share_none a.runs) outer.0 in
    filled_from a.runs (and_parts (is_count (length a.runs)) (list_all fits a.runs) middle.0).1

-- the test of two areas, and what it says
abbrev pub goes : Area → Area → Bool
goes a b = share_no_block a.runs b.runs && not (is_same a b)

not_same : (a b : Area) → not (is_same a b) ≡ true → a.app ≡ b.app → a.label ≡ b.label → ⊥
not_same a b h app label =
    let same : is_same a b ≡ true = λ i. (bytes_eq-Decides a.app b.app).1 app i && (bytes_eq-Decides a.label b.label).1 label i in
    false≢true (ap not (sym same) ∙ h)

pub together_from : (a b : Area) → goes a b ≡ true → Together a b
together_from a b h =
    let p = and_parts (share_no_block a.runs b.runs) (not (is_same a b)) h in
    record { apart = runs_apart a.runs b.runs p.0; differ = not_same a b p.1 }

differs : (a b : Area) → (a.app ≡ b.app → a.label ≡ b.label → ⊥) → not (is_same a b) ≡ true
differs a b none = by (bytes_eq a.app b.app) (bytes_eq a.label b.label) refl refl
  where
    by : (x y : Bool) → bytes_eq a.app b.app ≡ x → bytes_eq a.label b.label ≡ y → not (is_same a b) ≡ true
    by true true p q = absurd (none ((bytes_eq-Decides a.app b.app).0 p) ((bytes_eq-Decides a.label b.label).0 q))
    by false y p q = λ i. not (p i && bytes_eq a.label b.label)
    by true false p q = λ i. not (p i && q i)

pub goes_from : (size : ℕ) (a b : Area) → is_area size a ≡ true → is_area size b ≡ true → Together a b → goes a b ≡ true
goes_from size a b kept_a kept_b both = λ i.
    all_apart a.runs b.runs (area_filled size a kept_a) (area_filled size b kept_b) (λ n x y. both.apart n (contains_had a.runs n x) (contains_had b.runs n y)) i
    && differs a b both.differ i

pub turned : (a b : Area) → Together a b → Together b a
turned a b both = record { apart = λ n x y. both.apart n y x; differ = λ p q. both.differ (sym p) (sym q) }
