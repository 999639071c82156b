-- Runs in rising order, taken apart and put together.
use Rattle.std.proofs.Common.{◌≡◌, ◌≤◌, ◌<◌, ◌-◌, ◌+◌, ◌^◌, ◌⊎◌, ◌↔◌, inl, inr, ⊎_elim, ℕ, zero, suc, Bool, List, [], ◌∷◌, ◌++◌, length, take, drop, get_or, set, true, false, ◌==◌, if◌then◌else◌, arith, refl, sym, ◌∙◌, ap, subst, length-drop}
use Rattle.std.proofs.lemmas.Bool.{eqb-true, eqb-false, cases_lt}
use Rattle.std.proofs.lemmas.List.{take-append-drop, take_more, get_or_default, get_or-take, get_or-drop}
use Rattle.std.proofs.Math.Seq.{drop-cons, take-append_seam}
use Rattle.ark_base.specs.declared.block.Span.{Span}
use Rattle.ark_extents.specs.Runs.{no_run}
use Rattle.ark_extents.specs.Free.{AreRising, EndBy, IsRunPlace, HasBlock, AnyHas, with_run}

-- each run ends before block n
abbrev pub EndBefore : List Span → ℕ → Type 0
EndBefore [] n = Unit {0}
EndBefore (run ∷ runs) n = (run.start + run.len < n) × EndBefore runs n

pub any_append : (xs ys : List Span) (n : ℕ) → AnyHas (xs ++ ys) n ↔ (AnyHas xs n ⊎ AnyHas ys n)
any_append xs ys n = (to xs, from xs)
  where
    to : (l : List Span) → AnyHas (l ++ ys) n → AnyHas l n ⊎ AnyHas ys n
    to [] h = inr h
    to (x ∷ l) (inl h) = inl (inl h)
    to (x ∷ l) (inr h) = ⊎_elim (λ a. inl (inr a)) (λ b. inr b) (to l h)

    from : (l : List Span) → AnyHas l n ⊎ AnyHas ys n → AnyHas (l ++ ys) n
    from [] (inl h) = absurd h
    from [] (inr h) = h
    from (x ∷ l) (inl (inl h)) = inl h
    from (x ∷ l) (inl (inr h)) = inr (from l (inl h))
    from (x ∷ l) (inr h) = inr (from l (inr h))

pub rising_weaker : (m n : ℕ) (runs : List Span) → n ≤ m → AreRising m runs → AreRising n runs
rising_weaker m n [] le h = tt
rising_weaker m n (run ∷ runs) le h = (omega (arith, h.0), h.1, h.2, h.3)

pub rising_append : (m n : ℕ) (xs ys : List Span) → m ≤ n → AreRising m xs → EndBefore xs n → AreRising n ys → AreRising m (xs ++ ys)
rising_append m n [] ys le hx e hy = rising_weaker n m ys le hy
rising_append m n (x ∷ xs) ys le hx e hy = (hx.0, hx.1, hx.2, rising_append (x.start + x.len + 1) n xs ys (omega (arith, e.0)) hx.3 e.1 hy)

pub rising_front : (m : ℕ) (xs ys : List Span) → AreRising m (xs ++ ys) → AreRising m xs
rising_front m [] ys h = tt
rising_front m (x ∷ xs) ys h = (h.0, h.1, h.2, rising_front (x.start + x.len + 1) xs ys h.3)

pub rising_rest : (m : ℕ) (xs ys : List Span) → AreRising m (xs ++ ys) → AreRising m ys
rising_rest m [] ys h = h
rising_rest m (x ∷ xs) ys h = rising_weaker (x.start + x.len + 1) m ys (omega (arith, h.0)) (rising_rest (x.start + x.len + 1) xs ys h.3)

pub rising_before : (m : ℕ) (xs : List Span) (y : Span) (ys : List Span) → AreRising m (xs ++ y ∷ ys) → EndBefore xs y.start
rising_before m [] y ys h = tt
rising_before m (x ∷ xs) y ys h =
    let rest = rising_rest (x.start + x.len + 1) xs (y ∷ ys) h.3 in
    (omega (arith, rest.0), rising_before (x.start + x.len + 1) xs y ys h.3)

-- no run has a block that lies before them, or behind them
pub none_below : (m n : ℕ) (runs : List Span) → AreRising m runs → n < m → AnyHas runs n → ⊥
none_below m n [] h lt a = a
none_below m n (run ∷ runs) h lt (inl a) = omega (arith, h.0, a.0, lt)
none_below m n (run ∷ runs) h lt (inr a) = none_below (run.start + run.len + 1) n runs h.3 (omega (arith, h.0, lt)) a

pub none_above : (m n : ℕ) (runs : List Span) → EndBefore runs m → m ≤ n → AnyHas runs n → ⊥
none_above m n [] h le a = a
none_above m n (run ∷ runs) h le (inl a) = omega (arith, h.0, a.1, le)
none_above m n (run ∷ runs) h le (inr a) = none_above m n runs h.1 le a

pub none_by : (m n : ℕ) (runs : List Span) → EndBy runs m → m ≤ n → AnyHas runs n → ⊥
none_by m n [] h le a = a
none_by m n (run ∷ runs) h le (inl a) = omega (arith, h.0, a.1, le)
none_by m n (run ∷ runs) h le (inr a) = none_by m n runs h.1 le a

pub end_by_append : (m : ℕ) (xs ys : List Span) → EndBy xs m → EndBy ys m → EndBy (xs ++ ys) m
end_by_append m [] ys a b = b
end_by_append m (x ∷ xs) ys a b = (a.0, end_by_append m xs ys a.1 b)

pub end_by_more : (m : ℕ) (runs : List Span) (i : ℕ) (d : Span) → i < length runs → EndBy (take i runs) m → (get_or runs i d).start + (get_or runs i d).len ≤ m → EndBy (take (i + 1) runs) m
end_by_more m runs i d lt h le = subst (λ (l : List Span). EndBy l m) (sym (take_more runs i d lt)) (end_by_append m (take i runs) (get_or runs i d ∷ []) h (le, tt))

pub end_before_weaker : (m n : ℕ) (runs : List Span) → m ≤ n → EndBefore runs m → EndBefore runs n
end_before_weaker m n [] le h = tt
end_before_weaker m n (run ∷ runs) le h = (omega (arith, h.0), end_before_weaker m n runs le h.1)

-- a run that may be empty, before others
pub any_with_run : (run : Span) (runs : List Span) (n : ℕ) → AnyHas (with_run run runs) n ↔ (HasBlock run n ⊎ AnyHas runs n)
any_with_run run runs n = by (run.len == 0) refl
  where
    by : (b : Bool) → (run.len == 0) ≡ b → AnyHas (if b then runs else run ∷ runs) n ↔ (HasBlock run n ⊎ AnyHas runs n)
    by true e = let none = eqb-true run.len 0 e in (λ a. inr a, λ a. ⊎_elim (λ h. absurd (omega (arith, h.0, h.1, none))) (λ h. h) a)
    by false e = (λ a. a, λ a. a)

pub rising_with_run : (run : Span) (runs : List Span) (m : ℕ) → m ≤ run.start → run.start + run.len ≤ 2 ^ 32 - 1 → AreRising (run.start + run.len + 1) runs → AreRising m (with_run run runs)
rising_with_run run runs m le fits h = by (run.len == 0) refl
  where
    by : (b : Bool) → (run.len == 0) ≡ b → AreRising m (if b then runs else run ∷ runs)
    by true e = rising_weaker (run.start + run.len + 1) m runs (omega arith) h
    by false e = let some : 1 ≤ run.len = omega (arith, eqb-false run.len 0 e) in (le, some, fits, h)

pub take_front : (xs ys : List Span) (i : ℕ) → length xs ≡ i → take i (xs ++ ys) ≡ xs
take_front xs ys i e = subst (λ (k : ℕ). take k (xs ++ ys) ≡ xs) e (take-append_seam xs ys)

pub drop_front : (xs ys : List Span) (i : ℕ) → length xs ≡ i → drop i (xs ++ ys) ≡ ys
drop_front [] ys zero e = refl
drop_front [] ys (suc i) e = absurd (omega (arith, e))
drop_front (x ∷ xs) ys zero e = absurd (omega (arith, e))
drop_front (x ∷ xs) ys (suc i) e = drop_front xs ys i (omega (arith, e))

-- a list at one of its places
pub at_place : (runs : List Span) (i : ℕ) (d : Span) → i < length runs → take i runs ++ get_or runs i d ∷ drop (i + 1) runs ≡ runs
at_place runs i d lt =
    let next : suc i ≡ i + 1 = omega arith in
    ap (λ t. take i runs ++ t) (sym (drop-cons runs i d lt ∙ ap (λ k. get_or runs i d ∷ drop k runs) next)) ∙ take-append-drop i runs

-- a piece of the run between xs and ys, taken out
module _ (xs : List Span) (run : Span) (ys : List Span) (piece : Span) (rising : AreRising 0 (xs ++ run ∷ ys)) (by : EndBy xs piece.start) (reaches : piece.start < run.start + run.len)
    (some : 1 ≤ piece.len) (had : (n : ℕ) → HasBlock piece n → AnyHas (xs ++ run ∷ ys) n) where
  rest : AreRising 0 (run ∷ ys)
  rest = rising_rest 0 xs (run ∷ ys) rising

  in_run : (n : ℕ) → n ≤ run.start + run.len → AnyHas ys n → ⊥
  in_run n le a = none_below (run.start + run.len + 1) n ys rest.3 (omega (arith, le)) a

  pub piece_begins : run.start ≤ piece.start
  piece_begins = ⊎_elim (λ a. absurd (none_by piece.start piece.start xs by (omega arith) a))
      (λ b. ⊎_elim (λ h. h.0) (λ c. absurd (in_run piece.start (omega (arith, reaches)) c)) b)
      ((any_append xs (run ∷ ys) piece.start).0 (had piece.start (omega arith, omega (arith, some))))

  not_behind : run.start + run.len < piece.start + piece.len → ⊥
  not_behind lt = ⊎_elim (λ a. none_above run.start (run.start + run.len) xs (rising_before 0 xs run ys rising) (omega arith) a)
      (λ b. ⊎_elim (λ h. omega (arith, h.1)) (λ c. in_run (run.start + run.len) (omega arith) c) b)
      ((any_append xs (run ∷ ys) (run.start + run.len)).0 (had (run.start + run.len) (omega (arith, reaches), lt)))

  pub piece_ends : piece.start + piece.len ≤ run.start + run.len
  piece_ends = ⊎_elim (λ lt. absurd (not_behind lt)) (λ le. le) (cases_lt (run.start + run.len) (piece.start + piece.len))

  abbrev before : Span
  before = record { start = run.start; len = piece.start - run.start }

  abbrev behind : Span
  behind = record { start = piece.start + piece.len; len = run.start + run.len - (piece.start + piece.len) }

  pub cut_rising : AreRising 0 (xs ++ with_run before (with_run behind ys))
  cut_rising =
      let b = piece_begins in
      let e = piece_ends in
      let right : AreRising (piece.start + piece.len) (with_run behind ys) =
      rising_with_run behind ys (piece.start + piece.len) (omega arith) (omega (arith, rest.2, e)) (rising_weaker (run.start + run.len + 1) (behind.start + behind.len + 1) ys (omega (arith, e)) rest.3) in
      let left : AreRising run.start (with_run before (with_run behind ys)) =
      rising_with_run before (with_run behind ys) run.start (omega arith) (omega (arith, rest.2, b, e)) (rising_weaker (piece.start + piece.len) (before.start + before.len + 1) (with_run behind ys) (omega (arith, b, some)) right) in
      rising_append 0 run.start xs (with_run before (with_run behind ys)) (omega arith) (rising_front 0 xs (run ∷ ys) rising) (rising_before 0 xs run ys rising) left

  pub cut_loses : (n : ℕ) → AnyHas (xs ++ with_run before (with_run behind ys)) n ↔ (AnyHas (xs ++ run ∷ ys) n × (HasBlock piece n → ⊥))
  cut_loses n = (
    λ a. ⊎_elim (λ x. ((any_append xs (run ∷ ys) n).1 (inl x), λ p. none_by piece.start n xs by p.0 x))
        (λ r. ⊎_elim (λ h. ((any_append xs (run ∷ ys) n).1 (inr (inl (h.0, omega (arith, h.1, b, reaches)))), λ p. omega (arith, h.1, p.0, b)))
        (λ s. ⊎_elim (λ h. ((any_append xs (run ∷ ys) n).1 (inr (inl (omega (arith, h.0, b), omega (arith, h.1, e)))), λ p. omega (arith, h.0, p.1)))
        (λ y. ((any_append xs (run ∷ ys) n).1 (inr (inr y)), λ p. in_run n (omega (arith, p.1, e)) y))
        ((any_with_run behind ys n).0 s))
        ((any_with_run before (with_run behind ys) n).0 r))
        ((any_append xs (with_run before (with_run behind ys)) n).0 a),
    λ a. (any_append xs (with_run before (with_run behind ys)) n).1 (⊎_elim (λ x. inl x)
        (λ r. inr ((any_with_run before (with_run behind ys) n).1 (⊎_elim (λ h. kept h a.1)
        (λ y. inr ((any_with_run behind ys n).1 (inr y)))
        r)))
        ((any_append xs (run ∷ ys) n).0 a.0)),
  )
    where
      b : run.start ≤ piece.start
      b = piece_begins

      e : piece.start + piece.len ≤ run.start + run.len
      e = piece_ends

      kept : HasBlock run n → (HasBlock piece n → ⊥) → HasBlock before n ⊎ AnyHas (with_run behind ys) n
      kept h none = elim (cases_lt n piece.start) [
        | inl lt ↦ inl (h.0, omega (arith, lt, b))
        | inr le ↦ elim (cases_lt n (piece.start + piece.len)) [
          | inl lt ↦ absurd (none (le, lt))
          | inr past ↦ inr ((any_with_run behind ys n).1 (inl (past, omega (arith, h.1, e))))
        ]
      ]

-- the run of a list that has the first block of a piece of it
pub piece_inside : (runs : List Span) (i n : ℕ) → i ≤ length runs → EndBy (take i runs) n → AnyHas runs n → i < length runs
piece_inside runs i n le by has = elim (cases_lt i (length runs)) [
  | inl lt ↦ lt
  | inr ge ↦
      let all : take i runs ≡ runs = ap (λ k. take k runs) (same_length ge) ∙ take_all runs in
      absurd (none_by n n runs (subst (λ (l : List Span). EndBy l n) all by) (omega arith) has)
]
  where
    same_length : length runs ≤ i → i ≡ length runs
    same_length ge = omega arith

    take_all : (l : List Span) → take (length l) l ≡ l
    take_all [] = refl
    take_all (x ∷ l) = ap (λ t. x ∷ t) (take_all l)

-- a run whose blocks the runs lack: those behind it begin at its end or later
pub next_behind : (m : ℕ) (run : Span) (runs : List Span) → AreRising m runs → 1 ≤ run.len → ((d : Span) → 0 < length runs → run.start < (get_or runs 0 d).start + (get_or runs 0 d).len)
    → ((n : ℕ) → HasBlock run n → AnyHas runs n → ⊥) → AreRising (run.start + run.len) runs
next_behind m run [] h some here apart = tt
next_behind m run (next ∷ runs) h some here apart = (begins, h.1, h.2, h.3)
  where
    reaches : run.start < next.start + next.len
    reaches = here next (omega arith)

    meets : next.start < run.start + run.len → ⊥
    meets lt = elim (cases_lt next.start run.start) [
      | inl a ↦ apart run.start (omega arith, omega (arith, some)) (inl (omega arith, reaches))
      | inr a ↦ apart next.start (a, lt) (inl (omega arith, omega (arith, h.1)))
    ]

    begins : run.start + run.len ≤ next.start
    begins = ⊎_elim (λ lt. absurd (meets lt)) (λ le. le) (cases_lt next.start (run.start + run.len))

-- runs that end at a block at the latest, and the last of which does not end there
pub ends_apart : (m s : ℕ) (runs : List Span) → AreRising m runs → EndBy runs s → ((k : ℕ) (d : Span) → suc k ≡ length runs → (get_or runs k d).start + (get_or runs k d).len ≡ s → ⊥) → EndBefore runs s
ends_apart m s [] h by last = tt
ends_apart m s (x ∷ []) h by last = let ne : x.start + x.len ≡ s → ⊥ = last 0 x refl in (omega (arith, by.0, ne), tt)
ends_apart m s (x ∷ y ∷ runs) h by last = (omega (arith, h.3, by.1), ends_apart (x.start + x.len + 1) s (y ∷ runs) h.3 by.1 (λ k d e. last (suc k) d (omega (arith, e))))

-- the last of these runs and the run behind it, as one
module _ (run : Span) (zs : List Span) (some : 1 ≤ run.len) (fits : run.start + run.len ≤ 2 ^ 32 - 1) where
  pub merged_rising : (m : ℕ) (xs : List Span) (k : ℕ) (d : Span) → suc k ≡ length xs → AreRising m xs → (get_or xs k d).start + (get_or xs k d).len ≡ run.start → AreRising (run.start + run.len + 1) zs
      → AreRising m (set xs k (record { start = (get_or xs k d).start; len = (get_or xs k d).len + run.len }) ++ zs)
  merged_rising m [] k d at h e hz = absurd (omega arith)
  merged_rising m (x ∷ []) zero d at h e hz = (h.0, omega (arith, h.1), omega (arith, e, fits), rising_weaker (run.start + run.len + 1) (x.start + (x.len + run.len) + 1) zs (omega (arith, e)) hz)
  merged_rising m (x ∷ []) (suc k) d at h e hz = absurd (omega (arith, at))
  merged_rising m (x ∷ y ∷ xs) zero d at h e hz = absurd (omega (arith, at))
  merged_rising m (x ∷ y ∷ xs) (suc k) d at h e hz = (h.0, h.1, h.2, merged_rising (x.start + x.len + 1) (y ∷ xs) k d (omega (arith, at)) h.3 e hz)

  pub merged_has : (n : ℕ) (xs : List Span) (k : ℕ) (d : Span) → suc k ≡ length xs → (get_or xs k d).start + (get_or xs k d).len ≡ run.start
      → AnyHas (set xs k (record { start = (get_or xs k d).start; len = (get_or xs k d).len + run.len }) ++ zs) n ↔ (AnyHas xs n ⊎ (HasBlock run n ⊎ AnyHas zs n))
  merged_has n [] k d at e = absurd (omega arith)
  merged_has n (x ∷ []) zero d at e = (
    λ a. ⊎_elim (λ h. elim (cases_lt n run.start) [ inl lt ↦ inl (inl (h.0, omega (arith, e, lt))) | inr ge ↦ inr (inl (ge, omega (arith, h.1, e))) ]) (λ z. inr (inr z)) a,
    λ a. ⊎_elim (λ b. ⊎_elim (λ h. inl (h.0, omega (arith, h.1))) (λ h. absurd h) b) (λ b. ⊎_elim (λ h. inl (omega (arith, h.0, e), omega (arith, h.1, e))) (λ z. inr z) b) a,
  )
  merged_has n (x ∷ []) (suc k) d at e = absurd (omega (arith, at))
  merged_has n (x ∷ y ∷ xs) zero d at e = absurd (omega (arith, at))
  merged_has n (x ∷ y ∷ xs) (suc k) d at e =
      let rec = merged_has n (y ∷ xs) k d (omega (arith, at)) e in (
        λ a. ⊎_elim (λ h. inl (inl h)) (λ b. ⊎_elim (λ p. inl (inr p)) (λ q. inr q) (rec.0 b)) a,
        λ a. ⊎_elim (λ b. ⊎_elim (λ h. inl h) (λ p. inr (rec.1 (inl p))) b) (λ q. inr (rec.1 (inr q))) a,
      )

pub set_front : (xs ys : List Span) (k : ℕ) (v : Span) → k < length xs → set (xs ++ ys) k v ≡ set xs k v ++ ys
set_front [] ys k v lt = absurd (omega arith)
set_front (x ∷ xs) ys zero v lt = refl
set_front (x ∷ xs) ys (suc k) v lt = ap (λ t. x ∷ t) (set_front xs ys k v (omega arith))

pub length-front : (runs : List Span) (i : ℕ) → i ≤ length runs → length (take i runs) ≡ i
length-front runs zero le = refl
length-front [] (suc i) le = absurd (omega arith)
length-front (x ∷ runs) (suc i) le = ap (λ n. suc n) (length-front runs i (omega arith))

-- two runs put at one place
pub put_twice : (xs ys l1 l2 l3 : List Span) (i : ℕ) (a b : Span) → length xs ≡ i → l1 ≡ xs ++ ys → l2 ≡ take i l1 ++ with_run b (drop i l1) → l3 ≡ take i l2 ++ with_run a (drop i l2)
    → l3 ≡ xs ++ with_run a (with_run b ys)
put_twice xs ys l1 l2 l3 i a b at e1 e2 e3 =
    let second : l2 ≡ xs ++ with_run b ys = e2 ∙ ap (λ l. take i l ++ with_run b (drop i l)) e1 ∙ ap (λ t. t ++ with_run b (drop i (xs ++ ys))) (take_front xs ys i at) ∙ ap (λ t. xs ++ with_run b t) (drop_front xs ys i at) in
    e3 ∙ ap (λ l. take i l ++ with_run a (drop i l)) second ∙ ap (λ t. t ++ with_run a (drop i (xs ++ with_run b ys))) (take_front xs (with_run b ys) i at)
    ∙ ap (λ t. xs ++ with_run a t) (drop_front xs (with_run b ys) i at)

-- a piece of a run of the list, taken out
module _ (runs : List Span) (i : ℕ) (piece : Span) (rising : AreRising 0 runs) (place : IsRunPlace runs piece.start i) (some : 1 ≤ piece.len) (had : (n : ℕ) → HasBlock piece n → AnyHas runs n) where
  pub cut_inside : i < length runs
  cut_inside = piece_inside runs i piece.start place.within place.before (had piece.start (omega arith, omega (arith, some)))

  module _ (run : Span) (is : run ≡ get_or runs i run) where
    split : take i runs ++ run ∷ drop (i + 1) runs ≡ runs
    split = ap (λ r. take i runs ++ r ∷ drop (i + 1) runs) is ∙ at_place runs i run cut_inside

    split_rising : AreRising 0 (take i runs ++ run ∷ drop (i + 1) runs)
    split_rising = subst (AreRising 0) (sym split) rising

    split_had : (n : ℕ) → HasBlock piece n → AnyHas (take i runs ++ run ∷ drop (i + 1) runs) n
    split_had n h = subst (λ (l : List Span). AnyHas l n) (sym split) (had n h)

    reaches : piece.start < run.start + run.len
    reaches = subst (λ (r : Span). piece.start < r.start + r.len) (get_or_default runs i no_run run cut_inside ∙ sym is) (place.here cut_inside)

    pub run_fits : run.start + run.len ≤ 2 ^ 32 - 1
    run_fits = (rising_rest 0 (take i runs) (run ∷ drop (i + 1) runs) split_rising).2

    pub cut_begins : run.start ≤ piece.start
    cut_begins = piece_begins (take i runs) run (drop (i + 1) runs) piece split_rising place.before reaches some split_had

    pub cut_ends : piece.start + piece.len ≤ run.start + run.len
    cut_ends = piece_ends (take i runs) run (drop (i + 1) runs) piece split_rising place.before reaches some split_had

    abbrev left : List Span
    left = take i runs ++ with_run (record { start = run.start; len = piece.start - run.start }) (with_run (record { start = piece.start + piece.len; len = run.start + run.len - (piece.start + piece.len) }) (drop (i + 1) runs))

    pub left_rising : AreRising 0 left
    left_rising = cut_rising (take i runs) run (drop (i + 1) runs) piece split_rising place.before reaches some split_had

    pub left_loses : (n : ℕ) → AnyHas left n ↔ (AnyHas runs n × (HasBlock piece n → ⊥))
    left_loses n = subst (λ (l : List Span). AnyHas left n ↔ (AnyHas l n × (HasBlock piece n → ⊥))) split (cut_loses (take i runs) run (drop (i + 1) runs) piece split_rising place.before reaches some split_had n)

-- a run behind the first i, in one with the last of them
module _ (runs : List Span) (i : ℕ) (run last : Span) (le : i ≤ length runs) (pos : 0 < i) (is : last ≡ get_or runs (i - 1) last) (ends : last.start + last.len ≡ run.start)
    (some : 1 ≤ run.len) (fits : run.start + run.len ≤ 2 ^ 32 - 1) where
  abbrev joined : Span
  joined = record { start = last.start; len = last.len + run.len }

  at_last : suc (i - 1) ≡ length (take i runs)
  at_last = omega (arith, length-front runs i le)

  is_last : get_or (take i runs) (i - 1) last ≡ last
  is_last = get_or-take i runs (i - 1) last (omega arith) ∙ sym is

  set_last : set runs (i - 1) joined ≡ set (take i runs) (i - 1) joined ++ drop i runs
  set_last = ap (λ l. set l (i - 1) joined) (sym (take-append-drop i runs)) ∙ set_front (take i runs) (drop i runs) (i - 1) joined (omega (arith, at_last))

  pub joined_rising : AreRising 0 (take i runs) → AreRising (run.start + run.len + 1) (drop i runs) → AreRising 0 (set runs (i - 1) joined)
  joined_rising front rest = subst (AreRising 0) (sym set_last)
      (subst (λ (l : Span). l.start + l.len ≡ run.start → AreRising 0 (set (take i runs) (i - 1) (record { start = l.start; len = l.len + run.len }) ++ drop i runs)) is_last
      (λ e. merged_rising run (drop i runs) some fits 0 (take i runs) (i - 1) last at_last front e rest) ends)

  pub joined_has : (n : ℕ) → AnyHas (set runs (i - 1) joined) n ↔ (AnyHas (take i runs) n ⊎ (HasBlock run n ⊎ AnyHas (drop i runs) n))
  joined_has n = subst (λ (l : List Span). AnyHas l n ↔ (AnyHas (take i runs) n ⊎ (HasBlock run n ⊎ AnyHas (drop i runs) n))) (sym set_last)
      (subst (λ (l : Span). l.start + l.len ≡ run.start → AnyHas (set (take i runs) (i - 1) (record { start = l.start; len = l.len + run.len }) ++ drop i runs) n ↔ (AnyHas (take i runs) n ⊎ (HasBlock run n ⊎ AnyHas (drop i runs) n))) is_last
      (λ e. merged_has run (drop i runs) some fits n (take i runs) (i - 1) last at_last e) ends)

-- a run of its own behind the first i
module _ (runs now : List Span) (i : ℕ) (run : Span) (is : now ≡ take i runs ++ with_run run (drop i runs)) where
  pub put_rising : i ≤ length runs → run.start + run.len ≤ 2 ^ 32 - 1 → AreRising 0 (take i runs) → EndBy (take i runs) run.start → AreRising (run.start + run.len + 1) (drop i runs)
      → (0 < i → (get_or runs (i - 1) no_run).start + (get_or runs (i - 1) no_run).len ≡ run.start → ⊥) → AreRising 0 now
  put_rising le fits front by rest apart = subst (AreRising 0) (sym is)
      (rising_append 0 run.start (take i runs) (with_run run (drop i runs)) (omega arith) front (ends_apart 0 run.start (take i runs) front by last) (rising_with_run run (drop i runs) run.start (omega arith) fits rest))
    where
      last : (k : ℕ) (d : Span) → suc k ≡ length (take i runs) → (get_or (take i runs) k d).start + (get_or (take i runs) k d).len ≡ run.start → ⊥
      last k d at e =
          let size = length-front runs i le in
          let place : k ≡ i - 1 = omega (arith, size, at) in
          let same : get_or (take i runs) k d ≡ get_or runs (i - 1) no_run = get_or-take i runs k d (omega (arith, size, at)) ∙ get_or_default runs k d no_run (omega (arith, size, at, le)) ∙ ap (λ j. get_or runs j no_run) place in
          apart (omega (arith, size, at)) (sym (ap (λ (s : Span). s.start + s.len) same) ∙ e)

  pub put_has : (n : ℕ) → AnyHas now n ↔ (AnyHas (take i runs) n ⊎ (HasBlock run n ⊎ AnyHas (drop i runs) n))
  put_has n = subst (λ (l : List Span). AnyHas l n ↔ (AnyHas (take i runs) n ⊎ (HasBlock run n ⊎ AnyHas (drop i runs) n))) (sym is) (
    λ a. ⊎_elim (λ x. inl x) (λ r. inr ((any_with_run run (drop i runs) n).0 r)) ((any_append (take i runs) (with_run run (drop i runs)) n).0 a),
    λ a. (any_append (take i runs) (with_run run (drop i runs)) n).1 (⊎_elim (λ x. inl x) (λ r. inr ((any_with_run run (drop i runs) n).1 r)) a),
  )

-- a list whose first i are those of another
pub front_length : (xs : List Span) (i : ℕ) → length (take i xs) ≡ i → i ≤ length xs
front_length xs zero e = omega arith
front_length [] (suc i) e = absurd (omega (arith, e))
front_length (x ∷ xs) (suc i) e = omega (arith, front_length xs i (omega (arith, e)))

-- a run whose blocks the runs lack, at its place among them
module _ (runs : List Span) (i : ℕ) (run : Span) (rising : AreRising 0 runs) (place : IsRunPlace runs run.start i) (some : 1 ≤ run.len) (apart : (n : ℕ) → HasBlock run n → AnyHas runs n → ⊥) where
  pub place_front : AreRising 0 (take i runs)
  place_front = rising_front 0 (take i runs) (drop i runs) (subst (AreRising 0) (sym (take-append-drop i runs)) rising)

  pub place_rest : AreRising (run.start + run.len) (drop i runs)
  place_rest = next_behind 0 run (drop i runs) (rising_rest 0 (take i runs) (drop i runs) (subst (AreRising 0) (sym (take-append-drop i runs)) rising)) some here
      (λ n h a. apart n h (subst (λ (l : List Span). AnyHas l n) (take-append-drop i runs) ((any_append (take i runs) (drop i runs) n).1 (inr a))))
    where
      here : (d : Span) → 0 < length (drop i runs) → run.start < (get_or (drop i runs) 0 d).start + (get_or (drop i runs) 0 d).len
      here d lt =
          let inside : i < length runs = omega (arith, lt, length-drop i runs) in
          let next : i + 0 ≡ i = omega arith in
          subst (λ (r : Span). run.start < r.start + r.len) (get_or_default runs i no_run d inside ∙ ap (λ k. get_or runs k d) (sym next) ∙ sym (get_or-drop i runs 0 d)) (place.here inside)
