-- Areas of which each goes with those before it go together in pairs, and the other way round.
use Rattle.std.proofs.Common.{◌≡◌, ℕ, zero, suc, ◌+◌, ◌<◌, ◌≤◌, List, [], ◌∷◌, ◌++◌, Bool, true, false, ◌&&◌, get_or, Option, Some, None, refl, sym, ap, subst, arith, cond}
use Rattle.std.specs.Prelude.{count_by, bytes_eq, is_some, nat_le, unwrap_or}
use Rattle.std.specs.List.{list_all}
use Rattle.std.proofs.lemmas.Bool.{and_parts, leb-true, le-leb, false≢true}
use Rattle.std.proofs.lemmas.List.Sums.{sum_by-cons, sum_by_push}
use Rattle.std.proofs.lemmas.Slice.Eq.{bytes_eq-Decides}
use Rattle.ark_table.specs.Area.{Area, is_area}
use Rattle.ark_table.specs.Slots.{HeldSlot, goes_with, areas_with}
use Rattle.ark_table.specs.Table.{Together, is_of}
use Rattle.ark_table.proofs.Gathering.{goes, together_from, goes_from}
use Rattle.ark_table.proofs.Walking.{GoIn}

abbrev AllGo : Area → List HeldSlot → Type 0
AllGo a [] = Unit {0}
AllGo a (h ∷ hs) = Together a h.area × AllGo a hs

all_from : (a : Area) (hs : List HeldSlot) → list_all (λ h. goes a h.area) hs ≡ true → AllGo a hs
all_from a [] h = tt
all_from a (x ∷ hs) h = let p = and_parts (goes a x.area) (list_all (λ h. goes a h.area) hs) h in (together_from a x.area p.0, all_from a hs p.1)

push_parts : (a : Area) (hs : List HeldSlot) (x : HeldSlot) → AllGo a (hs ++ x ∷ []) → AllGo a hs × Together a x.area
push_parts a [] x go = (tt, go.0)
push_parts a (h ∷ hs) x go = let r = push_parts a hs x go.1 in ((go.0, r.0), r.1)

push_both : (a : Area) (hs : List HeldSlot) (x : HeldSlot) → AllGo a hs → Together a x.area → AllGo a (hs ++ x ∷ [])
push_both a [] x go one = (one, tt)
push_both a (h ∷ hs) x go one = (go.0, push_both a hs x go.1 one)

-- the two parts of the test
all_part : (before : List HeldSlot) (a : Area) → goes_with before a ≡ true → list_all (λ h. goes a h.area) before ≡ true
all_part before a h = (and_parts (list_all (λ h. goes a h.area) before) (nat_le (areas_with a.app before + 1) 8) h).0

count_part : (before : List HeldSlot) (a : Area) → goes_with before a ≡ true → areas_with a.app before + 1 ≤ 8
count_part before a h = leb-true (areas_with a.app before + 1) 8 (and_parts (list_all (λ h. goes a h.area) before) (nat_le (areas_with a.app before + 1) 8) h).1

none_at : {P : Type 0} (k : ℕ) (a : Area) → get_or {A = Option Area} [] k None ≡ Some a → P
none_at k a is = absurd (false≢true (ap is_some is))

go_before : (t : List (Option Area)) (before : List HeldSlot) (i : ℕ) → GoIn before i t → (k : ℕ) (a : Area) → get_or t k None ≡ Some a → AllGo a before
go_before [] before i go k a is = none_at k a is
go_before (None ∷ t) before i go zero a is = absurd (false≢true (ap is_some is))
go_before (None ∷ t) before i go (suc k) a is = go_before t before (i + 1) go k a is
go_before (Some c ∷ t) before i go zero a is = subst (λ (x : Area). AllGo x before) (ap (λ (o : Option Area). unwrap_or o a) is) (all_from c before (all_part before c go.0))
go_before (Some c ∷ t) before i go (suc k) a is = (push_parts a before (record { index = i; area = c }) (go_before t (before ++ record { index = i; area = c } ∷ []) (i + 1) go.1 k a is)).0

-- a later one goes with an earlier one
pub go_pairs : (t : List (Option Area)) (before : List HeldSlot) (i : ℕ) → GoIn before i t → (k l : ℕ) (a b : Area) → k < l → get_or t k None ≡ Some a → get_or t l None ≡ Some b → Together b a
go_pairs [] before i go k l a b lt is_a is_b = none_at k a is_a
go_pairs (x ∷ t) before i go k zero a b lt is_a is_b = absurd (omega arith)
go_pairs (None ∷ t) before i go zero (suc l) a b lt is_a is_b = absurd (false≢true (ap is_some is_a))
go_pairs (None ∷ t) before i go (suc k) (suc l) a b lt is_a is_b = go_pairs t before (i + 1) go k l a b (omega arith) is_a is_b
go_pairs (Some c ∷ t) before i go zero (suc l) a b lt is_a is_b =
    subst (λ (x : Area). Together b x) (ap (λ (o : Option Area). unwrap_or o a) is_a)
    (push_parts b before (record { index = i; area = c }) (go_before t (before ++ record { index = i; area = c } ∷ []) (i + 1) go.1 l b is_b)).1
go_pairs (Some c ∷ t) before i go (suc k) (suc l) a b lt is_a is_b = go_pairs t (before ++ record { index = i; area = c } ∷ []) (i + 1) go.1 k l a b (omega arith) is_a is_b

abbrev one : Bool → ℕ
one b = cond b 1 0

count_cons : (app : List ℕ) (x : Option Area) (t : List (Option Area)) → count_by (is_of app) (x ∷ t) ≡ one (is_of app x) + count_by (is_of app) t
count_cons app x t = sum_by-cons (λ o. one (is_of app o)) x t

count_push : (app : List ℕ) (before : List HeldSlot) (x : HeldSlot) → areas_with app (before ++ x ∷ []) ≡ areas_with app before + one (bytes_eq app x.area.app)
count_push app before x = sum_by_push (λ (h : HeldSlot). one (bytes_eq app h.area.app)) before x

at_most : (app : List ℕ) (before : List HeldSlot) (a : Area) → goes_with before a ≡ true → areas_with app before ≤ 8 → areas_with app before + one (bytes_eq app a.app) ≤ 8
at_most app before a go le = by (bytes_eq app a.app) refl
  where
    by : (b : Bool) → bytes_eq app a.app ≡ b → areas_with app before + one b ≤ 8
    by false is = omega (arith, le)
    by true is = subst (λ (x : List ℕ). areas_with x before + 1 ≤ 8) (sym ((bytes_eq-Decides app a.app).0 is)) (count_part before a go)

-- no application has more than eight
pub go_few : (app : List ℕ) (t : List (Option Area)) (before : List HeldSlot) (i : ℕ) → GoIn before i t → areas_with app before ≤ 8 → areas_with app before + count_by (is_of app) t ≤ 8
go_few app [] before i go le = omega (arith, le)
go_few app (None ∷ t) before i go le = omega (arith, count_cons app None t, go_few app t before (i + 1) go le)
go_few app (Some a ∷ t) before i go le =
    let x : HeldSlot = record { index = i; area = a } in
    let next : areas_with app (before ++ x ∷ []) ≤ 8 = omega (arith, count_push app before x, at_most app before a go.0 le) in
    omega (arith, count_cons app (Some a) t, count_push app before x, go_few app t (before ++ x ∷ []) (i + 1) go.1 next)

-- The other way round, for areas that keep the rules by themselves.
module _ (size : ℕ) where
  abbrev pub AllKept : List HeldSlot → Type 0
  AllKept [] = Unit {0}
  AllKept (h ∷ hs) = (is_area size h.area ≡ true) × AllKept hs

  kept_push : (hs : List HeldSlot) (x : HeldSlot) → AllKept hs → is_area size x.area ≡ true → AllKept (hs ++ x ∷ [])
  kept_push [] x kept one_kept = (one_kept, tt)
  kept_push (h ∷ hs) x kept one_kept = (kept.0, kept_push hs x kept.1 one_kept)

  all_to : (a : Area) (hs : List HeldSlot) → is_area size a ≡ true → AllKept hs → AllGo a hs → list_all (λ h. goes a h.area) hs ≡ true
  all_to a [] kept_a kept go = refl
  all_to a (h ∷ hs) kept_a kept go = λ i. goes_from size a h.area kept_a kept.0 go.0 i && all_to a hs kept_a kept.1 go.1 i

  -- what is asked of a table, and of it with areas before it
  pub record Joins (before : List HeldSlot) (t : List (Option Area)) : Type 0 where
    pub kept : (k : ℕ) (a : Area) → get_or t k None ≡ Some a → (is_area size a ≡ true) × AllGo a before
    pub pairs : (k l : ℕ) (a b : Area) → k < l → get_or t k None ≡ Some a → get_or t l None ≡ Some b → Together b a
    pub few : (app : List ℕ) → areas_with app before + count_by (is_of app) t ≤ 8

  pub joins_go : (t : List (Option Area)) (before : List HeldSlot) (i : ℕ) → AllKept before → Joins before t → GoIn before i t
  joins_go [] before i kept joins = tt
  joins_go (None ∷ t) before i kept joins = joins_go t before (i + 1) kept (record {
    kept = λ k. joins.kept (suc k);
    pairs = λ k l a b lt. joins.pairs (suc k) (suc l) a b (omega (arith, lt));
    few = λ app. omega (arith, count_cons app None t, joins.few app);
  })
  joins_go (Some a ∷ t) before i kept joins =
      let x : HeldSlot = record { index = i; area = a } in
      let here = joins.kept 0 a refl in
      let own : one (bytes_eq a.app a.app) ≡ 1 = ap one ((bytes_eq-Decides a.app a.app).1 refl) in
      let count : areas_with a.app before + 1 ≤ 8 = omega (arith, count_cons a.app (Some a) t, own, joins.few a.app) in (
        (λ j. all_to a before here.0 kept here.1 j && le-leb (areas_with a.app before + 1) 8 count j),
        joins_go t (before ++ x ∷ []) (i + 1) (kept_push before x kept here.0) (record {
          kept = λ k b is. let there = joins.kept (suc k) b is in (there.0, push_both b before x there.1 (joins.pairs 0 (suc k) a b (omega arith) refl is));
          pairs = λ k l c d lt. joins.pairs (suc k) (suc l) c d (omega (arith, lt));
          few = λ app. omega (arith, count_cons app (Some a) t, count_push app before x, joins.few app);
        }),
      )
