-- The blocks that are granted, and those that are free, lie on the device.
use Rattle.std.proofs.Common.{◌≡◌, ⊎_elim, ℕ, zero, suc, ◌<◌, ◌≤◌, ◌-◌, Bool, true, false, cond, List, [], ◌∷◌, ◌++◌, length, take, drop, set, get_or, sym, subst, arith, All, Contains}
use Rattle.std.specs.Prelude.{Option, Some, None, Ok, nat_eq}
use Rattle.std.specs.Map.{lookup}
use Rattle.std.proofs.lemmas.List.{get_or_default}
use Rattle.std.proofs.lemmas.List.Elements.{All-append, All-drop, All-get_or, All-set, All-take, Contains-get_or}
use Rattle.std.proofs.lemmas.List.FromFn.{length-range_with_len, get_or-range_with_len}
use Rattle.ark_extents.specs.Free.{free_at_first, Gains}
use Rattle.ark_extents.proofs.Holding.{contains_range}
use Rattle.ark_table.specs.Standing.{Table}
use Rattle.ark_held.specs.Inside.{AreasInside}
use Rattle.ark_held.specs.Words.{AreaList, added_to, with_area, without_area, with_spans, grant_at}
use Rattle.ark_held.specs.declared.app.App.{App}
use Rattle.ark_held.specs.declared.areas.Area.{Area}
use Rattle.ark_own.proofs.OfGrants.{below_grant}
use Rattle.ark_plane.specs.Loading.{IsUnused}
use Rattle.ark_plane.specs.Shared.{IsShared}
use Rattle.ark_host.specs.Inside.{IsInside}
use Rattle.ark_host.specs.declared.host.Host.{Host}
use Rattle.ark_plane.proofs.Tests.{by_test}

module _ (size : ℕ) where
  abbrev Below : List ℕ → Type 0
  Below blocks = All (λ n. n < size) blocks

  abbrev AppsInside : List App → Type 0
  AppsInside apps = All (λ app. AreasInside size app.areas) apps

  fresh_below : Below (free_at_first size)
  fresh_below k d lt =
      let len = length-range_with_len 129 (size - 129) in
      let near : k < size - 129 = omega (arith, len, lt) in
      let at = get_or-range_with_len 129 (size - 129) k d near in
      omega (arith, at, near)

  below_of : (blocks : List ℕ) (n : ℕ) → Below blocks → Contains blocks n → n < size
  below_of blocks n all has = let at = all has.0 n has.1 in subst (λ m. m < size) has.2 at

  fewer_inside : (areas : AreaList) (g : ℕ) → AreasInside size areas → AreasInside size (without_area areas g)
  fewer_inside [] g inside = inside
  fewer_inside (x ∷ xs) g inside = by (nat_eq x.0 g) (fewer_inside xs g (λ k d lt. inside (suc k) d (omega (arith, lt))))
    where
      by : (b : Bool) → AreasInside size (without_area xs g) → AreasInside size (cond b xs (x ∷ without_area xs g))
      by true rest = λ k d lt. inside (suc k) d (omega (arith, lt))
      by false rest = first rest
        where
          first : AreasInside size (without_area xs g) → AreasInside size (x ∷ without_area xs g)
          first rest zero d lt = inside 0 x (omega arith)
          first rest (suc k) d lt = rest k d (omega (arith, lt))

  -- of a fresh host
  pub fresh_inside : (apps : List App) (free : List ℕ) → 130 ≤ size → size ≤ 1048576 → apps ≡ [] → free ≡ free_at_first size → (table : Table) (failed : Bool) → IsShared size table free failed → (130 ≤ size) × (size ≤ 1048576) × AppsInside apps × Below free × IsShared size table free failed
  fresh_inside apps free low high none all table failed shared = (
    low,
    high,
    subst (λ (xs : List App). AppsInside xs) (sym none) (λ k d lt. absurd (omega (arith, lt))),
    subst (λ (xs : List ℕ). Below xs) (sym all) fresh_below,
    shared,
  )

  one_inside : (g : ℕ) (area : Area) → Below area.spans → AreasInside size ((g, area) ∷ [])
  one_inside g area below zero d lt = below
  one_inside g area below (suc k) d lt = absurd (omega (arith, lt))

  pub with_inside : (areas : AreaList) (g : ℕ) (area : Area) (o : Option Area) → AreasInside size areas → Below area.spans → AreasInside size (added_to areas g area o)
  with_inside areas g area None inside below = All-append (λ x. All (λ n. n < size) x.1.spans) areas ((g, area) ∷ []) inside (one_inside g area below)
  with_inside areas g area (Some old) inside below = inside

  -- of one more application
  pub app_inside : (apps now : List App) (app : App) → now ≡ apps ++ app ∷ [] → AppsInside apps → AreasInside size app.areas → AppsInside now
  app_inside apps now app is inside its = subst (λ (xs : List App). AppsInside xs) (sym is) (All-append (λ x. AreasInside size x.areas) apps (app ∷ []) inside one)
    where
      one : AppsInside (app ∷ [])
      one zero d lt = its
      one (suc k) d lt = absurd (omega (arith, lt))

  -- of a host that granted the first of its free blocks
  pub granted_inside : (host : Host) (place : ℕ) (app app1 : App) (g blocks : ℕ) (area : Area) (rest : List ℕ) → place < length host.apps.items → get_or host.apps.items place app ≡ app → app1.areas ≡ with_area app.areas g area
      → area.spans ≡ take blocks host.plane.free → rest ≡ drop blocks host.plane.free → IsInside size host → (table : Table) (failed : Bool) → IsShared size table rest failed
      → (130 ≤ size) × (size ≤ 1048576) × AppsInside (set host.apps.items place app1) × Below rest × IsShared size table rest failed
  granted_inside host place app app1 g blocks area rest lt at areas taken left inside table failed shared =
      let old : AreasInside size app.areas = subst (λ (x : App). AreasInside size x.areas) at
      (All-get_or (λ x. AreasInside size x.areas) host.apps.items place app lt inside.2) in
      let new : AreasInside size app1.areas = subst (λ (x : AreaList). AreasInside size x) (sym areas)
      (with_inside app.areas g area (lookup (nat_eq g) app.areas) old (subst (λ (xs : List ℕ). Below xs) (sym taken) (All-take (λ n. n < size) blocks host.plane.free inside.3))) in (
        inside.0,
        inside.1,
        All-set (λ x. AreasInside size x.areas) host.apps.items place app1 new inside.2,
        subst (λ (xs : List ℕ). Below xs) (sym left) (All-drop (λ n. n < size) blocks host.plane.free inside.3),
        shared,
      )

  -- of a host that took its free blocks in vain
  pub taken_inside : (host : Host) (blocks : ℕ) (rest : List ℕ) → rest ≡ drop blocks host.plane.free → IsInside size host → (table : Table) (failed : Bool) → IsShared size table rest failed
      → (130 ≤ size) × (size ≤ 1048576) × AppsInside host.apps.items × Below rest × IsShared size table rest failed
  taken_inside host blocks rest left inside table failed shared = (
    inside.0,
    inside.1,
    inside.2,
    subst (λ (xs : List ℕ). Below xs) (sym left) (All-drop (λ n. n < size) blocks host.plane.free inside.3),
    shared,
  )

  -- of a host that gave an area up
  pub gone_inside : (host : Host) (place : ℕ) (app app1 : App) (g : ℕ) (free : List ℕ) (table : Table) (failed : Bool) → place < length host.apps.items → get_or host.apps.items place app ≡ app → app1.areas ≡ without_area app.areas g
      → Below free → IsShared size table free failed → IsInside size host → (130 ≤ size) × (size ≤ 1048576) × AppsInside (set host.apps.items place app1) × Below free × IsShared size table free failed
  gone_inside host place app app1 g free table failed lt at areas below shared inside =
      let old : AreasInside size app.areas = subst (λ (x : App). AreasInside size x.areas) at
      (All-get_or (λ x. AreasInside size x.areas) host.apps.items place app lt inside.2) in
      let new : AreasInside size app1.areas = subst (λ (x : AreaList). AreasInside size x) (sym areas) (fewer_inside app.areas g old) in
      (inside.0, inside.1, All-set (λ x. AreasInside size x.areas) host.apps.items place app1 new inside.2, below, shared)

  -- the blocks that are given back lie there
  pub given_below : (old new spans : List ℕ) → Below old → Below spans → Gains old new spans → Below new
  given_below old new spans first more gains k d lt =
      let n = get_or new k d in
      ⊎_elim (λ was. below_of old n first was) (λ its. below_of spans n more its) ((gains n).0 (Contains-get_or new k d lt))

  -- of a host whose area got the first of its free blocks
  spans_inside : (areas : AreaList) (g : ℕ) (spans : List ℕ) → AreasInside size areas → Below spans → AreasInside size (with_spans areas g spans)
  spans_inside [] g spans inside below = inside
  spans_inside (x ∷ xs) g spans inside below = by_test (nat_eq g x.0) (λ b. AreasInside size (cond b ((x.0, record x.1 { spans = spans }) ∷ xs) (x ∷ with_spans xs g spans)))
      (λ yes. cons_inside (x.0, record x.1 { spans = spans }) xs below (rest_inside x xs inside))
      (λ no. cons_inside x (with_spans xs g spans) (inside 0 x (omega arith)) (spans_inside xs g spans (rest_inside x xs inside) below))
    where
      cons_inside : (y : ℕ × Area) (ys : AreaList) → Below y.1.spans → AreasInside size ys → AreasInside size (y ∷ ys)
      cons_inside y ys first rest zero d lt = first
      cons_inside y ys first rest (suc k) d lt = rest k d (omega (arith, lt))

      rest_inside : (y : ℕ × Area) (ys : AreaList) → AreasInside size (y ∷ ys) → AreasInside size ys
      rest_inside y ys all k d lt = all (suc k) d (omega (arith, lt))

  pub grown_inside : (host : Host) (place : ℕ) (app app1 : App) (g blocks : ℕ) (spans rest : List ℕ) → place < length host.apps.items → get_or host.apps.items place app ≡ app → app1.areas ≡ with_spans app.areas g spans
      → Below spans → rest ≡ drop blocks host.plane.free → (now : Table) (failed : Bool) → IsShared size now rest failed → IsInside size host
      → (130 ≤ size) × (size ≤ 1048576) × AppsInside (set host.apps.items place app1) × Below rest × IsShared size now rest failed
  grown_inside host place app app1 g blocks spans rest lt at areas below left now failed shared inside =
      let old : AreasInside size app.areas = subst (λ (x : App). AreasInside size x.areas) at
      (All-get_or (λ x. AreasInside size x.areas) host.apps.items place app lt inside.2) in
      let new : AreasInside size app1.areas = subst (λ (x : AreaList). AreasInside size x) (sym areas) (spans_inside app.areas g spans old below) in (
        inside.0,
        inside.1,
        All-set (λ x. AreasInside size x.areas) host.apps.items place app1 new inside.2,
        subst (λ (xs : List ℕ). Below xs) (sym left) (All-drop (λ n. n < size) blocks host.plane.free inside.3),
        shared,
      )

  pub grant_inside : (host : Host) (place : ℕ) (app : App) (l : List ℕ) (g blocks : ℕ) (a : Area) (spans more : List ℕ) → place < length host.apps.items → get_or host.apps.items place app ≡ app
      → grant_at app.labels app.areas l ≡ Ok (g, a) → spans ≡ a.spans ++ more → more ≡ take blocks host.plane.free → IsInside size host → Below spans
  grant_inside host place app l g blocks a spans more lt at found joined is inside =
      let areas : AreasInside size app.areas = subst (λ (x : App). AreasInside size x.areas) at (All-get_or (λ x. AreasInside size x.areas) host.apps.items place app lt inside.2) in
      subst (λ (xs : List ℕ). Below xs) (sym joined)
      (All-append (λ n. n < size) a.spans more (below_grant size app.labels app.areas l (g, a) areas found) (subst (λ (xs : List ℕ). Below xs) (sym is) (All-take (λ n. n < size) blocks host.plane.free inside.3)))

-- Of a host that was loaded, all that is granted and free lies on the device.
pub loaded_inside : (size : ℕ) (apps : List App) (free : List ℕ) (table : Table) (failed : Bool) → 130 ≤ size → size ≤ 1048576 → apps ≡ [] → IsUnused size table free → IsShared size table free failed
    → (130 ≤ size) × (size ≤ 1048576) × All (λ app. AreasInside size app.areas) apps × All (λ n. n < size) free × IsShared size table free failed
loaded_inside size apps free table failed low high none is inside = (
  low,
  high,
  subst (λ (xs : List App). All (λ app. AreasInside size app.areas) xs) (sym none) (λ k d lt. absurd (omega (arith, lt))),
  λ k d lt. (let r = contains_range 129 (size - 129) (get_or free k d) ((is (get_or free k d)).0 (k, lt, get_or_default free k (get_or free k d) d lt)).0 in omega (arith, r, low)),
  inside,
)
