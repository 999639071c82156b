-- Lists that meet have a peer or a service in common, and lists that have one meet.
use Rattle.std.proofs.Common.{◌≡◌, ℕ, ◌<◌, ◌≤◌, ◌⊎◌, List, length, take, get_or, max, Bool, true, false, ◌||◌, nat_eq, bytes_eq, refl, ap, ◌∙◌, subst, inl, inr, arith, length-take}
use Rattle.std.specs.List.{list_any, Any, All}
use Rattle.std.proofs.lemmas.Bool.{cases_Bool, or_left, or_right, eqb-false}
use Rattle.std.proofs.lemmas.Bool.Decides.{nat_tests}
use Rattle.std.proofs.lemmas.List.Elements.{All-get_or}
use Rattle.std.proofs.lemmas.List.Folds.{Any-from_list_any, list_any-from_Any, list_any_at}
use Rattle.std.proofs.lemmas.Slice.Eq.{bytes_eq-Decides}
use Rattle.ark_base.proofs.Basics.{bytes_eq-same}
use Rattle.ark_filters.specs.declared.filter.Peers.{Peers}
use Rattle.ark_filters.specs.declared.filter.Services.{Services}
use Rattle.ark_filters.specs.Filter.{is_peer, is_between, is_service}
use Rattle.ark_filters.specs.Overlap.{peers_meet, ranges_meet, range_meets, services_meet}

-- what passes one test passes another
passes : {A : Type 0} (p q : A → Bool) (xs : List A) → ((x : A) → p x ≡ true → q x ≡ true) → list_any p xs ≡ true → list_any q xs ≡ true
passes p q xs f h =
    let found : Any (λ x. p x ≡ true) xs = Any-from_list_any p xs h in
    list_any-from_Any q xs (found.0, found.1, found.2, found.3, f found.1 found.4)

or_more : (x y z : Bool) → (y ≡ true → z ≡ true) → (x || y) ≡ true → (x || z) ≡ true
or_more true y z f h = refl
or_more false y z f h = f h

-- of two of which the first is not
or_rest : (x y : Bool) → x ≡ false → (x || y) ≡ true → y ≡ true
or_rest x y e h = rw e at h

-- one peer in both
pub peers_share : (a b : Peers) (peer : List ℕ) → is_peer a peer ≡ true → is_peer b peer ≡ true → peers_meet a b ≡ true
peers_share a b peer ha hb =
    or_more (nat_eq a.count 0) (list_any (λ item. bytes_eq item peer) (take a.count a.items)) (list_any (λ item. is_peer b item) (take a.count a.items))
    (passes (λ item. bytes_eq item peer) (λ item. is_peer b item) (take a.count a.items)
    (λ item h. ap (is_peer b) ((bytes_eq-Decides item peer).0 h) ∙ hb)) ha

between_both : (s r : ℕ × ℕ) (n : ℕ) → is_between s n ≡ true → is_between r n ≡ true → ranges_meet s r ≡ true
between_both s r n hs hr = grind (arith, nat_tests)

-- one service in both
pub services_share : (a b : Services) (n : ℕ) → is_service a n ≡ true → is_service b n ≡ true → services_meet a b ≡ true
services_share a b n ha hb =
    or_more (nat_eq a.count 0) (list_any (λ r. is_between r n) (take a.count a.items)) (list_any (λ r. range_meets b r) (take a.count a.items))
    (passes (λ r. is_between r n) (λ r. range_meets b r) (take a.count a.items)
    (λ r hr. or_more (nat_eq b.count 0) (list_any (λ s. is_between s n) (take b.count b.items)) (list_any (λ s. ranges_meet s r) (take b.count b.items))
    (passes (λ s. is_between s n) (λ s. ranges_meet s r) (take b.count b.items) (λ s hs. between_both s r n hs hr)) hb)) ha

-- there is a first one
there : {A : Type 0} (n : ℕ) (xs : List A) → nat_eq n 0 ≡ false → length xs ≡ 8 → 0 < length (take n xs)
there {A} n xs h l =
    let some : n ≡ 0 → ⊥ = eqb-false n 0 h in
    omega (arith, length-take n xs)

-- a peer of a list that has one
first_peer : (P : List ℕ → Type 0) (z : List ℕ) (a : Peers) → nat_eq a.count 0 ≡ false → length a.items ≡ 8 → All P (take a.count a.items)
    → (peer : List ℕ) × P peer × (is_peer a peer ≡ true)
first_peer P z a h eight each =
    let lt : 0 < length (take a.count a.items) = there a.count a.items h eight in
    let peer : List ℕ = get_or (take a.count a.items) 0 z in
    (peer, All-get_or P (take a.count a.items) 0 z lt each, or_right (nat_eq a.count 0) (list_any (λ item. bytes_eq item peer) (take a.count a.items)) (list_any_at (λ item. bytes_eq item peer) (take a.count a.items) 0 z lt (bytes_eq-same peer)))

-- a list of peers lets one through
pub some_peer : (P : List ℕ → Type 0) (z : List ℕ) (a : Peers) → P z → length a.items ≡ 8 → All P (take a.count a.items)
    → (peer : List ℕ) × P peer × (is_peer a peer ≡ true)
some_peer P z a hz eight each = by (cases_Bool (nat_eq a.count 0))
  where
    by : (nat_eq a.count 0 ≡ true) ⊎ (nat_eq a.count 0 ≡ false) → (peer : List ℕ) × P peer × (is_peer a peer ≡ true)
    by (inl h) = (z, hz, or_left (nat_eq a.count 0) (list_any (λ item. bytes_eq item z) (take a.count a.items)) h)
    by (inr h) = first_peer P z a h eight each

-- a peer that both let through
pub common_peer : (P : List ℕ → Type 0) (z : List ℕ) (a b : Peers) → P z → length a.items ≡ 8 → length b.items ≡ 8 → All P (take a.count a.items)
    → All P (take b.count b.items) → peers_meet a b ≡ true → (peer : List ℕ) × P peer × (is_peer a peer ≡ true) × (is_peer b peer ≡ true)
common_peer P z a b hz ea eb pa pb met = by (cases_Bool (nat_eq a.count 0))
  where
    by : (nat_eq a.count 0 ≡ true) ⊎ (nat_eq a.count 0 ≡ false) → (peer : List ℕ) × P peer × (is_peer a peer ≡ true) × (is_peer b peer ≡ true)
    by (inl h) =
        let s = some_peer P z b hz eb pb in
        (s.0, s.1, or_left (nat_eq a.count 0) (list_any (λ item. bytes_eq item s.0) (take a.count a.items)) h, s.2)
    by (inr h) =
        let found : Any (λ item. is_peer b item ≡ true) (take a.count a.items) =
        Any-from_list_any (λ item. is_peer b item) (take a.count a.items) (or_rest (nat_eq a.count 0) (list_any (λ item. is_peer b item) (take a.count a.items)) h met) in (
          found.1,
          subst P found.3 (All-get_or P (take a.count a.items) found.0 found.1 found.2 pa),
          or_right (nat_eq a.count 0) (list_any (λ item. bytes_eq item found.1) (take a.count a.items)) (list_any-from_Any (λ item. bytes_eq item found.1) (take a.count a.items) (found.0, found.1, found.2, found.3, bytes_eq-same found.1)),
          found.4,
        )

-- from its first number to its last, which is one of the services
pub record IsRange (last : ℕ) (range : ℕ × ℕ) : Type 0 where
  pub rising : range.0 ≤ range.1
  pub most : range.1 ≤ last

-- a service of a list that has one
first_service : (last : ℕ) (a : Services) → nat_eq a.count 0 ≡ false → length a.items ≡ 8 → All (IsRange last) (take a.count a.items)
    → (n : ℕ) × (n ≤ last) × (is_service a n ≡ true)
first_service last a h eight each =
    let lt : 0 < length (take a.count a.items) = there a.count a.items h eight in
    let r : ℕ × ℕ = get_or (take a.count a.items) 0 (0, 0) in
    let is : IsRange last r = All-get_or (IsRange last) (take a.count a.items) 0 (0, 0) lt each in
    (r.0, omega (arith, is.rising, is.most), or_right (nat_eq a.count 0) (list_any (λ s. is_between s r.0) (take a.count a.items)) (list_any_at (λ s. is_between s r.0) (take a.count a.items) 0 (0, 0) lt (begins last r is)))
  where
    begins : (last : ℕ) (r : ℕ × ℕ) → IsRange last r → is_between r r.0 ≡ true
    begins last r is = grind (arith, nat_tests)

-- a list of services lets one through
pub some_service : (last : ℕ) (a : Services) → length a.items ≡ 8 → All (IsRange last) (take a.count a.items)
    → (n : ℕ) × (n ≤ last) × (is_service a n ≡ true)
some_service last a eight each = by (cases_Bool (nat_eq a.count 0))
  where
    by : (nat_eq a.count 0 ≡ true) ⊎ (nat_eq a.count 0 ≡ false) → (n : ℕ) × (n ≤ last) × (is_service a n ≡ true)
    by (inl h) = (0, omega arith, or_left (nat_eq a.count 0) (list_any (λ s. is_between s 0) (take a.count a.items)) h)
    by (inr h) = first_service last a h eight each

-- a service of the range
in_range : (last : ℕ) (b : Services) (r : ℕ × ℕ) → IsRange last r → length b.items ≡ 8 → All (IsRange last) (take b.count b.items) → range_meets b r ≡ true
    → (n : ℕ) × (n ≤ last) × (is_between r n ≡ true) × (is_service b n ≡ true)
in_range last b r is eight each met = by (cases_Bool (nat_eq b.count 0))
  where
    first : (last : ℕ) (r : ℕ × ℕ) → IsRange last r → is_between r r.0 ≡ true
    first last r is = grind (arith, nat_tests)

    here : (last : ℕ) (r s : ℕ × ℕ) → IsRange last r → IsRange last s → ranges_meet s r ≡ true → is_between r (max r.0 s.0) ≡ true
    here last r s hr hs h = grind (arith, nat_tests)

    too : (last : ℕ) (r s : ℕ × ℕ) → IsRange last r → IsRange last s → ranges_meet s r ≡ true → is_between s (max r.0 s.0) ≡ true
    too last r s hr hs h = grind (arith, nat_tests)

    by : (nat_eq b.count 0 ≡ true) ⊎ (nat_eq b.count 0 ≡ false) → (n : ℕ) × (n ≤ last) × (is_between r n ≡ true) × (is_service b n ≡ true)
    by (inl h) = (r.0, omega (arith, is.rising, is.most), first last r is, or_left (nat_eq b.count 0) (list_any (λ s. is_between s r.0) (take b.count b.items)) h)
    by (inr h) =
        let found : Any (λ s. ranges_meet s r ≡ true) (take b.count b.items) =
        Any-from_list_any (λ s. ranges_meet s r) (take b.count b.items) (or_rest (nat_eq b.count 0) (list_any (λ s. ranges_meet s r) (take b.count b.items)) h met) in
        let s : ℕ × ℕ = found.1 in
        let of : IsRange last s = subst (IsRange last) found.3 (All-get_or (IsRange last) (take b.count b.items) found.0 s found.2 each) in (
          max r.0 s.0,
          omega (arith, is.rising, is.most, of.rising, of.most),
          here last r s is of found.4,
          or_right (nat_eq b.count 0) (list_any (λ t. is_between t (max r.0 s.0)) (take b.count b.items)) (list_any-from_Any (λ t. is_between t (max r.0 s.0)) (take b.count b.items) (found.0, s, found.2, found.3, too last r s is of found.4)),
        )

-- a service that both let through
pub common_service : (last : ℕ) (a b : Services) → length a.items ≡ 8 → length b.items ≡ 8 → All (IsRange last) (take a.count a.items)
    → All (IsRange last) (take b.count b.items) → services_meet a b ≡ true → (n : ℕ) × (n ≤ last) × (is_service a n ≡ true) × (is_service b n ≡ true)
common_service last a b ea eb pa pb met = by (cases_Bool (nat_eq a.count 0))
  where
    by : (nat_eq a.count 0 ≡ true) ⊎ (nat_eq a.count 0 ≡ false) → (n : ℕ) × (n ≤ last) × (is_service a n ≡ true) × (is_service b n ≡ true)
    by (inl h) =
        let s = some_service last b eb pb in
        (s.0, s.1, or_left (nat_eq a.count 0) (list_any (λ r. is_between r s.0) (take a.count a.items)) h, s.2)
    by (inr h) =
        let found : Any (λ r. range_meets b r ≡ true) (take a.count a.items) =
        Any-from_list_any (λ r. range_meets b r) (take a.count a.items) (or_rest (nat_eq a.count 0) (list_any (λ r. range_meets b r) (take a.count a.items)) h met) in
        let r : ℕ × ℕ = found.1 in
        let s = in_range last b r (subst (IsRange last) found.3 (All-get_or (IsRange last) (take a.count a.items) found.0 r found.2 pa)) eb pb found.4 in (
          s.0,
          s.1,
          or_right (nat_eq a.count 0) (list_any (λ t. is_between t s.0) (take a.count a.items)) (list_any-from_Any (λ t. is_between t s.0) (take a.count a.items) (found.0, r, found.2, found.3, s.2)),
          s.3,
        )
