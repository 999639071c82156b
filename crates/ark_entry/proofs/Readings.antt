-- The list that is found is the one that stands in the ring.
use Rattle.std.proofs.Common.{◌≡◌, ⊎_elim, inl, inr, ℕ, zero, suc, ◌+◌, ◌-◌, ◌*◌, ◌%◌, ◌^◌, ◌<◌, ◌≤◌, List, [], ◌∷◌, ◌++◌, Bool, true, false, ◌&&◌, Option, Some, None, length, take, drop, refl, sym, ◌∙◌, ap, subst, arith, slice_range, if◌then◌else◌}
use Rattle.std.specs.Prelude.{bytes_eq, nat_le, nat_lt, ◌==◌, codes, is_some, unwrap_or}
use Rattle.std.specs.Int.{w32, w64, from_be_bytes}
use Rattle.std.proofs.Math.Nat.{mod-eq_of_lt, mod-add-mod, mod-mod}
use Rattle.std.proofs.lemmas.List.{length-take-le, length-drop}
use Rattle.std.proofs.lemmas.Bool.{and_parts, le-leb, leb-true, eq-eqb, eqb-true, ltb-true, ltb-false, false≢true}
use Rattle.ark_base.specs.declared.kind.Kind.{Kind}
use Rattle.ark_media.specs.Journal.{block}
use Rattle.ark_entry.specs.Header.{Header, header_of}
use Rattle.ark_entry.specs.Entry.{entry_blocks, marker, ring_bytes, AreWhole, length_in, is_head, is_marked, is_entry, payload_at, payload_if, entry_at}
use Rattle.ark_entry.specs.Found.{Entries, Found, found, damaged, taken, that_fits, counted, found_from, found_of}
use Rattle.ark_entry.specs.Reading.{reading, bytes_from, Entry, Finds, HasList, IsDamaged}
use Rattle.ark_base.proofs.Basics.{bytes_eq-same, same_bytes}
use Rattle.ark_entry.proofs.Headers.{read_was_written}
use Rattle.ark_entry.proofs.Entries.{blocks_hold, length-ring_bytes}

pub some_block : (len : ℕ) → 1 ≤ entry_blocks len
some_block len = let hold : 28 + len ≤ 512 * entry_blocks len = (blocks_hold len).0 in omega (arith, hold)

shifted : (p q k room : ℕ) → p % room ≡ q % room → (p + k) % room ≡ (q + k) % room
shifted p q k room same = sym (mod-add-mod p room k) ∙ ap (λ x. (x + k) % room) same ∙ mod-add-mod q room k

pub bytes_read : (ring : List (List ℕ)) (start p u n : ℕ) → p % length ring ≡ (start + u) % length ring → ring_bytes ring p n ≡ bytes_from (reading ring start) u n
bytes_read ring start p u zero same = refl
bytes_read ring start p u (suc n) same =
    let e : start + u + 1 ≡ start + (u + 1) = omega arith in
    let on : (p + 1) % length ring ≡ (start + (u + 1)) % length ring = shifted p (start + u) 1 (length ring) same ∙ ap (λ q. q % length ring) e in
    (λ i. block ring (same i) ++ bytes_read ring start (p + 1) (u + 1) n on i)

module _ (ring : List (List ℕ)) (start : ℕ) (whole : AreWhole ring) (some : 0 < length ring) where
  abbrev at : ℕ → ℕ
  at u = (start + u) % length ring

  -- the place behind an entry
  behind : (u k : ℕ) → (at u + k) % length ring ≡ (start + u + k) % length ring
  behind u k = mod-add-mod (start + u) (length ring) k

  pub last_place : (u len : ℕ) → (at u + entry_blocks len - 1) % length ring ≡ at (u + entry_blocks len - 1)
  last_place u len =
      let b : 1 ≤ entry_blocks len = some_block len in
      let e : at u + entry_blocks len - 1 ≡ at u + (entry_blocks len - 1) = omega (arith, b) in
      let f : start + u + (entry_blocks len - 1) ≡ start + (u + entry_blocks len - 1) = omega (arith, b) in
      ap (λ q. q % length ring) e ∙ behind u (entry_blocks len - 1) ∙ ap (λ q. q % length ring) f

  content_is : (u len : ℕ) → payload_at ring (at u) len ≡ slice_range (bytes_from (reading ring start) u (entry_blocks len)) 20 (20 + len)
  content_is u len = ap (λ t. slice_range t 20 (20 + len)) (bytes_read ring start (at u) u (entry_blocks len) (mod-mod (start + u) (length ring)))

  pub length-payload_at : (u len : ℕ) → length (payload_at ring (at u) len) ≡ len
  length-payload_at u len =
      let hold : 28 + len ≤ 512 * entry_blocks len = (blocks_hold len).0 in
      let all : length (ring_bytes ring (at u) (entry_blocks len)) ≡ 512 * entry_blocks len = length-ring_bytes ring (at u) (entry_blocks len) whole some in
      let rest : length (drop 20 (ring_bytes ring (at u) (entry_blocks len))) ≡ length (ring_bytes ring (at u) (entry_blocks len)) - 20 = length-drop 20 (ring_bytes ring (at u) (entry_blocks len)) in
      let n : 20 + len - 20 ≡ len = omega arith in
      length-take-le (20 + len - 20) (drop 20 (ring_bytes ring (at u) (entry_blocks len))) (omega (arith, hold, all, rest)) ∙ n

  -- an entry that is there stands there
  pub entry_stands : (u number : ℕ) (payload : List ℕ) → entry_at ring (at u) number ≡ Some payload → u + entry_blocks (length payload) ≤ length ring → Entry (length ring) start (reading ring start) u number payload
  entry_stands u number payload is fits = by (is_entry ring (at u) number) refl is
    where
      head : List ℕ
      head = block ring (at u)

      by : (b : Bool) → is_entry ring (at u) number ≡ b → payload_if b ring (at u) ≡ Some payload → Entry (length ring) start (reading ring start) u number payload
      by false is_not e = absurd (false≢true (ap is_some e))
      by true is_so e =
          let content : payload_at ring (at u) (length_in head) ≡ payload = ap (λ (o : Option (List ℕ)). unwrap_or o payload) e in
          let size : length_in head ≡ length payload = sym (length-payload_at u (length_in head)) ∙ ap (λ (t : List ℕ). length t) content in
          let two = and_parts (is_head (length ring) (at u) number head) _ is_so in
          let a = and_parts (bytes_eq (take 4 head) (codes "ENT1")) _ two.0 in
          let b = and_parts (nat_le (length_in head) 32768) _ a.1 in
          let c = and_parts (nat_le (entry_blocks (length_in head)) (length ring)) _ b.1 in
          let d = and_parts (from_be_bytes w64 (slice_range head 8 16) == number) _ c.1 in
          let f = and_parts (nat_le number (2 ^ 62)) _ d.1 in
          record {
            tag = same_bytes (take 4 head) (codes "ENT1") a.0;
            size = size;
            short = subst (λ (n : ℕ). n ≤ 32768) size (leb-true (length_in head) 32768 b.0);
            num = eqb-true (from_be_bytes w64 (slice_range head 8 16)) number d.0;
            low = leb-true number (2 ^ 62) f.0;
            next = eqb-true (from_be_bytes w32 (slice_range head 16 20)) ((at u + entry_blocks (length_in head)) % length ring) f.1 ∙ ap (λ n. (at u + entry_blocks n) % length ring) size ∙ behind u (entry_blocks (length payload));
            fits = fits;
            mark = sym (ap (λ q. drop 504 (block ring q)) (last_place u (length payload))) ∙ ap (λ n. drop 504 (block ring ((at u + entry_blocks n - 1) % length ring))) (sym size)
                ∙ same_bytes (drop 504 (block ring ((at u + entry_blocks (length_in head) - 1) % length ring))) marker two.1;
            content = sym (content_is u (length payload)) ∙ ap (payload_at ring (at u)) (sym size) ∙ content;
          }

  -- and one that stands there is there
  pub entry_is_there : (u number : ℕ) (payload : List ℕ) → Entry (length ring) start (reading ring start) u number payload → entry_at ring (at u) number ≡ Some payload
  entry_is_there u number payload e =
      let head : List ℕ = block ring (at u) in
      let few : entry_blocks (length_in head) ≤ length ring = omega (arith, e.fits, ap entry_blocks e.size) in
      let next : from_be_bytes w32 (slice_range head 16 20) ≡ (at u + entry_blocks (length_in head)) % length ring =
      e.next ∙ sym (behind u (entry_blocks (length payload))) ∙ ap (λ n. (at u + entry_blocks n) % length ring) (sym e.size) in
      let says : is_head (length ring) (at u) number head ≡ true = λ i.
      (ap (λ t. bytes_eq t (codes "ENT1")) e.tag ∙ bytes_eq-same (codes "ENT1")) i
      && (le-leb (length_in head) 32768 (subst (λ (n : ℕ). n ≤ 32768) (sym e.size) e.short) i
      && (le-leb (entry_blocks (length_in head)) (length ring) few i
      && (eq-eqb (from_be_bytes w64 (slice_range head 8 16)) number e.num i
      && (le-leb number (2 ^ 62) e.low i && eq-eqb (from_be_bytes w32 (slice_range head 16 20)) ((at u + entry_blocks (length_in head)) % length ring) next i)))) in
      let mark : is_marked (block ring ((at u + entry_blocks (length_in head) - 1) % length ring)) ≡ true =
      ap (λ n. is_marked (block ring ((at u + entry_blocks n - 1) % length ring))) e.size ∙ ap (λ q. is_marked (block ring q)) (last_place u (length payload))
      ∙ ap (λ t. bytes_eq t marker) e.mark ∙ bytes_eq-same marker in
      ap (λ b. payload_if b ring (at u)) (λ i. says i && mark i) ∙ ap (λ n. Some (payload_at ring (at u) n)) e.size
      ∙ ap (λ t. Some t) (content_is u (length payload) ∙ e.content)

  abbrev Found_at : ℕ → ℕ → List (List ℕ) → Type 0
  Found_at u number xs = Finds (length ring) start (reading ring start) u number xs

  abbrev step : ℕ → ℕ → ℕ → Option (List ℕ) → List (List ℕ)
  step n u number o = elim o as (λ _. List (List ℕ)) [
    | None ↦ []
    | Some payload ↦ payload ∷ taken ring n ((at u + entry_blocks (length payload)) % length ring) (number + 1) (u + entry_blocks (length payload))
  ]

  stepped : (n u number : ℕ) → ((v m : ℕ) → length ring ≤ v + n → Found_at v m (taken ring n (at v) m v)) → length ring ≤ u + suc n
      → Found_at u number (step n u number (that_fits (length ring) u (entry_at ring (at u) number)))
  stepped n u number rest enough = by (entry_at ring (at u) number) refl
    where
      none : entry_at ring (at u) number ≡ None → Found_at u number []
      none is x e = absurd (false≢true (sym (ap is_some is) ∙ ap is_some (entry_is_there u number x e)))

      fitting : (x : List ℕ) → entry_at ring (at u) number ≡ Some x → (b : Bool) → nat_le (u + entry_blocks (length x)) (length ring) ≡ b → Found_at u number (step n u number (if b then Some x else None))
      fitting x is true fits =
          let b : 1 ≤ entry_blocks (length x) = some_block (length x) in
          let there : start + u + entry_blocks (length x) ≡ start + (u + entry_blocks (length x)) = omega arith in
          let place : (at u + entry_blocks (length x)) % length ring ≡ at (u + entry_blocks (length x)) = behind u (entry_blocks (length x)) ∙ ap (λ q. q % length ring) there in (
            entry_stands u number x is (leb-true (u + entry_blocks (length x)) (length ring) fits),
            subst (λ (q : ℕ). Found_at (u + entry_blocks (length x)) (number + 1) (taken ring n q (number + 1) (u + entry_blocks (length x)))) (sym place)
                (rest (u + entry_blocks (length x)) (number + 1) (omega (arith, enough, b))),
          )
      fitting x is false fits = λ y e.
          let same : x ≡ y = ap (λ (o : Option (List ℕ)). unwrap_or o y) (sym is ∙ entry_is_there u number y e) in
          let past : u + entry_blocks (length x) ≤ length ring = subst (λ (z : List ℕ). u + entry_blocks (length z) ≤ length ring) (sym same) e.fits in
          false≢true (sym fits ∙ le-leb (u + entry_blocks (length x)) (length ring) past)

      by : (o : Option (List ℕ)) → entry_at ring (at u) number ≡ o → Found_at u number (step n u number (that_fits (length ring) u o))
      by None is = none is
      by (Some x) is = fitting x is (nat_le (u + entry_blocks (length x)) (length ring)) refl

  taken_finds : (n u number : ℕ) → length ring ≤ u + n → Found_at u number (taken ring n (at u) number u)
  taken_finds zero u number enough = λ x e. let b : 1 ≤ entry_blocks (length x) = some_block (length x) in omega (arith, e.fits, enough, b)
  taken_finds (suc n) u number enough = stepped n u number (λ v m. taken_finds n v m) enough

-- one entry stands at a place, and one list is found
pub one_entry : (room start : ℕ) (r : ℕ → List ℕ) (u number : ℕ) (x y : List ℕ) → Entry room start r u number x → Entry room start r u number y → x ≡ y
one_entry room start r u number x y e f = sym e.content ∙ ap (λ n. slice_range (bytes_from r u (entry_blocks n)) 20 (20 + n)) (sym e.size ∙ f.size) ∙ f.content

pub one_list : (room start : ℕ) (r : ℕ → List ℕ) (u number : ℕ) (xs ys : List (List ℕ)) → Finds room start r u number xs → Finds room start r u number ys → xs ≡ ys
one_list room start r u number [] [] f g = refl
one_list room start r u number [] (y ∷ ys) f g = absurd (f y g.0)
one_list room start r u number (x ∷ xs) [] f g = absurd (g x f.0)
one_list room start r u number (x ∷ xs) (y ∷ ys) f g =
    let same : x ≡ y = one_entry room start r u number x y f.0 g.0 in
    let there = subst (λ (z : List ℕ). Finds room start r (u + entry_blocks (length z)) (number + 1) ys) (sym same) g.1 in
    (λ i. same i ∷ one_list room start r (u + entry_blocks (length x)) (number + 1) xs ys f.1 there i)

module _ (kind : Kind) (header : List ℕ) (ring : List (List ℕ)) (whole : AreWhole ring) (some : 0 < length ring) (h : Header) (is : header_of kind (length ring) header ≡ Some h) (inside : h.start < length ring) where
  place : (h.start + 0) % length ring ≡ h.start
  place = let e : h.start + 0 ≡ h.start = omega arith in ap (λ q. q % length ring) e ∙ mod-eq_of_lt inside

  all_taken : Finds (length ring) h.start (reading ring h.start) 0 h.first (taken ring (length ring) h.start h.first 0)
  all_taken = subst (λ (p : ℕ). Finds (length ring) h.start (reading ring h.start) 0 h.first (taken ring (length ring) p h.first 0)) place (taken_finds ring h.start whole some (length ring) 0 h.first (omega arith))

  -- the list that stands in the ring is found, where the header counts no more
  pub stands_is_found : (xs : List (List ℕ)) → Finds (length ring) h.start (reading ring h.start) 0 h.first xs → h.count ≤ length xs → found_of kind (header ∷ ring) ≡ found (record { first = h.first; payloads = xs })
  stands_is_found xs stands counts =
      let same : taken ring (length ring) h.start h.first 0 ≡ xs = one_list (length ring) h.start (reading ring h.start) 0 h.first (taken ring (length ring) h.start h.first 0) xs all_taken stands in
      ap (λ o. found_from o ring) is ∙ ap (counted h) same
      ∙ ap (λ b. if b then damaged (h.first + length xs) else found (record { first = h.first; payloads = xs })) (le-ltb_false h.count (length xs) counts)
    where
      le-ltb_false : (a b : ℕ) → a ≤ b → nat_lt b a ≡ false
      le-ltb_false a b le = by (nat_lt b a) refl
        where
          by : (c : Bool) → nat_lt b a ≡ c → c ≡ false
          by false e = refl
          by true e = absurd (omega (arith, ltb-true b a e, le))

abbrev is_list : Found → Bool
is_list (found l) = true
is_list (damaged n) = false

abbrev list_in : Found → Entries → Entries
list_in (found l) other = l
list_in (damaged n) other = other

-- the ring of a header holds its start
pub start_inside : (kind : Kind) (header : List ℕ) (room : ℕ) (h : Header) → 0 < room → header_of kind room header ≡ Some h → h.start < room
start_inside kind header room h some is = ⊎_elim
    (λ zeros. let e : h.start ≡ 0 = ap (λ (x : Header). x.start) zeros.1 in omega (arith, e, some))
    (λ written. written.0.start)
    (read_was_written kind room header h is)

-- what is found stands in the ring
pub found_stands : (kind : Kind) (header : List ℕ) (ring : List (List ℕ)) → AreWhole ring → 0 < length ring → (l : Entries) → found_of kind (header ∷ ring) ≡ found l → HasList kind header ring l
found_stands kind header ring whole some l found_is = by (header_of kind (length ring) header) refl found_is
  where
    held : (h : Header) → header_of kind (length ring) header ≡ Some h → (b : Bool) → nat_lt (length (taken ring (length ring) h.start h.first 0)) h.count ≡ b
        → (if b then damaged (h.first + length (taken ring (length ring) h.start h.first 0)) else found (record { first = h.first; payloads = taken ring (length ring) h.start h.first 0 })) ≡ found l → HasList kind header ring l
    held h is true fewer e = absurd (false≢true (ap is_list e))
    held h is false fewer e =
        let same : record { first = h.first; payloads = taken ring (length ring) h.start h.first 0 } ≡ l = ap (λ (f : Found). list_in f l) e in
        let payloads : taken ring (length ring) h.start h.first 0 ≡ l.payloads = ap (λ (x : Entries). x.payloads) same in (
          h,
          is,
          sym (ap (λ (x : Entries). x.first) same),
          subst (λ (t : List (List ℕ)). h.count ≤ length t) payloads (ltb-false (length (taken ring (length ring) h.start h.first 0)) h.count fewer),
          subst (λ (t : List (List ℕ)). Finds (length ring) h.start (reading ring h.start) 0 h.first t) payloads
              (all_taken kind header ring whole some h is (start_inside kind header (length ring) h some is)),
        )

    by : (o : Option Header) → header_of kind (length ring) header ≡ o → found_from o ring ≡ found l → HasList kind header ring l
    by None is e = absurd (false≢true (ap is_list e))
    by (Some h) is e = held h is (nat_lt (length (taken ring (length ring) h.start h.first 0)) h.count) refl e

-- and what stands there is found
pub stands_is_list : (kind : Kind) (header : List ℕ) (ring : List (List ℕ)) → AreWhole ring → 0 < length ring → (l : Entries) → HasList kind header ring l → found_of kind (header ∷ ring) ≡ found l
stands_is_list kind header ring whole some l (h, is, first, counts, stands) =
    stands_is_found kind header ring whole some h is (start_inside kind header (length ring) h some is) l.payloads stands counts
    ∙ ap (λ n. found (record { first = n; payloads = l.payloads })) (sym first)

abbrev number_in : Found → ℕ
number_in (found l) = 0
number_in (damaged n) = n

-- a list that is damaged
pub damaged_means : (kind : Kind) (header : List ℕ) (ring : List (List ℕ)) → AreWhole ring → 0 < length ring → (n : ℕ) → found_of kind (header ∷ ring) ≡ damaged n → IsDamaged kind header ring n
damaged_means kind header ring whole some n is_damaged = by (header_of kind (length ring) header) refl is_damaged
  where
    counts : (h : Header) → header_of kind (length ring) header ≡ Some h → (b : Bool) → nat_lt (length (taken ring (length ring) h.start h.first 0)) h.count ≡ b
        → (if b then damaged (h.first + length (taken ring (length ring) h.start h.first 0)) else found (record { first = h.first; payloads = taken ring (length ring) h.start h.first 0 })) ≡ damaged n → IsDamaged kind header ring n
    counts h is false fewer e = absurd (false≢true (sym (ap is_list e)))
    counts h is true fewer e =
        let stands = all_taken kind header ring whole some h is (start_inside kind header (length ring) h some is) in
        inr (h, taken ring (length ring) h.start h.first 0, is, stands, ltb-true (length (taken ring (length ring) h.start h.first 0)) h.count fewer, sym (ap number_in e))

    by : (o : Option Header) → header_of kind (length ring) header ≡ o → found_from o ring ≡ damaged n → IsDamaged kind header ring n
    by None is e = inl (is, sym (ap number_in e))
    by (Some h) is e = counts h is (nat_lt (length (taken ring (length ring) h.start h.first 0)) h.count) refl e
