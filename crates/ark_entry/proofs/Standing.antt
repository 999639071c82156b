-- Entries that stand in a reading.
use Rattle.std.proofs.Common.{◌≡◌, ℕ, zero, suc, ◌+◌, ◌-◌, ◌%◌, ◌<◌, ◌≤◌, List, [], ◌∷◌, ◌++◌, length, take, drop, get_or, refl, sym, ◌∙◌, ap, subst, arith, slice_range}
use Rattle.std.specs.Int.{w32, w64, from_be_bytes}
use Rattle.std.proofs.Math.Nat.{mod-add-mod}
use Rattle.ark_media.specs.Journal.{zero_block}
use Rattle.ark_entry.specs.Entry.{entry_blocks, length_in}
use Rattle.ark_entry.specs.Reading.{bytes_from, Entry, Finds, Stands}
use Rattle.ark_entry.proofs.Readings.{some_block}

abbrev Reading : Type 0
Reading = ℕ → List ℕ

pub bytes_same : (r s : Reading) (u v n : ℕ) → ((k : ℕ) → k < n → r (u + k) ≡ s (v + k)) → bytes_from r u n ≡ bytes_from s v n
bytes_same r s u v zero same = refl
bytes_same r s u v (suc n) same =
    let u0 : u + 0 ≡ u = omega arith in
    let v0 : v + 0 ≡ v = omega arith in
    let here : r u ≡ s v = ap r (sym u0) ∙ same 0 (omega arith) ∙ ap s v0 in
    let rest : (k : ℕ) → k < n → r (u + 1 + k) ≡ s (v + 1 + k) = λ k lt.
    let uk : u + 1 + k ≡ u + suc k = omega arith in
    let vk : v + suc k ≡ v + 1 + k = omega arith in
    ap r uk ∙ same (suc k) (omega arith) ∙ ap s vk in
    (λ i. here i ++ bytes_same r s (u + 1) (v + 1) n rest i)

module _ (room start : ℕ) where
  pub entry_same : (r s : Reading) (u number : ℕ) (x : List ℕ) → ((v : ℕ) → u ≤ v → v < u + entry_blocks (length x) → r v ≡ s v) → Entry room start r u number x → Entry room start s u number x
  entry_same r s u number x same e =
      let b : 1 ≤ entry_blocks (length x) = some_block (length x) in
      let head : s u ≡ r u = sym (same u (omega arith) (omega (arith, b))) in
      let end : s (u + entry_blocks (length x) - 1) ≡ r (u + entry_blocks (length x) - 1) = sym (same (u + entry_blocks (length x) - 1) (omega (arith, b)) (omega (arith, b))) in
      record {
        tag = ap (λ (t : List ℕ). take 4 t) head ∙ e.tag;
        size = ap length_in head ∙ e.size;
        short = e.short;
        num = ap (λ (t : List ℕ). from_be_bytes w64 (slice_range t 8 16)) head ∙ e.num;
        low = e.low;
        next = ap (λ (t : List ℕ). from_be_bytes w32 (slice_range t 16 20)) head ∙ e.next;
        fits = e.fits;
        mark = ap (λ (t : List ℕ). drop 504 t) end ∙ e.mark;
        content = ap (λ (t : List ℕ). slice_range t 20 (20 + length x)) (bytes_same s r u u (entry_blocks (length x)) (λ k lt. sym (same (u + k) (omega arith) (omega (arith, lt))))) ∙ e.content;
      }

  pub stands_le : (r : Reading) (u number : ℕ) (xs : List (List ℕ)) (end : ℕ) → Stands room start r u number xs end → u ≤ end
  stands_le r u number [] end is = omega (arith, is)
  stands_le r u number (x ∷ xs) end s = omega (arith, stands_le r (u + entry_blocks (length x)) (number + 1) xs end s.1)

  pub stands_same : (r s : Reading) (u number : ℕ) (xs : List (List ℕ)) (end : ℕ) → ((v : ℕ) → u ≤ v → v < end → r v ≡ s v) → Stands room start r u number xs end → Stands room start s u number xs end
  stands_same r s u number [] end same is = is
  stands_same r s u number (x ∷ xs) end same t =
      let le : u + entry_blocks (length x) ≤ end = stands_le r (u + entry_blocks (length x)) (number + 1) xs end t.1 in (
        entry_same r s u number x (λ v from to. same v from (omega (arith, le, to))) t.0,
        stands_same r s (u + entry_blocks (length x)) (number + 1) xs end (λ v from to. same v (omega (arith, from)) to) t.1,
      )

  -- behind entries that stand there is found what is found there
  pub stands_then : (r : Reading) (u number : ℕ) (xs ys : List (List ℕ)) (end : ℕ) → Stands room start r u number xs end → Finds room start r end (number + length xs) ys → Finds room start r u number (xs ++ ys)
  stands_then r u number [] ys end is rest =
      let n0 : number + 0 ≡ number = omega arith in
      subst (λ (v : ℕ). Finds room start r v number ys) (sym is) (subst (λ (m : ℕ). Finds room start r end m ys) n0 rest)
  stands_then r u number (x ∷ xs) ys end t rest =
      let n1 : number + suc (length xs) ≡ number + 1 + length xs = omega arith in
      (t.0, stands_then r (u + entry_blocks (length x)) (number + 1) xs ys end t.1 (subst (λ (m : ℕ). Finds room start r end m ys) n1 rest))

  pub stands_push : (r : Reading) (u number : ℕ) (xs : List (List ℕ)) (x : List ℕ) (end : ℕ) → Stands room start r u number xs end → Entry room start r end (number + length xs) x
      → Stands room start r u number (xs ++ x ∷ []) (end + entry_blocks (length x))
  stands_push r u number [] x end is e =
      let n0 : number + 0 ≡ number = omega arith in
      (subst (λ (v : ℕ). Entry room start r v number x) (sym is) (subst (λ (m : ℕ). Entry room start r end m x) n0 e), omega (arith, is))
  stands_push r u number (y ∷ xs) x end t e =
      let n1 : number + suc (length xs) ≡ number + 1 + length xs = omega arith in
      (t.0, stands_push r (u + entry_blocks (length y)) (number + 1) xs x end t.1 (subst (λ (m : ℕ). Entry room start r end m x) n1 e))

  -- a zero block is no entry, none begins at the end, and none has another number
  pub none_zero : (r : Reading) (u number : ℕ) (x : List ℕ) → r u ≡ zero_block → Entry room start r u number x → ⊥
  none_zero r u number x is e =
      let other : 0 ≡ 69 = ap (λ (t : List ℕ). get_or (take 4 t) 0 0) (sym is) ∙ ap (λ (t : List ℕ). get_or t 0 0) e.tag in
      omega (arith, other)

  pub none_end : (r : Reading) (u number : ℕ) (x : List ℕ) → room ≤ u → Entry room start r u number x → ⊥
  none_end r u number x past e = let b : 1 ≤ entry_blocks (length x) = some_block (length x) in omega (arith, past, b, e.fits)

-- an entry, seen from a later beginning
entry_shift : (room start z : ℕ) (r s : Reading) (u number : ℕ) (x : List ℕ) → ((v : ℕ) → r (z + v) ≡ s v) → Entry room start r (z + u) number x → Entry room ((start + z) % room) s u number x
entry_shift room start z r s u number x same e =
    let b : 1 ≤ entry_blocks (length x) = some_block (length x) in
    let head : s u ≡ r (z + u) = sym (same u) in
    let end : z + u + entry_blocks (length x) - 1 ≡ z + (u + entry_blocks (length x) - 1) = omega (arith, b) in
    let last : s (u + entry_blocks (length x) - 1) ≡ r (z + u + entry_blocks (length x) - 1) = sym (ap r end ∙ same (u + entry_blocks (length x) - 1)) in
    let there : start + (z + u) + entry_blocks (length x) ≡ start + z + (u + entry_blocks (length x)) = omega arith in
    let back : (start + z) % room + (u + entry_blocks (length x)) ≡ (start + z) % room + u + entry_blocks (length x) = omega arith in
    record {
      tag = ap (λ (t : List ℕ). take 4 t) head ∙ e.tag;
      size = ap length_in head ∙ e.size;
      short = e.short;
      num = ap (λ (t : List ℕ). from_be_bytes w64 (slice_range t 8 16)) head ∙ e.num;
      low = e.low;
      next = ap (λ (t : List ℕ). from_be_bytes w32 (slice_range t 16 20)) head ∙ e.next ∙ ap (λ n. n % room) there
          ∙ sym (mod-add-mod (start + z) room (u + entry_blocks (length x))) ∙ ap (λ n. n % room) back;
      fits = omega (arith, e.fits);
      mark = ap (λ (t : List ℕ). drop 504 t) last ∙ e.mark;
      content = ap (λ (t : List ℕ). slice_range t 20 (20 + length x)) (bytes_same s r u (z + u) (entry_blocks (length x)) (λ k lt.
          let zk : z + (u + k) ≡ z + u + k = omega arith in sym (same (u + k)) ∙ ap r zk)) ∙ e.content;
    }

pub stands_shift : (room start z : ℕ) (r s : Reading) (u number : ℕ) (xs : List (List ℕ)) (end : ℕ) → ((v : ℕ) → r (z + v) ≡ s v) → Stands room start r (z + u) number xs (z + end)
    → Stands room ((start + z) % room) s u number xs end
stands_shift room start z r s u number [] end same is = omega (arith, is)
stands_shift room start z r s u number (x ∷ xs) end same t =
    let next : z + u + entry_blocks (length x) ≡ z + (u + entry_blocks (length x)) = omega arith in
    let rest = subst (λ (v : ℕ). Stands room start r v (number + 1) xs (z + end)) next t.1 in
    (entry_shift room start z r s u number x same t.0, stands_shift room start z r s (u + entry_blocks (length x)) (number + 1) xs end same rest)

-- behind entries that are dropped the others stand
pub stands_behind : (room start : ℕ) (r : Reading) (u number : ℕ) (xs ys : List (List ℕ)) (end : ℕ) → Stands room start r u number (xs ++ ys) end
    → (mid : ℕ) × Stands room start r u number xs mid × Stands room start r mid (number + length xs) ys end
stands_behind room start r u number [] ys end t =
    let n0 : number ≡ number + 0 = omega arith in
    (u, refl, subst (λ (m : ℕ). Stands room start r u m ys end) n0 t)
stands_behind room start r u number (x ∷ xs) ys end t =
    let rest = stands_behind room start r (u + entry_blocks (length x)) (number + 1) xs ys end t.1 in
    let n1 : number + 1 + length xs ≡ number + suc (length xs) = omega arith in
    (rest.0, (t.0, rest.1), subst (λ (m : ℕ). Stands room start r rest.0 m ys end) n1 rest.2)
