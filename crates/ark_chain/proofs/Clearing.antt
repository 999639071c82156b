-- A repair's calls, one after another: blocks that are noted, and zeros that are written.
use Rattle.std.proofs.Common.{◌≡◌, inl, inr, ℕ, zero, suc, ◌+◌, ◌-◌, ◌%◌, ◌<◌, ◌≤◌, List, [], ◌∷◌, ◌++◌, Bool, true, false, length, take, drop, get_or, All, add-one, sym, ◌∙◌, ap, subst, append_assoc, append-nil, arith, if◌then◌else◌}
use Rattle.std.specs.Prelude.{nat_lt}
use Rattle.std.proofs.lemmas.Bool.{cases_lt, lt-ltb, le-ltb}
use Rattle.std.proofs.lemmas.List.{take_more, take-append-drop, map-append}
use Rattle.std.proofs.lemmas.List.Elements.{filter-append}
use Rattle.ark_media.specs.Journal.{Event, current, zero_block}
use Rattle.ark_media.specs.Calls.{Call, Reads, Writes, Told, Tells, Went, OnTold}
use Rattle.ark_media.proofs.Planning.{went_then, went_stop}
use Rattle.circular_buffer.specs.Buffer.{Buffer}
use Rattle.ark_chain.specs.Survey.{reads}
use Rattle.ark_chain.specs.Repair.{outside, not_zero, clears}
use Rattle.ark_chain.proofs.Looking.{still_told, same_blocks}

-- One block of the ring more, in the list or outside it.
module _ (room start used q r : ℕ) (is : r ≡ suc q) where
  pub inside_more : (q + room - start) % room < used → outside room start used r ≡ outside room start used q
  inside_more lt = ap (outside room start used) is ∙ ap (λ b. if b then outside room start used q else outside room start used q ++ suc q ∷ []) (lt-ltb ((q + room - start) % room) used lt)

  pub outside_more : used ≤ (q + room - start) % room → outside room start used r ≡ outside room start used q ++ r ∷ []
  outside_more le = ap (outside room start used) is ∙ ap (λ b. if b then outside room start used q else outside room start used q ++ suc q ∷ []) (le-ltb ((q + room - start) % room) used le)
      ∙ ap (λ n. outside room start used q ++ n ∷ []) (sym is)

none : (q : ℕ) → q ≤ 0 → 0 ≡ q
none q le = omega (arith, le)

same : (q r : ℕ) → q ≤ r → r ≤ q → r ≡ q
same q r le ge = omega (arith, le, ge)

-- the blocks outside a list among the first of the ring are the front of those among more
outside_front : (room start used q r : ℕ) → q ≤ r → (rest : List ℕ) × (outside room start used r ≡ outside room start used q ++ rest)
outside_front room start used q zero le = ([], ap (outside room start used) (none q le) ∙ sym (append-nil (outside room start used q)))
outside_front room start used q (suc r) le = elim (cases_lt q (suc r)) [
  | inl lt ↦ let f = outside_front room start used q r (omega (arith, lt)) in by f.0 f.1 (nat_lt ((r + room - start) % room) used)
  | inr ge ↦ ([], ap (outside room start used) (same q (suc r) le ge) ∙ sym (append-nil (outside room start used q)))
]
  where
    by : (rest : List ℕ) → outside room start used r ≡ outside room start used q ++ rest → (b : Bool)
        → (more : List ℕ) × ((if b then outside room start used r else outside room start used r ++ suc r ∷ []) ≡ outside room start used q ++ more)
    by rest is true = (rest, is)
    by rest is false = (rest ++ suc r ∷ [], ap (λ l. l ++ suc r ∷ []) is ∙ append_assoc (outside room start used q) rest (suc r ∷ []))

module _ {D : Type 0} (goes : D → List Event → D → Type 0) where
  -- no block is read behind one whose read failed
  pub outside_stop : (room start used q : ℕ) (a b : D) → q ≤ room → Went goes (reads (outside room start used q)) false a b → Went goes (reads (outside room start used room)) false a b
  outside_stop room start used q a b le went =
      let f = outside_front room start used q room le in
      subst (λ (l : List ℕ). Went goes (reads l) false a b) (sym f.1)
      (subst (λ (l : List Call). Went goes l false a b) (sym (map-append (λ n. Reads n) (outside room start used q) f.0)) (went_stop goes (reads (outside room start used q)) (reads f.0) a b went))

  module _ (more : (a b c : D) (es fs : List Event) → goes a es b → goes b fs c → goes a (es ++ fs) c) where
    -- one read more
    pub reads_more : (blocks all : List ℕ) (n : ℕ) (ok : Bool) (a b c : D) → all ≡ blocks ++ n ∷ [] → Went goes (reads blocks) true a b → Went goes (Reads n ∷ []) ok b c → Went goes (reads all) ok a c
    reads_more blocks all n ok a b c is first next = subst (λ (l : List Call). Went goes l ok a c) (sym (ap reads is ∙ map-append (λ n. Reads n) blocks (n ∷ [])))
        (went_then goes more (reads blocks) (Reads n ∷ []) ok a b c first next)

    -- zeros to one block more
    pub clears_more : (blocks : List ℕ) (i n : ℕ) (ok : Bool) (a b c : D) → i < length blocks → get_or blocks i 0 ≡ n → Went goes (clears (take i blocks)) true a b → Went goes (Writes n zero_block ∷ []) ok b c
        → Went goes (clears (take (i + 1) blocks)) ok a c
    clears_more blocks i n ok a b c lt at first next = subst (λ (l : List Call). Went goes l ok a c)
        (ap (λ (x : ℕ). clears (take i blocks) ++ (Writes x zero_block ∷ [])) (sym at) ∙ sym (map-append (λ n. Writes n zero_block) (take i blocks) (get_or blocks i 0 ∷ [])) ∙ ap clears (sym (take_more blocks i 0 lt)))
        (went_then goes more (clears (take i blocks)) (Writes n zero_block ∷ []) ok a b c first next)

  -- and none behind a write that failed
  pub clears_stop : (blocks : List ℕ) (i : ℕ) (a b : D) → Went goes (clears (take i blocks)) false a b → Went goes (clears blocks) false a b
  clears_stop blocks i a b first = subst (λ (l : List Call). Went goes l false a b) (sym (map-append (λ n. Writes n zero_block) (take i blocks) (drop i blocks)) ∙ ap clears (take-append-drop i blocks))
      (went_stop goes (clears (take i blocks)) (clears (drop i blocks)) a b first)

-- what is noted of one block more
pub noted_more : (image : List (List ℕ)) (old now blocks all : List ℕ) (n : ℕ) → all ≡ blocks ++ n ∷ [] → old ≡ not_zero image blocks → now ≡ old ++ not_zero image (n ∷ []) → now ≡ not_zero image all
noted_more image old now blocks all n is was more = more ∙ ap (λ l. l ++ not_zero image (n ∷ [])) was ∙ sym (ap (not_zero image) is ∙ filter-append _ blocks (n ∷ []))

-- The first q blocks of the ring are read but for those of the list, and what is not zero is noted.
pub record Noting {D : Type 0} (goes : D → List Event → D → Type 0) (told : D → Told) (room start used q : ℕ) (old now : D) (before noted : Buffer ℕ) : Type 0 where
  pub went : Went goes (reads (outside room start used q)) true old now
  pub blocks : (told now).blocks ≡ (told old).blocks
  pub within : All (λ m. m < (told old).blocks) noted.items
  pub few : length noted.items ≤ q
  pub capacity : noted.capacity ≡ before.capacity
  pub noted_is : OnTold (told now) (λ image. noted.items ≡ not_zero image (outside room start used q))

-- one block more that is none of the list's
module _ {D : Type 0} (goes : D → List Event → D → Type 0) (told : D → Told) (more : (a b c : D) (es fs : List Event) → goes a es b → goes b fs c → goes a (es ++ fs) c)
    (tells : (a b : D) (es : List Event) → goes a es b → Tells es (told a) (told b)) where
  pub note_more : (room start used q : ℕ) (old now next : D) (before noted after : Buffer ℕ) → used ≤ (q + room - start) % room → Noting goes told room start used q old now before noted
      → Went goes (Reads (q + 1) ∷ []) true now next → All (λ m. m < (told now).blocks) after.items → length after.items ≤ length noted.items + 1 → after.capacity ≡ noted.capacity
      → OnTold (told next) (λ image. after.items ≡ noted.items ++ not_zero image ((q + 1) ∷ [])) → Noting goes told room start used (q + 1) old next before after
  note_more room start used q old now next before noted after past is went within few kept added =
      let all = outside_more room start used q (q + 1) (add-one q) past in
      record {
        went = reads_more goes more (outside room start used q) (outside room start used (q + 1)) (q + 1) true old now next all is.went went;
        blocks = same_blocks goes told tells (Reads (q + 1) ∷ []) true now next went ∙ is.blocks;
        within = subst (λ (n : ℕ). All (λ m. m < n) after.items) is.blocks within;
        few = omega (arith, few, is.few);
        capacity = kept ∙ is.capacity;
        noted_is = λ h at. noted_more (current h.base h.journal) noted.items after.items (outside room start used q) (outside room start used (q + 1)) (q + 1) all
            (still_told goes told tells ((q + 1) ∷ []) true now next went (λ image. noted.items ≡ not_zero image (outside room start used q)) is.noted_is h at) (added h at);
      }

-- one block more that is one of the list's
pub note_none : {D : Type 0} (goes : D → List Event → D → Type 0) (told : D → Told) (room start used q : ℕ) (old now : D) (before noted : Buffer ℕ) → (q + room - start) % room < used
    → Noting goes told room start used q old now before noted → Noting goes told room start used (q + 1) old now before noted
note_none goes told room start used q old now before noted inside is =
    let all = sym (inside_more room start used q (q + 1) (add-one q) inside) in
    record {
      went = subst (λ (l : List ℕ). Went goes (reads l) true old now) all is.went;
      blocks = is.blocks;
      within = is.within;
      few = omega (arith, is.few);
      capacity = is.capacity;
      noted_is = λ h at. is.noted_is h at ∙ ap (not_zero (current h.base h.journal)) all;
    }
