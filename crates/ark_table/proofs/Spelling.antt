-- A slot's block is read as the slot that it was written for.
use Rattle.std.proofs.Common.{◌≡◌, ◌≤◌, ◌<◌, ◌-◌, ◌+◌, ◌*◌, ◌^◌, ℕ, suc, List, [], ◌∷◌, ◌++◌, length, take, drop, replicate, get_or, true, false, ◌&&◌, inl, inr, arith, refl, sym, ◌∙◌, ap, subst, Contains, length-append, append_assoc, codes, slice_range}
use Rattle.std.specs.Prelude.{nat_le, bytes_eq, flat_map, slice_index}
use Rattle.std.specs.List.{list_all}
use Rattle.std.proofs.Math.Seq.{take-append_seam, drop-append_seam, drop-append-add}
use Rattle.std.proofs.lemmas.Bool.{and_parts, leb-true, le-leb}
use Rattle.std.proofs.lemmas.List.{length-replicate, get_or-append-add}
use Rattle.std.proofs.lemmas.Nat.{from_be_bytes-to_be_bytes_4}
use Rattle.std.proofs.lemmas.Slice.Eq.{bytes_eq-Decides}
use Rattle.ark_base.specs.Name.{is_name, padded, is_letter}
use Rattle.ark_base.specs.declared.block.Span.{Span}
use Rattle.ark_base.specs.declared.kind.Kind.{Kind}
use Rattle.ark_base.specs.declared.kind.Kind.TheVariants.{Raw, Log, Queue}
use Rattle.ark_extents.specs.Blocks.{blocks_of, runs_of}
use Rattle.ark_extents.specs.Runs.{are_spans}
use Rattle.ark_extents.proofs.RunLemmas.{AreLongest, length-blocks_of, blocks_of-runs_of, longest-runs_of}
use Rattle.ark_extents.proofs.Holding.{contains_had, has_contained}
use Rattle.ark_extents.proofs.Counting.{spans_from}
use Rattle.ark_table.specs.Area.{Area, kind_number, kind_of, name_bytes, run_bytes, area_bytes, name_in, runs_in, area_in, is_data, block_total, least_blocks, is_area, is_free, is_used}
use Rattle.ark_table.specs.Slots.{Slot, slot_at, area_of, slot_bytes, IsRight}

pub name_short : (name : List ℕ) → is_name name ≡ true → length name ≤ 15
name_short [] h = omega arith
name_short (b ∷ bs) h =
    let p = and_parts (is_letter b) _ h in
    let q = and_parts (nat_le (length bs) 14) _ p.1 in
    let short : length bs ≤ 14 = leb-true (length bs) 14 q.0 in
    omega (arith, short)

pub length-padded : (name : List ℕ) → length name ≤ 15 → length (padded name) ≡ 15
length-padded name short =
    let sum : length (padded name) ≡ length name + length (replicate (15 - length name) 0) = length-append name (replicate (15 - length name) 0) in
    let zeros : length (replicate (15 - length name) 0) ≡ 15 - length name = length-replicate {A = ℕ} (15 - length name) 0 in
    omega (arith, sum, zeros, short)

-- a name that stands at a place is read there
name_read : (before name after block : List ℕ) (at : ℕ) → length name ≤ 15 → length before ≡ at → block ≡ before ++ (name_bytes name ++ after) → name_in block at ≡ name
name_read before name after block at short long is =
    let first : at ≡ length before + 0 = omega (arith, long) in
    let next : at + 1 ≡ length before + 1 = omega (arith, long) in
    let count : at + 16 - (at + 1) ≡ length (padded name) = omega (arith, length-padded name short) in
    let size : slice_index block at ≡ length name = ap (λ b. get_or b at 0) is ∙ ap (λ k. get_or (before ++ (name_bytes name ++ after)) k 0) first ∙ get_or-append-add before (name_bytes name ++ after) 0 0 in
    let bytes : slice_range block (at + 1) (at + 16) ≡ padded name =
    ap (λ b. take (at + 16 - (at + 1)) (drop (at + 1) b)) is ∙ ap (λ k. take (at + 16 - (at + 1)) (drop k (before ++ (name_bytes name ++ after)))) next
    ∙ ap (λ t. take (at + 16 - (at + 1)) t) (drop-append-add before (name_bytes name ++ after) 1)
    ∙ ap (λ k. take k (padded name ++ after)) count ∙ take-append_seam (padded name) after in
    ap (λ k. take k (slice_range block (at + 1) (at + 16))) size ∙ ap (λ t. take (length name) t) bytes ∙ take-append_seam name (replicate (15 - length name) 0)

kind_read : (kind : Kind) → kind_of (kind_number kind) ≡ kind
kind_read Raw = refl
kind_read Log = refl
kind_read Queue = refl

-- runs of blocks below 2 ^ 32
abbrev AllFit : List Span → Type 0
AllFit [] = Unit {0}
AllFit (run ∷ runs) = (run.start < 2 ^ 32) × (run.len < 2 ^ 32) × AllFit runs

runs_read : (runs : List Span) (after : List ℕ) → AllFit runs → runs_in (length runs) (flat_map run_bytes runs ++ after) ≡ runs
runs_read [] after fit = refl
runs_read (run ∷ runs) after fit = λ i.
    record { start = from_be_bytes-to_be_bytes_4 run.start fit.0 i; len = from_be_bytes-to_be_bytes_4 run.len fit.1 i } ∷ runs_read runs after fit.2 i

-- the block in parts
in_parts : (a : Area) → let zeros : List ℕ = replicate (512 - length (codes "VSA1" ++ (kind_number a.kind ∷ (length a.runs ∷ (name_bytes a.app ++ (name_bytes a.label ++ flat_map run_bytes a.runs)))))) 0 in
    area_bytes a ≡ (codes "VSA1" ++ (kind_number a.kind ∷ (length a.runs ∷ []))) ++ (name_bytes a.app ++ (name_bytes a.label ++ (flat_map run_bytes a.runs ++ zeros)))
in_parts a =
    let zeros : List ℕ = replicate (512 - length (codes "VSA1" ++ (kind_number a.kind ∷ (length a.runs ∷ (name_bytes a.app ++ (name_bytes a.label ++ flat_map run_bytes a.runs)))))) 0 in
    let front : List ℕ = codes "VSA1" ++ (kind_number a.kind ∷ (length a.runs ∷ [])) in
    ap (λ t. front ++ t) (append_assoc (name_bytes a.app) (name_bytes a.label ++ flat_map run_bytes a.runs) zeros ∙ ap (λ t. name_bytes a.app ++ t) (append_assoc (name_bytes a.label) (flat_map run_bytes a.runs) zeros))

area_read : (a : Area) → length a.app ≤ 15 → length a.label ≤ 15 → AllFit a.runs → area_in (area_bytes a) ≡ a
area_read a app label fit = λ i. record { app = first i; label = second i; kind = kind_read a.kind i; runs = runs i }
  where
    zeros : List ℕ
    zeros = replicate (512 - length (codes "VSA1" ++ (kind_number a.kind ∷ (length a.runs ∷ (name_bytes a.app ++ (name_bytes a.label ++ flat_map run_bytes a.runs)))))) 0

    front : List ℕ
    front = codes "VSA1" ++ (kind_number a.kind ∷ (length a.runs ∷ []))

    first : name_in (area_bytes a) 6 ≡ a.app
    first = name_read front a.app (name_bytes a.label ++ (flat_map run_bytes a.runs ++ zeros)) (area_bytes a) 6 app refl (in_parts a)

    long : length (front ++ name_bytes a.app) ≡ 22
    long = length-append front (name_bytes a.app) ∙ ap (λ n. 6 + suc n) (length-padded a.app app)

    second : name_in (area_bytes a) 22 ≡ a.label
    second = name_read (front ++ name_bytes a.app) a.label (flat_map run_bytes a.runs ++ zeros) (area_bytes a) 22 label long
        (in_parts a ∙ sym (append_assoc front (name_bytes a.app) (name_bytes a.label ++ (flat_map run_bytes a.runs ++ zeros))))

    longer : length ((front ++ name_bytes a.app) ++ name_bytes a.label) ≡ 38
    longer = length-append (front ++ name_bytes a.app) (name_bytes a.label) ∙ (λ i. long i + suc (length-padded a.label label i))

    behind : drop 38 (area_bytes a) ≡ flat_map run_bytes a.runs ++ zeros
    behind =
        ap (λ t. drop 38 t) (in_parts a ∙ sym (append_assoc front (name_bytes a.app) (name_bytes a.label ++ (flat_map run_bytes a.runs ++ zeros)))
        ∙ sym (append_assoc (front ++ name_bytes a.app) (name_bytes a.label) (flat_map run_bytes a.runs ++ zeros)))
        ∙ ap (λ n. drop n (((front ++ name_bytes a.app) ++ name_bytes a.label) ++ (flat_map run_bytes a.runs ++ zeros))) (sym longer)
        ∙ drop-append_seam ((front ++ name_bytes a.app) ++ name_bytes a.label) (flat_map run_bytes a.runs ++ zeros)

    runs : runs_in (length a.runs) (drop 38 (area_bytes a)) ≡ a.runs
    runs = ap (λ t. runs_in (length a.runs) t) behind ∙ runs_read a.runs zeros fit

pub count_is : (runs : List Span) → block_total runs ≡ length (blocks_of runs)
count_is [] = refl
count_is (run ∷ runs) = ap (λ n. run.len + n) (count_is runs) ∙ sym (length-blocks_of run runs)

-- runs all of whose blocks are in the data part are in it
data_runs : (size : ℕ) (runs : List Span) → AreLongest runs → ((n : ℕ) → Contains (blocks_of runs) n → (129 ≤ n) × (n < size)) → list_all (is_data size) runs ≡ true
data_runs size [] some within = refl
data_runs size (run ∷ runs) some within =
    let low : 129 ≤ run.start = (within run.start (contains_had (run ∷ runs) run.start (inl (omega arith, omega (arith, some.0))))).0 in
    let high : run.start + run.len - 1 < size = (within (run.start + run.len - 1) (contains_had (run ∷ runs) (run.start + run.len - 1) (inl (omega (arith, some.0), omega (arith, some.0))))).1 in
    let rest : list_all (is_data size) runs ≡ true = data_runs size runs some.2 (λ n h. within n (contains_had (run ∷ runs) n (inr (has_contained runs n h)))) in
    λ i. (le-leb 129 run.start low i && le-leb (run.start + run.len) size (omega (arith, high, some.0)) i) && rest i

all_fit : (size : ℕ) (runs : List Span) → size < 2 ^ 32 → list_all (is_data size) runs ≡ true → AllFit runs
all_fit size [] few data_part = tt
all_fit size (run ∷ runs) few data_part =
    let parts = and_parts (is_data size run) (list_all (is_data size) runs) data_part in
    let here = and_parts (nat_le 129 run.start) (nat_le (run.start + run.len) size) parts.0 in
    let end : run.start + run.len ≤ size = leb-true (run.start + run.len) size here.1 in
    (omega (arith, end, few), omega (arith, end, few), all_fit size runs few parts.1)

pub keeps_rules : (size : ℕ) (s : Slot) → size < 2 ^ 32 → IsRight size s → is_area size (area_of s) ≡ true
keeps_rules size s few right =
    let some : 1 ≤ length s.blocks = at_least s.kind (length s.blocks) right.some in
    let spans : are_spans (runs_of s.blocks) ≡ true = spans_from s.blocks some right.distinct (λ n h. omega (arith, (right.data_part n h).1, few)) right.few_runs in
    let inside : list_all (is_data size) (runs_of s.blocks) ≡ true =
    data_runs size (runs_of s.blocks) (longest-runs_of s.blocks) (λ n h. right.data_part n (subst (λ (l : List ℕ). Contains l n) (blocks_of-runs_of s.blocks) h)) in
    let count : least_blocks s.kind ≤ block_total (runs_of s.blocks) = omega (arith, right.some, count_is (runs_of s.blocks), ap (λ (l : List ℕ). length l) (blocks_of-runs_of s.blocks)) in
    λ i. right.app i && (right.label i && (spans i && (inside i && le-leb (least_blocks s.kind) (block_total (runs_of s.blocks)) count i)))
  where
    at_least : (kind : Kind) (n : ℕ) → least_blocks kind ≤ n → 1 ≤ n
    at_least Raw n h = h
    at_least Log n h = omega (arith, h)
    at_least Queue n h = omega (arith, h)

-- the block of a slot in use is not free
pub is_not_free : (s : Slot) → is_free (slot_bytes s) ≡ false
is_not_free s = refl

-- the spelling of an area that keeps the rules is read as this area
pub spelled_is_read : (size : ℕ) (a : Area) → size < 2 ^ 32 → is_area size a ≡ true → area_in (area_bytes a) ≡ a
spelled_is_read size a few kept =
    let rules = and_parts (is_name a.app) _ kept in
    let rules2 = and_parts (is_name a.label) _ rules.1 in
    let rules3 = and_parts (are_spans a.runs) _ rules2.1 in
    let rules4 = and_parts (list_all (is_data size) a.runs) _ rules3.1 in
    area_read a (name_short a.app rules.0) (name_short a.label rules2.0) (all_fit size a.runs few rules4.0)

area_again : (size : ℕ) (s : Slot) → size < 2 ^ 32 → IsRight size s → area_in (slot_bytes s) ≡ area_of s
area_again size s few right = spelled_is_read size (area_of s) few (keeps_rules size s few right)

-- it keeps the rules by itself
pub is_kept : (size : ℕ) (s : Slot) → size < 2 ^ 32 → IsRight size s → is_used size (slot_bytes s) ≡ true
is_kept size s few right =
    ap (λ (a : Area). is_area size a && bytes_eq (slot_bytes s) (area_bytes a)) (area_again size s few right)
    ∙ (λ i. keeps_rules size s few right i && (bytes_eq-Decides (slot_bytes s) (slot_bytes s)).1 refl i)

-- and says this slot
pub is_read : (size : ℕ) (s : Slot) → size < 2 ^ 32 → IsRight size s → slot_at s.index (area_in (slot_bytes s)) ≡ s
is_read size s few right =
    ap (slot_at s.index) (area_again size s few right)
    ∙ (λ i. record { index = s.index; app = s.app; label = s.label; kind = s.kind; blocks = blocks_of-runs_of s.blocks i })

pub runs_long : (runs : List Span) → length (flat_map run_bytes runs) ≡ 8 * length runs
runs_long [] = refl
runs_long (run ∷ runs) = omega (arith, runs_long runs)

-- and is one block
pub is_block : (size : ℕ) (s : Slot) → IsRight size s → length (slot_bytes s) ≡ 512
is_block size s right =
    let runs : List Span = runs_of s.blocks in
    let app : length (name_bytes s.app) ≡ 16 = ap (λ n. suc n) (length-padded s.app (name_short s.app right.app)) in
    let label : length (name_bytes s.label) ≡ 16 = ap (λ n. suc n) (length-padded s.label (name_short s.label right.label)) in
    let front : List ℕ = codes "VSA1" ++ (kind_number s.kind ∷ (length runs ∷ [])) in
    let said : List ℕ = front ++ (name_bytes s.app ++ (name_bytes s.label ++ flat_map run_bytes runs)) in
    let first : length said ≡ 6 + length (name_bytes s.app ++ (name_bytes s.label ++ flat_map run_bytes runs)) = length-append front (name_bytes s.app ++ (name_bytes s.label ++ flat_map run_bytes runs)) in
    let second : length (name_bytes s.app ++ (name_bytes s.label ++ flat_map run_bytes runs)) ≡ length (name_bytes s.app) + length (name_bytes s.label ++ flat_map run_bytes runs) =
    length-append (name_bytes s.app) (name_bytes s.label ++ flat_map run_bytes runs) in
    let third : length (name_bytes s.label ++ flat_map run_bytes runs) ≡ length (name_bytes s.label) + length (flat_map run_bytes runs) = length-append (name_bytes s.label) (flat_map run_bytes runs) in
    let long : length said ≡ 38 + 8 * length runs = omega (arith, first, second, third, app, label, runs_long runs) in
    let few : length runs ≤ 16 = right.few_runs in
    let zeros : length (replicate {A = ℕ} (512 - length said) 0) ≡ 512 - length said = length-replicate {A = ℕ} (512 - length said) 0 in
    let whole : length (slot_bytes s) ≡ length said + length (replicate {A = ℕ} (512 - length said) 0) = length-append said (replicate (512 - length said) 0) in
    omega (arith, whole, zeros, long, few)
