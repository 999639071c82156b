-- What a stop leaves of a table that stands, and of one whose slot is being changed; and that other events keep both.
use Rattle.std.proofs.Common.{◌≡◌, ◌⊎◌, inl, inr, ⊎_elim, ℕ, ◌<◌, ◌≤◌, List, [], ◌∷◌, ◌++◌, Bool, true, length, set, replicate, None, refl, sym, ◌∙◌, subst, arith, Contains}
use Rattle.std.proofs.lemmas.Bool.{cases_eq}
use Rattle.std.proofs.lemmas.List.{get_or-set_same, get_or-set_other, length-set}
use Rattle.ark_media.specs.Journal.{Event, Read, Write, Sync, Out, History, block, current, fresh}
use Rattle.ark_media.specs.Calls.{Makes}
use Rattle.ark_media.specs.Stops.{Whole, MayLeave}
use Rattle.ark_media.specs.Standing.{after, MayStand}
use Rattle.ark_media.proofs.Stopping.{length-current, current_other, other_write, sync_narrows}
use Rattle.ark_table.specs.Superblock.{superblock, format_calls}
use Rattle.ark_table.specs.Table.{HasTable}
use Rattle.ark_table.specs.Plans.{spelled}
use Rattle.ark_table.specs.Standing.{Table, IsTableOf, SlotChange, changed, IsEither, IsTried, IsUnsettled, IsWritten, Spare}
use Rattle.ark_table.proofs.Tables.{big, same_table}
use Rattle.ark_table.proofs.Fresh.{fresh_table}

abbrev pub Image : Type 0
Image = List (List ℕ)

-- a disk that has a table has its blocks
pub base_big : (h : History) (table : Table) → HasTable table (current h.base h.journal) → 130 ≤ length h.base
base_big h table has = omega (arith, big (current h.base h.journal) has.device, length-current h.base h.journal)

tried_big : (h : History) (table : Table) (c : SlotChange) → IsTried h table c → 130 ≤ length h.base
tried_big h table c tried = omega (arith, big tried.image tried.before.device, tried.size)

pub stands : (h : History) (table : Table) (image : Image) → IsTableOf h table → MayLeave Whole h.base h.journal image → HasTable table image
stands h table image is leaves = same_table table (current h.base h.journal) image is.has (leaves.size ∙ sym (length-current h.base h.journal))
    (λ n lt. is.settled n (block image n) lt (leaves.each n (omega (arith, lt, base_big h table is.has))))

pub either : (h : History) (table : Table) (c : SlotChange) (image : Image) → IsTried h table c → MayLeave Whole h.base h.journal image → IsEither table c image
either h table c image tried leaves = by (tried.slot (block image c.index) (may c.index (omega (arith, tried.high))))
  where
    may : (n : ℕ) → n < 129 → MayStand h n (block image n)
    may n lt = leaves.each n (omega (arith, lt, tried_big h table c tried))

    high : c.index < length tried.image
    high = omega (arith, tried.high, big tried.image tried.before.device)

    old : block image c.index ≡ block tried.image c.index → (n : ℕ) → n < 129 → block image n ≡ block tried.image n
    old same n lt = elim (cases_eq n c.index) [
      | inl at ↦ subst (λ k. block image k ≡ block tried.image k) (sym at) same
      | inr ne ↦ tried.others n (block image n) lt ne (may n lt)
    ]

    new : block image c.index ≡ spelled c.area → (n : ℕ) → n < 129 → block image n ≡ block (set tried.image c.index (spelled c.area)) n
    new is n lt = elim (cases_eq n c.index) [
      | inl at ↦ subst (λ k. block image k ≡ block (set tried.image c.index (spelled c.area)) k) (sym at) (is ∙ sym (get_or-set_same tried.image c.index (spelled c.area) [] high))
      | inr ne ↦ tried.others n (block image n) lt ne (may n lt) ∙ sym (get_or-set_other tried.image c.index n (spelled c.area) [] ne)
    ]

    by : (block image c.index ≡ block tried.image c.index) ⊎ (block image c.index ≡ spelled c.area) → IsEither table c image
    by (inl same) = inl (same_table table tried.image image tried.before (leaves.size ∙ sym tried.size) (old same))
    by (inr is) = inr (
      same_table (changed c table) (set tried.image c.index (spelled c.area)) image tried.later (leaves.size ∙ sym tried.size ∙ sym (length-set tried.image c.index (spelled c.area))) (new is),
      λ n has. tried.zeros n (block image n) has (leaves.each n (tried.inside n has).1),
    )

-- a write that is one of some events is one of more
pub written_left : (n : ℕ) (es fs : List Event) → IsWritten n es → IsWritten n (es ++ fs)
written_left n [] fs is = absurd is
written_left n (Write m c took ok ∷ es) fs (inl here) = inl here
written_left n (Write m c took ok ∷ es) fs (inr later) = inr (written_left n es fs later)
written_left n (Read m ok ∷ es) fs is = written_left n es fs is
written_left n (Sync ok ∷ es) fs is = written_left n es fs is
written_left n (Out bytes ∷ es) fs is = written_left n es fs is

pub written_later : (n : ℕ) (e : Event) (es : List Event) → IsWritten n es → IsWritten n (e ∷ es)
written_later n (Write m c took ok) es is = inr is
written_later n (Read m ok) es is = is
written_later n (Sync ok) es is = is
written_later n (Out bytes) es is = is

pub spare_first : (blocks : List ℕ) (e : Event) (es : List Event) → Spare blocks (e ∷ es) → Spare blocks (e ∷ [])
spare_first blocks e es spare n is = spare n (written_left n (e ∷ []) es is)

pub spare_rest : (blocks : List ℕ) (e : Event) (es : List Event) → Spare blocks (e ∷ es) → Spare blocks es
spare_rest blocks e es spare n is = spare n (written_later n e es is)

-- such an event adds nothing to what a stop may leave of the table's blocks and of these
spare_narrows : (h : History) (e : Event) (blocks : List ℕ) → Spare blocks (e ∷ []) → (n : ℕ) → n < length h.base → (n < 129) ⊎ Contains blocks n
    → (content : List ℕ) → MayStand (after h (e ∷ [])) n content → MayStand h n content
spare_narrows h (Read m ok) blocks spare n lt is content may = may
spare_narrows h (Out bytes) blocks spare n lt is content may = may
spare_narrows h (Sync ok) blocks spare n lt is content may = sync_narrows Whole (λ c. refl) h.base h.journal ok n lt content may
spare_narrows h (Write m w took ok) blocks spare n lt is content may = other_write Whole h.base h.journal m n w took ok apart content may
  where
    apart : n ≡ m → ⊥
    apart same = ⊎_elim (λ (low : n < 129). absurd (omega (arith, low, same, (spare m (inl refl)).0)))
        (λ has. (spare m (inl refl)).1 (subst (λ k. Contains blocks k) same has)) is

-- and changes none of the table's
spare_current : (h : History) (e : Event) → Spare [] (e ∷ []) → (n : ℕ) → n < 129 → block (current h.base (e ∷ h.journal)) n ≡ block (current h.base h.journal) n
spare_current h (Read m ok) spare n lt = refl
spare_current h (Out bytes) spare n lt = refl
spare_current h (Sync ok) spare n lt = refl
spare_current h (Write m w took ok) spare n lt = current_other h.base h.journal m n w took ok (λ same. omega (arith, lt, same, (spare m (inl refl)).0))

pub stays_once : (h : History) (table : Table) (e : Event) → IsTableOf h table → Spare [] (e ∷ []) → IsTableOf (after h (e ∷ [])) table
stays_once h table e is spare = record {
  has = same_table table (current h.base h.journal) (current h.base (e ∷ h.journal)) is.has (length-current h.base (e ∷ h.journal) ∙ sym (length-current h.base h.journal)) (spare_current h e spare);
  settled = λ n content lt may.
      is.settled n content lt (spare_narrows h e [] spare n (omega (arith, lt, base_big h table is.has)) (inl lt) content may) ∙ sym (spare_current h e spare n lt);
}

pub stays : (h : History) (table : Table) (es : List Event) → IsTableOf h table → Spare [] es → IsTableOf (after h es) table
stays h table [] is spare = is
stays h table (e ∷ es) is spare = stays (after h (e ∷ [])) table es (stays_once h table e is (spare_first [] e es spare)) (spare_rest [] e es spare)

tried_once : (h : History) (table : Table) (c : SlotChange) (e : Event) → IsTried h table c → Spare c.added (e ∷ []) → IsTried (after h (e ∷ [])) table c
tried_once h table c e tried spare = record {
  low = tried.low;
  high = tried.high;
  image = tried.image;
  size = tried.size;
  before = tried.before;
  later = tried.later;
  slot = λ content may. tried.slot content (spare_narrows h e c.added spare c.index (omega (arith, tried.high, room)) (inl (omega (arith, tried.high))) content may);
  others = λ n content lt ne may. tried.others n content lt ne (spare_narrows h e c.added spare n (omega (arith, lt, room)) (inl lt) content may);
  zeros = λ n content has may. tried.zeros n content has (spare_narrows h e c.added spare n (tried.inside n has).1 (inr has) content may);
  inside = tried.inside;
}
  where
    room : 130 ≤ length h.base
    room = tried_big h table c tried

pub stays_tried : (h : History) (table : Table) (c : SlotChange) (es : List Event) → IsTried h table c → Spare c.added es → IsTried (after h es) table c
stays_tried h table c [] tried spare = tried
stays_tried h table c (e ∷ es) tried spare = stays_tried (after h (e ∷ [])) table c es (tried_once h table c e tried (spare_first c.added e es spare)) (spare_rest c.added e es spare)

pub stays_unsettled : (h : History) (table : Table) (c : SlotChange) (es : List Event) → IsUnsettled h table c → Spare c.added es → IsUnsettled (after h es) table c
stays_unsettled h table c es (inl is) spare = inl (stays h table es is (λ n written. ((spare n written).0, λ has. omega (arith, has.1))))
stays_unsettled h table c es (inr tried) spare = inr (stays_tried h table c es tried spare)

pub attached : (image : Image) (table : Table) → HasTable table image → IsTableOf (record { base = image; journal = [] }) table
attached image table has = record { has = has; settled = λ n content lt may. may }

-- a table stands after a sync that succeeded
pub synced : (h : History) (table : Table) → HasTable table (current h.base h.journal) → IsTableOf (after h (Sync true ∷ [])) table
synced h table has = record { has = has; settled = λ n content lt may. may }

pub formatted : (n : ℕ) (es : List Event) → 130 ≤ n → n ≤ 1048576 → Makes (format_calls n) true es → IsTableOf (after (fresh n) es) (replicate 128 None)
formatted n [] low high makes = absurd makes
formatted n (e ∷ es) low high (inr bad) = absurd (cc (bad.1))
formatted n (e ∷ []) low high (inl first) = absurd first.1
formatted n (e ∷ f ∷ es) low high (inl (first, inr bad)) = absurd (cc (bad.1))
formatted n (e ∷ f ∷ (g ∷ es)) low high (inl (first, inl second)) = absurd second.1
formatted n (e ∷ f ∷ []) low high (inl (first, inl second)) =
    subst (λ (x : Event). IsTableOf (after (fresh n) (x ∷ f ∷ [])) (replicate 128 None)) (sym first.2)
    (subst (λ (x : Event). IsTableOf (after (fresh n) (Write 0 (superblock n) first.0 true ∷ x ∷ [])) (replicate 128 None)) (sym second.0)
    (subst (λ (took : Bool). IsTableOf (after (fresh n) (Write 0 (superblock n) took true ∷ Sync true ∷ [])) (replicate 128 None)) (sym (first.1 refl))
    (synced (after (fresh n) (Write 0 (superblock n) true true ∷ [])) (replicate 128 None) (fresh_table n low high))))
