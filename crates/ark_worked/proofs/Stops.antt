-- What stops leave, in worked scripts.
use Rattle.std.proofs.Common.{◌≡◌, inl, inr, ℕ, zero, suc, ◌<◌, true, List, [], ◌∷◌, ◌++◌, length, replicate, codes, refl, sym, subst, ap, arith}
use Rattle.std.specs.Fmt.{digits}
use Rattle.std.specs.Prelude.{Ok, Some, None, Contains, slice_index_or}
use Rattle.ark_base.specs.declared.kind.Kind.TheVariants as kind
use Rattle.ark_media.specs.Journal.{Event, Write, Sync, onto, current, block, zero_block}
use Rattle.ark_media.specs.Stops.{MayLeave, Whole}
use Rattle.ark_media.proofs.Stopping.{now_may}
use Rattle.ark_table.specs.Superblock.{superblock}
use Rattle.ark_table.specs.Slots.{Slot, slots_of}
use Rattle.ark_entry.specs.Entry.{entry_bytes, marked}
use Rattle.ark_entry.specs.Found.{found, found_of}
use Rattle.ark_entry.specs.Header.{header_bytes}
use Rattle.ark_script.specs.Line as w
use Rattle.ark_machine.specs.Row.{answer}
use Rattle.ark_machine.specs.Step.{step}
use Rattle.ark_machine.specs.Start.{contents_at}
use Rattle.ark_machine.specs.System.{System, fresh_system}
use Rattle.ark_machine.specs.Recovers.{Recovers, begun, ContentStands, log_choices}
use Rattle.ark_worked.proofs.Playing.{Played, played, replies, performed}
use Rattle.ark_worked.proofs.Scripts.{quiet, app, area, granting, dropping}
use Rattle.ark_worked.proofs.Logs.{with_log, opened}
use Rattle.ark_worked.proofs.Images.{history}
use Rattle.ark_worked.proofs.Labels.{a, l, r, b, v}

abbrev pub base : List (List ℕ)
base = replicate 200 zero_block

abbrev no_slot : Slot
no_slot = record { index = 0; app = []; label = []; kind = kind.Raw; blocks = [] }

-- the only one
pub single : (t u : Slot) → Contains (t ∷ []) u → u ≡ t
single t u (zero, lt, is) = sym is
single t u (suc k, lt, is) = absurd (omega (arith, lt))

-- An append that is settled, and a stop before its last sync: it is found with the entry, or without it.

abbrev entry : List ℕ
entry = entry_bytes 1 1 (104 ∷ [])

abbrev pub appended : List Played
appended = with_log kind.Log 4 ++ (opened ++ (quiet (w.append a l (104 ∷ [])) ∷ []))

abbrev before_settle : System
before_settle = played (fresh_system 200) appended

abbrev rest : List Event
rest = Write 130 entry true true ∷ Sync true ∷ Write 130 (marked entry) true true ∷ []

abbrev journal : List Event
journal = onto (history 200 appended ++ rest) []

abbrev pub without_entry : List (List ℕ)
without_entry = current base (onto (history 200 appended ++ (Write 130 entry true true ∷ [])) [])

abbrev pub with_entry : List (List ℕ)
with_entry = current base journal

pub may_be_without : MayLeave Whole base journal without_entry
unfolding superblock
may_be_without = record { size = refl; each = λ n lt. inr refl }

pub may_be_with : MayLeave Whole base journal with_entry
unfolding superblock
may_be_with = record { size = refl; each = λ n lt. now_may Whole (λ c. refl) base journal n lt }

pub begins_no_change : begun before_settle (Some (Ok (w.settle a l))) ≡ None
unfolding step answer
begins_no_change = refl

abbrev pub log_slot : Slot
log_slot = area 1 a l kind.Log 129 4

pub found_without : found_of kind.Log (contents_at without_entry log_slot.blocks) ≡ found (record { first = 1; payloads = [] })
unfolding superblock
found_without = refl

pub found_with : found_of kind.Log (contents_at with_entry log_slot.blocks) ≡ found (record { first = 1; payloads = (104 ∷ []) ∷ [] })
unfolding superblock
found_with = refl

pub lists_both : log_choices before_settle None log_slot ≡ found (record { first = 1; payloads = [] }) ∷ found (record { first = 1; payloads = (104 ∷ []) ∷ [] }) ∷ []
unfolding step answer
lists_both = refl

-- one log in one slot, which nothing changes: what is left of its list is all that is to be shown
pub recovers_log : (s : System) (rest : List Event) (t : Slot) (image : List (List ℕ)) → s.plane.slots ≡ t ∷ [] → t.kind ≡ kind.Log → slots_of image ≡ Ok (t ∷ [])
    → Contains (log_choices s None t) (found_of kind.Log (contents_at image t.blocks)) → Recovers s None rest image
recovers_log s rest t image held is_log read there = record {
  slots = t ∷ [];
  readable = read;
  held = λ u h. inl (u, subst (λ ts. Contains ts u) held h, inl (inl refl));
  others = λ u h. inl (0, t, subst (λ ts. 0 < length ts) (sym held) (omega arith), subst (λ ts. slice_index_or ts 0 t ≡ t) (sym held) refl, inl (inl (single t u h)));
  contents = λ u h. subst (λ x. ContentStands s None rest image x x.kind) (sym (single t u h)) (subst (λ k. ContentStands s None rest image t k) (sym is_log) (subst (λ k. Contains (log_choices s None t) (found_of k (contents_at image t.blocks))) (sym is_log) there));
}

pub recovers_without : Recovers before_settle None rest without_entry
unfolding step answer superblock
recovers_without = recovers_log before_settle rest log_slot without_entry refl refl refl (0, omega arith, refl)

pub recovers_with : Recovers before_settle None rest with_entry
unfolding step answer superblock
recovers_with = recovers_log before_settle rest log_slot with_entry refl refl refl (1, omega arith, refl)

-- once the append is acknowledged, a stop leaves the image that stands: the entry is found
abbrev pub acknowledged : List Played
acknowledged = appended ++ ((w.settle a l, rest ++ (Sync true ∷ [])) ∷ [])

pub only_with : (image : List (List ℕ)) → MayLeave Whole base (onto (history 200 acknowledged) []) image → (n : ℕ) → n < 200 → block image n ≡ block with_entry n
unfolding superblock
only_with image left n lt = left.each n lt

-- An old entry's bytes in blocks that are granted anew: no stop shows it in the new log.

abbrev pub reused : List Played
reused =
    app b
    ∷ (w.vsa b r 4 kind.Raw, granting (area 1 b r kind.Raw 129 4))
    ∷ (w.poke b r 1 (marked entry), Write 130 (marked entry) true true ∷ [])
    ∷ (w.drop b r, dropping 1)
    ∷ app a
    ∷ (w.vsa a l 4 kind.Log, granting log_slot)
    ∷ []

pub zero_again : (image : List (List ℕ)) → MayLeave Whole base (onto (history 200 reused) []) image → contents_at image log_slot.blocks ≡ replicate 4 zero_block
unfolding superblock
zero_again image left =
    rw (left.each 129 (omega arith)) (rw (left.each 130 (omega arith)) (rw (left.each 131 (omega arith)) (rw (left.each 132 (omega arith)) refl)))

pub nothing_found : (image : List (List ℕ)) → MayLeave Whole base (onto (history 200 reused) []) image → found_of kind.Log (contents_at image log_slot.blocks) ≡ found (record { first = 1; payloads = [] })
nothing_found image left = ap (λ x. found_of kind.Log x) (zero_again image left)

-- The replies of this script.

abbrev reused_log : List Played
reused_log = reused ++ (quiet (w.vsic a v 2) ∷ (w.log a l v, Sync true ∷ Write 129 (header_bytes kind.Log 1 0 0 0) true true ∷ Sync true ∷ []) ∷ [])

pub reused_log-replies : replies (fresh_system 200) reused_log
    ≡ codes "ok" ∷ codes "ok" ∷ codes "ok" ∷ codes "ok" ∷ codes "ok" ∷ codes "ok" ∷ codes "ok" ∷ codes "ok 1 0" ∷ []
unfolding step answer digits
reused_log-replies = refl

pub reused_log-performed : performed (fresh_system 200) reused_log ≡ true
unfolding step answer
reused_log-performed = refl
