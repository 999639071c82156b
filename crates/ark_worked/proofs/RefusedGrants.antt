-- The order of the refusals that concern free blocks, overlaps and memory.
use Rattle.std.proofs.Common.{◌≡◌, ℕ, ◌+◌, ◌*◌, true, false, None, Some, List, [], ◌∷◌, ◌++◌, map, codes, replicate, refl}
use Rattle.std.specs.Prelude.{decimal}
use Rattle.std.specs.Fmt.{digits}
use Rattle.std.specs.List.{flat_map, range_with_len}
use Rattle.ark_base.specs.declared.kind.Kind.TheVariants as kind
use Rattle.ark_media.specs.Journal.{Event, Write, Sync, zero_block}
use Rattle.ark_table.specs.Slots.{Slot, slot_bytes}
use Rattle.ark_filters.specs.declared.filter.Direction.TheVariants.{Rx, Tx}
use Rattle.ark_filters.specs.declared.filter.Proto.TheVariants.{Udp}
use Rattle.ark_script.specs.Line as w
use Rattle.ark_script.specs.Line.{Line}
use Rattle.ark_machine.specs.Start.{start_system}
use Rattle.ark_machine.specs.Row.{answer}
use Rattle.ark_machine.specs.Step.{step}
use Rattle.ark_machine.specs.System.{System, fresh_system}
use Rattle.ark_worked.proofs.Playing.{Played, replies, performed}
use Rattle.ark_worked.proofs.Scripts.{quiet, app, area, granting, dropping, zeroed, opening_empty, failed_read, numbered, reply_after}
use Rattle.ark_worked.proofs.Rules.{own_at, between, rule}
use Rattle.ark_worked.proofs.Labels.{a, f, g, k, l, n, s, v, ok}

abbrev given_nic : Played
given_nic = quiet (w.nic (own_at (10 ∷ 0 ∷ 0 ∷ 1 ∷ [])))

-- Blocks.

-- some of 17 areas of one block each, in every second of 34 data blocks: those from i on, of one application
abbrev apart : List ℕ → ℕ → ℕ → List Slot
apart owner i count = map (λ j. area j owner (codes "s" ++ decimal j) kind.Raw (127 + 2 * j) 1) (range_with_len i count)

-- 17 blocks are free, no two of them neighbours
abbrev scattered : System
scattered = start_system (replicate 163 zero_block) (apart (codes "b") 1 8 ++ (apart (codes "c") 9 8 ++ apart (codes "d") 17 1))

-- the free blocks, by their order
abbrev free : ℕ → List ℕ
free count = map (λ j. 128 + 2 * j) (range_with_len 1 count)

abbrev asks : ℕ → Line
asks count = w.vsa a s count kind.Raw

abbrev spread : Slot
spread = record { index = 18; app = a; label = s; kind = kind.Raw; blocks = free 16 }

abbrev granted : List Played
granted = app a ∷ quiet (asks 18) ∷ quiet (asks 17) ∷ (asks 16, granting spread) ∷ quiet (w.grow a s 2) ∷ quiet (w.grow a s 1) ∷ []

pub no_space-before-scattered : replies scattered granted
    ≡ ok ∷ codes "refused 10 no space" ∷ codes "refused 11 scattered" ∷ ok ∷ codes "refused 10 no space" ∷ codes "refused 11 scattered" ∷ []
unfolding step answer digits
no_space-before-scattered = refl

pub granted-performed : performed scattered granted ≡ true
unfolding step answer digits
granted-performed = refl

pub scattered-before-device_fault : reply_after scattered (app a ∷ []) (asks 17) (failed_read ∷ []) false ≡ codes "refused 11 scattered"
unfolding step answer digits
scattered-before-device_fault = refl

-- eight areas of an application are stored, and 128 of sixteen
pub limit-before-no_space : replies scattered (app (codes "b") ∷ quiet (w.vsa (codes "b") s 18 kind.Raw) ∷ []) ≡ ok ∷ codes "refused 7 limit" ∷ []
unfolding step answer digits
limit-before-no_space = refl

abbrev all_slots : System
all_slots = start_system (replicate 400 zero_block) (flat_map (λ j. apart (codes "p" ++ decimal j) (8 * j + 1) 8) (range_with_len 0 16))

pub limit-of-slots : replies all_slots (app a ∷ quiet (asks 400) ∷ quiet (w.drop (codes "p3") (codes "s25")) ∷ app (codes "p3") ∷ (w.drop (codes "p3") (codes "s25"), dropping 25) ∷ quiet (asks 400) ∷ [])
    ≡ ok ∷ codes "refused 7 limit" ∷ codes "refused 3 no application" ∷ ok ∷ ok ∷ codes "refused 10 no space" ∷ []
unfolding step answer digits
limit-of-slots = refl

-- the last sync of a grant fails: nothing is granted, and the table has failed
abbrev failing_sync : Slot → List Event
failing_sync t = zeroed t.blocks ++ Sync true ∷ Write t.index (slot_bytes t) true true ∷ Sync false ∷ []

abbrev failing_grant : List Played
failing_grant = app a ∷ (asks 2, failing_sync (area 1 a s kind.Raw 129 2)) ∷ quiet (w.peek a s 0) ∷ quiet (asks 1) ∷ []

pub device_fault-grants_nothing : replies (fresh_system 200) failing_grant
    ≡ ok ∷ codes "refused 21 device fault" ∷ codes "refused 5 no grant s" ∷ codes "refused 22 table failed" ∷ []
unfolding step answer
device_fault-grants_nothing = refl

pub failing_grant-performed : performed (fresh_system 200) failing_grant ≡ true
unfolding step answer
failing_grant-performed = refl

-- Overlaps.

abbrev filtered : List Played
filtered = given_nic ∷ app a ∷ quiet (w.filter a f (rule Rx Udp (between 100 200))) ∷ []

abbrev filters : List ℕ → ℕ → Line
filters label low = w.filter a label (rule Rx Udp (between low 300))

pub limit-before-overlap : replies (fresh_system 200) (filtered ++ (map (λ x. quiet (w.filter a x (rule Tx Udp (between 1 2)))) (numbered g 15) ++ quiet (filters g 200) ∷ quiet (w.drop a (codes "g1")) ∷ quiet (filters g 200) ∷ quiet (filters g 201) ∷ []))
    ≡ replicate 18 ok ++ codes "refused 7 limit" ∷ ok ∷ codes "refused 12 overlap a f" ∷ ok ∷ []
unfolding step answer digits
limit-before-overlap = refl

pub overlap-before-no_memory : reply_after (fresh_system 200) filtered (filters g 200) [] true ≡ codes "refused 12 overlap a f"
unfolding step answer
overlap-before-no_memory = refl

-- the earliest of two that overlap is named
pub overlap-of-the-earliest : replies (fresh_system 200) (filtered ++ quiet (filters g 201) ∷ app (codes "b") ∷ quiet (w.filter (codes "b") k (rule Rx Udp (between 150 250))) ∷ quiet (w.drop a f) ∷ quiet (w.filter (codes "b") k (rule Rx Udp (between 150 250))) ∷ [])
    ≡ replicate 5 ok ++ codes "refused 12 overlap a f" ∷ ok ∷ codes "refused 12 overlap a g" ∷ []
unfolding step answer
overlap-of-the-earliest = refl

-- Memory: what finds none is refused so where no earlier refusal holds.

abbrev lacking : List Played → Line → List ℕ
lacking script line = reply_after (fresh_system 200) script line [] true

abbrev no_memory : List ℕ
no_memory = codes "refused 20 no memory"

pub app-no_memory : lacking [] (w.app a None) ≡ no_memory
unfolding step answer
app-no_memory = refl

pub name_taken-before-no_memory : lacking (app a ∷ []) (w.app a None) ≡ codes "refused 4 name taken"
unfolding step answer
name_taken-before-no_memory = refl

pub vsic-no_memory : lacking (app a ∷ []) (w.vsic a v 2) ≡ no_memory
unfolding step answer
vsic-no_memory = refl

pub limit-before-no_memory : lacking (app a ∷ map (λ x. quiet (w.vsic a x 2)) (numbered v 8)) (w.vsic a v 2) ≡ codes "refused 7 limit"
unfolding step answer digits
limit-before-no_memory = refl

pub filter-no_memory : lacking filtered (filters g 201) ≡ no_memory
unfolding step answer
filter-no_memory = refl

-- a network card in a region of six frames or of five
abbrev carded : ℕ → List Played
carded frames = given_nic ∷ quiet (w.app a (Some frames)) ∷ quiet (w.vnic a n 2 2) ∷ []

pub sock-no_memory : lacking (carded 6) (w.sock a k n 7) ≡ no_memory
unfolding step answer
sock-no_memory = refl

pub no_buffer-before-no_memory : lacking (carded 5) (w.sock a k n 7) ≡ codes "refused 14 no buffer"
unfolding step answer
no_buffer-before-no_memory = refl

-- a log on a card
abbrev logged : List Played
logged = app a ∷ quiet (w.vsic a v 2) ∷ (w.vsa a l 2 kind.Log, granting (area 1 a l kind.Log 129 2)) ∷ []

pub log-no_memory : lacking logged (w.log a l v) ≡ no_memory
unfolding step answer
log-no_memory = refl

pub busy-before-no_memory : lacking (logged ++ (w.log a l v, opening_empty 129 kind.Log) ∷ []) (w.log a l v) ≡ codes "refused 16 busy"
unfolding step answer
busy-before-no_memory = refl
