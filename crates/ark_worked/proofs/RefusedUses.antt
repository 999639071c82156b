-- The order of the refusals that concern what is in use: ranges, the table, logs, cards and buffers.
use Rattle.std.proofs.Common.{◌≡◌, ℕ, true, false, Option, Some, List, [], ◌∷◌, ◌++◌, length, codes, replicate, refl}
use Rattle.std.specs.Prelude.{option_map}
use Rattle.std.specs.Fmt.{digits}
use Rattle.ark_base.specs.declared.kind.Kind.TheVariants as kind
use Rattle.ark_media.specs.Journal.{Write, Sync, zero_block}
use Rattle.ark_filters.specs.declared.filter.Direction.TheVariants.{Rx}
use Rattle.ark_script.specs.Line as w
use Rattle.ark_script.specs.Line.{Line}
use Rattle.ark_machine.specs.Row.{answer}
use Rattle.ark_machine.specs.Step.{step}
use Rattle.ark_machine.specs.Machine.{vnic_at}
use Rattle.ark_machine.specs.System.{fresh_system, machine_of}
use Rattle.ark_worked.proofs.Playing.{Played, replies, performed, played}
use Rattle.ark_worked.proofs.Scripts.{quiet, app, area, granting, zeroed, opening_empty}
use Rattle.ark_worked.proofs.Rules.{own_at}
use Rattle.ark_worked.proofs.Labels.{a, k, l, m, n, o, s, u, v, ok}

abbrev given_nic : Played
given_nic = quiet (w.nic (own_at (10 ∷ 0 ∷ 0 ∷ 1 ∷ [])))

-- a raw area of two blocks, bound to two cards of two descriptors, and three buffers of a block
abbrev bound : List Played
bound =
    app a
    ∷ (w.vsa a s 2 kind.Raw, granting (area 1 a s kind.Raw 129 2))
    ∷ quiet (w.vsic a u 2) ∷ quiet (w.bind a u s)
    ∷ quiet (w.vsic a v 2) ∷ quiet (w.bind a v s)
    ∷ quiet (w.buf a m 512) ∷ quiet (w.buf a n 512) ∷ quiet (w.buf a o 512)
    ∷ []

-- a log of two blocks, in the slot and at the block behind that area, that is open on a card
abbrev opened : List ℕ → List Played
opened card = (w.vsa a l 2 kind.Log, granting (area 2 a l kind.Log 131 2)) ∷ (w.log a l card, opening_empty 131 kind.Log) ∷ []

abbrev puts : List ℕ → ℕ → List ℕ → Played
puts card off b = quiet (w.put a card s off 1 b)

-- Ranges, busy cards, lent buffers, full rings.

pub out_of_range-before-busy : replies (fresh_system 200) (bound ++ (opened v ++ puts v 2 m ∷ puts v 1 m ∷ quiet (w.close a l) ∷ puts v 1 m ∷ []))
    ≡ replicate 10 ok ++ codes "ok 1 0" ∷ codes "refused 9 out of range" ∷ codes "refused 16 busy" ∷ ok ∷ ok ∷ []
unfolding step answer digits
out_of_range-before-busy = refl

pub out_of_range-before-lent : replies (fresh_system 200) (bound ++ puts v 0 m ∷ quiet (w.fill a m 512 (1 ∷ [])) ∷ quiet (w.fill a m 511 (1 ∷ [])) ∷ [])
    ≡ replicate 10 ok ++ codes "refused 9 out of range" ∷ codes "refused 15 lent" ∷ []
unfolding step answer
out_of_range-before-lent = refl

pub busy-before-lent : replies (fresh_system 200) (bound ++ (opened v ++ puts u 0 m ∷ puts v 1 m ∷ quiet (w.close a l) ∷ puts v 1 m ∷ []))
    ≡ replicate 10 ok ++ codes "ok 1 0" ∷ ok ∷ codes "refused 16 busy" ∷ ok ∷ codes "refused 15 lent" ∷ []
unfolding step answer digits
busy-before-lent = refl

pub lent-before-ring_full : replies (fresh_system 200) (bound ++ puts v 0 m ∷ puts v 1 n ∷ puts v 0 m ∷ puts v 0 o ∷ [])
    ≡ replicate 11 ok ++ codes "refused 15 lent" ∷ codes "refused 13 ring full" ∷ []
unfolding step answer
lent-before-ring_full = refl

-- a card with a socket, in a region of 8 frames, of which the card's buffers take 6
abbrev small_socket : List Played
small_socket = given_nic ∷ quiet (w.app a (Some 8)) ∷ quiet (w.vnic a v 2 2) ∷ quiet (w.sock a k v 7) ∷ []

abbrev sends_to : ℕ → Played
sends_to len = quiet (w.sendto a k (10 ∷ 0 ∷ 0 ∷ 2 ∷ []) 7 (replicate len 0))

-- a descriptor that has gone out is reaped by the line that is refused then
pub ring_full-before-no_buffer : replies (fresh_system 200) (small_socket ++ sends_to 1 ∷ sends_to 2 ∷ sends_to 600 ∷ quiet (w.dev a v) ∷ sends_to 600 ∷ sends_to 470 ∷ [])
    ≡ replicate 6 ok ++ codes "refused 13 ring full" ∷ codes "done no filter" ∷ codes "refused 14 no buffer" ∷ ok ∷ []
unfolding step answer
ring_full-before-no_buffer = refl

-- how many descriptors are posted and unreaped on the card's transmit ring
abbrev transmits : List Played → Option (ℕ × ℕ)
transmits script = option_map (λ x. (length x.tx.posted, length x.tx.unreaped)) (vnic_at (machine_of (played (fresh_system 200) script) a) v)

abbrev one_sent : List Played
one_sent = small_socket ++ sends_to 1 ∷ sends_to 2 ∷ quiet (w.dev a v) ∷ []

pub unreaped-before_sendto : transmits one_sent ≡ Some (1, 1)
unfolding step answer
unreaped-before_sendto = refl

pub reaped-by_refused_sendto : transmits (one_sent ++ sends_to 600 ∷ []) ≡ Some (1, 0)
unfolding step answer
reaped-by_refused_sendto = refl

-- the receive ring is full of the card's own buffers
pub busy-before-ring_full : replies (fresh_system 200) (small_socket ++ sends_to 1 ∷ quiet (w.buf a m 14) ∷ quiet (w.send a v m 14) ∷ quiet (w.post a v m) ∷ quiet (w.take a v Rx) ∷ [])
    ≡ replicate 6 ok ++ replicate 3 (codes "refused 16 busy")
unfolding step answer
busy-before-ring_full = refl

-- The table.

-- the area's blocks are zero, but the sync before its slot fails
abbrev failed_area : Played
failed_area = (w.vsa a s 2 kind.Raw, zeroed (129 ∷ 130 ∷ []) ++ Sync false ∷ [])

pub table_failed-before-no_space : replies (fresh_system 200) (app a ∷ quiet (w.vsa a s 72 kind.Raw) ∷ failed_area ∷ quiet (w.peek a s 0) ∷ quiet (w.vsa a s 72 kind.Raw) ∷ [])
    ≡ ok ∷ codes "refused 10 no space" ∷ codes "refused 21 device fault" ∷ codes "refused 5 no grant s" ∷ codes "refused 22 table failed" ∷ []
unfolding step answer
table_failed-before-no_space = refl

pub failed_area-performed : performed (fresh_system 200) (app a ∷ quiet (w.vsa a s 72 kind.Raw) ∷ failed_area ∷ quiet (w.vsa a s 72 kind.Raw) ∷ []) ≡ true
unfolding step answer
failed_area-performed = refl

-- an area of a log is dropped: it is open, and then a drop of another one fails
abbrev logged : List Played
logged =
    app a
    ∷ (w.vsa a s 2 kind.Raw, granting (area 1 a s kind.Raw 129 2))
    ∷ quiet (w.vsic a v 2)
    ∷ opened v

abbrev failing_drop : Played
failing_drop = (w.drop a s, Write 1 zero_block true true ∷ Sync false ∷ [])

pub table_failed-before-busy : replies (fresh_system 200) (logged ++ quiet (w.drop a l) ∷ failing_drop ∷ quiet (w.peek a s 0) ∷ quiet (w.drop a l) ∷ quiet (w.drop a v) ∷ [])
    ≡ replicate 4 ok ++ codes "ok 1 0" ∷ codes "refused 16 busy" ∷ codes "refused 21 device fault" ∷ codes "refused 5 no grant s" ∷ codes "refused 22 table failed" ∷ codes "refused 16 busy" ∷ []
unfolding step answer digits
table_failed-before-busy = refl

pub failing_drop-performed : performed (fresh_system 200) (logged ++ quiet (w.drop a l) ∷ failing_drop ∷ quiet (w.drop a l) ∷ []) ≡ true
unfolding step answer
failing_drop-performed = refl
