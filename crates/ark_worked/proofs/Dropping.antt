-- Worked scripts on what ends with an object that is dropped, evaluated.
use Rattle.std.proofs.Common.{◌≡◌, ℕ, true, None, Some, List, [], ◌∷◌, ◌++◌, codes, replicate, refl}
use Rattle.std.specs.Fmt.{digits}
use Rattle.hex.specs.Hex.{encode_with}
use Rattle.ark_base.specs.declared.kind.Kind.TheVariants as kind
use Rattle.ark_media.specs.Journal.{Read}
use Rattle.ark_filters.specs.declared.filter.Direction.TheVariants.{Rx, Tx}
use Rattle.ark_filters.specs.declared.filter.Proto.TheVariants.{Eth}
use Rattle.ark_script.specs.Line as w
use Rattle.ark_script.specs.Line.{spelled}
use Rattle.ark_script.specs.declared.step.Side.TheVariants as side
use Rattle.ark_machine.specs.Row.{answer}
use Rattle.ark_machine.specs.Step.{step}
use Rattle.ark_machine.specs.System.{fresh_system}
use Rattle.ark_worked.proofs.Playing.{Played, replies, performed}
use Rattle.ark_worked.proofs.Scripts.{quiet, app, area, granting, dropping}
use Rattle.ark_worked.proofs.Rules.{own_at, all_services, rule}
use Rattle.ark_worked.proofs.Labels.{a, d, f, k, m, n, r, s, t, v, ok}

abbrev drops : List ℕ → Played
drops x = quiet (w.drop a x)

abbrev given_nic : Played
given_nic = quiet (w.nic (own_at (10 ∷ 0 ∷ 0 ∷ 1 ∷ [])))

abbrev cards : Played
cards = quiet (w.vnic a n 2 2)

abbrev arrives : Played
arrives = quiet (w.wire (spelled (codes "02000000000102000000000288b5")))

-- A dropped card's filters are assigned to none, and a new card under its label has none of them. What is posted keeps a card.
abbrev cards_filters : List Played
cards_filters =
    given_nic ∷ app a ∷ cards
    ∷ quiet (w.filter a f (rule Rx Eth all_services)) ∷ quiet (w.assign a n f)
    ∷ quiet (w.filter a t (rule Tx Eth all_services)) ∷ quiet (w.assign a n t)
    ∷ quiet (w.buf a m 14) ∷ quiet (w.fill a m 0 (spelled (codes "02000000000202000000000188b5")))
    ∷ quiet (w.post a n m) ∷ drops n ∷ arrives ∷ drops n ∷ quiet (w.take a n Rx) ∷ drops n
    ∷ quiet (w.take a n Rx) ∷ arrives
    ∷ cards ∷ arrives ∷ quiet (w.fill a m 0 (spelled (codes "02000000000202000000000188b5"))) ∷ quiet (w.send a n m 14) ∷ quiet (w.dev a n)
    ∷ quiet (w.assign a n f) ∷ arrives ∷ drops f ∷ arrives ∷ quiet (w.assign a n f)
    ∷ quiet (w.assign a n t) ∷ drops n ∷ quiet (w.take a n Tx) ∷ quiet (w.send a n m 14) ∷ quiet (w.dev a n)
    ∷ []

pub cards_filters-replies : replies (fresh_system 200) cards_filters
    ≡ replicate 10 ok ++ codes "refused 16 busy" ∷ codes "delivered a n" ∷ codes "refused 16 busy" ∷ codes "ok m 14" ∷ ok
    ∷ codes "refused 5 no grant n" ∷ codes "dropped no filter"
    ∷ ok ∷ codes "dropped no filter" ∷ ok ∷ ok ∷ codes "done no filter"
    ∷ ok ∷ codes "dropped no buffer a n" ∷ ok ∷ codes "dropped no filter" ∷ codes "refused 5 no grant f"
    ∷ ok ∷ codes "refused 16 busy" ∷ codes "ok m no filter" ∷ ok ∷ codes "sent 02000000000202000000000188b5"
    ∷ []
unfolding step answer encode_with digits
cards_filters-replies = refl

-- A socket keeps its card; a dropped card gives its sockets' buffers back. Without its sockets a card stays a card of sockets.
abbrev cards_sockets : List Played
cards_sockets =
    given_nic ∷ quiet (w.app a (Some 6)) ∷ cards ∷ quiet (w.sock a k n 7) ∷ quiet (w.buf a m 1)
    ∷ drops n ∷ drops k ∷ quiet (w.take a n Rx) ∷ quiet (w.buf a m 1) ∷ quiet (w.sock a k n 8) ∷ drops k
    ∷ drops n ∷ quiet (w.buf a m 3072) ∷ drops m
    ∷ []

pub cards_sockets-replies : replies (fresh_system 200) cards_sockets
    ≡ ok ∷ ok ∷ ok ∷ ok ∷ codes "refused 14 no buffer"
    ∷ codes "refused 16 busy" ∷ ok ∷ codes "refused 16 busy" ∷ codes "refused 14 no buffer" ∷ ok ∷ ok
    ∷ ok ∷ ok ∷ codes "refused 6 wrong kind"
    ∷ []
unfolding step answer
cards_sockets-replies = refl

-- A rate that paces and a doorbell that watches are kept, until the queue or its card lets them go.
abbrev rates_doors : List Played
rates_doors =
    app a ∷ quiet (w.vsic a v 2) ∷ quiet (w.rate a r 0 512) ∷ quiet (w.door a d)
    ∷ quiet (w.pace a v (Some r) side.Io) ∷ quiet (w.watch a v (Some d) side.Io)
    ∷ drops r ∷ drops d ∷ quiet (w.pace a v None side.Io) ∷ drops r ∷ drops d
    ∷ drops v ∷ drops d ∷ quiet (w.look a d)
    ∷ []

pub rates_doors-replies : replies (fresh_system 200) rates_doors
    ≡ replicate 6 ok
    ++ codes "refused 16 busy" ∷ codes "refused 16 busy" ∷ ok ∷ ok ∷ codes "refused 16 busy"
    ∷ ok ∷ ok ∷ codes "refused 5 no grant d"
    ∷ []
unfolding step answer
rates_doors-replies = refl

abbrev gets : Played
gets = quiet (w.get a v s 0 1 m)

abbrev reaps : Played
reaps = quiet (w.reap a v)

abbrev new_area : Played
new_area = (w.vsa a s 1 kind.Raw, granting (area 1 a s kind.Raw 129 1))

-- Bindings end with the card and with the area: neither a new card nor a new area under an old label has them.
abbrev bindings : List Played
bindings =
    app a ∷ quiet (w.vsic a v 2) ∷ new_area ∷ quiet (w.buf a m 512)
    ∷ quiet (w.bind a v s) ∷ quiet (w.bind a v s)
    ∷ gets ∷ drops v ∷ (w.dev a v, Read 129 true ∷ []) ∷ drops v ∷ reaps ∷ drops v
    ∷ quiet (w.vsic a v 2) ∷ gets ∷ quiet (w.dev a v) ∷ reaps
    ∷ quiet (w.bind a v s) ∷ gets ∷ (w.drop a s, dropping 1) ∷ new_area ∷ quiet (w.bind a v s) ∷ quiet (w.dev a v) ∷ reaps
    ∷ gets ∷ (w.dev a v, Read 129 true ∷ []) ∷ reaps ∷ reaps
    ∷ gets ∷ quiet (w.unbind a v s) ∷ quiet (w.unbind a v s) ∷ quiet (w.dev a v) ∷ reaps
    ∷ []

abbrev ungranted : List (List ℕ)
ungranted = codes "done no grant" ∷ codes "ok get m no grant" ∷ []

abbrev got : List (List ℕ)
got = codes "done ok" ∷ codes "ok get m ok" ∷ []

pub bindings-replies : replies (fresh_system 200) bindings
    ≡ replicate 7 ok ++ codes "refused 16 busy" ∷ codes "done ok" ∷ codes "refused 16 busy" ∷ codes "ok get m ok" ∷ ok
    ∷ ok ∷ ok ∷ (ungranted ++ replicate 5 ok ++ ungranted
    ++ ok ∷ (got ++ codes "ok nothing" ∷ ok ∷ ok ∷ ok ∷ ungranted))
unfolding step answer
bindings-replies = refl

pub bindings-performed : performed (fresh_system 200) bindings ≡ true
unfolding step answer
bindings-performed = refl
