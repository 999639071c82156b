-- A worked script of ordinary use: a socket, and the logs of two applications, evaluated.
use Rattle.std.proofs.Common.{◌≡◌, ℕ, ◌+◌, true, Some, List, [], ◌∷◌, ◌++◌, codes, replicate, refl}
use Rattle.std.specs.Prelude.{decimal}
use Rattle.std.specs.Fmt.{digits}
use Rattle.std.specs.List.{flat_map, range_with_len}
use Rattle.hex.specs.Hex.{encode_with}
use Rattle.ark_base.specs.declared.kind.Kind.TheVariants as kind
use Rattle.ark_media.specs.Journal.{Read}
use Rattle.ark_entry.specs.Entry.{entry_bytes, marked}
use Rattle.ark_filters.specs.declared.filter.Direction.TheVariants.{Rx, Tx}
use Rattle.ark_filters.specs.declared.filter.Proto.TheVariants.{Udp}
use Rattle.ark_script.specs.Line as w
use Rattle.ark_script.specs.Line.{spelled}
use Rattle.ark_script.specs.declared.step.Side.TheVariants as side
use Rattle.ark_machine.specs.Row.{answer}
use Rattle.ark_machine.specs.Step.{step}
use Rattle.ark_machine.specs.System.{fresh_system}
use Rattle.ark_worked.proofs.Playing.{Played, replies, performed}
use Rattle.ark_worked.proofs.Scripts.{quiet, app, area, granting, opening_empty, appending}
use Rattle.ark_worked.proofs.Rules.{own_at, between, rule}
use Rattle.ark_worked.proofs.Labels.{db, n, l, j}

abbrev web : List ℕ
web = codes "web"

abbrev gateway : List ℕ
gateway = 10 ∷ 0 ∷ 0 ∷ 2 ∷ []

-- the append of an entry of one byte to the log whose header is at a block, as its entry of this number at the same place
-- of the ring, and the line that settles it
abbrev appended : List ℕ → List ℕ → ℕ → ℕ → ℕ → List Played
appended a s header number byte =
    quiet (w.append a s (byte ∷ []))
    ∷ (w.settle a s, appending (header + number) (entry_bytes number number (byte ∷ [])) (marked (entry_bytes number number (byte ∷ []))))
    ∷ []

abbrev serving : List Played
serving =
    quiet (w.nic (own_at (10 ∷ 0 ∷ 0 ∷ 1 ∷ [])))
    ∷ app web
    ∷ quiet (w.vnic web n 8 8)
    ∷ quiet (w.filter web (codes "fi") (rule Rx Udp (between 8080 8080)))
    ∷ quiet (w.filter web (codes "fo") (rule Tx Udp (between 8080 8080)))
    ∷ quiet (w.assign web n (codes "fi"))
    ∷ quiet (w.assign web n (codes "fo"))
    ∷ quiet (w.rate web (codes "r") 1500 15000)
    ∷ quiet (w.pace web n (Some (codes "r")) side.Tx)
    ∷ quiet (w.sock web (codes "k") n 8080)
    ∷ quiet (w.vsic web (codes "w") 4)
    ∷ (w.vsa web l 64 kind.Log, granting (area 1 web l kind.Log 129 64))
    ∷ (w.log web l (codes "w"), opening_empty 129 kind.Log)
    ∷ appended web l 129 1 71

abbrev storing : List Played
storing =
    app db
    ∷ quiet (w.vsic db (codes "v") 16)
    ∷ (w.vsa db j 256 kind.Log, granting (area 2 db j kind.Log 193 256))
    ∷ (w.log db j (codes "v"), opening_empty 193 kind.Log)
    ∷ flat_map (λ i. appended db j 193 i i) (range_with_len 1 10)

abbrev answering : List Played
answering =
    quiet (w.wire (spelled (codes "02000000000102000000000208004500001e00000000401166cd0a0000020a00000100071f90000a63d76869")))
    ∷ quiet (w.recv web (codes "k"))
    ∷ quiet (w.sendto web (codes "k") gateway 7 (codes "ok"))
    ∷ quiet (w.dev web n)
    ∷ (w.walk db j 10, Read 203 true ∷ [])
    ∷ []

-- Lines of two applications, each with a log; a datagram comes in, and one goes out.
abbrev ordinary : List Played
ordinary = serving ++ (storing ++ answering)

pub ordinary-replies : replies (fresh_system 2000) ordinary
    ≡ replicate 12 (codes "ok") ++ (codes "ok 1 0" ∷ codes "ok 1" ∷ codes "acked append 1" ∷ [])
    ++ (codes "ok" ∷ codes "ok" ∷ codes "ok" ∷ codes "ok 1 0" ∷ [])
    ++ flat_map (λ i. (codes "ok " ++ decimal i) ∷ (codes "acked append " ++ decimal i) ∷ []) (range_with_len 1 10)
    ++ codes "delivered web n"
    ∷ codes "ok 10.0.0.2 7 6869"
    ∷ codes "ok"
    ∷ codes "sent 02000000000202000000000108004500001e00000000401166cd0a0000010a0000021f900007000a5cd56f6b"
    ∷ codes "ok 0a"
    ∷ []
unfolding step answer encode_with digits
ordinary-replies = refl

pub ordinary-performed : performed (fresh_system 2000) ordinary ≡ true
unfolding step answer
ordinary-performed = refl
