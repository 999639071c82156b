-- A worked script that fills the limits of applications, evaluated.
use Rattle.std.proofs.Common.{◌≡◌, ℕ, ◌+◌, ◌-◌, ◌*◌, true, Some, List, [], ◌∷◌, ◌++◌, map, codes, replicate, refl}
use Rattle.std.specs.Prelude.{decimal}
use Rattle.std.specs.Fmt.{digits}
use Rattle.std.specs.List.{flat_map, range_with_len}
use Rattle.ark_base.specs.declared.kind.Kind.TheVariants as kind
use Rattle.ark_filters.specs.declared.filter.Direction.TheVariants.{Tx}
use Rattle.ark_filters.specs.declared.filter.Proto.TheVariants.{Eth}
use Rattle.ark_script.specs.Line as w
use Rattle.ark_machine.specs.Row.{answer}
use Rattle.ark_machine.specs.Step.{step}
use Rattle.ark_machine.specs.System.{fresh_system}
use Rattle.ark_worked.proofs.Playing.{Played, replies, performed}
use Rattle.ark_worked.proofs.Scripts.{quiet, app, area, granting, opening_empty}
use Rattle.ark_worked.proofs.Rules.{own_at, all_services, rule}
use Rattle.ark_worked.proofs.Labels.{ok, n}

abbrev to : ℕ → List ℕ
to last = range_with_len 1 last

abbrev named : List ℕ → ℕ → List ℕ
named letter i = letter ++ decimal i

abbrev owner : ℕ → List ℕ
owner i = named (codes "p") i

-- the slot of log j of application i, and its first block
abbrev slot : ℕ → ℕ → ℕ
slot i j = 7 * i + j - 7

abbrev header : ℕ → ℕ → ℕ
header i j = 127 + 2 * slot i j

-- a card and a log of two blocks
abbrev logged : ℕ → ℕ → List Played
logged i j =
    quiet (w.vsic (owner i) (named (codes "v") j) 256)
    ∷ (w.vsa (owner i) (named (codes "l") j) 2 kind.Log, granting (area (slot i j) (owner i) (named (codes "l") j) kind.Log (header i j) 2))
    ∷ []

abbrev opens : ℕ → ℕ → Played
opens i j = (w.log (owner i) (named (codes "l") j) (named (codes "v") j), opening_empty (header i j) kind.Log)

-- 8 cards, 7 logs that are open, 16 filters, and 8 sockets
abbrev filled : ℕ → List Played
filled i =
    quiet (w.app (owner i) (Some 1024))
    ∷ flat_map (logged i) (to 7)
    ++ quiet (w.vnic (owner i) n 8 256)
    ∷ map (λ j. quiet (w.filter (owner i) (named (codes "f") j) (rule Tx Eth all_services))) (to 16)
    ++ map (λ j. quiet (w.sock (owner i) (named (codes "k") j) n j)) (to 8)
    ++ map (opens i) (to 7)

abbrev filled_said : List (List ℕ)
filled_said = replicate 40 ok ++ replicate 7 (codes "ok 1 0")

-- Two of 16 applications are full, each by itself.
abbrev all_full : List Played
all_full =
    quiet (w.nic (own_at (10 ∷ 0 ∷ 0 ∷ 1 ∷ [])))
    ∷ filled 1 ++ filled 2 ++ map (λ i. app (owner i)) (range_with_len 3 14)

abbrev refused : List Played
refused =
    app (codes "q")
    ∷ quiet (w.vsic (owner 1) (codes "v8") 2)
    ∷ quiet (w.filter (owner 1) (codes "g") (rule Tx Eth all_services))
    ∷ quiet (w.sock (owner 1) (codes "k9") n 9)
    ∷ quiet (w.vsic (owner 3) (codes "v8") 2)
    ∷ []

pub all_full-replies : replies (fresh_system 400) (all_full ++ refused)
    ≡ ok ∷ filled_said ++ filled_said ++ replicate 14 ok ++ replicate 4 (codes "refused 7 limit") ++ ok ∷ []
unfolding step answer digits
all_full-replies = refl

pub all_full-performed : performed (fresh_system 400) all_full ≡ true
unfolding step answer digits
all_full-performed = refl
