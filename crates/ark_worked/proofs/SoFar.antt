-- A worked script through the turns of the words that the program runs.
use Rattle.std.proofs.Common.{◌≡◌, ℕ, Bool, true, false, ◌&&◌, List, [], ◌∷◌, codes, refl}
use Rattle.std.specs.Fmt.{digits}
use Rattle.std.specs.Prelude.{Ok}
use Rattle.hex.specs.Hex.{encode_with}
use Rattle.ark_base.specs.declared.kind.Kind.TheVariants as kind
use Rattle.ark_media.specs.Journal.{Read, Write}
use Rattle.ark_script.specs.Line as w
use Rattle.ark_machine.specs.Bytes.{padded}
use Rattle.ark_machine.specs.Row.{answer}
use Rattle.ark_machine.specs.Step.{step}
use Rattle.ark_machine.specs.System.{System, Turn, owner, fresh_system}
use Rattle.ark_machine.specs.Built.{turn}
use Rattle.ark_machine.specs.Follow.{ends_of}
use Rattle.ark_worked.proofs.Playing.{Played, words_said, performs_for}
use Rattle.ark_worked.proofs.Scripts.{quiet, app, area, granting}
use Rattle.ark_worked.proofs.Labels.{a, b, s, t}

abbrev turned : System → Played → Turn
turned s p = turn s (Ok p.0) (ends_of p.1) false

abbrev replies : System → List Played → List (List ℕ)
replies s [] = []
replies s (p ∷ ps) = words_said (turned s p) ∷ replies (turned s p).after ps

abbrev performed : System → List Played → Bool
performed s [] = true
performed s (p ∷ ps) = performs_for s p.0 (turned s p) p.1 (owner p.0) && performed (turned s p).after ps

abbrev own_blocks : List Played
own_blocks =
    app a
    ∷ (w.vsa a s 2 kind.Raw, granting (area 1 a s kind.Raw 129 2))
    ∷ (w.poke a s 1 (10 ∷ 255 ∷ []), Write 130 (padded (10 ∷ 255 ∷ [])) true true ∷ [])
    ∷ (w.peek a s 1, Read 130 true ∷ [])
    ∷ (w.peek a s 0, Read 129 true ∷ [])
    ∷ quiet (w.peek a s 2)
    ∷ app b
    ∷ quiet (w.peek b s 0)
    ∷ []

pub own_blocks-replies : replies (fresh_system 200) own_blocks
    ≡ codes "ok" ∷ codes "ok" ∷ codes "ok" ∷ codes "ok 0aff" ∷ codes "ok -" ∷ codes "refused 9 out of range" ∷ codes "ok" ∷ codes "refused 5 no grant s" ∷ []
unfolding step answer encode_with digits
own_blocks-replies = refl

pub own_blocks-performed : performed (fresh_system 200) own_blocks ≡ true
unfolding step answer
own_blocks-performed = refl

-- the blocks of a log are not looked at one by one, those of a raw area are
abbrev log_blocks : List Played
log_blocks =
    app a
    ∷ (w.vsa a s 2 kind.Log, granting (area 1 a s kind.Log 129 2))
    ∷ quiet (w.peek a s 0)
    ∷ quiet (w.poke a s 1 (1 ∷ []))
    ∷ (w.vsa a t 1 kind.Raw, granting (area 2 a t kind.Raw 131 1))
    ∷ (w.peek a t 0, Read 131 true ∷ [])
    ∷ []

pub log_blocks-replies : replies (fresh_system 200) log_blocks
    ≡ codes "ok" ∷ codes "ok" ∷ codes "refused 6 wrong kind" ∷ codes "refused 6 wrong kind" ∷ codes "ok" ∷ codes "ok -" ∷ []
unfolding step answer encode_with digits
log_blocks-replies = refl

pub log_blocks-performed : performed (fresh_system 200) log_blocks ≡ true
unfolding step answer
log_blocks-performed = refl
