-- A worked script on areas that are given up, evaluated: each refusal, and the nearest line that is accepted.
use Rattle.std.proofs.Common.{◌≡◌, true, false, List, [], ◌∷◌, codes, refl}
use Rattle.std.specs.Fmt.{digits}
use Rattle.hex.specs.Hex.{encode_with}
use Rattle.ark_base.specs.declared.kind.Kind.TheVariants as kind
use Rattle.ark_media.specs.Journal.{Write, zero_block}
use Rattle.ark_script.specs.Line as w
use Rattle.ark_machine.specs.Row.{answer}
use Rattle.ark_machine.specs.Step.{step}
use Rattle.ark_machine.specs.System.{fresh_system}
use Rattle.ark_worked.proofs.Playing.{Played, replies, performed}
use Rattle.ark_worked.proofs.Scripts.{quiet, app, area, granting, dropping}
use Rattle.ark_worked.proofs.Labels.{a, m, s, t, ok}

-- The block of an area that is given up is granted again. Where the slot's write fails the label is gone, and no area is given up any more.
abbrev given_up : List Played
given_up =
    quiet (w.drop a s) ∷ app a ∷ quiet (w.drop a s) ∷ quiet (w.buf a m 1) ∷ quiet (w.drop a m)
    ∷ (w.vsa a s 1 kind.Raw, granting (area 1 a s kind.Raw 129 1)) ∷ quiet (w.drop a t) ∷ (w.drop a s, dropping 1) ∷ quiet (w.drop a s)
    ∷ (w.vsa a s 1 kind.Raw, granting (area 1 a s kind.Raw 129 1)) ∷ (w.vsa a t 2 kind.Raw, granting (area 2 a t kind.Raw 130 2))
    ∷ (w.drop a s, Write 1 zero_block false false ∷ []) ∷ quiet (w.drop a s) ∷ quiet (w.drop a t) ∷ quiet (w.drop a m) ∷ quiet (w.free a m) ∷ quiet (w.drop a m)
    ∷ []

pub given_up-replies : replies (fresh_system 200) given_up
    ≡ codes "refused 3 no application" ∷ ok ∷ codes "refused 5 no grant s" ∷ ok ∷ codes "refused 6 wrong kind"
    ∷ ok ∷ codes "refused 5 no grant t" ∷ ok ∷ codes "refused 5 no grant s"
    ∷ ok ∷ ok
    ∷ codes "refused 21 device fault" ∷ codes "refused 5 no grant s" ∷ codes "refused 22 table failed" ∷ codes "refused 6 wrong kind" ∷ ok ∷ codes "refused 5 no grant m"
    ∷ []
unfolding step answer encode_with digits
given_up-replies = refl

pub given_up-performed : performed (fresh_system 200) given_up ≡ true
unfolding step answer
given_up-performed = refl
