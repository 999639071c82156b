-- The order of the refusals that concern lines, names and kinds: a line for which several hold is answered the first of them,
-- and the next one once the first is cured.
use Rattle.std.proofs.Common.{◌≡◌, ℕ, true, false, Some, Err, List, [], ◌∷◌, ◌++◌, map, codes, replicate, refl}
use Rattle.std.specs.Fmt.{digits}
use Rattle.ark_base.specs.Conditions.{none, first}
use Rattle.ark_base.specs.declared.kind.Kind.TheVariants as kind
use Rattle.ark_base.specs.declared.refusal.Refusal.{Refusal}
use Rattle.ark_base.specs.declared.refusal.Refusal.TheVariants as r
use Rattle.ark_script.specs.Line as w
use Rattle.ark_script.specs.Line.{Line}
use Rattle.ark_machine.specs.Built.{turn}
use Rattle.ark_machine.specs.Row.{answer}
use Rattle.ark_machine.specs.Step.{step}
use Rattle.ark_machine.specs.System.{fresh_system}
use Rattle.ark_worked.proofs.Playing.{Played, replies, words_said}
use Rattle.ark_worked.proofs.Scripts.{quiet, app, area, granting, numbered, reply_after}
use Rattle.ark_worked.proofs.Rules.{own_at}
use Rattle.ark_worked.proofs.Labels.{a, d, f, k, n, s, v, ok}

abbrev given_nic : Played
given_nic = quiet (w.nic (own_at (10 ∷ 0 ∷ 0 ∷ 1 ∷ [])))

-- Refusals at sight.

abbrev at_sight : Refusal → List ℕ
at_sight refusal = words_said (turn (fresh_system 200) (Err refusal) [] false)

pub too_long-said : at_sight r.TooLong ≡ codes "refused 24 too long"
too_long-said = refl

pub unknown_word-said : at_sight r.UnknownWord ≡ codes "refused 2 unknown word"
unknown_word-said = refl

pub syntax-said : at_sight r.Syntax ≡ codes "refused 1 syntax"
syntax-said = refl

pub too_long-before-unknown_word : first (record none { too_long = true; unknown_word = true; syntax_fault = true }) ≡ Some r.TooLong
too_long-before-unknown_word = refl

pub unknown_word-before-syntax : first (record none { unknown_word = true; syntax_fault = true; no_application = true }) ≡ Some r.UnknownWord
unknown_word-before-syntax = refl

pub syntax-before-no_application : first (record none { syntax_fault = true; no_application = true; name_taken = true }) ≡ Some r.Syntax
syntax-before-no_application = refl

-- Applications and names.

pub no_application-before-no_grant : replies (fresh_system 200) (quiet (w.peek a s 0) ∷ app a ∷ quiet (w.peek a s 0) ∷ [])
    ≡ codes "refused 3 no application" ∷ ok ∷ codes "refused 5 no grant s" ∷ []
unfolding step answer
no_application-before-no_grant = refl

pub no_application-before-no_nic : replies (fresh_system 200) (quiet (w.vnic a n 2 2) ∷ app a ∷ quiet (w.vnic a n 2 2) ∷ given_nic ∷ quiet (w.vnic a n 2 2) ∷ [])
    ≡ codes "refused 3 no application" ∷ ok ∷ codes "refused 8 no nic" ∷ ok ∷ ok ∷ []
unfolding step answer
no_application-before-no_nic = refl

pub name_taken-before-no_grant : replies (fresh_system 200) (app a ∷ quiet (w.door a k) ∷ quiet (w.sock a k n 7) ∷ quiet (w.drop a k) ∷ quiet (w.sock a k n 7) ∷ [])
    ≡ ok ∷ ok ∷ codes "refused 4 name taken" ∷ ok ∷ codes "refused 5 no grant n" ∷ []
unfolding step answer
name_taken-before-no_grant = refl

pub name_taken-before-limit : replies (fresh_system 200) (map app (numbered (codes "p") 16) ++ app (codes "p3") ∷ app (codes "q") ∷ [])
    ≡ replicate 16 ok ++ codes "refused 4 name taken" ∷ codes "refused 7 limit" ∷ []
unfolding step answer digits
name_taken-before-limit = refl

pub name_taken-before-no_nic : replies (fresh_system 200) (app a ∷ quiet (w.door a n) ∷ quiet (w.vnic a n 2 2) ∷ quiet (w.drop a n) ∷ quiet (w.vnic a n 2 2) ∷ [])
    ≡ ok ∷ ok ∷ codes "refused 4 name taken" ∷ ok ∷ codes "refused 8 no nic" ∷ []
unfolding step answer
name_taken-before-no_nic = refl

pub nic-name_taken : replies (fresh_system 200) (given_nic ∷ given_nic ∷ []) ≡ ok ∷ codes "refused 4 name taken" ∷ []
nic-name_taken = refl

-- the labels are told from left to right
pub no_grant-from-the-left : replies (fresh_system 200) (app a ∷ quiet (w.assign a n f) ∷ quiet (w.door a n) ∷ quiet (w.assign a n f) ∷ [])
    ≡ ok ∷ codes "refused 5 no grant n" ∷ ok ∷ codes "refused 5 no grant f" ∷ []
unfolding step answer
no_grant-from-the-left = refl

pub no_grant-before-wrong_kind : replies (fresh_system 200) (app a ∷ quiet (w.door a n) ∷ quiet (w.assign a n f) ∷ quiet (w.door a f) ∷ quiet (w.assign a n f) ∷ [])
    ≡ ok ∷ ok ∷ codes "refused 5 no grant f" ∷ ok ∷ codes "refused 6 wrong kind" ∷ []
unfolding step answer
no_grant-before-wrong_kind = refl

-- Kinds and counts.

-- 64 labels: a network card and 63 doorbells
abbrev full : List Played
full = given_nic ∷ app a ∷ quiet (w.vnic a n 2 2) ∷ map (λ l. quiet (w.door a l)) (numbered d 63)

pub wrong_kind-before-limit : replies (fresh_system 200) (full ++ quiet (w.sock a k (codes "d1") 7) ∷ quiet (w.sock a k n 7) ∷ quiet (w.drop a (codes "d1")) ∷ quiet (w.sock a k n 7) ∷ [])
    ≡ replicate 66 ok ++ codes "refused 6 wrong kind" ∷ codes "refused 7 limit" ∷ ok ∷ ok ∷ []
unfolding step answer digits
wrong_kind-before-limit = refl

pub wrong_kind-before-out_of_range : replies (fresh_system 200) (app a ∷ (w.vsa a s 2 kind.Log, granting (area 1 a s kind.Log 129 2)) ∷ quiet (w.peek a s 2) ∷ [])
    ≡ ok ∷ ok ∷ codes "refused 6 wrong kind" ∷ []
unfolding step answer
wrong_kind-before-out_of_range = refl

-- eight cards of an application
abbrev carded : List Played
carded = app a ∷ map (λ l. quiet (w.vsic a l 2)) (numbered v 8)

pub limit-before-no_nic : replies (fresh_system 200) (carded ++ quiet (w.vnic a n 2 2) ∷ quiet (w.drop a (codes "v8")) ∷ quiet (w.vnic a n 2 2) ∷ [])
    ≡ replicate 9 ok ++ codes "refused 7 limit" ∷ ok ∷ codes "refused 8 no nic" ∷ []
unfolding step answer digits
limit-before-no_nic = refl

pub no_nic-before-no_memory : reply_after (fresh_system 200) (app a ∷ []) (w.vnic a n 2 2) [] true ≡ codes "refused 8 no nic"
unfolding step answer
no_nic-before-no_memory = refl

pub no_memory-with-nic : reply_after (fresh_system 200) (given_nic ∷ app a ∷ []) (w.vnic a n 2 2) [] true ≡ codes "refused 20 no memory"
unfolding step answer
no_memory-with-nic = refl

pub wire-no_nic : replies (fresh_system 200) (quiet (w.wire (replicate 14 0)) ∷ given_nic ∷ quiet (w.wire (replicate 14 0)) ∷ [])
    ≡ codes "refused 8 no nic" ∷ ok ∷ codes "dropped no filter" ∷ []
wire-no_nic = refl
