-- Words that are no command, worked out: output and status.
use Rattle.std.specs.Fmt.{digits}
use Rattle.std.proofs.Common.{◌≡◌, ℕ, List, [], ◌∷◌, codes, inl, inr, refl, sym, ap, subst, arith, lit≤}
use Rattle.std.proofs.lemmas.Fmt.{decimal_injective}
use Rattle.std.specs.Prelude.{Option, Some, None, decimal}
use Rattle.ark_base.specs.declared.status.Status.TheVariants.{Usage}
use Rattle.ark_base.specs.Status.{code_of}
use Rattle.ark_media.specs.Journal.{Event, Out, History, fresh, onto, output_of}
use Rattle.ark_media.specs.Calls.{Rests}
use Rattle.ark_media.proofs.Composing.{goes_put}
use Rattle.ark_words.specs.Sorted.{Sorted, sorted}
use Rattle.ark_cli.specs.Words.{IsRun, AsksFor}
use Rattle.ark_cli.specs.Ending.{Does, no_command}
use Rattle.ark_worked_runs.proofs.WorkedRuns.{line, told_of, beside_first, some_is, whole_line}

-- a device of too few blocks
abbrev small_words : List (List ℕ)
small_words = codes "run" ∷ codes "--new" ∷ codes "129" ∷ codes "d" ∷ []

too_small : (blocks : Option ℕ) (device : List ℕ) → IsRun small_words blocks device → ⊥
unfolding digits
too_small None device h =
    let rest : h.0.0 ≡ codes "--new" ∷ codes "129" ∷ codes "d" ∷ [] = cc (h.0.1) in
    let sort : sorted (codes "--new" ∷ codes "129" ∷ codes "d" ∷ []) ≡ Some (record { new = []; plain = device ∷ [] }) =
    subst (λ (r : List (List ℕ)). sorted r ≡ Some (record { new = []; plain = device ∷ [] })) rest h.0.2 in
    let new : codes "129" ∷ [] ≡ [] = ap (λ (s : Sorted). s.new) (some_is _ _ sort) in
    absurd (cc new)
too_small (Some size) device h =
    let rest : h.0.0 ≡ codes "--new" ∷ codes "129" ∷ codes "d" ∷ [] = cc (h.0.1) in
    let sort : sorted (codes "--new" ∷ codes "129" ∷ codes "d" ∷ []) ≡ Some (record { new = decimal size ∷ []; plain = device ∷ [] }) =
    subst (λ (r : List (List ℕ)). sorted r ≡ Some (record { new = decimal size ∷ []; plain = device ∷ [] })) rest h.0.2 in
    let new : codes "129" ∷ [] ≡ decimal size ∷ [] = ap (λ (s : Sorted). s.new) (some_is _ _ sort) in
    let spelled : codes "129" ≡ decimal size = cc in
    let same : size ≡ 129 = decimal_injective size 129 (omega arith) (omega arith) (sym spelled) in
    absurd (omega (arith, h.1.0, same))

no_command_words : (blocks : Option ℕ) (device : List ℕ) → AsksFor small_words blocks device → ⊥
no_command_words blocks device (inl (inl run)) = too_small blocks device run
no_command_words blocks device (inl (inr work)) = absurd (cc (work.3.0.1))
no_command_words blocks device (inr check) = absurd (cc (check.1.0.1))

abbrev usage_line : List Event
usage_line = Out (line (codes "fault usage")) ∷ []

-- the closing line alone was put
rests_usage : Rests usage_line (told_of []) (told_of usage_line)
rests_usage = record {
  adds = record {
    told = λ h is.
        let same : ◌≡◌ {A = History} (record { base = (fresh 200).base; journal = onto usage_line [] }) h = some_is (record { base = (fresh 200).base; journal = onto usage_line [] }) h is in
        ([], ap (λ (x : History). Some (record { base = x.base; journal = [] })) same, ap (λ (x : History). x.journal) (sym same));
  };
  blocks = refl;
  faults = refl;
}

usage_run : (script : List ℕ) → Does small_words (told_of []) (told_of usage_line) (beside_first script) (beside_first script) Usage
usage_run script = no_command refl no_command_words (record {
  closing = usage_line;
  closes = whole_line (codes "fault usage") 0 0;
  goes = goes_put (told_of []) (told_of usage_line) (beside_first script) (beside_first script) (line (codes "fault usage")) rests_usage
      (record { script = record { told = λ x is. is }; openings = refl; attach = refl; source = refl }) (lit≤ tt);
})

usage_output : output_of usage_line ≡ line (codes "fault usage")
usage_output = refl

usage_code : code_of Usage ≡ 1
usage_code = refl
