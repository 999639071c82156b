use Rattle.std.proofs.Common.{◌∙◌, Err, ap, codes}
use Rattle.std.proofs.lemmas.Result.{err_from_is_err_and}
use Rattle.clap.specs.Words.{found_of, first_of}
use Rattle.clap.proofs.WalkLemmas.{first_value-rows}
use Rattle.ark_words.proofs.Found.{all_text, handed_on, run_sorts, run_has_device, run_fails}
use Rattle.ark_words.proofs.sorting.run_words.Goals as goal

pub returns-in_err-matches-clause-usage : goal.returns-in_err-matches-clause-usage
returns-in_err-matches-clause-usage c is =
    let p = err_from_is_err_and c.from_residual.result c.from_residual.ensures.1 in
    run_fails _ (all_text c.args.words.now) (c.in_err-matches.ensures.usage (ap Err (handed_on _ _ _ _ p.1 p.2 is)))

pub unreachable-requires : goal.unreachable-requires
unreachable-requires c =
    run_has_device _ (all_text c.args.words.now) c.in_ok-matches.ensures.ok
    (c.in_default.ensures ∙ first_value-rows (found_of c.in_ok-matches.matches) (codes "device") ∙ ap (first_of (codes "device")) c.in_ok-matches.ensures.rows)

pub returns-clause-ok : goal.returns-clause-ok
returns-clause-ok c =
    let found = found_of c.in_ok-matches.matches in
    run_sorts _ _ _ (all_text c.args.words.now) c.in_ok-matches.ensures.ok
    (c.get_str-2.ensures ∙ first_value-rows found (codes "new") ∙ ap (first_of (codes "new")) c.in_ok-matches.ensures.rows)
    (c.in-Some.ensures ∙ first_value-rows found (codes "device") ∙ ap (first_of (codes "device")) c.in_ok-matches.ensures.rows)
