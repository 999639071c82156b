use Rattle.std.proofs.Common.{◌∙◌, Err, ap, codes, arith}
use Rattle.std.proofs.lemmas.Result.{err_from_is_err_and}
use Rattle.clap.specs.Words.{found_of, first_of}
use Rattle.clap.proofs.WalkLemmas.{first_value-rows}
use Rattle.ark_words.proofs.Found.{all_text, handed_on, work_sorts, work_has, work_fails}
use Rattle.ark_words.proofs.sorting.work_words.Goals as goal
use Rattle.ark_words.proofs.sorting.work_words.Goals.{in_default-via-in-Some+in-Some+in_default, in_default-via-in-Some+in_default, in_default-via-in_default}

pub returns-in_err-matches-clause-usage : goal.returns-in_err-matches-clause-usage
returns-in_err-matches-clause-usage c is =
    let p = err_from_is_err_and c.from_residual.result c.from_residual.ensures.1 in
    work_fails _ (all_text c.args.words.now) (c.in_err-matches.ensures.usage (ap Err (handed_on _ _ _ _ p.1 p.2 is)))

pub unreachable-requires : goal.unreachable-requires
unreachable-requires c = elim c.in_default.branch [
  | in_default-via-in-Some+in-Some+in_default w ↦ work_has _ (all_text c.args.words.now) c.in_ok-matches.ensures.ok 2 (omega arith)
      (w.in_default.ensures'' ∙ first_value-rows (found_of c.in_ok-matches.matches) (codes "device") ∙ ap (first_of (codes "device")) c.in_ok-matches.ensures.rows)
  | in_default-via-in-Some+in_default w ↦ work_has _ (all_text c.args.words.now) c.in_ok-matches.ensures.ok 1 (omega arith)
      (w.in_default.ensures' ∙ first_value-rows (found_of c.in_ok-matches.matches) (codes "lines") ∙ ap (first_of (codes "lines")) c.in_ok-matches.ensures.rows)
  | in_default-via-in_default w ↦ work_has _ (all_text c.args.words.now) c.in_ok-matches.ensures.ok 0 (omega arith)
      (w.in_default.ensures ∙ first_value-rows (found_of c.in_ok-matches.matches) (codes "seed") ∙ ap (first_of (codes "seed")) c.in_ok-matches.ensures.rows)
]

pub returns-clause-ok : goal.returns-clause-ok
returns-clause-ok c =
    let found = found_of c.in_ok-matches.matches in
    work_sorts _ _ _ _ (all_text c.args.words.now) c.in_ok-matches.ensures.ok
    (c.in-Some-Some-Some.ensures ∙ first_value-rows found (codes "seed") ∙ ap (first_of (codes "seed")) c.in_ok-matches.ensures.rows)
    (c.in-Some-Some-Some.ensures' ∙ first_value-rows found (codes "lines") ∙ ap (first_of (codes "lines")) c.in_ok-matches.ensures.rows)
    (c.in-Some-Some-Some.ensures'' ∙ first_value-rows found (codes "device") ∙ ap (first_of (codes "device")) c.in_ok-matches.ensures.rows)
