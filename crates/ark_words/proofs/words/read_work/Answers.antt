use Rattle.std.proofs.Common.{Err, ap, map, string_bytes}
use Rattle.std.proofs.lemmas.Result.{err_from_is_err_and}
use Rattle.ark_words.proofs.Found.{handed_on}
use Rattle.ark_words.proofs.Given.{no_work}
use Rattle.ark_words.proofs.words.read_work.Goals as goal

pub returns-in_err-seed-clause-usage : goal.returns-in_err-seed-clause-usage
returns-in_err-seed-clause-usage c is =
    let p = err_from_is_err_and c.from_residual.result c.from_residual.ensures.1 in
    no_work (map string_bytes c.args.words.now) (c.in_err-seed.ensures.usage (ap Err (handed_on _ _ _ _ p.1 p.2 is)))
