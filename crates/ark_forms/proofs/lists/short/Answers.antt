use Rattle.std.proofs.Common.{arith, ◌≤◌}
use Rattle.ark_forms.proofs.Numbers.{number_read}
use Rattle.ark_forms.proofs.lists.short.Goals as goal

pub overflow_cast-result : goal.overflow_cast-result
overflow_cast-result c = let small : c.in-Some.n ≤ c.from-2.result = (number_read _ _ _ _ c.in-Some.ensures).2 in omega arith
