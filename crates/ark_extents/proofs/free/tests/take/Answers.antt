use Rattle.ark_extents.proofs.free.tests.take.Goals as goal

pub returns-then-runs-le4080 : goal.returns-then-runs-le4080
returns-then-runs-le4080 c = λ took. (c.take_exact.ensures.taken took, c.take_exact.ensures.free.0 took)
