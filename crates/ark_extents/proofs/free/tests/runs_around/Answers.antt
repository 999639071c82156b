use Rattle.ark_extents.proofs.free.tests.runs_around.Goals as goal

pub give-requires-clause-taken : goal.give-requires-clause-taken
give-requires-clause-taken c = λ n in_spans in_map. (((c.take.ensures c.if-not-take.false).0 n).0 in_map).1 in_spans
