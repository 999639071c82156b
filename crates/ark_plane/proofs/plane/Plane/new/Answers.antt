use Rattle.std.proofs.Common.{rules}
use Rattle.ark_plane.proofs.Shared.{fresh_shared}
use Rattle.ark_plane.proofs.plane.Plane.new.Goals as goal

pub returns-clause-shared : goal.returns-clause-shared
returns-clause-shared c = fresh_shared c.args.blocks _ _ _ (search rules) (search rules)
