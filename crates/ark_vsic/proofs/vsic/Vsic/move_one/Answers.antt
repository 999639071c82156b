use Rattle.std.proofs.Common.{sym, ◌∙◌}
use Rattle.ark_vsic.proofs.Fair.{block_on_disk, went_quietly}
use Rattle.ark_vsic.proofs.vsic.Vsic.move_one.Goals as goal

pub try_next-ok-requires-clause-inside : goal.try_next-ok-requires-clause-inside
try_next-ok-requires-clause-inside g c = block_on_disk (g.D.Disk.told c.args.disk.now).blocks c.args.self.now c.args.held.now c.args.now c.in-Block.n c.requires.inside (sym c.due.ensures ∙ c.in-Block.is)

pub returns-in-Ends-clause-went : goal.returns-in-Ends-clause-went
returns-in-Ends-clause-went g c =
    went_quietly g.D.Disk.goes c.args.disk.now (g.met.D.Disk.goes_none c.args.disk.now) c.args.self.now c.args.held.now c.args.now c.args.region.now (g.D.Disk.told c.args.disk.now).blocks
    c.in-Ends.outcome c.end.result c.requires.inside (sym c.due.ensures ∙ c.in-Ends.is) c.end.ensures.answer
