use Rattle.std.proofs.Common.{inl, inr}
use Rattle.ark_cli.proofs.ClosingLines.{closes_none}
use Rattle.ark_cli.proofs.NoneFailed.{none_failed}
use Rattle.ark_cli.proofs.command.close.Goals as goal

pub returns-in-Done : goal.returns-in-Done
returns-in-Done g c = record { unfailed = λ done. none_failed (g.W.Outside.beside c.args.world.now); closes = closes_none c.args.status (g.W.Disk.told c.args.world.now) (g.W.Outside.beside c.args.world.now) (inl c.in-Done.is) }

pub returns-in-Sink : goal.returns-in-Sink
returns-in-Sink g c = record { unfailed = λ done. none_failed (g.W.Outside.beside c.args.world.now); closes = closes_none c.args.status (g.W.Disk.told c.args.world.now) (g.W.Outside.beside c.args.world.now) (inr c.in-Sink.is) }
