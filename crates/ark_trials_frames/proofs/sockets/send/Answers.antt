use Rattle.std.proofs.Common.{[], sym, subst}
use Rattle.std.specs.Prelude.{All}
use Rattle.std.proofs.lemmas.List.Elements.{All-from_recursion}
use Rattle.ark_udp.specs.Sent.{LiesIn}
use Rattle.ark_trials_frames.proofs.sockets.send.Goals as goal

pub send_to-requires-clause-buffers : goal.send_to-requires-clause-buffers
send_to-requires-clause-buffers c =
    subst (All (LiesIn c.args.region.now.taken)) (sym c.requires.reaped) (All-from_recursion (LiesIn c.args.region.now.taken) [] tt)
