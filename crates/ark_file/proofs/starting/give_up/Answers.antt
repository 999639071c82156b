use Rattle.ark_record.specs.Watch.{told_by, beside_by}
use Rattle.ark_file.proofs.Quiet.{quiet}
use Rattle.ark_file.proofs.starting.give_up.Goals as goal

pub returns-clause-quiet : goal.returns-clause-quiet
returns-clause-quiet c =
    let was = c.args.world.now.log.past in
    let now = c.put.new.self.log.past in
    quiet (told_by was) (told_by now) (beside_by was) (beside_by now) c.put.result c.put.ensures.puts c.put.ensures.cause c.put.ensures.keeps
