use Rattle.std.proofs.Common.{map}
use Rattle.std.specs.Prelude.{string_bytes}
use Rattle.ark_record.specs.Replay.{model_of}
use Rattle.ark_file.proofs.Ended.{ended, done}
use Rattle.ark_file.proofs.running.run.Goals as goal

pub returns-clause-ended : goal.returns-clause-ended
returns-clause-ended c honest =
    ended (model_of c.args.world.now.log.past) (model_of c.arrakis.new.world.log.past) honest (map string_bytes c.args.words.now) c.arrakis.result c.arrakis.ensures.does

pub returns-clause-done : goal.returns-clause-done
returns-clause-done c is honest =
    let old = model_of c.args.world.now.log.past in
    let now = model_of c.arrakis.new.world.log.past in
    let words = map string_bytes c.args.words.now in
    done words old now c.arrakis.result is (ended old now honest words c.arrakis.result c.arrakis.ensures.does)
