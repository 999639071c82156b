use Rattle.ark_record.proofs.Calls.{reads, reads_none}
use Rattle.ark_record.proofs.told.WatchedDisk.read.Goals as goal

pub returns-in-Ok-clause-went : goal.returns-in-Ok-clause-went
returns-in-Ok-clause-went g c =
    let m = reads c.args.self.now.log.past c.call_read.new.self.log.past c.args.n c.in-Ok.block c.in-Ok.ensures in
    record { events = m.0; makes = m.1; goes_on = m.2 }

pub returns-in-Err-clause-went : goal.returns-in-Err-clause-went
returns-in-Err-clause-went g c =
    let m = reads_none c.args.self.now.log.past c.call_read.new.self.log.past c.args.n c.in-Err.ensures in
    record { events = m.0; makes = m.1; goes_on = m.2 }
