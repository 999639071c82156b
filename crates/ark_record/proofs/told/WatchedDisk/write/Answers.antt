use Rattle.std.proofs.Common.{is_ok}
use Rattle.ark_record.proofs.Calls.{writes}
use Rattle.ark_record.proofs.told.WatchedDisk.write.Goals as goal

pub returns : goal.returns
returns g c =
    let m = writes c.args.self.now.log.past c.call_write.new.self.log.past c.args.n c.args.block.now (is_ok c.call_write.result) c.call_write.ensures in
    record { went = record { events = m.0; makes = m.1; goes_on = m.2 } }
