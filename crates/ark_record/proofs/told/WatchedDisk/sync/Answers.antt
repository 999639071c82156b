use Rattle.std.proofs.Common.{is_ok}
use Rattle.ark_record.proofs.Calls.{syncs}
use Rattle.ark_record.proofs.told.WatchedDisk.sync.Goals as goal

pub returns : goal.returns
returns g c =
    let m = syncs c.args.self.now.log.past c.call_sync.new.self.log.past (is_ok c.call_sync.result) c.call_sync.ensures in
    record { went = record { events = m.0; makes = m.1; goes_on = m.2 } }
