use Rattle.std.proofs.Common.{is_ok}
use Rattle.ark_record.proofs.Calls.{puts, puts_cause, puts_keeps}
use Rattle.ark_record.proofs.told.WatchedOutside.put.Goals as goal

pub returns : goal.returns
returns g c =
    let was = c.args.self.now.log.past in
    let now = c.call_put.new.self.log.past in
    record {
      puts = puts was now c.args.bytes.now (is_ok c.call_put.result) c.call_put.ensures;
      cause = puts_cause was now c.args.bytes.now c.call_put.result c.call_put.ensures;
      keeps = puts_keeps was now c.args.bytes.now (is_ok c.call_put.result) c.call_put.ensures;
    }
