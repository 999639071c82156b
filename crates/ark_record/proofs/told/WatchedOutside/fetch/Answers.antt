use Rattle.ark_record.proofs.Calls.{fetches}
use Rattle.ark_record.proofs.told.WatchedOutside.fetch.Goals as goal

pub returns-clause-bytes : goal.returns-clause-bytes
returns-clause-bytes g c = fetches c.args.self.now.log.past c.call_fetch.new.self.log.past c.call_fetch.new.out c.call_fetch.result c.call_fetch.ensures.noted c.call_fetch.ensures.fits
