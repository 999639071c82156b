use Rattle.std.proofs.Common.{◌≡◌, ◌-◌, length, min, take, drop, rules}
use Rattle.ark_memory.proofs.Fetching.{fetched}
use Rattle.ark_memory.proofs.source.Source.fetch.Goals as goal

pub returns-clause-fetches : goal.returns-clause-fetches
returns-clause-fetches c =
    let s = c.self.inside in
    let copied : c.copy_from_slice.new.self ≡ take c.min-count.result (drop s.taken s.bytes.items) = search rules in
    let least : c.min-count.result ≡ min (length c.args.out.now) (length s.bytes.items - s.taken) = search rules in
    fetched s.bytes.items s.taken c.min-count.result (length c.args.out.now) c.args.self.now c.copy_from_slice.new.self (drop c.min-count.result c.args.out.now) c.self.view_is copied least c.requires c.self.invariant
