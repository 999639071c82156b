use Rattle.std.proofs.Common.{refl}
use Rattle.ark_entry.specs.Entry.{entry_blocks}
use Rattle.std.specs.Prelude.{length}
use Rattle.ark_log.specs.Refused.{next_number}
use Rattle.ark_log.proofs.Standing as standing
use Rattle.ark_log.proofs.laws.standing_laws.Goals as goal

pub returns-clause-next : goal.returns-clause-next
returns-clause-next c v l cs is can = standing.next_is v l cs is can

pub returns-clause-used : goal.returns-clause-used
returns-clause-used c v l cs right is = standing.used_is v l cs is right

pub returns-clause-appends : goal.returns-clause-appends
returns-clause-appends c v w l cs payload before after is made = standing.appends v l cs is w payload before after made

pub returns-clause-can_append : goal.returns-clause-can_append
returns-clause-can_append c v l cs payload right is can short room =
    let blocks = entry_blocks (length payload) in
    c.waiting_laws.ensures.appends v.room l cs (next_number v) payload can (standing.next_is v l cs is can) (standing.has_number v l cs is blocks room) short (standing.has_room v l cs is blocks right room)

pub returns-clause-holds : goal.returns-clause-holds
returns-clause-holds c v w l cs payload before after right is made = standing.holds v l cs is w payload before after right made

pub returns-clause-trims : goal.returns-clause-trims
returns-clause-trims c v l cs n is = standing.trims v l cs is _ n refl

pub returns-clause-can_trim : goal.returns-clause-can_trim
returns-clause-can_trim c v l cs n is can some there = c.waiting_laws.ensures.trims v.room l cs n can (standing.trim_follows v l cs is n can some there)

pub returns-clause-pops : goal.returns-clause-pops
returns-clause-pops c v w l cs before after is made = standing.pops v l cs is w before after made

pub returns-clause-can_pop : goal.returns-clause-can_pop
returns-clause-can_pop c v l cs is can some = c.waiting_laws.ensures.pops v.room l cs v.coming can (standing.pop_follows v l cs is can some)

pub returns-clause-acknowledged : goal.returns-clause-acknowledged
returns-clause-acknowledged g v w ws l c cs first is can = standing.acknowledged_stands v w ws l c cs first is can.fit.0
