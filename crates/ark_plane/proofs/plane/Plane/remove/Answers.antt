use Rattle.ark_table.specs.Standing.{slot_in}
use Rattle.ark_plane.proofs.Shared.{in_use, used_high, give_room, give_taken, given_shared, lost_shared}
use Rattle.ark_plane.proofs.plane.Plane.remove.Goals as goal

pub remove-requires-clause-high : goal.remove-requires-clause-high
remove-requires-clause-high g c =
    let used = in_use (slot_in c.args.self.now.table c.args.index) c.args.spans.now c.requires.used in
    used_high (g.D.Disk.told c.args.disk.now).blocks c.args.self.now.table c.args.self.now.free c.args.self.now.failed c.requires.shared c.args.index used.0 c.requires.low used.1

pub give-requires-clause-room : goal.give-requires-clause-room
give-requires-clause-room g c =
    let used = in_use (slot_in c.args.self.now.table c.args.index) c.args.spans.now c.requires.used in
    give_room (g.D.Disk.told c.args.disk.now).blocks c.args.self.now.table c.args.self.now.free c.args.self.now.failed c.requires.shared c.args.index used.0 c.args.spans.now c.requires.low used.1 used.2 c.requires.settled

pub give-requires-clause-taken : goal.give-requires-clause-taken
give-requires-clause-taken g c =
    let used = in_use (slot_in c.args.self.now.table c.args.index) c.args.spans.now c.requires.used in
    give_taken (g.D.Disk.told c.args.disk.now).blocks c.args.self.now.table c.args.self.now.free c.args.self.now.failed c.requires.shared c.args.index used.0 c.args.spans.now c.requires.low used.1 used.2 c.requires.settled

pub returns-in-Ok-clause-shared : goal.returns-in-Ok-clause-shared
returns-in-Ok-clause-shared g c =
    let used = in_use (slot_in c.args.self.now.table c.args.index) c.args.spans.now c.requires.used in
    given_shared (g.D.Disk.told c.args.disk.now).blocks c.args.self.now.table c.args.self.now.free c.args.self.now.failed c.requires.shared c.args.index used.0 c.args.spans.now c.requires.low used.1 used.2 c.requires.settled c.remove.new.self c.give.new.self
    c.in-Ok.ensures.freed c.give.ensures.given c.free.ensures.ascending

pub returns-in-Err-clause-shared : goal.returns-in-Err-clause-shared
returns-in-Err-clause-shared g c =
    let used = in_use (slot_in c.args.self.now.table c.args.index) c.args.spans.now c.requires.used in
    lost_shared (g.D.Disk.told c.args.disk.now).blocks c.args.self.now.table c.args.self.now.free c.args.self.now.failed c.requires.shared c.args.index used.0 c.args.spans.now c.requires.low used.1 used.2 c.remove.new.self c.args.self.now.free c.in-Err.ensures.freed
