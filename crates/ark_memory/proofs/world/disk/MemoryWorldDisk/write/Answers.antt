use Rattle.std.proofs.Common.{is_ok, length, refl, ◌∙◌}
use Rattle.ark_media.specs.Journal.{Write}
use Rattle.ark_media.specs.Calls.{Writes}
use Rattle.ark_memory.specs.Turns.{works, takes}
use Rattle.ark_memory.specs.World.{beside_by}
use Rattle.ark_memory.proofs.Moving.{went, ready_noted, works_takes}
use Rattle.ark_memory.proofs.world.disk.MemoryWorldDisk.write.Goals as goal

pub invariant_of-self : goal.invariant_of-self
invariant_of-self c =
    let w = c.args.self.now in
    let turn = c.next-turn.result in
    record {
      ready = ready_noted (length w.found.items) w.room w.device w.schedule.calls w.schedule.made c.next-turn.new.self.made w.text w.ready c.next-turn.ensures.made turn c.next-turn.ensures.due (Write c.args.n c.args.block.now (takes turn) (works turn))
          c.write.new.self c.next-turn.new.self.calls refl c.write.ensures c.next-turn.ensures.calls;
    }

pub returns-clause-went : goal.returns-clause-went
returns-clause-went c =
    let w = c.args.self.now in
    let turn = c.next-turn.result in
    let m = went turn (Writes c.args.n c.args.block.now) (Write c.args.n c.args.block.now (takes turn) (works turn)) w.device c.write.new.self (beside_by w) w.disk_faults c.answer.new.faults c.write.ensures c.answer.ensures.later
    (is_ok c.answer.result) (c.answer.ensures.planned ∙ c.works.ensures) (takes turn, works_takes turn, refl) c.answer.ensures.counts in
    record { events = m.0; makes = m.1; goes_on = m.2 }
