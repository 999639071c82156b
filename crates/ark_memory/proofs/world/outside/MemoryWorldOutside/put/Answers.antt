use Rattle.std.proofs.Common.{◌≡◌, ◌-◌, is_ok, length, take, ◌∙◌, ap, rules}
use Rattle.std.specs.Prelude.{◌&&◌, leb}
use Rattle.ark_media.specs.Journal.{Out}
use Rattle.ark_memory.specs.Reels.{with_event}
use Rattle.ark_memory.specs.Turns.{works, let_out, after_put}
use Rattle.ark_memory.proofs.Moving.{puts, spent, over_none, has_cause, ready_event, ready_call}
use Rattle.ark_memory.proofs.world.outside.MemoryWorldOutside.put.Goals as goal

pub invariant_of-self : goal.invariant_of-self
invariant_of-self c =
    let w = c.args.self.now in
    let turn = c.next-turn.result in
    let bytes = c.args.bytes.now in
    let part = c.lets_out-part.result in
    let noted : c.put.new.self ≡ after_put turn (take part bytes) w.device = search rules in
    record {
      ready = ready_call (length w.found.items) w.room w.device w.schedule.calls w.schedule.made c.next-turn.new.self.made w.text w.ready c.next-turn.ensures.made turn c.next-turn.ensures.due (with_event w.device (Out (take part bytes))) c.put.new.self (w.text - part) c.next-turn.new.self.calls
          (ready_event (length w.found.items) w.room w.device w.schedule.calls w.schedule.made c.next-turn.new.self.made w.text w.ready c.next-turn.ensures.made (Out (take part bytes)) (w.text - part) (spent bytes part w.text c.lets_out-part.ensures.within c.lets_out-part.ensures.fits))
          (λ over. ap (λ n. w.text - n) c.lets_out-part.ensures.part ∙ over_none turn (length bytes) w.text over) noted c.next-turn.ensures.calls;
    }

pub returns-clause-puts : goal.returns-clause-puts
returns-clause-puts c =
    let w = c.args.self.now in
    let turn = c.next-turn.result in
    let bytes = c.args.bytes.now in
    let noted : c.put.new.self ≡ after_put turn (take (let_out turn (length bytes) w.text) bytes) w.device = search rules in
    let planned : is_ok c.answer.result ≡ (works turn && leb (length bytes) w.text) = search rules in
    puts turn bytes w.text (is_ok c.answer.result) w.device c.put.new.self w.disk_faults planned noted

pub returns-clause-cause : goal.returns-clause-cause
returns-clause-cause c = has_cause c.answer.result c.args.self.now.sink_faults c.answer.new.faults c.answer.ensures.later c.answer.ensures.counts
