use Rattle.std.proofs.Common.{◌≡◌, ◌*◌, ℕ, List, length, refl, sym, subst, ◌∙◌}
use Rattle.std.specs.Prelude.{◌&&◌, leb, if◌then◌else◌}
use Rattle.ark_media.specs.Blocks.{whole_blocks}
use Rattle.ark_memory.specs.Reels.{begun}
use Rattle.ark_memory.specs.Turns.{works, after_begin}
use Rattle.ark_media.proofs.Flat.{found_blocks}
use Rattle.ark_memory.proofs.Moving.{on_ok, has_cause, small_base, ready_begun, ready_call}
use Rattle.ark_memory.proofs.world.outside.MemoryWorldOutside.attach.Goals as goal

pub invariant_of-self : goal.invariant_of-self
invariant_of-self c =
    let w = c.args.self.now in
    let turn = c.next-turn.result in
    let found : c.deref.result.now ≡ w.found.items = c.deref.ensures.value in
    let fits = leb (length w.found.items) (512 * 2097152) in
    record {
      ready = ready_call (length w.found.items) w.room w.device w.schedule.calls w.schedule.made c.next-turn.new.self.made w.text w.ready c.next-turn.ensures.made turn c.next-turn.ensures.due
          (if works turn && fits then begun w.device (whole_blocks w.found.items) else w.device) c.begin_found-begun.new.self w.text c.next-turn.new.self.calls
          (ready_begun (length w.found.items) w.room w.device w.schedule.calls w.schedule.made c.next-turn.new.self.made w.text w.ready c.next-turn.ensures.made (whole_blocks w.found.items) (found_blocks w.found.items w.ready.whole) (works turn && fits)) (λ over. refl)
          (subst (λ (l : List ℕ). c.begin_found-begun.new.self ≡ after_begin turn (leb (length l) (512 * 2097152)) (whole_blocks l) w.device) found c.begin_found-begun.ensures.device) c.next-turn.ensures.calls;
    }

pub returns-clause-small : goal.returns-clause-small
returns-clause-small c =
    let w = c.args.self.now in
    on_ok c.answer.result (λ done. small_base c.next-turn.result c.deref.result.now w.device c.begin_found-begun.new.self c.begin_found-begun.ensures.device (sym c.begin_found-begun.ensures.begins ∙ sym c.answer.ensures.planned ∙ done))

pub returns-clause-cause : goal.returns-clause-cause
returns-clause-cause c = has_cause c.answer.result c.args.self.now.attach_faults c.answer.new.faults c.answer.ensures.later c.answer.ensures.counts
