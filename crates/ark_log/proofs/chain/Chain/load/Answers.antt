use Rattle.std.proofs.Common.{◌-◌, ◌∙◌, inr, Some, true, false, ap, subst, arith, List, ℕ}
use Rattle.circular_buffer.specs.Buffer.{Buffer}
use Rattle.ark_media.specs.Calls.{Went}
use Rattle.ark_region.specs.Frames.{Wrote}
use Rattle.ark_chain.specs.Repair.{repair_calls}
use Rattle.ark_log.specs.declared.command.Waiting.{Waiting}
use Rattle.ark_log.proofs.Held.{header_held, made_of_seen}
use Rattle.ark_entry.specs.Stated.{stated}
use Rattle.ark_log.proofs.chain.Chain.load.Goals as goal

pub returns-in-Err-clause-failed : goal.returns-in-Err-clause-failed
returns-in-Err-clause-failed g c =
    let seen = c.in-Ok-inspect.seen in
    let made = c.head_of.result in
    let head = c.head_of.ensures in
    let bytes = c.bytes.ensures ∙ header_held made.kind (stated made) c.args.region.now c.write_head.new.region c.args.header c.requires.whole c.write_head.ensures ∙ made_of_seen c.args.kind made seen head.kind head.first head.start head.count head.end in
    inr (
      seen,
      c.inspect.new.lengths.items,
      record {
        between = c.inspect.new.disk;
        inspected = c.in-Ok-inspect.ensures.went;
        found = c.in-Ok-inspect.ensures.found;
        is_seen = c.in-Ok-inspect.ensures.seen;
        few = omega (arith, c.blocks-room.ensures, c.blocks-room.type_inv);
        noted = c.inspect.new.noted.items;
        is_noted = c.in-Ok-inspect.ensures.noted;
        repaired = subst (λ (b : List ℕ). Went g.D.Disk.goes (repair_calls c.inspect.new.noted.items b) false c.inspect.new.disk c.repair.new.disk) bytes c.in-Err.ensures.went;
      },
    )

pub returns-clause-loaded : goal.returns-clause-loaded
returns-clause-loaded g c =
    let seen = c.in-Ok-inspect.seen in
    let made = c.head_of.result in
    let head = c.head_of.ensures in
    let is = made_of_seen c.args.kind made seen head.kind head.first head.start head.count head.end in
    let bytes = c.bytes.ensures ∙ header_held made.kind (stated made) c.args.region.now c.write_head.new.region c.args.header c.requires.whole c.write_head.ensures ∙ is in
    let none = ap (λ (b : Buffer Waiting). b.items) c.in-Ok-with_capacity-2.ensures in
    record {
      seen = seen;
      lengths = c.inspect.new.lengths.items;
      repaired = record {
        between = c.inspect.new.disk;
        inspected = c.in-Ok-inspect.ensures.went;
        found = c.in-Ok-inspect.ensures.found;
        is_seen = c.in-Ok-inspect.ensures.seen;
        few = omega (arith, c.blocks-room.ensures, c.blocks-room.type_inv);
        noted = c.inspect.new.noted.items;
        is_noted = c.in-Ok-inspect.ensures.noted;
        repaired = subst (λ (b : List ℕ). Went g.D.Disk.goes (repair_calls c.inspect.new.noted.items b) true c.inspect.new.disk c.repair.new.disk) bytes c.in-Ok-repair.ensures.went;
      };
      chain_is = λ i. record {
        kind = c.args.kind;
        grant = c.args.grant;
        room = c.blocks-room.ensures i - 1;
        first = seen.first;
        start = seen.start;
        count = seen.count;
        coming = seen.first;
        lengths = c.inspect.new.lengths.items;
        stored = seen.used;
        used = seen.used;
        header_at = c.start-header_at.ensures i;
        header = Some c.args.header;
        waiting = none i;
        done = 0;
        failed = false;
      };
      held = subst (λ (b : List ℕ). Wrote c.args.region.now c.write_head.new.region c.args.header 0 b) is c.write_head.ensures;
    }
