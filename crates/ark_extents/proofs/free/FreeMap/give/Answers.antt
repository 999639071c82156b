use Rattle.std.proofs.Common.{arith}
use Rattle.ark_extents.proofs.FreeBlocks.{count_runs, apart_to, gains_from}
use Rattle.ark_extents.proofs.free.FreeMap.give.Goals as goal

pub add_all-requires-clause-apart : goal.add_all-requires-clause-apart
add_all-requires-clause-apart c = apart_to c.self.inside.runs.items c.as_slice.result.now c.args.self.now c.args.spans.now c.self.view_is c.as_slice.ensures.blocks c.requires.taken

pub add_all-requires-clause-room : goal.add_all-requires-clause-room
add_all-requires-clause-room c =
    let count = count_runs c.self.inside.runs.items c.args.self.now c.self.view_is c.self.invariant.0 in
    omega (arith, count, c.requires.room, c.as_slice.ensures.few, c.self.invariant.2)

pub invariant_of-self : goal.invariant_of-self
invariant_of-self c =
    let count = count_runs c.self.inside.runs.items c.args.self.now c.self.view_is c.self.invariant.0 in (
      c.add_all.ensures.rising,
      omega (arith, count, c.requires.room, c.as_slice.ensures.few, c.add_all.ensures.len),
      omega (arith, c.add_all.ensures.capacity, c.self.invariant.2),
    )

pub returns : goal.returns
returns c = record {
  given = gains_from c.self.inside.runs.items c.as_slice.result.now c.args.self.now c.args.spans.now c.self.view_is c.as_slice.ensures.blocks c.add_all.new.runs.items c.add_all.ensures.gained;
}
