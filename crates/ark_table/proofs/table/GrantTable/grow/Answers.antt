use Rattle.std.proofs.Common.{◌≤◌, ◌∙◌, ◌-◌, ◌++◌, true, false, Some, Option, ℕ, List, set, sym, subst, length, arith}
use Rattle.std.specs.Prelude.{IsSome}
use Rattle.ark_extents.specs.Blocks.{runs_of, ShareNoBlock}
use Rattle.ark_extents.specs.declared.spans.Spans.{Spans}
use Rattle.ark_media.specs.Calls.{Went}
use Rattle.ark_table.specs.declared.slot.Slot.{Slot}
use Rattle.ark_table.specs.Area.{Area}
use Rattle.ark_table.specs.Plans.{grant_calls}
use Rattle.ark_table.specs.Standing.{slot_in, grown_area}
use Rattle.ark_table.specs.Stated.{stated}
use Rattle.ark_table.proofs.Places.{areas-set}
use Rattle.ark_table.proofs.Zeroing.{failed_ok}
use Rattle.ark_table.proofs.Growing.{grown_stated, own_blocks, slot_there, same_area}
use Rattle.ark_table.proofs.table.GrantTable.grow.Goals as goal

pub unreachable-requires-in_default-join : goal.unreachable-requires-in_default-join
unreachable-requires-in_default-join g c =
    let joins = c.requires.joins in
    let slot = c.in-Some.slot in
    let there = slot_there c.self.inside.slots.items c.args.self.now c.args.i c.from-place.result c.index.result.now slot c.self.view_is c.from-place.ensures (omega (arith, c.self.invariant, c.from-place.ensures, joins.low, joins.high)) c.index.ensures c.in-Some.is in
    let own = own_blocks slot joins.area (same_area (slot_in c.args.self.now c.args.i) (stated slot) joins.area there joins.used) in
    let few : length (runs_of (slot.spans ++ c.args.more.now)) ≤ 16 = subst (λ (bs : List ℕ). length (runs_of (bs ++ c.args.more.now)) ≤ 16) own joins.few in
    absurd (cc (subst (λ (o : Option Spans). IsSome o) c.in_default-join.is (c.join.ensures.found.1 (subst (λ (bs : List ℕ). ShareNoBlock bs c.args.more.now) own joins.apart, few))))

pub grant-requires-clause-slot : goal.grant-requires-clause-slot
grant-requires-clause-slot g c = omega (arith, c.requires.joins.high, c.requires.table)

pub returns-in_err-grant-clause-went : goal.returns-in_err-grant-clause-went
returns-in_err-grant-clause-went g c a used =
    let joins = c.requires.joins in
    let slot = c.in-Some.slot in
    let there = slot_there c.self.inside.slots.items c.args.self.now c.args.i c.from-place.result c.index.result.now slot c.self.view_is c.from-place.ensures (omega (arith, c.self.invariant, c.from-place.ensures, joins.low, joins.high)) c.index.ensures c.in-Some.is in
    let is = grown_stated slot c.in-Some-join.spans c.args.more.now a c.in-Some-join.ensures.blocks (same_area (slot_in c.args.self.now c.args.i) (stated slot) a there used) in
    subst (λ ok. Went g.D.Disk.goes (grant_calls c.args.i (grown_area a c.args.more.now) c.args.more.now) ok c.args.disk.now c.grant.new.disk) (sym (failed_ok c.from_residual.result c.from_residual.ensures.0))
    (subst (λ (x : Area). Went g.D.Disk.goes (grant_calls c.args.i x c.args.more.now) false c.args.disk.now c.grant.new.disk) is c.in_err-grant.ensures.went)

pub returns-clause-went : goal.returns-clause-went
returns-clause-went g c a used =
    let joins = c.requires.joins in
    let slot = c.in-Some.slot in
    let there = slot_there c.self.inside.slots.items c.args.self.now c.args.i c.from-place.result c.index.result.now slot c.self.view_is c.from-place.ensures (omega (arith, c.self.invariant, c.from-place.ensures, joins.low, joins.high)) c.index.ensures c.in-Some.is in
    let is = grown_stated slot c.in-Some-join.spans c.args.more.now a c.in-Some-join.ensures.blocks (same_area (slot_in c.args.self.now c.args.i) (stated slot) a there used) in
    subst (λ (x : Area). Went g.D.Disk.goes (grant_calls c.args.i x c.args.more.now) true c.args.disk.now c.grant.new.disk) is c.in_ok-grant.ensures.went

pub returns-clause-granted : goal.returns-clause-granted
returns-clause-granted g c a used =
    let joins = c.requires.joins in
    let slot = c.in-Some.slot in
    let there = slot_there c.self.inside.slots.items c.args.self.now c.args.i c.from-place.result c.index.result.now slot c.self.view_is c.from-place.ensures (omega (arith, c.self.invariant, c.from-place.ensures, joins.low, joins.high)) c.index.ensures c.in-Some.is in
    let new : Slot = record { kind = slot.kind; app = slot.app; label = slot.label; spans = c.in-Some-join.spans } in
    let is = grown_stated slot c.in-Some-join.spans c.args.more.now a c.in-Some-join.ensures.blocks (same_area (slot_in c.args.self.now c.args.i) (stated slot) a there used) in
    areas-set c.self.inside.slots.items (c.from-place.result - 1) (Some new) ∙ (λ j. set (c.self.view_is j) (c.from-place.ensures j - 1) (Some (is j)))
