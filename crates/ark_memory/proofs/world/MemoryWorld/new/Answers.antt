use Rattle.std.proofs.Common.{◌≡◌, ◌≤◌, ◌-◌, ◌*◌, ◌%◌, ℕ, false, [], length, take, arith, rules}
use Rattle.std.proofs.lemmas.Grind.{common_steps}
use Rattle.std.proofs.lemmas.List.{length-take}
use Rattle.ark_memory.proofs.Moving.{ready_first}
use Rattle.ark_memory.proofs.world.MemoryWorld.new.Goals as goal

pub invariant_of-result : goal.invariant_of-result
invariant_of-result c =
    let size : ℕ = length c.args.device.now - length c.args.device.now % 512 in
    let found : c.in_ok-map_err.field-0.items ≡ take size c.args.device.now = grind (arith, common_steps) in
    let device : c.in_ok-map_err-2.field-0 ≡ record { lost = false; base = []; events = []; limits = record { device = c.max-limit.result; events = c.args.calls; text = c.args.text } } = search rules in
    let calls : c.in_ok-map_err-4.field-0.calls ≡ c.args.calls = search rules in
    let made : c.in_ok-map_err-4.field-0.made ≡ 0 = search rules in
    let room : 512 * c.args.room ≤ c.max-limit.result = omega (arith, c.max-limit.ensures) in
    let fits : size ≤ c.max-limit.result = omega (arith, c.max-limit.ensures, length-take size c.args.device.now) in
    record { ready = ready_first c.args.device.now c.in_ok-map_err.field-0.items c.args.room c.max-limit.result c.args.calls c.in_ok-map_err-4.field-0.calls c.in_ok-map_err-4.field-0.made c.args.text c.in_ok-map_err-2.field-0 found device calls made room fits }
