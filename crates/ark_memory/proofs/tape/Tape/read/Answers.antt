use Rattle.std.proofs.Common.{◌≡◌, ◌<◌, ◌+◌, ◌∷◌, [], refl, length, ap, ◌∙◌, arith, length-append}
use Rattle.ark_memory.specs.Tape.{Sound}
use Rattle.ark_memory.specs.declared.tape.Kept.TheVariants as kept
use Rattle.ark_memory.proofs.Taping.{plain_sound, has_room}
use Rattle.ark_memory.proofs.tape.Tape.read.Goals as goal

pub invariant_of-self : goal.invariant_of-self
invariant_of-self c =
    let t = c.self.inside in
    let sound : Sound t.text.items t.blocks.items c.push_reserved.new.self.items = plain_sound t.text.items t.blocks.items t.entries.items c.push_reserved.new.self.items (kept.Read c.args.n c.args.ok) c.push_reserved.ensures.items c.self.invariant.0 tt refl in
    let room : length t.entries.items < t.limit = has_room t.text.items t.blocks.items t.entries.items t.limit t.text_limit c.args.self.now c.self.view_is c.requires in
    let more : length c.push_reserved.new.self.items ≡ length t.entries.items + 1 = ap length c.push_reserved.ensures.items ∙ length-append t.entries.items ((kept.Read c.args.n c.args.ok) ∷ []) in
    (sound, (omega (arith, room, more), c.self.invariant.1.1, omega (arith, c.push_reserved.ensures.capacity)), (omega (arith, more), c.self.invariant.2.1), c.self.invariant.3)
