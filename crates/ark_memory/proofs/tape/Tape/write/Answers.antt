use Rattle.std.proofs.Common.{◌≡◌, ◌<◌, ◌+◌, ◌++◌, ◌∷◌, [], List, ℕ, map, refl, length, ap, ◌∙◌, arith, rules, length-append}
use Rattle.ark_media.specs.Journal.{Write}
use Rattle.ark_memory.specs.Tape.{Sound, event_of}
use Rattle.ark_memory.specs.declared.tape.Kept.TheVariants as kept
use Rattle.ark_memory.proofs.Taping.{write_view, write_sound, has_room, is_longer}
use Rattle.ark_memory.proofs.tape.Tape.write.Goals as goal

pub invariant_of-self : goal.invariant_of-self
invariant_of-self c =
    let t = c.self.inside in
    let place : c.len-place.result ≡ length t.blocks.items = search rules in
    let sound : Sound t.text.items c.push_reserved.new.self.items c.push_reserved-2.new.self.items = write_sound t.text.items t.blocks.items c.push_reserved.new.self.items c.copy_from_slice.new.self t.entries.items c.push_reserved-2.new.self.items c.push_reserved.ensures.items c.self.invariant.0
    c.args.n c.len-place.result c.args.took c.args.ok place c.push_reserved-2.ensures.items in
    let room : length t.entries.items < t.limit = has_room t.text.items t.blocks.items t.entries.items t.limit t.text_limit c.args.self.now c.self.view_is c.requires.room in
    let more : length c.push_reserved-2.new.self.items ≡ length t.entries.items + 1 = ap length c.push_reserved-2.ensures.items ∙ length-append t.entries.items (kept.Write c.args.n c.len-place.result c.args.took c.args.ok ∷ []) in
    let other : length c.push_reserved.new.self.items ≡ length t.blocks.items + 1 = ap length c.push_reserved.ensures.items ∙ length-append t.blocks.items (c.copy_from_slice.new.self ∷ []) in (
      sound,
      (omega (arith, room, more), c.self.invariant.1.1, omega (arith, c.push_reserved-2.ensures.capacity)),
      (omega (arith, more, other), omega (arith, c.push_reserved.ensures.capacity)),
      c.self.invariant.3,
    )

pub returns : goal.returns
returns c =
    let t = c.self.inside in
    let place : c.len-place.result ≡ length t.blocks.items = search rules in
    is_longer t.text.items t.blocks.items t.entries.items t.limit t.text_limit c.args.self.now c.self.view_is (Write c.args.n c.args.block.now c.args.took c.args.ok) t.text.items c.push_reserved.new.self.items c.push_reserved-2.new.self.items
    (write_view t.text.items t.blocks.items c.push_reserved.new.self.items c.copy_from_slice.new.self t.entries.items c.push_reserved-2.new.self.items c.push_reserved.ensures.items c.self.invariant.0
    c.args.n c.len-place.result c.args.took c.args.ok place c.push_reserved-2.ensures.items _ refl
    ∙ ap (λ (b : List ℕ). map (event_of t.text.items t.blocks.items) t.entries.items ++ Write c.args.n b c.args.took c.args.ok ∷ []) c.copy_from_slice.ensures.after)
