use Rattle.std.proofs.Common.{◌≡◌, ◌≤◌, ◌<◌, ◌+◌, ◌++◌, ◌∷◌, [], refl, length, ap, ◌∙◌, arith, rules, length-append}
use Rattle.ark_media.specs.Journal.{Out}
use Rattle.ark_memory.specs.Tape.{Sound}
use Rattle.ark_memory.specs.declared.tape.Kept.TheVariants as kept
use Rattle.ark_memory.proofs.Taping.{out_view, out_sound, has_room, has_text, is_longer}
use Rattle.ark_memory.proofs.tape.Tape.put.Goals as goal

pub invariant_of-self : goal.invariant_of-self
invariant_of-self c =
    let t = c.self.inside in
    let from : c.len-from.result ≡ length t.text.items = search rules in
    let to : c.len-to.result ≡ length c.extend_from_slice.new.self.items = search rules in
    let text : length t.text.items + length c.args.bytes.now ≤ t.text_limit = has_text t.text.items t.blocks.items t.entries.items t.limit t.text_limit c.args.self.now c.self.view_is c.args.bytes.now c.self.invariant.0 c.requires.text in
    let longer : c.extend_from_slice.new.self.items ≡ t.text.items ++ c.args.bytes.now = search rules in
    let sound : Sound c.extend_from_slice.new.self.items t.blocks.items c.push_reserved.new.self.items = out_sound t.text.items c.extend_from_slice.new.self.items c.args.bytes.now t.blocks.items t.entries.items c.push_reserved.new.self.items c.len-from.result c.len-to.result
    longer c.push_reserved.ensures.items from to c.self.invariant.0 in
    let room : length t.entries.items < t.limit = has_room t.text.items t.blocks.items t.entries.items t.limit t.text_limit c.args.self.now c.self.view_is c.requires.room in
    let more : length c.push_reserved.new.self.items ≡ length t.entries.items + 1 = ap length c.push_reserved.ensures.items ∙ length-append t.entries.items (kept.Out c.len-from.result c.len-to.result ∷ []) in
    let size : length c.extend_from_slice.new.self.items ≡ length t.text.items + length c.args.bytes.now = ap length longer ∙ length-append t.text.items c.args.bytes.now in (
      sound,
      (omega (arith, room, more), c.self.invariant.1.1, omega (arith, c.push_reserved.ensures.capacity)),
      (omega (arith, more), c.self.invariant.2.1),
      (omega (arith, size, text), omega (arith, c.extend_from_slice.ensures.capacity)),
    )

pub returns : goal.returns
returns c =
    let t = c.self.inside in
    let from : c.len-from.result ≡ length t.text.items = search rules in
    let to : c.len-to.result ≡ length c.extend_from_slice.new.self.items = search rules in
    let text : length t.text.items + length c.args.bytes.now ≤ t.text_limit = has_text t.text.items t.blocks.items t.entries.items t.limit t.text_limit c.args.self.now c.self.view_is c.args.bytes.now c.self.invariant.0 c.requires.text in
    let longer : c.extend_from_slice.new.self.items ≡ t.text.items ++ c.args.bytes.now = search rules in
    is_longer t.text.items t.blocks.items t.entries.items t.limit t.text_limit c.args.self.now c.self.view_is (Out c.args.bytes.now) c.extend_from_slice.new.self.items t.blocks.items c.push_reserved.new.self.items
    (out_view t.text.items c.extend_from_slice.new.self.items c.args.bytes.now t.blocks.items t.entries.items c.push_reserved.new.self.items c.len-from.result c.len-to.result
    longer c.push_reserved.ensures.items from to c.self.invariant.0 _ refl)
