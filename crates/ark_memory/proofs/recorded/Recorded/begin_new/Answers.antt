use Rattle.std.proofs.Common.{◌≡◌, ◌≤◌, ◌*◌, ℕ, length, ap, sym, ◌∙◌, leb, arith, rules, replicate}
use Rattle.ark_media.specs.Journal.{zero_block}
use Rattle.ark_memory.specs.Reels.{Taped, Reel, begun}
use Rattle.ark_memory.specs.Turns.{after_begin}
use Rattle.ark_memory.proofs.Recording.{new_image, new_reel, resized}
use Rattle.std.proofs.lemmas.List.{length-replicate}
use Rattle.ark_memory.proofs.recorded.Recorded.begin_new.Goals as goal

pub invariant_of-self-2 : goal.invariant_of-self-2
invariant_of-self-2 c =
    let r = c.self.inside in
    let fits : 512 * c.args.blocks ≤ r.limit = omega (arith, ap (λ (x : Reel). x.limits.device) c.self.view_is, c.requires.room) in
    let base : c.resize.new.self.items ≡ replicate (512 * c.args.blocks) 0 = resized c.resize.result (512 * c.args.blocks) _ _ c.clear-2.new.self.items c.resize.new.self.items c.resize.ensures.full (omega (arith, fits, c.clear-2.ensures.capacity)) c.clear-2.ensures.items c.clear-2.ensures.len c.resize.ensures.items in
    let image : c.resize-2.new.self.items ≡ replicate (512 * c.args.blocks) 0 = resized c.resize-2.result (512 * c.args.blocks) _ _ c.clear-3.new.self.items c.resize-2.new.self.items c.resize-2.ensures.full (omega (arith, fits, c.clear-3.ensures.capacity)) c.clear-3.ensures.items c.clear-3.ensures.len c.resize-2.ensures.items in (
      new_image c.resize-2.new.self.items c.resize.new.self.items c.clear.new.self.events c.args.blocks image base (ap (λ (t : Taped). t.events) c.clear.ensures),
      omega (arith, ap length base, length-replicate {A = ℕ} (512 * c.args.blocks) 0, c.requires.small),
      (omega (arith, c.resize.ensures.capacity), omega (arith, c.resize-2.ensures.capacity)),
    )

pub returns-clause-device : goal.returns-clause-device
returns-clause-device c =
    let r = c.self.inside in
    let fits : 512 * c.args.blocks ≤ r.limit = omega (arith, ap (λ (x : Reel). x.limits.device) c.self.view_is, c.requires.room) in
    let base : c.resize.new.self.items ≡ replicate (512 * c.args.blocks) 0 = resized c.resize.result (512 * c.args.blocks) _ _ c.clear-2.new.self.items c.resize.new.self.items c.resize.ensures.full (omega (arith, fits, c.clear-2.ensures.capacity)) c.clear-2.ensures.items c.clear-2.ensures.len c.resize.ensures.items in
    let begins : after_begin c.args.turn (leb c.args.blocks c.args.most) (replicate c.args.blocks zero_block) c.args.self.now ≡ begun c.args.self.now (replicate c.args.blocks zero_block) = search rules in
    new_reel r.lost r.base.items c.resize.new.self.items r.tape c.clear.new.self r.limit c.args.self.now c.args.blocks c.self.view_is base c.clear.ensures ∙ sym begins
