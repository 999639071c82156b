use Rattle.std.proofs.Common.{◌≡◌, ◌/◌, length, ap, sym, ◌∙◌, rules}
use Rattle.ark_memory.specs.Reels.{Reel}
use Rattle.ark_media.proofs.Flat.{length-blocks_in}
use Rattle.ark_memory.proofs.recorded.Recorded.blocks.Goals as goal

pub returns : goal.returns
returns c =
    let r = c.self.inside in
    let size : length c.args.self.now.base ≡ length r.base.items / 512 = ap (λ (x : Reel). length x.base) (sym c.self.view_is) ∙ length-blocks_in (length r.base.items / 512) r.base.items in
    let len : c.len.result ≡ length r.base.items = search rules in
    ap (λ n. n / 512) len ∙ sym size
