use Rattle.std.proofs.Common.{◌≡◌, ◌≤◌, ◌+◌, ◌-◌, ◌*◌, ℕ, List, length, take, drop, sym, ◌∙◌, ap, arith, rules}
use Rattle.ark_media.specs.Journal.{block}
use Rattle.ark_memory.specs.Reels.{Reel}
use Rattle.ark_memory.proofs.Recording.{is_inside}
use Rattle.ark_memory.proofs.Leaving.{block_at, block_fits}
use Rattle.ark_memory.proofs.recorded.Recorded.base_block.Goals as goal

pub slice_bounds-result-end : goal.slice_bounds-result-end
slice_bounds-result-end c =
    let r = c.self.inside in
    let fits : 512 * c.args.n + 512 ≤ length r.base.items = block_fits r.base.items c.args.n (is_inside c.args.n _ _ c.self.view_is c.requires) in
    search rules

pub returns : goal.returns
returns c =
    let r = c.self.inside in
    let n = c.args.n in
    let size : 512 * n + 512 - 512 * n ≡ 512 = omega arith in
    ap (λ k. take k (drop (512 * n) c.deref.result.now)) size ∙ ap (λ (l : List ℕ). take 512 (drop (512 * n) l)) c.deref.ensures.value
    ∙ sym (block_at r.base.items n (is_inside n _ _ c.self.view_is c.requires)) ∙ ap (λ (x : Reel). block x.base n) c.self.view_is
