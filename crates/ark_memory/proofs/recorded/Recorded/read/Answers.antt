use Rattle.std.proofs.Common.{◌≡◌, ◌≤◌, ◌+◌, ◌-◌, ◌*◌, List, ℕ, refl, length, take, drop, ap, subst, ◌∙◌, rules}
use Rattle.ark_media.specs.Journal.{Read}
use Rattle.ark_memory.specs.Reels.{Taped}
use Rattle.ark_media.specs.Blocks.{whole_blocks}
use Rattle.ark_memory.proofs.Recording.{plain_image, image_size, read_block, part_read, is_inside}
use Rattle.ark_memory.proofs.recorded.Recorded.read.Goals as goal

pub slice_bounds-copy_from_slice-end : goal.slice_bounds-copy_from_slice-end
slice_bounds-copy_from_slice-end c =
    let r = c.self.inside in
    let size : 512 * c.args.n + 512 ≤ length r.image.items = image_size r.image.items (whole_blocks r.base.items) r.tape.events c.args.n c.self.invariant.0 (is_inside c.args.n _ _ c.self.view_is c.requires.inside) in
    search rules

pub invariant_of-self-then-not-ok : goal.invariant_of-self-then-not-ok
invariant_of-self-then-not-ok c =
    let r = c.self.inside in (
      plain_image r.image.items (whole_blocks r.base.items) r.tape.events c.read.new.self.events (Read c.args.n c.works-ok.result) (ap (λ (t : Taped). t.events) c.read.ensures) refl c.self.invariant.0,
      c.self.invariant.1,
      c.self.invariant.2,
    )

pub invariant_of-self-2 : goal.invariant_of-self-2
invariant_of-self-2 c =
    let r = c.self.inside in (
      plain_image r.image.items (whole_blocks r.base.items) r.tape.events c.read.new.self.events (Read c.args.n c.works-ok.result) (ap (λ (t : Taped). t.events) c.read.ensures) refl c.self.invariant.0,
      c.self.invariant.1,
      c.self.invariant.2,
    )

pub returns-clause-honest : goal.returns-clause-honest
returns-clause-honest c = λ works.
    let r = c.self.inside in
    part_read r.image.items c.copy_from_slice.new.self c.args.n (subst (λ (x : List ℕ). c.copy_from_slice.new.self ≡ take (512 * c.args.n + 512 - 512 * c.args.n) (drop (512 * c.args.n) x)) c.deref.ensures.value c.copy_from_slice.ensures.after)
    ∙ read_block r.image.items (whole_blocks r.base.items) r.tape.events c.read.new.self.events c.args.n c.works-ok.result (ap (λ (t : Taped). t.events) c.read.ensures) (is_inside c.args.n _ _ c.self.view_is c.requires.inside) c.self.invariant.0
