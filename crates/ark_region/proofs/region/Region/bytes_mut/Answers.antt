use Rattle.std.proofs.Common.{◌*◌, ◌+◌, refl, ap, ◌∙◌, slice_range}
use Rattle.ark_region.specs.Frames.{Piece, written}
use Rattle.ark_region.proofs.WrittenBack.{written_back}
use Rattle.ark_region.proofs.region.Region.bytes_mut.Goals as goal

pub returns : goal.returns
returns c = (
  (
    refl,
    λ w i. record {
      taken = (c.self.view_is i).taken;
      bytes = (written_back c.self.inside.bytes (512 * c.buf.inside.start) w
          ∙ ap (λ m. written m.bytes (512 * c.buf.inside.start) w) c.self.view_is
          ∙ ap (λ (b : Piece). written c.args.self.now.bytes (512 * b.start) w) c.buf.view_is) i;
    },
  ),
  record {
    writes_back = tt;
    value = c.slice_mut.ensures.value
        ∙ ap (λ m. slice_range m.bytes (512 * c.buf.inside.start) (512 * c.buf.inside.start + c.buf.inside.len)) c.self.view_is
        ∙ ap (λ (b : Piece). slice_range c.args.self.now.bytes (512 * b.start) (512 * b.start + b.len)) c.buf.view_is;
  },
)
