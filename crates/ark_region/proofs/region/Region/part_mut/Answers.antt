use Rattle.std.proofs.Common.{◌≡◌, ◌≤◌, ◌*◌, ◌+◌, ◌-◌, refl, ap, sym, subst, ◌∙◌, take, drop, length, arith}
use Rattle.ark_region.specs.Frames.{Space, Piece, bytes_of, written}
use Rattle.ark_region.proofs.Putting.{part_of}
use Rattle.ark_region.proofs.Sharing.{part_wrote}
use Rattle.ark_region.proofs.WrittenBack.{written_back}
use Rattle.ark_region.proofs.region.Region.part_mut.Goals as goal

pub returns : goal.returns
returns c =
    let s = 512 * c.buf.inside.start in
    let long = c.slice_mut.ensures.len in (
      (
        refl,
        λ w i. record {
          taken = (c.self.view_is i).taken;
          bytes = (written_back c.self.inside.bytes (s + c.args.at) w
              ∙ ap (λ m. written m.bytes (s + c.args.at) w) c.self.view_is
              ∙ ap (λ (b : Piece). written c.args.self.now.bytes (512 * b.start + c.args.at) w) c.buf.view_is) i;
        },
      ),
      record {
        writes_back = tt;
        value = c.slice_mut.ensures.value
            ∙ ap (λ (m : Space). take ((s + c.args.end) - (s + c.args.at)) (drop (s + c.args.at) m.bytes)) c.self.view_is
            ∙ part_of c.args.self.now.bytes s c.buf.inside.len c.args.at c.args.end c.requires.order (subst (λ (p : Piece). c.args.end ≤ p.len) (sym c.buf.view_is) c.requires.within)
            ∙ ap (λ (p : Piece). take (c.args.end - c.args.at) (drop c.args.at (bytes_of c.args.self.now p))) c.buf.view_is;
        len = omega (arith, long);
        part = λ bytes size. part_wrote c.args.self.now c.args.buf.now c.args.at bytes (subst (λ (m : Space). length m.bytes ≡ 512 * length m.taken) c.self.view_is c.self.invariant.0) c.requires.lies
            (let order = c.requires.order in let within = c.requires.within in omega (arith, size, order, within));
      },
    )
