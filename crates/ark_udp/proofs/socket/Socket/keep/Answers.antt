use Rattle.std.proofs.Common.{◌≡◌, ◌<◌, ◌++◌, ◌∷◌, [], length, refl, sym, ap, ◌∙◌, subst, arith}
use Rattle.std.proofs.lemmas.Bool.{false≢true}
use Rattle.circular_buffer.specs.Buffer.{buffer}
use Rattle.ark_udp.specs.declared.peer.Head.{Head}
use Rattle.ark_udp.specs.Kept.{IsKept, cut}
use Rattle.ark_udp.proofs.Keeping.{kept, keeping, length-cut, cut-push, pushed, filled}
use Rattle.ark_udp.proofs.socket.Socket.keep.Goals as goal

pub unreachable-requires : goal.unreachable-requires
unreachable-requires c =
    let n : length c.args.self.now.datagrams ≡ length c.self.inside.heads.items =
    ap (λ s. length s.datagrams) (sym c.self.view_is) ∙ length-cut c.self.inside.heads.items c.self.inside.bytes.items in
    let all = c.self.invariant.0 in
    let room = c.requires.room in
    let fits : length c.self.inside.heads.items < c.self.inside.heads.capacity = omega (arith, n, all, room) in
    false≢true (c.in_default.ensures.variant.1 fits)

pub invariant_of-self : goal.invariant_of-self
invariant_of-self c =
    let heads = c.self.inside.heads in
    let bytes = c.self.inside.bytes in
    let head : Head = record { from = c.args.from; len = length c.args.payload.now } in
    let n : length c.args.self.now.datagrams ≡ length heads.items = ap (λ s. length s.datagrams) (sym c.self.view_is) ∙ length-cut heads.items bytes.items in
    let less = c.requires.room in
    let room : length heads.items < 8 = omega (arith, n, less) in
    let whole = filled heads.items bytes.items c.args.payload.now bytes.capacity c.fill_from_slice.result c.self.invariant.2 room c.self.invariant.1 c.requires.short c.fill_from_slice.ensures.count in
    let both = c.fill_from_slice.ensures.items ∙ ap (λ xs. buffer (bytes.items ++ xs) bytes.capacity) whole in (
      ap (λ b. b.capacity) c.in-Ok.ensures.ok ∙ c.self.invariant.0,
      ap (λ b. b.capacity) both ∙ c.self.invariant.1,
      subst (λ b. IsKept b.items c.fill_from_slice.new.self.items) (sym c.in-Ok.ensures.ok)
          (subst (λ b. IsKept (heads.items ++ head ∷ []) b.items) (sym both) (pushed heads.items head bytes.items c.args.payload.now c.self.invariant.2 room c.requires.short refl)),
    )

pub returns : goal.returns
returns c =
    let heads = c.self.inside.heads in
    let bytes = c.self.inside.bytes in
    let head : Head = record { from = c.args.from; len = length c.args.payload.now } in
    let n : length c.args.self.now.datagrams ≡ length heads.items = ap (λ s. length s.datagrams) (sym c.self.view_is) ∙ length-cut heads.items bytes.items in
    let less = c.requires.room in
    let room : length heads.items < 8 = omega (arith, n, less) in
    let whole = filled heads.items bytes.items c.args.payload.now bytes.capacity c.fill_from_slice.result c.self.invariant.2 room c.self.invariant.1 c.requires.short c.fill_from_slice.ensures.count in
    let both = c.fill_from_slice.ensures.items ∙ ap (λ xs. buffer (bytes.items ++ xs) bytes.capacity) whole in
    ap (λ b. keeping c.self.inside.port (cut b.items c.fill_from_slice.new.self.items)) c.in-Ok.ensures.ok
    ∙ ap (λ b. keeping c.self.inside.port (cut (heads.items ++ head ∷ []) b.items)) both
    ∙ ap (keeping c.self.inside.port) (cut-push heads.items head bytes.items c.args.payload.now c.self.invariant.2.whole refl)
    ∙ ap (λ s. keeping s.port (s.datagrams ++ kept head c.args.payload.now ∷ [])) c.self.view_is
