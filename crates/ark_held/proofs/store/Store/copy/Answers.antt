use Rattle.std.proofs.Common.{◌≡◌, take, Some, sym, ap, subst, ◌∙◌, rules, arith}
use Rattle.std.specs.Prelude.{option_copied}
use Rattle.ark_region.specs.Frames.{Piece, Wrote, bytes_of}
use Rattle.ark_objects.specs.Held.{at}
use Rattle.ark_held.proofs.Rights.{right_lies, right_within}
use Rattle.ark_held.proofs.Storing.{same_in, same_right, gone_here, right_here}
use Rattle.ark_held.proofs.store.Store.copy.Goals as goal

pub unreachable-requires : goal.unreachable-requires
unreachable-requires c = gone_here _ _ _ c.requires.from (sym c.at.ensures ∙ ap option_copied c.in_default.is)

pub unreachable-requires-in_default-at : goal.unreachable-requires-in_default-at
unreachable-requires-in_default-at c = gone_here _ _ _ c.requires.to (sym c.at-2.ensures ∙ ap option_copied c.in_default-at.is)

pub unreachable-requires-in_default-buf : goal.unreachable-requires-in_default-buf
unreachable-requires-in_default-buf c = right_here _ _ _ c.in-Some.from.now c.requires.from (search rules) c.in_default-buf.is

pub unreachable-requires-in_default-buf-2 : goal.unreachable-requires-in_default-buf-2
unreachable-requires-in_default-buf-2 c = right_here _ _ _ c.in-Some-at.to.now c.requires.to (search rules) c.in_default-buf-2.is

pub copy-requires-clause-from : goal.copy-requires-clause-from
copy-requires-clause-from c = right_lies c.args.self.now.region.taken c.args.self.now.buffers c.args.from c.in-Some.from.now c.in-Some-buf.source c.args.self.now.lie (search rules) c.in-Some-buf.is

pub copy-requires-clause-to : goal.copy-requires-clause-to
copy-requires-clause-to c = right_lies c.args.self.now.region.taken c.args.self.now.buffers c.args.to c.in-Some-at.to.now c.in-Some-buf-2.target c.args.self.now.lie (search rules) c.in-Some-buf-2.is

pub copy-requires-clause-from_len : goal.copy-requires-clause-from_len
copy-requires-clause-from_len c =
    let within = right_within c.args.self.now.region.taken c.args.self.now.buffers c.args.from c.in-Some.from.now c.in-Some-buf.source c.args.self.now.lie (search rules) c.in-Some-buf.is _ c.requires.from in
    omega (arith, within)

pub copy-requires-clause-to_len : goal.copy-requires-clause-to_len
copy-requires-clause-to_len c =
    let within = right_within c.args.self.now.region.taken c.args.self.now.buffers c.args.to c.in-Some-at.to.now c.in-Some-buf-2.target c.args.self.now.lie (search rules) c.in-Some-buf-2.is _ c.requires.to in
    omega (arith, within)

pub invariant_of-self : goal.invariant_of-self
invariant_of-self c = record { lie = same_in c.args.self.now.region.taken c.copy.new.self.taken c.args.self.now.buffers c.copy.ensures.wrote.taken c.args.self.now.lie }

pub returns-clause-wrote : goal.returns-clause-wrote
returns-clause-wrote c = λ source target from to.
    let there : at c.args.self.now.buffers c.args.from ≡ Some c.in-Some.from.now = search rules in
    let here : at c.args.self.now.buffers c.args.to ≡ Some c.in-Some-at.to.now = search rules in
    let old = c.args.self.now.region in
    subst (λ (p : Piece). Wrote old c.copy.new.self target 0 (take c.args.len (bytes_of old p))) (same_right c.args.self.now.buffers c.args.from c.in-Some.from.now c.in-Some-buf.source source there c.in-Some-buf.is from)
    (subst (λ (p : Piece). Wrote old c.copy.new.self p 0 (take c.args.len (bytes_of old c.in-Some-buf.source))) (same_right c.args.self.now.buffers c.args.to c.in-Some-at.to.now c.in-Some-buf-2.target target here c.in-Some-buf-2.is to) c.copy.ensures.wrote)
