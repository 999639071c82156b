use Rattle.std.proofs.Common.{◌≡◌, ◌+◌, ◌++◌, take, drop, length, subst, ap, ◌∙◌, rules}
use Rattle.std.proofs.lemmas.List.{length-take}
use Rattle.ark_cli.proofs.Kept.{kept_written}
use Rattle.ark_cli.proofs.line.LineBuffer.extend.Goals as goal

pub returns : goal.returns
returns c =
    let count : length (take c.min-count.result c.args.bytes.now) ≡ c.min-count.result = length-take c.min-count.result c.args.bytes.now ∙ search rules in
    kept_written c.self.inside.bytes c.args.self.now c.args.bytes.now c.put_at.new.bytes c.self.inside.len c.min-count.result c.self.invariant.0 c.self.invariant.1 c.self.view_is c.min-count.ensures
    (subst (λ xs. c.put_at.new.bytes ≡ take c.self.inside.len xs ++ (take c.min-count.result c.args.bytes.now ++ drop (c.self.inside.len + c.min-count.result) xs)) c.deref_mut.ensures.value
    (c.put_at.ensures ∙ ap (λ k. take c.self.inside.len c.deref_mut.result.now ++ (take c.min-count.result c.args.bytes.now ++ drop (c.self.inside.len + k) c.deref_mut.result.now)) count))
