use Rattle.std.proofs.Common.{◌≡◌, ◌*◌, ◌+◌, ◌∙◌, List, ℕ, length, take, ap, subst, arith}
use Rattle.std.proofs.lemmas.Grind.{common_steps}
use Rattle.ark_region.specs.Frames.{Space, bytes_of, put}
use Rattle.ark_region.proofs.Sharing.{wrote_at, part_front, range_len}
use Rattle.ark_region.proofs.region.Region.copy.Goals as goal

pub returns-clause-bytes : goal.returns-clause-bytes
returns-clause-bytes c = grind (arith, common_steps)

pub returns-clause-wrote : goal.returns-clause-wrote
returns-clause-wrote c =
    let old = c.args.self.now in
    let whole = subst (λ (m : Space). length m.bytes ≡ 512 * length m.taken) c.self.view_is c.self.invariant.0 in
    let n = range_len old.bytes (512 * c.args.from.now.start) c.args.len in
    let front = part_front old.bytes (512 * c.args.from.now.start) c.args.from.now.len c.args.len c.requires.from_len in
    let first : 512 * c.args.to.now.start ≡ 512 * c.args.to.now.start + 0 = omega arith in
    wrote_at old _ c.args.to.now 0 (take c.args.len (bytes_of old c.args.from.now)) whole c.requires.to (ap (λ (m : Space). m.taken) c.self.view_is)
    (let fits = c.requires.to_len in let same = ap (λ (z : List ℕ). length z) front in omega (arith, n, fits, same))
    (returns-clause-bytes c ∙ ap (λ (z : List ℕ). put old.bytes (512 * c.args.to.now.start) z) front ∙ ap (λ i. put old.bytes i (take c.args.len (bytes_of old c.args.from.now))) first)
