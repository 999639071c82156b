use Rattle.std.proofs.Common.{◌≡◌, ◌*◌, ◌/◌, ◌≤◌, length, take, arith}
use Rattle.std.proofs.lemmas.List.{length-take-le}
use Rattle.ark_script.proofs.Digits.{length-spelled_half}
use Rattle.ark_script.proofs.step.Hex.read.Goals as goal

pub decode-requires-clause-even : goal.decode-requires-clause-even
decode-requires-clause-even c =
    let digits = c.args.self.now.digits.now in
    let count : c.len-count.result ≡ length digits / 2 = rw c.len-count.ensures (length-spelled_half digits) in
    let room : c.len-count.result ≤ length c.args.out.now = rw c.len-count.ensures c.requires.room in
    let taken : length (take c.len-count.result c.args.out.now) ≡ c.len-count.result = length-take-le _ _ room in
    let even : length digits ≡ 2 * (length digits / 2) = c.args.self.now.even in
    omega (arith, count, taken, even)
