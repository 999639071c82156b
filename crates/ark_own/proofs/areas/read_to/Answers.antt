use Rattle.std.proofs.Common.{◌≡◌, ◌++◌, ℕ, List, take, drop, length, ◌∙◌, ap, sym, subst}
use Rattle.std.specs.Prelude.{OnOk}
use Rattle.std.proofs.lemmas.List.{length-take-le}
use Rattle.std.proofs.Math.Seq.{take-append_seam}
use Rattle.ark_media.specs.Calls.{GivesBlock}
use Rattle.ark_own.proofs.areas.read_to.Goals as goal

pub returns-clause-honest : goal.returns-clause-honest
returns-clause-honest g c =
    let out = c.read.new.out in
    let room = c.args.room.now in
    let size : length out ≡ 512 = c.read.auto.out ∙ length-take-le 512 room c.requires.room in
    let same : take 512 (out ++ drop 512 room) ≡ out = ap (λ n. take n (out ++ drop 512 room)) (sym size) ∙ take-append_seam out (drop 512 room) in
    subst (λ (z : List ℕ). OnOk c.read.result (GivesBlock (g.D.Disk.told c.read.new.self).history c.args.n z)) (sym same) c.read.ensures.honest
