use Rattle.std.proofs.Common.{refl, rules}
use Rattle.ark_host.proofs.InDevice.{fresh_inside}
use Rattle.ark_host.proofs.Standing.{fresh_stands}
use Rattle.ark_host.proofs.host.Host.new.Goals as goal

pub returns-clause-stands : goal.returns-clause-stands
returns-clause-stands c = λ h based table.
    let plane = c.in_ok-new.ensures in
    fresh_stands _ c.args.blocks h (search rules) plane.free plane.table plane.settled refl plane.own based table

pub returns-clause-inside : goal.returns-clause-inside
returns-clause-inside c =
    let plane = c.in_ok-new.ensures in
    fresh_inside c.args.blocks _ _ c.requires.low c.requires.high (search rules) plane.free _ _ plane.shared
