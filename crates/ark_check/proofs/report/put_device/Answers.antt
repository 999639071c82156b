use Rattle.std.proofs.Common.{◌∙◌, ◌∷◌, ◌++◌, [], length, sym}
use Rattle.ark_media.proofs.Stopping.{length-current}
use Rattle.ark_check.specs.Report.{device_line}
use Rattle.ark_check.proofs.Pieces.{puts_as}
use Rattle.ark_check.proofs.report.put_device.Goals as goal

pub returns : goal.returns
returns g c =
    let puts = c.put_line.ensures.puts in
    record {
      puts = puts_as _ _ _ _ _ c.put_line.result puts (λ image. device_line (length image) c.args.used ++ 10 ∷ [])
          (λ h told whole.
          let long = length-current h.base h.journal ∙ g.met.W.Disk.size_is c.put_line.new.world h told ∙ puts.goes.tells.blocks ∙ sym c.blocks-2.ensures in
          c.print_device-end.ensures.text ∙ (λ i. device_line (sym long i) c.args.used ++ 10 ∷ []));
    }
