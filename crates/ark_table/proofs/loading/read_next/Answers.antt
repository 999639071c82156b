use Rattle.std.proofs.Common.{subst}
use Rattle.ark_table.specs.Loading.{IsNext}
use Rattle.ark_table.specs.Stated.{areas}
use Rattle.ark_table.proofs.loading.read_next.Goals as goal

pub returns-clause-next : goal.returns-clause-next
returns-clause-next g c h told = subst (λ b. IsNext (g.D.Disk.told c.args.disk.now).blocks (areas c.args.slots.now) b c.next_of.result) (c.in_ok-read.ensures.honest.told h told)
    (subst (λ n. IsNext n (areas c.args.slots.now) c.read.new.out c.next_of.result) c.blocks-size.ensures c.next_of.ensures)
