use Rattle.std.proofs.Common.{◌∙◌, ap}
use Rattle.ark_media.specs.Journal.{block, current}
use Rattle.ark_chain.proofs.Parts.{part_added}
use Rattle.ark_chain.proofs.payload.read_part.Goals as goal

pub returns-clause-part : goal.returns-clause-part
returns-clause-part g c h is =
    part_added c.args.from.now.room c.args.from.now.start c.args.len c.args.out.now c.put_part.new.out c.read.new.out (current h.base h.journal) c.read.auto.out c.args.k
    (c.in_ok-read.ensures.honest.told h is ∙ ap (block (current h.base h.journal)) c.place.ensures.place) c.put_part.ensures.put
