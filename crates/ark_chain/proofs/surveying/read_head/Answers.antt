use Rattle.std.proofs.Common.{◌∙◌, refl, sym, ap}
use Rattle.ark_entry.specs.Header.{header_of}
use Rattle.ark_entry.specs.Stated.{stated}
use Rattle.ark_chain.proofs.Finding.{right_head}
use Rattle.ark_chain.proofs.surveying.read_head.Goals as goal

pub returns-in-Err-read_header-clause-head : goal.returns-in-Err-read_header-clause-head
returns-in-Err-read_header-clause-head g c h is = (refl, sym (c.in-Err-read_header.ensures.read ∙ ap (header_of c.args.kind c.args.room) (c.in-Ok.ensures.honest.told h is)))

pub returns-in-Ok-read_header-clause-head : goal.returns-in-Ok-read_header-clause-head
returns-in-Ok-read_header-clause-head g c h is = sym (c.in-Ok-read_header.ensures.read ∙ ap (header_of c.args.kind c.args.room) (c.in-Ok.ensures.honest.told h is))

pub returns-in-Ok-read_header-clause-right : goal.returns-in-Ok-read_header-clause-right
returns-in-Ok-read_header-clause-right g c =
    let r = right_head c.args.kind c.args.room c.read.new.out (stated c.in-Ok-read_header.head) c.requires.some (sym c.in-Ok-read_header.ensures.read) in
    record { some = r.0; start = r.1; count = r.2; last = r.3 }
