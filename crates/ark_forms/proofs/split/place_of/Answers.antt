use Rattle.ark_forms.proofs.Parts.{first_position}
use Rattle.ark_forms.proofs.split.place_of.Goals as goal

pub returns-else-bytes-lt-SHORT : goal.returns-else-bytes-lt-SHORT
returns-else-bytes-lt-SHORT c = first_position c.args.byte c.args.bytes.now c.memchr.result c.memchr.ensures
