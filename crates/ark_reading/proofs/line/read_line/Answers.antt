use Rattle.ark_reading.proofs.Grammar.{says_result, ranges_result}
use Rattle.ark_reading.proofs.line.read_line.Goals as goal

pub returns : goal.returns
returns c = record {
  means = says_result _ _ c.requires.short c.read.ensures;
  ranges = ranges_result _ _ c.requires.short c.read.ensures;
}
