use Rattle.ark_laws.proofs.Confining.{line_confined, confined_of}
use Rattle.ark_laws.proofs.FramesWithin.{sends_front, delivers_front}
use Rattle.ark_laws.proofs.Moving.{line_passes}
use Rattle.ark_laws.proofs.Sent.{line_sends, line_paced, paced_keep, start_paced}
use Rattle.ark_laws.proofs.laws.confinement_laws.Goals as goal

pub returns : goal.returns
returns c = record {
  touches = λ s line ends memory es h. (line_confined s line ends memory es h).0;
  passes = line_passes;
  stops = λ s line ends memory es h. (line_confined s line ends memory es h).1;
  sends = line_sends;
  paced = line_paced;
  keeps = paced_keep;
  fresh = λ size. tt;
  stored = start_paced;
  confined = confined_of;
  front_sends = sends_front;
  front_delivers = delivers_front;
}
