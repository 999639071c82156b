use Rattle.ark_laws.proofs.FramesKept.{fresh_there, start_there, line_there}
use Rattle.ark_laws.proofs.Letting.{let_out_by_filter, sent_counted, sent_exactly}
use Rattle.ark_laws.proofs.Sent.{listed_paced}
use Rattle.ark_laws.proofs.effects.frame_laws.Goals as goal

pub returns : goal.returns
returns c = record {
  let_out = let_out_by_filter;
  tick = λ s a h. (listed_paced s.now s.machines a h).0;
  counted = sent_counted;
  counted_exactly = sent_exactly;
  posted_fresh = fresh_there;
  posted_stored = start_there;
  posted_kept = line_there;
}
