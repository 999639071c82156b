use Rattle.std.proofs.Common.{arith}
use Rattle.ark_caladan.specs.Chain.{commands, entries}
use Rattle.ark_log.proofs.Standing.{next_is, used_is}
use Rattle.ark_running.proofs.Lengths.{coming_length}
use Rattle.ark_running.proofs.More.{as_many}
use Rattle.ark_running.proofs.accepting.refusing_laws.Goals as goal

pub returns : goal.returns
returns c = record {
  coming = λ h blocks space ring v p g o runs. runs.is.stands.coming;
  next = λ h blocks space ring v p g o runs. next_is v (entries g.list) (commands o) runs.is.stands runs.is.can;
  used = λ h blocks space ring v p g o runs. used_is v (entries g.list) (commands o) runs.is.stands runs.is.right;
  room = λ h blocks space ring v p g o runs. let is = runs.is.room in omega (arith, is);
  first = λ h blocks space ring v p g o runs. coming_length v (entries g.list) (commands o) runs.is.stands runs.is.can.fit;
  many = λ h blocks space ring v p g o runs. as_many v.waiting o.waiting runs.is.stands.waiting;
  failed = λ h blocks space ring v p g o runs. runs.is.failed;
}
