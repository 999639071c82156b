use Rattle.ark_running.proofs.Commanding as commanding
use Rattle.ark_running.proofs.accepting.accepting_laws.Goals as goal

pub returns : goal.returns
returns c = record {
  appends = λ h blocks before after ring v w p g o payload runs going made. commanding.appends h blocks before ring v p g o runs going w payload after made;
  trims = λ h blocks space ring v p g o n runs going. commanding.trims h blocks space ring v p g o runs going n;
  pops = λ h blocks before after ring v w p g o runs going made. commanding.pops h blocks before ring v p g o runs going w after made;
}
