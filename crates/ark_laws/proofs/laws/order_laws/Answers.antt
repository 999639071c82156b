use Rattle.ark_laws.proofs.Ranks.{first_holds, first_least, some_first, least_first}
use Rattle.ark_laws.proofs.Refusing.{chosen_first, chosen_none}
use Rattle.ark_laws.proofs.laws.order_laws.Goals as goal

pub returns : goal.returns
returns c = record { holds = first_holds; least = first_least; refuses = some_first; only = least_first; first_chosen = chosen_first; none_chosen = chosen_none }
