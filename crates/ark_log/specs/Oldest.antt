-- What the oldest command does to the list.
use Rattle.std.specs.Prelude.{◌≡◌, ℕ, ◌+◌, List, ◌∷◌}
use Rattle.ark_log.specs.declared.command.Command.TheVariants.{Append}
use Rattle.ark_log.specs.declared.command.Waiting.{Waiting}
use Rattle.ark_log.specs.Open.{OpenChain, first_after, next_after}

-- the oldest command appends an entry
pub record Adds (v : OpenChain) : Type 0 where
  pub oldest : Waiting
  pub rest : List Waiting
  pub is : v.waiting ≡ oldest ∷ rest
  pub number : ℕ
  pub named : oldest.command ≡ Append number

-- the oldest command drops the entries below a number
pub record DropsTo (v : OpenChain) (n : ℕ) : Type 0 where
  pub oldest : Waiting
  pub rest : List Waiting
  pub is : v.waiting ≡ oldest ∷ rest
  pub first : first_after oldest.command v.first ≡ n
  pub next : next_after oldest.command (v.first + v.count) ≡ v.first + v.count
