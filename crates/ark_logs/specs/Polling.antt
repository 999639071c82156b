-- What the word `poll` looks at and answers.
use Rattle.std.specs.Prelude.{ℕ, List, [], take, Option, option_and_then}
use Rattle.ark_objects.specs.Held.{at}
use Rattle.ark_base.specs.declared.kind.Kind.{Kind}
use Rattle.ark_base.specs.declared.kind.Kind.TheVariants as kind
use Rattle.ark_log.specs.declared.command.Command.{Command}
use Rattle.ark_log.specs.declared.command.Command.TheVariants.{Append, Trim, Pop}
use Rattle.ark_log.specs.declared.polling.Polled.{Polled}
use Rattle.ark_log.specs.declared.polling.Polled.TheVariants.{Nothing, Posted, Acked, Fault}
use Rattle.ark_log.specs.Open.{OpenChain}
use Rattle.ark_held.specs.declared.card.StorageCard.{StorageCard}
use Rattle.ark_script.specs.declared.said.Said.{Said}
use Rattle.ark_script.specs.declared.said.Said.TheVariants as said

-- the log or queue that is open on the card of a key
abbrev pub chain_on : List (Option StorageCard) → ℕ → Option OpenChain
chain_on cards key = option_and_then (λ c. c.log) (at cards key)

-- an acknowledged command of a log or queue
abbrev pub acked_by : Kind → Command → Said
acked_by kind.Queue (Append n) = said.AckedPush n
acked_by k (Append n) = said.AckedAppend n
acked_by k (Trim n) = said.AckedTrim n
acked_by k (Pop n) = said.AckedPop n

abbrev pub said_by : Kind → Polled → Said
said_by k Nothing = said.Nothing
said_by k Posted = said.Posted
said_by k (Acked c len) = acked_by k c
said_by k (Fault o) = said.Failed o

-- of the bytes that a poll may fill it shows those of a payload
abbrev pub shown_by : Polled → List ℕ → List ℕ
shown_by (Acked c len) out = take len out
shown_by Nothing out = []
shown_by Posted out = []
shown_by (Fault o) out = []
