-- What is open once its oldest command is acknowledged.
use Rattle.std.specs.Prelude.{ℕ, ◌+◌, ◌-◌, ◌%◌, drop, get_or}
use Rattle.ark_entry.specs.Entry.{entry_blocks}
use Rattle.ark_log.specs.declared.command.Command.{Command}
use Rattle.ark_log.specs.declared.command.Command.TheVariants.{Append, Trim, Pop}
use Rattle.ark_log.specs.Open.{OpenChain}
use Rattle.ark_log.specs.Walked.{blocks_before}

-- its first entry that waits is one of the list
abbrev pub with_one_more : OpenChain → OpenChain
with_one_more v = record v { count = v.count + 1; stored = v.stored + entry_blocks (get_or v.lengths v.count 0); waiting = drop 1 v.waiting; done = 0 }

-- its list begins with the entry of this number
abbrev pub from_number : OpenChain → ℕ → OpenChain
from_number v n = record v {
  first = n;
  start = (v.start + blocks_before v (n - v.first)) % v.room;
  count = v.count - (n - v.first);
  lengths = drop (n - v.first) v.lengths;
  stored = v.stored - blocks_before v (n - v.first);
  used = v.used - blocks_before v (n - v.first);
  waiting = drop 1 v.waiting;
  done = 0;
}

-- the oldest command, which is this one, is applied to the list, and waits no more
abbrev pub acknowledged : OpenChain → Command → OpenChain
acknowledged v (Append n) = with_one_more v
acknowledged v (Trim n) = from_number v n
acknowledged v (Pop n) = from_number v (n + 1)
