-- What a reply or a refusal says behind its first words.
use Rattle.std.specs.Prelude.{ℕ, List, [], ◌++◌, codes, decimal}
use Rattle.ark_base.specs.declared.refusal.Refusal.{Refusal}
use Rattle.ark_base.specs.declared.refusal.Refusal.TheVariants as r
use Rattle.ark_base.specs.Refusal.{words_of}
use Rattle.ark_script.specs.Text.{spaced, dotted, shown, outcome_words}
use Rattle.ark_script.specs.declared.said.Said.{Said}
use Rattle.ark_script.specs.declared.said.Said.TheVariants as said

-- what a refusal names
abbrev pub named_of : Refusal → List ℕ
named_of (r.NoGrant label) = label
named_of (r.Overlap app label) = app ++ (codes " " ++ label)
named_of (r.Damaged entry) = decimal entry
named_of _ = []

-- what a reply names, counts or shows
abbrev pub values_of : Said → List ℕ → List ℕ
values_of (said.Ready blocks slots) bytes = spaced (decimal blocks) (decimal slots)
values_of (said.Num n) bytes = decimal n
values_of (said.Pair first count) bytes = spaced (decimal first) (decimal count)
values_of (said.Rings rx tx io) bytes = spaced (decimal rx) (spaced (decimal tx) (decimal io))
values_of said.Bytes bytes = shown bytes
values_of (said.Got buffer o) bytes = spaced buffer (outcome_words o)
values_of (said.Put buffer o) bytes = spaced buffer (outcome_words o)
values_of (said.Flushed o) bytes = outcome_words o
values_of (said.TakenRx buffer len) bytes = spaced buffer (decimal len)
values_of (said.TakenTx buffer o) bytes = spaced buffer (outcome_words o)
values_of (said.Datagram ip port) bytes = spaced (dotted ip) (spaced (decimal port) (shown bytes))
values_of (said.Done o) bytes = outcome_words o
values_of said.Sent bytes = shown bytes
values_of (said.Delivered app card) bytes = spaced app card
values_of (said.DroppedNoBuffer app card) bytes = spaced app card
values_of (said.DroppedTooLong app card) bytes = spaced app card
values_of (said.DroppedThrottled app card) bytes = spaced app card
values_of (said.AckedAppend n) bytes = decimal n
values_of (said.AckedPush n) bytes = decimal n
values_of (said.AckedTrim n) bytes = decimal n
values_of (said.AckedPop n) bytes = spaced (decimal n) (shown bytes)
values_of (said.Failed o) bytes = outcome_words o
values_of (said.Refused refusal) bytes = words_of refusal
values_of _ bytes = []
