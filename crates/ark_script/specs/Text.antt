-- The text of a reply.
use Rattle.std.specs.Prelude.{◌≡◌, ℕ, Bool, true, false, not, ◌&&◌, nat_eq, List, [], ◌∷◌, ◌++◌, codes, decimal}
use Rattle.hex.specs.Hex.{encode_lower}
use Rattle.ark_base.specs.Name.{is_name}
use Rattle.ark_base.specs.Refusal.{words_of}
use Rattle.ark_base.specs.declared.kind.Outcome.{Outcome}
use Rattle.ark_base.specs.declared.kind.Outcome.TheVariants as outcome
use Rattle.ark_base.specs.declared.refusal.Refusal.{Refusal}
use Rattle.ark_base.specs.declared.refusal.Refusal.TheVariants as r
use Rattle.ark_script.specs.declared.said.Said.{Said}
use Rattle.ark_script.specs.declared.said.Said.TheVariants as said

abbrev pub outcome_words : Outcome → List ℕ
outcome_words outcome.Ok = codes "ok"
outcome_words outcome.NoGrant = codes "no grant"
outcome_words outcome.OutOfRange = codes "out of range"
outcome_words outcome.OverBurst = codes "over burst"
outcome_words outcome.DeviceFault = codes "device fault"
outcome_words outcome.NoFilter = codes "no filter"

-- bytes as hex digits in lower case, and none as `-`
abbrev pub shown : List ℕ → List ℕ
shown [] = codes "-"
shown (b ∷ bs) = encode_lower (b ∷ bs)

-- an address of IPv4: its octets in decimal with dots between them
abbrev pub dotted : List ℕ → List ℕ
dotted [] = []
dotted (b ∷ []) = decimal b
dotted (b ∷ c ∷ bs) = decimal b ++ (codes "." ++ dotted (c ∷ bs))

-- two words with a space between them
abbrev pub spaced : List ℕ → List ℕ → List ℕ
spaced x y = x ++ (codes " " ++ y)

-- the words of the reply; what is said with bytes shows them
abbrev pub reply_words : Said → List ℕ → List ℕ
reply_words (said.Ready blocks slots) bytes = codes "ready " ++ spaced (decimal blocks) (decimal slots)
reply_words said.Ok bytes = codes "ok"
reply_words (said.Num n) bytes = codes "ok " ++ decimal n
reply_words (said.Pair first count) bytes = codes "ok " ++ spaced (decimal first) (decimal count)
reply_words (said.Rings rx tx io) bytes = codes "ok " ++ spaced (decimal rx) (spaced (decimal tx) (decimal io))
reply_words said.Bytes bytes = codes "ok " ++ shown bytes
reply_words said.Nothing bytes = codes "ok nothing"
reply_words said.Posted bytes = codes "ok posted"
reply_words said.OkHeld bytes = codes "ok held"
reply_words (said.Got buffer o) bytes = codes "ok get " ++ spaced buffer (outcome_words o)
reply_words (said.Put buffer o) bytes = codes "ok put " ++ spaced buffer (outcome_words o)
reply_words (said.Flushed o) bytes = codes "ok flush " ++ outcome_words o
reply_words (said.TakenRx buffer len) bytes = codes "ok " ++ spaced buffer (decimal len)
reply_words (said.TakenTx buffer o) bytes = codes "ok " ++ spaced buffer (outcome_words o)
reply_words (said.Datagram ip port) bytes = codes "ok " ++ spaced (dotted ip) (spaced (decimal port) (shown bytes))
reply_words said.Idle bytes = codes "idle"
reply_words said.Held bytes = codes "held"
reply_words said.Moved bytes = codes "moved"
reply_words (said.Done o) bytes = codes "done " ++ outcome_words o
reply_words said.Sent bytes = codes "sent " ++ shown bytes
reply_words (said.Delivered app card) bytes = codes "delivered " ++ spaced app card
reply_words said.DroppedNoFilter bytes = codes "dropped no filter"
reply_words (said.DroppedNoBuffer app card) bytes = codes "dropped no buffer " ++ spaced app card
reply_words (said.DroppedTooLong app card) bytes = codes "dropped too long " ++ spaced app card
reply_words (said.DroppedThrottled app card) bytes = codes "dropped throttled " ++ spaced app card
reply_words (said.AckedAppend n) bytes = codes "acked append " ++ decimal n
reply_words (said.AckedPush n) bytes = codes "acked push " ++ decimal n
reply_words (said.AckedTrim n) bytes = codes "acked trim " ++ decimal n
reply_words (said.AckedPop n) bytes = codes "acked pop " ++ spaced (decimal n) (shown bytes)
reply_words (said.Failed o) bytes = codes "failed " ++ outcome_words o
reply_words (said.Refused refusal) bytes = codes "refused " ++ words_of refusal

-- the line of the reply, with its newline
abbrev pub text : Said → List ℕ → List ℕ
text s bytes = reply_words s bytes ++ 10 ∷ []

-- whether it is the reply of a line that found no memory
abbrev pub wants_memory : Said → Bool
wants_memory (said.Refused r.NoMemory) = true
wants_memory _ = false

-- the labels that a refusal names are names
abbrev pub IsNamed : Refusal → Type 0
IsNamed (r.NoGrant label) = is_name label ≡ true
IsNamed (r.Overlap app label) = (is_name app ≡ true) × (is_name label ≡ true)
IsNamed _ = Unit {0}

-- what every reply of the program is: the labels in it are names
abbrev pub IsSaid : Said → Type 0
IsSaid (said.Refused refusal) = IsNamed refusal
IsSaid (said.Got buffer o) = is_name buffer ≡ true
IsSaid (said.Put buffer o) = is_name buffer ≡ true
IsSaid (said.TakenRx buffer len) = is_name buffer ≡ true
IsSaid (said.TakenTx buffer o) = is_name buffer ≡ true
IsSaid (said.Delivered app card) = (is_name app ≡ true) × (is_name card ≡ true)
IsSaid (said.DroppedNoBuffer app card) = (is_name app ≡ true) × (is_name card ≡ true)
IsSaid (said.DroppedTooLong app card) = (is_name app ≡ true) × (is_name card ≡ true)
IsSaid (said.DroppedThrottled app card) = (is_name app ≡ true) × (is_name card ≡ true)
IsSaid _ = Unit {0}

-- whether no byte is a newline
abbrev pub no_newline : List ℕ → Bool
no_newline [] = true
no_newline (b ∷ bs) = not (nat_eq b 10) && no_newline bs
