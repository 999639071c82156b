-- The words of the program.
use Rattle.std.specs.Prelude.{ℕ, bytes_eq, List, [], ◌∷◌, codes, Option}
use Rattle.std.specs.Map.{lookup}
use Rattle.ark_reading.specs.declared.word.Word.{Word}
use Rattle.ark_reading.specs.declared.word.Word.TheVariants as word
use Rattle.ark_reading.specs.declared.word.PairWord.TheVariants as pair
use Rattle.ark_reading.specs.declared.word.TripleWord.TheVariants as triple
use Rattle.ark_reading.specs.declared.word.CountWord.TheVariants as count
use Rattle.ark_reading.specs.declared.word.LengthWord.TheVariants as sized
use Rattle.ark_reading.specs.declared.word.RangeWord.TheVariants as range
use Rattle.ark_reading.specs.declared.word.QueueWord.TheVariants as queued
use Rattle.ark_reading.specs.declared.word.TransferWord.TheVariants as transfer
use Rattle.ark_reading.specs.declared.word.EntryWord.TheVariants as entry
use Rattle.ark_reading.specs.declared.word.WriteWord.TheVariants as write

abbrev pub table : List (List ℕ × Word)
table =
    (codes "nic", word.Nic) ∷
    (codes "app", word.App) ∷
    (codes "vsic", word.Vsic) ∷
    (codes "vnic", word.Vnic) ∷
    (codes "vsa", word.Vsa) ∷
    (codes "grow", (word.Count count.Grow)) ∷
    (codes "bind", (word.Triple triple.Bind)) ∷
    (codes "unbind", (word.Triple triple.Unbind)) ∷
    (codes "filter", word.Filter) ∷
    (codes "use", (word.Triple triple.Assign)) ∷
    (codes "rate", (word.Range range.Rate)) ∷
    (codes "pace", (word.Queue queued.Pace)) ∷
    (codes "door", (word.Pair pair.Door)) ∷
    (codes "watch", (word.Queue queued.Watch)) ∷
    (codes "drop", (word.Pair pair.Drop)) ∷
    (codes "buf", (word.Count count.Buf)) ∷
    (codes "fill", (word.Write write.Fill)) ∷
    (codes "show", (word.Range range.Show)) ∷
    (codes "copy", (word.Length sized.Copy)) ∷
    (codes "free", (word.Pair pair.Free)) ∷
    (codes "peek", (word.Count count.Peek)) ∷
    (codes "poke", (word.Write write.Poke)) ∷
    (codes "get", (word.Transfer transfer.Get)) ∷
    (codes "put", (word.Transfer transfer.Put)) ∷
    (codes "flush", (word.Pair pair.Flush)) ∷
    (codes "reap", (word.Pair pair.Reap)) ∷
    (codes "post", (word.Triple triple.Post)) ∷
    (codes "send", (word.Length sized.Send)) ∷
    (codes "take", word.Take) ∷
    (codes "sock", (word.Length sized.Sock)) ∷
    (codes "sendto", word.Sendto) ∷
    (codes "recv", (word.Pair pair.Recv)) ∷
    (codes "look", (word.Pair pair.Look)) ∷
    (codes "log", (word.Triple triple.Log)) ∷
    (codes "queue", (word.Triple triple.Queue)) ∷
    (codes "append", (word.Entry entry.Append)) ∷
    (codes "push", (word.Entry entry.Push)) ∷
    (codes "trim", (word.Count count.Trim)) ∷
    (codes "pop", (word.Pair pair.Pop)) ∷
    (codes "walk", (word.Count count.Walk)) ∷
    (codes "poll", (word.Pair pair.Poll)) ∷
    (codes "settle", (word.Pair pair.Settle)) ∷
    (codes "close", (word.Pair pair.Close)) ∷
    (codes "dev", (word.Pair pair.Dev)) ∷
    (codes "wire", word.Wire) ∷
    (codes "tick", word.Tick) ∷
    []

-- the word that bytes spell
unfoldable pub word_at : List ℕ → Option Word
word_at bytes = lookup (bytes_eq bytes) table
