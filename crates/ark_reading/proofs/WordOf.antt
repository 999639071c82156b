-- The word of each line, and how it is spelled.
use Rattle.std.proofs.Common.{◌≡◌, ℕ, List, codes, Some, refl}
use Rattle.ark_script.specs.Form.{word_of}
use Rattle.ark_script.specs.Line as w
use Rattle.ark_script.specs.Line.{Line}
use Rattle.ark_reading.specs.Word.{word_at}
use Rattle.ark_reading.specs.declared.word.Word.{Word}
use Rattle.ark_reading.specs.declared.word.Word.TheVariants as word
use Rattle.ark_reading.specs.declared.word.PairWord.TheVariants as pair
use Rattle.ark_reading.specs.declared.word.TripleWord.TheVariants as triple
use Rattle.ark_reading.specs.declared.word.CountWord.TheVariants as count
use Rattle.ark_reading.specs.declared.word.LengthWord.TheVariants as length
use Rattle.ark_reading.specs.declared.word.RangeWord.TheVariants as range
use Rattle.ark_reading.specs.declared.word.QueueWord.TheVariants as queued
use Rattle.ark_reading.specs.declared.word.TransferWord.TheVariants as transfer
use Rattle.ark_reading.specs.declared.word.EntryWord.TheVariants as entry
use Rattle.ark_reading.specs.declared.word.WriteWord.TheVariants as write

abbrev pub kind_of_line : Line → Word
kind_of_line (w.nic own) = word.Nic
kind_of_line (w.app a f) = word.App
kind_of_line (w.vsic a v n) = word.Vsic
kind_of_line (w.vnic a v rx tx) = word.Vnic
kind_of_line (w.vsa a s n k) = word.Vsa
kind_of_line (w.grow a s n) = word.Count count.Grow
kind_of_line (w.bind a v s) = word.Triple triple.Bind
kind_of_line (w.unbind a v s) = word.Triple triple.Unbind
kind_of_line (w.filter a f x) = word.Filter
kind_of_line (w.assign a v f) = word.Triple triple.Assign
kind_of_line (w.rate a r q b) = word.Range range.Rate
kind_of_line (w.pace a v r s) = word.Queue queued.Pace
kind_of_line (w.door a d) = word.Pair pair.Door
kind_of_line (w.watch a v d s) = word.Queue queued.Watch
kind_of_line (w.drop a x) = word.Pair pair.Drop
kind_of_line (w.buf a b n) = word.Count count.Buf
kind_of_line (w.fill a b off bytes) = word.Write write.Fill
kind_of_line (w.show a b off len) = word.Range range.Show
kind_of_line (w.copy a b c len) = word.Length length.Copy
kind_of_line (w.free a b) = word.Pair pair.Free
kind_of_line (w.peek a s off) = word.Count count.Peek
kind_of_line (w.poke a s off bytes) = word.Write write.Poke
kind_of_line (w.get a v s off count b) = word.Transfer transfer.Get
kind_of_line (w.put a v s off count b) = word.Transfer transfer.Put
kind_of_line (w.flush a v) = word.Pair pair.Flush
kind_of_line (w.reap a v) = word.Pair pair.Reap
kind_of_line (w.post a v b) = word.Triple triple.Post
kind_of_line (w.send a v b len) = word.Length length.Send
kind_of_line (w.take a v d) = word.Take
kind_of_line (w.sock a k v port) = word.Length length.Sock
kind_of_line (w.sendto a k ip port bytes) = word.Sendto
kind_of_line (w.recv a k) = word.Pair pair.Recv
kind_of_line (w.look a d) = word.Pair pair.Look
kind_of_line (w.log a s v) = word.Triple triple.Log
kind_of_line (w.queue a s v) = word.Triple triple.Queue
kind_of_line (w.append a s bytes) = word.Entry entry.Append
kind_of_line (w.push a s bytes) = word.Entry entry.Push
kind_of_line (w.trim a s n) = word.Count count.Trim
kind_of_line (w.pop a s) = word.Pair pair.Pop
kind_of_line (w.walk a s n) = word.Count count.Walk
kind_of_line (w.poll a s) = word.Pair pair.Poll
kind_of_line (w.settle a s) = word.Pair pair.Settle
kind_of_line (w.close a s) = word.Pair pair.Close
kind_of_line (w.dev a v) = word.Pair pair.Dev
kind_of_line (w.wire bytes) = word.Wire
kind_of_line (w.tick n) = word.Tick

abbrev pub spelling : Word → List ℕ
spelling word.Nic = codes "nic"
spelling word.App = codes "app"
spelling word.Vsic = codes "vsic"
spelling word.Vnic = codes "vnic"
spelling word.Vsa = codes "vsa"
spelling (word.Count count.Grow) = codes "grow"
spelling (word.Triple triple.Bind) = codes "bind"
spelling (word.Triple triple.Unbind) = codes "unbind"
spelling word.Filter = codes "filter"
spelling (word.Triple triple.Assign) = codes "use"
spelling (word.Range range.Rate) = codes "rate"
spelling (word.Queue queued.Pace) = codes "pace"
spelling (word.Pair pair.Door) = codes "door"
spelling (word.Queue queued.Watch) = codes "watch"
spelling (word.Pair pair.Drop) = codes "drop"
spelling (word.Count count.Buf) = codes "buf"
spelling (word.Write write.Fill) = codes "fill"
spelling (word.Range range.Show) = codes "show"
spelling (word.Length length.Copy) = codes "copy"
spelling (word.Pair pair.Free) = codes "free"
spelling (word.Count count.Peek) = codes "peek"
spelling (word.Write write.Poke) = codes "poke"
spelling (word.Transfer transfer.Get) = codes "get"
spelling (word.Transfer transfer.Put) = codes "put"
spelling (word.Pair pair.Flush) = codes "flush"
spelling (word.Pair pair.Reap) = codes "reap"
spelling (word.Triple triple.Post) = codes "post"
spelling (word.Length length.Send) = codes "send"
spelling word.Take = codes "take"
spelling (word.Length length.Sock) = codes "sock"
spelling word.Sendto = codes "sendto"
spelling (word.Pair pair.Recv) = codes "recv"
spelling (word.Pair pair.Look) = codes "look"
spelling (word.Triple triple.Log) = codes "log"
spelling (word.Triple triple.Queue) = codes "queue"
spelling (word.Entry entry.Append) = codes "append"
spelling (word.Entry entry.Push) = codes "push"
spelling (word.Count count.Trim) = codes "trim"
spelling (word.Pair pair.Pop) = codes "pop"
spelling (word.Count count.Walk) = codes "walk"
spelling (word.Pair pair.Poll) = codes "poll"
spelling (word.Pair pair.Settle) = codes "settle"
spelling (word.Pair pair.Close) = codes "close"
spelling (word.Pair pair.Dev) = codes "dev"
spelling word.Wire = codes "wire"
spelling word.Tick = codes "tick"

-- each line's word is spelled so
pub spelling_of : (asked : Line) → spelling (kind_of_line asked) ≡ word_of asked
spelling_of (w.nic own) = refl
spelling_of (w.app a f) = refl
spelling_of (w.vsic a v n) = refl
spelling_of (w.vnic a v rx tx) = refl
spelling_of (w.vsa a s n k) = refl
spelling_of (w.grow a s n) = refl
spelling_of (w.bind a v s) = refl
spelling_of (w.unbind a v s) = refl
spelling_of (w.filter a f x) = refl
spelling_of (w.assign a v f) = refl
spelling_of (w.rate a r q b) = refl
spelling_of (w.pace a v r s) = refl
spelling_of (w.door a d) = refl
spelling_of (w.watch a v d s) = refl
spelling_of (w.drop a x) = refl
spelling_of (w.buf a b n) = refl
spelling_of (w.fill a b off bytes) = refl
spelling_of (w.show a b off len) = refl
spelling_of (w.copy a b c len) = refl
spelling_of (w.free a b) = refl
spelling_of (w.peek a s off) = refl
spelling_of (w.poke a s off bytes) = refl
spelling_of (w.get a v s off count b) = refl
spelling_of (w.put a v s off count b) = refl
spelling_of (w.flush a v) = refl
spelling_of (w.reap a v) = refl
spelling_of (w.post a v b) = refl
spelling_of (w.send a v b len) = refl
spelling_of (w.take a v d) = refl
spelling_of (w.sock a k v port) = refl
spelling_of (w.sendto a k ip port bytes) = refl
spelling_of (w.recv a k) = refl
spelling_of (w.look a d) = refl
spelling_of (w.log a s v) = refl
spelling_of (w.queue a s v) = refl
spelling_of (w.append a s bytes) = refl
spelling_of (w.push a s bytes) = refl
spelling_of (w.trim a s n) = refl
spelling_of (w.pop a s) = refl
spelling_of (w.walk a s n) = refl
spelling_of (w.poll a s) = refl
spelling_of (w.settle a s) = refl
spelling_of (w.close a s) = refl
spelling_of (w.dev a v) = refl
spelling_of (w.wire bytes) = refl
spelling_of (w.tick n) = refl

pub word_at-word_of : (asked : Line) → word_at (word_of asked) ≡ Some (kind_of_line asked)
unfolding word_at
word_at-word_of (w.nic own) = refl
word_at-word_of (w.app a f) = refl
word_at-word_of (w.vsic a v n) = refl
word_at-word_of (w.vnic a v rx tx) = refl
word_at-word_of (w.vsa a s n k) = refl
word_at-word_of (w.grow a s n) = refl
word_at-word_of (w.bind a v s) = refl
word_at-word_of (w.unbind a v s) = refl
word_at-word_of (w.filter a f x) = refl
word_at-word_of (w.assign a v f) = refl
word_at-word_of (w.rate a r q b) = refl
word_at-word_of (w.pace a v r s) = refl
word_at-word_of (w.door a d) = refl
word_at-word_of (w.watch a v d s) = refl
word_at-word_of (w.drop a x) = refl
word_at-word_of (w.buf a b n) = refl
word_at-word_of (w.fill a b off bytes) = refl
word_at-word_of (w.show a b off len) = refl
word_at-word_of (w.copy a b c len) = refl
word_at-word_of (w.free a b) = refl
word_at-word_of (w.peek a s off) = refl
word_at-word_of (w.poke a s off bytes) = refl
word_at-word_of (w.get a v s off count b) = refl
word_at-word_of (w.put a v s off count b) = refl
word_at-word_of (w.flush a v) = refl
word_at-word_of (w.reap a v) = refl
word_at-word_of (w.post a v b) = refl
word_at-word_of (w.send a v b len) = refl
word_at-word_of (w.take a v d) = refl
word_at-word_of (w.sock a k v port) = refl
word_at-word_of (w.sendto a k ip port bytes) = refl
word_at-word_of (w.recv a k) = refl
word_at-word_of (w.look a d) = refl
word_at-word_of (w.log a s v) = refl
word_at-word_of (w.queue a s v) = refl
word_at-word_of (w.append a s bytes) = refl
word_at-word_of (w.push a s bytes) = refl
word_at-word_of (w.trim a s n) = refl
word_at-word_of (w.pop a s) = refl
word_at-word_of (w.walk a s n) = refl
word_at-word_of (w.poll a s) = refl
word_at-word_of (w.settle a s) = refl
word_at-word_of (w.close a s) = refl
word_at-word_of (w.dev a v) = refl
word_at-word_of (w.wire bytes) = refl
word_at-word_of (w.tick n) = refl
