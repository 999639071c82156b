-- What a line asks for, by its word and the words behind it.
use Rattle.std.specs.Prelude.{ℕ, ◌-◌, ◌^◌, nat_le, if◌then◌else◌, List, Option, Some, None}
use Rattle.std.specs.Option.{option_or}
use Rattle.ark_script.specs.Arguments.{fewest_blocks}
use Rattle.ark_script.specs.Form.{most_blocks, a_billion}
use Rattle.ark_script.specs.Line as w
use Rattle.ark_script.specs.Line.{Line}
use Rattle.ark_forms.specs.Reading.{◌>>=◌, six_of, name_of, optional_of, number_of, size_of, hex_of, hex0_of, kind_of, side_of, direction_of, proto_of, ip_of}
use Rattle.ark_forms.specs.Listed.{peers_of, services_of}
use Rattle.ark_reading.specs.Sentence.{one_read, two_read, three_read, four_read, five_read, six_read}
use Rattle.ark_reading.specs.declared.word.PairWord.{PairWord}
use Rattle.ark_reading.specs.declared.word.PairWord.TheVariants as pair
use Rattle.ark_reading.specs.declared.word.TripleWord.{TripleWord}
use Rattle.ark_reading.specs.declared.word.TripleWord.TheVariants as triple
use Rattle.ark_reading.specs.declared.word.CountWord.{CountWord}
use Rattle.ark_reading.specs.declared.word.CountWord.TheVariants as count
use Rattle.ark_reading.specs.declared.word.LengthWord.{LengthWord}
use Rattle.ark_reading.specs.declared.word.LengthWord.TheVariants as sized
use Rattle.ark_reading.specs.declared.word.RangeWord.{RangeWord}
use Rattle.ark_reading.specs.declared.word.RangeWord.TheVariants as range
use Rattle.ark_reading.specs.declared.word.QueueWord.{QueueWord}
use Rattle.ark_reading.specs.declared.word.QueueWord.TheVariants as queued
use Rattle.ark_reading.specs.declared.word.TransferWord.{TransferWord}
use Rattle.ark_reading.specs.declared.word.TransferWord.TheVariants as transfer
use Rattle.ark_reading.specs.declared.word.EntryWord.{EntryWord}
use Rattle.ark_reading.specs.declared.word.EntryWord.TheVariants as entry
use Rattle.ark_reading.specs.declared.word.WriteWord.{WriteWord}
use Rattle.ark_reading.specs.declared.word.WriteWord.TheVariants as write
use Rattle.ark_reading.specs.declared.word.Word.{Word}
use Rattle.ark_reading.specs.declared.word.Word.TheVariants as word
use Rattle.ark_script.specs.declared.step.Side.{Side}

-- the lowest and highest number
abbrev pub count_range : CountWord → ℕ × ℕ
count_range count.Grow = (1, most_blocks)
count_range count.Buf = (1, 65536)
count_range count.Peek = (0, 2 ^ 32 - 1)
count_range count.Trim = (1, 2 ^ 63)
count_range count.Walk = (1, 2 ^ 63)

-- the lowest and highest number
abbrev pub length_range : LengthWord → ℕ × ℕ
length_range sized.Copy = (1, 65536)
length_range sized.Send = (14, 1514)
length_range sized.Sock = (0, 65535)

-- the highest numbers, the first from 0 and the second from 1
abbrev pub range_most : RangeWord → ℕ × ℕ
range_most range.Rate = (a_billion, a_billion)
range_most range.Show = (2 ^ 32 - 1, 1514)

-- the highest place, and the most bytes
abbrev pub write_most : WriteWord → ℕ × ℕ
write_most write.Fill = (65535, 66000)
write_most write.Poke = (2 ^ 32 - 1, 512)

abbrev pub pair_line : PairWord → List ℕ → List ℕ → Line
pair_line pair.Door a x = w.door a x
pair_line pair.Drop a x = w.drop a x
pair_line pair.Free a x = w.free a x
pair_line pair.Flush a x = w.flush a x
pair_line pair.Reap a x = w.reap a x
pair_line pair.Recv a x = w.recv a x
pair_line pair.Look a x = w.look a x
pair_line pair.Pop a x = w.pop a x
pair_line pair.Poll a x = w.poll a x
pair_line pair.Settle a x = w.settle a x
pair_line pair.Close a x = w.close a x
pair_line pair.Dev a x = w.dev a x

unfoldable pub read_pair : PairWord → List (List ℕ) → Option Line
read_pair k words = two_read name_of name_of words >>= λ p. Some (pair_line k p.0 p.1)

abbrev pub triple_line : TripleWord → List ℕ → List ℕ → List ℕ → Line
triple_line triple.Bind a x y = w.bind a x y
triple_line triple.Unbind a x y = w.unbind a x y
triple_line triple.Assign a x y = w.assign a x y
triple_line triple.Post a x y = w.post a x y
triple_line triple.Log a x y = w.log a x y
triple_line triple.Queue a x y = w.queue a x y

unfoldable pub read_triple : TripleWord → List (List ℕ) → Option Line
read_triple k words = three_read name_of name_of name_of words >>= λ p. Some (triple_line k p.0 p.1 p.2)

abbrev pub count_line : CountWord → List ℕ → List ℕ → ℕ → Line
count_line count.Grow a x n = w.grow a x n
count_line count.Buf a x n = w.buf a x n
count_line count.Peek a x n = w.peek a x n
count_line count.Trim a x n = w.trim a x n
count_line count.Walk a x n = w.walk a x n

unfoldable pub read_count : CountWord → List (List ℕ) → Option Line
read_count k words = three_read name_of name_of (number_of (count_range k).0 (count_range k).1) words >>= λ p. Some (count_line k p.0 p.1 p.2)

abbrev pub length_line : LengthWord → List ℕ → List ℕ → List ℕ → ℕ → Line
length_line sized.Copy a x y n = w.copy a x y n
length_line sized.Send a x y n = w.send a x y n
length_line sized.Sock a x y n = w.sock a x y n

unfoldable pub read_length : LengthWord → List (List ℕ) → Option Line
read_length k words = four_read name_of name_of name_of (number_of (length_range k).0 (length_range k).1) words >>= λ p. Some (length_line k p.0 p.1 p.2 p.3)

abbrev pub range_line : RangeWord → List ℕ → List ℕ → ℕ → ℕ → Line
range_line range.Rate a x m n = w.rate a x m n
range_line range.Show a x m n = w.show a x m n

unfoldable pub read_range : RangeWord → List (List ℕ) → Option Line
read_range k words = four_read name_of name_of (number_of 0 (range_most k).0) (number_of 1 (range_most k).1) words >>= λ p. Some (range_line k p.0 p.1 p.2 p.3)

abbrev pub queued_line : QueueWord → List ℕ → List ℕ → Option (List ℕ) → Side → Line
queued_line queued.Pace a x y s = w.pace a x y s
queued_line queued.Watch a x y s = w.watch a x y s

unfoldable pub read_queued : QueueWord → List (List ℕ) → Option Line
read_queued k words = four_read name_of name_of optional_of side_of words >>= λ p. Some (queued_line k p.0 p.1 p.2 p.3)

abbrev pub transfer_line : TransferWord → List ℕ → List ℕ → List ℕ → ℕ → ℕ → List ℕ → Line
transfer_line transfer.Get a v s m n b = w.get a v s m n b
transfer_line transfer.Put a v s m n b = w.put a v s m n b

unfoldable pub read_transfer : TransferWord → List (List ℕ) → Option Line
read_transfer k words = six_read name_of name_of name_of (number_of 0 (2 ^ 32 - 1)) (number_of 1 128) name_of words >>= λ p. Some (transfer_line k p.0 p.1 p.2 p.3 p.4 p.5)

abbrev pub entry_line : EntryWord → List ℕ → List ℕ → List ℕ → Line
entry_line entry.Append a x bytes = w.append a x bytes
entry_line entry.Push a x bytes = w.push a x bytes

unfoldable pub read_entry : EntryWord → List (List ℕ) → Option Line
read_entry k words = three_read name_of name_of (hex0_of 32768) words >>= λ p. Some (entry_line k p.0 p.1 p.2)

abbrev pub write_line : WriteWord → List ℕ → List ℕ → ℕ → List ℕ → Line
write_line write.Fill a x n bytes = w.fill a x n bytes
write_line write.Poke a x n bytes = w.poke a x n bytes

unfoldable pub read_write : WriteWord → List (List ℕ) → Option Line
read_write k words = four_read name_of name_of (number_of 0 (write_most k).0) (hex_of 1 (write_most k).1) words >>= λ p. Some (write_line k p.0 p.1 p.2 p.3)

unfoldable pub read_nic : List (List ℕ) → Option Line
read_nic words = three_read (hex_of 6 6) ip_of (hex_of 6 6) words >>= λ p. Some (w.nic (record { mac = p.0; ip = p.1; gateway = p.2 }))

unfoldable pub read_bare_app : List (List ℕ) → Option Line
read_bare_app words = one_read name_of words >>= λ a. Some (w.app a None)

unfoldable pub read_sized_app : List (List ℕ) → Option Line
read_sized_app words = two_read name_of (number_of 4 4096) words >>= λ p. Some (w.app p.0 (Some p.1))

unfoldable pub read_app : List (List ℕ) → Option Line
read_app words = option_or (read_bare_app words) (read_sized_app words)

unfoldable pub read_vsic : List (List ℕ) → Option Line
read_vsic words = three_read name_of name_of size_of words >>= λ p. Some (w.vsic p.0 p.1 p.2)

unfoldable pub read_vnic : List (List ℕ) → Option Line
read_vnic words = four_read name_of name_of size_of size_of words >>= λ p. Some (w.vnic p.0 p.1 p.2 p.3)

unfoldable pub read_vsa : List (List ℕ) → Option Line
read_vsa words = four_read name_of name_of (number_of 1 most_blocks) kind_of words >>= λ p.
    if nat_le (fewest_blocks p.3) p.2 then Some (w.vsa p.0 p.1 p.2 p.3) else None

unfoldable pub read_filter : List (List ℕ) → Option Line
read_filter words = do
  p ← six_of words
  a ← name_of p.0
  f ← name_of p.1
  direction ← direction_of p.2
  proto ← proto_of p.3
  peers ← peers_of proto p.4
  services ← services_of proto p.5
  Some (w.filter a f (record { direction = direction; proto = proto; peers = peers; services = services }))

unfoldable pub read_take : List (List ℕ) → Option Line
read_take words = three_read name_of name_of direction_of words >>= λ p. Some (w.take p.0 p.1 p.2)

unfoldable pub read_sendto : List (List ℕ) → Option Line
read_sendto words = five_read name_of name_of ip_of (number_of 0 65535) (hex0_of 1472) words >>= λ p. Some (w.sendto p.0 p.1 p.2 p.3 p.4)

unfoldable pub read_wire : List (List ℕ) → Option Line
read_wire words = one_read (hex_of 14 1514) words >>= λ bytes. Some (w.wire bytes)

unfoldable pub read_tick : List (List ℕ) → Option Line
read_tick words = one_read (number_of 1 a_billion) words >>= λ n. Some (w.tick n)

abbrev pub line_read : Word → List (List ℕ) → Option Line
line_read (word.Pair k) words = read_pair k words
line_read (word.Triple k) words = read_triple k words
line_read (word.Count k) words = read_count k words
line_read (word.Length k) words = read_length k words
line_read (word.Range k) words = read_range k words
line_read (word.Queue k) words = read_queued k words
line_read (word.Transfer k) words = read_transfer k words
line_read (word.Entry k) words = read_entry k words
line_read (word.Write k) words = read_write k words
line_read word.Nic words = read_nic words
line_read word.App words = read_app words
line_read word.Vsic words = read_vsic words
line_read word.Vnic words = read_vnic words
line_read word.Vsa words = read_vsa words
line_read word.Filter words = read_filter words
line_read word.Take words = read_take words
line_read word.Sendto words = read_sendto words
line_read word.Wire words = read_wire words
line_read word.Tick words = read_tick words
