-- The ranges of what a line asks for.
use Rattle.std.specs.Prelude.{◌≡◌, ℕ, ◌-◌, ◌^◌, ◌≤◌, true, length, Some, None}
use Rattle.ark_filters.specs.Rule.{IsRule}
use Rattle.ark_script.specs.Arguments.{fewest_blocks, is_size}
use Rattle.ark_script.specs.Form.{most_blocks, a_billion}
use Rattle.ark_script.specs.Line as w
use Rattle.ark_script.specs.Line.{Line}

abbrev pub IsWithin : ℕ → ℕ → ℕ → Type 0
IsWithin low high n = (low ≤ n) × (n ≤ high)

-- a power of two from 2 to 256
abbrev pub IsRing : ℕ → Type 0
IsRing n = IsWithin 2 256 n × (is_size n ≡ true)

-- each number is in its word's range, and so is each number of bytes; a filter is one that a line can give
abbrev pub InRange : Line → Type 0
InRange (w.nic own) = Unit {0}
InRange (w.app a None) = Unit {0}
InRange (w.app a (Some f)) = IsWithin 4 4096 f
InRange (w.vsic a v n) = IsRing n
InRange (w.vnic a v rx tx) = IsRing rx × IsRing tx
InRange (w.vsa a s n k) = IsWithin (fewest_blocks k) most_blocks n
InRange (w.grow a s n) = IsWithin 1 most_blocks n
InRange (w.bind a v s) = Unit {0}
InRange (w.unbind a v s) = Unit {0}
InRange (w.filter a f x) = IsRule x
InRange (w.assign a v f) = Unit {0}
InRange (w.rate a r q b) = IsWithin 0 a_billion q × IsWithin 1 a_billion b
InRange (w.pace a v r s) = Unit {0}
InRange (w.door a d) = Unit {0}
InRange (w.watch a v d s) = Unit {0}
InRange (w.drop a x) = Unit {0}
InRange (w.buf a b n) = IsWithin 1 65536 n
InRange (w.fill a b off bytes) = IsWithin 0 65535 off × IsWithin 1 66000 (length bytes)
InRange (w.show a b off len) = IsWithin 0 (2 ^ 32 - 1) off × IsWithin 1 1514 len
InRange (w.copy a b c len) = IsWithin 1 65536 len
InRange (w.free a b) = Unit {0}
InRange (w.peek a s off) = IsWithin 0 (2 ^ 32 - 1) off
InRange (w.poke a s off bytes) = IsWithin 0 (2 ^ 32 - 1) off × IsWithin 1 512 (length bytes)
InRange (w.get a v s off count b) = IsWithin 0 (2 ^ 32 - 1) off × IsWithin 1 128 count
InRange (w.put a v s off count b) = IsWithin 0 (2 ^ 32 - 1) off × IsWithin 1 128 count
InRange (w.flush a v) = Unit {0}
InRange (w.reap a v) = Unit {0}
InRange (w.post a v b) = Unit {0}
InRange (w.send a v b len) = IsWithin 14 1514 len
InRange (w.take a v d) = Unit {0}
InRange (w.sock a k v port) = IsWithin 0 65535 port
InRange (w.sendto a k ip port bytes) = IsWithin 0 65535 port × IsWithin 0 1472 (length bytes)
InRange (w.recv a k) = Unit {0}
InRange (w.look a d) = Unit {0}
InRange (w.log a s v) = Unit {0}
InRange (w.queue a s v) = Unit {0}
InRange (w.append a s bytes) = IsWithin 0 32768 (length bytes)
InRange (w.push a s bytes) = IsWithin 0 32768 (length bytes)
InRange (w.trim a s n) = IsWithin 1 (2 ^ 63) n
InRange (w.pop a s) = Unit {0}
InRange (w.walk a s n) = IsWithin 1 (2 ^ 63) n
InRange (w.poll a s) = Unit {0}
InRange (w.settle a s) = Unit {0}
InRange (w.close a s) = Unit {0}
InRange (w.dev a v) = Unit {0}
InRange (w.wire bytes) = IsWithin 14 1514 (length bytes)
InRange (w.tick n) = IsWithin 1 a_billion n
