-- What an opening writes into the header's buffer.
use Rattle.std.proofs.Common.{◌≡◌, ℕ, ◌+◌, ◌-◌, ◌*◌, ◌≤◌, List, drop, length, refl, ◌∙◌, arith}
use Rattle.std.specs.Prelude.{slice_range}
use Rattle.std.proofs.lemmas.List.{length-take}
use Rattle.ark_base.specs.declared.kind.Kind.{Kind}
use Rattle.ark_region.specs.Frames.{Piece, Space, Wrote, bytes_of}
use Rattle.ark_entry.specs.Header as head
use Rattle.ark_entry.specs.declared.header.ChainHead.{ChainHead}
use Rattle.ark_entry.specs.Stated.{stated}
use Rattle.ark_chain.specs.declared.surveying.Seen.{Seen}
use Rattle.ark_log.specs.Loaded.{header_bytes}
use Rattle.ark_log.proofs.NewBuffers.{whole_put}

header_long : (kind : Kind) (h : head.Header) → length (head.bytes_of kind h) ≡ 512
header_long kind h = refl

part_short : (xs : List ℕ) (a n : ℕ) → length (slice_range xs a (a + n)) ≤ n
part_short xs a n = omega (arith, length-take (a + n - a) (drop a xs))

-- the bytes of the buffer are those of the header
pub header_held : (kind : Kind) (h : head.Header) (old new : Space) (b : Piece) → b.len ≡ 512 → Wrote old new b 0 (head.bytes_of kind h) → bytes_of new b ≡ head.bytes_of kind h
header_held kind h old new b long wrote =
    wrote.here ∙ whole_put (bytes_of old b) (head.bytes_of kind h)
    (let le : length (bytes_of old b) ≤ length (head.bytes_of kind h) = omega (arith, part_short old.bytes (512 * b.start) b.len, long, header_long kind h) in le)

-- the header that is made of what was found
pub made_of_seen : (kind : Kind) (made : ChainHead) (seen : Seen) → made.kind ≡ kind → made.first ≡ seen.first → made.start ≡ seen.start → made.count ≡ seen.count → made.end ≡ seen.end
    → head.bytes_of made.kind (stated made) ≡ header_bytes kind seen
made_of_seen kind made seen k f s n e = λ i. head.header_bytes (k i) (f i) (s i) (n i) (e i)
