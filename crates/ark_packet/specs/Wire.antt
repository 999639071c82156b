-- Numbers in the octets of the wire.
use Rattle.std.specs.Prelude.{◌≡◌, ℕ, ◌+◌, ◌*◌, ◌<◌, List, length, slice_index}

-- a 16-bit word of two octets, the high one first (RFC 791, appendix B)
abbrev pub word : ℕ → ℕ → ℕ
word high low = high * 256 + low

-- the word in the two octets from a place on (RFC 791, appendix B)
abbrev pub word_at : List ℕ → ℕ → ℕ
word_at bytes i = word (slice_index bytes i) (slice_index bytes (i + 1))

-- an address of IPv4: four octets (RFC 791, section 3.1)
pub record IsAddress (address : List ℕ) : Type 0 where
  pub four : length address ≡ 4
  pub octets : (i : ℕ) → slice_index address i < 256
