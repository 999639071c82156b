-- What contracts see of a reply.
use Rattle.std.specs.Prelude.{ℕ, List, take}
use Rattle.ark_script.specs.declared.said.Said.{Said}

-- what it says, how many bytes it shows, and the buffer of which these are the first
pub record Answer : Type 0 where
  pub said : Said
  pub len : ℕ
  pub buffer : List ℕ

-- the bytes that it shows
abbrev pub bytes_shown : Answer → List ℕ
bytes_shown reply = take reply.len reply.buffer
