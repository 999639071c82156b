-- What is open once one more command waits.
use Rattle.std.specs.Prelude.{◌≡◌, ℕ, ◌+◌, ◌*◌, List, [], ◌∷◌, ◌++◌, length, replicate, Some}
use Rattle.ark_region.specs.Frames.{Piece, Space}
use Rattle.ark_entry.specs.Entry.{entry_blocks}
use Rattle.ark_caladan.specs.Postings.{buffer_of}
use Rattle.ark_log.specs.declared.command.Command.{Command}
use Rattle.ark_log.specs.declared.command.Command.TheVariants.{Append, Pop}
use Rattle.ark_log.specs.declared.command.Waiting.{Waiting}
use Rattle.ark_log.specs.Open.{OpenChain}
use Rattle.ark_log.specs.Buffers.{IsNewBuffer}
use Rattle.ark_log.specs.Refused.{next_number, length_of}

-- one more command waits, and the first entry after it has this number
abbrev pub waits : OpenChain → Waiting → ℕ → OpenChain
waits v w coming = record v { waiting = v.waiting ++ w ∷ []; coming = coming }

-- one more command waits that adds an entry of so many bytes
abbrev pub waits_to_add : OpenChain → Waiting → ℕ → OpenChain
waits_to_add v w len = record v { waiting = v.waiting ++ w ∷ []; lengths = v.lengths ++ len ∷ []; used = v.used + entry_blocks len }

-- a command that waits, with the buffer of its entry of so many bytes
abbrev pub with_buffer : Command → ℕ → Piece → Waiting
with_buffer command len b = record { command = command; len = len; start = b.start; buf = Some b }

-- an entry waits to be appended, and stands as it will in a new buffer
pub record WaitsToAppend (payload : List ℕ) (old new : OpenChain) (before after : Space) : Type 0 where
  pub buffer : Piece
  pub len : buffer.len ≡ 512 * entry_blocks (length payload)
  pub made : IsNewBuffer before after (buffer_of old.room (old.start + old.used) (next_number old) payload) buffer
  pub waiting : new ≡ waits_to_add old (with_buffer (Append (next_number old)) (length payload) buffer) (length payload)

-- the first entry that no command drops yet waits to be popped, into a new buffer
pub record WaitsToPop (old new : OpenChain) (before after : Space) : Type 0 where
  pub buffer : Piece
  pub len : buffer.len ≡ 512 * entry_blocks (length_of old old.coming)
  pub made : IsNewBuffer before after (replicate (512 * entry_blocks (length_of old old.coming)) 0) buffer
  pub waiting : new ≡ waits old (with_buffer (Pop old.coming) (length_of old old.coming) buffer) (old.coming + 1)
