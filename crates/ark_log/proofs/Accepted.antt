-- What is open once a command is accepted.
use Rattle.std.proofs.Common.{◌≡◌, ℕ, ◌+◌, ◌*◌, ◌%◌, List, [], ◌∷◌, ◌++◌, length, ap, ◌∙◌, arith}
use Rattle.std.specs.Prelude.{replicate}
use Rattle.std.proofs.Math.Path.{transport}
use Rattle.ark_region.specs.Frames.{Piece, Space}
use Rattle.ark_entry.specs.Entry.{entry_blocks, entry_bytes}
use Rattle.ark_log.specs.declared.command.Command.TheVariants.{Append, Pop}
use Rattle.ark_log.specs.declared.command.Waiting.{Waiting}
use Rattle.ark_log.specs.Open.{OpenChain}
use Rattle.ark_log.specs.Buffers.{IsNewBuffer}
use Rattle.ark_log.specs.Refused.{next_number, length_of}
use Rattle.ark_log.specs.Waits.{with_buffer, WaitsToAppend, WaitsToPop}

pub appends : (payload : List ℕ) (v : OpenChain) (items : List Waiting) (lengths : List ℕ) (blocks number next : ℕ) (before after : Space) (b : Piece) → b.len ≡ 512 * entry_blocks (length payload)
    → IsNewBuffer before after (entry_bytes number next payload) b → number ≡ next_number v → blocks ≡ entry_blocks (length payload) → next ≡ (v.start + (v.used + blocks)) % v.room
    → items ≡ v.waiting ++ with_buffer (Append number) (length payload) b ∷ [] → lengths ≡ v.lengths ++ length payload ∷ []
    → WaitsToAppend payload v (record v { lengths = lengths; used = v.used + blocks; waiting = items }) before after
appends payload v items lengths blocks number next before after b len made named size behind is adds =
    let place : v.start + (v.used + blocks) ≡ v.start + v.used + entry_blocks (length payload) = omega (arith, size) in
    record {
      buffer = b;
      len = len;
      made = transport (λ i. IsNewBuffer before after (entry_bytes (named i) ((behind ∙ ap (λ n. n % v.room) place) i) payload) b) made;
      waiting = λ i. record v { waiting = (is ∙ (λ j. v.waiting ++ with_buffer (Append (named j)) (length payload) b ∷ [])) i; lengths = adds i; used = v.used + size i };
    }

pub pops : (v : OpenChain) (items : List Waiting) (blocks number len : ℕ) (before after : Space) (b : Piece) → b.len ≡ 512 * blocks → IsNewBuffer before after (replicate (512 * blocks) 0) b → len ≡ length_of v v.coming → blocks ≡ entry_blocks len
    → items ≡ v.waiting ++ with_buffer (Pop v.coming) len b ∷ [] → WaitsToPop v (record v { waiting = items; coming = v.coming + 1 }) before after
pops v items blocks number len before after b size made here counted is =
    let e : blocks ≡ entry_blocks (length_of v v.coming) = counted ∙ ap entry_blocks here in
    record {
      buffer = b;
      len = size ∙ ap (λ n. 512 * n) e;
      made = transport (λ i. IsNewBuffer before after (replicate (512 * e i) 0) b) made;
      waiting = λ i. record v { waiting = (is ∙ (λ j. v.waiting ++ with_buffer (Pop v.coming) (here j) b ∷ [])) i; coming = v.coming + 1 };
    }
