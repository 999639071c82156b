-- The buffer that a descriptor has, by the label under which it is held.
use Rattle.std.proofs.Common.{◌≡◌, ℕ, List, sym, ◌∙◌, ap}
use Rattle.std.specs.Prelude.{Option, Some, option_map}
use Rattle.ark_region.specs.Frames.{Piece}
use Rattle.ark_machine.specs.Objects
use Rattle.ark_machine.specs.Objects.{Buffer}
use Rattle.ark_machine.specs.Machine.{Held, at}
use Rattle.ark_held.specs.Around.{Around, piece_of}
use Rattle.ark_held.specs.Cards.{HasBuffer}
use Rattle.ark_held.specs.Kept.{BufferKept}
use Rattle.ark_held.specs.Held.{Holds}
use Rattle.ark_held.proofs.ByKind.{buffer_of}
use Rattle.ark_held.proofs.Finding.{stands_at}

-- a buffer under a label, which lies where the descriptor says
pub record NamedBuffer (x : Around) (given : Option Piece) (b : List ℕ) : Type 0 where
  pub held : Held
  pub buffer : Buffer
  pub there : at x.machine b ≡ Some held
  pub object : held.object ≡ Objects.buffer buffer
  pub place : given ≡ Some (piece_of buffer)

pub named_buffer : (x : Around) → Holds x → (tag : ℕ) (given : Option Piece) (b : List ℕ) → HasBuffer x tag given b → NamedBuffer x given b
named_buffer x h tag given b has =
    let s = stands_at x b has.named.cap h has.named.there in
    let z = buffer_of x b has.named.cap s.held.object s.matches.object has.named.its_kind in
    record {
      held = s.held;
      buffer = z.0;
      there = s.there;
      object = z.1;
      place = sym has.place ∙ ap (λ i. option_map (λ (e : BufferKept). e.piece) (x.tables.buffers i)) (sym has.named.its_key)
          ∙ ap (λ (o : Option BufferKept). option_map (λ (e : BufferKept). e.piece) o) z.2.kept ∙ ap (λ (p : Piece). Some p) z.2.place;
    }
