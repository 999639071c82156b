-- The row of `fill`.
use Rattle.std.proofs.Common.{◌≡◌, ℕ, ◌+◌, ◌≤◌, List, [], length, refl, ◌∙◌, subst}
use Rattle.std.specs.Prelude.{Some, Ok}
use Rattle.ark_media.specs.Calls.{Told}
use Rattle.ark_script.specs.declared.said.Said.TheVariants as said
use Rattle.ark_region.specs.Frames.{Piece, Wrote}
use Rattle.ark_objects.specs.Held.{at as slot}
use Rattle.ark_machine.specs.Bytes.{written}
use Rattle.ark_machine.specs.Objects
use Rattle.ark_machine.specs.Machine.{Machine, with_object}
use Rattle.ark_machine.specs.Buffers as rows
use Rattle.ark_machine.specs.Buffers.{with_bytes}
use Rattle.ark_machine.specs.Row.{Row, Given, says}
use Rattle.ark_held.specs.Does.{Acts}
use Rattle.ark_held.specs.declared.app.App.{App}
use Rattle.ark_held.specs.declared.buffer.Buffer as kept
use Rattle.ark_held.proofs.Doing.{comes}
use Rattle.ark_held.proofs.Rewriting.{rewritten}
use Rattle.ark_own.specs.Keys.{buffer_key}
use Rattle.ark_own.proofs.OfBuffers.{its, place_same, inside, done}

abbrev pub filled : List ℕ → ℕ → List ℕ → Machine → Given → Row
filled l off bytes m g = says (with_bytes m l off bytes) said.Ok

pub fill_done : (t : Told) (app app1 : App) (l : List ℕ) (off key : ℕ) (bytes : List ℕ) (is : Ok key ≡ buffer_key app.labels l) (one : kept.Buffer) (here : slot app.store.buffers key ≡ Some one) (within : off + length bytes ≤ one.len)
    (p : Piece) (right : one.buf ≡ Some p) → Wrote app.store.region app1.store.region p off bytes → app1.store.buffers ≡ app.store.buffers → app1.labels ≡ app.labels → app1.areas ≡ app.areas → app1.devices ≡ app.devices → app1.name ≡ app.name
    → Acts t app app1 (λ m g. rows.fill m l off bytes g) [] said.Ok []
fill_done t app app1 l off key bytes is one here within p right wrote buffers labels areas devices name = comes t app app1 (λ m g. rows.fill m l off bytes g) said.Ok [] areas name (λ r g sited h.
    let b = its app l key is r h in
    let now : Row = says (with_object r.machine l (Objects.buffer (record b.buffer { bytes = written b.buffer.bytes off bytes }))) said.Ok in
    let row : rows.fill r.machine l off bytes g ≡ now =
    done t app l (off + length bytes) (λ m g. rows.fill m l off bytes g) (filled l off bytes) (λ m g. refl) key is one here within r g h p right ∙ rw (b.there, b.object) refl in (
      now.machine,
      row,
      rewritten r app app1 l b.buffer b.held off bytes (inside app l key is one here r b (off + length bytes) within) h b.there b.object
          (subst (λ (z : Piece). Wrote app.store.region app1.store.region z off bytes) (place_same app l key is one here r b p right) wrote) buffers labels areas devices,
    ))
