-- The row of `show`.
use Rattle.std.proofs.Common.{◌≡◌, ℕ, ◌+◌, ◌≤◌, List, [], refl, sym, ◌∙◌, ap}
use Rattle.std.specs.Prelude.{Some, Ok, slice_range}
use Rattle.ark_media.specs.Calls.{Told}
use Rattle.ark_script.specs.declared.said.Said.TheVariants as said
use Rattle.ark_region.specs.Frames.{Piece, bytes_of}
use Rattle.ark_objects.specs.Held.{at as slot}
use Rattle.ark_machine.specs.Machine.{Machine, bytes_at}
use Rattle.ark_machine.specs.Buffers as rows
use Rattle.ark_machine.specs.Row.{Row, Given}
use Rattle.ark_held.specs.Does.{Acts}
use Rattle.ark_held.specs.declared.app.App.{App}
use Rattle.ark_held.specs.declared.buffer.Buffer as kept
use Rattle.ark_held.proofs.Doing.{comes}
use Rattle.ark_own.specs.Keys.{buffer_key}
use Rattle.ark_own.proofs.OfBuffers.{its, place_same, done}

abbrev pub shown : List ℕ → ℕ → ℕ → Machine → Given → Row
shown l off len m g = record { machine = m; said = said.Bytes; bytes = slice_range (bytes_at m l) off (off + len); calls = [] }

pub show_done : (t : Told) (app : App) (l : List ℕ) (off len key : ℕ) (is : Ok key ≡ buffer_key app.labels l) (one : kept.Buffer) (here : slot app.store.buffers key ≡ Some one) (within : off + len ≤ one.len)
    (p : Piece) (right : one.buf ≡ Some p) (bytes : List ℕ) → bytes ≡ slice_range (bytes_of app.store.region p) off (off + len) → Acts t app app (λ m g. rows.show m l off len g) [] said.Bytes bytes
show_done t app l off len key is one here within p right bytes shows = comes t app app (λ m g. rows.show m l off len g) said.Bytes bytes refl refl (λ r g sited h.
    let b = its app l key is r h in
    let place = place_same app l key is one here r b p right in
    let are : bytes ≡ slice_range (bytes_at r.machine l) off (off + len) =
    shows ∙ ap (λ (z : Piece). slice_range (bytes_of app.store.region z) off (off + len)) place ∙ ap (λ (bs : List ℕ). slice_range bs off (off + len)) (sym b.fits.bytes) ∙ sym (rw (b.there, b.object) refl) in (
      r.machine,
      done t app l (off + len) (λ m g. rows.show m l off len g) (shown l off len) (λ m g. refl) key is one here within r g h p right ∙ ap (λ (bs : List ℕ). record { machine = r.machine; said = said.Bytes; bytes = bs; calls = [] }) (sym are),
      h,
    ))
