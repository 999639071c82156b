-- The row of `copy`.
use Rattle.std.proofs.Common.{◌≡◌, ℕ, ◌≤◌, List, [], length, take, refl, sym, ◌∙◌, ap, subst, arith}
use Rattle.std.specs.Prelude.{Some, Ok}
use Rattle.std.proofs.lemmas.List.{length-take-le}
use Rattle.ark_media.specs.Calls.{Told}
use Rattle.ark_script.specs.declared.said.Said.TheVariants as said
use Rattle.ark_region.specs.Frames.{Piece, Wrote, bytes_of}
use Rattle.ark_objects.specs.Held.{at as slot}
use Rattle.ark_machine.specs.Bytes.{written}
use Rattle.ark_machine.specs.Objects
use Rattle.ark_machine.specs.Machine.{Machine, bytes_at, with_object}
use Rattle.ark_machine.specs.Buffers as rows
use Rattle.ark_machine.specs.Buffers.{with_bytes}
use Rattle.ark_machine.specs.Row.{Row, Given, says}
use Rattle.ark_held.specs.Around.{piece_of}
use Rattle.ark_held.specs.Does.{Acts}
use Rattle.ark_held.specs.declared.app.App.{App}
use Rattle.ark_held.specs.declared.buffer.Buffer as kept
use Rattle.ark_held.proofs.Doing.{comes}
use Rattle.ark_held.proofs.Rewriting.{rewritten}
use Rattle.ark_own.specs.Keys.{buffer_key, both_keys}
use Rattle.ark_own.proofs.OfBuffers.{its, place_same, inside}
use Rattle.ark_own.proofs.TwoBuffers.{first_is, second_is, done}

abbrev pub copied : List ℕ → List ℕ → ℕ → Machine → Given → Row
copied b c len m g = says (with_bytes m c 0 (take len (bytes_at m b))) said.Ok

module _ (t : Told) (app app1 : App) (b c : List ℕ) (len j k : ℕ) (keys : Ok (j, k) ≡ both_keys (buffer_key app.labels b) (buffer_key app.labels c))
    (from to : kept.Buffer) (here : slot app.store.buffers j ≡ Some from) (there : slot app.store.buffers k ≡ Some to) (enough : len ≤ from.len) (fits : len ≤ to.len)
    (source target : Piece) (right : from.buf ≡ Some source) (its_right : to.buf ≡ Some target) where
  abbrev row : Machine → Given → Row
  row m g = rows.copy m b c len g

  from_is : Ok j ≡ buffer_key app.labels b
  from_is = first_is t app b c len len row (copied b c len) (λ m g. refl) j k keys

  to_is : Ok k ≡ buffer_key app.labels c
  to_is = second_is t app b c len len row (copied b c len) (λ m g. refl) j k keys

  pub copy_done : Wrote app.store.region app1.store.region target 0 (take len (bytes_of app.store.region source)) → app1.store.buffers ≡ app.store.buffers
      → app1.labels ≡ app.labels → app1.areas ≡ app.areas → app1.devices ≡ app.devices → app1.name ≡ app.name → Acts t app app1 row [] said.Ok []
  copy_done wrote buffers labels areas devices name = comes t app app1 row said.Ok [] areas name (λ y g sited h.
      let p = its app b j from_is y h in
      let q = its app c k to_is y h in
      let bytes = take len p.buffer.bytes in
      let was : bytes_of app.store.region source ≡ p.buffer.bytes = ap (λ (z : Piece). bytes_of app.store.region z) (place_same app b j from_is from here y p source right) ∙ sym p.fits.bytes in
      let long : length (take len p.buffer.bytes) ≡ len = length-take-le len p.buffer.bytes (inside app b j from_is from here y p len enough) in
      let room = inside app c k to_is to there y q len fits in
      let now : Row = says (with_object y.machine c (Objects.buffer (record q.buffer { bytes = written q.buffer.bytes 0 bytes }))) said.Ok in
      let is : row y.machine g ≡ now = done t app b c len len row (copied b c len) (λ m g. refl) j k keys from to here there enough fits source right y g h target its_right ∙ rw (p.there, q.there, p.object, q.object) refl in (
        now.machine,
        is,
        rewritten y app app1 c q.buffer q.held 0 bytes (omega (arith, long, room)) h q.there q.object
            (subst (λ (z : List ℕ). Wrote app.store.region app1.store.region (piece_of q.buffer) 0 (take len z)) was
            (subst (λ (z : Piece). Wrote app.store.region app1.store.region z 0 (take len (bytes_of app.store.region source))) (place_same app c k to_is to there y q target its_right) wrote)) buffers labels areas devices,
      ))
