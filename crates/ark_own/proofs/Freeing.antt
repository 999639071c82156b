-- The row of `free`: the buffer's label, its object and its frames go.
use Rattle.std.proofs.Common.{◌≡◌, ℕ, ◌+◌, ◌*◌, Bool, true, false, not, nat_lt, List, [], ◌∷◌, length, replicate, refl, sym, ◌∙◌, ap, arith}
use Rattle.std.specs.Prelude.{Option, Some, Ok, is_none, option_map, slice_range, slice_index_or}
use Rattle.std.proofs.lemmas.Bool.Decides.{nat_tests}
use Rattle.ark_base.specs.Conditions.{none}
use Rattle.ark_media.specs.Calls.{Told}
use Rattle.ark_script.specs.declared.said.Said.TheVariants as said
use Rattle.ark_caps.specs.Labels.{value_at, others}
use Rattle.ark_caps.specs.declared.capability.Capability.{Capability}
use Rattle.ark_caps.specs.declared.capability.CapKind.TheVariants as cap_kind
use Rattle.ark_region.specs.Frames.{Piece, frames_of, put}
use Rattle.ark_machine.specs.Machine.{Machine, buffer_at, bytes_at, missing, without}
use Rattle.ark_machine.specs.Buffers as rows
use Rattle.ark_machine.specs.Buffers.{is_lent}
use Rattle.ark_machine.specs.Row.{Row, Given, says, answer}
use Rattle.ark_held.specs.Words.{Labels, AreaList}
use Rattle.ark_held.specs.Totals.{bit, uses, covers, object_covers, cover_count, lent_count}
use Rattle.ark_held.specs.Kept.{BufferKept}
use Rattle.ark_held.specs.Stored.{kept_of, buffer_kept, Gave}
use Rattle.ark_held.specs.Around.{Around, piece_of}
use Rattle.ark_held.specs.Held.{Holds, is_area, is_area_cap, area_labels, has_key}
use Rattle.ark_held.specs.Keeps.{Keeps, any_piece}
use Rattle.ark_held.specs.Beyond.{Beyond, around}
use Rattle.ark_held.specs.Does.{Acts}
use Rattle.ark_held.specs.declared.app.App.{App}
use Rattle.ark_held.specs.declared.buffer.Buffer as kept
use Rattle.ark_held.proofs.Lists.{other_name}
use Rattle.ark_held.proofs.Buffers.{CountsSame, buffers_keep}
use Rattle.ark_held.proofs.Covering.{in_total, found_in}
use Rattle.ark_held.proofs.Creating.{but}
use Rattle.ark_held.proofs.Granted.{not_but}
use Rattle.ark_held.proofs.Lending.{narrowed}
use Rattle.ark_held.proofs.Removing.{others_value, others_was, others_areas, total_others, removed}
use Rattle.ark_held.proofs.Staying.{within}
use Rattle.ark_held.proofs.Taking.{given_bit}
use Rattle.ark_held.proofs.Doing.{comes}
use Rattle.ark_own.specs.Keys.{buffer_key}
use Rattle.ark_own.proofs.OfBuffers.{HasBuffer, conditions, its, entry_same, place_same, done}

module _ (r : Beyond) (app app1 : App) (l : List ℕ) (key : ℕ) (h : Holds (around r app)) (b : HasBuffer (around r app) l key) (gave : Gave app.store.region app1.store.region app.store.buffers app1.store.buffers key)
    (place : gave.right ≡ piece_of b.buffer) (unlent : lent_count r.machine l ≡ 0) (labels : app1.labels ≡ others l app.labels) (areas : app1.areas ≡ app.areas)
    (devices : app1.devices ≡ app.devices) where
  abbrev x : Around
  x = around r app

  abbrev y : Around
  y = around (record r { machine = without r.machine l }) app1

  same_key : (k : List ℕ) (c : Capability) → but l k ≡ true → value_at app.labels k ≡ Some c → c.kind ≡ cap_kind.Buf → buffer_kept app1.store.buffers c.key ≡ buffer_kept app.store.buffers c.key
  same_key k c named is kind = ap (λ (o : Option kept.Buffer). option_map kept_of o)
      (gave.changes.others c.key (λ e. other_name l k (not_but l k named) (h.own.keys l k b.cap c b.label is (b.fits.its_kind ∙ sym kind) (ap has_key b.fits.its_kind) (b.key_is ∙ sym e))))

  counts : CountsSame r.machine (without r.machine l)
  counts f none =
      let all = total_others x l b.held (λ z. f z.object) app.labels r.machine.held h.apart h.held b.there in
      let zero : f b.held.object ≡ 0 = ap f b.object ∙ none b.buffer in
      omega (arith, all, zero)

  keeps : Keeps (but l) (but l) any_piece x y
  keeps = buffers_keep r app app1 r.numbers (without r.machine l) (but l) (but l) any_piece (λ k stays. stays) same_key areas devices counts
      (λ i n is. is) gave.frames (λ p rests. ap (λ (bs : List ℕ). slice_range bs (512 * p.start) (512 * p.start + p.len)) gave.bytes)
      (λ k c named is. ap (λ (ls : Labels). value_at ls k) labels ∙ others_value l k app.labels (not_but l k named) ∙ is)
      (λ k c i is old. others_was l k c app.labels (ap (λ (ls : Labels). value_at ls k) (sym labels) ∙ is))

  kind_is : is_area_cap (value_at app.labels l) ≡ false
  kind_is = ap is_area_cap b.label ∙ ap is_area b.fits.its_kind

  taken : (j : ℕ) → cover_count (without r.machine l) j ≡ bit (slice_index_or app1.store.region.taken j false)
  taken j =
      let all = total_others x l b.held (λ z. object_covers j z.object) app.labels r.machine.held h.apart h.held b.there in
      let its : object_covers j b.held.object ≡ bit (covers j (b.buffer.start, frames_of (length b.buffer.bytes))) + 0 = ap (object_covers j) b.object in
      let was = h.taken j in
      let own = in_total (λ z. object_covers j z.object) r.machine.held b.held (found_in l r.machine.held b.held b.there).0 in
      let now = given_bit app.store.region.taken b.buffer.start (frames_of (length b.buffer.bytes)) j b.fits.lies (omega (arith, its, was, own)) in
      let bits : bit (slice_index_or app1.store.region.taken j false) ≡ bit (slice_index_or (put app.store.region.taken b.buffer.start (replicate (frames_of (length b.buffer.bytes)) false)) j false) =
      ap (λ (t : List Bool). bit (slice_index_or t j false)) (gave.taken ∙ ap (λ (p : Piece). put app.store.region.taken p.start (replicate (frames_of p.len) false)) place) in
      omega (arith, all, its, was, now, bits)

  holds_freed : Holds y
  holds_freed = removed x y h l any_piece keeps
      (λ p g apart inn m.
      let least = in_total (λ z. uses l z.object) r.machine.held g inn in
      narrowed x l b.cap b.label b.fits.its_kind any_piece p.0 p.1 g.object m.object (omega (arith, least, unlent)) (within g.object))
      refl labels refl refl
      (ap (λ (es : AreaList). length es) areas ∙ h.areas
      ∙ sym (ap (λ (ls : Labels). length (area_labels ls)) labels ∙ others_areas l app.labels h.apart (λ c is. sym (ap is_area_cap is) ∙ kind_is)))
      (h.unlisted l kind_is) taken

-- The word.

abbrev pub freed : List ℕ → Machine → Given → Row
freed l m g = says (without m l) said.Ok

pub free_row : (l : List ℕ) (m : Machine) (g : Given) → rows.free m l g ≡ answer m (conditions m l 0) (freed l m g)
free_row l m g =
    let near : false ≡ nat_lt (length (bytes_at m l)) 0 = grind (arith, nat_tests) in
    ap (λ t. answer m (record none { no_application = not m.made; no_grant = missing m (l ∷ []); wrong_kind = is_none (buffer_at m l); out_of_range = t; lent = is_lent m l }) (freed l m g)) near

pub free_done : (t : Told) (app app1 : App) (l : List ℕ) (key : ℕ) (is : Ok key ≡ buffer_key app.labels l) (gave : Gave app.store.region app1.store.region app.store.buffers app1.store.buffers key) → app1.labels ≡ others l app.labels → app1.areas ≡ app.areas → app1.devices ≡ app.devices → app1.name ≡ app.name
    → Acts t app app1 (λ m g. rows.free m l g) [] said.Ok []
free_done t app app1 l key is gave labels areas devices name = comes t app app1 (λ m g. rows.free m l g) said.Ok [] areas name (λ r g sited h.
    let b = its app l key is r h in
    let here : is_none b.fits.entry.buf ≡ false = ap (λ (z : BufferKept). is_none z.buf) (entry_same app l key is gave.one gave.was r b) ∙ ap (λ o. is_none o) gave.its in (
      without r.machine l,
      done t app l 0 (λ m g. rows.free m l g) (freed l) (free_row l) key is gave.one gave.was (omega arith) r g h gave.right gave.its,
      holds_freed r app app1 l key h b gave (place_same app l key is gave.one gave.was r b gave.right gave.its) (sym b.fits.lent ∙ ap bit here) labels areas devices,
    ))
