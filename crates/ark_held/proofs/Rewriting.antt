-- A buffer whose bytes were written.
use Rattle.std.proofs.Common.{◌≡◌, ℕ, ◌+◌, ◌<◌, ◌≤◌, Bool, false, List, length, take, drop, refl, sym, ◌∙◌, ap, subst, arith, bytes_eq}
use Rattle.std.specs.Prelude.{Option, Some, slice_index_or}
use Rattle.std.proofs.lemmas.List.{append_assoc}
use Rattle.ark_caps.specs.declared.capability.Capability.{Capability}
use Rattle.ark_region.specs.Frames.{Piece, Space, Apart, Wrote, LiesInRegion, bytes_of, frames_of, put}
use Rattle.ark_region.proofs.Putting.{length_put}
use Rattle.ark_machine.specs.Bytes.{written}
use Rattle.ark_machine.specs.Objects
use Rattle.ark_machine.specs.Objects.{Object, Buffer}
use Rattle.ark_machine.specs.Machine.{Held, at, with_object}
use Rattle.ark_machine.specs.Control.{is_open_on, is_socket_on}
use Rattle.ark_held.specs.Words.{Labels, AreaList}
use Rattle.ark_held.specs.Totals.{bit, uses, covers, object_covers}
use Rattle.ark_held.specs.Kept.{Tables}
use Rattle.ark_held.specs.Stored.{buffer_kept}
use Rattle.ark_held.specs.Around.{Around, piece_of}
use Rattle.ark_held.specs.Cards.{IsBuffer}
use Rattle.ark_held.specs.Held.{IsObjectOf, Holds}
use Rattle.ark_held.specs.Keeps.{Keeps, any_label}
use Rattle.ark_held.specs.Beyond.{Beyond, around, tables_of}
use Rattle.ark_held.specs.declared.app.App.{App}
use Rattle.ark_held.specs.declared.buffer.Buffer as kept
use Rattle.ark_held.specs.declared.devices.Devices.{Devices}
use Rattle.ark_held.proofs.Besides.{same_history}
use Rattle.ark_held.proofs.Buffers.{CountsSame}
use Rattle.ark_held.proofs.Creating.{but}
use Rattle.ark_held.proofs.Changing.{changed, same_put}
use Rattle.ark_held.proofs.Covering.{within_clear, other_clear}
use Rattle.ark_held.proofs.Spreading.{spread_same}
use Rattle.ark_held.proofs.Opens.{stays_same}

-- the buffer with these bytes from a place on
abbrev pub with_written : Buffer → ℕ → List ℕ → Buffer
with_written b off bytes = record b { bytes = written b.bytes off bytes }

-- what is around the application then, with this memory
abbrev pub with_memory : Around → List ℕ → Buffer → ℕ → List ℕ → Space → Around
with_memory x l b off bytes memory = record x { tables = record x.tables { memory = memory }; machine = with_object x.machine l (Objects.buffer (with_written b off bytes)) }

module _ (x : Around) (l : List ℕ) (b : Buffer) (held : Held) (off : ℕ) (bytes : List ℕ) (memory : Space) (fits : off + length bytes ≤ length b.bytes)
    (h : Holds x) (there : at x.machine l ≡ Some held) (object : held.object ≡ Objects.buffer b) (wrote : Wrote x.tables.memory memory (piece_of b) off bytes) where
  abbrev now : Buffer
  now = with_written b off bytes

  abbrev y : Around
  y = with_memory x l b off bytes memory

  same_bytes : written b.bytes off bytes ≡ put b.bytes off bytes
  same_bytes = append_assoc (take off b.bytes) bytes (drop (off + length bytes) b.bytes)

  long : length (written b.bytes off bytes) ≡ length b.bytes
  long = ap (λ (z : List ℕ). length z) same_bytes ∙ length_put b.bytes bytes off fits

  place : piece_of b ≡ piece_of now
  place = ap (λ n. record { start = b.start; len = n }) (sym long)

  counts : CountsSame x.machine y.machine
  counts f none = same_put x h l (Objects.buffer now) held f there (ap f object ∙ none b ∙ sym (none now))

  keeps : Keeps (but l) any_label (Apart (piece_of b)) x y
  keeps = record {
    now = omega arith;
    numbers = λ i n is. is;
    frames = ap (λ (t : List Bool). length t) wrote.taken;
    base = refl;
    bytes = λ p rests. wrote.others p rests;
    granted = λ k c i is old. is;
    spread = λ i g a old is. spread_same x.areas g a is;
    labels = λ k c named is. is;
    places = λ k c named is kind. refl;
    logs = λ s k d c card same at named is kind there on. stays_same d.grant card (x.tables.cards c.key) (x.tables.cards c.key) refl there;
    buffers = λ k c same is kind. refl;
    cards = λ k c same is kind. refl;
    nets = λ k c same is kind. refl;
    doors = λ k c same is kind. refl;
    rates = λ k c same is kind. refl;
    sockets = λ k c same is kind. refl;
    rules = λ k c same is kind. refl;
    areas = λ k c same is kind. refl;
    slots = λ k same. refl;
    history = λ k u same is. same_history x.history u.blocks;
    lent = λ k same. counts (uses k) (λ z. refl);
    opened = λ k same. counts (λ o. bit (is_open_on k o)) (λ z. refl);
    socketed = λ k same. counts (λ o. bit (is_socket_on k o)) (λ z. refl);
  }

  its : (c : Capability) → IsBuffer x l c b → IsBuffer y l c now
  its c f = record {
    its_kind = f.its_kind;
    entry = f.entry;
    kept = f.kept;
    place = f.place ∙ place;
    lies = subst (λ (p : Piece). LiesInRegion memory.taken p) place (subst (λ (t : List Bool). LiesInRegion t (piece_of b)) (sym wrote.taken) f.lies);
    bytes = same_bytes ∙ ap (λ (z : List ℕ). put z off bytes) f.bytes ∙ sym wrote.here ∙ ap (λ (p : Piece). bytes_of memory p) place;
    some = subst (λ (n : ℕ). 0 < n) (sym long) f.some;
    owned = f.owned;
    lent = f.lent ∙ sym (counts (uses l) (λ z. refl));
  }

  -- the machine has them too
  pub refilled : Holds y
  refilled = changed x y h l held (Objects.buffer now) there (Apart (piece_of b)) keeps
      (λ p k apart inn m. within_clear (piece_of b) k.object (λ j has. other_clear x h l held b there object j has k inn (ap (λ (z : List ℕ). bytes_eq l z) m.label ∙ apart)))
      refl refl refl refl refl (λ k none. refl)
      (λ j.
      let size : object_covers j (Objects.buffer now) ≡ object_covers j (Objects.buffer b) = ap (λ n. bit (covers j (b.start, frames_of n)) + 0) long in
      let was : object_covers j held.object ≡ object_covers j (Objects.buffer b) = ap (object_covers j) object in
      let bits : bit (slice_index_or memory.taken j false) ≡ bit (slice_index_or x.tables.memory.taken j false) = ap (λ (t : List Bool). bit (slice_index_or t j false)) wrote.taken in
      omega (arith, size, was, bits))
      (λ c is m. its c (subst (λ (o : Object). IsObjectOf x l c o) object m.object))

-- the same of an application's memory
pub rewritten : (r : Beyond) (app app1 : App) (l : List ℕ) (b : Buffer) (held : Held) (off : ℕ) (bytes : List ℕ) → off + length bytes ≤ length b.bytes → Holds (around r app) → at r.machine l ≡ Some held → held.object ≡ Objects.buffer b
    → Wrote app.store.region app1.store.region (piece_of b) off bytes → app1.store.buffers ≡ app.store.buffers → app1.labels ≡ app.labels → app1.areas ≡ app.areas → app1.devices ≡ app.devices
    → Holds (around (record r { machine = with_object r.machine l (Objects.buffer (with_written b off bytes)) }) app1)
rewritten r app app1 l b held off bytes fits h there object wrote buffers labels areas devices =
    let z : Around = around (record r { machine = with_object r.machine l (Objects.buffer (with_written b off bytes)) }) app1 in
    let same : tables_of app1.store app1.devices ≡ record (tables_of app.store app.devices) { memory = app1.store.region } =
    ap (λ (bs : List (Option kept.Buffer)). record (tables_of app.store app1.devices) { memory = app1.store.region; buffers = buffer_kept bs }) buffers
    ∙ ap (λ (d : Devices). record (tables_of app.store d) { memory = app1.store.region }) devices in
    subst (λ (ls : Labels). Holds (record z { labels = ls })) (sym labels)
    (subst (λ (es : AreaList). Holds (record z { labels = app.labels; areas = es })) (sym areas)
    (subst (λ (t : Tables). Holds (record z { labels = app.labels; areas = app.areas; tables = t })) (sym same)
    (refilled (around r app) l b held off bytes app1.store.region fits h there object wrote)))
