-- A card and the right to a buffer change together: what stays, and what labels stand for then.
use Rattle.std.proofs.Common.{◌≡◌, inl, inr, ℕ, ◌+◌, Bool, true, false, not, cond, ◌&&◌, List, length, refl, sym, ◌∙◌, ap, subst, arith, bytes_eq, nat_eq}
use Rattle.std.specs.Prelude.{Option, Some, is_none, option_map, slice_index_or}
use Rattle.std.specs.Map.{lookup}
use Rattle.std.proofs.lemmas.Bool.{cases_eq, false≢true, and_parts}
use Rattle.ark_objects.specs.Held.{at as key_at, Changes}
use Rattle.ark_caps.specs.Labels.{value_at}
use Rattle.ark_caps.specs.declared.capability.Capability.{Capability}
use Rattle.ark_caps.specs.declared.capability.CapKind.TheVariants as cap_kind
use Rattle.ark_region.specs.Frames.{Piece, Space, bytes_of, LiesInRegion}
use Rattle.ark_vic.specs.declared.door.Counts.{Counts}
use Rattle.ark_machine.specs.Objects.{Object, Buffer}
use Rattle.ark_machine.specs.Machine.{Held, at, with_object}
use Rattle.ark_machine.specs.Control.{is_open_on, is_socket_on}
use Rattle.ark_held.specs.Words.{Labels, AreaList}
use Rattle.ark_held.specs.Totals.{bit, uses, object_covers, lent_count, open_count, socket_count}
use Rattle.ark_held.specs.Kept.{BufferKept}
use Rattle.ark_held.specs.Stored.{place_kept, kept_of, buffer_kept}
use Rattle.ark_held.specs.Rings.{card_kept}
use Rattle.ark_held.specs.Pacing.{rate_kept}
use Rattle.ark_held.specs.Nets.{net_kept}
use Rattle.ark_held.specs.Around.{Around, piece_of}
use Rattle.ark_held.specs.Cards.{IsBuffer}
use Rattle.ark_held.specs.Held.{IsObjectOf, Matches, Holds, has_key}
use Rattle.ark_held.specs.Keeps.{Keeps, any_label, any_piece, LogsStay}
use Rattle.ark_held.specs.Beyond.{Beyond, around}
use Rattle.ark_held.specs.declared.allowance.Allowance.{Allowance}
use Rattle.ark_held.specs.declared.app.App.{App}
use Rattle.ark_held.specs.declared.buffer.Buffer as kept
use Rattle.ark_held.proofs.Lists.{by_test, same_name, other_name, name_other, some_same}
use Rattle.ark_held.proofs.Besides.{same_history}
use Rattle.ark_held.proofs.ByKind.{buffer_of}
use Rattle.ark_held.proofs.Changing.{put_at, same_put, total_put}
use Rattle.ark_held.proofs.Members.{In}
use Rattle.ark_held.proofs.Spreading.{spread_same}
use Rattle.ark_held.proofs.Staying.{within}
use Rattle.ark_held.proofs.Turning.{turned}

-- The card under label v becomes the object o, which names the buffer under label b more or less often; of that buffer this right
-- is here then, and all else stays.
pub record Swaps (r : Beyond) (app app1 : App) (v b : List ℕ) (o : Object) (right : Option Piece) : Type 0 where
  pub holds : Holds (around r app)
  pub held : Held
  pub there : at r.machine v ≡ Some held
  pub card : Capability
  pub card_label : value_at app.labels v ≡ Some card
  pub cap : Capability
  pub buffer_label : value_at app.labels b ≡ Some cap
  pub buffer : Buffer
  pub buffer_fits : IsBuffer (around r app) b cap buffer
  pub lent : kept.Buffer
  pub was : key_at app.store.buffers cap.key ≡ Some lent
  pub buffers : Changes app.store.buffers app1.store.buffers cap.key (Some (record lent { buf = right }))
  pub region : app1.store.region ≡ app.store.region
  pub labels : app1.labels ≡ app.labels
  pub doors : app1.devices.doors ≡ app.devices.doors
  pub rates : app1.devices.rates ≡ app.devices.rates
  pub areas : app1.areas ≡ app.areas
  pub cards : (k : List ℕ) (c : Capability) → bytes_eq v k ≡ false → value_at app.labels k ≡ Some c → c.kind ≡ cap_kind.Vsic → card_kept app1.devices.cards c.key ≡ card_kept app.devices.cards c.key
  pub nets : (k : List ℕ) (c : Capability) → bytes_eq v k ≡ false → value_at app.labels k ≡ Some c → c.kind ≡ cap_kind.Vnic → net_kept app1.devices.nets.cards c.key ≡ net_kept app.devices.nets.cards c.key
  pub logs : LogsStay app.labels (card_kept app.devices.cards) (card_kept app1.devices.cards)
  pub used : (k : List ℕ) → bytes_eq k b ≡ false → uses k o ≡ uses k held.object
  pub opens : (k : List ℕ) → bit (is_open_on k held.object) ≡ bit (is_open_on k o)
  pub sockets : (k : List ℕ) → bit (is_socket_on k held.object) ≡ bit (is_socket_on k o)
  pub covers : (j : ℕ) → object_covers j held.object ≡ object_covers j o

module _ (r : Beyond) (app app1 : App) (v b : List ℕ) (o : Object) (right : Option Piece) (s : Swaps r app app1 v b o right) where
  abbrev x : Around
  x = around r app

  abbrev y : Around
  y = around (record r { machine = with_object r.machine v o }) app1

  abbrev rest : List ℕ → Bool
  rest k = not (bytes_eq v k) && not (bytes_eq b k)

  not_false : (p : Bool) → not p ≡ true → p ≡ false
  not_false true e = absurd (false≢true e)
  not_false false e = refl

  apart : (k : List ℕ) → rest k ≡ true → (bytes_eq v k ≡ false) × (bytes_eq b k ≡ false)
  apart k e = let p = and_parts (not (bytes_eq v k)) (not (bytes_eq b k)) e in (not_false (bytes_eq v k) p.0, not_false (bytes_eq b k) p.1)

  -- what the card's new descriptors add to the uses of a buffer
  pub lent_then : (k : List ℕ) → lent_count (with_object r.machine v o) k + uses k s.held.object ≡ lent_count r.machine k + uses k o
  lent_then k = let put = total_put x v o s.held (uses k) app.labels r.machine.held s.holds.apart s.holds.held s.there in omega (arith, put)

  lent_same : (k : List ℕ) → bytes_eq k b ≡ false → lent_count (with_object r.machine v o) k ≡ lent_count r.machine k
  lent_same k other = let then = lent_then k in let same = s.used k other in omega (arith, then, same)

  pub opens_same : (k : List ℕ) → open_count (with_object r.machine v o) k ≡ open_count r.machine k
  opens_same k = same_put x s.holds v o s.held (λ z. bit (is_open_on k z)) s.there (s.opens k)

  pub sockets_same : (k : List ℕ) → socket_count (with_object r.machine v o) k ≡ socket_count r.machine k
  sockets_same k = same_put x s.holds v o s.held (λ z. bit (is_socket_on k z)) s.there (s.sockets k)

  other_buffer : (k : List ℕ) (c : Capability) → rest k ≡ true → value_at app.labels k ≡ Some c → c.kind ≡ cap_kind.Buf → buffer_kept app1.store.buffers c.key ≡ buffer_kept app.store.buffers c.key
  other_buffer k c stays is kind = ap (λ z. option_map kept_of z)
      (s.buffers.others c.key (λ e. other_name b k (apart k stays).1 (s.holds.own.keys b k s.cap c s.buffer_label is (s.buffer_fits.its_kind ∙ sym kind) (ap has_key s.buffer_fits.its_kind) (sym e))))

  same_place : (key : ℕ) → option_map (λ (z : BufferKept). z.piece) (buffer_kept app1.store.buffers key) ≡ option_map (λ (z : BufferKept). z.piece) (buffer_kept app.store.buffers key)
  same_place key = elim (cases_eq key s.cap.key) [
    | inl e ↦ subst (λ i. option_map (λ (z : BufferKept). z.piece) (buffer_kept app1.store.buffers i) ≡ option_map (λ (z : BufferKept). z.piece) (buffer_kept app.store.buffers i)) (sym e)
        (ap (λ z. option_map (λ (w : BufferKept). w.piece) (option_map kept_of z)) s.buffers.changed ∙ sym (ap (λ z. option_map (λ (w : BufferKept). w.piece) (option_map kept_of z)) s.was))
    | inr other ↦ ap (λ z. option_map (λ (w : BufferKept). w.piece) (option_map kept_of z)) (s.buffers.others key other)
  ]

  pub keeps : Keeps rest any_label any_piece x y
  keeps = record {
    now = omega arith;
    numbers = λ i n is. is;
    frames = ap (λ (z : Space). length z.taken) s.region;
    base = refl;
    bytes = λ p rests. ap (λ (z : Space). bytes_of z p) s.region;
    granted = λ k c i is old. ap (λ (ls : Labels). value_at ls k) (sym s.labels) ∙ is;
    spread = λ i g a old is. spread_same app.areas g a (ap (λ (es : AreaList). lookup (nat_eq g) es) (sym s.areas) ∙ is);
    labels = λ k c named is. ap (λ (ls : Labels). value_at ls k) s.labels ∙ is;
    places = λ k c named is kind. same_place c.key;
    logs = λ l k d c card same at named is kind there on. s.logs k c is kind card d.grant there on;
    buffers = other_buffer;
    cards = λ k c stays is kind. s.cards k c (apart k stays).0 is kind;
    nets = λ k c stays is kind. s.nets k c (apart k stays).0 is kind;
    doors = λ k c stays is kind. ap (λ (ds : List (Option Counts)). key_at ds c.key) s.doors;
    rates = λ k c stays is kind. ap (λ (rs : List (Option Allowance)). rate_kept rs c.key) s.rates;
    sockets = λ k c stays is kind. refl;
    rules = λ k c stays is kind. refl;
    areas = λ k c stays is kind. ap (λ (es : AreaList). lookup (nat_eq c.grant) es) s.areas;
    slots = λ k stays. refl;
    history = λ k u stays is. same_history r.history u.blocks;
    lent = λ k stays. lent_same k (name_other k b (λ e. other_name b k (apart k stays).1 (sym e)));
    opened = λ k stays. opens_same k;
    socketed = λ k stays. sockets_same k;
  }

  -- at most one descriptor has the buffer, and none does where its right is here
  pub was_lent : bit (is_none s.lent.buf) ≡ lent_count r.machine b
  was_lent =
      let f = s.buffer_fits in
      let same : f.entry ≡ kept_of s.lent = some_same (buffer_kept app.store.buffers s.cap.key) f.entry (kept_of s.lent) f.kept (ap (λ w. option_map kept_of w) s.was) in
      ap (λ (w : BufferKept). bit (is_none w.buf)) (sym same) ∙ f.lent

  module _ (card_now : IsObjectOf y v s.card o) (owned : (p : Piece) → right ≡ Some p → p ≡ place_kept s.lent) (counted : bit (is_none right) ≡ lent_count (with_object r.machine v o) b) where
    buffer_now : (z : Buffer) → IsBuffer x b s.cap z → IsBuffer y b s.cap z
    buffer_now z f =
        let same : f.entry ≡ kept_of s.lent = some_same (buffer_kept app.store.buffers s.cap.key) f.entry (kept_of s.lent) f.kept (ap (λ w. option_map kept_of w) s.was) in
        record {
          its_kind = f.its_kind;
          entry = record f.entry { buf = right };
          kept = ap (λ w. option_map kept_of w) s.buffers.changed ∙ ap (λ (w : BufferKept). Some (record w { buf = right })) (sym same);
          place = f.place;
          lies = subst (λ (q : Space). LiesInRegion q.taken (piece_of z)) (sym s.region) f.lies;
          bytes = f.bytes ∙ sym (ap (λ (q : Space). bytes_of q (piece_of z)) s.region);
          some = f.some;
          owned = λ p is. owned p is ∙ sym (ap (λ (w : BufferKept). w.piece) same);
          lent = counted;
        }

    named_same : (k : List ℕ) (c e : Capability) → value_at app.labels k ≡ Some c → value_at app.labels k ≡ Some e → c ≡ e
    named_same k c e is too = some_same (value_at app.labels k) c e is too

    touched : (p : List ℕ × Capability) (g : Held) → rest p.0 ≡ false → In x.machine.held g → value_at x.labels p.0 ≡ Some p.1 → Matches x p g → IsObjectOf y p.0 p.1 (put_at v o g).object
    touched p g other inn at m = subst (λ (k : List ℕ). IsObjectOf y p.0 p.1 (cond (bytes_eq v k) (record g { object = o }) g).object) (sym m.label)
        (by_test (λ q. bytes_eq v p.0 ≡ q → IsObjectOf y p.0 p.1 (cond q (record g { object = o }) g).object) (bytes_eq v p.0)
        (λ yes q.
        let name = same_name v p.0 q in
        let cap = named_same v s.card p.1 s.card_label (ap (λ z. value_at app.labels z) name ∙ at) in
        subst (λ (k : List ℕ). IsObjectOf y k p.1 o) name (subst (λ (c : Capability). IsObjectOf y v c o) cap card_now))
        (λ no q.
        let is_b : bytes_eq b p.0 ≡ true = by_test (λ w. bytes_eq b p.0 ≡ w → w ≡ true) (bytes_eq b p.0) (λ yes w. refl)
        (λ no w. absurd (false≢true (sym other ∙ ap (λ z. not z && not (bytes_eq b p.0)) q ∙ ap not w))) refl in
        let name = same_name b p.0 is_b in
        let cap = named_same b s.cap p.1 s.buffer_label (ap (λ z. value_at app.labels z) name ∙ at) in
        let f = buffer_of x p.0 p.1 g.object m.object (sym (ap (λ (z : Capability). z.kind) cap) ∙ s.buffer_fits.its_kind) in
        let fits : IsBuffer x b s.cap f.0 = subst (λ (k : List ℕ). IsBuffer x k s.cap f.0) (sym name) (subst (λ (c : Capability). IsBuffer x p.0 c f.0) (sym cap) f.2) in
        subst (λ (z : Object). IsObjectOf y p.0 p.1 z) (sym f.1) (subst (λ (k : List ℕ). IsBuffer y k p.1 f.0) name (subst (λ (c : Capability). IsBuffer y b c f.0) cap (buffer_now f.0 fits))))
        refl)

    label_same : (g : Held) → (put_at v o g).label ≡ g.label
    label_same g = by_test (λ q. (cond q (record g { object = o }) g).label ≡ g.label) (bytes_eq v g.label) (λ yes. refl) (λ no. refl)

    serial_same : (g : Held) → (put_at v o g).serial ≡ g.serial
    serial_same g = by_test (λ q. (cond q (record g { object = o }) g).serial ≡ g.serial) (bytes_eq v g.label) (λ yes. refl) (λ no. refl)

    pub swapped : Holds y
    swapped = turned x y s.holds (put_at v o) rest any_piece keeps label_same serial_same
        (λ p g stays inn m. record { same = ap (λ q. (cond q (record g { object = o }) g).object) (ap (λ z. bytes_eq v z) m.label ∙ (apart p.0 stays).0); within = within g.object })
        touched refl s.labels refl refl (ap (λ (es : AreaList). length es) s.areas) (λ k. refl)
        (λ j.
        let put = same_put x s.holds v o s.held (object_covers j) s.there (s.covers j) in
        let was_taken = s.holds.taken j in
        let same : bit (slice_index_or app1.store.region.taken j false) ≡ bit (slice_index_or app.store.region.taken j false) = ap (λ (z : Space). bit (slice_index_or z.taken j false)) s.region in
        omega (arith, put, was_taken, same))
