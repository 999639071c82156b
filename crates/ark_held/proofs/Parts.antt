-- What stays where a word changes cards, doors and rates, and neither its application's memory nor its areas. A new object that counts
-- nothing, and one that counts as before.
use Rattle.std.proofs.Common.{◌≡◌, ℕ, ◌+◌, Bool, true, false, List, [], ◌∷◌, ◌++◌, length, refl, sym, ◌∙◌, ap, arith, nat_eq}
use Rattle.std.specs.Prelude.{Some, None, option_map, slice_get, slice_index_or}
use Rattle.std.specs.Map.{lookup}
use Rattle.ark_objects.specs.Held.{at as key_at}
use Rattle.ark_caps.specs.Labels.{value_at}
use Rattle.ark_caps.specs.declared.capability.Capability.{Capability}
use Rattle.ark_caps.specs.declared.capability.CapKind.TheVariants as cap_kind
use Rattle.ark_region.specs.Frames.{bytes_of}
use Rattle.ark_machine.specs.Objects.{Object}
use Rattle.ark_machine.specs.Machine.{Machine, Held, at, with_new, with_object}
use Rattle.ark_machine.specs.Control.{is_open_on, is_socket_on}
use Rattle.ark_held.specs.Words.{Labels, AreaList}
use Rattle.ark_held.specs.Totals.{bit, uses, object_covers, lent_count, open_count, socket_count}
use Rattle.ark_held.specs.Stored.{buffer_kept}
use Rattle.ark_held.specs.Rings.{card_kept}
use Rattle.ark_held.specs.Pacing.{rate_kept}
use Rattle.ark_held.specs.Nets.{net_kept}
use Rattle.ark_held.specs.Around.{Around}
use Rattle.ark_held.specs.Held.{Holds, IsObjectOf, has_key, is_area, is_area_cap, area_labels}
use Rattle.ark_held.specs.Keeps.{Keeps, any_label, any_piece, LogsStay}
use Rattle.ark_held.specs.Beyond.{Beyond, around}
use Rattle.ark_held.specs.Does.{IsFresh}
use Rattle.ark_held.specs.declared.app.App.{App}
use Rattle.ark_held.specs.declared.store.Store.{Store}
use Rattle.ark_held.proofs.Lists.{plus_zero, value_old, number_front, total_last}
use Rattle.ark_held.proofs.Besides.{same_history}
use Rattle.ark_held.proofs.Changing.{changed, same_put}
use Rattle.ark_held.proofs.Creating.{but, areas_last, created}
use Rattle.ark_held.proofs.Spreading.{spread_same}
use Rattle.ark_held.proofs.Staying.{within}

-- what labels for which `same` holds are counted by
abbrev pub AreCounted : (List ℕ → Bool) → Machine → Machine → Type 0
AreCounted same m n = (k : List ℕ) → same k ≡ true → (lent_count n k ≡ lent_count m k) × (open_count n k ≡ open_count m k) × (socket_count n k ≡ socket_count m k)

-- from application app to app1 these labels keep their cards of both kinds, doors and rates, and each storage card the log that is open on it
pub record KeepsParts (same : List ℕ → Bool) (app app1 : App) : Type 0 where
  pub store : app1.store ≡ app.store
  pub areas : app1.areas ≡ app.areas
  pub labels : (k : List ℕ) (c : Capability) → value_at app.labels k ≡ Some c → value_at app1.labels k ≡ Some c
  pub logs : LogsStay app.labels (card_kept app.devices.cards) (card_kept app1.devices.cards)
  pub cards : (k : List ℕ) (c : Capability) → same k ≡ true → value_at app.labels k ≡ Some c → c.kind ≡ cap_kind.Vsic → card_kept app1.devices.cards c.key ≡ card_kept app.devices.cards c.key
  pub doors : (k : List ℕ) (c : Capability) → same k ≡ true → value_at app.labels k ≡ Some c → c.kind ≡ cap_kind.Door → key_at app1.devices.doors c.key ≡ key_at app.devices.doors c.key
  pub rates : (k : List ℕ) (c : Capability) → same k ≡ true → value_at app.labels k ≡ Some c → c.kind ≡ cap_kind.Rate → rate_kept app1.devices.rates c.key ≡ rate_kept app.devices.rates c.key
  pub nets : (k : List ℕ) (c : Capability) → same k ≡ true → value_at app.labels k ≡ Some c → c.kind ≡ cap_kind.Vnic → net_kept app1.devices.nets.cards c.key ≡ net_kept app.devices.nets.cards c.key

module _ (r : Beyond) (app app1 : App) (numbers : List ℕ) (machine : Machine) (same : List ℕ → Bool) (p : KeepsParts same app app1) (counts : AreCounted same r.machine machine) where
  pub parts_keep : ((i n : ℕ) → slice_get r.numbers i ≡ Some n → slice_get numbers i ≡ Some n)
      → ((k : List ℕ) (c : Capability) (i : ℕ) → value_at app1.labels k ≡ Some c → slice_get r.numbers i ≡ Some c.grant → value_at app.labels k ≡ Some c) → Keeps same any_label any_piece (around r app) (around (record r { numbers = numbers; machine = machine }) app1)
  parts_keep grown granted = record {
    now = omega arith;
    numbers = grown;
    frames = ap (λ (s : Store). length s.region.taken) p.store;
    base = refl;
    bytes = λ q rests. ap (λ (s : Store). bytes_of s.region q) p.store;
    granted = granted;
    spread = λ i g a old is. spread_same app.areas g a (ap (λ (es : AreaList). lookup (nat_eq g) es) (sym p.areas) ∙ is);
    labels = λ k c among is. p.labels k c is;
    places = λ k c among is kind. ap (λ (s : Store). option_map (λ z. z.piece) (buffer_kept s.buffers c.key)) p.store;
    logs = λ s k d c card stays at among is kind there on. p.logs k c is kind card d.grant there on;
    buffers = λ k c stays is kind. ap (λ (s : Store). buffer_kept s.buffers c.key) p.store;
    cards = λ k c stays is kind. p.cards k c stays is kind;
    nets = λ k c stays is kind. p.nets k c stays is kind;
    doors = λ k c stays is kind. p.doors k c stays is kind;
    rates = λ k c stays is kind. p.rates k c stays is kind;
    sockets = λ k c stays is kind. refl;
    rules = λ k c stays is kind. refl;
    areas = λ k c stays is kind. ap (λ (es : AreaList). lookup (nat_eq c.grant) es) p.areas;
    slots = λ k stays. refl;
    history = λ k u stays is. same_history r.history u.blocks;
    lent = λ k stays. (counts k stays).0;
    opened = λ k stays. (counts k stays).1;
    socketed = λ k stays. (counts k stays).2;
  }

-- an object that takes no frame, has no buffer, and is on no card
pub record CountsNothing (o : Object) : Type 0 where
  pub uses : (k : List ℕ) → uses k o ≡ 0
  pub opens : (k : List ℕ) → bit (is_open_on k o) ≡ 0
  pub sockets : (k : List ℕ) → bit (is_socket_on k o) ≡ 0
  pub covers : (j : ℕ) → object_covers j o ≡ 0

module _ (r : Beyond) (app app1 : App) (l : List ℕ) (c : Capability) (o : Object) (h : Holds (around r app)) (absent : value_at app.labels l ≡ None) (fresh : IsFresh r c.grant) (labels : app1.labels ≡ app.labels ++ (l, c) ∷ [])
    (p : KeepsParts (but l) app app1) (own_key : (k : List ℕ) (d : Capability) → value_at app.labels k ≡ Some d → d.kind ≡ c.kind → has_key d.kind ≡ true → d.key ≡ c.key → ⊥)
    (nothing : CountsNothing o) (plain : is_area c.kind ≡ false) where
  abbrev one : Held
  one = record { label = l; serial = r.machine.serial; object = o }

  abbrev y : Around
  y = around (record r { numbers = r.numbers ++ c.grant ∷ []; machine = with_new r.machine l o }) app1

  counts : AreCounted (but l) r.machine (with_new r.machine l o)
  counts k stays =
      let a = total_last (λ z. uses k z.object) r.machine.held one in
      let b = total_last (λ z. bit (is_open_on k z.object)) r.machine.held one in
      let d = total_last (λ z. bit (is_socket_on k z.object)) r.machine.held one in
      let no_use = nothing.uses k in
      let no_log = nothing.opens k in
      let no_socket = nothing.sockets k in
      (omega (arith, a, no_use), omega (arith, b, no_log), omega (arith, d, no_socket))

  keeps : Keeps (but l) any_label any_piece (around r app) y
  keeps = parts_keep r app app1 y.numbers y.machine (but l) p counts (λ i n is. number_front r.numbers c.grant i n is)
      (λ k d i is old. value_old app.labels l c k d (ap (λ (ls : Labels). value_at ls k) (sym labels) ∙ is) (λ e. fresh i (old ∙ ap (λ (z : Capability). Some z.grant) e)))

  -- the machine has it too
  pub added : IsObjectOf y l c o → Holds y
  added fits = created (around r app) y h l c o absent labels fresh own_key any_piece keeps (λ q k among m. within k.object) refl refl refl
      (ap (λ (es : AreaList). length es) p.areas ∙ h.areas
      ∙ sym (ap (λ (ls : Labels). length (area_labels ls)) labels ∙ areas_last app.labels (l, c) ∙ ap (λ b. length (area_labels app.labels) + bit b) plain ∙ plus_zero (length (area_labels app.labels))))
      (λ j.
      let was = h.taken j in
      let none = nothing.covers j in
      let same : bit (slice_index_or app1.store.region.taken j false) ≡ bit (slice_index_or app.store.region.taken j false) = ap (λ (s : Store). bit (slice_index_or s.region.taken j false)) p.store in
      omega (arith, was, none, same))
      fits (λ other. h.unlisted l (ap is_area_cap absent))

-- two objects that are counted alike
pub record CountsAlike (o p : Object) : Type 0 where
  pub uses : (k : List ℕ) → uses k o ≡ uses k p
  pub opens : (k : List ℕ) → bit (is_open_on k o) ≡ bit (is_open_on k p)
  pub sockets : (k : List ℕ) → bit (is_socket_on k o) ≡ bit (is_socket_on k p)
  pub covers : (j : ℕ) → object_covers j o ≡ object_covers j p

module _ (r : Beyond) (app app1 : App) (l : List ℕ) (g : Held) (o : Object) (h : Holds (around r app)) (there : at r.machine l ≡ Some g) (labels : app1.labels ≡ app.labels) (p : KeepsParts (but l) app app1) (alike : CountsAlike g.object o) where
  abbrev then : Around
  then = around (record r { machine = with_object r.machine l o }) app1

  pub alike_all : (k : List ℕ) → (lent_count (with_object r.machine l o) k ≡ lent_count r.machine k) × (open_count (with_object r.machine l o) k ≡ open_count r.machine k) × (socket_count (with_object r.machine l o) k ≡ socket_count r.machine k)
  alike_all k = (
    same_put (around r app) h l o g (uses k) there (alike.uses k),
    same_put (around r app) h l o g (λ z. bit (is_open_on k z)) there (alike.opens k),
    same_put (around r app) h l o g (λ z. bit (is_socket_on k z)) there (alike.sockets k),
  )

  pub alter_keeps : Keeps (but l) any_label any_piece (around r app) then
  alter_keeps = parts_keep r app app1 r.numbers (with_object r.machine l o) (but l) p (λ k stays. alike_all k) (λ i n is. is) (λ k c i is old. ap (λ (ls : Labels). value_at ls k) (sym labels) ∙ is)

  -- the machine has the new content too
  pub altered : ((c : Capability) → value_at app.labels l ≡ Some c → IsObjectOf (around r app) l c g.object → IsObjectOf then l c o) → Holds then
  altered own = changed (around r app) then h l g o there any_piece alter_keeps (λ q k apart among m. within k.object) refl labels refl refl
      (ap (λ (es : AreaList). length es) p.areas) (λ k none. refl)
      (λ j.
      let covers = alike.covers j in
      let same : bit (slice_index_or app1.store.region.taken j false) ≡ bit (slice_index_or app.store.region.taken j false) = ap (λ (s : Store). bit (slice_index_or s.region.taken j false)) p.store in
      omega (arith, covers, same))
      (λ c is m. own c is m.object)
