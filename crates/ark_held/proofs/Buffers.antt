-- What stays where a word changes a buffer, its label and the application's memory, and nothing else that objects are compared with.
use Rattle.std.proofs.Common.{◌≡◌, ℕ, Bool, true, List, length, refl, sym, ◌∙◌, ap, arith, nat_eq}
use Rattle.std.specs.Prelude.{Option, Some, None, option_map, slice_get}
use Rattle.std.specs.Map.{lookup}
use Rattle.ark_caps.specs.Labels.{value_at}
use Rattle.ark_caps.specs.declared.capability.Capability.{Capability}
use Rattle.ark_caps.specs.declared.capability.CapKind.TheVariants as cap_kind
use Rattle.ark_region.specs.Frames.{Piece, bytes_of}
use Rattle.ark_machine.specs.Objects
use Rattle.ark_machine.specs.Objects.{Object, Buffer}
use Rattle.ark_machine.specs.Machine.{Machine}
use Rattle.ark_machine.specs.Control.{is_open_on, is_socket_on}
use Rattle.ark_held.specs.Words.{AreaList}
use Rattle.ark_held.specs.Totals.{bit, total, uses}
use Rattle.ark_held.specs.Kept.{BufferKept}
use Rattle.ark_objects.specs.Held.{at as key_at}
use Rattle.ark_held.specs.Stored.{buffer_kept}
use Rattle.ark_held.specs.Rings.{card_kept}
use Rattle.ark_held.specs.Pacing.{rate_kept}
use Rattle.ark_held.specs.Nets.{net_kept}
use Rattle.ark_held.specs.Held.{IsObjectOf, Holds}
use Rattle.ark_held.specs.Keeps.{Keeps}
use Rattle.ark_held.specs.Beyond.{Beyond, around}
use Rattle.ark_held.specs.declared.app.App.{App}
use Rattle.ark_held.specs.declared.devices.Devices.{Devices}
use Rattle.ark_held.proofs.Lists.{not_some}
use Rattle.ark_held.proofs.Spreading.{spread_same}
use Rattle.ark_held.proofs.Besides.{same_history}
use Rattle.ark_held.proofs.Finding.{stands_at}
use Rattle.ark_held.proofs.Opens.{stays_same}

-- sums over objects to which a buffer adds nothing
abbrev pub CountsSame : Machine → Machine → Type 0
CountsSame m n = (f : Object → ℕ) → ((z : Buffer) → f (Objects.buffer z) ≡ 0) → total (λ h. f h.object) n.held ≡ total (λ h. f h.object) m.held

module _ (r : Beyond) (app app1 : App) (numbers : List ℕ) (machine : Machine) (same named : List ℕ → Bool) (rests : Piece → Type 0) (wider : (k : List ℕ) → same k ≡ true → named k ≡ true)
    (entries : (k : List ℕ) (c : Capability) → named k ≡ true → value_at app.labels k ≡ Some c → c.kind ≡ cap_kind.Buf → buffer_kept app1.store.buffers c.key ≡ buffer_kept app.store.buffers c.key)
    (areas : app1.areas ≡ app.areas) (devices : app1.devices ≡ app.devices) (counts : CountsSame r.machine machine) where
  pub buffers_keep : ((i n : ℕ) → slice_get r.numbers i ≡ Some n → slice_get numbers i ≡ Some n) → length app1.store.region.taken ≡ length app.store.region.taken
      → ((p : Piece) → rests p → bytes_of app1.store.region p ≡ bytes_of app.store.region p) → ((k : List ℕ) (c : Capability) → named k ≡ true → value_at app.labels k ≡ Some c → value_at app1.labels k ≡ Some c)
      → ((k : List ℕ) (c : Capability) (i : ℕ) → value_at app1.labels k ≡ Some c → slice_get r.numbers i ≡ Some c.grant → value_at app.labels k ≡ Some c)
      → Keeps same named rests (around r app) (around (record r { numbers = numbers; machine = machine }) app1)
  buffers_keep grown frames bytes labels granted = record {
    now = omega arith;
    numbers = grown;
    frames = frames;
    base = refl;
    bytes = bytes;
    granted = granted;
    spread = λ i g a old is. spread_same app.areas g a (ap (λ (es : AreaList). lookup (nat_eq g) es) (sym areas) ∙ is);
    labels = labels;
    places = λ k c among is kind. ap (λ (o : Option BufferKept). option_map (λ z. z.piece) o) (entries k c among is kind);
    logs = λ s k d c card same at among is kind there on. stays_same d.grant card (card_kept app.devices.cards c.key) (card_kept app1.devices.cards c.key) (ap (λ (e : Devices). card_kept e.cards c.key) devices) there;
    buffers = λ k c stays is kind. entries k c (wider k stays) is kind;
    cards = λ k c stays is kind. ap (λ (d : Devices). card_kept d.cards c.key) devices;
    nets = λ k c stays is kind. ap (λ (d : Devices). net_kept d.nets.cards c.key) devices;
    doors = λ k c stays is kind. ap (λ (d : Devices). key_at d.doors c.key) devices;
    rates = λ k c stays is kind. ap (λ (d : Devices). rate_kept d.rates c.key) devices;
    sockets = λ k c stays is kind. refl;
    rules = λ k c stays is kind. refl;
    areas = λ k c stays is kind. ap (λ (es : AreaList). lookup (nat_eq c.grant) es) areas;
    slots = λ k stays. refl;
    history = λ k u stays is. same_history r.history u.blocks;
    lent = λ k stays. counts (uses k) (λ z. refl);
    opened = λ k stays. counts (λ o. bit (is_open_on k o)) (λ z. refl);
    socketed = λ k stays. counts (λ o. bit (is_socket_on k o)) (λ z. refl);
  }

-- a buffer's key has an entry
module _ (r : Beyond) (app : App) where
  in_use : (l : List ℕ) (c : Capability) (o : Object) → c.kind ≡ cap_kind.Buf → IsObjectOf (around r app) l c o → buffer_kept app.store.buffers c.key ≡ None → ⊥
  in_use l c (Objects.buffer b) kind f gone = not_some (buffer_kept app.store.buffers c.key) f.entry gone f.kept
  in_use l c (Objects.raw z) kind f gone = absurd (cc (kind, f.its_kind))
  in_use l c (Objects.log z) kind f gone = absurd (cc (kind, f.its_kind))
  in_use l c (Objects.vsic z) kind f gone = absurd (cc (kind, f.its_kind))
  in_use l c (Objects.vnic z) kind f gone = absurd (cc (kind, f.its_kind))
  in_use l c (Objects.filter z y) kind f gone = absurd (cc (kind, f.its_kind))
  in_use l c (Objects.door z) kind f gone = absurd (cc (kind, f.its_kind))
  in_use l c (Objects.rate z y) kind f gone = absurd (cc (kind, f.its_kind))
  in_use l c (Objects.socket z) kind f gone = absurd (cc (kind, f.its_kind))

  pub unused : Holds (around r app) → (key : ℕ) → buffer_kept app.store.buffers key ≡ None → (k : List ℕ) (c : Capability) → value_at app.labels k ≡ Some c → c.kind ≡ cap_kind.Buf → c.key ≡ key → ⊥
  unused h key vacant k c is kind e = let at = stands_at (around r app) k c h is in in_use k c at.held.object kind at.matches.object (ap (λ i. buffer_kept app.store.buffers i) e ∙ vacant)
