-- A card, a door or a rate that goes, with its label.
use Rattle.std.proofs.Common.{◌≡◌, ℕ, true, false, List, length, refl, sym, subst, ◌∙◌, ap, arith}
use Rattle.std.specs.Prelude.{Option, Some, None, option_map, slice_get, slice_index_or, unwrap_or}
use Rattle.ark_caps.specs.Labels.{value_at, others}
use Rattle.ark_caps.specs.declared.capability.Capability.{Capability}
use Rattle.ark_caps.specs.declared.capability.CapKind.TheVariants as cap_kind
use Rattle.ark_region.specs.Frames.{bytes_of}
use Rattle.ark_vic.specs.declared.door.Counts.{Counts}
use Rattle.ark_machine.specs.Machine.{Held, at, serial_at, each_object, holds_any, without}
use Rattle.ark_machine.specs.Control.{is_open_on, is_paced, is_socket_on, is_watched, lets_go}
use Rattle.ark_held.specs.Totals.{bit, total, uses, object_covers}
use Rattle.ark_held.specs.Kept.{CardKept, NetKept, Tables}
use Rattle.ark_held.specs.Around.{Around}
use Rattle.ark_held.specs.Held.{Holds, AtLabel, is_area, is_area_cap, has_key}
use Rattle.ark_held.specs.Keeps.{Keeps, any_piece}
use Rattle.ark_held.proofs.Lists.{not_some, other_name, some_same}
use Rattle.ark_held.proofs.Besides.{same_history}
use Rattle.ark_held.proofs.Creating.{but}
use Rattle.ark_held.proofs.Finding.{found}
use Rattle.ark_held.proofs.Granted.{not_but}
use Rattle.ark_held.proofs.Lending.{names_net, narrowed_other}
use Rattle.ark_held.proofs.Parts.{CountsNothing}
use Rattle.ark_held.proofs.Removing.{others_value, others_was, others_gone, others_areas, total_others, removed}
use Rattle.ark_held.proofs.Seeing.{none_in}
use Rattle.ark_held.proofs.Spreading.{spread_same}
use Rattle.ark_held.proofs.Staying.{within}
use Rattle.ark_held.proofs.Unbound.{unbound_tables, unbound_all}
use Rattle.ark_held.proofs.Opens.{stays_same}

-- what is under a label has the grant of its number
pub numbered : (x : Around) (l : List ℕ) (cap : Capability) (held : Held) → Holds x → value_at x.labels l ≡ Some cap → at x.machine l ≡ Some held → slice_get x.numbers (serial_at x.machine l) ≡ Some cap.grant
numbered x l cap held h there is =
    ap (λ (o : Option Held). slice_get x.numbers (unwrap_or (option_map (λ (g : Held). g.serial) o) 0)) is
    ∙ by (value_at x.labels l) (at x.machine l) there is (found x l x.labels x.machine.held h.held)
  where
    by : (c : Option Capability) (o : Option Held) → c ≡ Some cap → o ≡ Some held → AtLabel x l c o → slice_get x.numbers held.serial ≡ Some cap.grant
    by None None a b m = absurd (cc (a))
    by (Some c) (Some g) a b m =
        ap (λ (z : Held). slice_get x.numbers z.serial) (some_same (Some held) held g refl (sym b)) ∙ m.serial ∙ ap (λ (z : Capability). Some z.grant) (some_same (Some c) c cap refl a)
    by None (Some g) a b m = absurd m
    by (Some c) None a b m = absurd m

-- Under other keys the cards of both kinds are as they were, and so are the doors and the rates.
pub record LosesOne (t u : Tables) (cap : Capability) : Type 0 where
  pub cards : (k : ℕ) → (cap.kind ≡ cap_kind.Vsic → k ≡ cap.key → ⊥) → u.cards k ≡ t.cards k
  pub doors : (k : ℕ) → (cap.kind ≡ cap_kind.Door → k ≡ cap.key → ⊥) → u.doors k ≡ t.doors k
  pub rates : (k : ℕ) → (cap.kind ≡ cap_kind.Rate → k ≡ cap.key → ⊥) → u.rates k ≡ t.rates k
  pub nets : (k : ℕ) → (cap.kind ≡ cap_kind.Vnic → k ≡ cap.key → ⊥) → u.nets k ≡ t.nets k
  pub rest : u ≡ record t { cards = u.cards; doors = u.doors; rates = u.rates; nets = u.nets }

-- A card of either kind, a door or a rate, and no other kind of object.
pub record IsDevice (cap : Capability) : Type 0 where
  pub no_buffer : cap.kind ≡ cap_kind.Buf → ⊥
  pub plain : is_area cap.kind ≡ false
  pub stored : has_key cap.kind ≡ true

module _ (x : Around) (h : Holds x) (l : List ℕ) (cap : Capability) (there : value_at x.labels l ≡ Some cap) (held : Held) (at_l : at x.machine l ≡ Some held) (device : IsDevice cap) (nothing : CountsNothing held.object)
    (seen : cap.kind ≡ cap_kind.Door → holds_any x.machine (is_watched l) ≡ false) (closed : cap.kind ≡ cap_kind.Vsic → holds_any x.machine (is_open_on l) ≡ false)
    (unpaced : cap.kind ≡ cap_kind.Rate → holds_any x.machine (is_paced l) ≡ false) (unused : cap.kind ≡ cap_kind.Vnic → holds_any x.machine (names_net l) ≡ false) (tables : Tables) (one : LosesOne x.tables tables cap) where
  abbrev pub lost_around : Around
  lost_around = record x { labels = others l x.labels; tables = tables; machine = without x.machine l }

  abbrev y : Around
  y = lost_around

  same : {A : Type 0} (f : Tables → A) → ((cs : ℕ → Option CardKept) (ds : ℕ → Option Counts) (rs : ℕ → Option (ℕ × ℕ)) (ns : ℕ → Option NetKept) → f (record x.tables { cards = cs; doors = ds; rates = rs; nets = ns }) ≡ f x.tables) → f tables ≡ f x.tables
  same f plain = ap f one.rest ∙ plain tables.cards tables.doors tables.rates tables.nets

  -- another label's key is not this one's, where both are of one kind
  other_key : (k : List ℕ) (c : Capability) → but l k ≡ true → value_at x.labels k ≡ Some c → cap.kind ≡ c.kind → c.key ≡ cap.key → ⊥
  other_key k c apart is kind e = other_name l k (not_but l k apart) (h.own.keys l k cap c there is kind device.stored (sym e))

  same_card : (k : List ℕ) (c : Capability) → but l k ≡ true → value_at x.labels k ≡ Some c → c.kind ≡ cap_kind.Vsic → tables.cards c.key ≡ x.tables.cards c.key
  same_card k c apart is kind = one.cards c.key (λ its. other_key k c apart is (its ∙ sym kind))

  counts : (f : Held → ℕ) → f held ≡ 0 → total f y.machine.held ≡ total f x.machine.held
  counts f none = let all = total_others x l held f x.labels x.machine.held h.apart h.held at_l in omega (arith, all, none)

  keeps : Keeps (but l) (but l) any_piece x y
  keeps = record {
    now = omega arith;
    numbers = λ i n is. is;
    frames = same (λ t. length t.memory.taken) (λ cs ds rs ns. refl);
    base = refl;
    bytes = λ p rests. same (λ t. bytes_of t.memory p) (λ cs ds rs ns. refl);
    granted = λ k c i is old. others_was l k c x.labels is;
    spread = λ i g a old is. spread_same x.areas g a is;
    labels = λ k c apart is. others_value l k x.labels (not_but l k apart) ∙ is;
    places = λ k c apart is its. same (λ t. option_map (λ b. b.piece) (t.buffers c.key)) (λ cs ds rs ns. refl);
    logs = λ s k d c card same at apart is its there on. stays_same d.grant card (x.tables.cards c.key) (tables.cards c.key) (same_card k c apart is its) there;
    buffers = λ k c apart is its. same (λ t. t.buffers c.key) (λ cs ds rs ns. refl);
    cards = same_card;
    nets = λ k c apart is its. one.nets c.key (λ kind. other_key k c apart is (kind ∙ sym its));
    doors = λ k c apart is its. one.doors c.key (λ kind. other_key k c apart is (kind ∙ sym its));
    rates = λ k c apart is its. one.rates c.key (λ kind. other_key k c apart is (kind ∙ sym its));
    sockets = λ k c apart is its. same (λ t. t.sockets c.key) (λ cs ds rs ns. refl);
    rules = λ k c apart is its. refl;
    areas = λ k c apart is its. refl;
    slots = λ k apart. refl;
    history = λ k u apart is. same_history x.history u.blocks;
    lent = λ k apart. counts (λ z. uses k z.object) (nothing.uses k);
    opened = λ k apart. counts (λ z. bit (is_open_on k z.object)) (nothing.opens k);
    socketed = λ k apart. counts (λ z. bit (is_socket_on k z.object)) (nothing.sockets k);
  }

  no_slot : is_area_cap (value_at x.labels l) ≡ false
  no_slot = ap is_area_cap there ∙ device.plain

  lost : Holds y
  lost = removed x y h l any_piece keeps
      (λ p g apart inn m. narrowed_other x l cap there device.no_buffer any_piece p.0 p.1 g.object m.object
      (λ kind. none_in (λ (z : Held). is_watched l z.object) x.machine.held g (seen kind) inn) (λ kind. none_in (λ (z : Held). is_open_on l z.object) x.machine.held g (closed kind) inn)
      (λ kind. none_in (λ (z : Held). is_paced l z.object) x.machine.held g (unpaced kind) inn) (λ kind. none_in (λ (z : Held). names_net l z.object) x.machine.held g (unused kind) inn) (within g.object))
      refl refl refl refl
      (h.areas ∙ sym (others_areas l x.labels h.apart (λ c is. ap (λ (z : Capability). is_area z.kind) (some_same (value_at x.labels l) c cap is there) ∙ device.plain)))
      (h.unlisted l no_slot)
      (λ j. counts (λ z. object_covers j z.object) (nothing.covers j) ∙ h.taken j ∙ sym (same (λ t. bit (slice_index_or t.memory.taken j false)) (λ cs ds rs ns. refl)))

  abbrev pub given_up : Around
  given_up = record x { labels = others l x.labels; tables = unbound_tables cap.grant tables; machine = each_object (lets_go l (serial_at x.machine l)) (without x.machine l) }

  -- the machine holds all else
  pub lost_all : Holds given_up
  lost_all = unbound_all y lost l (serial_at x.machine l) cap.grant (numbered x l cap held h there at_l) (others_gone l x.labels)
      (λ k c is same. not_some (value_at (others l x.labels) l) c (others_gone l x.labels)
      (subst (λ (z : List ℕ). value_at (others l x.labels) z ≡ Some c) (sym (h.own.grants l k cap c there (others_was l k c x.labels is) (sym same))) is))
