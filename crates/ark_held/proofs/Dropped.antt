-- An area that is given up: its label, its object and its slot go.
use Rattle.std.proofs.Common.{◌≡◌, ℕ, suc, ◌+◌, Bool, true, false, not, cond, List, [], ◌∷◌, length, map, nat_eq, refl, sym, ◌∙◌, ap, subst, arith, bytes_eq}
use Rattle.std.specs.Prelude.{Option, Some, None, find, option_map, slice_get, slice_index_or, unwrap_or, filter as select}
use Rattle.std.specs.Map.{lookup}
use Rattle.std.proofs.lemmas.Bool.Decides.{nat_tests}
use Rattle.ark_media.specs.Journal.{History}
use Rattle.ark_filters.specs.declared.live.Live.{Live}
use Rattle.ark_caps.specs.Labels.{value_at, others}
use Rattle.ark_caps.specs.declared.capability.Capability.{Capability}
use Rattle.ark_caps.specs.declared.capability.CapKind.TheVariants as cap_kind
use Rattle.ark_region.specs.Frames.{bytes_of}
use Rattle.ark_caladan.specs.Chain.{Opened}
use Rattle.ark_machine.specs.Objects
use Rattle.ark_machine.specs.Objects.{Object, opened_frames}
use Rattle.ark_machine.specs.Machine.{Machine, Held, at, each_object, holding, without}
use Rattle.ark_machine.specs.Row.{settled, synced}
use Rattle.ark_machine.specs.Control.{is_open_on, is_socket_on, lets_go}
use Rattle.ark_held.specs.declared.areas.Area.{Area}
use Rattle.ark_held.specs.Words.{Labels, AreaList, without_area}
use Rattle.ark_held.specs.Totals.{bit, total, uses, covers, object_covers}
use Rattle.ark_held.specs.Kept.{BufferKept, Tables}
use Rattle.ark_held.specs.Around.{Around, slot_at}
use Rattle.ark_held.specs.Held.{AreDistinctLabels, Holds, is_area, area_labels}
use Rattle.ark_held.specs.Keeps.{SameAt, IsSpread, Keeps, any_piece}
use Rattle.ark_held.proofs.Lists.{by_test, same_name, other_name, not_some, some_same}
use Rattle.ark_held.proofs.Besides.{same_history}
use Rattle.ark_held.proofs.Creating.{but}
use Rattle.ark_held.proofs.Granted.{not_but}
use Rattle.ark_held.proofs.Lending.{narrowed_area}
use Rattle.ark_held.proofs.Removing.{others_value, others_was, others_areas, total_others, removed}
use Rattle.ark_held.proofs.Spreading.{spread_same}
use Rattle.ark_held.proofs.Staying.{within}
use Rattle.ark_held.proofs.Without.{one_fewer, without_other}
use Rattle.ark_held.proofs.Opens.{stays_same}

-- of the areas' labels one fewer stays
fewer_areas : (l : List ℕ) (ps : Labels) (c : Capability) → AreDistinctLabels ps → value_at ps l ≡ Some c → is_area c.kind ≡ true → length (area_labels (others l ps)) + 1 ≡ length (area_labels ps)
fewer_areas l [] c apart is its = absurd (not_some None c refl is)
fewer_areas l (p ∷ ps) c apart is its = by_test (λ t. bytes_eq l p.0 ≡ t → length (area_labels (cond (not t) (p ∷ others l ps) (others l ps))) + 1 ≡ length (area_labels (p ∷ ps))) (bytes_eq l p.0)
    (λ yes q.
    let gone : value_at ps l ≡ None = ap (λ k. value_at ps k) (same_name l p.0 q) ∙ apart.0 in
    let same = others_areas l ps apart.1 (λ d here. absurd (not_some (value_at ps l) d gone here)) in
    let first : p.1 ≡ c = some_same (Some p.1) p.1 c refl (sym (ap (λ b. cond b (Some p.1) (value_at ps l)) q) ∙ is) in
    let more : length (area_labels (p ∷ ps)) ≡ suc (length (area_labels ps)) = ap (λ b. length (cond b (p ∷ area_labels ps) (area_labels ps))) (ap (λ (z : Capability). is_area z.kind) first ∙ its) in
    omega (arith, same, more))
    (λ no q. longer (is_area p.1.kind) (area_labels (others l ps)) (area_labels ps) (fewer_areas l ps c apart.1 (sym (ap (λ b. cond b (Some p.1) (value_at ps l)) q) ∙ is) its)) refl
  where
    longer : (t : Bool) (xs ys : Labels) → length xs + 1 ≡ length ys → length (cond t (p ∷ xs) xs) + 1 ≡ length (cond t (p ∷ ys) ys)
    longer true xs ys one = omega (arith, one)
    longer false xs ys one = one

-- an area that is not open on a card
abbrev pub IsClosed : Object → Type 0
IsClosed (Objects.raw r) = Unit {0}
IsClosed (Objects.log g) = g.opened ≡ None
IsClosed _ = ⊥

-- it has no buffer, and is on no card
closed_uses : (k : List ℕ) (o : Object) → IsClosed o → uses k o ≡ 0
closed_uses k (Objects.raw r) closed = refl
closed_uses k (Objects.log g) closed = refl
closed_uses k _ closed = absurd closed

closed_open : (k : List ℕ) (o : Object) → IsClosed o → bit (is_open_on k o) ≡ 0
closed_open k (Objects.raw r) closed = refl
closed_open k (Objects.log g) closed = ap (λ (z : Option Opened). bit (unwrap_or (option_map (λ (o : Opened). bytes_eq k o.card) z) false)) closed
closed_open k _ closed = absurd closed

closed_sockets : (k : List ℕ) (o : Object) → IsClosed o → bit (is_socket_on k o) ≡ 0
closed_sockets k (Objects.raw r) closed = refl
closed_sockets k (Objects.log g) closed = refl
closed_sockets k _ closed = absurd closed

closed_covers : (j : ℕ) (o : Object) → IsClosed o → object_covers j o ≡ 0
closed_covers j (Objects.raw r) closed = refl
closed_covers j (Objects.log g) closed = ap (λ (z : Option Opened). total (λ f. bit (covers j f)) (opened_frames z)) closed
closed_covers j _ closed = absurd closed

module _ (x y : Around) (h : Holds x) (l : List ℕ) (cap : Capability) (there : value_at x.labels l ≡ Some cap) (its_kind : cap.kind ≡ cap_kind.Vsa) (area : Area) (kept : lookup (nat_eq cap.grant) x.areas ≡ Some area)
    (held : Held) (at_l : at x.machine l ≡ Some held) (closed : IsClosed held.object)
    (now : y.now ≡ x.now) (numbers : y.numbers ≡ x.numbers) (labels : y.labels ≡ others l x.labels) (areas : y.areas ≡ without_area x.areas cap.grant) (gone : lookup (nat_eq cap.grant) y.areas ≡ None) (tables : y.tables ≡ x.tables) (rules : y.rules ≡ x.rules) (history : y.history ≡ x.history)
    (slots : (k : List ℕ) → but l k ≡ true → slot_at y k ≡ slot_at x k) (its_slot : slot_at y l ≡ None) (machine : y.machine ≡ without x.machine l) where
  counts : (f : Held → ℕ) → f held ≡ 0 → total f y.machine.held ≡ total f x.machine.held
  counts f none =
      ap (λ (m : Machine). total f m.held) machine
      ∙ (let all = total_others x l held f x.labels x.machine.held h.apart h.held at_l in
      let same : total f (without x.machine l).held ≡ total f x.machine.held = omega (arith, all, none) in same)

  -- another label's grant is not the area's
  other_grant : (k : List ℕ) (c : Capability) → but l k ≡ true → value_at x.labels k ≡ Some c → nat_eq c.grant cap.grant ≡ false
  other_grant k c apart is =
      let differ : c.grant ≡ cap.grant → ⊥ = λ e. other_name l k (not_but l k apart) (h.own.grants l k cap c there is (sym e)) in
      grind (arith, nat_tests, differ)

  keeps : Keeps (but l) (but l) any_piece x y
  keeps = record {
    now = omega (arith, now);
    numbers = λ i n is. ap (λ (ns : List ℕ). slice_get ns i) numbers ∙ is;
    frames = ap (λ (z : Tables). length z.memory.taken) tables;
    base = ap (λ (z : History). z.base) history;
    bytes = λ b rests. ap (λ (z : Tables). bytes_of z.memory b) tables;
    granted = λ k c i is old. others_was l k c x.labels (ap (λ (ls : Labels). value_at ls k) (sym labels) ∙ is);
    spread = λ i g a old is. by_test (λ t. nat_eq g cap.grant ≡ t → IsSpread (lookup (nat_eq g) x.areas) a) (nat_eq g cap.grant)
        (λ yes q. let same : g ≡ cap.grant = grind (arith, nat_tests, q) in absurd (not_some (lookup (nat_eq g) y.areas) a (ap (λ (n : ℕ). lookup (nat_eq n) y.areas) same ∙ gone) is))
        (λ no q. spread_same x.areas g a (sym (ap (λ (es : AreaList). lookup (nat_eq g) es) areas ∙ without_other x.areas cap.grant g q) ∙ is)) refl;
    labels = λ k c apart is. ap (λ (ls : Labels). value_at ls k) labels ∙ others_value l k x.labels (not_but l k apart) ∙ is;
    places = λ k c apart is its. ap (λ (z : Tables). option_map (λ (b : BufferKept). b.piece) (z.buffers c.key)) tables;
    logs = λ s k d c card same at apart is its there on. stays_same d.grant card (x.tables.cards c.key) (y.tables.cards c.key) (ap (λ (z : Tables). z.cards c.key) tables) there;
    buffers = λ k c apart is its. ap (λ (z : Tables). z.buffers c.key) tables;
    cards = λ k c apart is its. ap (λ (z : Tables). z.cards c.key) tables;
    nets = λ k c apart is its. ap (λ (z : Tables). z.nets c.key) tables;
    doors = λ k c apart is its. ap (λ (z : Tables). z.doors c.key) tables;
    rates = λ k c apart is its. ap (λ (z : Tables). z.rates c.key) tables;
    sockets = λ k c apart is its. ap (λ (z : Tables). z.sockets c.key) tables;
    rules = λ k c apart is its. ap (λ (rs : List Live). find (λ v. nat_eq v.grant c.grant) rs) rules;
    areas = λ k c apart is its. ap (λ (es : AreaList). lookup (nat_eq c.grant) es) areas ∙ without_other x.areas cap.grant c.grant (other_grant k c apart is);
    slots = slots;
    history = λ k u apart is. subst (λ (o : History). SameAt x.history o u.blocks) (sym history) (same_history x.history u.blocks);
    lent = λ k apart. counts (λ z. uses k z.object) (closed_uses k held.object closed);
    opened = λ k apart. counts (λ z. bit (is_open_on k z.object)) (closed_open k held.object closed);
    socketed = λ k apart. counts (λ z. bit (is_socket_on k z.object)) (closed_sockets k held.object closed);
  }

  area_count : length y.areas ≡ length (area_labels y.labels)
  area_count =
      let fewer = one_fewer x.areas cap.grant area kept in
      let labelled = fewer_areas l x.labels cap h.apart there (ap is_area its_kind) in
      let was = h.areas in
      let areas_then : length y.areas ≡ length (without_area x.areas cap.grant) = ap (λ (es : AreaList). length es) areas in
      let labels_then : length (area_labels y.labels) ≡ length (area_labels (others l x.labels)) = ap (λ (ls : Labels). length (area_labels ls)) labels in
      omega (arith, fewer, labelled, was, areas_then, labels_then)

  -- the machine holds all else
  pub dropped : Holds y
  dropped = removed x y h l any_piece keeps (λ p g apart inn m. narrowed_area x l cap there its_kind any_piece p.0 p.1 g.object m.object (within g.object)) machine labels numbers now area_count its_slot
      (λ j. counts (λ z. object_covers j z.object) (closed_covers j held.object closed) ∙ h.taken j ∙ sym (ap (λ (z : Tables). bit (slice_index_or z.memory.taken j false)) tables))

-- After a sync that succeeded, as before it.

settled_select : (l : List ℕ) (hs : List Held) → map (λ g. holding (settled g.object) g) (select (λ g. not (bytes_eq l g.label)) hs) ≡ select (λ g. not (bytes_eq l g.label)) (map (λ g. holding (settled g.object) g) hs)
settled_select l [] = refl
settled_select l (g ∷ gs) = by_test (λ b. map (λ z. holding (settled z.object) z) (cond b (g ∷ select (λ z. not (bytes_eq l z.label)) gs) (select (λ z. not (bytes_eq l z.label)) gs))
    ≡ cond b (holding (settled g.object) g ∷ select (λ z. not (bytes_eq l z.label)) (map (λ z. holding (settled z.object) z) gs)) (select (λ z. not (bytes_eq l z.label)) (map (λ z. holding (settled z.object) z) gs))) (not (bytes_eq l g.label))
    (λ _. ap (λ (zs : List Held). holding (settled g.object) g ∷ zs) (settled_select l gs)) (λ _. settled_select l gs)

synced_without : (b : Bool) (m : Machine) (l : List ℕ) → synced b (without m l) ≡ without (synced b m) l
synced_without true m l = λ i. record m { held = settled_select l m.held i }
synced_without false m l = refl

settled_lets : (l : List ℕ) (n : ℕ) (o : Object) → settled (lets_go l n o) ≡ lets_go l n (settled o)
settled_lets l n (Objects.raw r) = refl
settled_lets l n (Objects.log g) = refl
settled_lets l n (Objects.vsic v) = refl
settled_lets l n (Objects.vnic v) = refl
settled_lets l n (Objects.filter f None) = refl
settled_lets l n (Objects.filter f (Some v)) = refl
settled_lets l n (Objects.door d) = refl
settled_lets l n (Objects.rate q b) = refl
settled_lets l n (Objects.buffer b) = refl
settled_lets l n (Objects.socket k) = refl

settled_each : (l : List ℕ) (n : ℕ) (hs : List Held) → map (λ g. holding (settled g.object) g) (map (λ g. holding (lets_go l n g.object) g) hs) ≡ map (λ g. holding (lets_go l n g.object) g) (map (λ g. holding (settled g.object) g) hs)
settled_each l n [] = refl
settled_each l n (g ∷ gs) = λ i. holding (settled_lets l n g.object i) g ∷ settled_each l n gs i

-- and what an area leaves behind goes with it as before
pub synced_given_up : (b : Bool) (m : Machine) (l : List ℕ) (n : ℕ) → synced b (each_object (lets_go l n) (without m l)) ≡ each_object (lets_go l n) (without (synced b m) l)
synced_given_up true m l n = (λ i. record m { held = settled_each l n (select (λ g. not (bytes_eq l g.label)) m.held) i }) ∙ ap (λ (z : Machine). each_object (lets_go l n) z) (synced_without true m l)
synced_given_up false m l n = refl

-- an area keeps what it is
pub synced_at : (b : Bool) (m : Machine) (l : List ℕ) (g : Held) → at m l ≡ Some g → IsClosed g.object → (z : Held) × (at (synced b m) l ≡ Some z) × IsClosed z.object
synced_at false m l g is closed = (g, is, closed)
synced_at true m l g is closed = (holding (settled g.object) g, found m.held is, settled_closed g.object closed)
  where
    settled_closed : (o : Object) → IsClosed o → IsClosed (settled o)
    settled_closed (Objects.raw r) c = tt
    settled_closed (Objects.log q) c = c
    settled_closed _ c = absurd c

    found : (hs : List Held) → find (λ z. bytes_eq l z.label) hs ≡ Some g → find (λ z. bytes_eq l z.label) (map (λ z. holding (settled z.object) z) hs) ≡ Some (holding (settled g.object) g)
    found [] e = absurd (not_some None g refl e)
    found (z ∷ zs) e = by_test (λ b. cond b (Some z) (find (λ y. bytes_eq l y.label) zs) ≡ Some g
        → cond b (Some (holding (settled z.object) z)) (find (λ y. bytes_eq l y.label) (map (λ y. holding (settled y.object) y) zs)) ≡ Some (holding (settled g.object) g)) (bytes_eq l z.label)
        (λ _ q. ap (λ (y : Held). Some (holding (settled y.object) y)) (some_same (Some z) z g refl q)) (λ _ q. found zs q) e
