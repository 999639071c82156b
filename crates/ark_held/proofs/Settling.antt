-- An application's machine after a sync that succeeded: of each block of its areas a stop leaves what stands there.
use Rattle.std.proofs.Common.{◌≡◌, ℕ, ◌<◌, Bool, true, false, ◌||◌, List, [], ◌∷◌, length, map, get_or, refl, sym, ◌∙◌, subst, arith, Contains}
use Rattle.std.specs.Prelude.{Some}
use Rattle.std.proofs.lemmas.Bool.{false≢true}
use Rattle.std.proofs.lemmas.List.{length-map, get_or-map}
use Rattle.ark_media.specs.Journal.{Event, Read, Write, Sync, Out, block, current, onto}
use Rattle.ark_media.specs.Stops.{MayHold, Whole}
use Rattle.ark_caps.specs.Labels.{value_at}
use Rattle.ark_caps.specs.declared.capability.Capability.{Capability}
use Rattle.ark_table.specs.Slots.{Slot}
use Rattle.ark_machine.specs.Objects
use Rattle.ark_machine.specs.Objects.{Object, Raw}
use Rattle.ark_machine.specs.Machine.{Held, holding, each_object}
use Rattle.ark_machine.specs.Row.{settled}
use Rattle.ark_machine.specs.Control.{is_open_on, is_socket_on}
use Rattle.ark_held.specs.Totals.{bit, total, uses, object_covers}
use Rattle.ark_held.specs.Around.{Around, slot_at}
use Rattle.ark_held.specs.Areas.{IsRaw}
use Rattle.ark_media.specs.Standing.{MayStand}
use Rattle.ark_held.specs.Beside.{AreBeside}
use Rattle.ark_held.specs.Held.{IsObjectOf, Holds}
use Rattle.ark_held.specs.Keeps.{Keeps, any_label, any_piece}
use Rattle.ark_held.proofs.Spreading.{spread_same}
use Rattle.ark_held.proofs.Besides.{same_history, current_beside, may_beside}
use Rattle.ark_held.proofs.Keeping.{fits_kept}
use Rattle.ark_held.proofs.Staying.{within}
use Rattle.ark_held.proofs.Turning.{turned}
use Rattle.ark_held.proofs.Opens.{stays_same}

-- whether a sync succeeded among these events
abbrev pub has_synced : List Event → Bool
has_synced [] = false
has_synced (Sync ok ∷ es) = ok || has_synced es
has_synced (Write n content took ok ∷ es) = has_synced es
has_synced (Read n ok ∷ es) = has_synced es
has_synced (Out bytes ∷ es) = has_synced es

-- then blocks that none of the events writes are left as they stand
pub synced_alone : (base : List (List ℕ)) (blocks : List ℕ) (es j : List Event) (n : ℕ) → n < length base → Contains blocks n → AreBeside blocks es → has_synced es ≡ true
    → (c : List ℕ) → MayHold Whole base (onto es j) n c → c ≡ block (current base (onto es j)) n
synced_alone base blocks [] j n lt has beside is c left = absurd (false≢true is)
synced_alone base blocks (Write m w took ok ∷ es) j n lt has beside is c left = synced_alone base blocks es (Write m w took ok ∷ j) n lt has beside.1 is c left
synced_alone base blocks (Read m ok ∷ es) j n lt has beside is c left = synced_alone base blocks es (Read m ok ∷ j) n lt has beside is c left
synced_alone base blocks (Out bytes ∷ es) j n lt has beside is c left = synced_alone base blocks es (Out bytes ∷ j) n lt has beside is c left
synced_alone base blocks (Sync false ∷ es) j n lt has beside is c left = synced_alone base blocks es (Sync false ∷ j) n lt has beside is c left
synced_alone base blocks (Sync true ∷ es) j n lt has beside is c left =
    may_beside base blocks es (Sync true ∷ j) n lt has beside c left ∙ sym (current_beside base blocks es (Sync true ∷ j) n has beside)

settled_same : {A : Type 0} (f : Object → A) → ((r q : Raw) → f (Objects.raw r) ≡ f (Objects.raw q)) → (o : Object) → f (settled o) ≡ f o
settled_same f raws (Objects.raw r) = raws _ r
settled_same f raws _ = refl

abbrev settle : Held → Held
settle g = holding (settled g.object) g

-- a step that leaves a count of each object leaves their sum
pub same_total : (step : Object → Object) (f : Object → ℕ) → ((o : Object) → f (step o) ≡ f o) → (hs : List Held) → total (λ g. f g.object) (map (λ g. holding (step g.object) g) hs) ≡ total (λ g. f g.object) hs
same_total step f same [] = refl
same_total step f same (g ∷ gs) = omega (arith, same g.object, same_total step f same gs)

module _ (x : Around) (h : Holds x)
    (alone : (l : List ℕ) (t : Slot) → slot_at x l ≡ Some t → (k : ℕ) → k < length t.blocks → (c : List ℕ) → MayStand x.history (get_or t.blocks k 0) c → c ≡ block (current x.history.base x.history.journal) (get_or t.blocks k 0)) where
  abbrev y : Around
  y = record x { machine = each_object settled x.machine }

  keeps : Keeps any_label any_label any_piece x y
  keeps = record {
    now = omega arith;
    numbers = λ i g is. is;
    frames = refl;
    base = refl;
    bytes = λ p rests. refl;
    granted = λ l c i is old. is;
    spread = λ i g a old is. spread_same x.areas g a is;
    labels = λ l c named is. is;
    places = λ l c named is its. refl;
    logs = λ s l d c card same at named is its there on. stays_same d.grant card (x.tables.cards c.key) (x.tables.cards c.key) refl there;
    buffers = λ l c same is its. refl;
    cards = λ l c same is its. refl;
    nets = λ l c same is its. refl;
    doors = λ l c same is its. refl;
    rates = λ l c same is its. refl;
    sockets = λ l c same is its. refl;
    rules = λ l c same is its. refl;
    areas = λ l c same is its. refl;
    slots = λ l same. refl;
    history = λ l t same is. same_history x.history t.blocks;
    lent = λ l same. same_total settled (uses l) (settled_same (uses l) (λ r q. refl)) x.machine.held;
    opened = λ l same. same_total settled (λ o. bit (is_open_on l o)) (settled_same (λ o. bit (is_open_on l o)) (λ r q. refl)) x.machine.held;
    socketed = λ l same. same_total settled (λ o. bit (is_socket_on l o)) (settled_same (λ o. bit (is_socket_on l o)) (λ r q. refl)) x.machine.held;
  }

  -- each object may change
  changes : Keeps (λ l. false) any_label any_piece x y
  changes = record {
    now = keeps.now;
    numbers = keeps.numbers;
    frames = refl;
    base = refl;
    bytes = keeps.bytes;
    granted = keeps.granted;
    spread = keeps.spread;
    labels = keeps.labels;
    places = keeps.places;
    logs = λ s l d c card same. absurd (false≢true same);
    buffers = λ l c same is its. refl;
    cards = λ l c same is its. refl;
    nets = λ l c same is its. refl;
    doors = λ l c same is its. refl;
    rates = λ l c same is its. refl;
    sockets = λ l c same is its. refl;
    rules = λ l c same is its. refl;
    areas = λ l c same is its. refl;
    slots = λ l same. refl;
    history = λ l t same is. same_history x.history t.blocks;
    lent = λ l same. keeps.lent l refl;
    opened = λ l same. keeps.opened l refl;
    socketed = λ l same. keeps.socketed l refl;
  }

  raw_settled : (l : List ℕ) (t : Slot) (r : Raw) → slot_at x l ≡ Some t → IsRaw x.history t.blocks r → IsRaw x.history t.blocks (record r { maybe = map (λ b. b ∷ []) r.content })
  raw_settled l t r there is = record {
    size = is.size;
    content = is.content;
    choices = length-map r.content (λ b. b ∷ []) ∙ is.size;
    maybe = λ k lt c left.
        let stands : c ≡ get_or r.content k [] = alone l t there k lt c left ∙ sym (is.content k lt) in
        subst (λ (cs : List (List ℕ)). Contains cs c) (sym (get_or-map (λ b. b ∷ []) r.content k [] [] (omega (arith, is.size, lt)))) (0, omega arith, sym stands);
  }

  fits_settled : (l : List ℕ) (c : Capability) (o : Object) → value_at x.labels l ≡ Some c → IsObjectOf x l c o → IsObjectOf y l c (settled o)
  fits_settled l c (Objects.raw r) at f = record {
    slot = f.slot;
    its_kind = f.its_kind;
    kept = f.kept;
    there = f.there;
    raw = f.raw;
    fits = raw_settled l f.slot r f.there f.fits;
  }
  fits_settled l c (Objects.log g) at f = fits_kept any_label any_label any_piece x y keeps l c (Objects.log g) refl at (within (Objects.log g)) f
  fits_settled l c (Objects.vsic v) at f = fits_kept any_label any_label any_piece x y keeps l c (Objects.vsic v) refl at (within (Objects.vsic v)) f
  fits_settled l c (Objects.vnic v) at f = fits_kept any_label any_label any_piece x y keeps l c (Objects.vnic v) refl at (within (Objects.vnic v)) f
  fits_settled l c (Objects.filter r on) at f = fits_kept any_label any_label any_piece x y keeps l c (Objects.filter r on) refl at (within (Objects.filter r on)) f
  fits_settled l c (Objects.door d) at f = fits_kept any_label any_label any_piece x y keeps l c (Objects.door d) refl at (within (Objects.door d)) f
  fits_settled l c (Objects.rate q b) at f = fits_kept any_label any_label any_piece x y keeps l c (Objects.rate q b) refl at (within (Objects.rate q b)) f
  fits_settled l c (Objects.buffer b) at f = fits_kept any_label any_label any_piece x y keeps l c (Objects.buffer b) refl at (within (Objects.buffer b)) f
  fits_settled l c (Objects.socket k) at f = fits_kept any_label any_label any_piece x y keeps l c (Objects.socket k) refl at (within (Objects.socket k)) f

  pub settles : Holds y
  settles = turned x y h settle (λ l. false) any_piece changes (λ g. refl) (λ g. refl) (λ p g same inn m. absurd (false≢true same))
      (λ p g same inn at m. fits_settled p.0 p.1 g.object at m.object) refl refl refl refl refl (λ k. refl)
      (λ j. same_total settled (object_covers j) (settled_same (object_covers j) (λ r q. refl)) x.machine.held ∙ h.taken j)
