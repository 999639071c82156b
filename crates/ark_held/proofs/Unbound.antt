-- What is given up ends with it: no card is bound to an area that goes.
use Rattle.std.proofs.Common.{◌≡◌, ℕ, Bool, true, false, not, cond, List, [], ◌∷◌, nat_eq, refl, sym, ◌∙◌, ap, subst, arith, eqb-true}
use Rattle.std.specs.Prelude.{Option, Some, None, ◌==◌, option_map, slice_get, filter as select, unwrap_or}
use Rattle.std.proofs.lemmas.Bool.{false≢true}
use Rattle.std.proofs.lemmas.Bool.Decides.{nat_tests}
use Rattle.ark_filters.specs.declared.filter.Filter.{Filter}
use Rattle.ark_caps.specs.Labels.{others, value_at}
use Rattle.ark_caps.specs.declared.capability.CapKind.{CapKind}
use Rattle.ark_caps.specs.declared.capability.CapKind.TheVariants as cap_kind
use Rattle.ark_caps.specs.declared.capability.Capability.{Capability}
use Rattle.ark_region.specs.Frames.{Space}
use Rattle.ark_objects.specs.Held.{at as key_at}
use Rattle.ark_vic.specs.declared.door.Counts.{Counts}
use Rattle.ark_vsic.specs.Card.{bound_without}
use Rattle.ark_machine.specs.Objects
use Rattle.ark_machine.specs.Objects.{Object, Vsic}
use Rattle.ark_machine.specs.Machine.{holding, each_object}
use Rattle.ark_machine.specs.Control.{is_open_on, is_socket_on, lets_go}
use Rattle.ark_held.specs.Totals.{bit, total, uses, object_covers}
use Rattle.ark_held.specs.Kept.{CardKept, NetKept, Tables}
use Rattle.ark_held.specs.Stored.{buffer_kept}
use Rattle.ark_held.specs.Rings.{kept_card, card_kept, unbound}
use Rattle.ark_held.specs.Pacing.{rate_kept}
use Rattle.ark_held.specs.Nets.{net_kept}
use Rattle.ark_held.specs.Beyond.{tables_of}
use Rattle.std.specs.Map.{lookup}
use Rattle.ark_held.specs.Words.{without_area}
use Rattle.ark_held.specs.declared.allowance.Allowance.{Allowance}
use Rattle.ark_held.specs.declared.app.App.{App}
use Rattle.ark_held.specs.declared.buffer.Buffer.{Buffer}
use Rattle.ark_held.specs.declared.card.StorageCard.{StorageCard}
use Rattle.ark_held.specs.declared.devices.Devices.{Devices}
use Rattle.ark_held.specs.declared.nets.Nets.{Nets}
use Rattle.ark_held.specs.declared.store.Store.{Store}
use Rattle.ark_held.specs.Around.{Around, IsGranted, Each, Both}
use Rattle.ark_held.specs.Cards.{IsJob, IsEnded}
use Rattle.ark_held.specs.Held.{IsObjectOf, Holds}
use Rattle.ark_held.specs.Keeps.{Keeps, JobWithin, Within, any_label, any_piece}
use Rattle.ark_held.proofs.Lists.{by_test, name_other, not_some, some_same, each_kept}
use Rattle.ark_held.proofs.Besides.{same_history}
use Rattle.ark_held.proofs.Keeping.{fits_kept, job_kept, ended_kept, paced_kept, watched_kept}
use Rattle.ark_held.proofs.Spreading.{spread_same}
use Rattle.ark_held.proofs.Settling.{same_total}
use Rattle.ark_held.proofs.Staying.{within}
use Rattle.ark_held.proofs.Turning.{turned}
use Rattle.ark_held.proofs.Opens.{still_bound}

-- a card without the area of a grant among those that are bound
abbrev pub unbound_kept : ℕ → CardKept → CardKept
unbound_kept grant k = record k { bound = bound_without grant k.bound }

abbrev pub unbound_tables : ℕ → Tables → Tables
unbound_tables grant t = record t { cards = λ key. option_map (unbound_kept grant) (t.cards key) }

-- what counts neither the areas of cards nor the card of a filter stays
same_count : {A : Type 0} (f : Object → A) → ((v : Vsic) (bound : List ℕ) → f (Objects.vsic (record v { bound = bound })) ≡ f (Objects.vsic v)) → ((r : Filter) (on now : Option (List ℕ)) → f (Objects.filter r now) ≡ f (Objects.filter r on))
    → (l : List ℕ) (n : ℕ) (o : Object) → f (lets_go l n o) ≡ f o
same_count f cards filters l n (Objects.filter r (Some v)) = filters r (Some v) _
same_count f cards filters l n (Objects.filter r None) = refl
same_count f cards filters l n (Objects.vsic v) = cards v _
same_count f cards filters l n (Objects.raw z) = refl
same_count f cards filters l n (Objects.log z) = refl
same_count f cards filters l n (Objects.vnic z) = refl
same_count f cards filters l n (Objects.door z) = refl
same_count f cards filters l n (Objects.rate z q) = refl
same_count f cards filters l n (Objects.buffer z) = refl
same_count f cards filters l n (Objects.socket z) = refl

-- the grants that are bound, by the numbers of their objects
each_without : (numbers : List ℕ) (n grant : ℕ) → slice_get numbers n ≡ Some grant → ((i j g : ℕ) → slice_get numbers i ≡ Some g → slice_get numbers j ≡ Some g → i ≡ j) → (gs ns : List ℕ)
    → Each (λ g s. slice_get numbers s ≡ Some g) gs ns → Each (λ g s. slice_get numbers s ≡ Some g) (bound_without grant gs) (select (λ b. not (b == n)) ns)
each_without numbers n grant is one [] [] e = tt
each_without numbers n grant is one (g ∷ gs) (s ∷ ns) e =
    by_test (λ t. (g == grant) ≡ t → Each (λ g s. slice_get numbers s ≡ Some g) (cond (not t) (g ∷ bound_without grant gs) (bound_without grant gs)) (cond (not (s == n)) (s ∷ select (λ b. not (b == n)) ns) (select (λ b. not (b == n)) ns))) (g == grant)
    (λ yes q.
    let same : s ≡ n = one s n grant (e.0 ∙ ap (λ (k : ℕ). Some k) (eqb-true g grant q)) is in
    let eq : (s == n) ≡ true = grind (arith, nat_tests, same) in
    subst (λ t. Each (λ g s. slice_get numbers s ≡ Some g) (bound_without grant gs) (cond (not t) (s ∷ select (λ b. not (b == n)) ns) (select (λ b. not (b == n)) ns))) (sym eq) (each_without numbers n grant is one gs ns e.1))
    (λ no q.
    let eq : (s == n) ≡ false = by_test (λ t. (s == n) ≡ t → t ≡ false) (s == n)
    (λ same r.
    let both : g ≡ grant = some_same (slice_get numbers s) g grant e.0 (ap (λ (k : ℕ). slice_get numbers k) (eqb-true s n r) ∙ is) in
    let yes : (g == grant) ≡ true = grind (arith, nat_tests, both) in absurd (false≢true (sym q ∙ yes)))
    (λ other r. refl) refl in
    subst (λ t. Each (λ g s. slice_get numbers s ≡ Some g) (g ∷ bound_without grant gs) (cond (not t) (s ∷ select (λ b. not (b == n)) ns) (select (λ b. not (b == n)) ns))) (sym eq) (e.0, each_without numbers n grant is one gs ns e.1)) refl
each_without numbers n grant is one [] (s ∷ ns) e = absurd e
each_without numbers n grant is one (g ∷ gs) [] e = absurd e

abbrev no_card : CapKind → Bool
no_card cap_kind.Vsic = false
no_card _ = true

module _ (x : Around) (h : Holds x) (l : List ℕ) (n grant : ℕ) (numbered : slice_get x.numbers n ≡ Some grant) (absent : value_at x.labels l ≡ None)
    (gone : (k : List ℕ) (c : Capability) → value_at x.labels k ≡ Some c → c.grant ≡ grant → ⊥) where
  abbrev pub unbound_around : Around
  unbound_around = record x { tables = unbound_tables grant x.tables; machine = each_object (lets_go l n) x.machine }

  abbrev y : Around
  y = unbound_around

  keeps : (same : List ℕ → Bool) → ((k : List ℕ) (c : Capability) → same k ≡ true → value_at x.labels k ≡ Some c → c.kind ≡ cap_kind.Vsic → ⊥) → Keeps same any_label any_piece x y
  keeps same none = record {
    now = omega arith;
    numbers = λ i g is. is;
    frames = refl;
    base = refl;
    bytes = λ p rests. refl;
    granted = λ k c i is old. is;
    spread = λ i g a old is. spread_same x.areas g a is;
    labels = λ k c named is. is;
    places = λ k c named is its. refl;
    logs = λ s k d c card stays at named is its there on. record {
      card = unbound_kept grant card;
      there = ap (λ (o : Option CardKept). option_map (unbound_kept grant) o) there;
      log = refl;
      ring = refl;
      bound = still_bound d.grant grant (gone s d at) card.bound;
    };
    buffers = λ k c stays is its. refl;
    cards = λ k c stays is its. absurd (none k c stays is its);
    nets = λ k c stays is its. refl;
    doors = λ k c stays is its. refl;
    rates = λ k c stays is its. refl;
    sockets = λ k c stays is its. refl;
    rules = λ k c stays is its. refl;
    areas = λ k c stays is its. refl;
    slots = λ k stays. refl;
    history = λ k t stays is. same_history x.history t.blocks;
    lent = λ k stays. counts (uses k) (λ v bound. refl) (λ r on now. refl);
    opened = λ k stays. counts (λ o. bit (is_open_on k o)) (λ v bound. refl) (λ r on now. refl);
    socketed = λ k stays. counts (λ o. bit (is_socket_on k o)) (λ v bound. refl) (λ r on now. refl);
  }
    where
      counts : (f : Object → ℕ) → ((v : Vsic) (bound : List ℕ) → f (Objects.vsic (record v { bound = bound })) ≡ f (Objects.vsic v)) → ((r : Filter) (on now : Option (List ℕ)) → f (Objects.filter r now) ≡ f (Objects.filter r on))
          → total (λ g. f g.object) y.machine.held ≡ total (λ g. f g.object) x.machine.held
      counts f cards filters = same_total (lets_go l n) f (same_count f cards filters l n) x.machine.held

  -- each object may change
  changes : Keeps (λ k. false) any_label any_piece x y
  changes = keeps (λ k. false) (λ k c same. absurd (false≢true same))

  is_other : List ℕ → Bool
  is_other k = unwrap_or (option_map (λ (c : Capability). no_card c.kind) (value_at x.labels k)) true

  all_others : Keeps is_other any_label any_piece x y
  unfolding is_other
  all_others = keeps is_other (λ k c same is its. false≢true (sym (ap (λ (o : Option Capability). unwrap_or (option_map (λ (c : Capability). no_card c.kind) o) true) is ∙ ap no_card its) ∙ same))

  other : (k : List ℕ) (c : Capability) (kind : CapKind) → value_at x.labels k ≡ Some c → c.kind ≡ kind → no_card kind ≡ true → is_other k ≡ true
  unfolding is_other
  other k c kind is its plain = ap (λ (o : Option Capability). unwrap_or (option_map (λ (c : Capability). no_card c.kind) o) true) is ∙ ap no_card its ∙ plain

  stays : (k : List ℕ) (c : Capability) (o : Object) (kind : CapKind) → value_at x.labels k ≡ Some c → c.kind ≡ kind → no_card kind ≡ true → IsObjectOf x k c o → IsObjectOf y k c o
  stays k c o kind is its plain f = fits_kept is_other any_label any_piece x y all_others k c o (other k c kind is its plain) is (within o) f

  -- the filter of a card that stays is as it was
  lets_filter : (f : Filter) (given : Option ℕ) (on : Option (List ℕ)) → Both (λ g v. IsGranted x v cap_kind.Vnic g) given on → lets_go l n (Objects.filter f on) ≡ Objects.filter f on
  lets_filter f None None is = refl
  lets_filter f (Some g) (Some v) is = ap (λ b. Objects.filter f (cond b None (Some v))) (name_other l v (λ e. not_some (value_at x.labels v) is.cap (ap (λ k. value_at x.labels k) (sym e) ∙ absent) is.there))
  lets_filter f None (Some v) is = absurd is
  lets_filter f (Some g) None is = absurd is

  fits_unbound : (k : List ℕ) (c : Capability) (o : Object) → value_at x.labels k ≡ Some c → IsObjectOf x k c o → IsObjectOf y k c (lets_go l n o)
  fits_unbound k c (Objects.vsic v) at f = record {
    its_kind = f.its_kind;
    card = unbound_kept grant f.card;
    kept = ap (λ o. option_map (unbound_kept grant) o) f.kept;
    size = f.size;
    posted = each_kept (IsJob x f.card.log) (IsJob y f.card.log) (JobWithin any_label any_piece) (job_kept (λ k. false) any_label any_piece x y changes f.card.log) f.card.ring.posted v.queue.posted (all v).0 f.posted;
    unreaped = each_kept (IsEnded x f.card.log) (IsEnded y f.card.log) (λ u. JobWithin any_label any_piece u.0) (ended_kept (λ k. false) any_label any_piece x y changes f.card.log) f.card.ring.unreaped v.queue.unreaped (all v).1 f.unreaped;
    moved = f.moved;
    bound = each_without x.numbers n grant numbered h.one f.card.bound v.bound f.bound;
    pace = paced_kept (λ k. false) any_label any_piece x y changes f.card.pace v.pace (all v).2 f.pace;
    door = watched_kept (λ k. false) any_label any_piece x y changes f.card.door v.door (all v).3 f.door;
    log = f.log ∙ sym (same_total (lets_go l n) (λ o. bit (is_open_on k o)) (same_count (λ o. bit (is_open_on k o)) (λ v bound. refl) (λ r on now. refl) l n) x.machine.held);
    phases = f.phases;
  }
    where
      all : (w : Vsic) → Within any_label any_piece (Objects.vsic w)
      all w = within (Objects.vsic w)
  fits_unbound k c (Objects.filter r on) at f = subst (λ (o : Object). IsObjectOf y k c o) (sym (lets_filter r f.live.vnic on f.card)) (stays k c (Objects.filter r on) cap_kind.Filter at f.its_kind refl f)
  fits_unbound k c (Objects.raw z) at f = stays k c (Objects.raw z) cap_kind.Vsa at f.its_kind refl f
  fits_unbound k c (Objects.log z) at f = stays k c (Objects.log z) cap_kind.Vsa at f.its_kind refl f
  fits_unbound k c (Objects.vnic z) at f = stays k c (Objects.vnic z) cap_kind.Vnic at f.its_kind refl f
  fits_unbound k c (Objects.door z) at f = stays k c (Objects.door z) cap_kind.Door at f.its_kind refl f
  fits_unbound k c (Objects.rate z q) at f = stays k c (Objects.rate z q) cap_kind.Rate at f.its_kind refl f
  fits_unbound k c (Objects.buffer z) at f = stays k c (Objects.buffer z) cap_kind.Buf at f.its_kind refl f
  fits_unbound k c (Objects.socket z) at f = stays k c (Objects.socket z) cap_kind.Sock at f.its_kind refl f

  -- the machine holds all else
  pub unbound_all : Holds y
  unbound_all = turned x y h (λ g. holding (lets_go l n g.object) g) (λ k. false) any_piece changes (λ g. refl) (λ g. refl) (λ p g same inn m. absurd (false≢true same))
      (λ p g same inn at m. fits_unbound p.0 p.1 g.object at m.object) refl refl refl refl refl (λ k. refl)
      (λ j. same_total (lets_go l n) (object_covers j) (same_count (object_covers j) (λ v bound. refl) (λ r on now. refl) l n) x.machine.held ∙ h.taken j)

-- A card with an area less, as tables keep it.
pub kept_unbound : (grant : ℕ) (o : Option StorageCard) → option_map kept_card (option_map (unbound grant) o) ≡ option_map (unbound_kept grant) (option_map kept_card o)
kept_unbound grant None = refl
kept_unbound grant (Some c) = refl

-- the tables once no card has the area bound
pub tables_unbound : (s t : Store) (d e : Devices) (grant : ℕ) (f : ℕ → Option CardKept) (g : ℕ → Option Counts) (q : ℕ → Option (ℕ × ℕ)) (n : ℕ → Option NetKept) → s.region ≡ t.region → s.buffers ≡ t.buffers → ((key : ℕ) → card_kept d.cards key ≡ option_map (unbound_kept grant) (f key)) → ((key : ℕ) → key_at d.doors key ≡ g key)
    → ((key : ℕ) → rate_kept d.rates key ≡ q key) → ((key : ℕ) → net_kept d.nets.cards key ≡ n key) → tables_of s d ≡ unbound_tables grant (record (tables_of t e) { cards = f; doors = g; rates = q; nets = n })
tables_unbound s t d e grant f g q n region buffers cards doors rates nets =
    ap (λ (z : Space). record (tables_of s d) { memory = z }) region
    ∙ ap (λ (b : List (Option Buffer)). record (tables_of t d) { buffers = buffer_kept b }) buffers
    ∙ ap (λ (c : ℕ → Option CardKept). record (tables_of t d) { cards = c }) (λ i key. (cards key) i)
    ∙ ap (λ (c : ℕ → Option Counts). record (unbound_tables grant (record (tables_of t d) { cards = f })) { doors = c }) (λ i key. (doors key) i)
    ∙ ap (λ (c : ℕ → Option (ℕ × ℕ)). record (unbound_tables grant (record (tables_of t d) { cards = f; doors = g })) { rates = c }) (λ i key. (rates key) i)
    ∙ ap (λ (c : ℕ → Option NetKept). record (unbound_tables grant (record (tables_of t e) { cards = f; doors = g; rates = q })) { nets = c }) (λ i key. (nets key) i)

-- What an application has lost once it gave up the area of a grant under a label.
pub record LosesArea (app app1 : App) (l : List ℕ) (grant : ℕ) : Type 0 where
  pub labels : app1.labels ≡ others l app.labels
  pub areas : app1.areas ≡ without_area app.areas grant
  pub gone : lookup (nat_eq grant) app1.areas ≡ None
  pub cards : (k : ℕ) → key_at app1.devices.cards k ≡ option_map (unbound grant) (key_at app.devices.cards k)
  pub doors : app1.devices.doors ≡ app.devices.doors
  pub rates : app1.devices.rates ≡ app.devices.rates
  pub nets : app1.devices.nets ≡ app.devices.nets
  pub name : app1.name ≡ app.name
  pub region : app1.store.region ≡ app.store.region
  pub buffers : app1.store.buffers ≡ app.store.buffers

-- its tables then; the area's label had a capability of this grant
pub area_tables : (app app1 : App) (l : List ℕ) (grant was : ℕ) → was ≡ grant → LosesArea app app1 l grant → tables_of app1.store app1.devices ≡ unbound_tables was (tables_of app.store app.devices)
area_tables app app1 l grant was is loses = tables_unbound app1.store app.store app1.devices app.devices was (card_kept app.devices.cards) (key_at app.devices.doors) (rate_kept app.devices.rates) (net_kept app.devices.nets.cards) loses.region loses.buffers
    (λ k. ap (λ o. option_map kept_card o) (subst (λ (n : ℕ). key_at app1.devices.cards k ≡ option_map (unbound n) (key_at app.devices.cards k)) (sym is) (loses.cards k)) ∙ kept_unbound was (key_at app.devices.cards k))
    (λ k. ap (λ (z : List (Option Counts)). key_at z k) loses.doors) (λ k. ap (λ (z : List (Option Allowance)). rate_kept z k) loses.rates) (λ k. ap (λ (z : Nets). net_kept z.cards k) loses.nets)
