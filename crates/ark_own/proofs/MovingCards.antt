-- The row of `dev`: one move of a storage card.
use Rattle.std.proofs.Common.{◌≡◌, inl, ℕ, true, false, not, ◌&&◌, List, [], ◌∷◌, refl, sym, ◌∙◌, ap, subst}
use Rattle.std.specs.Prelude.{Option, Some, None, Ok, Err, IfSome, is_some, is_none, option_map}
use Rattle.std.proofs.lemmas.Bool.{false≢true}
use Rattle.ark_base.specs.Conditions.{Conditions, none, early}
use Rattle.ark_base.specs.declared.refusal.Refusal.{Refusal}
use Rattle.ark_base.specs.declared.refusal.Refusal.TheVariants as refusal
use Rattle.ark_media.specs.Journal.{Event}
use Rattle.ark_media.specs.Calls.{Told, Makes}
use Rattle.ark_media.specs.Standing.{after}
use Rattle.ark_media.proofs.Planning.{makes_devices}
use Rattle.ark_extents.specs.Blocks.{AreDistinct}
use Rattle.ark_script.specs.declared.said.Said.TheVariants as said
use Rattle.ark_caps.specs.Labels.{value_at}
use Rattle.ark_caps.specs.declared.capability.Capability.{Capability}
use Rattle.ark_caps.specs.declared.capability.CapKind.TheVariants as cap_kind
use Rattle.ark_objects.specs.Held.{at as slot, Changes}
use Rattle.ark_vic.specs.Pace.{Pace}
use Rattle.ark_vsic.specs.Card.{Card, head_of}
use Rattle.ark_vsic.specs.Moves.{due_of, calls_of, answer_of, worked, Leaves, CanMove, pace_after, ring_after}
use Rattle.ark_vsic.specs.declared.due.Due.{Due}
use Rattle.ark_vsic.specs.declared.due.Due.TheVariants as due
use Rattle.ark_vsic.specs.declared.due.Moved.{Moved}
use Rattle.ark_machine.specs.Objects
use Rattle.ark_machine.specs.Objects.{Object, Vsic, Vnic}
use Rattle.ark_machine.specs.Machine.{Machine, Held, at, missing, vsic_at, vnic_at}
use Rattle.ark_machine.specs.Devices as devices
use Rattle.ark_machine.specs.Moves.{Move, move, row_of, first_end}
use Rattle.ark_machine.specs.Row.{Row, Given, Ended, answer}
use Rattle.ark_machine.specs.Follow.{ends_of}
use Rattle.ark_held.specs.Words.{Labels, AreaList}
use Rattle.ark_held.specs.Kept.{CardKept, PaceKept, Tables}
use Rattle.ark_held.specs.Stored.{buffer_kept}
use Rattle.ark_held.specs.Rings.{kept_card, card_kept}
use Rattle.ark_held.specs.Pacing.{rate_kept}
use Rattle.ark_held.specs.Nets.{net_kept}
use Rattle.ark_held.specs.Around.{Around, Both}
use Rattle.ark_held.specs.Cards.{IsWatched}
use Rattle.ark_held.specs.Held.{IsObjectOf, Holds, is_net}
use Rattle.ark_held.specs.Beyond.{Beyond, around, tables_of}
use Rattle.ark_held.specs.Does.{ActsAt, Acts}
use Rattle.ark_held.specs.Moving.{card_of, blocks_held, pace_moved, card_moved, vsic_moved, said_of, area_named}
use Rattle.ark_held.specs.Ringing.{IsWatching, RingsAt}
use Rattle.ark_held.specs.declared.allowance.Allowance.{Allowance}
use Rattle.ark_held.specs.declared.app.App.{App}
use Rattle.ark_held.specs.declared.nets.Nets.{Nets}
use Rattle.ark_held.specs.declared.buffer.Buffer.{Buffer}
use Rattle.ark_held.specs.declared.card.StorageCard.{StorageCard}
use Rattle.ark_held.proofs.Finding.{stands_at}
use Rattle.ark_held.proofs.Doing.{refused_first, refuses, never, IsBased, in_base}
use Rattle.ark_held.proofs.Ending.{OnCard, on_card}
use Rattle.ark_held.proofs.Carrying.{WasMoved, carried}
use Rattle.ark_held.proofs.MovedCard.{carries}
use Rattle.ark_own.specs.Keys.{card_key}
use Rattle.ark_own.proofs.OfNets.{other_kind}
use Rattle.ark_own.proofs.OfCards.{HasCard, HasNone, found_card, its, never_gone}

abbrev conditions : Machine → List ℕ → Conditions
conditions m l = record none { no_application = not m.made; no_grant = missing m (l ∷ []); wrong_kind = is_none (vsic_at m l) && is_none (vnic_at m l) }

abbrev row : List ℕ → Machine → Given → Row
row l m g = devices.dev m l g

-- Why there is none.
module _ (r : Beyond) (app : App) (l : List ℕ) where
  why : Holds (around r app) → is_net (value_at app.labels l) ≡ false → (e : Refusal) → HasNone (around r app) l e → early (conditions r.machine l) ≡ Some e
  why holds other (refusal.NoGrant k) h = let made = holds.made in rw (h.0, made, h.1) refl
  why holds other refusal.WrongKind h = let made = holds.made in let net = other_kind (around r app) holds l other h.0 h.1 in rw (made, h.1, h.2, net) refl
  why holds other _ h = absurd h

accepted : (m : Machine) (l : List ℕ) (h : Held) (v : Vsic) (z : Move) → m.made ≡ true → at m l ≡ Some h → h.object ≡ Objects.vsic v → answer m (conditions m l) (row_of z) ≡ row_of z
unfolding answer
accepted m l h v z made there object = rw (made, there, object) refl

moves_row : (m : Machine) (l : List ℕ) (g : Given) (h : Held) (v : Vsic) → m.made ≡ true → at m l ≡ Some h → h.object ≡ Objects.vsic v → row l m g ≡ row_of (move m l (first_end g.ended))
moves_row m l g h v made there object =
    let no_vnic : vnic_at m l ≡ None = rw (there, object) refl in
    ap (λ (o : Option Vnic). answer m (conditions m l) (row_of (devices.card_moves m l g o))) no_vnic ∙ accepted m l h v (move m l (first_end g.ended)) made there object

-- A card's door is there.
module _ (r : Beyond) (app : App) (holds : Holds (around r app)) where
  door_of : (l : List ℕ) (c : Capability) (o : Object) → IsObjectOf (around r app) l c o → c.kind ≡ cap_kind.Door → is_some (slot app.devices.doors c.key) ≡ true
  door_of l c (Objects.door z) f kind = ap is_some f.kept
  door_of l c (Objects.raw z) f kind = absurd (cc (kind, f.its_kind))
  door_of l c (Objects.log z) f kind = absurd (cc (kind, f.its_kind))
  door_of l c (Objects.vsic z) f kind = absurd (cc (kind, f.its_kind))
  door_of l c (Objects.vnic z) f kind = absurd (cc (kind, f.its_kind))
  door_of l c (Objects.filter z y) f kind = absurd (cc (kind, f.its_kind))
  door_of l c (Objects.rate z y) f kind = absurd (cc (kind, f.its_kind))
  door_of l c (Objects.buffer z) f kind = absurd (cc (kind, f.its_kind))
  door_of l c (Objects.socket z) f kind = absurd (cc (kind, f.its_kind))

  -- a door that watches is there
  pub watching : (key : Option ℕ) (door : Option (List ℕ)) → Both (IsWatched (around r app)) key door → IsWatching key (slot app.devices.doors)
  watching None None both = tt
  watching (Some key) (Some l) both =
      let s = stands_at (around r app) l both.cap holds both.there in
      subst (λ (i : ℕ). is_some (slot app.devices.doors i) ≡ true) both.its_key (door_of l both.cap s.held.object s.matches.object both.its_kind)
  watching None (Some l) both = absurd both
  watching (Some key) None both = absurd both

-- A card as a table keeps it.

abbrev pub as_kept : ℕ → Pace → PaceKept
as_kept rate p = record { rate = rate; pace = p }

pub pace_back : (rate : ℕ) (p : Option Pace) → option_map (λ k. k.pace) (option_map (as_kept rate) p) ≡ p
pace_back rate None = refl
pace_back rate (Some p) = refl

pace_same : (rate : ℕ) (p : Option Pace) (y : Due) (now : ℕ) → option_map (as_kept rate) (pace_after p y now) ≡ pace_moved (option_map (as_kept rate) p) y now
pace_same rate None (due.Block n) now = refl
pace_same rate (Some p) (due.Block n) now = refl
pace_same rate p due.Nothing now = refl
pace_same rate p due.Waits now = refl
pace_same rate p (due.Ends o) now = refl
pace_same rate p due.Sync now = refl

module _ (t : Told) (app : App) (l : List ℕ) where
  pub dev_no_key : is_net (value_at app.labels l) ≡ false → (e : Refusal) → Err e ≡ card_key app.labels l → Acts t app app (row l) [] (said.Refused e) []
  dev_no_key other e is = refuses t app (row l) e (λ r g sited h. refused_first r.machine (conditions r.machine l) _ e (why r app l h other e (found_card (around r app) l h (Err e) is)))

  module _ (key : ℕ) (is : Ok key ≡ card_key app.labels l) (app1 : App) where
    pub dev_no_card : (e : Refusal) → slot app.devices.cards key ≡ None → Acts t app app1 (row l) [] (said.Refused e) []
    dev_no_card e gone = never t app app1 (row l) (said.Refused e) [] (λ r h. never_gone app l key is r h gone)

    module _ (one : StorageCard) (here : slot app.devices.cards key ≡ Some one) (now : ℕ) (es : List Event) (a : Moved) (based : IsBased t)
        (makes : Makes (calls_of one.vsic (due_of one.vsic (blocks_held app.areas) now) app.store.region) (worked a) es) (answered : a ≡ answer_of one.vsic (due_of one.vsic (blocks_held app.areas) now) (worked a))
        (leaves : Leaves one.vsic (due_of one.vsic (blocks_held app.areas) now) (worked a) t.history app.store.region app1.store.region)
        (changes : Changes app.devices.cards app1.devices.cards key (Some (record one { vsic = vsic_moved one.vsic (blocks_held app.areas) now a })))
        (rings : IsWatching one.door (slot app.devices.doors) → RingsAt a one.door (slot app.devices.doors) (slot app1.devices.doors))
        (sound : IfSome (head_of one.vsic.ring) (λ d. CanMove app.store.region.taken one.vsic.ring.moved d)) (distinct : IfSome (area_named (head_of one.vsic.ring) app.areas) (λ z. AreDistinct z.1))
        (labels : app1.labels ≡ app.labels) (rates : app1.devices.rates ≡ app.devices.rates) (nets : app1.devices.nets ≡ app.devices.nets) (areas : app1.areas ≡ app.areas) (buffers : app1.store.buffers ≡ app.store.buffers) (name : app1.name ≡ app.name) (taken : app1.store.region.taken ≡ app.store.region.taken) where
      module _ (r : Beyond) (tick : r.now ≡ now) (h : Holds (around r app)) where
        abbrev v : HasCard (around r app) l key
        v = its app l key is r h

        abbrev k : CardKept
        k = kept_card one

        on : OnCard (around r app) l v.cap k v.vsic
        on = on_card (around r app) l v.cap k v.vsic v.held h v.label v.fits.its_kind v.there v.object (ap (λ i. card_kept app.devices.cards i) v.key_is ∙ ap (λ (o : Option StorageCard). option_map kept_card o) here)

        same_card : card_of k ≡ one.vsic
        same_card = ap (λ (p : Option Pace). record one.vsic { pace = p }) (pace_back one.rate one.vsic.pace)

        abbrev what : Due
        what = due_of (card_of k) (blocks_held app.areas) r.now

        same_due : due_of one.vsic (blocks_held app.areas) now ≡ what
        same_due = ap (λ (c : Card). due_of c (blocks_held app.areas) now) (sym same_card) ∙ ap (λ (n : ℕ). due_of (card_of k) (blocks_held app.areas) n) (sym tick)

        same_pace : option_map (as_kept one.rate) (pace_after one.vsic.pace (due_of one.vsic (blocks_held app.areas) now) now) ≡ pace_moved k.pace what r.now
        same_pace =
            pace_same one.rate one.vsic.pace (due_of one.vsic (blocks_held app.areas) now) now
            ∙ ap (λ (y : Due). pace_moved k.pace y now) same_due
            ∙ ap (λ (n : ℕ). pace_moved k.pace what n) (sym tick)

        same_kept : kept_card (record one { vsic = vsic_moved one.vsic (blocks_held app.areas) now a }) ≡ card_moved k what a r.now
        same_kept = ap (λ (p : Option PaceKept). record k { ring = ring_after one.vsic.ring a; pace = p }) same_pace

        was_moved : WasMoved (around r app) v.cap.key k t.history es a app1.store.region (card_kept app1.devices.cards) (slot app1.devices.doors)
        was_moved = record {
          makes = subst (λ (c : Card). Makes (calls_of c what app.store.region) (worked a) es) (sym same_card) (subst (λ (y : Due). Makes (calls_of one.vsic y app.store.region) (worked a) es) same_due makes);
          answer_is = answered ∙ ap (λ (y : Due). answer_of one.vsic y (worked a)) same_due ∙ ap (λ (c : Card). answer_of c what (worked a)) (sym same_card);
          leaves = subst (λ (c : Card). Leaves c what (worked a) t.history app.store.region app1.store.region) (sym same_card)
              (subst (λ (y : Due). Leaves one.vsic y (worked a) t.history app.store.region app1.store.region) same_due leaves);
          taken = taken;
          sets = record {
            here = ap (λ i. card_kept app1.devices.cards i) v.key_is ∙ ap (λ (o : Option StorageCard). option_map kept_card o) changes.changed ∙ ap (λ (z : CardKept). Some z) same_kept;
            others = λ i other. ap (λ (o : Option StorageCard). option_map kept_card o) (changes.others i (λ e. other (e ∙ sym v.key_is)));
          };
          rings = rings (watching r app h one.door v.vsic.door on.fits.door);
        }

      pub dev_done : ActsAt now t app app1 (row l) es (said_of a) []
      dev_done grant = record {
        devices = makes_devices (calls_of one.vsic (due_of one.vsic (blocks_held app.areas) now) app.store.region) (worked a) es makes;
        does = λ r g tick came told fresh sited h.
            let m = move r.machine l (first_end (ends_of es)) in
            let done = carries (around r app) l (v r tick h).cap (k r tick h) (v r tick h).vsic (on r tick h) t.history es a app1.store.region (card_kept app1.devices.cards) (slot app1.devices.doors) (was_moved r tick h) told t.blocks sited
            (in_base r app t es told based sited) sound distinct in
            let is_row : row l r.machine g ≡ row_of m = moves_row r.machine l g (v r tick h).held (v r tick h).vsic h.made (v r tick h).there (v r tick h).object ∙ ap (λ (ends : List Ended). row_of (move r.machine l (first_end ends))) came in
            rw is_row (record {
              said = done.said;
              bytes = sym done.bytes;
              calls = done.calls;
              numbers = r.numbers;
              grown = λ i n at. inl at;
              holds = held_then r m.machine done.holds;
              logs = done.logs;
              areas = areas;
              name = name;
            });
      }
        where
          held_then : (r : Beyond) (n : Machine) → Holds (carried (around r app) es n app1.store.region (card_kept app1.devices.cards) (slot app1.devices.doors))
              → Holds (around (record r { history = after r.history es; machine = n }) app1)
          held_then r n done =
              let z : Around = around (record r { history = after r.history es; machine = n }) app1 in
              let same : tables_of app1.store app1.devices ≡ record (tables_of app1.store app1.devices) { buffers = buffer_kept app.store.buffers; rates = rate_kept app.devices.rates; nets = net_kept app.devices.nets.cards } =
              ap (λ (bs : List (Option Buffer)). record (tables_of app1.store app1.devices) { buffers = buffer_kept bs }) buffers
              ∙ ap (λ (rs : List (Option Allowance)). record (tables_of app1.store app1.devices) { buffers = buffer_kept app.store.buffers; rates = rate_kept rs }) rates
              ∙ ap (λ (ns : Nets). record (tables_of app1.store app1.devices) { buffers = buffer_kept app.store.buffers; rates = rate_kept app.devices.rates; nets = net_kept ns.cards }) nets in
              subst (λ (ls : Labels). Holds (record z { labels = ls })) (sym labels)
              (subst (λ (es : AreaList). Holds (record z { labels = app.labels; areas = es })) (sym areas)
              (subst (λ (t : Tables). Holds (record z { labels = app.labels; areas = app.areas; tables = t })) (sym same) done))

-- whether an object is there
pub some_there : {A : Type 0} (o : Option A) → is_none o ≡ false → (a : A) × (o ≡ Some a)
some_there (Some a) is = (a, refl)
some_there None is = absurd (false≢true (sym is))

pub none_there : {A : Type 0} (o : Option A) → is_none o ≡ true → o ≡ None
none_there None is = refl
none_there (Some a) is = absurd (false≢true is)
