-- Storage cards, as words on them come to their rows.
use Rattle.std.proofs.Common.{◌≡◌, ℕ, Bool, true, false, not, List, [], ◌∷◌, refl, sym, ◌∙◌, ap, subst, arith}
use Rattle.std.specs.Prelude.{Option, Some, None, Result, Ok, Err, is_some, is_none, option_map, nat_le, slice_get}
use Rattle.ark_base.specs.Conditions.{Conditions, none, early}
use Rattle.ark_base.specs.declared.refusal.Refusal.{Refusal}
use Rattle.ark_base.specs.declared.refusal.Refusal.TheVariants as r
use Rattle.ark_caps.specs.Labels.{value_at}
use Rattle.ark_caps.specs.declared.capability.Capability.{Capability}
use Rattle.ark_caps.specs.declared.capability.CapKind.{CapKind}
use Rattle.ark_caps.specs.declared.capability.CapKind.TheVariants as cap_kind
use Rattle.ark_objects.specs.Held.{at as slot, Changes}
use Rattle.ark_media.specs.Calls.{Told}
use Rattle.ark_script.specs.declared.said.Said.TheVariants as said
use Rattle.ark_vic.specs.Queue.{members}
use Rattle.ark_vic.specs.declared.door.Counts.{Counts}
use Rattle.ark_machine.specs.Objects
use Rattle.ark_machine.specs.Objects.{Object, Vsic, as_vsic, held_in}
use Rattle.ark_machine.specs.Machine.{Machine, Held, at, vsic_at, missing, with_object}
use Rattle.ark_machine.specs.Control.{has_log}
use Rattle.ark_machine.specs.Cards.{is_ring_full}
use Rattle.ark_machine.specs.Row.{Row, Given, answer}
use Rattle.ark_held.specs.Words.{Labels}
use Rattle.ark_held.specs.Totals.{bit, open_count}
use Rattle.ark_held.specs.Kept.{CardKept}
use Rattle.ark_held.specs.Rings.{kept_card, card_kept}
use Rattle.ark_held.specs.Pacing.{rate_kept}
use Rattle.ark_held.specs.Nets.{net_kept}
use Rattle.ark_held.specs.Around.{Around, Each, Both}
use Rattle.ark_held.specs.Cards.{HasPhases, IsCard, IsJob, IsEnded, IsPaced, IsWatched}
use Rattle.ark_held.specs.Held.{IsObjectOf, AtLabel, Holds, has_key}
use Rattle.ark_held.specs.Keeps.{Keeps, JobWithin, Within, any_label, any_piece, IsOpenOn, StaysOpen}
use Rattle.ark_held.specs.Beyond.{Beyond, around}
use Rattle.ark_held.specs.Does.{Acts}
use Rattle.ark_held.specs.declared.allowance.Allowance.{Allowance}
use Rattle.ark_held.specs.declared.app.App.{App}
use Rattle.ark_held.specs.declared.nets.Nets.{Nets}
use Rattle.ark_held.specs.declared.card.StorageCard.{StorageCard}
use Rattle.ark_held.proofs.Lists.{not_some, some_same, other_name, each_kept, each_all, each_length}
use Rattle.ark_held.proofs.Creating.{but}
use Rattle.ark_held.proofs.Granted.{not_but}
use Rattle.ark_held.proofs.Keeping.{job_kept, ended_kept, paced_kept, watched_kept}
use Rattle.ark_held.proofs.Staying.{within}
use Rattle.ark_held.proofs.Doing.{refused_first, refuses}
use Rattle.ark_held.proofs.Parts.{KeepsParts, CountsAlike, alter_keeps, alike_all, altered}
use Rattle.ark_held.proofs.Finding.{found}
use Rattle.ark_held.proofs.Lending.{log_is}
use Rattle.ark_held.proofs.ByKind.{card_of, no_card}
use Rattle.ark_held.proofs.Opens.{card_logs_by}
use Rattle.ark_own.specs.Keys.{card_key, card_under, key_if_card}

-- What is under a label.

pub record HasCard (x : Around) (l : List ℕ) (key : ℕ) : Type 0 where
  pub held : Held
  pub cap : Capability
  pub vsic : Vsic
  pub label : value_at x.labels l ≡ Some cap
  pub key_is : cap.key ≡ key
  pub there : at x.machine l ≡ Some held
  pub object : held.object ≡ Objects.vsic vsic
  pub fits : IsCard x l cap vsic

abbrev pub HasNone : Around → List ℕ → Refusal → Type 0
HasNone x l (r.NoGrant k) = (k ≡ l) × (at x.machine l ≡ None)
HasNone x l r.WrongKind = (h : Held) × (at x.machine l ≡ Some h) × (as_vsic h.object ≡ None)
HasNone x l _ = ⊥

abbrev pub FoundAs : Around → List ℕ → Result ℕ Refusal → Type 0
FoundAs x l (Ok key) = HasCard x l key
FoundAs x l (Err e) = HasNone x l e

module _ (x : Around) (l : List ℕ) where
  by_kind : (c : Capability) (k : CapKind) (h : Held) → c.kind ≡ k → value_at x.labels l ≡ Some c → at x.machine l ≡ Some h → IsObjectOf x l c h.object → FoundAs x l (key_if_card k c.key)
  by_kind c cap_kind.Vsic h kind label there f =
      let d = card_of x l c h.object f kind in
      record { held = h; cap = c; vsic = d.0; label = label; key_is = refl; there = there; object = d.1; fits = d.2 }
  by_kind c cap_kind.Vsa h kind label there f = (h, there, no_card x l c h.object f (λ e. cc (kind, e)))
  by_kind c cap_kind.Door h kind label there f = (h, there, no_card x l c h.object f (λ e. cc (kind, e)))
  by_kind c cap_kind.Vnic h kind label there f = (h, there, no_card x l c h.object f (λ e. cc (kind, e)))
  by_kind c cap_kind.Filter h kind label there f = (h, there, no_card x l c h.object f (λ e. cc (kind, e)))
  by_kind c cap_kind.Rate h kind label there f = (h, there, no_card x l c h.object f (λ e. cc (kind, e)))
  by_kind c cap_kind.Buf h kind label there f = (h, there, no_card x l c h.object f (λ e. cc (kind, e)))
  by_kind c cap_kind.Sock h kind label there f = (h, there, no_card x l c h.object f (λ e. cc (kind, e)))

  by_label : (c : Option Capability) (o : Option Held) → value_at x.labels l ≡ c → at x.machine l ≡ o → AtLabel x l c o → FoundAs x l (card_under l c)
  by_label None None label there m = (refl, there)
  by_label (Some c) (Some h) label there m = by_kind c c.kind h refl label there m.object
  by_label None (Some h) label there m = absurd m
  by_label (Some c) None label there m = absurd m

  pub found_card : Holds x → (res : Result ℕ Refusal) → res ≡ card_key x.labels l → FoundAs x l res
  found_card h res is = subst (λ (z : Result ℕ Refusal). FoundAs x l z) (sym is) (by_label (value_at x.labels l) (at x.machine l) refl refl (found x l x.labels x.machine.held h.held))

-- a card by its key, as the code has it
module _ (app : App) (l : List ℕ) (key : ℕ) (is : Ok key ≡ card_key app.labels l) where
  pub its : (y : Beyond) → Holds (around y app) → HasCard (around y app) l key
  its y h = found_card (around y app) l h (Ok key) is

  pub entry_is : (y : Beyond) (v : HasCard (around y app) l key) → card_kept app.devices.cards key ≡ Some v.fits.card
  entry_is y v = ap (λ k. card_kept app.devices.cards k) (sym v.key_is) ∙ v.fits.kept

  -- a card's label has its card
  pub never_gone : (y : Beyond) → Holds (around y app) → slot app.devices.cards key ≡ None → ⊥
  never_gone y h gone = not_some (card_kept app.devices.cards key) (its y h).fits.card (ap (λ o. option_map kept_card o) gone) (entry_is y (its y h))

  module _ (one : StorageCard) (here : slot app.devices.cards key ≡ Some one) (y : Beyond) (v : HasCard (around y app) l key) where
    pub entry_same : v.fits.card ≡ kept_card one
    entry_same = some_same (card_kept app.devices.cards key) v.fits.card (kept_card one) (entry_is y v) (ap (λ o. option_map kept_card o) here)

    pub log_same : has_log y.machine l ≡ is_some one.log
    log_same = log_is y.machine l (is_some v.fits.card.log) v.fits.log ∙ ap (λ (k : CardKept). is_some k.log) entry_same

    pub count_same : held_in v.vsic.queue ≡ members one.vsic.ring
    count_same =
        let posted = each_length (IsJob (around y app) v.fits.card.log) v.fits.card.ring.posted v.vsic.queue.posted v.fits.posted in
        let unreaped = each_length (IsEnded (around y app) v.fits.card.log) v.fits.card.ring.unreaped v.vsic.queue.unreaped v.fits.unreaped in
        let count : held_in v.vsic.queue ≡ members v.fits.card.ring = omega (arith, posted, unreaped) in
        count ∙ ap (λ (k : CardKept). members k.ring) entry_same

    pub full_same : is_ring_full y.machine l ≡ nat_le one.vsic.ring.size (members one.vsic.ring)
    full_same = rw (v.there, v.object) (ap (λ n. nat_le n (held_in v.vsic.queue)) (v.fits.size ∙ ap (λ (k : CardKept). k.ring.size) entry_same) ∙ ap (λ n. nat_le one.vsic.ring.size n) count_same)

    -- what a change leaves of the card's own content
    module _ (now : Around) (keeps : Keeps (but l) any_label any_piece (around y app) now) where
      within_all : Within any_label any_piece (Objects.vsic v.vsic)
      within_all = within (Objects.vsic v.vsic)

      pub posted_now : Each (IsJob now one.log) one.vsic.ring.posted v.vsic.queue.posted
      posted_now = subst (λ (k : CardKept). Each (IsJob now k.log) k.ring.posted v.vsic.queue.posted) entry_same
          (each_kept (IsJob (around y app) v.fits.card.log) (IsJob now v.fits.card.log) (JobWithin any_label any_piece) (job_kept (but l) any_label any_piece (around y app) now keeps v.fits.card.log) v.fits.card.ring.posted v.vsic.queue.posted within_all.0 v.fits.posted)

      pub unreaped_now : Each (IsEnded now one.log) one.vsic.ring.unreaped v.vsic.queue.unreaped
      unreaped_now = subst (λ (k : CardKept). Each (IsEnded now k.log) k.ring.unreaped v.vsic.queue.unreaped) entry_same
          (each_kept (IsEnded (around y app) v.fits.card.log) (IsEnded now v.fits.card.log) (λ u. JobWithin any_label any_piece u.0) (ended_kept (but l) any_label any_piece (around y app) now keeps v.fits.card.log) v.fits.card.ring.unreaped v.vsic.queue.unreaped within_all.1 v.fits.unreaped)

      pub bound_now : Each (λ g s. slice_get now.numbers s ≡ Some g) one.vsic.bound v.vsic.bound
      bound_now = subst (λ (k : CardKept). Each (λ g s. slice_get now.numbers s ≡ Some g) k.bound v.vsic.bound) entry_same
          (each_all (λ g s. slice_get y.numbers s ≡ Some g) (λ g s. slice_get now.numbers s ≡ Some g) (λ g s is. keeps.numbers s g is) v.fits.card.bound v.vsic.bound v.fits.bound)

      pub pace_now : Both (IsPaced now) (kept_card one).pace v.vsic.pace
      pace_now = subst (λ (k : CardKept). Both (IsPaced now) k.pace v.vsic.pace) entry_same
          (paced_kept (but l) any_label any_piece (around y app) now keeps v.fits.card.pace v.vsic.pace within_all.2 v.fits.pace)

      pub door_now : Both (IsWatched now) one.door v.vsic.door
      door_now = subst (λ (k : CardKept). Both (IsWatched now) k.door v.vsic.door) entry_same
          (watched_kept (but l) any_label any_piece (around y app) now keeps v.fits.card.door v.vsic.door within_all.3 v.fits.door)

    pub size_now : v.vsic.size ≡ one.vsic.ring.size
    size_now = v.fits.size ∙ ap (λ (k : CardKept). k.ring.size) entry_same

    pub moved_now : v.vsic.queue.moved ≡ one.vsic.ring.moved
    moved_now = v.fits.moved ∙ ap (λ (k : CardKept). k.ring.moved) entry_same

    pub phases_now : HasPhases one.log v.vsic.queue.posted v.vsic.queue.unreaped
    phases_now = subst (λ (k : CardKept). HasPhases k.log v.vsic.queue.posted v.vsic.queue.unreaped) entry_same v.fits.phases

    pub opens_now : bit (is_some one.log) ≡ open_count y.machine l
    opens_now = ap (λ (k : CardKept). bit (is_some k.log)) (sym entry_same) ∙ v.fits.log

-- Another content of the card under a label, where all else stays.
module _ (app app1 : App) (l : List ℕ) (key : ℕ) (is : Ok key ≡ card_key app.labels l) (one one1 : StorageCard) (here : slot app.devices.cards key ≡ Some one) (changes : Changes app.devices.cards app1.devices.cards key (Some one1)) (opens : (grant : ℕ) → IsOpenOn grant (kept_card one) → StaysOpen grant (kept_card one) (Some (kept_card one1)))
    (labels : app1.labels ≡ app.labels) (doors : app1.devices.doors ≡ app.devices.doors) (rates : app1.devices.rates ≡ app.devices.rates) (nets : app1.devices.nets ≡ app.devices.nets) (store : app1.store ≡ app.store) (areas : app1.areas ≡ app.areas) (y : Beyond) (h : Holds (around y app)) (v : HasCard (around y app) l key) where
  same_card : (k : List ℕ) (c : Capability) → but l k ≡ true → value_at app.labels k ≡ Some c → c.kind ≡ cap_kind.Vsic → card_kept app1.devices.cards c.key ≡ card_kept app.devices.cards c.key
  same_card k c stays at kind = ap (λ o. option_map kept_card o)
      (changes.others c.key (λ e. other_name l k (not_but l k stays) (h.own.keys l k v.cap c v.label at (v.fits.its_kind ∙ sym kind) (ap has_key v.fits.its_kind) (v.key_is ∙ sym e))))

  parts : KeepsParts (but l) app app1
  parts = record {
    store = store;
    areas = areas;
    labels = λ k c at. ap (λ (ls : Labels). value_at ls k) labels ∙ at;
    logs = card_logs_by app.labels app.devices.cards app1.devices.cards key one one1 here changes opens;
    cards = same_card;
    doors = λ k c stays at kind. ap (λ (ds : List (Option Counts)). slot ds c.key) doors;
    rates = λ k c stays at kind. ap (λ (rs : List (Option Allowance)). rate_kept rs c.key) rates;
    nets = λ k c stays at kind. ap (λ (ns : Nets). net_kept ns.cards c.key) nets;
  }

  module _ (v1 : Vsic) (alike : CountsAlike (Objects.vsic v.vsic) (Objects.vsic v1)) where
    abbrev pub now : Around
    now = around (record y { machine = with_object y.machine l (Objects.vsic v1) }) app1

    likes : CountsAlike v.held.object (Objects.vsic v1)
    likes = subst (λ (o : Object). CountsAlike o (Objects.vsic v1)) (sym v.object) alike

    pub card_keeps : Keeps (but l) any_label any_piece (around y app) now
    card_keeps = alter_keeps y app app1 l v.held (Objects.vsic v1) h v.there labels parts likes

    pub card_opens : open_count (with_object y.machine l (Objects.vsic v1)) l ≡ open_count y.machine l
    card_opens = (alike_all y app app1 l v.held (Objects.vsic v1) h v.there labels parts likes l).1

    pub kept_now : card_kept app1.devices.cards v.cap.key ≡ Some (kept_card one1)
    kept_now = ap (λ i. card_kept app1.devices.cards i) v.key_is ∙ ap (λ o. option_map kept_card o) changes.changed

    pub card_altered : IsCard now l v.cap v1 → Holds now
    card_altered fits = altered y app app1 l v.held (Objects.vsic v1) h v.there labels parts likes
        (λ c at f. subst (λ (z : Capability). IsCard now l z v1) (some_same (value_at app.labels l) v.cap c v.label at) fits)

-- The conditions of a word on one card.

abbrev pub conditions : Machine → List ℕ → Bool → Conditions
conditions m l full = record none { no_application = not m.made; no_grant = missing m (l ∷ []); wrong_kind = is_none (vsic_at m l); busy = has_log m l; ring_full = full }

why : (x : Around) (l : List ℕ) (full : Bool) (e : Refusal) → x.machine.made ≡ true → HasNone x l e → early (conditions x.machine l full) ≡ Some e
why x l full (r.NoGrant k) made h = rw (h.0, made, h.1) refl
why x l full r.WrongKind made h = rw (made, h.1, h.2) refl
why x l full _ made h = absurd h

module _ (t : Told) (app : App) (l : List ℕ) (full : Machine → Bool) (row rest : Machine → Given → Row) (is_row : (m : Machine) (g : Given) → row m g ≡ answer m (conditions m l (full m)) (rest m g)) where
  refused : (e : Refusal) → ((y : Beyond) → Holds (around y app) → early (conditions y.machine l (full y.machine)) ≡ Some e) → Acts t app app row [] (said.Refused e) []
  refused e first = refuses t app row e (λ y g sited h. is_row y.machine g ∙ refused_first y.machine (conditions y.machine l (full y.machine)) (rest y.machine g) e (first y h))

  pub no_key : (e : Refusal) → Err e ≡ card_key app.labels l → Acts t app app row [] (said.Refused e) []
  no_key e is = refused e (λ y h. why (around y app) l (full y.machine) e h.made (found_card (around y app) l h (Err e) is))

  module _ (key : ℕ) (is : Ok key ≡ card_key app.labels l) where
    pub no_card_there : (e : Refusal) → slot app.devices.cards key ≡ None → Acts t app app row [] (said.Refused e) []
    no_card_there e gone = refused e (λ y h. absurd (never_gone app l key is y h gone))

    module _ (one : StorageCard) (here : slot app.devices.cards key ≡ Some one) where
      kept_conditions : (y : Beyond) → Holds (around y app) → conditions y.machine l (full y.machine) ≡ record none { busy = is_some one.log; ring_full = full y.machine }
      kept_conditions y h = let v = its app l key is y h in let log = log_same app l key is one here y v in rw (h.made, v.there, v.object, log) refl

      pub is_busy : is_some one.log ≡ true → Acts t app app row [] (said.Refused r.Busy) []
      is_busy used = refused r.Busy (λ y h. ap early (kept_conditions y h) ∙ rw used refl)

      module _ (free : is_some one.log ≡ false) where
        pub is_full : ((y : Beyond) → Holds (around y app) → full y.machine ≡ true) → Acts t app app row [] (said.Refused r.RingFull) []
        is_full none_left = refused r.RingFull (λ y h. let over = none_left y h in ap early (kept_conditions y h) ∙ rw (free, over) refl)

        -- nothing refuses it
        pub done : (y : Beyond) (g : Given) → Holds (around y app) → full y.machine ≡ false → row y.machine g ≡ rest y.machine g
        unfolding answer
        done y g h room =
            let none : early (conditions y.machine l (full y.machine)) ≡ None = ap early (kept_conditions y h) ∙ rw (free, room) refl in
            is_row y.machine g ∙ rw none refl
