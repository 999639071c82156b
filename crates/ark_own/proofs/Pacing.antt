-- The row of `pace`.
use Rattle.std.proofs.Common.{◌≡◌, ℕ, Bool, not, List, [], ◌∷◌, refl, sym, ◌∙◌, ap, subst, arith}
use Rattle.std.specs.Prelude.{Option, Some, None, Result, Ok, Err, option_map, is_none}
use Rattle.ark_base.specs.declared.refusal.Refusal.{Refusal}
use Rattle.ark_base.specs.declared.refusal.Refusal.TheVariants as r
use Rattle.ark_media.specs.Calls.{Told}
use Rattle.ark_script.specs.declared.said.Said.TheVariants as said
use Rattle.ark_script.specs.declared.step.Side.{Side}
use Rattle.ark_script.specs.declared.step.Side.TheVariants as side
use Rattle.ark_caps.specs.Labels.{value_at}
use Rattle.ark_objects.specs.Held.{at as slot, Changes}
use Rattle.ark_vic.specs.Pace.{Pace, IsPaceOf}
use Rattle.ark_machine.specs.Objects
use Rattle.ark_machine.specs.Objects.{Vsic, Paced}
use Rattle.ark_machine.specs.Machine.{Machine, given_label, rate_at, with_object}
use Rattle.ark_machine.specs.Rates as rows
use Rattle.ark_machine.specs.Rates.{has_side, is_no_rate, new_pace, pace_of, with_pace}
use Rattle.ark_machine.specs.Row.{Row, Given, says}
use Rattle.ark_held.specs.Words.{Labels}
use Rattle.ark_held.specs.Kept.{PaceKept}
use Rattle.ark_held.specs.Pacing.{repaced}
use Rattle.ark_held.specs.Around.{Around, Both}
use Rattle.ark_held.specs.Cards.{IsPaced}
use Rattle.ark_held.specs.Held.{Holds}
use Rattle.ark_held.specs.Beyond.{Beyond, around}
use Rattle.ark_held.specs.Does.{ActsAt, Acts}
use Rattle.ark_held.specs.declared.allowance.Allowance.{Allowance}
use Rattle.ark_held.specs.declared.app.App.{App}
use Rattle.ark_held.specs.declared.card.StorageCard.{StorageCard}
use Rattle.ark_held.proofs.Doing.{comes_at}
use Rattle.ark_own.specs.Keys.{both_keys, card_key, rate_given}
use Rattle.ark_own.proofs.Looked.{Looked, each_key, is_there, is_missing}
use Rattle.ark_own.proofs.Sides as sides
use Rattle.ark_own.proofs.Sides.{GivenAs, some_given, given_looked, card_side, set_holds}
use Rattle.ark_own.proofs.OfRates as rates
use Rattle.ark_own.proofs.OfRates.{found_rate, gives_same}
use Rattle.ark_own.proofs.OfCards.{HasCard, its, door_now}

-- The rate that is named, if one is.

rate_looked : (x : Around) (l : List ℕ) (p : Result ℕ Refusal) → rates.FoundAs x l p → Looked x.machine (l ∷ []) (is_none (rate_at x.machine l)) p
rate_looked x l (Ok key) f = (is_there x.machine l (rw f.there refl), rw (f.there, f.object) refl)
rate_looked x l (Err (r.NoGrant k)) f = is_missing x.machine l (rw f.1 refl) ∙ ap (λ z. Some z) (sym f.0)
rate_looked x l (Err r.WrongKind) f = (is_there x.machine l (rw f.1 refl), rw (f.1, f.2) refl)
rate_looked x l (Err _) f = absurd f

abbrev pub FoundGiven : Around → Option (List ℕ) → Result (Option ℕ) Refusal → Type 0
FoundGiven x d s = GivenAs (rates.FoundAs x) d s

found_given : (x : Around) (d : Option (List ℕ)) → Holds x → FoundGiven x d (rate_given x.labels d)
found_given x None h = tt
found_given x (Some l) h = some_given (rates.FoundAs x) l _ (found_rate x l h _ refl)

-- The word, on a card that was looked for as one with this side.

module _ (t : Told) (app : App) (v : List ℕ) (d : Option (List ℕ)) (q : Side) (card : Result ℕ Refusal) (card_looked : (y : Beyond) → Holds (around y app) → Looked y.machine (v ∷ []) (not (has_side y.machine v q)) card) where
  abbrev row : Machine → Given → Row
  row m g = rows.pace m v d q g

  abbrev lacks : Machine → Bool
  lacks m = is_no_rate m d

  abbrev set : Machine → Machine
  set m = with_pace m v q (pace_of m d)

  its_looked : (y : Beyond) → Holds (around y app) → Looked y.machine (given_label d) (lacks y.machine) (rate_given app.labels d)
  its_looked y h = given_looked (rates.FoundAs (around y app)) y.machine (λ o. is_no_rate y.machine o) refl (rate_looked (around y app)) d _ (found_given (around y app) d h)

  pub no_keys : (e : Refusal) → Err e ≡ both_keys card (rate_given app.labels d) → Acts t app app row [] (said.Refused e) []
  no_keys = sides.no_keys t app v d q card (rate_given app.labels d) lacks set card_looked its_looked

  -- what was found is there
  pub never_there : (e : Refusal) → ((y : Beyond) → Holds (around y app) → ⊥) → Acts t app app row [] (said.Refused e) []
  never_there = sides.never_there t app v d q card (rate_given app.labels d) lacks set card_looked its_looked

  module _ (key : ℕ) (given : Option ℕ) (keys : Ok (key, given) ≡ both_keys card (rate_given app.labels d)) where
    pub is : Ok key ≡ card
    is = (each_key key given card (rate_given app.labels d) keys).0

    pub its_rate : (y : Beyond) → Holds (around y app) → FoundGiven (around y app) d (Ok given)
    its_rate y h = subst (λ (z : Result (Option ℕ) Refusal). FoundGiven (around y app) d z) (sym (each_key key given card (rate_given app.labels d) keys).1) (found_given (around y app) d h)

    pub no_rate_there : (e : Refusal) (k : ℕ) → given ≡ Some k → slot app.devices.rates k ≡ None → Acts t app app row [] (said.Refused e) []
    no_rate_there e k some gone = never_there e (λ y h. absurd (none_there y d (subst (λ (o : Option ℕ). FoundGiven (around y app) d (Ok o)) some (its_rate y h))))
      where
        none_there : (y : Beyond) (d : Option (List ℕ)) → FoundGiven (around y app) d (Ok (Some k)) → ⊥
        none_there y (Some l) s = rates.never_gone app k l y s gone
        none_there y None s = s

    -- nothing refuses it
    pub row_done : (y : Beyond) (g : Given) → Holds (around y app) → row y.machine g ≡ says (with_pace y.machine v q (pace_of y.machine d)) said.Ok
    row_done = sides.done t app v d q card (rate_given app.labels d) lacks set card_looked its_looked key given keys

-- a pace as a card keeps it, with the key of the rate that gave it
abbrev pub kept_pace : Option Pace → ℕ → Option PaceKept
kept_pace pace rate = option_map (λ p. record { rate = rate; pace = p }) pace

-- where no rate is named
pub none_paces : (y : Beyond) (app : App) (d : Option (List ℕ)) → FoundGiven (around y app) d (Ok None) → (z : Around) → Both (IsPaced z) None (pace_of y.machine d)
none_paces y app None s z = tt
none_paces y app (Some l) s z = absurd s

-- a pace that begins at this tick, by the rate that is named
pub paces_anew : (now : ℕ) (app : App) (rate : ℕ) (a : Allowance) (there : slot app.devices.rates rate ≡ Some a) (pace : Pace) (value : pace ≡ record { per_tick = a.per_tick; burst = a.burst; tick = now; fill = 0 }) (stands : IsPaceOf pace [])
    (y : Beyond) → y.now ≡ now → (d : Option (List ℕ)) → FoundGiven (around y app) d (Ok (Some rate)) → (z : Around) → z.labels ≡ app.labels → z.now ≡ y.now → Both (IsPaced z) (kept_pace (Some pace) rate) (pace_of y.machine d)
paces_anew now app rate a there pace value stands y tick (Some l) s z same when =
    let gives = gives_same app rate l y s a there in
    let its : rate_at y.machine l ≡ Some s.gives = rw (s.there, s.object) refl in
    subst (λ (o : Option (ℕ × ℕ)). Both (IsPaced z) (kept_pace (Some pace) rate) (option_map (new_pace l) o)) (sym its) (record {
      rate = record { cap = s.cap; there = ap (λ (ls : Labels). value_at ls l) same ∙ s.label; its_kind = s.fits.its_kind; its_key = s.key_is };
      per_tick = ap (λ (p : Pace). p.per_tick) value ∙ ap (λ (x : ℕ × ℕ). x.0) gives;
      burst = ap (λ (p : Pace). p.burst) value ∙ ap (λ (x : ℕ × ℕ). x.1) gives;
      past = (let begun : pace.tick ≡ now = ap (λ (p : Pace). p.tick) value in omega (arith, begun, when, tick));
      passes = stands;
    })
paces_anew now app rate a there pace value stands y tick None s z same when = absurd s

module _ (now : ℕ) (t : Told) (app app1 : App) (v : List ℕ) (d : Option (List ℕ)) (key : ℕ) (given : Option ℕ) (keys : Ok (key, given) ≡ both_keys (card_key app.labels v) (rate_given app.labels d)) (one : StorageCard) (here : slot app.devices.cards key ≡ Some one)
    (pace : Option Pace) (rate : ℕ) (changes : Changes app.devices.cards app1.devices.cards key (Some (repaced pace rate one)))
    (labels : app1.labels ≡ app.labels) (doors : app1.devices.doors ≡ app.devices.doors) (rates : app1.devices.rates ≡ app.devices.rates) (nets : app1.devices.nets ≡ app.devices.nets) (store : app1.store ≡ app.store) (areas : app1.areas ≡ app.areas) (name : app1.name ≡ app.name)
    (begins : (y : Beyond) → y.now ≡ now → FoundGiven (around y app) d (Ok given) → (z : Around) → z.labels ≡ app.labels → z.now ≡ y.now → Both (IsPaced z) (kept_pace pace rate) (pace_of y.machine d)) where
  abbrev its_key : Ok key ≡ card_key app.labels v
  its_key = is t app v d side.Io (card_key app.labels v) (card_side app v) key given keys

  abbrev paced : Option Paced → Vsic → Vsic
  paced p x = record x { pace = p }

  held : (y : Beyond) → y.now ≡ now → (h : Holds (around y app)) (c : HasCard (around y app) v key) → Holds (around (record y { machine = with_object y.machine v (Objects.vsic (paced (pace_of y.machine d) c.vsic)) }) app1)
  held y tick h c = set_holds app app1 v key its_key one here pace rate one.door changes labels doors rates nets store areas y h c (pace_of y.machine d) c.vsic.door
      (λ keeps. begins y tick (its_rate t app v d side.Io (card_key app.labels v) (card_side app v) key given keys y h) _ labels refl) (door_now app v key its_key one here y c _)

  on_card : (y : Beyond) (c : HasCard (around y app) v key) (p : Option Paced) → with_pace y.machine v side.Io p ≡ with_object y.machine v (Objects.vsic (paced p c.vsic))
  on_card y c p = rw (c.there, c.object) refl

  repaced_done : ActsAt now t app app1 (λ m g. rows.pace m v d side.Io g) [] said.Ok []
  repaced_done = comes_at now t app app1 (λ m g. rows.pace m v d side.Io g) said.Ok [] areas name (λ y g tick came sited h.
      let c = its app v key its_key y h in (
        with_object y.machine v (Objects.vsic (paced (pace_of y.machine d) c.vsic)),
        row_done t app v d side.Io (card_key app.labels v) (card_side app v) key given keys y g h ∙ ap (λ (m : Machine). says m said.Ok) (on_card y c (pace_of y.machine d)),
        held y tick h c,
      ))

module _ (now : ℕ) (t : Told) (app app1 : App) (v : List ℕ) (d : Option (List ℕ)) (key : ℕ) (one : StorageCard) (here : slot app.devices.cards key ≡ Some one)
    (labels : app1.labels ≡ app.labels) (doors : app1.devices.doors ≡ app.devices.doors) (rates : app1.devices.rates ≡ app.devices.rates) (nets : app1.devices.nets ≡ app.devices.nets) (store : app1.store ≡ app.store) (areas : app1.areas ≡ app.areas) (name : app1.name ≡ app.name) where
  -- no rate paces it any more
  pub unpaced : Ok (key, None) ≡ both_keys (card_key app.labels v) (rate_given app.labels d) → Changes app.devices.cards app1.devices.cards key (Some (repaced None one.rate one)) → ActsAt now t app app1 (λ m g. rows.pace m v d side.Io g) [] said.Ok []
  unpaced keys changes = repaced_done now t app app1 v d key None keys one here None one.rate changes labels doors rates nets store areas name (λ y tick s z same when. none_paces y app d s z)

  -- a rate paces it from now on, with no passes yet
  module _ (rate : ℕ) (keys : Ok (key, Some rate) ≡ both_keys (card_key app.labels v) (rate_given app.labels d)) (a : Allowance) (there : slot app.devices.rates rate ≡ Some a) (pace : Pace)
      (value : pace ≡ record { per_tick = a.per_tick; burst = a.burst; tick = now; fill = 0 }) (stands : IsPaceOf pace []) (changes : Changes app.devices.cards app1.devices.cards key (Some (repaced (Some pace) rate one))) where
    pub paced_anew : ActsAt now t app app1 (λ m g. rows.pace m v d side.Io g) [] said.Ok []
    paced_anew = repaced_done now t app app1 v d key (Some rate) keys one here (Some pace) rate changes labels doors rates nets store areas name (λ y tick s. paces_anew now app rate a there pace value stands y tick d s)
