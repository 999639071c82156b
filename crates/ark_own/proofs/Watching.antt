-- The row of `watch`.
use Rattle.std.proofs.Common.{◌≡◌, ℕ, Bool, not, List, [], ◌∷◌, refl, sym, ◌∙◌, ap, subst}
use Rattle.std.specs.Prelude.{Option, Some, None, Result, Ok, Err, is_none}
use Rattle.ark_base.specs.declared.refusal.Refusal.{Refusal}
use Rattle.ark_base.specs.declared.refusal.Refusal.TheVariants as r
use Rattle.ark_media.specs.Calls.{Told}
use Rattle.ark_script.specs.declared.said.Said.TheVariants as said
use Rattle.ark_script.specs.declared.step.Side.{Side}
use Rattle.ark_script.specs.declared.step.Side.TheVariants as side
use Rattle.ark_caps.specs.Labels.{value_at}
use Rattle.ark_objects.specs.Held.{at as slot, Changes}
use Rattle.ark_machine.specs.Objects
use Rattle.ark_machine.specs.Machine.{door_at, Machine, given_label, with_object}
use Rattle.ark_machine.specs.Rates as rows
use Rattle.ark_machine.specs.Rates.{has_side, is_no_door, with_door}
use Rattle.ark_machine.specs.Row.{Row, Given, says}
use Rattle.ark_held.specs.Words.{Labels}
use Rattle.ark_held.specs.Around.{Around, Both}
use Rattle.ark_held.specs.Cards.{IsWatched}
use Rattle.ark_held.specs.Held.{Holds}
use Rattle.ark_held.specs.Beyond.{Beyond, around}
use Rattle.ark_held.specs.Does.{Acts}
use Rattle.ark_held.specs.declared.app.App.{App}
use Rattle.ark_held.specs.declared.card.StorageCard.{StorageCard}
use Rattle.ark_held.proofs.Doing.{comes}
use Rattle.ark_own.specs.Keys.{both_keys, card_key, door_given}
use Rattle.ark_own.proofs.Looked.{Looked, each_key, is_there, is_missing}
use Rattle.ark_own.proofs.Sides as sides
use Rattle.ark_own.proofs.Sides.{GivenAs, some_given, given_looked, card_side, set_holds}
use Rattle.ark_own.proofs.OfDoors as doors
use Rattle.ark_own.proofs.OfDoors.{found_door}
use Rattle.ark_own.proofs.OfCards.{HasCard, its, pace_now}

-- The door that is named, if one is.

door_looked : (x : Around) (l : List ℕ) (p : Result ℕ Refusal) → doors.FoundAs x l p → Looked x.machine (l ∷ []) (is_none (door_at x.machine l)) p
door_looked x l (Ok key) f = (is_there x.machine l (rw f.there refl), rw (f.there, f.object) refl)
door_looked x l (Err (r.NoGrant k)) f = is_missing x.machine l (rw f.1 refl) ∙ ap (λ z. Some z) (sym f.0)
door_looked x l (Err r.WrongKind) f = (is_there x.machine l (rw f.1 refl), rw (f.1, f.2) refl)
door_looked x l (Err _) f = absurd f

abbrev pub FoundGiven : Around → Option (List ℕ) → Result (Option ℕ) Refusal → Type 0
FoundGiven x d s = GivenAs (doors.FoundAs x) d s

found_given : (x : Around) (d : Option (List ℕ)) → Holds x → FoundGiven x d (door_given x.labels d)
found_given x None h = tt
found_given x (Some l) h = some_given (doors.FoundAs x) l _ (found_door x l h _ refl)

-- The word, on a card that was looked for as one with this side.

module _ (t : Told) (app : App) (v : List ℕ) (d : Option (List ℕ)) (q : Side) (card : Result ℕ Refusal) (card_looked : (y : Beyond) → Holds (around y app) → Looked y.machine (v ∷ []) (not (has_side y.machine v q)) card) where
  abbrev row : Machine → Given → Row
  row m g = rows.watch m v d q g

  abbrev lacks : Machine → Bool
  lacks m = is_no_door m d

  abbrev set : Machine → Machine
  set m = with_door m v q d

  its_looked : (y : Beyond) → Holds (around y app) → Looked y.machine (given_label d) (lacks y.machine) (door_given app.labels d)
  its_looked y h = given_looked (doors.FoundAs (around y app)) y.machine (λ o. is_no_door y.machine o) refl (door_looked (around y app)) d _ (found_given (around y app) d h)

  pub no_keys : (e : Refusal) → Err e ≡ both_keys card (door_given app.labels d) → Acts t app app row [] (said.Refused e) []
  no_keys = sides.no_keys t app v d q card (door_given app.labels d) lacks set card_looked its_looked

  -- what was found is there
  pub never_there : (e : Refusal) → ((y : Beyond) → Holds (around y app) → ⊥) → Acts t app app row [] (said.Refused e) []
  never_there = sides.never_there t app v d q card (door_given app.labels d) lacks set card_looked its_looked

  module _ (key : ℕ) (given : Option ℕ) (keys : Ok (key, given) ≡ both_keys card (door_given app.labels d)) where
    pub is : Ok key ≡ card
    is = (each_key key given card (door_given app.labels d) keys).0

    pub its_door : (y : Beyond) → Holds (around y app) → FoundGiven (around y app) d (Ok given)
    its_door y h = subst (λ (z : Result (Option ℕ) Refusal). FoundGiven (around y app) d z) (sym (each_key key given card (door_given app.labels d) keys).1) (found_given (around y app) d h)

    -- nothing refuses it
    pub row_done : (y : Beyond) (g : Given) → Holds (around y app) → row y.machine g ≡ says (with_door y.machine v q d) said.Ok
    row_done = sides.done t app v d q card (door_given app.labels d) lacks set card_looked its_looked key given keys

abbrev seen : Option ℕ → StorageCard → StorageCard
seen given one = record one { door = given }

pub watches : (x y : Around) (d : Option (List ℕ)) (given : Option ℕ) → y.labels ≡ x.labels → FoundGiven x d (Ok given) → Both (IsWatched y) given d
watches x y None None same s = tt
watches x y (Some l) (Some k) same s = record { cap = s.cap; there = ap (λ (ls : Labels). value_at ls l) same ∙ s.label; its_kind = s.fits.its_kind; its_key = s.key_is }
watches x y None (Some k) same s = absurd s
watches x y (Some l) None same s = absurd s

module _ (t : Told) (app app1 : App) (v : List ℕ) (d : Option (List ℕ)) (key : ℕ) (given : Option ℕ) (keys : Ok (key, given) ≡ both_keys (card_key app.labels v) (door_given app.labels d)) (one : StorageCard) (here : slot app.devices.cards key ≡ Some one)
    (changes : Changes app.devices.cards app1.devices.cards key (Some (seen given one))) (labels : app1.labels ≡ app.labels) (doors : app1.devices.doors ≡ app.devices.doors) (rates : app1.devices.rates ≡ app.devices.rates) (nets : app1.devices.nets ≡ app.devices.nets) (store : app1.store ≡ app.store) (areas : app1.areas ≡ app.areas) (name : app1.name ≡ app.name) where
  abbrev its_key : Ok key ≡ card_key app.labels v
  its_key = is t app v d side.Io (card_key app.labels v) (card_side app v) key given keys

  held : (y : Beyond) (h : Holds (around y app)) (c : HasCard (around y app) v key) → Holds (around (record y { machine = with_object y.machine v (Objects.vsic (record c.vsic { door = d })) }) app1)
  held y h c = set_holds app app1 v key its_key one here one.vsic.pace one.rate given changes labels doors rates nets store areas y h c c.vsic.pace d
      (pace_now app v key its_key one here y c _) (λ keeps. watches (around y app) _ d given labels (its_door t app v d side.Io (card_key app.labels v) (card_side app v) key given keys y h))

  pub watch_done : Acts t app app1 (λ m g. rows.watch m v d side.Io g) [] said.Ok []
  watch_done = comes t app app1 (λ m g. rows.watch m v d side.Io g) said.Ok [] areas name (λ y g sited h.
      let c = its app v key its_key y h in (
        with_object y.machine v (Objects.vsic (record c.vsic { door = d })),
        row_done t app v d side.Io (card_key app.labels v) (card_side app v) key given keys y g h ∙ rw (c.there, c.object) refl,
        held y h c,
      ))
