-- A side of a card, and what is given for it: the door that watches it, or the rate that paces it.
use Rattle.std.proofs.Common.{◌≡◌, ℕ, Bool, false, not, List, [], ◌∷◌, refl, sym, ◌∙◌, subst}
use Rattle.std.specs.Prelude.{Option, Some, None, Result, Ok, Err, ◌||◌, is_some, is_none}
use Rattle.ark_base.specs.Conditions.{none}
use Rattle.ark_base.specs.declared.refusal.Refusal.{Refusal}
use Rattle.ark_filters.specs.declared.filter.Direction.{Direction}
use Rattle.ark_filters.specs.declared.filter.Direction.TheVariants as direction
use Rattle.ark_media.specs.Calls.{Told}
use Rattle.ark_script.specs.declared.said.Said.TheVariants as said
use Rattle.ark_script.specs.declared.step.Side.{Side}
use Rattle.ark_script.specs.declared.step.Side.TheVariants as side
use Rattle.ark_objects.specs.Held.{at as slot, Changes}
use Rattle.ark_vic.specs.Pace.{Pace}
use Rattle.ark_machine.specs.Objects
use Rattle.ark_machine.specs.Objects.{Vsic, Paced}
use Rattle.ark_machine.specs.Machine.{Machine, given_label, missing, vsic_at, vnic_at}
use Rattle.ark_machine.specs.Rates.{has_side}
use Rattle.ark_machine.specs.Row.{Row, Given, says, answer}
use Rattle.ark_held.specs.Around.{Around, Both}
use Rattle.ark_held.specs.Cards.{IsPaced, IsWatched}
use Rattle.ark_held.specs.Keeps.{Keeps, any_label, any_piece}
use Rattle.ark_held.specs.Pacing.{repaced}
use Rattle.ark_held.specs.Rings.{kept_card}
use Rattle.ark_held.specs.Held.{Holds}
use Rattle.ark_held.specs.Beyond.{Beyond, around}
use Rattle.ark_held.specs.Does.{Acts}
use Rattle.ark_held.specs.declared.app.App.{App}
use Rattle.ark_held.specs.declared.card.StorageCard.{StorageCard}
use Rattle.ark_held.proofs.Creating.{but}
use Rattle.ark_held.proofs.Parts.{CountsAlike}
use Rattle.ark_held.proofs.Opens.{alike_stays}
use Rattle.ark_own.specs.Keys.{both_keys, card_key, net_key, some_key}
use Rattle.ark_own.specs.Sides.{side_of}
use Rattle.ark_own.proofs.Looked as looked
use Rattle.ark_own.proofs.Looked.{Looked, looked_both}
use Rattle.ark_own.proofs.OfCards as cards
use Rattle.ark_own.proofs.OfCards.{HasCard, found_card}
use Rattle.ark_own.proofs.OfNets.{found_net, net_looked}
use Rattle.ark_own.proofs.Transferring.{card_looked}

-- What is told of a label that is given, if one is, by what is told of a label.

abbrev pub GivenAs : (List ℕ → Result ℕ Refusal → Type 0) → Option (List ℕ) → Result (Option ℕ) Refusal → Type 0
GivenAs F None (Ok None) = Unit {0}
GivenAs F (Some l) (Ok (Some key)) = F l (Ok key)
GivenAs F (Some l) (Err e) = F l (Err e)
GivenAs F d _ = ⊥

module _ (F : List ℕ → Result ℕ Refusal → Type 0) where
  pub some_given : (l : List ℕ) (p : Result ℕ Refusal) → F l p → GivenAs F (Some l) (some_key p)
  some_given l (Ok key) f = f
  some_given l (Err e) f = f

  pub given_looked : (m : Machine) (lacks : Option (List ℕ) → Bool) → lacks None ≡ false → ((l : List ℕ) (p : Result ℕ Refusal) → F l p → Looked m (l ∷ []) (lacks (Some l)) p) →
      (d : Option (List ℕ)) (s : Result (Option ℕ) Refusal) → GivenAs F d s → Looked m (given_label d) (lacks d) s
  given_looked m lacks none_lacks one None (Ok None) f = (refl, none_lacks)
  given_looked m lacks none_lacks one (Some l) (Ok (Some key)) f = one l (Ok key) f
  given_looked m lacks none_lacks one (Some l) (Err e) f = one l (Err e) f
  given_looked m lacks none_lacks one None (Ok (Some key)) f = absurd f
  given_looked m lacks none_lacks one None (Err e) f = absurd f
  given_looked m lacks none_lacks one (Some l) (Ok None) f = absurd f

-- A word that names a card and what is given for one side of it. The card is looked for as one that has this side; `lacks` says that
-- what is given is of another kind, and `set` is what the word does.
module _ (t : Told) (app : App) (v : List ℕ) (d : Option (List ℕ)) (q : Side) (card : Result ℕ Refusal) (given : Result (Option ℕ) Refusal) (lacks : Machine → Bool) (set : Machine → Machine)
    (card_looked : (y : Beyond) → Holds (around y app) → Looked y.machine (v ∷ []) (not (has_side y.machine v q)) card) (its_looked : (y : Beyond) → Holds (around y app) → Looked y.machine (given_label d) (lacks y.machine) given) where
  abbrev its_labels : List (List ℕ)
  its_labels = v ∷ given_label d

  abbrev other : Machine → Bool
  other m = not (has_side m v q) || lacks m

  abbrev never : Machine → Bool
  never m = false

  abbrev rest : Machine → Given → Row
  rest m g = says (set m) said.Ok

  abbrev pub row : Machine → Given → Row
  row m g =
      answer m
      (record none { no_application = not m.made; no_grant = missing m its_labels; wrong_kind = other m })
      (rest m g)

  abbrev row_is : (m : Machine) (g : Given) → row m g ≡ row m g
  row_is m g = refl

  both_looked : (res : Result (ℕ × Option ℕ) Refusal) → res ≡ both_keys card given → (y : Beyond) → Holds (around y app) → Looked y.machine its_labels (other y.machine) res
  both_looked res is y h =
      subst (λ (z : Result (ℕ × Option ℕ) Refusal). Looked y.machine its_labels (other y.machine) z) (sym is)
      (looked_both y.machine (v ∷ []) (given_label d) _ _ _ _ (card_looked y h) (its_looked y h))

  pub no_keys : (e : Refusal) → Err e ≡ both_keys card given → Acts t app app row [] (said.Refused e) []
  no_keys e is = looked.not_found t app its_labels other never never never never row rest row_is (ℕ × Option ℕ) e (both_looked (Err e) is)

  -- what was found is there
  pub never_there : (e : Refusal) → ((y : Beyond) → Holds (around y app) → ⊥) → Acts t app app row [] (said.Refused e) []
  never_there = looked.never_there t app its_labels other never never never never row rest row_is

  -- nothing refuses it
  pub done : (key : ℕ) (its : Option ℕ) → Ok (key, its) ≡ both_keys card given → (y : Beyond) (g : Given) → Holds (around y app) → row y.machine g ≡ says (set y.machine) said.Ok
  done key its keys y g h = looked.done t app its_labels other never never never never row rest row_is (both_looked (Ok (key, its)) keys) (λ y h. refl) (λ y h. refl) (λ y h. refl) y g h refl

none_not : {A : Type 0} (o : Option A) → is_none o ≡ not (is_some o)
none_not (Some z) = refl
none_not None = refl

-- a storage card's side
pub card_side : (app : App) (v : List ℕ) (y : Beyond) → Holds (around y app) → Looked y.machine (v ∷ []) (not (has_side y.machine v side.Io)) (card_key app.labels v)
card_side app v y h = subst (λ (b : Bool). Looked y.machine (v ∷ []) b (card_key app.labels v)) (none_not (vsic_at y.machine v)) (card_looked (around y app) v _ (found_card (around y app) v h _ refl))

-- and a network card's
pub net_side : (app : App) (v : List ℕ) (at : Direction) (y : Beyond) → Holds (around y app) → Looked y.machine (v ∷ []) (not (has_side y.machine v (side_of at))) (net_key app.labels v)
net_side app v at y h = by at (subst (λ (b : Bool). Looked y.machine (v ∷ []) b (net_key app.labels v)) (none_not (vnic_at y.machine v)) (net_looked (around y app) v _ (found_net (around y app) v h _ refl)))
  where
    by : (z : Direction) → Looked y.machine (v ∷ []) (not (is_some (vnic_at y.machine v))) (net_key app.labels v) → Looked y.machine (v ∷ []) (not (has_side y.machine v (side_of z))) (net_key app.labels v)
    by direction.Rx f = f
    by direction.Tx f = f

-- A storage card with this pace and this door, where all else of it stays.
module _ (app app1 : App) (v : List ℕ) (key : ℕ) (is : Ok key ≡ card_key app.labels v) (one : StorageCard) (here : slot app.devices.cards key ≡ Some one) (pace : Option Pace) (rate : ℕ) (door : Option ℕ)
    (changes : Changes app.devices.cards app1.devices.cards key (Some (record (repaced pace rate one) { door = door })))
    (labels : app1.labels ≡ app.labels) (doors : app1.devices.doors ≡ app.devices.doors) (rates : app1.devices.rates ≡ app.devices.rates) (nets : app1.devices.nets ≡ app.devices.nets) (store : app1.store ≡ app.store) (areas : app1.areas ≡ app.areas)
    (y : Beyond) (h : Holds (around y app)) (c : HasCard (around y app) v key) (its_pace : Option Paced) (its_door : Option (List ℕ)) where
  abbrev one1 : StorageCard
  one1 = record (repaced pace rate one) { door = door }

  abbrev its_vsic : Vsic
  its_vsic = record c.vsic { pace = its_pace; door = its_door }

  abbrev alike : CountsAlike (Objects.vsic c.vsic) (Objects.vsic its_vsic)
  alike = record { uses = λ k. refl; opens = λ k. refl; sockets = λ k. refl; covers = λ j. refl }

  abbrev after : Around
  after = cards.now app app1 v key is one one1 here changes (alike_stays one one1 refl refl refl) labels doors rates nets store areas y h c its_vsic alike

  pub set_holds : (Keeps (but v) any_label any_piece (around y app) after → Both (IsPaced after) (kept_card one1).pace its_pace) → (Keeps (but v) any_label any_piece (around y app) after → Both (IsWatched after) door its_door) → Holds after
  set_holds paced watched =
      let keeps = cards.card_keeps app app1 v key is one one1 here changes (alike_stays one one1 refl refl refl) labels doors rates nets store areas y h c its_vsic alike in
      cards.card_altered app app1 v key is one one1 here changes (alike_stays one one1 refl refl refl) labels doors rates nets store areas y h c its_vsic alike (record {
        its_kind = c.fits.its_kind;
        card = kept_card one1;
        kept = cards.kept_now app app1 v key is one one1 here changes (alike_stays one one1 refl refl refl) labels doors rates nets store areas y h c its_vsic alike;
        size = cards.size_now app v key is one here y c;
        posted = cards.posted_now app v key is one here y c after keeps;
        unreaped = cards.unreaped_now app v key is one here y c after keeps;
        moved = cards.moved_now app v key is one here y c;
        bound = cards.bound_now app v key is one here y c after keeps;
        pace = paced keeps;
        door = watched keeps;
        log = cards.opens_now app v key is one here y c ∙ sym (cards.card_opens app app1 v key is one one1 here changes (alike_stays one one1 refl refl refl) labels doors rates nets store areas y h c its_vsic alike);
        phases = cards.phases_now app v key is one here y c;
      })
