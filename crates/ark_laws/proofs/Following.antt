-- What follows calls that are allowed is within what the line may touch, and ends at a failure.
use Rattle.std.proofs.Common.{◌≡◌, ℕ, Bool, true, false, List, [], ◌∷◌, ◌++◌, refl, sym, ◌∙◌, subst, if◌then◌else◌}
use Rattle.std.proofs.lemmas.Bool.{false≢true}
use Rattle.std.proofs.lemmas.List.Elements.{Contains-append_left, Contains-append_right}
use Rattle.std.specs.Prelude.{Option, Some, None, slice_get}
use Rattle.std.specs.List.{AllByRecursion}
use Rattle.ark_base.specs.Conditions.{Conditions, early, late}
use Rattle.ark_base.specs.declared.refusal.Refusal.{Refusal}
use Rattle.ark_media.specs.Journal.{Event, Read, Write, Sync, Out, has_succeeded}
use Rattle.ark_table.specs.Slots.{Slot}
use Rattle.ark_script.specs.Line as w
use Rattle.ark_script.specs.Line.{Line}
use Rattle.ark_machine.specs.Machine.{Machine}
use Rattle.ark_machine.specs.Row
use Rattle.ark_machine.specs.Row.{Row, Call, Ended, answer, unless_refused}
use Rattle.ark_machine.specs.Plane.{slot_of}
use Rattle.ark_machine.specs.System.{System}
use Rattle.ark_machine.specs.Follow.{Follows, Follow, ended, fails, goes_on, again, passes, Makes, is_repeated, own_index}
use Rattle.ark_machine.specs.Confined.{AllAllowed, EndsAtFailure}
use Rattle.ark_laws.proofs.Granted.{kind_and_limit}
use Rattle.ark_laws.proofs.Reaching.{AllowsCall, AllowsAll, AreIn, drops}
use Rattle.ark_laws.proofs.Touching.{unless}

pub follow_allowed : (s : System) (a : List ℕ) (line : Line) {cs : List Call} {es : List Event} → AllByRecursion (AllowsCall s a line) cs → Follow s a line cs es → AllAllowed s line es
follow_allowed s a line h ended = tt
follow_allowed s a line h (fails {e = e} makes bad) = (h.0 e makes, tt)
follow_allowed s a line h (goes_on {e = e} makes good once more) = (h.0 e makes, follow_allowed s a line h.1 more)
follow_allowed s a line h (again {e = e} makes good many more) = (h.0 e makes, follow_allowed s a line h more)
follow_allowed s a line h (passes many more) = follow_allowed s a line h.1 more

ends_before : (e : Event) (es : List Event) → has_succeeded e ≡ true → EndsAtFailure es → EndsAtFailure (e ∷ es)
ends_before e [] good h = tt
ends_before e (f ∷ fs) good h = (good, h)

pub follow_ends : {M : Call → Event → Type 0} {cs : List Call} {es : List Event} → Follows M cs es → EndsAtFailure es
follow_ends ended = tt
follow_ends (fails makes bad) = tt
follow_ends (goes_on {e = e} {es = es} makes good once more) = ends_before e es good (follow_ends more)
follow_ends (again {e = e} {es = es} makes good many more) = ends_before e es good (follow_ends more)
follow_ends (passes many more) = follow_ends more

-- what is said of events holds of the first of them
pub allowed_front : (s : System) (line : Line) (es more : List Event) → AllAllowed s line (es ++ more) → AllAllowed s line es
allowed_front s line [] more h = tt
allowed_front s line (e ∷ es) more h = (h.0, allowed_front s line es more h.1)

pub ends_front : (es more : List Event) → EndsAtFailure (es ++ more) → EndsAtFailure es
ends_front [] more h = tt
ends_front (e ∷ []) more h = tt
ends_front (e ∷ f ∷ es) more h = (h.0, ends_front (f ∷ es) more h.1)

pub none_front : (es more : List Event) → es ++ more ≡ [] → es ≡ []
none_front [] more h = refl
none_front (e ∷ es) more h = cc

-- the calls of each word's line are allowed

-- a slot, or new blocks
pub slot_in : (xs ys : List ℕ) → AreIn xs (xs ++ ys)
slot_in xs ys n h = Contains-append_left xs ys n h

pub new_in : (xs ys : List ℕ) → AreIn ys (xs ++ ys)
new_in xs ys n h = Contains-append_right xs ys n h

pub only : (s : System) (a : List ℕ) (line : Line) (c : Call) → AllowsCall s a line c → AllowsAll s a line (c ∷ [])
only s a line c h = (h, tt)

pub by_calls : (s : System) (a : List ℕ) (line : Line) {cs : List Call} {es : List Event} → AllowsAll s a line cs → Follow s a line cs es → AllAllowed s line es × EndsAtFailure es
by_calls s a line h follow = (follow_allowed s a line h follow, follow_ends follow)

-- a row that is refused has its own calls, or none
pub answered : (P : Call → Type 0) (m : Machine) (c : Conditions) (row : Row) → AllByRecursion P row.calls → AllByRecursion P (answer m c row).calls
unfolding answer
answered P m c row all = unless P (early c) (late c) m row all

pub by_row : (s : System) (a : List ℕ) (line : Line) (m : Machine) (c : Conditions) (row : Row) (es : List Event) → Follow s a line (answer m c row).calls es
    → AllowsAll s a line row.calls → AllAllowed s line es × EndsAtFailure es
by_row s a line m c row es h all = by_calls s a line (answered (AllowsCall s a line) m c row all) h

pub by_none : (s : System) (line : Line) (es : List Event) → es ≡ [] → AllAllowed s line es × EndsAtFailure es
by_none s line es h = rw h (tt, tt)

-- what follows calls is within what the line may touch
abbrev AllowsRun : System → List ℕ → Line → List Call → Type 0
AllowsRun s a line cs = (es : List Event) → Follow s a line cs es → AllAllowed s line es × EndsAtFailure es

pub by_runs : (s : System) (a : List ℕ) (line : Line) (m : Machine) (c : Conditions) (row : Row) (es : List Event) → Follow s a line (answer m c row).calls es
    → AllowsRun s a line row.calls → AllAllowed s line es × EndsAtFailure es
unfolding answer
by_runs s a line m c row es h runs = by (early c) (late c) h
  where
    by : (one two : Option Refusal) → Follow s a line (unless_refused one two m row).calls es → AllAllowed s line es × EndsAtFailure es
    by (Some x) two f = by_calls s a line tt f
    by None (Some x) f = runs es f
    by None None f = runs es f

-- a line of the wrong kind calls no device
pub by_wrong : (s : System) (a : List ℕ) (line : Line) (m : Machine) (c : Conditions) (row : Row) (es : List Event) → Follow s a line (answer m c row).calls es
    → c.wrong_kind ≡ true → AllAllowed s line es × EndsAtFailure es
unfolding answer
by_wrong s a line m c row es h wrong = by (early c) refl h
  where
    by : (one : Option Refusal) → early c ≡ one → Follow s a line (unless_refused one (late c) m row).calls es → AllAllowed s line es × EndsAtFailure es
    by (Some x) is f = by_calls s a line tt f
    by None is f = absurd (false≢true (sym (kind_and_limit c is).0 ∙ wrong))

-- no event makes the first of the calls
abbrev NeverStarts : System → List ℕ → Line → List Call → Type 0
NeverStarts s a line [] = ⊥
NeverStarts s a line (c ∷ cs) = (is_repeated c ≡ false) × ((e : Event) → Makes s a line c e → ⊥)

never_follows : (s : System) (a : List ℕ) (line : Line) {cs : List Call} {es : List Event} → NeverStarts s a line cs → Follow s a line cs es → ⊥
never_follows s a line h ended = h
never_follows s a line h (fails {e = e} makes bad) = h.1 e makes
never_follows s a line h (goes_on {e = e} makes good once more) = h.1 e makes
never_follows s a line h (again {e = e} makes good many more) = h.1 e makes
never_follows s a line h (passes many more) = false≢true (sym h.0 ∙ many)

no_slot_written : (s : System) (a x : List ℕ) → slot_of s.plane a x ≡ None → (e : Event) → Makes s a (w.drop a x) Row.writes_slot e → ⊥
no_slot_written s a x none (Write n b took ok) h = let f : slice_get (own_index None) 0 ≡ Some n = subst (λ o. slice_get (own_index o) 0 ≡ Some n) none h.0 in cc
no_slot_written s a x none (Read n ok) h = h
no_slot_written s a x none (Sync ok) h = h
no_slot_written s a x none (Out bytes) h = h

pub drop_runs : (s : System) (a x : List ℕ) (is_area : Bool) (o : Option Slot) → slot_of s.plane a x ≡ o → AllowsRun s a (w.drop a x) (if is_area then Row.writes_slot ∷ Row.syncs ∷ [] else [])
drop_runs s a x is_area (Some t) is es f = by_calls s a (w.drop a x) (drops s a (w.drop a x) is_area (λ n h. h) (rw is refl)) f
drop_runs s a x true None is es f = absurd (never_follows s a (w.drop a x) (refl, no_slot_written s a x is) f)
drop_runs s a x false None is es f = by_calls s a (w.drop a x) tt f
