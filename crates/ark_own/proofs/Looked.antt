-- What looking for several labels told, and the refusals of a word on a card and what it names.
use Rattle.std.proofs.Common.{◌≡◌, ℕ, Bool, true, false, not, cond, ◌||◌, List, [], ◌∷◌, ◌++◌, refl, sym, ◌∙◌, ap}
use Rattle.std.specs.Prelude.{Some, None, Result, Ok, Err, is_ok, is_none}
use Rattle.std.specs.Option.{option_or}
use Rattle.std.proofs.lemmas.Bool.{false≢true}
use Rattle.ark_base.specs.Conditions.{Conditions, none, early}
use Rattle.ark_base.specs.declared.refusal.Refusal.{Refusal}
use Rattle.ark_base.specs.declared.refusal.Refusal.TheVariants as r
use Rattle.ark_media.specs.Calls.{Told}
use Rattle.ark_script.specs.declared.said.Said.TheVariants as said
use Rattle.ark_machine.specs.Machine.{Machine, at, missing}
use Rattle.ark_machine.specs.Row.{Row, Given, answer}
use Rattle.ark_held.specs.Held.{Holds}
use Rattle.ark_held.specs.Beyond.{Beyond, around}
use Rattle.ark_held.specs.Does.{Acts}
use Rattle.ark_held.specs.declared.app.App.{App}
use Rattle.ark_held.proofs.Doing.{refused_first, refuses}
use Rattle.ark_own.specs.Keys.{both_keys}

-- All labels are there and of their kinds, or the first that is not there is told, or that one is of another kind.
abbrev pub Looked : {A : Type 0} → Machine → List (List ℕ) → Bool → Result A Refusal → Type 0
Looked m ls other (Ok a) = (missing m ls ≡ None) × (other ≡ false)
Looked m ls other (Err (r.NoGrant k)) = missing m ls ≡ Some k
Looked m ls other (Err r.WrongKind) = (missing m ls ≡ None) × (other ≡ true)
Looked m ls other (Err _) = ⊥

-- one label
pub is_there : (m : Machine) (l : List ℕ) → is_none (at m l) ≡ false → missing m (l ∷ []) ≡ None
is_there m l some = ap (λ b. cond b (Some l) None) some

pub is_missing : (m : Machine) (l : List ℕ) → is_none (at m l) ≡ true → missing m (l ∷ []) ≡ Some l
is_missing m l none = ap (λ b. cond b (Some l) None) none

-- Labels and other labels behind them.

missing_more : (m : Machine) (ls ks : List (List ℕ)) → missing m (ls ++ ks) ≡ option_or (missing m ls) (missing m ks)
missing_more m [] ks = refl
missing_more m (l ∷ ls) ks = by (is_none (at m l)) (missing_more m ls ks)
  where
    by : (b : Bool) → missing m (ls ++ ks) ≡ option_or (missing m ls) (missing m ks) → cond b (Some l) (missing m (ls ++ ks)) ≡ option_or (cond b (Some l) (missing m ls)) (missing m ks)
    by true rest = refl
    by false rest = rest

module _ (m : Machine) (ls ks : List (List ℕ)) where
  behind : missing m ls ≡ None → missing m (ls ++ ks) ≡ missing m ks
  behind none = missing_more m ls ks ∙ ap (λ o. option_or o (missing m ks)) none

  before : (k : List ℕ) → missing m ls ≡ Some k → missing m (ls ++ ks) ≡ Some k
  before k some = missing_more m ls ks ∙ ap (λ o. option_or o (missing m ks)) some

  pub looked_both : {A B : Type 0} (p q : Bool) (a : Result A Refusal) (b : Result B Refusal) → Looked m ls p a → Looked m ks q b → Looked m (ls ++ ks) (p || q) (both_keys a b)
  looked_both p q (Ok a) (Ok b) x y = (behind x.0 ∙ y.0, rw x.1 y.1)
  looked_both p q (Ok a) (Err (r.NoGrant k)) x y = behind x.0 ∙ y
  looked_both p q (Ok a) (Err r.WrongKind) x y = (behind x.0 ∙ y.0, rw x.1 y.1)
  looked_both p q (Ok a) (Err _) x y = absurd y
  looked_both p q (Err (r.NoGrant k)) (Ok b) x y = before k x
  looked_both p q (Err (r.NoGrant k)) (Err e) x y = before k x
  looked_both p q (Err r.WrongKind) (Ok b) x y = (behind x.0 ∙ y.0, rw x.1 refl)
  looked_both p q (Err r.WrongKind) (Err (r.NoGrant k)) x y = behind x.0 ∙ y
  looked_both p q (Err r.WrongKind) (Err r.WrongKind) x y = (behind x.0 ∙ y.0, rw x.1 refl)
  looked_both p q (Err r.WrongKind) (Err _) x y = absurd y
  looked_both p q (Err _) b x y = absurd x

-- what both told, one by one
module _ {A B : Type 0} where
  first_of : Result (A × B) Refusal → Result A Refusal
  first_of (Ok keys) = Ok keys.0
  first_of (Err e) = Err e

  second_of : Result (A × B) Refusal → Result B Refusal
  second_of (Ok keys) = Ok keys.1
  second_of (Err e) = Err e

  pub each_key : (j : A) (k : B) (p : Result A Refusal) (q : Result B Refusal) → Ok (j, k) ≡ both_keys p q → (Ok j ≡ p) × (Ok k ≡ q)
  unfolding first_of second_of
  each_key j k (Ok a) (Ok b) is = (ap first_of is, ap second_of is)
  each_key j k (Ok a) (Err e) is = absurd (false≢true (sym (ap is_ok is)))
  each_key j k (Err e) (Ok b) is = absurd (false≢true (sym (ap is_ok is)))
  each_key j k (Err e) (Err f) is = absurd (false≢true (sym (ap is_ok is)))

-- The conditions of a word on these labels, and what is refused.

abbrev pub conditions : Machine → List (List ℕ) → Bool → Bool → Bool → Bool → Bool → Conditions
conditions m ls other far busy lent full =
    record none { no_application = not m.made; no_grant = missing m ls; wrong_kind = other; out_of_range = far; busy = busy; lent = lent; ring_full = full }

why : (A : Type 0) (m : Machine) (ls : List (List ℕ)) (other far busy lent full : Bool) (e : Refusal) → m.made ≡ true → Looked {A = A} m ls other (Err e) → early (conditions m ls other far busy lent full) ≡ Some e
why A m ls other far busy lent full (r.NoGrant k) made x = rw (made, x) refl
why A m ls other far busy lent full r.WrongKind made x = rw (made, x.0, x.1) refl
why A m ls other far busy lent full _ made x = absurd x

module _ (t : Told) (app : App) (ls : List (List ℕ)) (other far busy lent full : Machine → Bool) (row rest : Machine → Given → Row)
    (is_row : (m : Machine) (g : Given) → row m g ≡ answer m (conditions m ls (other m) (far m) (busy m) (lent m) (full m)) (rest m g)) where
  abbrev all_of : Machine → Conditions
  all_of m = conditions m ls (other m) (far m) (busy m) (lent m) (full m)

  refused : (e : Refusal) → ((y : Beyond) → Holds (around y app) → early (all_of y.machine) ≡ Some e) → Acts t app app row [] (said.Refused e) []
  refused e first = refuses t app row e (λ y g sited h. is_row y.machine g ∙ refused_first y.machine (all_of y.machine) (rest y.machine g) e (first y h))

  pub not_found : (A : Type 0) (e : Refusal) → ((y : Beyond) → Holds (around y app) → Looked {A = A} y.machine ls (other y.machine) (Err e)) → Acts t app app row [] (said.Refused e) []
  not_found A e looked = refused e (λ y h. why A y.machine ls (other y.machine) (far y.machine) (busy y.machine) (lent y.machine) (full y.machine) e h.made (looked y h))

  -- what was found is there
  pub never_there : (e : Refusal) → ((y : Beyond) → Holds (around y app) → ⊥) → Acts t app app row [] (said.Refused e) []
  never_there e none = refused e (λ y h. absurd (none y h))

  module _ (looked : (y : Beyond) → Holds (around y app) → (missing y.machine ls ≡ None) × (other y.machine ≡ false)) where
    -- nothing is wrong with what it names
    of_keys : (y : Beyond) → Holds (around y app) → all_of y.machine ≡ record none { out_of_range = far y.machine; busy = busy y.machine; lent = lent y.machine; ring_full = full y.machine }
    of_keys y h =
        let m = y.machine in
        let p = looked y h in
        ap (λ t. record none { no_application = not t; no_grant = missing m ls; wrong_kind = other m; out_of_range = far m; busy = busy m; lent = lent m; ring_full = full m }) h.made
        ∙ ap (λ o. record none { no_grant = o; wrong_kind = other m; out_of_range = far m; busy = busy m; lent = lent m; ring_full = full m }) p.0
        ∙ ap (λ t. record none { wrong_kind = t; out_of_range = far m; busy = busy m; lent = lent m; ring_full = full m }) p.1

    pub is_far : ((y : Beyond) → Holds (around y app) → far y.machine ≡ true) → Acts t app app row [] (said.Refused r.OutOfRange) []
    is_far past = refused r.OutOfRange (λ y h. let q = past y h in ap early (of_keys y h) ∙ rw q refl)

    module _ (near : (y : Beyond) → Holds (around y app) → far y.machine ≡ false) where
      pub is_busy : ((y : Beyond) → Holds (around y app) → busy y.machine ≡ true) → Acts t app app row [] (said.Refused r.Busy) []
      is_busy used = refused r.Busy (λ y h. let n = near y h in let q = used y h in ap early (of_keys y h) ∙ rw (n, q) refl)

      module _ (free : (y : Beyond) → Holds (around y app) → busy y.machine ≡ false) where
        pub is_away : ((y : Beyond) → Holds (around y app) → lent y.machine ≡ true) → Acts t app app row [] (said.Refused r.Lent) []
        is_away gone = refused r.Lent (λ y h. let n = near y h in let f = free y h in let q = gone y h in ap early (of_keys y h) ∙ rw (n, f, q) refl)

        module _ (here : (y : Beyond) → Holds (around y app) → lent y.machine ≡ false) where
          pub is_full : ((y : Beyond) → Holds (around y app) → full y.machine ≡ true) → Acts t app app row [] (said.Refused r.RingFull) []
          is_full none_left = refused r.RingFull (λ y h.
              let n = near y h in let f = free y h in let i = here y h in let q = none_left y h in ap early (of_keys y h) ∙ rw (n, f, i, q) refl)

          -- nothing refuses it
          pub done : (y : Beyond) (g : Given) → Holds (around y app) → full y.machine ≡ false → row y.machine g ≡ rest y.machine g
          unfolding answer
          done y g h room =
              let n = near y h in
              let f = free y h in
              let i = here y h in
              let first : early (all_of y.machine) ≡ None = ap early (of_keys y h) ∙ rw (n, f, i, room) refl in
              is_row y.machine g ∙ rw first refl
