-- What commands do to a list.
use Rattle.std.proofs.Common.{◌≡◌, ◌⊎◌, inl, inr, ℕ, zero, suc, ◌+◌, ◌-◌, ◌*◌, List, [], ◌∷◌, ◌++◌, Bool, true, false, Option, Some, None, length, take, drop, get_or, refl, sym, ◌∙◌, ap, subst, arith, length-append}
use Rattle.std.specs.Prelude.{Contains}
use Rattle.std.proofs.lemmas.List.{get_or_append_left, get_or-append-add, get_or-drop, length-drop}
use Rattle.ark_entry.specs.Entry.{entry_blocks}
use Rattle.ark_entry.specs.Found.{Entries, Found, found, damaged}
use Rattle.ark_caladan.specs.Chain.{Command, append, trim, pop, after_command, after_all, next_number, blocks_of, phases_of, moves_of, list_choices, stored_after, Log, lists, stored, in_progress}
use Rattle.ark_caladan.specs.Numbers.{HasEntry, payload_of, CanFollow, AllFit, GoesOn}

pub append_adds : (l : Entries) (n : ℕ) (payload : List ℕ) → CanFollow l (append n payload)
    → let m = after_command l (append n payload) in (m.first ≡ l.first) × (next_number m ≡ n + 1) × (payload_of m n ≡ payload)
append_adds l n payload fits =
    let long : length (l.payloads ++ payload ∷ []) ≡ length l.payloads + 1 = length-append l.payloads (payload ∷ []) in
    let place : n - l.first ≡ length l.payloads + 0 = omega (arith, fits) in (
      refl,
      omega (arith, long, fits),
      ap (λ (k : ℕ). get_or (l.payloads ++ payload ∷ []) k []) place ∙ get_or-append-add l.payloads (payload ∷ []) 0 [],
    )

pub trim_drops : (l : Entries) (n : ℕ) → CanFollow l (trim n) → let m = after_command l (trim n) in (m.first ≡ n) × (next_number m ≡ next_number l)
trim_drops l n fits =
    let long : length (drop (n - l.first) l.payloads) ≡ length l.payloads - (n - l.first) = length-drop (n - l.first) l.payloads in
    (refl, omega (arith, long, fits.0, fits.1))

pub pop_drops : (l : Entries) (n : ℕ) → CanFollow l (pop n) → let m = after_command l (pop n) in (m.first ≡ n + 1) × (next_number m ≡ next_number l)
pop_drops l n fits =
    let long : length (drop 1 l.payloads) ≡ length l.payloads - 1 = length-drop 1 l.payloads in
    (omega (arith, fits.0), omega (arith, long, fits.1))

goes_on : (l : Entries) (c : Command) → CanFollow l c → GoesOn l (after_command l c)
goes_on l (append n payload) fits =
    let adds = append_adds l n payload fits in
    record {
      first = omega arith;
      next = omega (arith, adds.1, fits);
      kept = λ i here there. get_or_append_left l.payloads (payload ∷ []) [] (i - l.first) (omega (arith, here.0, here.1));
    }
goes_on l (trim n) fits =
    let drops = trim_drops l n fits in
    record {
      first = omega (arith, fits.0);
      next = omega (arith, drops.1);
      kept = λ i here there.
          let place : n - l.first + (i - n) ≡ i - l.first = omega (arith, here.0, there.0, fits.0) in
          get_or-drop (n - l.first) l.payloads (i - n) [] ∙ ap (λ (k : ℕ). get_or l.payloads k []) place;
    }
goes_on l (pop n) fits =
    let drops = pop_drops l n fits in
    record {
      first = omega arith;
      next = omega (arith, drops.1);
      kept = λ i here there.
          let place : 1 + (i - (l.first + 1)) ≡ i - l.first = omega (arith, here.0, there.0) in
          get_or-drop 1 l.payloads (i - (l.first + 1)) [] ∙ ap (λ (k : ℕ). get_or l.payloads k []) place;
    }

-- commands one after_command another
pub all_go_on : (l : Entries) (cs : List Command) → AllFit l cs → GoesOn l (after_all l cs)
all_go_on l [] fit = record { first = omega arith; next = omega arith; kept = λ i here there. refl }
all_go_on l (c ∷ cs) fit =
    let one = goes_on l c fit.0 in
    let rest = all_go_on (after_command l c) cs fit.1 in
    record {
      first = omega (arith, one.first, rest.first);
      next = omega (arith, one.next, rest.next);
      kept = λ i here there.
          let between : HasEntry (after_command l c) i = (omega (arith, there.0, rest.first), omega (arith, here.1, one.next)) in
          rest.kept i between there ∙ one.kept i here between;
    }

-- the moves of the card's ring that a command takes
pub append_moves : (l : Entries) (n : ℕ) (payload : List ℕ) → moves_of (phases_of l (append n payload)) ≡ entry_blocks (length payload) + 3
append_moves l n payload = omega arith

pub trim_moves : (l : Entries) (n : ℕ) → moves_of (phases_of l (trim n)) ≡ blocks_of (take (n - l.first) l.payloads) + 3
trim_moves l n = omega arith

pub pop_moves : (l : Entries) (n : ℕ) → moves_of (phases_of l (pop n)) ≡ 2 * blocks_of (take 1 l.payloads) + 3
pop_moves l n = omega arith

-- what a stop may leave
acknowledged : (f : Found) (c : Option (Command × Bool)) → Contains (list_choices f c) f
acknowledged (found l) (Some c) = (0, omega arith, refl)
acknowledged (found l) None = (0, omega arith, refl)
acknowledged (damaged n) c = (0, omega arith, refl)

pub acknowledged_is_listed : (g : Log) → Contains (lists g) g.list
acknowledged_is_listed g = acknowledged g.list (in_progress g)

-- and what it may not
only_two : (f : Found) (o : Option (Command × Bool)) (l : Entries) (c : Command × Bool) → f ≡ found l → o ≡ Some c → (m : Found) → Contains (list_choices f o) m
    → (m ≡ found l) ⊎ (m ≡ found (after_command l c.0))
only_two f o l c is some m has = pick (subst (λ (g : Found). Contains (list_choices g (Some c)) m) is (subst (λ (x : Option (Command × Bool)). Contains (list_choices f x) m) some has))
  where
    pick : Contains (found l ∷ found (after_command l c.0) ∷ []) m → (m ≡ found l) ⊎ (m ≡ found (after_command l c.0))
    pick (zero, lt, same) = inl (sym same)
    pick (suc zero, lt, same) = inr (sym same)
    pick (suc (suc i), lt, same) = absurd (omega (arith, lt))

pub only_listed : (g : Log) (l : Entries) (c : Command × Bool) → g.list ≡ found l → in_progress g ≡ Some c → (m : Found) → Contains (lists g) m → (m ≡ found l) ⊎ (m ≡ found (after_command l c.0))
only_listed g l c is some m has = only_two g.list (in_progress g) l c is some m has

only_one : (f m : Found) → Contains (f ∷ []) m → m ≡ f
only_one f m (zero, lt, same) = sym same
only_one f m (suc i, lt, same) = absurd (omega (arith, lt))

none_more : (f : Found) (o : Option (Command × Bool)) → o ≡ None → (m : Found) → Contains (list_choices f o) m → m ≡ f
none_more (found l) o none m has = only_one (found l) m (subst (λ (x : Option (Command × Bool)). Contains (list_choices (found l) x) m) none has)
none_more (damaged n) o none m has = only_one (damaged n) m has

pub none_else : (g : Log) → in_progress g ≡ None → (m : Found) → Contains (lists g) m → m ≡ g.list
none_else g none m has = none_more g.list (in_progress g) none m has

pub damaged_alone : (g : Log) (n : ℕ) → g.list ≡ damaged n → (m : Found) → Contains (lists g) m → m ≡ damaged n
damaged_alone g n is m has = only_one (damaged n) m (subst (λ (f : Found). Contains (list_choices f (in_progress g)) m) is has)

stored_too : (f : Found) (c : Option (Command × Bool)) → Contains (list_choices f c) (stored_after f c)
stored_too (found l) (Some (c, true)) = (1, omega arith, refl)
stored_too (found l) (Some (c, false)) = (0, omega arith, refl)
stored_too (found l) None = (0, omega arith, refl)
stored_too (damaged n) c = (0, omega arith, refl)

pub stored_is_listed : (g : Log) → Contains (lists g) (stored g)
stored_is_listed g = stored_too g.list (in_progress g)
