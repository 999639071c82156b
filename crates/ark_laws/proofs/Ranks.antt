-- The refusal that is chosen is the one of least rank whose condition holds.
use Rattle.std.proofs.Common.{◌≡◌, ◌≤◌, ℕ, zero, suc, ◌+◌, Bool, true, false, List, [], ◌∷◌, refl, sym, ◌∙◌, ap, subst, arith, cond}
use Rattle.std.specs.Prelude.{Option, Some, None, option_map}
use Rattle.std.specs.Option.{option_or}
use Rattle.ark_base.specs.Conditions.{Conditions, late, first, when, when_some}
use Rattle.ark_base.specs.declared.refusal.Refusal.{Refusal}
use Rattle.ark_base.specs.declared.refusal.Refusal.TheVariants as r
use Rattle.ark_machine.specs.Ranks.{rank, HasCondition}
use Rattle.ark_laws.proofs.Early.{some_refusal}

abbrev given : Bool → Refusal → Option Refusal
given b x = cond b (Some x) None

-- each refusal whose condition holds, at the place of its rank
abbrev table : Conditions → List (Option Refusal)
table c =
    given c.too_long r.TooLong
    ∷ given c.unknown_word r.UnknownWord
    ∷ given c.syntax_fault r.Syntax
    ∷ given c.no_application r.NoApplication
    ∷ given c.name_taken r.NameTaken
    ∷ option_map (λ l. r.NoGrant l) c.no_grant
    ∷ given c.wrong_kind r.WrongKind
    ∷ given c.limit r.Limit
    ∷ given c.no_nic r.NoNic
    ∷ given c.out_of_range r.OutOfRange
    ∷ given c.table_failed r.TableFailed
    ∷ given c.log_failed r.LogFailed
    ∷ given c.busy r.Busy
    ∷ given c.lent r.Lent
    ∷ given c.ring_full r.RingFull
    ∷ given c.log_full r.LogFull
    ∷ given c.no_entry r.NoEntry
    ∷ given c.no_buffer r.NoBuffer
    ∷ given c.no_space r.NoSpace
    ∷ given c.scattered r.Scattered
    ∷ option_map (λ f. r.Overlap f.0 f.1) c.overlap
    ∷ given c.no_memory r.NoMemory
    ∷ given c.device_fault r.DeviceFault
    ∷ option_map (λ n. r.Damaged n) c.damaged
    ∷ []

abbrev first_in : List (Option Refusal) → Option Refusal
first_in [] = None
first_in (Some x ∷ ts) = Some x
first_in (None ∷ ts) = first_in ts

or_when : (b : Bool) (x : Refusal) (later l : Option Refusal) (rest : List (Option Refusal)) → option_or later l ≡ first_in rest → option_or (when b x later) l ≡ first_in (given b x ∷ rest)
or_when true x later l rest h = refl
or_when false x later l rest h = h

or_some : {A : Type 0} (o : Option A) (f : A → Refusal) (later l : Option Refusal) (rest : List (Option Refusal)) → option_or later l ≡ first_in rest → option_or (when_some o f later) l ≡ first_in (option_map f o ∷ rest)
or_some (Some x) f later l rest h = refl
or_some None f later l rest h = h

last : (b : Bool) (d : Option ℕ) → when b r.DeviceFault (when_some d (λ n. r.Damaged n) None) ≡ first_in (given b r.DeviceFault ∷ option_map (λ n. r.Damaged n) d ∷ [])
last true d = refl
last false (Some n) = refl
last false None = refl

first_is : (c : Conditions) → first c ≡ first_in (table c)
first_is c =
    or_when c.too_long r.TooLong _ (late c) _ (
    or_when c.unknown_word r.UnknownWord _ (late c) _ (
    or_when c.syntax_fault r.Syntax _ (late c) _ (
    or_when c.no_application r.NoApplication _ (late c) _ (
    or_when c.name_taken r.NameTaken _ (late c) _ (
    or_some c.no_grant (λ l. r.NoGrant l) _ (late c) _ (
    or_when c.wrong_kind r.WrongKind _ (late c) _ (
    or_when c.limit r.Limit _ (late c) _ (
    or_when c.no_nic r.NoNic _ (late c) _ (
    or_when c.out_of_range r.OutOfRange _ (late c) _ (
    or_when c.table_failed r.TableFailed _ (late c) _ (
    or_when c.log_failed r.LogFailed _ (late c) _ (
    or_when c.busy r.Busy _ (late c) _ (
    or_when c.lent r.Lent _ (late c) _ (
    or_when c.ring_full r.RingFull _ (late c) _ (
    or_when c.log_full r.LogFull _ (late c) _ (
    or_when c.no_entry r.NoEntry _ (late c) _ (
    or_when c.no_buffer r.NoBuffer _ (late c) _ (
    or_when c.no_space r.NoSpace _ (late c) _ (
    or_when c.scattered r.Scattered _ (late c) _ (
    or_some c.overlap (λ f. r.Overlap f.0 f.1) _ (late c) _ (
    or_when c.no_memory r.NoMemory _ (late c) _ (
    last c.device_fault c.damaged))))))))))))))))))))))

abbrev nth : List (Option Refusal) → ℕ → Option Refusal
nth [] n = None
nth (t ∷ ts) zero = t
nth (t ∷ ts) (suc n) = nth ts n

-- what is at its rank, and holds
abbrev IsRight : Conditions → ℕ → Refusal → Type 0
IsRight c k y = (rank y ≡ k) × HasCondition c y

abbrev AllRight : Conditions → ℕ → List (Option Refusal) → Type 0
AllRight c k [] = Unit {0}
AllRight c k (t ∷ ts) = ((y : Refusal) → t ≡ Some y → IsRight c k y) × AllRight c (k + 1) ts

right_bool : (c : Conditions) (k : ℕ) (b : Bool) (x : Refusal) → rank x ≡ k → (b ≡ true → HasCondition c x) → (y : Refusal) → given b x ≡ Some y → IsRight c k y
right_bool c k true x is so y h = subst (λ z. IsRight c k z) (some_refusal x y h) (is, so refl)
right_bool c k false x is so y h = absurd cc

right_some : {A : Type 0} (c : Conditions) (k : ℕ) (o : Option A) (f : A → Refusal) → ((a : A) → rank (f a) ≡ k) → ((a : A) → o ≡ Some a → HasCondition c (f a)) → (y : Refusal) → option_map f o ≡ Some y → IsRight c k y
right_some c k (Some a) f is so y h = subst (λ z. IsRight c k z) (some_refusal (f a) y h) (is a, so a refl)
right_some c k None f is so y h = absurd cc

all_right : (c : Conditions) → AllRight c 0 (table c)
all_right c = (
  right_bool c 0 c.too_long r.TooLong refl (λ h. h),
  (
    right_bool c 1 c.unknown_word r.UnknownWord refl (λ h. h),
    (
      right_bool c 2 c.syntax_fault r.Syntax refl (λ h. h),
      (
        right_bool c 3 c.no_application r.NoApplication refl (λ h. h),
        (
          right_bool c 4 c.name_taken r.NameTaken refl (λ h. h),
          (
            right_some c 5 c.no_grant (λ l. r.NoGrant l) (λ a. refl) (λ a h. h),
            (
              right_bool c 6 c.wrong_kind r.WrongKind refl (λ h. h),
              (
                right_bool c 7 c.limit r.Limit refl (λ h. h),
                (
                  right_bool c 8 c.no_nic r.NoNic refl (λ h. h),
                  (
                    right_bool c 9 c.out_of_range r.OutOfRange refl (λ h. h),
                    (
                      right_bool c 10 c.table_failed r.TableFailed refl (λ h. h),
                      (
                        right_bool c 11 c.log_failed r.LogFailed refl (λ h. h),
                        (
                          right_bool c 12 c.busy r.Busy refl (λ h. h),
                          (
                            right_bool c 13 c.lent r.Lent refl (λ h. h),
                            (
                              right_bool c 14 c.ring_full r.RingFull refl (λ h. h),
                              (
                                right_bool c 15 c.log_full r.LogFull refl (λ h. h),
                                (
                                  right_bool c 16 c.no_entry r.NoEntry refl (λ h. h),
                                  (
                                    right_bool c 17 c.no_buffer r.NoBuffer refl (λ h. h),
                                    (
                                      right_bool c 18 c.no_space r.NoSpace refl (λ h. h),
                                      (
                                        right_bool c 19 c.scattered r.Scattered refl (λ h. h),
                                        (
                                          right_some c 20 c.overlap (λ f. r.Overlap f.0 f.1) (λ a. refl) (λ a h. h),
                                          (
                                            right_bool c 21 c.no_memory r.NoMemory refl (λ h. h),
                                            (
                                              right_bool c 22 c.device_fault r.DeviceFault refl (λ h. h),
                                              (right_some c 23 c.damaged (λ n. r.Damaged n) (λ a. refl) (λ a h. h), tt),
                                            ),
                                          ),
                                        ),
                                      ),
                                    ),
                                  ),
                                ),
                              ),
                            ),
                          ),
                        ),
                      ),
                    ),
                  ),
                ),
              ),
            ),
          ),
        ),
      ),
    ),
  ),
)

right_at : (c : Conditions) (k : ℕ) (ts : List (Option Refusal)) (i : ℕ) (y : Refusal) → AllRight c k ts → nth ts i ≡ Some y → rank y ≡ k + i
right_at c k [] i y h e = absurd cc
right_at c k (t ∷ ts) zero y h e = (h.0 y e).0 ∙ omega arith
right_at c k (t ∷ ts) (suc i) y h e = let rest : rank y ≡ (k + 1) + i = right_at c (k + 1) ts i y h.1 e in omega (arith, rest)

some_found : (c : Conditions) (k : ℕ) (ts : List (Option Refusal)) (x : Refusal) → AllRight c k ts → first_in ts ≡ Some x → HasCondition c x
some_found c k [] x h e = absurd cc
some_found c k (Some z ∷ ts) x h e = (h.0 x e).1
some_found c k (None ∷ ts) x h e = some_found c (k + 1) ts x h.1 e

least_in : (c : Conditions) (k : ℕ) (ts : List (Option Refusal)) (i : ℕ) (x y : Refusal) → AllRight c k ts → first_in ts ≡ Some x → nth ts i ≡ Some y → rank x ≤ rank y
least_in c k [] i x y h e g = absurd cc
least_in c k (Some z ∷ ts) i x y h e g = let a : rank x ≡ k = (h.0 x e).0 in let b : rank y ≡ k + i = right_at c k (Some z ∷ ts) i y h g in omega (arith, a, b)
least_in c k (None ∷ ts) zero x y h e g = absurd cc
least_in c k (None ∷ ts) (suc i) x y h e g = least_in c (k + 1) ts i x y h.1 e g

-- a refusal whose condition holds is at its rank
at_rank : (c : Conditions) (y : Refusal) → HasCondition c y → nth (table c) (rank y) ≡ Some y
at_rank c r.TooLong h = rw h refl
at_rank c r.UnknownWord h = rw h refl
at_rank c r.Syntax h = rw h refl
at_rank c r.NoApplication h = rw h refl
at_rank c r.NameTaken h = rw h refl
at_rank c (r.NoGrant l) h = rw h refl
at_rank c r.WrongKind h = rw h refl
at_rank c r.Limit h = rw h refl
at_rank c r.NoNic h = rw h refl
at_rank c r.OutOfRange h = rw h refl
at_rank c r.TableFailed h = rw h refl
at_rank c r.LogFailed h = rw h refl
at_rank c r.Busy h = rw h refl
at_rank c r.Lent h = rw h refl
at_rank c r.RingFull h = rw h refl
at_rank c r.LogFull h = rw h refl
at_rank c r.NoEntry h = rw h refl
at_rank c r.NoBuffer h = rw h refl
at_rank c r.NoSpace h = rw h refl
at_rank c r.Scattered h = rw h refl
at_rank c (r.Overlap a f) h = rw h refl
at_rank c r.NoMemory h = rw h refl
at_rank c r.DeviceFault h = rw h refl
at_rank c (r.Damaged n) h = rw h refl

pub first_holds : (c : Conditions) (x : Refusal) → first c ≡ Some x → HasCondition c x
first_holds c x h = some_found c 0 (table c) x (all_right c) (sym (first_is c) ∙ h)

pub first_least : (c : Conditions) (x y : Refusal) → first c ≡ Some x → HasCondition c y → rank x ≤ rank y
first_least c x y h so = least_in c 0 (table c) (rank y) x y (all_right c) (sym (first_is c) ∙ h) (at_rank c y so)

-- where a condition holds, a refusal is chosen
pub some_first : (c : Conditions) (y : Refusal) → HasCondition c y → first c ≡ None → ⊥
some_first c y so h = none_in (table c) (rank y) (sym (first_is c) ∙ h) (at_rank c y so)
  where
    none_in : (ts : List (Option Refusal)) (i : ℕ) → first_in ts ≡ None → nth ts i ≡ Some y → ⊥
    none_in [] i e g = cc
    none_in (Some z ∷ ts) i e g = cc
    none_in (None ∷ ts) zero e g = cc
    none_in (None ∷ ts) (suc i) e g = none_in ts i e g

-- one refusal alone is first: whose condition holds, with the least rank
pub least_first : (c : Conditions) (x : Refusal) → HasCondition c x → ((y : Refusal) → HasCondition c y → rank x ≤ rank y) → first c ≡ Some x
least_first c x h least = by (first c) refl
  where
    by : (o : Option Refusal) → first c ≡ o → o ≡ Some x
    by None is = absurd (some_first c x h is)
    by (Some y) is =
        let so : HasCondition c y = first_holds c y is in
        let one : rank y ≤ rank x = first_least c y x is h in
        let two : rank x ≤ rank y = least y so in
        let same : rank y ≡ rank x = omega (arith, one, two) in
        sym (at_rank c y so) ∙ (ap (λ n. nth (table c) n) same ∙ at_rank c x h)
