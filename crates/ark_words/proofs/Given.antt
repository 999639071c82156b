-- From sorted words to the command that they give.
use Rattle.std.proofs.Common.{◌≡◌, ◌≢◌, ◌∙◌, ◌≤◌, ◌<◌, ◌^◌, ℕ, List, [], ◌∷◌, Option, Some, None, IfSome, length, refl, sym, ap, codes, decimal, bytes_eq, arith, true≢false}
use Rattle.std.proofs.lemmas.Fmt.{decimal_injective}
use Rattle.ark_words.specs.Sorted.{Text, Sorted, sorted, SortsTo}
use Rattle.ark_words.specs.Words.{Command, run, check, work, IsCommand, IsDeviceSize, SortsInto, given}

abbrev sorted_of : List Text → List Text → Sorted
sorted_of a b = record { new = a; plain = b }

some_is : {X : Type 0} (x y : X) → Some x ≡ Some y → x ≡ y
some_is x y e = cc

cons_head : (a b : Text) (xs ys : List Text) → a ∷ xs ≡ b ∷ ys → a ≡ b
cons_head a b xs ys e = cc

cons_tail : (a b : Text) (xs ys : List Text) → a ∷ xs ≡ b ∷ ys → xs ≡ ys
cons_tail a b xs ys e = cc

-- what a command's words after its name sort into
says_sorted : (name other : Text) (rest : List Text) (s : Sorted) → SortsInto (name ∷ rest) other s → (name ≡ other) × (sorted rest ≡ Some s)
says_sorted name other rest s h =
    let head : name ≡ other = cons_head _ _ _ _ h.1 in
    let tail : rest ≡ h.0 = cons_tail _ _ _ _ h.1 in
    (head, ap sorted tail ∙ h.2)

run≢check : codes "run" ≡ codes "check" → ⊥
run≢check e = true≢false (ap (bytes_eq (codes "run")) e)

run≢work : codes "run" ≡ codes "work" → ⊥
run≢work e = true≢false (ap (bytes_eq (codes "run")) e)

check≢work : codes "check" ≡ codes "work" → ⊥
check≢work e = true≢false (ap (bytes_eq (codes "check")) e)

-- ---- the only command that such words can give

pub the_run : (rest : List Text) (c : Command) → IsCommand (codes "run" ∷ rest) c
    → (blocks : Option ℕ) × (device : Text) × (sorted rest ≡ Some (sorted_of (given blocks) (device ∷ []))) × IfSome blocks IsDeviceSize × (device ≢ [])
the_run rest (run blocks device) h = (blocks, device, (says_sorted _ _ rest _ h.0).1, h.1, h.2)
the_run rest (check device) h = absurd (run≢check (says_sorted _ _ rest _ h.0).0)
the_run rest (work seed lines device) h = absurd (run≢work (says_sorted _ _ rest _ h.0).0)

pub the_check : (rest : List Text) (c : Command) → IsCommand (codes "check" ∷ rest) c
    → (device : Text) × (sorted rest ≡ Some (sorted_of [] (device ∷ []))) × (device ≢ [])
the_check rest (run blocks device) h = absurd (run≢check (sym (says_sorted _ _ rest _ h.0).0))
the_check rest (check device) h = (device, (says_sorted _ _ rest _ h.0).1, h.1)
the_check rest (work seed lines device) h = absurd (check≢work (says_sorted _ _ rest _ h.0).0)

pub the_work : (rest : List Text) (c : Command) → IsCommand (codes "work" ∷ rest) c
    → (seed : ℕ) × (lines : ℕ) × (device : Text) × (sorted rest ≡ Some (sorted_of [] (decimal seed ∷ decimal lines ∷ device ∷ []))) × (seed < 2 ^ 64) × (lines ≤ 1000000) × (device ≢ [])
the_work rest (run blocks device) h = absurd (run≢work (sym (says_sorted _ _ rest _ h.0).0))
the_work rest (check device) h = absurd (check≢work (sym (says_sorted _ _ rest _ h.0).0))
the_work rest (work seed lines device) h = (seed, lines, device, (says_sorted _ _ rest _ h.0).1, h.1, h.2, h.3)

-- ---- words that give no command

given_length : (o : Option ℕ) → length (given o) ≤ 1
given_length None = omega arith
given_length (Some n) = omega arith

pub no_run : (rest : List Text) → ((s : Sorted) → SortsTo rest 1 1 s → ⊥) → (c : Command) → IsCommand (codes "run" ∷ rest) c → ⊥
no_run rest none c h =
    let r = the_run rest c h in
    none (sorted_of (given r.0) (r.1 ∷ [])) (record { is = r.2; new = given_length r.0; plain = refl })

pub no_check : (rest : List Text) → ((s : Sorted) → SortsTo rest 0 1 s → ⊥) → (c : Command) → IsCommand (codes "check" ∷ rest) c → ⊥
no_check rest none c h =
    let r = the_check rest c h in
    none (sorted_of [] (r.0 ∷ [])) (record { is = r.1; new = omega arith; plain = refl })

pub no_work : (rest : List Text) → ((s : Sorted) → SortsTo rest 0 3 s → ⊥) → (c : Command) → IsCommand (codes "work" ∷ rest) c → ⊥
no_work rest none c h =
    let r = the_work rest c h in
    none (sorted_of [] (decimal r.0 ∷ decimal r.1 ∷ r.2 ∷ [])) (record { is = r.3; new = omega arith; plain = refl })

-- ---- words give one command

says_same : (words : List Text) (name other : Text) (s r : Sorted) → SortsInto words name s → SortsInto words other r → (name ≡ other) × (s ≡ r)
says_same words name other s r h k =
    let both : name ∷ h.0 ≡ other ∷ k.0 = sym h.1 ∙ k.1 in
    (cons_head _ _ _ _ both, some_is _ _ (sym h.2 ∙ ap sorted (cons_tail _ _ _ _ both) ∙ k.2))

one_same : (a b : Text) → a ∷ [] ≡ b ∷ [] → a ≡ b
one_same a b e = cc

given_same : (a b : Option ℕ) → IfSome a IsDeviceSize → IfSome b IsDeviceSize → given a ≡ given b → a ≡ b
given_same None None f g e = refl
given_same None (Some n) f g e = cc
given_same (Some m) None f g e = cc
given_same (Some m) (Some n) f g e = ap Some (decimal_injective m n (omega arith) (omega arith) (one_same _ _ e))

three_first : (a b d x y z : Text) → a ∷ b ∷ d ∷ [] ≡ x ∷ y ∷ z ∷ [] → a ≡ x
three_first a b d x y z e = cc

three_second : (a b d x y z : Text) → a ∷ b ∷ d ∷ [] ≡ x ∷ y ∷ z ∷ [] → b ≡ y
three_second a b d x y z e = cc

three_third : (a b d x y z : Text) → a ∷ b ∷ d ∷ [] ≡ x ∷ y ∷ z ∷ [] → d ≡ z
three_third a b d x y z e = cc

pub only : (words : List Text) (c d : Command) → IsCommand words c → IsCommand words d → d ≡ c
only words (run a x) (run b y) h k =
    let same = (says_same words _ _ _ _ h.0 k.0).1 in
    let blocks : b ≡ a = given_same b a k.1 h.1 (sym (ap (λ (s : Sorted). s.new) same)) in
    let device : y ≡ x = sym (one_same _ _ (ap (λ (s : Sorted). s.plain) same)) in
    rw (blocks, device) refl
only words (run a x) (check y) h k = absurd (run≢check (says_same words _ _ _ _ h.0 k.0).0)
only words (run a x) (work m n y) h k = absurd (run≢work (says_same words _ _ _ _ h.0 k.0).0)
only words (check x) (run b y) h k = absurd (run≢check (says_same words _ _ _ _ k.0 h.0).0)
only words (check x) (check y) h k =
    let device : y ≡ x = sym (one_same _ _ (ap (λ (s : Sorted). s.plain) (says_same words _ _ _ _ h.0 k.0).1)) in
    rw device refl
only words (check x) (work m n y) h k = absurd (check≢work (says_same words _ _ _ _ h.0 k.0).0)
only words (work p q x) (run b y) h k = absurd (run≢work (says_same words _ _ _ _ k.0 h.0).0)
only words (work p q x) (check y) h k = absurd (check≢work (says_same words _ _ _ _ k.0 h.0).0)
only words (work p q x) (work m n y) h k =
    let same = ap (λ (s : Sorted). s.plain) (says_same words _ _ _ _ h.0 k.0).1 in
    let seed : m ≡ p = decimal_injective m p k.1 h.1 (sym (three_first _ _ _ _ _ _ same)) in
    let lines : n ≡ q = decimal_injective n q (omega (arith, k.2)) (omega (arith, h.2)) (sym (three_second _ _ _ _ _ _ same)) in
    let device : y ≡ x = sym (three_third _ _ _ _ _ _ same) in
    rw (seed, lines, device) refl
