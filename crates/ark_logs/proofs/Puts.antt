-- Machines in which the objects at two labels change, in one order and the other.
use Rattle.std.proofs.Common.{◌≡◌, inl, inr, ℕ, true, false, cond, List, [], ◌∷◌, map, refl, sym, ◌∙◌, ap, bytes_eq}
use Rattle.std.specs.Prelude.{Some}
use Rattle.ark_machine.specs.Objects.{Object}
use Rattle.ark_machine.specs.Machine.{Machine, Held, at, holding, with_object}
use Rattle.ark_held.specs.Around.{Around}
use Rattle.ark_held.specs.Held.{Holds}
use Rattle.ark_held.proofs.Changing.{put_at}
use Rattle.ark_held.proofs.Finding.{found_there}
use Rattle.ark_held.proofs.Lists.{by_test, other_name, same_name, some_same}
use Rattle.ark_held.proofs.Members.{In}

put_label : (l : List ℕ) (o : Object) (g : Held) → (put_at l o g).label ≡ g.label
put_label l o g = by_test (λ t. (cond t (holding o g) g).label ≡ g.label) (bytes_eq l g.label) (λ yes. refl) (λ no. refl)

twice : (l : List ℕ) (o p : Object) (g : Held) → put_at l p (put_at l o g) ≡ put_at l p g
twice l o p g = by_test (λ t. bytes_eq l g.label ≡ t → put_at l p (put_at l o g) ≡ put_at l p g) (bytes_eq l g.label)
    (λ yes q.
    let first : put_at l o g ≡ holding o g = ap (λ b. cond b (holding o g) g) q in
    ap (λ (z : Held). put_at l p z) first ∙ ap (λ b. cond b (holding p (holding o g)) (holding o g)) q ∙ sym (ap (λ b. cond b (holding p g) g) q))
    (λ no q. ap (λ (z : Held). put_at l p z) (ap (λ b. cond b (holding o g) g) q)) refl

turn : (s v : List ℕ) (o p : Object) → bytes_eq s v ≡ false → (g : Held) → put_at s o (put_at v p g) ≡ put_at v p (put_at s o g)
turn s v o p apart g = by_test (λ t. bytes_eq s g.label ≡ t → put_at s o (put_at v p g) ≡ put_at v p (put_at s o g)) (bytes_eq s g.label)
    (λ yes q.
    let not_v : bytes_eq v g.label ≡ false = by_test (λ t. bytes_eq v g.label ≡ t → t ≡ false) (bytes_eq v g.label) (λ y w. absurd (other_name s v apart (same_name s g.label q ∙ sym (same_name v g.label w)))) (λ n w. refl) refl in
    let here : put_at v p g ≡ g = ap (λ b. cond b (holding p g) g) not_v in
    let then : put_at v p (holding o g) ≡ holding o g = ap (λ b. cond b (holding p (holding o g)) (holding o g)) not_v in
    let first : put_at s o g ≡ holding o g = ap (λ b. cond b (holding o g) g) q in
    ap (λ (z : Held). put_at s o z) here ∙ first ∙ sym (ap (λ (z : Held). put_at v p z) first ∙ then))
    (λ no q.
    let here : put_at s o g ≡ g = ap (λ b. cond b (holding o g) g) q in
    let label = put_label v p g in
    ap (λ b. cond b (holding o (put_at v p g)) (put_at v p g)) (ap (λ k. bytes_eq s k) label ∙ q) ∙ ap (λ (z : Held). put_at v p z) (sym here)) refl

all_twice : (l : List ℕ) (o p : Object) (hs : List Held) → map (put_at l p) (map (put_at l o) hs) ≡ map (put_at l p) hs
all_twice l o p [] = refl
all_twice l o p (g ∷ gs) = ap (λ (z : Held). z ∷ map (put_at l p) (map (put_at l o) gs)) (twice l o p g) ∙ ap (λ (zs : List Held). put_at l p g ∷ zs) (all_twice l o p gs)

all_turn : (s v : List ℕ) (o p : Object) → bytes_eq s v ≡ false → (hs : List Held) → map (put_at s o) (map (put_at v p) hs) ≡ map (put_at v p) (map (put_at s o) hs)
all_turn s v o p apart [] = refl
all_turn s v o p apart (g ∷ gs) = ap (λ (z : Held). z ∷ map (put_at s o) (map (put_at v p) gs)) (turn s v o p apart g) ∙ ap (λ (zs : List Held). put_at v p (put_at s o g) ∷ zs) (all_turn s v o p apart gs)

all_same : (l : List ℕ) (o : Object) (hs : List Held) → ((g : Held) → In hs g → bytes_eq l g.label ≡ true → g.object ≡ o) → map (put_at l o) hs ≡ hs
all_same l o [] its = refl
all_same l o (g ∷ gs) its =
    let first : put_at l o g ≡ g = by_test (λ t. bytes_eq l g.label ≡ t → put_at l o g ≡ g) (bytes_eq l g.label)
    (λ yes q. ap (λ b. cond b (holding o g) g) q ∙ ap (λ (z : Object). holding z g) (sym (its g (inl refl) q))) (λ no q. ap (λ b. cond b (holding o g) g) q) refl in
    ap (λ (z : Held). z ∷ map (put_at l o) gs) first ∙ ap (λ (zs : List Held). g ∷ zs) (all_same l o gs (λ z inn. its z (inr inn)))

-- the later of two changes stays
pub put_twice : (m : Machine) (l : List ℕ) (o p : Object) → with_object (with_object m l o) l p ≡ with_object m l p
put_twice m l o p = ap (λ (hs : List Held). record m { held = hs }) (all_twice l o p m.held)

-- changes at two labels in the other order
pub put_turned : (m : Machine) (s v : List ℕ) (o p : Object) → bytes_eq s v ≡ false → with_object (with_object m v p) s o ≡ with_object (with_object m s o) v p
put_turned m s v o p apart = ap (λ (hs : List Held). record m { held = hs }) (all_turn s v o p apart m.held)

-- the object that is there
pub put_same : (x : Around) → Holds x → (l : List ℕ) (h : Held) (o : Object) → at x.machine l ≡ Some h → h.object ≡ o → with_object x.machine l o ≡ x.machine
put_same x holds l h o there is = ap (λ (hs : List Held). record x.machine { held = hs }) (all_same l o x.machine.held (λ g inn q.
    let mine : g ≡ h = some_same (at x.machine l) g h (ap (λ k. at x.machine k) (same_name l g.label q) ∙ found_there x x.labels x.machine.held g holds.apart holds.held inn) there in
    ap (λ (z : Held). z.object) mine ∙ is))
