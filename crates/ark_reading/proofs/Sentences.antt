-- Words behind the first are read just where each spells its argument.
use Rattle.std.proofs.Common.{◌≡◌, ℕ, List, [], ◌∷◌, Option, Some, refl, subst}
use Rattle.std.proofs.lemmas.Option.{same_Some}
use Rattle.ark_script.specs.Form.{One, Two, Three, Four, Five, Six}
use Rattle.ark_forms.specs.Reading.{one_of, two_of, three_of, four_of, five_of, six_of}
use Rattle.ark_forms.proofs.Readers.{Reads, bind_some}
use Rattle.ark_reading.specs.Sentence.{one_read, two_read, three_read, four_read, five_read, six_read}

pub one_reads : {A : Type 0} (f : List ℕ → Option A) (P : A → List ℕ → Type 0) → Reads f P
    → Reads {W = List (List ℕ)} {A = A} (one_read f) (λ (x : A). One (P x))
unfolding one_read one_of
one_reads {A = A} f P rf = record { sound = sound; complete = complete }
  where
    sound : (words : List (List ℕ)) (x : A) → one_read f words ≡ Some x → (λ (x : A). One (P x)) x words
    sound [] x e = cc
    sound (w0 ∷ []) x e =
        let s0 = bind_some (f w0) _ x e in
        let same : s0.0 ≡ x = same_Some _ _ s0.2 in
        subst (λ (y : A). (λ (x : A). One (P x)) y (w0 ∷ [])) {x = s0.0} same (rf.sound w0 s0.0 s0.1)
    sound (w0 ∷ z ∷ zs) x e = cc

    complete : (words : List (List ℕ)) (x : A) → (λ (x : A). One (P x)) x words → one_read f words ≡ Some x
    complete [] x h = absurd h
    complete (w0 ∷ []) x h = rw (rf.complete w0 x h) refl
    complete (w0 ∷ z ∷ zs) x h = absurd h

pub two_reads : {A B : Type 0} (f : List ℕ → Option A) (P : A → List ℕ → Type 0) (g : List ℕ → Option B) (Q : B → List ℕ → Type 0) → Reads f P → Reads g Q
    → Reads {W = List (List ℕ)} {A = (A × B)} (two_read f g) (λ (x : A × B). Two (P x.0) (Q x.1))
unfolding two_read one_of two_of
two_reads {A = A} {B = B} f P g Q rf rg = record { sound = sound; complete = complete }
  where
    sound : (words : List (List ℕ)) (x : (A × B)) → two_read f g words ≡ Some x → (λ (x : A × B). Two (P x.0) (Q x.1)) x words
    sound [] x e = cc
    sound (w0 ∷ []) x e = cc
    sound (w0 ∷ w1 ∷ []) x e =
        let s0 = bind_some (f w0) _ x e in
        let s1 = bind_some (g w1) _ x s0.2 in
        let same : (s0.0, s1.0) ≡ x = same_Some _ _ s1.2 in
        subst (λ (y : (A × B)). (λ (x : A × B). Two (P x.0) (Q x.1)) y (w0 ∷ w1 ∷ [])) {x = (s0.0, s1.0)} same (rf.sound w0 s0.0 s0.1, rg.sound w1 s1.0 s1.1)
    sound (w0 ∷ w1 ∷ z ∷ zs) x e = cc

    complete : (words : List (List ℕ)) (x : (A × B)) → (λ (x : A × B). Two (P x.0) (Q x.1)) x words → two_read f g words ≡ Some x
    complete [] x h = absurd h
    complete (w0 ∷ []) x h = absurd h
    complete (w0 ∷ w1 ∷ []) x h = rw (rf.complete w0 x.0 h.0, rg.complete w1 x.1 h.1) refl
    complete (w0 ∷ w1 ∷ z ∷ zs) x h = absurd h

pub three_reads : {A B C : Type 0} (f : List ℕ → Option A) (P : A → List ℕ → Type 0) (g : List ℕ → Option B) (Q : B → List ℕ → Type 0) (h : List ℕ → Option C) (R : C → List ℕ → Type 0) → Reads f P → Reads g Q → Reads h R
    → Reads {W = List (List ℕ)} {A = (A × B × C)} (three_read f g h) (λ (x : A × B × C). Three (P x.0) (Q x.1) (R x.2))
unfolding three_read one_of two_of three_of
three_reads {A = A} {B = B} {C = C} f P g Q h R rf rg rh = record { sound = sound; complete = complete }
  where
    sound : (words : List (List ℕ)) (x : (A × B × C)) → three_read f g h words ≡ Some x → (λ (x : A × B × C). Three (P x.0) (Q x.1) (R x.2)) x words
    sound [] x e = cc
    sound (w0 ∷ []) x e = cc
    sound (w0 ∷ w1 ∷ []) x e = cc
    sound (w0 ∷ w1 ∷ w2 ∷ []) x e =
        let s0 = bind_some (f w0) _ x e in
        let s1 = bind_some (g w1) _ x s0.2 in
        let s2 = bind_some (h w2) _ x s1.2 in
        let same : (s0.0, s1.0, s2.0) ≡ x = same_Some _ _ s2.2 in
        subst (λ (y : (A × B × C)). (λ (x : A × B × C). Three (P x.0) (Q x.1) (R x.2)) y (w0 ∷ w1 ∷ w2 ∷ [])) {x = (s0.0, s1.0, s2.0)} same (rf.sound w0 s0.0 s0.1, rg.sound w1 s1.0 s1.1, rh.sound w2 s2.0 s2.1)
    sound (w0 ∷ w1 ∷ w2 ∷ z ∷ zs) x e = cc

    complete : (words : List (List ℕ)) (x : (A × B × C)) → (λ (x : A × B × C). Three (P x.0) (Q x.1) (R x.2)) x words → three_read f g h words ≡ Some x
    complete [] x h = absurd h
    complete (w0 ∷ []) x h = absurd h
    complete (w0 ∷ w1 ∷ []) x h = absurd h
    complete (w0 ∷ w1 ∷ w2 ∷ []) x h = rw (rf.complete w0 x.0 h.0, rg.complete w1 x.1 h.1, rh.complete w2 x.2 h.2) refl
    complete (w0 ∷ w1 ∷ w2 ∷ z ∷ zs) x h = absurd h

pub four_reads : {A B C D : Type 0} (f : List ℕ → Option A) (P : A → List ℕ → Type 0) (g : List ℕ → Option B) (Q : B → List ℕ → Type 0) (h : List ℕ → Option C) (R : C → List ℕ → Type 0) (i : List ℕ → Option D) (S : D → List ℕ → Type 0) → Reads f P → Reads g Q → Reads h R → Reads i S
    → Reads {W = List (List ℕ)} {A = (A × B × C × D)} (four_read f g h i) (λ (x : A × B × C × D). Four (P x.0) (Q x.1) (R x.2) (S x.3))
unfolding four_read one_of two_of three_of four_of
four_reads {A = A} {B = B} {C = C} {D = D} f P g Q h R i S rf rg rh ri = record { sound = sound; complete = complete }
  where
    sound : (words : List (List ℕ)) (x : (A × B × C × D)) → four_read f g h i words ≡ Some x → (λ (x : A × B × C × D). Four (P x.0) (Q x.1) (R x.2) (S x.3)) x words
    sound [] x e = cc
    sound (w0 ∷ []) x e = cc
    sound (w0 ∷ w1 ∷ []) x e = cc
    sound (w0 ∷ w1 ∷ w2 ∷ []) x e = cc
    sound (w0 ∷ w1 ∷ w2 ∷ w3 ∷ []) x e =
        let s0 = bind_some (f w0) _ x e in
        let s1 = bind_some (g w1) _ x s0.2 in
        let s2 = bind_some (h w2) _ x s1.2 in
        let s3 = bind_some (i w3) _ x s2.2 in
        let same : (s0.0, s1.0, s2.0, s3.0) ≡ x = same_Some _ _ s3.2 in
        subst (λ (y : (A × B × C × D)). (λ (x : A × B × C × D). Four (P x.0) (Q x.1) (R x.2) (S x.3)) y (w0 ∷ w1 ∷ w2 ∷ w3 ∷ [])) {x = (s0.0, s1.0, s2.0, s3.0)} same (rf.sound w0 s0.0 s0.1, rg.sound w1 s1.0 s1.1, rh.sound w2 s2.0 s2.1, ri.sound w3 s3.0 s3.1)
    sound (w0 ∷ w1 ∷ w2 ∷ w3 ∷ z ∷ zs) x e = cc

    complete : (words : List (List ℕ)) (x : (A × B × C × D)) → (λ (x : A × B × C × D). Four (P x.0) (Q x.1) (R x.2) (S x.3)) x words → four_read f g h i words ≡ Some x
    complete [] x h = absurd h
    complete (w0 ∷ []) x h = absurd h
    complete (w0 ∷ w1 ∷ []) x h = absurd h
    complete (w0 ∷ w1 ∷ w2 ∷ []) x h = absurd h
    complete (w0 ∷ w1 ∷ w2 ∷ w3 ∷ []) x h = rw (rf.complete w0 x.0 h.0, rg.complete w1 x.1 h.1, rh.complete w2 x.2 h.2, ri.complete w3 x.3 h.3) refl
    complete (w0 ∷ w1 ∷ w2 ∷ w3 ∷ z ∷ zs) x h = absurd h

pub five_reads : {A B C D E : Type 0} (f : List ℕ → Option A) (P : A → List ℕ → Type 0) (g : List ℕ → Option B) (Q : B → List ℕ → Type 0) (h : List ℕ → Option C) (R : C → List ℕ → Type 0) (i : List ℕ → Option D) (S : D → List ℕ → Type 0) (j : List ℕ → Option E) (T : E → List ℕ → Type 0) → Reads f P → Reads g Q → Reads h R → Reads i S → Reads j T
    → Reads {W = List (List ℕ)} {A = (A × B × C × D × E)} (five_read f g h i j) (λ (x : A × B × C × D × E). Five (P x.0) (Q x.1) (R x.2) (S x.3) (T x.4))
unfolding five_read one_of two_of three_of four_of five_of
five_reads {A = A} {B = B} {C = C} {D = D} {E = E} f P g Q h R i S j T rf rg rh ri rj = record { sound = sound; complete = complete }
  where
    sound : (words : List (List ℕ)) (x : (A × B × C × D × E)) → five_read f g h i j words ≡ Some x → (λ (x : A × B × C × D × E). Five (P x.0) (Q x.1) (R x.2) (S x.3) (T x.4)) x words
    sound [] x e = cc
    sound (w0 ∷ []) x e = cc
    sound (w0 ∷ w1 ∷ []) x e = cc
    sound (w0 ∷ w1 ∷ w2 ∷ []) x e = cc
    sound (w0 ∷ w1 ∷ w2 ∷ w3 ∷ []) x e = cc
    sound (w0 ∷ w1 ∷ w2 ∷ w3 ∷ w4 ∷ []) x e =
        let s0 = bind_some (f w0) _ x e in
        let s1 = bind_some (g w1) _ x s0.2 in
        let s2 = bind_some (h w2) _ x s1.2 in
        let s3 = bind_some (i w3) _ x s2.2 in
        let s4 = bind_some (j w4) _ x s3.2 in
        let same : (s0.0, s1.0, s2.0, s3.0, s4.0) ≡ x = same_Some _ _ s4.2 in
        subst (λ (y : (A × B × C × D × E)). (λ (x : A × B × C × D × E). Five (P x.0) (Q x.1) (R x.2) (S x.3) (T x.4)) y (w0 ∷ w1 ∷ w2 ∷ w3 ∷ w4 ∷ [])) {x = (s0.0, s1.0, s2.0, s3.0, s4.0)} same (rf.sound w0 s0.0 s0.1, rg.sound w1 s1.0 s1.1, rh.sound w2 s2.0 s2.1, ri.sound w3 s3.0 s3.1, rj.sound w4 s4.0 s4.1)
    sound (w0 ∷ w1 ∷ w2 ∷ w3 ∷ w4 ∷ z ∷ zs) x e = cc

    complete : (words : List (List ℕ)) (x : (A × B × C × D × E)) → (λ (x : A × B × C × D × E). Five (P x.0) (Q x.1) (R x.2) (S x.3) (T x.4)) x words → five_read f g h i j words ≡ Some x
    complete [] x h = absurd h
    complete (w0 ∷ []) x h = absurd h
    complete (w0 ∷ w1 ∷ []) x h = absurd h
    complete (w0 ∷ w1 ∷ w2 ∷ []) x h = absurd h
    complete (w0 ∷ w1 ∷ w2 ∷ w3 ∷ []) x h = absurd h
    complete (w0 ∷ w1 ∷ w2 ∷ w3 ∷ w4 ∷ []) x h = rw (rf.complete w0 x.0 h.0, rg.complete w1 x.1 h.1, rh.complete w2 x.2 h.2, ri.complete w3 x.3 h.3, rj.complete w4 x.4 h.4) refl
    complete (w0 ∷ w1 ∷ w2 ∷ w3 ∷ w4 ∷ z ∷ zs) x h = absurd h

pub six_reads : {A B C D E F : Type 0} (f : List ℕ → Option A) (P : A → List ℕ → Type 0) (g : List ℕ → Option B) (Q : B → List ℕ → Type 0) (h : List ℕ → Option C) (R : C → List ℕ → Type 0) (i : List ℕ → Option D) (S : D → List ℕ → Type 0) (j : List ℕ → Option E) (T : E → List ℕ → Type 0) (k : List ℕ → Option F) (U : F → List ℕ → Type 0) → Reads f P → Reads g Q → Reads h R → Reads i S → Reads j T → Reads k U
    → Reads {W = List (List ℕ)} {A = (A × B × C × D × E × F)} (six_read f g h i j k) (λ (x : A × B × C × D × E × F). Six (P x.0) (Q x.1) (R x.2) (S x.3) (T x.4) (U x.5))
unfolding six_read one_of two_of three_of four_of five_of six_of
six_reads {A = A} {B = B} {C = C} {D = D} {E = E} {F = F} f P g Q h R i S j T k U rf rg rh ri rj rk = record { sound = sound; complete = complete }
  where
    sound : (words : List (List ℕ)) (x : (A × B × C × D × E × F)) → six_read f g h i j k words ≡ Some x → (λ (x : A × B × C × D × E × F). Six (P x.0) (Q x.1) (R x.2) (S x.3) (T x.4) (U x.5)) x words
    sound [] x e = cc
    sound (w0 ∷ []) x e = cc
    sound (w0 ∷ w1 ∷ []) x e = cc
    sound (w0 ∷ w1 ∷ w2 ∷ []) x e = cc
    sound (w0 ∷ w1 ∷ w2 ∷ w3 ∷ []) x e = cc
    sound (w0 ∷ w1 ∷ w2 ∷ w3 ∷ w4 ∷ []) x e = cc
    sound (w0 ∷ w1 ∷ w2 ∷ w3 ∷ w4 ∷ w5 ∷ []) x e =
        let s0 = bind_some (f w0) _ x e in
        let s1 = bind_some (g w1) _ x s0.2 in
        let s2 = bind_some (h w2) _ x s1.2 in
        let s3 = bind_some (i w3) _ x s2.2 in
        let s4 = bind_some (j w4) _ x s3.2 in
        let s5 = bind_some (k w5) _ x s4.2 in
        let same : (s0.0, s1.0, s2.0, s3.0, s4.0, s5.0) ≡ x = same_Some _ _ s5.2 in
        subst (λ (y : (A × B × C × D × E × F)). (λ (x : A × B × C × D × E × F). Six (P x.0) (Q x.1) (R x.2) (S x.3) (T x.4) (U x.5)) y (w0 ∷ w1 ∷ w2 ∷ w3 ∷ w4 ∷ w5 ∷ [])) {x = (s0.0, s1.0, s2.0, s3.0, s4.0, s5.0)} same (rf.sound w0 s0.0 s0.1, rg.sound w1 s1.0 s1.1, rh.sound w2 s2.0 s2.1, ri.sound w3 s3.0 s3.1, rj.sound w4 s4.0 s4.1, rk.sound w5 s5.0 s5.1)
    sound (w0 ∷ w1 ∷ w2 ∷ w3 ∷ w4 ∷ w5 ∷ z ∷ zs) x e = cc

    complete : (words : List (List ℕ)) (x : (A × B × C × D × E × F)) → (λ (x : A × B × C × D × E × F). Six (P x.0) (Q x.1) (R x.2) (S x.3) (T x.4) (U x.5)) x words → six_read f g h i j k words ≡ Some x
    complete [] x h = absurd h
    complete (w0 ∷ []) x h = absurd h
    complete (w0 ∷ w1 ∷ []) x h = absurd h
    complete (w0 ∷ w1 ∷ w2 ∷ []) x h = absurd h
    complete (w0 ∷ w1 ∷ w2 ∷ w3 ∷ []) x h = absurd h
    complete (w0 ∷ w1 ∷ w2 ∷ w3 ∷ w4 ∷ []) x h = absurd h
    complete (w0 ∷ w1 ∷ w2 ∷ w3 ∷ w4 ∷ w5 ∷ []) x h = rw (rf.complete w0 x.0 h.0, rg.complete w1 x.1 h.1, rh.complete w2 x.2 h.2, ri.complete w3 x.3 h.3, rj.complete w4 x.4 h.4, rk.complete w5 x.5 h.5) refl
    complete (w0 ∷ w1 ∷ w2 ∷ w3 ∷ w4 ∷ w5 ∷ z ∷ zs) x h = absurd h
