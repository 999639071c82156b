-- A log and the card on which it is open, each with another content: what each object is then, and what a sum over all comes to.
use Rattle.std.proofs.Common.{◌≡◌, inl, inr, ℕ, ◌+◌, Bool, true, false, not, cond, ◌&&◌, List, [], ◌∷◌, map, refl, sym, ◌∙◌, ap, subst, arith, bytes_eq}
use Rattle.std.specs.Prelude.{Some, None, find, is_some}
use Rattle.std.proofs.lemmas.Bool.{false≢true, and_parts}
use Rattle.std.proofs.lemmas.Simd.{map-map}
use Rattle.ark_caps.specs.Labels.{value_at}
use Rattle.ark_caps.specs.declared.capability.Capability.{Capability}
use Rattle.ark_caladan.specs.Chain.{Log}
use Rattle.ark_machine.specs.Objects
use Rattle.ark_machine.specs.Objects.{Object, Vsic}
use Rattle.ark_machine.specs.Machine.{Machine, Held, at, with_object}
use Rattle.ark_held.specs.Words.{Labels}
use Rattle.ark_held.specs.Totals.{total}
use Rattle.ark_held.specs.Around.{Around}
use Rattle.ark_held.specs.Areas.{IsLog}
use Rattle.ark_held.specs.Cards.{IsCard}
use Rattle.ark_held.specs.Held.{IsObjectOf, AllMatch, AreDistinctLabels, Matches, Holds}
use Rattle.ark_held.proofs.Lists.{by_test, same_name, other_name, name_other, some_same, head_apart}
use Rattle.ark_held.proofs.Changing.{put_at}
use Rattle.ark_held.proofs.Covering.{found_in}
use Rattle.ark_held.proofs.Finding.{found_there, its_own}
use Rattle.ark_held.proofs.Members.{In}

-- A sum in which one member changes, where the others add what they added.
pub total_turned : (x : Around) (f : Held → Held) (c : Object → ℕ) (l : List ℕ) (g : Held) (ps : Labels) (hs : List Held) → AreDistinctLabels ps → AllMatch x ps hs
    → ((p : List ℕ × Capability) (h : Held) → In hs h → Matches x p h → bytes_eq l p.0 ≡ false → c (f h).object ≡ c h.object)
    → find (λ z. bytes_eq l z.label) hs ≡ Some g → total (λ h. c h.object) (map f hs) + c g.object ≡ total (λ h. c h.object) hs + c (f g).object
total_turned x f c l g [] [] apart all same is = absurd (false≢true (ap is_some is))
total_turned x f c l g (p ∷ ps) (h ∷ hs) apart all same is =
    by_test (λ t. bytes_eq l p.0 ≡ t → total (λ z. c z.object) (map f (h ∷ hs)) + c g.object ≡ total (λ z. c z.object) (h ∷ hs) + c (f g).object) (bytes_eq l p.0)
    (λ yes q.
    let none : value_at ps l ≡ None = ap (λ k. value_at ps k) (same_name l p.0 q) ∙ apart.0 in
    let e = its_own x l p ps h g hs all.0 q is in
    let here : c h.object ≡ c g.object = ap (λ (z : Held). c z.object) e in
    let then : c (f h).object ≡ c (f g).object = ap (λ (z : Held). c (f z).object) e in
    let rest = none_turned ps hs none all.1 (λ o z inn m other. same o z (inr inn) m other) in
    omega (arith, here, then, rest))
    (λ no q.
    let here = same p h (inl refl) all.0 q in
    let rest = total_turned x f c l g ps hs apart.1 all.1 (λ o z inn m other. same o z (inr inn) m other) (sym (ap (λ b. cond b (Some h) (find (λ z. bytes_eq l z.label) hs)) (ap (λ k. bytes_eq l k) all.0.label ∙ q)) ∙ is) in
    omega (arith, here, rest)) refl
  where
    none_turned : (qs : Labels) (zs : List Held) → value_at qs l ≡ None → AllMatch x qs zs
        → ((o : List ℕ × Capability) (z : Held) → In zs z → Matches x o z → bytes_eq l o.0 ≡ false → c (f z).object ≡ c z.object) → total (λ z. c z.object) (map f zs) ≡ total (λ z. c z.object) zs
    none_turned [] [] none all same = refl
    none_turned (o ∷ qs) (z ∷ zs) none all same =
        let n = head_apart o qs l none in
        let here = same o z (inl refl) all.0 n.0 in
        let rest = none_turned qs zs n.1 all.1 (λ a b inn m other. same a b (inr inn) m other) in
        omega (arith, here, rest)
    none_turned [] (z ∷ zs) none all same = absurd all
    none_turned (o ∷ qs) [] none all same = absurd all
total_turned x f c l g [] (h ∷ hs) apart all same is = absurd all
total_turned x f c l g (p ∷ ps) [] apart all same is = absurd all

-- a log and a storage card under their labels
pub record HasOpen (x : Around) (s v : List ℕ) : Type 0 where
  pub held_log : Held
  pub log : Log
  pub area : Capability
  pub there_log : at x.machine s ≡ Some held_log
  pub object_log : held_log.object ≡ Objects.log log
  pub area_label : value_at x.labels s ≡ Some area
  pub log_fits : IsLog x s area log
  pub held_card : Held
  pub vsic : Vsic
  pub card : Capability
  pub there_card : at x.machine v ≡ Some held_card
  pub object_card : held_card.object ≡ Objects.vsic vsic
  pub card_label : value_at x.labels v ≡ Some card
  pub card_fits : IsCard x v card vsic

-- neither of two labels
abbrev pub neither : List ℕ → List ℕ → List ℕ → Bool
neither s v k = not (bytes_eq s k) && not (bytes_eq v k)

module _ (x : Around) (s v : List ℕ) (h : Holds x) (both : HasOpen x s v) where
  -- the log is no card
  pub log_apart : bytes_eq s v ≡ false
  log_apart = name_other s v (λ same.
      let object = sym both.object_log ∙ ap (λ (g : Held). g.object) (some_same (at x.machine s) both.held_log both.held_card both.there_log (ap (λ k. at x.machine k) same ∙ both.there_card)) ∙ both.object_card in
      false≢true (sym (ap (λ (o : Object). is_some (Objects.as_log o)) object)))

  not_false : (p : Bool) → not p ≡ true → p ≡ false
  not_false true q = absurd (false≢true q)
  not_false false q = refl

  pub apart : (k : List ℕ) → neither s v k ≡ true → (bytes_eq s k ≡ false) × (bytes_eq v k ≡ false)
  apart k q = let p = and_parts (not (bytes_eq s k)) (not (bytes_eq v k)) q in (not_false (bytes_eq s k) p.0, not_false (bytes_eq v k) p.1)

  module _ (log1 : Log) (vsic1 : Vsic) where
    abbrev pub both_put : Held → Held
    both_put g = put_at v (Objects.vsic vsic1) (put_at s (Objects.log log1) g)

    -- both have changed
    abbrev pub both_then : Machine
    both_then = with_object (with_object x.machine s (Objects.log log1)) v (Objects.vsic vsic1)

    put_label : (l : List ℕ) (o : Object) (g : Held) → (put_at l o g).label ≡ g.label
    put_label l o g = by_test (λ q. (cond q (record g { object = o }) g).label ≡ g.label) (bytes_eq l g.label) (λ yes. refl) (λ no. refl)

    put_serial : (l : List ℕ) (o : Object) (g : Held) → (put_at l o g).serial ≡ g.serial
    put_serial l o g = by_test (λ q. (cond q (record g { object = o }) g).serial ≡ g.serial) (bytes_eq l g.label) (λ yes. refl) (λ no. refl)

    put_other : (l : List ℕ) (o : Object) (g : Held) → bytes_eq l g.label ≡ false → put_at l o g ≡ g
    put_other l o g q = ap (λ b. cond b (record g { object = o }) g) q

    put_here : (l : List ℕ) (o : Object) (g : Held) → bytes_eq l g.label ≡ true → (put_at l o g).object ≡ o
    put_here l o g q = ap (λ b. (cond b (record g { object = o }) g).object) q

    pub then_other : (g : Held) → bytes_eq s g.label ≡ false → bytes_eq v g.label ≡ false → both_put g ≡ g
    then_other g not_s not_v = ap (λ z. put_at v (Objects.vsic vsic1) z) (put_other s (Objects.log log1) g not_s) ∙ put_other v (Objects.vsic vsic1) g not_v

    pub then_log : (g : Held) → bytes_eq s g.label ≡ true → (both_put g).object ≡ Objects.log log1
    then_log g is_s =
        let not_v = ap (λ k. bytes_eq v k) (put_label s (Objects.log log1) g ∙ sym (same_name s g.label is_s)) ∙ name_other v s (λ q. other_name s v log_apart (sym q)) in
        ap (λ (z : Held). z.object) (put_other v (Objects.vsic vsic1) (put_at s (Objects.log log1) g) not_v) ∙ put_here s (Objects.log log1) g is_s

    pub then_card : (g : Held) → bytes_eq v g.label ≡ true → (both_put g).object ≡ Objects.vsic vsic1
    then_card g is_v = put_here v (Objects.vsic vsic1) (put_at s (Objects.log log1) g) (ap (λ k. bytes_eq v k) (put_label s (Objects.log log1) g) ∙ is_v)

    -- what it adds to a count
    module _ (c : Object → ℕ) (card_same : c (Objects.vsic vsic1) ≡ c (Objects.vsic both.vsic)) where
      others_same : (p : List ℕ × Capability) (g : Held) → In x.machine.held g → Matches x p g → bytes_eq s p.0 ≡ false → c (both_put g).object ≡ c g.object
      others_same p g inn m not_s = by_test (λ t. bytes_eq v g.label ≡ t → c (both_put g).object ≡ c g.object) (bytes_eq v g.label)
          (λ yes q.
          let mine : g ≡ both.held_card = some_same (at x.machine v) g both.held_card (ap (λ k. at x.machine k) (same_name v g.label q) ∙ found_there x x.labels x.machine.held g h.apart h.held inn) both.there_card in
          ap c (then_card g q) ∙ card_same ∙ sym (ap (λ (z : Held). c z.object) mine ∙ ap c both.object_card))
          (λ no q. ap (λ (z : Held). c z.object) (then_other g (ap (λ k. bytes_eq s k) m.label ∙ not_s) q)) refl

      pub counted : total (λ z. c z.object) (map both_put x.machine.held) + c (Objects.log both.log) ≡ total (λ z. c z.object) x.machine.held + c (Objects.log log1)
      counted =
          let all = total_turned x both_put c s both.held_log x.labels x.machine.held h.apart h.held others_same both.there_log in
          let old : c both.held_log.object ≡ c (Objects.log both.log) = ap c both.object_log in
          let new : c (both_put both.held_log).object ≡ c (Objects.log log1) = ap c (then_log both.held_log (found_in s x.machine.held both.held_log both.there_log).1) in
          omega (arith, all, old, new)

      pub count_same : c (Objects.log log1) ≡ c (Objects.log both.log) → total (λ z. c z.object) (map both_put x.machine.held) ≡ total (λ z. c z.object) x.machine.held
      count_same same = let all = counted in omega (arith, all, same)

    pub machine_is : record x.machine { held = map both_put x.machine.held } ≡ both_then
    machine_is = ap (λ (hs : List Held). record x.machine { held = hs }) (sym (map-map (λ z. put_at v (Objects.vsic vsic1) z) (λ z. put_at s (Objects.log log1) z) x.machine.held))

    pub both_label : (g : Held) → (both_put g).label ≡ g.label
    both_label g = put_label v (Objects.vsic vsic1) (put_at s (Objects.log log1) g) ∙ put_label s (Objects.log log1) g

    pub both_serial : (g : Held) → (both_put g).serial ≡ g.serial
    both_serial g = put_serial v (Objects.vsic vsic1) (put_at s (Objects.log log1) g) ∙ put_serial s (Objects.log log1) g

    -- the two objects stand for what their labels do
    pub touches : (z : Around) → IsCard z v both.card vsic1 → IsLog z s both.area log1
        → (p : List ℕ × Capability) (g : Held) → neither s v p.0 ≡ false → In x.machine.held g → value_at x.labels p.0 ≡ Some p.1 → Matches x p g → IsObjectOf z p.0 p.1 (both_put g).object
    touches z card_now log_now p g other inn is m = by_test (λ t. bytes_eq s p.0 ≡ t → IsObjectOf z p.0 p.1 (both_put g).object) (bytes_eq s p.0)
        (λ yes e.
        let name = same_name s p.0 e in
        let cap = some_same (value_at x.labels s) both.area p.1 both.area_label (ap (λ l. value_at x.labels l) name ∙ is) in
        subst (λ (o : Object). IsObjectOf z p.0 p.1 o) (sym (then_log g (ap (λ l. bytes_eq s l) m.label ∙ e)))
        (subst (λ (l : List ℕ). IsLog z l p.1 log1) name (subst (λ (c : Capability). IsLog z s c log1) cap log_now)))
        (λ no e.
        let is_v : bytes_eq v p.0 ≡ true = by_test (λ w. bytes_eq v p.0 ≡ w → w ≡ true) (bytes_eq v p.0) (λ yes w. refl)
        (λ n w. absurd (false≢true (sym other ∙ ap (λ u. not u && not (bytes_eq v p.0)) e ∙ ap not w))) refl in
        let name = same_name v p.0 is_v in
        let cap = some_same (value_at x.labels v) both.card p.1 both.card_label (ap (λ l. value_at x.labels l) name ∙ is) in
        subst (λ (o : Object). IsObjectOf z p.0 p.1 o) (sym (then_card g (ap (λ l. bytes_eq v l) m.label ∙ is_v)))
        (subst (λ (l : List ℕ). IsCard z l p.1 vsic1) name (subst (λ (c : Capability). IsCard z v c vsic1) cap card_now)))
        refl
