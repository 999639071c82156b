-- What stands under one label, and how many objects there are of a kind.
use Rattle.std.proofs.Common.{◌≡◌, inl, inr, ℕ, suc, Bool, true, false, cond, List, [], ◌∷◌, length, refl, sym, ◌∙◌, ap, subst, bytes_eq}
use Rattle.std.specs.Prelude.{Option, Some, None, is_some, find, nat_le, filter as select}
use Rattle.ark_caps.specs.Labels.{value_at}
use Rattle.ark_caps.specs.declared.capability.CapKind.{CapKind}
use Rattle.ark_caps.specs.declared.capability.Capability.{Capability}
use Rattle.ark_machine.specs.Objects
use Rattle.ark_machine.specs.Objects.{Object, is_vsa, is_card}
use Rattle.ark_machine.specs.Machine.{Held, at, is_full, held_count}
use Rattle.ark_held.specs.Words.{Labels}
use Rattle.ark_held.specs.Around.{Around}
use Rattle.ark_held.specs.Held.{IsObjectOf, Matches, AllMatch, AtLabel, Holds, AreDistinctLabels, is_area, is_card_kind, card_labels}
use Rattle.ark_held.proofs.Lists.{by_test, same_name, name_same, not_some, some_same}
use Rattle.ark_held.proofs.Members.{In}

-- Under one label.

pub matches_at : (x : Around) (p : List ℕ × Capability) (h : Held) (l : List ℕ) → p.0 ≡ l → Matches x p h → Matches x (l, p.1) h
matches_at x p h l same m = record { label = m.label ∙ same; serial = m.serial; object = subst (λ (k : List ℕ). IsObjectOf x k p.1 h.object) same m.object }

pub found : (x : Around) (l : List ℕ) (ps : Labels) (hs : List Held) → AllMatch x ps hs → AtLabel x l (value_at ps l) (find (λ h. bytes_eq l h.label) hs)
found x l [] [] all = tt
found x l (p ∷ ps) (h ∷ hs) all =
    subst (λ (k : List ℕ). AtLabel x l (value_at (p ∷ ps) l) (cond (bytes_eq l k) (Some h) (find (λ h. bytes_eq l h.label) hs))) (sym all.0.label)
    (by_test (λ t. AtLabel x l (cond t (Some p.1) (value_at ps l)) (cond t (Some h) (find (λ h. bytes_eq l h.label) hs))) (bytes_eq l p.0)
    (λ here. matches_at x p h l (sym (same_name l p.0 here)) all.0) (λ there. found x l ps hs all.1))
found x l [] (h ∷ hs) all = absurd all
found x l (p ∷ ps) [] all = absurd all

-- a label that is kept stands for an object that is held
pub record Stands (x : Around) (l : List ℕ) (c : Capability) : Type 0 where
  pub held : Held
  pub there : at x.machine l ≡ Some held
  pub matches : Matches x (l, c) held

stands_by : (x : Around) (l : List ℕ) (c : Capability) (o : Option Capability) (p : Option Held) → at x.machine l ≡ p → o ≡ Some c → AtLabel x l o p → Stands x l c
stands_by x l c (Some d) (Some h) b is here = record { held = h; there = b; matches = subst (λ (z : Capability). Matches x (l, z) h) (some_same (Some d) d c refl is) here }
stands_by x l c (Some d) None b is here = absurd here
stands_by x l c None p b is here = absurd (not_some None c refl is)

pub stands_at : (x : Around) (l : List ℕ) (c : Capability) → Holds x → value_at x.labels l ≡ Some c → Stands x l c
stands_at x l c h is = stands_by x l c (value_at x.labels l) (at x.machine l) refl is (found x l x.labels x.machine.held h.held)

-- what is held under a label is the object of the label's own place in the list
pub its_own : (x : Around) (l : List ℕ) (p : List ℕ × Capability) (ps : Labels) (h g : Held) (hs : List Held) → Matches x p h → bytes_eq l p.0 ≡ true → find (λ z. bytes_eq l z.label) (h ∷ hs) ≡ Some g → h ≡ g
its_own x l p ps h g hs m here is =
    some_same (Some h) h g refl (sym (ap (λ b. cond b (Some h) (find (λ z. bytes_eq l z.label) hs)) (ap (λ k. bytes_eq l k) m.label ∙ here)) ∙ is)

-- none of the objects has a label that is not kept
pub none_found : (x : Around) (l : List ℕ) (ps : Labels) (hs : List Held) → AllMatch x ps hs → value_at ps l ≡ None → find (λ h. bytes_eq l h.label) hs ≡ None
none_found x l ps hs all none = by (find (λ h. bytes_eq l h.label) hs) (subst (λ (o : Option Capability). AtLabel x l o (find (λ h. bytes_eq l h.label) hs)) none (found x l ps hs all))
  where
    by : (p : Option Held) → AtLabel x l None p → p ≡ None
    by None here = refl
    by (Some h) here = absurd here

-- an object that is held is the one under its label
pub found_there : (x : Around) (ps : Labels) (hs : List Held) (g : Held) → AreDistinctLabels ps → AllMatch x ps hs → In hs g → find (λ h. bytes_eq g.label h.label) hs ≡ Some g
found_there x (p ∷ ps) (h ∷ hs) g apart all (inl e) = ap (λ b. cond b (Some h) (find (λ z. bytes_eq g.label z.label) hs)) (name_same g.label h.label (sym (ap (λ (z : Held). z.label) e))) ∙ ap (λ (z : Held). Some z) e
found_there x (p ∷ ps) (h ∷ hs) g apart all (inr inn) =
    by_test (λ t. bytes_eq g.label h.label ≡ t → cond t (Some h) (find (λ z. bytes_eq g.label z.label) hs) ≡ Some g) (bytes_eq g.label h.label)
    (λ yes q. absurd (not_some (find (λ z. bytes_eq g.label z.label) hs) g (none_found x g.label ps hs all.1 (ap (λ l. value_at ps l) (same_name g.label h.label q ∙ all.0.label) ∙ apart.0)) (found_there x ps hs g apart.1 all.1 inn)))
    (λ no q. found_there x ps hs g apart.1 all.1 inn) refl
found_there x [] [] g apart all inn = absurd inn
found_there x [] (h ∷ hs) g apart all inn = absurd all
found_there x (p ∷ ps) [] g apart all inn = absurd all

-- a label is there for the machine where it is kept
pub there_same : (x : Around) (l : List ℕ) → Holds x → is_some (at x.machine l) ≡ is_some (value_at x.labels l)
there_same x l h = by (value_at x.labels l) (at x.machine l) (found x l x.labels x.machine.held h.held)
  where
    by : (c : Option Capability) (o : Option Held) → AtLabel x l c o → is_some o ≡ is_some c
    by None None here = refl
    by (Some c) (Some g) here = refl
    by None (Some g) here = absurd here
    by (Some c) None here = absurd here

-- Counts.

kind_is : (x : Around) (l : List ℕ) (c : Capability) (o : Object) → IsObjectOf x l c o → is_vsa o ≡ is_area c.kind
kind_is x l c (Objects.raw r) f = sym (ap is_area f.its_kind)
kind_is x l c (Objects.log g) f = sym (ap is_area f.its_kind)
kind_is x l c (Objects.vsic v) f = sym (ap is_area f.its_kind)
kind_is x l c (Objects.vnic v) f = sym (ap is_area f.its_kind)
kind_is x l c (Objects.filter g card) f = sym (ap is_area f.its_kind)
kind_is x l c (Objects.door d) f = sym (ap is_area f.its_kind)
kind_is x l c (Objects.rate q b) f = sym (ap is_area f.its_kind)
kind_is x l c (Objects.buffer b) f = sym (ap is_area f.its_kind)
kind_is x l c (Objects.socket k) f = sym (ap is_area f.its_kind)

pub longer : {A B : Type 0} (t : Bool) (a : A) (xs : List A) (b : B) (ys : List B) → length xs ≡ length ys → length (cond t (a ∷ xs) xs) ≡ length (cond t (b ∷ ys) ys)
longer true a xs b ys same = ap suc same
longer false a xs b ys same = same

-- of the objects and of the labels as many pass, where a test of an object is that of its capability's kind
module _ (x : Around) (is : Object → Bool) (of : CapKind → Bool) (same : (l : List ℕ) (c : Capability) (o : Object) → IsObjectOf x l c o → is o ≡ of c.kind) where
  count_held : (ps : Labels) (hs : List Held) → AllMatch x ps hs → length (select (λ h. is h.object) hs) ≡ length (select (λ (p : List ℕ × Capability). of p.1.kind) ps)
  count_held [] [] all = refl
  count_held (p ∷ ps) (h ∷ hs) all =
      ap (λ t. length (cond t (h ∷ select (λ h. is h.object) hs) (select (λ h. is h.object) hs))) (same p.0 p.1 h.object all.0.object)
      ∙ longer (of p.1.kind) h (select (λ h. is h.object) hs) p (select (λ (q : List ℕ × Capability). of q.1.kind) ps) (count_held ps hs all.1)
  count_held [] (h ∷ hs) all = absurd all
  count_held (p ∷ ps) [] all = absurd all

pub count_areas : (x : Around) → Holds x → held_count is_vsa x.machine ≡ length x.areas
count_areas x h = count_held x is_vsa is_area (kind_is x) x.labels x.machine.held h.held ∙ sym h.areas

card_is : (x : Around) (l : List ℕ) (c : Capability) (o : Object) → IsObjectOf x l c o → is_card o ≡ is_card_kind c.kind
card_is x l c (Objects.raw r) f = sym (ap is_card_kind f.its_kind)
card_is x l c (Objects.log g) f = sym (ap is_card_kind f.its_kind)
card_is x l c (Objects.vsic v) f = sym (ap is_card_kind f.its_kind)
card_is x l c (Objects.vnic v) f = sym (ap is_card_kind f.its_kind)
card_is x l c (Objects.filter g card) f = sym (ap is_card_kind f.its_kind)
card_is x l c (Objects.door d) f = sym (ap is_card_kind f.its_kind)
card_is x l c (Objects.rate q b) f = sym (ap is_card_kind f.its_kind)
card_is x l c (Objects.buffer b) f = sym (ap is_card_kind f.its_kind)
card_is x l c (Objects.socket k) f = sym (ap is_card_kind f.its_kind)

pub count_cards : (x : Around) → Holds x → held_count is_card x.machine ≡ length (card_labels x.labels)
count_cards x h = count_held x is_card is_card_kind (card_is x) x.labels x.machine.held h.held

pub count_labels : (x : Around) (ps : Labels) (hs : List Held) → AllMatch x ps hs → length hs ≡ length ps
count_labels x [] [] all = refl
count_labels x (p ∷ ps) (h ∷ hs) all = ap suc (count_labels x ps hs all.1)
count_labels x [] (h ∷ hs) all = absurd all
count_labels x (p ∷ ps) [] all = absurd all

pub full_is : (x : Around) → Holds x → is_full x.machine ≡ nat_le 64 (length x.labels)
full_is x h = ap (λ n. nat_le 64 n) (count_labels x x.labels x.machine.held h.held)
