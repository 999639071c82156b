-- What is at a label once an object is set there or elsewhere.
use Rattle.std.proofs.Common.{◌≡◌, ℕ, Bool, true, false, List, [], ◌∷◌, map, refl, sym, ◌∙◌, ap, subst, cond}
use Rattle.std.specs.Prelude.{Option, Some, None, option_map, option_and_then, find, unwrap_or, bytes_eq}
use Rattle.ark_vic.specs.Bells as bells
use Rattle.ark_vic.specs.declared.door.Bell.{Bell}
use Rattle.ark_vic.specs.declared.door.Counts.{Counts}
use Rattle.ark_machine.specs.Objects
use Rattle.ark_machine.specs.Objects.{Object, Raw, Vsic, Vnic, as_raw, as_vsic, as_vnic, as_door}
use Rattle.ark_machine.specs.Machine.{Machine, Held, holding, object_at, raw_at, vsic_at, vnic_at, door_at, with_object, with_vsic, with_vnic}
use Rattle.ark_machine.specs.Areas.{with_raw}
use Rattle.ark_machine.specs.Rates.{rung}
use Rattle.ark_laws.proofs.Listed.{same_bytes}

-- the object that is found first under a label
abbrev pub found_at : List ℕ → List Held → Option Object
found_at l hs = option_map (λ h. h.object) (find (λ h. bytes_eq l h.label) hs)

abbrev pub set_in : List ℕ → Object → List Held → List Held
set_in l o hs = map (λ h. cond (bytes_eq l h.label) (holding o h) h) hs

pub set_here : (l : List ℕ) (o : Object) (hs : List Held) → found_at l (set_in l o hs) ≡ option_map (λ (x : Object). o) (found_at l hs)
set_here l o [] = refl
set_here l o (x ∷ xs) = by (set_here l o xs) (bytes_eq l x.label) refl
  where
    by : found_at l (set_in l o xs) ≡ option_map (λ (x : Object). o) (found_at l xs) → (b : Bool) → bytes_eq l x.label ≡ b
        → found_at l (cond b (holding o x) x ∷ set_in l o xs) ≡ option_map (λ (x : Object). o) (option_map (λ h. h.object) (cond b (Some x) (find (λ h. bytes_eq l h.label) xs)))
    by rest true is = rw is refl
    by rest false is = rw is rest

pub set_there : (l d : List ℕ) (o : Object) (hs : List Held) → bytes_eq l d ≡ false → found_at l (set_in d o hs) ≡ found_at l hs
set_there l d o [] apart = refl
set_there l d o (x ∷ xs) apart = by (set_there l d o xs apart) (bytes_eq d x.label) refl
  where
    by : found_at l (set_in d o xs) ≡ found_at l xs → (b : Bool) → bytes_eq d x.label ≡ b → found_at l (cond b (holding o x) x ∷ set_in d o xs) ≡ found_at l (x ∷ xs)
    by rest true is = let other : bytes_eq l x.label ≡ false = subst (λ y. bytes_eq l y ≡ false) (same_bytes d x.label is) apart in rw other rest
    by rest false is = elim (bytes_eq l x.label) as (λ t. option_map (λ h. h.object) (cond t (Some x) (find (λ h. bytes_eq l h.label) (set_in d o xs))) ≡ option_map (λ h. h.object) (cond t (Some x) (find (λ h. bytes_eq l h.label) xs))) [
      | true ↦ refl
      | false ↦ rest
    ]

-- every object changed
pub each_found : (f : Object → Object) (l : List ℕ) (hs : List Held) → found_at l (map (λ h. holding (f h.object) h) hs) ≡ option_map f (found_at l hs)
each_found f l [] = refl
each_found f l (x ∷ xs) =
    elim (bytes_eq l x.label) as (λ b. option_map (λ h. h.object) (cond b (Some (holding (f x.object) x)) (find (λ h. bytes_eq l h.label) (map (λ h. holding (f h.object) h) xs)))
    ≡ option_map f (option_map (λ h. h.object) (cond b (Some x) (find (λ h. bytes_eq l h.label) xs)))) [ true ↦ refl | false ↦ each_found f l xs ]

-- Objects of one kind, as `p` tells them.

pub kind_set : {X : Type 0} (p : Object → Option X) (m : Machine) (l : List ℕ) (o : Object) (x y : X) → option_and_then p (object_at m l) ≡ Some x → p o ≡ Some y → option_and_then p (object_at (with_object m l o) l) ≡ Some y
kind_set {X = X} p m l o x y is new = ap (λ q. option_and_then p q) (set_here l o m.held) ∙ by (object_at m l) is
  where
    by : (q : Option Object) → option_and_then p q ≡ Some x → option_and_then p (option_map (λ (z : Object). o) q) ≡ Some y
    by None h = absurd cc
    by (Some z) h = new

-- one that is set in the place of one, neither of the kind, leaves those of the kind
pub kind_left : {X : Type 0} (p : Object → Option X) (m : Machine) (l d : List ℕ) (o : Object) → option_and_then p (object_at m d) ≡ None → p o ≡ None → option_and_then p (object_at (with_object m d o) l) ≡ option_and_then p (object_at m l)
kind_left {X = X} p m l d o old new = by (bytes_eq l d) refl
  where
    none : (q : Option Object) → option_and_then p (option_map (λ (z : Object). o) q) ≡ None
    none None = refl
    none (Some z) = new

    by : (t : Bool) → bytes_eq l d ≡ t → option_and_then p (object_at (with_object m d o) l) ≡ option_and_then p (object_at m l)
    by true same =
        subst (λ k. option_and_then p (object_at (with_object m d o) k) ≡ option_and_then p (object_at m k)) (sym (same_bytes l d same))
        (ap (λ q. option_and_then p q) (set_here d o m.held) ∙ (none (object_at m d) ∙ sym old))
    by false apart = ap (λ q. option_and_then p q) (set_there l d o m.held apart)

pub vnic_set : (m : Machine) (v : List ℕ) (f : Vnic → Vnic) (x : Vnic) → vnic_at m v ≡ Some x → vnic_at (with_vnic m v f) v ≡ Some (f x)
vnic_set m v f x is =
    subst (λ o. vnic_at (unwrap_or (option_map (λ y. with_object m v (Objects.vnic (f y))) o) m) v ≡ Some (f x)) (sym is) (kind_set as_vnic m v (Objects.vnic (f x)) x (f x) is refl)

pub raw_set : (m : Machine) (l : List ℕ) (f : Raw → Raw) (x : Raw) → raw_at m l ≡ Some x → raw_at (with_raw m l f) l ≡ Some (f x)
raw_set m l f x is =
    subst (λ o. raw_at (unwrap_or (option_map (λ y. with_object m l (Objects.raw (f y))) o) m) l ≡ Some (f x)) (sym is) (kind_set as_raw m l (Objects.raw (f x)) x (f x) is refl)

-- a storage card is no area
pub vsic_alone : {X : Type 0} (p : Object → Option X) → ((x : Vsic) → p (Objects.vsic x) ≡ None) → (o : Option Object) (x : Vsic) → option_and_then as_vsic o ≡ Some x → option_and_then p o ≡ None
vsic_alone p lacks None x h = refl
vsic_alone p lacks (Some (Objects.vsic y)) x h = lacks y
vsic_alone p lacks (Some _) x h = absurd cc

pub vsic_raw : (m : Machine) (v : List ℕ) (f : Vsic → Vsic) (l : List ℕ) → raw_at (with_vsic m v f) l ≡ raw_at m l
vsic_raw m v f l = by (vsic_at m v) refl
  where
    by : (o : Option Vsic) → vsic_at m v ≡ o → raw_at (unwrap_or (option_map (λ x. with_object m v (Objects.vsic (f x))) o) m) l ≡ raw_at m l
    by None is = refl
    by (Some x) is = kind_left as_raw m l v (Objects.vsic (f x)) (vsic_alone as_raw (λ y. refl) (object_at m v) x is) refl

-- a doorbell is none of the others
door_alone : {X : Type 0} (p : Object → Option X) → ((c : Counts) → p (Objects.door c) ≡ None) → (o : Option Object) (c : Counts) → option_and_then as_door o ≡ Some c → option_and_then p o ≡ None
door_alone p lacks None c h = refl
door_alone p lacks (Some (Objects.door d)) c h = lacks d
door_alone p lacks (Some _) c h = absurd cc

-- so its ringing leaves them
pub rung_left : {X : Type 0} (p : Object → Option X) → ((c : Counts) → p (Objects.door c) ≡ None) → (m : Machine) (d : Option (List ℕ)) (b : Bell) (l : List ℕ) → option_and_then p (object_at (rung m d b) l) ≡ option_and_then p (object_at m l)
rung_left p lacks m None b l = refl
rung_left {X = X} p lacks m (Some d) b l = by (door_at m d) refl
  where
    by : (o : Option Counts) → door_at m d ≡ o → option_and_then p (object_at (unwrap_or (option_map (λ c. with_object m d (Objects.door (bells.one_more c b))) o) m) l) ≡ option_and_then p (object_at m l)
    by None is = refl
    by (Some c) is = kind_left p m l d (Objects.door (bells.one_more c b)) (door_alone p lacks (object_at m d) c is) (lacks (bells.one_more c b))
