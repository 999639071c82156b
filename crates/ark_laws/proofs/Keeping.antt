-- A line that changes no filter keeps it that the plane lists just the filters that are held.
use Rattle.std.proofs.Common.{◌≡◌, ℕ, Bool, true, false, List, refl, sym, ◌∙◌, ap, subst}
use Rattle.std.proofs.lemmas.Bool.{false≢true}
use Rattle.std.specs.Prelude.{Option, Some, None, option_map, option_and_then, bytes_eq, is_some}
use Rattle.ark_base.specs.declared.refusal.Refusal.{Refusal}
use Rattle.ark_base.specs.declared.refusal.Refusal.TheVariants as r
use Rattle.ark_filters.specs.declared.filter.Filter.{Filter}
use Rattle.ark_script.specs.Line as w
use Rattle.ark_script.specs.Line.{Line}
use Rattle.ark_script.specs.declared.said.Said.{Said}
use Rattle.ark_script.specs.declared.said.Said.TheVariants as said
use Rattle.ark_machine.specs.Objects
use Rattle.ark_machine.specs.Objects.{Object, Vnic, as_vnic}
use Rattle.ark_machine.specs.Machine.{Machine, Held, at, object_at, vnic_at, with_new}
use Rattle.ark_machine.specs.Plane.{Plane, Change, makes, grows, drops}
use Rattle.ark_machine.specs.Granting.{changed, failed_change, change_of, with_granted, after_refusal, plane_after}
use Rattle.ark_machine.specs.System.{System, machine_of}
use Rattle.ark_machine.specs.Filters.{as_assigned, held_at, listed_at, EachOnce, FiltersAgree}
use Rattle.ark_laws.proofs.Listed.{same_bytes, bytes_eq-same}
use Rattle.ark_laws.proofs.Seen.{Seen, other, card, filtering, seen, Sees, new_here, new_there, none_of}

-- What the view of an object tells.

held_of : Seen → Option (Filter × Option (List ℕ))
held_of other = None
held_of card = None
held_of (filtering f c) = Some (f, c)

is_card : Seen → Bool
is_card other = false
is_card card = true
is_card (filtering f c) = false

held_view : (o : Option Object) → held_of (seen o) ≡ option_and_then as_assigned o
unfolding held_of
held_view None = refl
held_view (Some (Objects.raw x)) = refl
held_view (Some (Objects.log x)) = refl
held_view (Some (Objects.vsic x)) = refl
held_view (Some (Objects.vnic x)) = refl
held_view (Some (Objects.filter f c)) = refl
held_view (Some (Objects.door x)) = refl
held_view (Some (Objects.rate q b)) = refl
held_view (Some (Objects.buffer x)) = refl
held_view (Some (Objects.socket x)) = refl

card_view : (o : Option Object) → is_card (seen o) ≡ is_some (option_and_then as_vnic o)
unfolding is_card
card_view None = refl
card_view (Some (Objects.raw x)) = refl
card_view (Some (Objects.log x)) = refl
card_view (Some (Objects.vsic x)) = refl
card_view (Some (Objects.vnic x)) = refl
card_view (Some (Objects.filter f c)) = refl
card_view (Some (Objects.door x)) = refl
card_view (Some (Objects.rate q b)) = refl
card_view (Some (Objects.buffer x)) = refl
card_view (Some (Objects.socket x)) = refl

-- the filters of m are those of n, and each network card of m is one of n
pub record Keeps (m n : Machine) : Type 0 where
  pub held : (l : List ℕ) → held_at n l ≡ held_at m l
  pub cards : (v : List ℕ) → is_some (vnic_at m v) ≡ true → is_some (vnic_at n v) ≡ true

pub keeps_itself : (m : Machine) → Keeps m m
keeps_itself m = record { held = λ l. refl; cards = λ v h. h }

pub keeps_then : {m k n : Machine} → Keeps m k → Keeps k n → Keeps m n
keeps_then one two = record { held = λ l. two.held l ∙ one.held l; cards = λ v h. two.cards v (one.cards v h) }

pub keeps_of : {m n : Machine} → Sees m n → Keeps m n
keeps_of {m = m} {n = n} s = record {
  held = λ l. sym (held_view (object_at n l)) ∙ ap held_of (s.same l) ∙ held_view (object_at m l);
  cards = λ v h. sym (card_view (object_at n v)) ∙ ap is_card (s.same v) ∙ card_view (object_at m v) ∙ h;
}

pub nothing_at : (m : Machine) (l : List ℕ) → is_some (at m l) ≡ false → object_at m l ≡ None
nothing_at m l free = ap (λ q. option_map (λ h. h.object) q) (none_of (at m l) free)

-- a new object takes no network card away
pub new_cards : (m : Machine) (l : List ℕ) (o : Object) → is_some (at m l) ≡ false → (v : List ℕ) → is_some (vnic_at m v) ≡ true → is_some (vnic_at (with_new m l o) v) ≡ true
new_cards m l o free v h = by (bytes_eq v l) refl
  where
    new : Held
    new = record { label = l; serial = m.serial; object = o }

    by : (t : Bool) → bytes_eq v l ≡ t → is_some (vnic_at (with_new m l o) v) ≡ true
    by true e = absurd (false≢true (sym (ap (λ q. is_some (option_and_then as_vnic q)) (nothing_at m l free)) ∙ subst (λ z. is_some (vnic_at m z) ≡ true) (same_bytes v l e) h))
    by false e = ap (λ q. is_some (option_and_then as_vnic q)) (new_there v new m.held e) ∙ h

pub new_keeps : (m : Machine) (l : List ℕ) (o : Object) → is_some (at m l) ≡ false → as_assigned o ≡ None → Keeps m (with_new m l o)
new_keeps m l o free plain = record { held = λ k. by k (bytes_eq k l) refl; cards = new_cards m l o free }
  where
    new : Held
    new = record { label = l; serial = m.serial; object = o }

    by : (k : List ℕ) (t : Bool) → bytes_eq k l ≡ t → held_at (with_new m l o) k ≡ held_at m k
    by k true e =
        subst (λ z. held_at (with_new m l o) z ≡ held_at m z) (sym (same_bytes k l e))
        (ap (λ q. option_and_then as_assigned q) (new_here l new m.held (none_of (at m l) free) (bytes_eq-same l)) ∙ plain ∙ sym (ap (λ q. option_and_then as_assigned q) (nothing_at m l free)))
    by k false e = ap (λ q. option_and_then as_assigned q) (new_there k new m.held e)

-- Systems.

-- where one application's machine and what is listed for it agree, and the rest is as it was
pub joined : (s after : System) (a : List ℕ) (n : Machine) → machine_of after a ≡ n → ((b : List ℕ) → bytes_eq b a ≡ false → machine_of after b ≡ machine_of s b)
    → ((b l : List ℕ) → bytes_eq b a ≡ false → listed_at after.plane.filters b l ≡ listed_at s.plane.filters b l) → ((l : List ℕ) → listed_at after.plane.filters a l ≡ held_at n l)
    → EachOnce after.plane.filters → ((l v : List ℕ) (rule : Filter) → held_at n l ≡ Some (rule, Some v) → is_some (vnic_at n v) ≡ true) → FiltersAgree s → FiltersAgree after
joined s after a n own others lists mine once cards h = record { same = λ b l. one b l (bytes_eq b a) refl; once = once; cards = λ b l v rule. two b l v rule (bytes_eq b a) refl }
  where
    one : (b l : List ℕ) (t : Bool) → bytes_eq b a ≡ t → listed_at after.plane.filters b l ≡ held_at (machine_of after b) l
    one b l true e = subst (λ z. listed_at after.plane.filters z l ≡ held_at (machine_of after z) l) (sym (same_bytes b a e)) (mine l ∙ ap (λ m. held_at m l) (sym own))
    one b l false e = lists b l e ∙ h.same b l ∙ ap (λ m. held_at m l) (sym (others b e))

    two : (b l v : List ℕ) (rule : Filter) (t : Bool) → bytes_eq b a ≡ t → held_at (machine_of after b) l ≡ Some (rule, Some v) → is_some (vnic_at (machine_of after b) v) ≡ true
    two b l v rule true e =
        subst (λ z. held_at (machine_of after z) l ≡ Some (rule, Some v) → is_some (vnic_at (machine_of after z) v) ≡ true) (sym (same_bytes b a e))
        (subst (λ m. held_at m l ≡ Some (rule, Some v) → is_some (vnic_at m v) ≡ true) (sym own) (cards l v rule))
    two b l v rule false e = subst (λ m. held_at m l ≡ Some (rule, Some v) → is_some (vnic_at m v) ≡ true) (sym (others b e)) (h.cards b l v rule)

pub kept : (s after : System) (a : List ℕ) (n : Machine) → machine_of after a ≡ n → ((b : List ℕ) → bytes_eq b a ≡ false → machine_of after b ≡ machine_of s b)
    → after.plane.filters ≡ s.plane.filters → Keeps (machine_of s a) n → FiltersAgree s → FiltersAgree after
kept s after a n own others same k h =
    joined s after a n own others (λ b l e. ap (λ fs. listed_at fs b l) same) (λ l. ap (λ fs. listed_at fs a l) same ∙ h.same a l ∙ sym (k.held l))
    (subst EachOnce (sym same) h.once) (λ l v rule e. k.cards v (h.cards a l v rule (sym (k.held l) ∙ e))) h

-- The plane.

pub changed_filters : (p : Plane) (c : Option Change) → (changed p c).filters ≡ p.filters
changed_filters p None = refl
changed_filters p (Some (makes t)) = refl
changed_filters p (Some (grows t more)) = refl
changed_filters p (Some (drops t o)) = refl

failed_filters : (p : Plane) (c : Option Change) → (failed_change p c).filters ≡ p.filters
failed_filters p None = refl
failed_filters p (Some (makes t)) = refl
failed_filters p (Some (grows t more)) = refl
failed_filters p (Some (drops t o)) = refl

pub refused_filters : (p : Plane) (x : Refusal) (c : Option Change) → (after_refusal p x c).filters ≡ p.filters
refused_filters p r.DeviceFault c = failed_filters p c
refused_filters p _ c = refl

-- the words that change what is listed
abbrev pub changes_list : Line → Bool
changes_list (w.filter a f rule) = true
changes_list (w.assign a v f) = true
changes_list (w.drop a x) = true
changes_list _ = false

granted_filters : (p : Plane) (line : Line) → changes_list line ≡ false → (with_granted p line).filters ≡ p.filters
granted_filters p (w.nic own) h = refl
granted_filters p (w.app a frames) h = refl
granted_filters p (w.filter a f rule) h = absurd (false≢true (sym h))
granted_filters p (w.assign a v f) h = absurd (false≢true (sym h))
granted_filters p (w.drop a x) h = absurd (false≢true (sym h))
granted_filters p _ h = refl

pub plane_filters : (p : Plane) (m : Machine) (line : Line) (x : Said) → changes_list line ≡ false → (plane_after p m line x).filters ≡ p.filters
plane_filters p m line said.Ok h = granted_filters (changed p (change_of p m line)) line h ∙ changed_filters p (change_of p m line)
plane_filters p m line (said.Refused x) h = refused_filters p x (change_of p m line)
plane_filters p m line _ h = refl
