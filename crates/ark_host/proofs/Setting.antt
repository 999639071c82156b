-- A system where one application's machine is set.
use Rattle.std.proofs.Common.{◌≡◌, ℕ, ◌≤◌, true, false, cond, List, refl, sym, ◌∙◌, ap, subst, bytes_eq}
use Rattle.std.specs.Prelude.{Option, Some}
use Rattle.std.proofs.lemmas.Slice.Eq.{bytes_eq-Decides}
use Rattle.ark_media.specs.Journal.{History}
use Rattle.ark_table.specs.Slots.{Slot}
use Rattle.ark_machine.specs.Machine.{Machine}
use Rattle.ark_machine.specs.Plane.{Plane, slot_of}
use Rattle.ark_machine.specs.Grants.{GrantsApart}
use Rattle.ark_machine.specs.System.{System, machine_of, set_machine}
use Rattle.ark_held.specs.Keeps.{SameAt}
use Rattle.ark_held.specs.declared.app.App.{App}
use Rattle.ark_host.specs.Stored.{stored_slots}
use Rattle.ark_host.specs.Stands.{AtApp, IsHeld, AreNamed, app_of}
use Rattle.ark_plane.proofs.Tests.{by_test, bytes_eq-same}
use Rattle.ark_host.proofs.Machines.{listed_machine-set}
use Rattle.ark_host.proofs.Standing.{at_app_kept}

-- the system with this plane and this machine of a
abbrev pub with_set : System → Plane → List ℕ → Machine → System
with_set s p a m = record { plane = p; now = s.now; machines = set_machine s.machines a m }

module _ (s : System) (p : Plane) (a : List ℕ) (m : Machine) (made : m.made ≡ true) where
  pub set_here : machine_of (with_set s p a m) a ≡ m
  set_here = listed_machine-set s.now m made s.machines a a ∙ ap (λ b. cond b m (machine_of s a)) (bytes_eq-same a)

  pub set_other : (b : List ℕ) → bytes_eq b a ≡ false → machine_of (with_set s p a m) b ≡ machine_of s b
  set_other b apart = listed_machine-set s.now m made s.machines a b ∙ ap (λ t. cond t m (machine_of s b)) apart

  -- the tick of every machine is that of the system
  pub set_now : m.now ≡ s.now → ((b : List ℕ) → (machine_of s b).now ≡ s.now) → (b : List ℕ) → (machine_of (with_set s p a m) b).now ≡ s.now
  set_now now all b = by_test (bytes_eq b a) (λ t. bytes_eq b a ≡ t → (machine_of (with_set s p a m) b).now ≡ s.now)
      (λ yes q. ap (λ (x : Machine). x.now) (ap (λ (c : List ℕ). machine_of (with_set s p a m) c) ((bytes_eq-Decides b a).0 q) ∙ set_here) ∙ now)
      (λ no q. ap (λ (x : Machine). x.now) (set_other b q) ∙ all b) refl

  -- what stands for the machines of all applications: a's by itself, the others as they did
  pub set_apps : (g0 g1 : ℕ) (h0 h1 : History) (apps0 apps1 : List App) (app : App) → g0 ≤ g1 → h1.base ≡ h0.base → IsHeld g1 h1 (with_set s p a m) a app
      → ((b : List ℕ) → bytes_eq b a ≡ true → app_of apps1 b ≡ Some app) → ((b : List ℕ) → bytes_eq b a ≡ false → app_of apps1 b ≡ app_of apps0 b)
      → ((b l : List ℕ) → bytes_eq b a ≡ false → slot_of p b l ≡ slot_of s.plane b l)
      → ((b l : List ℕ) (t : Slot) → bytes_eq b a ≡ false → slot_of s.plane b l ≡ Some t → SameAt h0 h1 t.blocks)
      → GrantsApart s.plane → AreNamed s.plane → ((b : List ℕ) → bytes_eq b a ≡ false → stored_slots b p.slots ≡ stored_slots b s.plane.slots)
      → ((b : List ℕ) → AtApp g0 h0 s b (app_of apps0 b)) → (b : List ℕ) → AtApp g1 h1 (with_set s p a m) b (app_of apps1 b)
  set_apps g0 g1 h0 h1 apps0 apps1 app more base own here others slots stays agree named stored all b = by_test (bytes_eq b a) (λ t. bytes_eq b a ≡ t → AtApp g1 h1 (with_set s p a m) b (app_of apps1 b))
      (λ yes q. subst (λ (o : Option App). AtApp g1 h1 (with_set s p a m) b o) (sym (here b q))
      (subst (λ (c : List ℕ). AtApp g1 h1 (with_set s p a m) c (Some app)) (sym ((bytes_eq-Decides b a).0 q)) own))
      (λ no q. subst (λ (o : Option App). AtApp g1 h1 (with_set s p a m) b o) (sym (others b q))
      (at_app_kept g0 g1 h0 h1 s (with_set s p a m) b (app_of apps0 b) more (set_other b q) refl base (λ l. slots b l q) (λ l t there. stays b l t q there) agree named (stored b q) (all b))) refl
