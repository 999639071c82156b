-- This end is given its addresses.
use Rattle.std.proofs.Common.{◌≡◌, ℕ, true, false, List, [], refl, sym, ◌∙◌, ap, subst, arith}
use Rattle.std.proofs.lemmas.Bool.{false≢true}
use Rattle.std.specs.Prelude.{Option, Some, None, Ok, is_some}
use Rattle.ark_base.specs.declared.refusal.Refusal.TheVariants as r
use Rattle.ark_media.specs.Journal.{History}
use Rattle.ark_packet.specs.declared.own.Own.{Own}
use Rattle.ark_script.specs.Line as w
use Rattle.ark_script.specs.Text.{wants_memory}
use Rattle.ark_script.specs.declared.said.Said.{Said}
use Rattle.ark_script.specs.declared.said.Said.TheVariants as said
use Rattle.ark_machine.specs.Plane.{Plane}
use Rattle.ark_machine.specs.Replies.{MayLack}
use Rattle.ark_machine.specs.System.{System, nic_turn}
use Rattle.ark_held.proofs.Besides.{same_history}
use Rattle.ark_host.specs.declared.host.Host.{Host}
use Rattle.ark_host.specs.Stands.{IsPlaneOf, Stands, TurnDone, LineDone, app_of}
use Rattle.ark_host.proofs.Standing.{at_app_kept}

abbrev given : Plane → Own → Plane
given p own = record p { own = Some own }

plane_given : (host : Host) (size : ℕ) (p : Plane) (own : Own) → IsPlaneOf host size p → IsPlaneOf (record host { plane = record host.plane { own = Some own } }) size (given p own)
plane_given host size p own is = record {
  size = is.size;
  own = refl;
  filters = is.filters;
  apps = is.apps;
  table = is.table;
  failed = is.failed;
  free = is.free;
  settled = is.settled;
  beside = is.beside;
  apart = is.apart;
  named = is.named;
  counted = is.counted;
}

module _ (s : System) (host : Host) (size : ℕ) (h : History) (own : Own) (st : Stands host size h s) where
  -- they are given once
  pub given_before : is_some host.plane.own ≡ true → TurnDone host size h (nic_turn s own s.plane.own) (said.Refused r.NameTaken) []
  given_before some = by s.plane.own (ap is_some st.plane.own ∙ some)
    where
      by : (o : Option Own) → is_some o ≡ true → TurnDone host size h (nic_turn s own o) (said.Refused r.NameTaken) []
      by None some_now = absurd (false≢true some_now)
      by (Some old) some_now = record { said = refl; bytes = refl; stands = st }

  pub given_now : is_some host.plane.own ≡ false → TurnDone (record host { plane = record host.plane { own = Some own } }) size h (nic_turn s own s.plane.own) said.Ok []
  given_now none = by s.plane.own (ap is_some st.plane.own ∙ none)
    where
      stands : Stands (record host { plane = record host.plane { own = Some own } }) size h (record s { plane = given s.plane own })
      stands = record {
        plane = plane_given host size s.plane own st.plane;
        based = st.based;
        table = st.table;
        now = st.now;
        machines = λ a. at_app_kept host.grants host.grants h h s (record s { plane = given s.plane own }) a (app_of host.apps.items a) (omega arith) refl refl refl (λ l. refl) (λ l t there. same_history h t.blocks)
            st.plane.apart st.plane.named refl (st.machines a);
        same_now = st.same_now;
      }

      by : (o : Option Own) → is_some o ≡ false → TurnDone (record host { plane = record host.plane { own = Some own } }) size h (nic_turn s own o) said.Ok []
      by None none_now = record { said = refl; bytes = refl; stands = stands }
      by (Some old) none_now = absurd (false≢true (sym none_now))

-- it wants no memory
no_memory_wanted : (s : System) (own : Own) (o : Option Own) → MayLack (Ok (w.nic own)) (wants_memory (nic_turn s own o).said)
no_memory_wanted s own None = tt
no_memory_wanted s own (Some old) = tt

pub nic_answered : (host : Host) (size : ℕ) (past : History) (s : System) (own : Own) (reply : Said) (shown : List ℕ) → TurnDone host size past (nic_turn s own s.plane.own) reply shown → LineDone host size past s (Ok (w.nic own)) [] reply shown
nic_answered host size past s own reply shown t = record {
  said = t.said;
  bytes = t.bytes;
  calls = refl;
  none = λ want. refl;
  memory = subst (λ (x : Said). MayLack (Ok (w.nic own)) (wants_memory x)) (sym t.said) (no_memory_wanted s own s.plane.own);
  stands = t.stands;
}
