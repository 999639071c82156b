-- The row of `grow`, as a host comes to it: its refusals, and what it is with the device events of a grant.
use Rattle.std.proofs.Common.{◌≡◌, ℕ, zero, suc, ◌<◌, ◌≤◌, true, false, List, [], ◌++◌, length, take, nat_lt, refl, ◌∙◌, ap}
use Rattle.std.specs.Prelude.{Some, None, Ok}
use Rattle.ark_base.specs.declared.refusal.Refusal.{Refusal}
use Rattle.ark_base.specs.declared.refusal.Refusal.TheVariants as r
use Rattle.ark_media.specs.Journal.{Event, History}
use Rattle.ark_extents.specs.Blocks.{runs_of}
use Rattle.ark_table.specs.Slots.{Slot}
use Rattle.ark_script.specs.Line as w
use Rattle.ark_script.specs.declared.said.Said.{Said}
use Rattle.ark_script.specs.declared.said.Said.TheVariants as said
use Rattle.ark_machine.specs.Objects
use Rattle.ark_machine.specs.Objects.{Raw, as_raw}
use Rattle.ark_machine.specs.Machine.{Held, at, with_object}
use Rattle.ark_machine.specs.Areas as areas
use Rattle.ark_machine.specs.Row.{Row, says, answer, has_fault, synced_by}
use Rattle.ark_machine.specs.Step.{step}
use Rattle.ark_machine.specs.Plane.{grows, free_blocks, lowest, max_runs, slot_of}
use Rattle.ark_machine.specs.System.{System, machine_of}
use Rattle.ark_machine.specs.Recovers.{begun, begun_with}
use Rattle.ark_machine.specs.Follow.{ends_of}
use Rattle.ark_held.proofs.Lists.{lt_true, lt_false}
use Rattle.ark_host.specs.declared.host.Host.{Host}
use Rattle.ark_host.specs.Stands.{Stands}
use Rattle.ark_host.specs.Growing.{grow_row}

module _ (host : Host) (size : ℕ) (past : History) (s : System) (a l : List ℕ) (n : ℕ) (st : Stands host size past s) where
  -- the line is refused so before any device call
  abbrev pub Says : Refusal → Type 0
  Says e = grow_row s a l n [] (said.Refused e) ≡ says (machine_of s a) (said.Refused e)

  pub grow_unmade : (machine_of s a).made ≡ false → Says r.NoApplication
  unfolding answer
  grow_unmade made = rw made refl

  module _ (made : (machine_of s a).made ≡ true) where
    pub grow_missing : at (machine_of s a) l ≡ None → Says (r.NoGrant l)
    unfolding answer
    grow_missing none = rw (made, none) refl

    pub grow_kind : (d : Held) → at (machine_of s a) l ≡ Some d → as_raw d.object ≡ None → Says r.WrongKind
    unfolding answer
    grow_kind d there other = rw (made, there, other) refl

    module _ (d : Held) (raw : Raw) (there : at (machine_of s a) l ≡ Some d) (object : d.object ≡ Objects.raw raw) where
      pub grow_failed : host.plane.failed ≡ true → Says r.TableFailed
      unfolding answer
      grow_failed bad = let failed : s.plane.failed ≡ true = st.plane.failed ∙ bad in rw (made, there, object, failed) refl

      module _ (no : host.plane.failed ≡ false) where
        free : free_blocks s.plane ≡ host.plane.free
        free = st.plane.free no

        settled : s.plane.failed ≡ false
        settled = st.plane.failed ∙ no

        pub grow_no_space : length host.plane.free < n → Says r.NoSpace
        unfolding answer
        grow_no_space less =
            let failed : s.plane.failed ≡ false = settled in
            let space : nat_lt (length (free_blocks s.plane)) n ≡ true = ap (λ (f : List ℕ). nat_lt (length f) n) free ∙ lt_true (length host.plane.free) n less in
            rw (made, there, object, failed, space) refl

        module _ (enough : n ≤ length host.plane.free) where
          spaced : nat_lt (length (free_blocks s.plane)) n ≡ false
          spaced = ap (λ (f : List ℕ). nat_lt (length f) n) free ∙ lt_false (length host.plane.free) n enough

          module _ (t : Slot) (placed : slot_of s.plane a l ≡ Some t) where
            pub grow_scattered : max_runs < length (runs_of (t.blocks ++ take n host.plane.free)) → Says r.Scattered
            unfolding answer
            grow_scattered many =
                let failed : s.plane.failed ≡ false = settled in
                let space : nat_lt (length (free_blocks s.plane)) n ≡ false = spaced in
                let runs : nat_lt max_runs (length (runs_of (t.blocks ++ take n (free_blocks s.plane)))) ≡ true =
                ap (λ (f : List ℕ). nat_lt max_runs (length (runs_of (t.blocks ++ take n f)))) free ∙ lt_true max_runs (length (runs_of (t.blocks ++ take n host.plane.free))) many in
                rw (made, there, object, failed, space, placed, runs) refl

            module _ (compact : length (runs_of (t.blocks ++ take n host.plane.free)) ≤ max_runs) where
              few : nat_lt max_runs (length (runs_of (t.blocks ++ take n (free_blocks s.plane)))) ≡ false
              few = ap (λ (f : List ℕ). nat_lt max_runs (length (runs_of (t.blocks ++ take n f)))) free ∙ lt_false max_runs (length (runs_of (t.blocks ++ take n host.plane.free))) compact

              -- the row where each call succeeded
              pub grown_row : (es : List Event) (reply : Said) → has_fault (ends_of es) ≡ false
                  → grow_row s a l n es reply ≡ record { machine = synced_by (ends_of es) (with_object (machine_of s a) l (Objects.raw (areas.grown n raw))); said = said.Ok; bytes = []; calls = areas.grant_calls n }
              unfolding answer
              grown_row es reply well =
                  let failed : s.plane.failed ≡ false = settled in
                  let space : nat_lt (length (free_blocks s.plane)) n ≡ false = spaced in
                  let runs : nat_lt max_runs (length (runs_of (t.blocks ++ take n (free_blocks s.plane)))) ≡ false = few in
                  rw (made, there, object, failed, space, placed, runs, well) refl

              -- and where one failed
              pub lost_row : (es : List Event) (reply : Said) → has_fault (ends_of es) ≡ true
                  → grow_row s a l n es reply ≡ record { machine = synced_by (ends_of es) (machine_of s a); said = said.Refused r.DeviceFault; bytes = []; calls = areas.grant_calls n }
              unfolding answer
              lost_row es reply bad =
                  let failed : s.plane.failed ≡ false = settled in
                  let space : nat_lt (length (free_blocks s.plane)) n ≡ false = spaced in
                  let runs : nat_lt max_runs (length (runs_of (t.blocks ++ take n (free_blocks s.plane)))) ≡ false = few in
                  rw (made, there, object, failed, space, placed, runs, bad) refl

              with_calls : (j : ℕ) → begun_with s (w.grow a l n) a (areas.grant_calls j) ≡ Some (grows t (lowest s.plane n))
              with_calls zero = rw placed refl
              with_calls (suc j) = rw placed refl

              -- the change that the line begins
              pub grow_begins : begun s (Some (Ok (w.grow a l n))) ≡ Some (grows t (lowest s.plane n))
              unfolding step
              grow_begins = ap (λ (row : Row). begun_with s (w.grow a l n) a row.calls) (grown_row [] said.Ok refl) ∙ with_calls n
