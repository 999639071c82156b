-- What a host's table and its free blocks have to do with the raw area of a grant.
use Rattle.std.proofs.Common.{◌≡◌, ℕ, suc, ◌+◌, ◌≤◌, false, cond, ◌==◌, List, [], ◌∷◌, ◌++◌, length, take, sym, ◌∙◌, ap, subst, arith, Contains}
use Rattle.std.specs.Prelude.{Some, Ok, Err}
use Rattle.std.proofs.lemmas.Bool.{false≢true}
use Rattle.ark_base.specs.declared.block.Span.{Span}
use Rattle.ark_base.specs.declared.refusal.Refusal.{Refusal}
use Rattle.ark_media.specs.Journal.{History}
use Rattle.ark_extents.specs.Blocks.{runs_of, with_block, ShareNoBlock}
use Rattle.ark_table.specs.Slots.{area_of}
use Rattle.ark_table.specs.Standing.{Table, slot_in}
use Rattle.ark_machine.specs.Plane.{lowest}
use Rattle.ark_machine.specs.System.{System, machine_of}
use Rattle.ark_machine.proofs.Grants.{lowest_free}
use Rattle.ark_held.specs.Around.{Around}
use Rattle.ark_held.specs.Words.{grant_at}
use Rattle.ark_held.proofs.Members.{contains_in}
use Rattle.ark_held.specs.declared.app.App.{App}
use Rattle.ark_held.specs.declared.areas.Area.{Area as Kept}
use Rattle.ark_own.proofs.OfGrants.{IsGrantOf, Lacks, finds_grant}
use Rattle.ark_host.specs.declared.host.Host.{Host}
use Rattle.ark_plane.specs.Tables.{table_of}
use Rattle.ark_host.specs.Stands.{Stands, IsHeld, around}
use Rattle.ark_plane.proofs.Tests.{by_test}
use Rattle.ark_plane.proofs.Tabling.{area_there}
use Rattle.ark_plane.proofs.Sharing.{has}
use Rattle.ark_host.proofs.Standing.{slot_names}
use Rattle.ark_host.proofs.Fronts.{its_own}

-- Runs: more blocks before others form no fewer.

longer : (n : ℕ) (runs : List Span) → length runs ≤ length (with_block n runs)
longer n [] = omega arith
longer n (run ∷ runs) = by_test (n + 1 == run.start) (λ b. suc (length runs) ≤ length (cond b (record { start = n; len = suc run.len } ∷ runs) (record { start = n; len = 1 } ∷ (run ∷ runs)))) (λ yes. omega arith) (λ no. omega arith)

pub more_runs : (xs ys : List ℕ) → length (runs_of ys) ≤ length (runs_of (xs ++ ys))
more_runs [] ys = omega arith
more_runs (x ∷ xs) ys = let rest = more_runs xs ys in let one = longer x (runs_of (xs ++ ys)) in omega (arith, rest, one)

-- In the host: the slot is the one of the plane, whose blocks are none of those that are free.
module _ (host : Host) (size : ℕ) (past : History) (s : System) (a l : List ℕ) (app : App) (st : Stands host size past s) (h : IsHeld host.grants past s a app) where
  abbrev pub x : Around
  x = around s past a h.numbers app (machine_of s a)

  pub lacks : (e : Refusal) → grant_at app.labels app.areas l ≡ Err e → Lacks x l e
  lacks e is = finds_grant x l h.holds (Err e) is

  pub granted_at : (grant : ℕ) (kept : Kept) → grant_at app.labels app.areas l ≡ Ok (grant, kept) → IsGrantOf x l grant kept
  granted_at grant kept is = finds_grant x l h.holds (Ok (grant, kept)) is

  module _ (grant : ℕ) (kept : Kept) (f : IsGrantOf x l grant kept) where
    pub held : Contains s.plane.slots f.area.slot × (a ≡ f.area.slot.app) × (l ≡ f.area.slot.label)
    held = slot_names s.plane.slots a l f.area.slot f.area.placed

    pub in_use : slot_in host.plane.table kept.slot ≡ Some (area_of f.area.slot)
    in_use =
        ap (λ (z : Table). slot_in z kept.slot) st.plane.table ∙ ap (λ i. slot_in (table_of s.plane.slots) i) (ap (λ (z : Kept). z.slot) (sym f.its_area))
        ∙ area_there s.plane.size s.plane.slots st.plane.apart.fit st.plane.apart.apart f.area.slot (contains_in s.plane.slots f.area.slot held.0)

    pub apart_lowest : (n : ℕ) → ShareNoBlock f.area.slot.blocks (lowest s.plane n)
    apart_lowest n m own new = false≢true (sym (lowest_free s.plane n m (has (lowest s.plane n) m new)) ∙ its_own s f.area.slot m held.0 own)

    pub apart_free : (n : ℕ) → host.plane.failed ≡ false → ShareNoBlock f.area.slot.blocks (take n host.plane.free)
    apart_free n fine = subst (λ (bs : List ℕ). ShareNoBlock f.area.slot.blocks (take n bs)) (st.plane.free fine) (apart_lowest n)
