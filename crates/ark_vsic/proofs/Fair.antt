-- What is due: a block that is due is one of the disk, and what ends with no call is no fault of the device.
use Rattle.std.proofs.Common.{◌≡◌, ℕ, zero, suc, ◌+◌, ◌<◌, true, nat_lt, nat_le, List, [], ◌∷◌, length, Option, Some, None, slice_get, refl, sym, ap, subst, ◌∙◌}
use Rattle.std.specs.Prelude.{All, IfSome, option_map, ◌==◌}
use Rattle.std.specs.List.{find, AllByRecursion}
use Rattle.std.proofs.lemmas.Bool.{cond_both}
use Rattle.std.proofs.lemmas.List.Elements.{recursion_from_All}
use Rattle.ark_base.specs.declared.kind.Outcome.{Outcome}
use Rattle.ark_media.specs.Journal.{Event}
use Rattle.ark_media.specs.Calls.{Call, Makes, Went}
use Rattle.ark_region.specs.Frames.{Space}
use Rattle.ark_vic.specs.Pace.{Pace, fill_at}
use Rattle.ark_vic.specs.declared.descriptor.Descriptor.{Descriptor}
use Rattle.ark_vic.specs.declared.descriptor.Job.{Job}
use Rattle.ark_vic.specs.declared.descriptor.Job.TheVariants as job
use Rattle.ark_vsic.specs.declared.due.Due.{Due}
use Rattle.ark_vsic.specs.declared.due.Due.TheVariants as due
use Rattle.ark_vsic.specs.declared.due.Moved.{Moved}
use Rattle.ark_vsic.specs.declared.due.Moved.TheVariants as moved
use Rattle.ark_vsic.specs.Card.{Card, Areas, is_bound, head_of}
use Rattle.ark_vsic.specs.Places.{place_of}
use Rattle.ark_vsic.specs.Moves.{due_paced, due_at, due_in, due_by, due_for, due_of, area_of, calls_for, calls_of, worked}

module _ (size : ℕ) where
  -- what may come of areas that lie on a disk of this size
  abbrev IsFair : Due → Type 0
  IsFair (due.Block n) = n < size
  IsFair (due.Ends o) = worked (moved.Done o) ≡ true
  IsFair _ = Unit {0}

  abbrev IsOnDisk : List ℕ → Type 0
  IsOnDisk blocks = All (λ n. n < size) blocks

  on_get : (blocks : List ℕ) (k : ℕ) → AllByRecursion (λ n. n < size) blocks → IfSome (slice_get blocks k) (λ n. n < size)
  on_get [] k on = tt
  on_get (n ∷ blocks) zero on = on.0
  on_get (n ∷ blocks) (suc k) on = on_get blocks k on.1

  on_find : (grant : ℕ) (held : Areas) → AllByRecursion (λ a. IsOnDisk a.1) held → IfSome (option_map (λ a. a.1) (find (λ a. a.0 == grant) held)) IsOnDisk
  on_find grant [] on = tt
  on_find grant (a ∷ held) on =
      cond_both (a.0 == grant) (Some a) (find (λ x. x.0 == grant) held) (λ found. IfSome (option_map (λ x. x.1) found) IsOnDisk) (λ here. on.0) (λ other. on_find grant held on.1)

  fair_paced : (pace : Option Pace) (now n : ℕ) → n < size → IsFair (due_paced pace now n)
  fair_paced None now n lt = lt
  fair_paced (Some p) now n lt =
      cond_both (nat_lt p.burst 512) _ _ IsFair (λ over. refl) (λ within. cond_both (nat_le (fill_at p now + 512) p.burst) _ _ IsFair (λ may. lt) (λ waits. tt))

  fair_at : (n : Option ℕ) (pace : Option Pace) (now : ℕ) → IfSome n (λ b. b < size) → IsFair (due_at n pace now)
  fair_at None pace now lt = refl
  fair_at (Some n) pace now lt = fair_paced pace now n lt

  fair_in : (blocks : Option (List ℕ)) (d : Descriptor) (k : ℕ) (pace : Option Pace) (now : ℕ) → IfSome blocks IsOnDisk → IsFair (due_in blocks d k pace now)
  fair_in None d k pace now on = refl
  fair_in (Some blocks) d k pace now on = fair_at (slice_get blocks (place_of (length blocks) d.wrap d.first k)) pace now (on_get blocks (place_of (length blocks) d.wrap d.first k) (recursion_from_All (λ n. n < size) blocks on))

  fair_by : (j : Job) (x : Due) → IsFair x → IsFair (due_by j x)
  fair_by job.Sync x fair = tt
  fair_by job.Read x fair = fair
  fair_by job.Write x fair = fair
  fair_by job.Zero x fair = fair
  fair_by job.Receive x fair = fair
  fair_by job.Send x fair = fair

  fair_for : (head : Option Descriptor) (card : Card) (held : Areas) (now : ℕ) → All (λ a. IsOnDisk a.1) held → IsFair (due_for head card held now)
  fair_for None card held now on = tt
  fair_for (Some d) card held now on =
      fair_by d.job (due_in (area_of d.grant card.bound held) d card.ring.moved card.pace now)
      (fair_in (area_of d.grant card.bound held) d card.ring.moved card.pace now
      (cond_both (is_bound d.grant card.bound) _ _ (λ blocks. IfSome blocks IsOnDisk) (λ bound. on_find d.grant held (recursion_from_All (λ a. IsOnDisk a.1) held on)) (λ unbound. tt)))

  fair_of : (card : Card) (held : Areas) (now : ℕ) → All (λ a. IsOnDisk a.1) held → IsFair (due_of card held now)
  fair_of card held now on = fair_for (head_of card.ring) card held now on

  pub block_on_disk : (card : Card) (held : Areas) (now n : ℕ) → All (λ a. IsOnDisk a.1) held → due_of card held now ≡ due.Block n → n < size
  block_on_disk card held now n on is = subst IsFair is (fair_of card held now on)

  ends_well : (card : Card) (held : Areas) (now : ℕ) (o : Outcome) → All (λ a. IsOnDisk a.1) held → due_of card held now ≡ due.Ends o → worked (moved.Done o) ≡ true
  ends_well card held now o on is = subst IsFair is (fair_of card held now on)

-- a descriptor that ends with no call made none
quiet : (head : Option Descriptor) (o : Outcome) (k : ℕ) (space : Space) → calls_for head (due.Ends o) k space ≡ []
quiet None o k space = refl
quiet (Some d) o k space = refl

pub went_quietly : {D : Type 0} (goes : D → List Event → D → Type 0) (d : D) → goes d [] d → (card : Card) (held : Areas) (now : ℕ) (space : Space) (size : ℕ) (o : Outcome) (x : Moved)
    → All (λ a. IsOnDisk size a.1) held → due_of card held now ≡ due.Ends o → x ≡ moved.Done o → Went goes (calls_of card (due_of card held now) space) (worked x) d d
went_quietly goes d none card held now space size o x on is done = record {
  events = [];
  makes = subst (λ (cs : List Call). Makes cs (worked x) []) (sym (ap (λ y. calls_of card y space) is ∙ quiet (head_of card.ring) o card.ring.moved space)) (ap worked done ∙ ends_well size card held now o on is);
  goes_on = none;
}
