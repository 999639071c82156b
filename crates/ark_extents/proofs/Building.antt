-- Runs at the front of a fixed array.
use Rattle.std.proofs.Common.{◌≡◌, ◌≤◌, ◌<◌, ◌-◌, ◌+◌, ℕ, zero, suc, List, [], ◌∷◌, ◌++◌, length, take, get_or, set, arith, refl, sym, ◌∙◌, ap, subst, length-append}
use Rattle.std.specs.List.{range_with_len}
use Rattle.std.proofs.lemmas.List.{take_more_set, length-set, get_or_default}
use Rattle.ark_base.specs.declared.block.Span.{Span}
use Rattle.ark_extents.specs.Blocks.{blocks_of, runs_of}
use Rattle.ark_extents.specs.Runs.{no_run}
use Rattle.ark_extents.proofs.RunLemmas.{runs_of-blocks_of, longest_kept, longest_longer, longest_more, blocks_of-longer, blocks_of-append, blocks_of-one}

take-set : (xs : List Span) (n k : ℕ) (v : Span) → k < n → take n (set xs k v) ≡ set (take n xs) k v
take-set xs zero k v lt = absurd (omega arith)
take-set [] (suc n) k v lt = refl
take-set (x ∷ xs) (suc n) zero v lt = refl
take-set (x ∷ xs) (suc n) (suc k) v lt = ap (λ t. x ∷ t) (take-set xs n k v (omega arith))

get_or-take : (xs : List Span) (n k : ℕ) (d : Span) → k < n → get_or (take n xs) k d ≡ get_or xs k d
get_or-take xs zero k d lt = absurd (omega arith)
get_or-take [] (suc n) k d lt = refl
get_or-take (x ∷ xs) (suc n) zero d lt = refl
get_or-take (x ∷ xs) (suc n) (suc k) d lt = get_or-take xs n k d (omega arith)

-- what holds of runs that were put together
pub record IsBuilt (runs : List Span) (count : ℕ) (blocks : List ℕ) : Type 0 where
  pub size : count ≡ length runs
  pub longest : runs_of (blocks_of runs) ≡ runs
  pub same : blocks_of runs ≡ blocks

module _ (all : List Span) (count : ℕ) (run : Span) (size : count ≡ length (take count all)) (kept : runs_of (blocks_of (take count all)) ≡ take count all) where
  abbrev runs : List Span
  runs = take count all

  built_longer : (k : ℕ) → suc k ≡ count → (last : Span) → last ≡ get_or runs k no_run → last.start + last.len ≡ run.start
      → IsBuilt (set runs k (record { start = last.start; len = last.len + run.len })) count (blocks_of runs ++ range_with_len run.start run.len)
  built_longer k at last is ends =
      let place : suc k ≡ length runs = at ∙ size in
      subst (λ (l : Span). l.start + l.len ≡ run.start → IsBuilt (set runs k (record { start = l.start; len = l.len + run.len })) count (blocks_of runs ++ range_with_len run.start run.len)) (sym is)
      (λ e. record {
        size = size ∙ sym (length-set runs k (record { start = (get_or runs k no_run).start; len = (get_or runs k no_run).len + run.len }));
        longest = runs_of-blocks_of _ (longest_longer runs k run.len no_run place (longest_kept runs kept));
        same = blocks_of-longer runs k run.len no_run place ∙ ap (λ s. blocks_of runs ++ range_with_len s run.len) e;
      }) ends

  -- the last run goes on
  pub lengthened : 0 < count → (get_or all (count - 1) no_run).start + (get_or all (count - 1) no_run).len ≡ run.start
      → IsBuilt (take count (set all (count - 1) (record { start = (get_or all (count - 1) no_run).start; len = (get_or all (count - 1) no_run).len + run.len }))) count (blocks_of runs ++ range_with_len run.start run.len)
  lengthened some ends =
      let at : suc (count - 1) ≡ count = omega arith in
      subst (λ (l : List Span). IsBuilt l count (blocks_of runs ++ range_with_len run.start run.len))
      (sym (take-set all count (count - 1) (record { start = (get_or all (count - 1) no_run).start; len = (get_or all (count - 1) no_run).len + run.len }) (omega arith)))
      (built_longer (count - 1) at (get_or all (count - 1) no_run) (sym (get_or-take all count (count - 1) no_run (omega arith))) ends)

  -- the run stands by itself
  pub appended : count < length all → 1 ≤ run.len → (0 < count → (get_or all (count - 1) no_run).start + (get_or all (count - 1) no_run).len ≡ run.start → ⊥)
      → IsBuilt (take (count + 1) (set all count run)) (count + 1) (blocks_of runs ++ range_with_len run.start run.len)
  appended room some ends =
      subst (λ (l : List Span). IsBuilt l (count + 1) (blocks_of runs ++ range_with_len run.start run.len)) (sym (take_more_set all count run room))
      (record {
        size = omega (arith, length-append runs (run ∷ []), size);
        longest = runs_of-blocks_of (runs ++ run ∷ []) (longest_more runs run (longest_kept runs kept) some apart);
        same = blocks_of-append runs (run ∷ []) ∙ ap (λ t. blocks_of runs ++ t) (blocks_of-one run);
      })
    where
      apart : (k : ℕ) (d : Span) → suc k ≡ length runs → (get_or runs k d).start + (get_or runs k d).len ≡ run.start → ⊥
      apart k d at e =
          let last : k ≡ count - 1 = omega (arith, size, at) in
          let same : get_or runs k d ≡ get_or all (count - 1) no_run = get_or-take all count k d (omega (arith, size, at)) ∙ get_or_default all k d no_run (omega (arith, size, at, room)) ∙ ap (λ i. get_or all i no_run) last in
          ends (omega (arith, size, at)) (sym (ap (λ (s : Span). s.start + s.len) same) ∙ e)
