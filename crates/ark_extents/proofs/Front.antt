-- The lowest blocks of runs in rising order.
use Rattle.std.proofs.Common.{◌≡◌, ◌≤◌, ◌<◌, ◌-◌, ◌+◌, ◌^◌, ℕ, zero, suc, List, [], ◌∷◌, ◌++◌, length, take, drop, get_or, true, false, Bool, ◌==◌, if◌then◌else◌, arith, refl, sym, ◌∙◌, ap, subst, append_assoc, length-append, Contains}
use Rattle.std.specs.List.{range_with_len}
use Rattle.std.proofs.lemmas.Bool.{eqb-true}
use Rattle.std.proofs.lemmas.List.{get_or-drop, get_or_default, drop-drop}
use Rattle.std.proofs.lemmas.List.FromFn.{length-range_with_len}
use Rattle.ark_base.specs.declared.block.Span.{Span}
use Rattle.ark_extents.specs.Blocks.{blocks_of, runs_of, AreDistinct}
use Rattle.ark_extents.specs.Runs.{no_run, are_spans}
use Rattle.ark_extents.specs.Free.{AreRising, IsFront, with_run}
use Rattle.ark_extents.proofs.RunLemmas.{blocks_of-append, blocks_of-one, blocks_of-more, runs_of-blocks_of, range-append}
use Rattle.ark_extents.proofs.RisingRuns.{at_place, length-front, rising_append, rising_front, rising_rest, rising_before, rising_with_run, rising_weaker}
use Rattle.ark_extents.proofs.Ascending.{ascend_blocks, ascend_distinct, longest_rising, rising_below}
use Rattle.ark_extents.proofs.Holding.{has_contained}
use Rattle.ark_extents.proofs.Counting.{spans_from}

pub length-more : (runs : List Span) (i : ℕ) (d : Span) → i < length runs → length (blocks_of (take (i + 1) runs)) ≡ length (blocks_of (take i runs)) + (get_or runs i d).len
length-more runs i d lt =
    ap length (blocks_of-more runs i d lt) ∙ length-append (blocks_of (take i runs)) (range_with_len (get_or runs i d).start (get_or runs i d).len)
    ∙ ap (λ n. length (blocks_of (take i runs)) + n) (length-range_with_len (get_or runs i d).start (get_or runs i d).len)

take-seam : (xs ys : List ℕ) (n : ℕ) → n ≡ length xs → take n (xs ++ ys) ≡ xs
take-seam [] ys zero e = refl
take-seam [] ys (suc n) e = absurd (omega (arith, e))
take-seam (x ∷ xs) ys zero e = absurd (omega (arith, e))
take-seam (x ∷ xs) ys (suc n) e = ap (λ t. x ∷ t) (take-seam xs ys n (omega (arith, e)))

drop-seam : (xs ys : List ℕ) (n : ℕ) → n ≡ length xs → drop n (xs ++ ys) ≡ ys
drop-seam [] ys zero e = refl
drop-seam [] ys (suc n) e = absurd (omega (arith, e))
drop-seam (x ∷ xs) ys zero e = absurd (omega (arith, e))
drop-seam (x ∷ xs) ys (suc n) e = drop-seam xs ys n (omega (arith, e))

blocks_of-with_run : (run : Span) (runs : List Span) → blocks_of (with_run run runs) ≡ range_with_len run.start run.len ++ blocks_of runs
blocks_of-with_run run runs = by (run.len == 0) refl
  where
    by : (b : Bool) → (run.len == 0) ≡ b → blocks_of (if b then runs else run ∷ runs) ≡ range_with_len run.start run.len ++ blocks_of runs
    by true e = sym (ap (λ n. range_with_len run.start n ++ blocks_of runs) (eqb-true run.len 0 e))
    by false e = refl

module _ (runs : List Span) (n whole rest : ℕ) (rising : AreRising 0 runs) (front : IsFront runs n whole rest) where
  abbrev run : Span
  run = get_or runs whole no_run

  abbrev first : Span
  first = record { start = run.start; len = rest }

  abbrev left : Span
  left = record { start = run.start + rest; len = run.len - rest }

  abbrev firsts : List Span
  firsts = take whole runs ++ first ∷ []

  lefts : blocks_of runs ≡ blocks_of firsts ++ blocks_of (with_run left (drop (whole + 1) runs))
  lefts =
      let parts : rest + (run.len - rest) ≡ run.len = omega (arith, front.fits) in
      let a = blocks_of (take whole runs) in
      let b = range_with_len run.start rest in
      let c = range_with_len (run.start + rest) (run.len - rest) in
      let d = blocks_of (drop (whole + 1) runs) in
      let split : range_with_len run.start run.len ≡ b ++ c = ap (range_with_len run.start) (sym parts) ∙ range-append run.start rest (run.len - rest) in
      sym (ap blocks_of (at_place runs whole no_run front.inside)) ∙ blocks_of-append (take whole runs) (run ∷ drop (whole + 1) runs)
      ∙ ap (λ t. a ++ (t ++ d)) split ∙ ap (λ t. a ++ t) (append_assoc b c d) ∙ sym (append_assoc a b (c ++ d))
      ∙ ap (λ t. t ++ (c ++ d)) (sym (blocks_of-append (take whole runs) (first ∷ []) ∙ ap (λ t. a ++ t) (blocks_of-one first)))
      ∙ ap (λ t. blocks_of firsts ++ t) (sym (blocks_of-with_run left (drop (whole + 1) runs)))

  size : n ≡ length (blocks_of firsts)
  size = front.total ∙ sym (ap length (blocks_of-append (take whole runs) (first ∷ []) ∙ ap (λ t. blocks_of (take whole runs) ++ t) (blocks_of-one first))
      ∙ length-append (blocks_of (take whole runs)) (range_with_len run.start rest) ∙ ap (λ k. length (blocks_of (take whole runs)) + k) (length-range_with_len run.start rest))

  pub take_lowest : take n (blocks_of runs) ≡ blocks_of firsts
  take_lowest = ap (take n) lefts ∙ take-seam (blocks_of firsts) (blocks_of (with_run left (drop (whole + 1) runs))) n size

  pub take_parts : take n (blocks_of runs) ≡ blocks_of (take whole runs) ++ range_with_len run.start rest
  take_parts = take_lowest ∙ blocks_of-append (take whole runs) (first ∷ []) ∙ ap (λ t. blocks_of (take whole runs) ++ t) (blocks_of-one first)

  pub drop_blocks : drop n (blocks_of runs) ≡ blocks_of (with_run left (drop (whole + 1) runs))
  drop_blocks = ap (drop n) lefts ∙ drop-seam (blocks_of firsts) (blocks_of (with_run left (drop (whole + 1) runs))) n size

  split_rising : AreRising 0 (take whole runs ++ run ∷ drop (whole + 1) runs)
  split_rising = subst (AreRising 0) (sym (at_place runs whole no_run front.inside)) rising

  pub front_rising : AreRising 0 (take whole runs)
  front_rising = rising_front 0 (take whole runs) (run ∷ drop (whole + 1) runs) split_rising

  pub run_within : run.start + run.len ≤ 2 ^ 32 - 1
  run_within = (rising_rest 0 (take whole runs) (run ∷ drop (whole + 1) runs) split_rising).2

  firsts_rising : AreRising 0 firsts
  firsts_rising = rising_append 0 run.start (take whole runs) (first ∷ []) (omega arith) front_rising (rising_before 0 (take whole runs) run (drop (whole + 1) runs) split_rising)
      (omega arith, front.some, omega (arith, run_within, front.fits), tt)

  pub left_rising : AreRising 0 (with_run left (drop (whole + 1) runs))
  left_rising =
      let behind = (rising_rest 0 (take whole runs) (run ∷ drop (whole + 1) runs) split_rising).3 in
      rising_with_run left (drop (whole + 1) runs) 0 (omega arith) (omega (arith, run_within, front.fits)) (rising_weaker (run.start + run.len + 1) (left.start + left.len + 1) (drop (whole + 1) runs) (omega (arith, front.fits)) behind)

  pub runs_lowest : runs_of (take n (blocks_of runs)) ≡ firsts
  runs_lowest = ap runs_of take_lowest ∙ runs_of-blocks_of firsts (longest_rising 0 firsts firsts_rising)

  pub count_lowest : length (runs_of (take n (blocks_of runs))) ≡ whole + 1
  count_lowest = ap length runs_lowest ∙ length-append (take whole runs) (first ∷ []) ∙ ap (λ k. k + 1) (length-front runs whole (omega (arith, front.inside)))

  pub spans_lowest : 1 ≤ n → length (runs_of (take n (blocks_of runs))) ≤ 16 → are_spans (runs_of (take n (blocks_of runs))) ≡ true
  spans_lowest some few = spans_from (take n (blocks_of runs)) (omega (arith, ap length take_lowest, size, some))
      (subst AreDistinct (sym take_lowest) (ascend_distinct 0 (blocks_of firsts) (ascend_blocks 0 firsts firsts_rising)))
      (λ m has. rising_below 0 firsts m firsts_rising (has_contained firsts m (subst (λ (bs : List ℕ). Contains bs m) take_lowest has))) few

-- a list without its first runs, and the next one out of it
module _ (runs l1 l2 l3 : List Span) (whole rest : ℕ) (run : Span) (e1 : l1 ≡ drop whole runs) (is : run ≡ get_or l1 0 run) (e2 : l2 ≡ drop 1 l1)
    (e3 : l3 ≡ with_run (record { start = run.start + rest; len = run.len - rest }) l2) (lt : whole < length runs) where
  pub next_is : run ≡ get_or runs whole no_run
  next_is =
      let same : whole + 0 ≡ whole = omega arith in
      is ∙ ap (λ l. get_or l 0 run) e1 ∙ get_or-drop whole runs 0 run ∙ ap (λ k. get_or runs k run) same ∙ get_or_default runs whole run no_run lt

  pub after_first : l3 ≡ with_run (record { start = (get_or runs whole no_run).start + rest; len = (get_or runs whole no_run).len - rest }) (drop (whole + 1) runs)
  after_first =
      e3 ∙ ap (λ (r : Span). with_run (record { start = r.start + rest; len = r.len - rest }) l2) next_is
      ∙ ap (λ l. with_run (record { start = (get_or runs whole no_run).start + rest; len = (get_or runs whole no_run).len - rest }) l) (e2 ∙ ap (drop 1) e1 ∙ drop-drop 1 whole runs)
