-- How what is told goes on: the laws that every implementation of the outside cites, written out.
use Rattle.std.proofs.Common.{◌≡◌, ◌⊎◌, inl, inr, ⊎_elim, ℕ, ◌+◌, ◌-◌, ◌^◌, ◌≤◌, List, [], ◌∷◌, ◌++◌, refl, sym, ◌∙◌, ap}
use Rattle.std.proofs.Math.Nat.{le_refl, le_trans, le-min, min-le_left, min-le_right, add-le-add}
use Rattle.std.specs.Prelude.{Option}
use Rattle.ark_media.specs.Journal.{Event, History, onto, HasFailed}
use Rattle.ark_media.specs.Calls.{Told, Tells, Adds, Rose, Beside, KeepsBeside, Moves}

pub onto-append : (xs ys j : List Event) → onto (xs ++ ys) j ≡ onto ys (onto xs j)
onto-append [] ys j = refl
onto-append (x ∷ xs) ys j = onto-append xs ys (x ∷ j)

pub adds_none : (h : Option History) → Adds h h []
adds_none h = record { told = λ x is. (x.journal, is, refl) }

pub adds_then : (a b c : Option History) (xs ys : List Event) → Adds a b xs → Adds b c ys → Adds a c (xs ++ ys)
adds_then a b c xs ys p q = record {
  told = λ x is.
      let second = q.told x is in
      let first = p.told (record { base = x.base; journal = second.0 }) second.1 in
      (first.0, first.1, second.2 ∙ ap (λ j. onto ys j) first.2 ∙ sym (onto-append xs ys first.0));
}

pub rose_later : (a b c : ℕ) → Rose a b → b ≤ c → Rose a c
rose_later a b c r l = le_trans r l

pub rose_from : (a b c : ℕ) → a ≤ b → Rose b c → Rose a c
rose_from a b c l r =
    le_trans (le-min (le_trans (min-le_left (a + 1) (2 ^ 64 - 1)) (add-le-add l (le_refl 1))) (min-le_right (a + 1) (2 ^ 64 - 1))) r

pub failed_append : (es fs : List Event) → HasFailed (es ++ fs) → HasFailed es ⊎ HasFailed fs
failed_append [] fs h = inr h
failed_append (e ∷ es) fs (inl h) = inl (inl h)
failed_append (e ∷ es) fs (inr h) = ⊎_elim (λ x. inl (inr x)) (λ x. inr x) (failed_append es fs h)

pub tells_none : (t : Told) → Tells [] t t
tells_none t = record { adds = adds_none t.history; blocks = refl; later = le_refl t.faults; cause = λ bad. absurd bad }

pub tells_then : (es fs : List Event) (a b c : Told) → Tells es a b → Tells fs b c → Tells (es ++ fs) a c
tells_then es fs a b c p q = record {
  adds = adds_then a.history b.history c.history es fs p.adds q.adds;
  blocks = q.blocks ∙ p.blocks;
  later = le_trans p.later q.later;
  cause = λ failed. ⊎_elim (λ x. rose_later a.faults b.faults c.faults (p.cause x) q.later) (λ x. rose_from a.faults b.faults c.faults p.later (q.cause x)) (failed_append es fs failed);
}

pub keeps_none : (b : Beside) → KeepsBeside b b
keeps_none b = record { script = record { told = λ x is. is }; openings = refl; attach = refl; source = refl; sink = refl }

pub keeps_then : (a b c : Beside) → KeepsBeside a b → KeepsBeside b c → KeepsBeside a c
keeps_then a b c p q = record {
  script = record { told = λ x is. p.script.told x (q.script.told x is) };
  openings = q.openings ∙ p.openings;
  attach = q.attach ∙ p.attach;
  source = q.source ∙ p.source;
  sink = q.sink ∙ p.sink;
}

pub moves_none : (t : Told) (b : Beside) → Moves [] t t b b
moves_none t b = record { tells = tells_none t; keeps = keeps_none b }

pub moves_then : (es fs : List Event) (t0 t1 t2 : Told) (b0 b1 b2 : Beside) → Moves es t0 t1 b0 b1 → Moves fs t1 t2 b1 b2 → Moves (es ++ fs) t0 t2 b0 b2
moves_then es fs t0 t1 t2 b0 b1 b2 p q = record { tells = tells_then es fs t0 t1 t2 p.tells q.tells; keeps = keeps_then b0 b1 b2 p.keeps q.keeps }
