-- Pieces of runs, one after the other.
use Rattle.std.proofs.Common.{◌≡◌, ◌<◌, ◌+◌, ◌⊎◌, ◌↔◌, inl, inr, ⊎_elim, ℕ, zero, suc, List, [], ◌∷◌, length, take, get_or, true, arith, sym, subst}
use Rattle.std.specs.List.{list_all}
use Rattle.std.proofs.lemmas.Bool.{and_parts}
use Rattle.std.proofs.lemmas.List.{take_more}
use Rattle.ark_base.specs.declared.block.Span.{Span}
use Rattle.ark_extents.specs.Runs.{share_none, are_apart}
use Rattle.ark_extents.specs.Free.{HasBlock, AnyHas}
use Rattle.ark_extents.proofs.Holding.{none_shared}
use Rattle.ark_extents.proofs.RisingRuns.{any_append}

-- the run at a place
pub any_at : (runs : List Span) (i : ℕ) (d : Span) (n : ℕ) → i < length runs → HasBlock (get_or runs i d) n → AnyHas runs n
any_at [] i d n lt h = absurd (omega arith)
any_at (run ∷ runs) zero d n lt h = inl h
any_at (run ∷ runs) (suc i) d n lt h = inr (any_at runs i d n (omega arith) h)

pub any_more : (runs : List Span) (i : ℕ) (d : Span) (n : ℕ) → i < length runs → AnyHas (take (i + 1) runs) n ↔ (AnyHas (take i runs) n ⊎ HasBlock (get_or runs i d) n)
any_more runs i d n lt =
    let both = any_append (take i runs) (get_or runs i d ∷ []) n in
    subst (λ (l : List Span). AnyHas l n ↔ (AnyHas (take i runs) n ⊎ HasBlock (get_or runs i d) n)) (sym (take_more runs i d lt)) (
      λ a. ⊎_elim (λ x. inl x) (λ y. ⊎_elim (λ h. inr h) (λ h. absurd h) y) (both.0 a),
      λ a. both.1 (⊎_elim (λ x. inl x) (λ h. inr (inl h)) a),
    )

-- no two share a block
pub none_before : (runs : List Span) (i : ℕ) (d : Span) (n : ℕ) → share_none runs ≡ true → i < length runs → AnyHas (take i runs) n → HasBlock (get_or runs i d) n → ⊥
none_before [] i d n s lt a h = omega arith
none_before (run ∷ runs) zero d n s lt a h = a
none_before (run ∷ runs) (suc i) d n s lt (inl a) h =
    none_shared run runs (and_parts (list_all (λ r. are_apart run r) runs) (share_none runs) s).0 n a (any_at runs i d n (omega arith) h)
none_before (run ∷ runs) (suc i) d n s lt (inr a) h =
    none_before runs i d n (and_parts (list_all (λ r. are_apart run r) runs) (share_none runs) s).1 (omega arith) a h
