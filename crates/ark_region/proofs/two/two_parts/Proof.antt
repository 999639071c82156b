-- `two_parts` meets its contract: a walk of its MIR by hand.
use Rattle.std.proofs.Common.{◌≤◌, ◌<◌, ◌+◌, ◌^◌, ℕ, List, [], ◌∷◌, length, refl, sym, w64, MutBor}
use Rattle.std.proofs.raw_atomic.Walks.{proved}
use Rattle.std.specs.Prelude.{◌⊎◌}
use seplogic.Ra.Ura.{Ura}
use mir.Syntax.{named}
use mir.Val.{Val, vint, vstruct, vcons, vnil}
use base.Logic.{SProp, ent}
use base.Fml.{Lft, GName, Share, ftrue, flft}
use prog.Memory.{Memory}
use prog.Routine.{Routine}
use prog.Wp.{Env, Calls, Loops, WpFn}
use types.Logic.{Logic}
use types.Follow.{after₂}
use types.SemTy.{Arr}
use contract.Monad.{Fun, fact}
use contract.Running.{tables}
use types.Kit.{‵, raw, ◌⊛◌, some, later, at_ret, ◌$◌, ◌∵◌, !, qed, by, move, keep, use2, split, split3, join, await, pick, fsplit, fjoin, fpack, feq_i, suffices, frame, done}
use types.Part.{whole, sub, agg}
use types.Run.{stop, fld, addr, hop, from, of_opd, bin, and_then, no_more, first as first_of, blocks, exec, returns, enter}
use types.ByLocal.{alloc_all, pass_all, free_all, look_at, look_in_at, get, sets, sets_last, env}
use denote.Exit.{yes, no}
use denote.RattleType.{RattleType, owns, Valss}
use denote.Memory.{mem}
use denote.Plain.{uint_vals, uint_Tells}
use denote.Slice.{MutSlice, Room, slice_val, mut_slice_vals, mut_slice_Tells}
use denote.Struct.Struct.{within}
use denote.Struct.Tuple.{tuple_type}
use denote.Struct.Declared.{shape}
use denote.Builtin.{u8, usize}
use denote.Signature.{plain, mut_slice_of}
use denote.Steps.{nothing, heard}
use denote.Follow.{both_by}
use denote.Triple.Clauses.{Clauses}
use denote.Triple.Entry.{on_entry}
use denote.Triple.Walked.{says, Stays, stay_dropped, walk_of, ends_at, Goes-dropped, Goes-spent_slice}
use Rattle.ark_region.specs.contracts.two.two_parts as f
use Rattle.ark_region.proofs.two.two_parts.Statement.{statement}
use Rattle.ark_region.proofs.two.two_parts.Code as code
use Rattle.ark_region.proofs.TwoLent.{first, second, ends, first_long, second_long, apart_in, lends_both}

-- what the function still has of each parameter when it returns: nothing
abbrev stayed : Stays f.ended.signature.params f.ended.kept
stayed = (stay_dropped (mut_slice_of (0 ∷ []) tt (plain (λ _. u8))) no, (stay_dropped (plain (λ _. usize)) yes, (stay_dropped (plain (λ _. usize)) yes, (stay_dropped (plain (λ _. usize)) yes, (stay_dropped (plain (λ _. usize)) yes, tt)))))

module _ {M : Type 1} {𝓤 : Ura M} (𝓛 : Logic 𝓤) (at_mem : Memory → SProp 𝓤) (run : Routine → Fun 𝓤) where
  open 𝓛 use {H}

  abbrev clauses : Clauses 𝓤 f.ended
  clauses = f.clauses 𝓛 at_mem run

  -- the slice is lent for κ, lies at the offset o of the block b, is named γ and holds xs
  module _ (κ : Lft) (q : Share) (b o : ℕ) (γ : GName) (xs : List ℕ) (i n j m : ℕ) where
    abbrev self : MutBor (List ℕ)
    self = record { ref_ptr = (b, o); ghost_name = γ; now = xs }

    abbrev bound : (walk_of 𝓛 f.ended stayed clauses).Ghost
    bound = (((κ, tt), (q, tt), tt, (self, (i, (n, (j, (m, tt))))), (mut_slice_vals self, (vint w64 i ∷ [], (vint w64 n ∷ [], (vint w64 j ∷ [], (vint w64 m ∷ [], tt)))))), tt)

    abbrev Post : Val → SProp 𝓤
    Post = (walk_of 𝓛 f.ended stayed clauses).post bound

    abbrev Halves : List RattleType
    Halves = MutSlice (named 0) κ u8 ∷ MutSlice (named 0) κ u8 ∷ []

    module _ (C : Calls 𝓤 H) (Λ : Loops 𝓤 H) where
      walk : Room u8 (length xs) → i < 2 ^ 64 → n < 2 ^ 64 → j < 2 ^ 64 → m < 2 ^ 64 → (i + n ≤ j) ⊎ (j + m ≤ i) → i + n ≤ length xs → j + m ≤ length xs
          → ent 𝓤 (on_entry 𝓛 f.signature (κ, tt) (q, tt) bound.0.3 bound.0.4)
          (WpFn 𝓤 H C Λ code.function (slice_val (b, o) (length xs) ∷ vint w64 i ∷ vint w64 n ∷ vint w64 j ∷ vint w64 m ∷ []) Post)
      unfolding both_by
      walk room fi fn fj fm apart li lj =
          let l₁ = first_long 𝓛 xs i n j m b o li lj in
          let l₂ = second_long 𝓛 xs i n j m b o li lj in
          let X : List ℕ = first 𝓛 xs i n j m b o li lj in
          let Y : List ℕ = second 𝓛 xs i n j m b o li lj in
          let one : GName × GName → MutBor (List ℕ) = λ γs. record { ref_ptr = (b, i + o); ghost_name = γs.0; now = X } in
          let two : GName × GName → MutBor (List ℕ) = λ γs. record { ref_ptr = (b, j + o); ghost_name = γs.1; now = Y } in
          let v : Val = vstruct (vcons (slice_val (b, i + o) n) (vcons (slice_val (b, j + o) m) vnil)) in
          qed 𝓛 ((‵ (flft κ q) ⊛ ‵ ftrue) ∷ ‵ (owns (MutSlice (named 0) κ u8 ∷ usize ∷ usize ∷ usize ∷ usize ∷ []) bound.0.3 bound.0.4) ∷ []) ∵
          enter ! C Λ code.function (slice_val (b, o) (length xs) ∷ vint w64 i ∷ vint w64 n ∷ vint w64 j ∷ vint w64 m ∷ []) _ $
          alloc_all ! (λ l. pass_all ! refl ((tt, (tt, (record { fits = room.0 }, tt))), ((tt, record { fits = fi }), ((tt, record { fits = fn }), ((tt, record { fits = fj }), ((tt, record { fits = fm }), tt))))) $
          let En : Env 𝓤 H = env (code.function).locals l in
          sets ! (addr ! (from ! (fld ! refl (hop ! (look_in_at ! 1 (sub ! 0 refl (whole !))) (stop !))))) refl (tt, tt) $
          first_of ! $ blocks ! $
          sets ! (bin ! (get ! refl) (get ! refl) tt) refl (tt, tt) $
          sets ! (agg ! (and_then ! (get ! refl) (and_then ! (get ! refl) (no_more !)))) refl (tt, (tt, (record { fits = fn }, tt))) $
          sets ! (bin ! (get ! refl) (get ! refl) tt) refl (tt, tt) $
          sets ! (agg ! (and_then ! (get ! refl) (and_then ! (get ! refl) (no_more !)))) refl (tt, (tt, (record { fits = fm }, tt))) $
          sets_last ! (agg ! (and_then ! (get ! refl) (and_then ! (get ! refl) (no_more !)))) refl (tt, ((tt, (record { fits = fn }, tt)), ((tt, (record { fits = fm }, tt)), tt))) $
          exec ! C Λ En code.Mir.t-3 (at_ret En Post) $
          sets ! (of_opd ! (get ! refl)) refl (tt, ((tt, (record { fits = fn }, tt)), ((tt, (record { fits = fm }, tt)), tt))) $
          move ! (1 ∷ []) $ fsplit ! $ move ! (2 ∷ []) $ split ! $ move ! (2 ∷ 0 ∷ []) $
          use2 𝓛 (later (some (λ (γs : GName × GName). ‵ ((MutSlice (named 0) κ u8).own_val (one γs) (slice_val (b, i + o) (length X) ∷ [])) ⊛ ‵ ((MutSlice (named 0) κ u8).own_val (two γs) (slice_val (b, j + o) (length Y) ∷ []))
          ⊛ ‵ (flft κ q) ⊛ ‵ (after₂ (Arr (mem u8) 0) (Arr (mem u8) 0) (Arr (mem u8) 0) γ γs.0 γs.1 (ends 𝓛 xs i n j m b o li lj)))))
          (lends_both 𝓛 xs i n j m b o li lj (apart_in 𝓛 xs i n j m b o li lj apart) (named 0) κ q γ room (mut_slice_vals self)) $ await ! tt $ pick ! (λ γs. split3 ! $
          nothing ! $ move ! (2 ∷ 0 ∷ []) $ fjoin ! $ move ! (1 ∷ 0 ∷ []) $ fjoin ! $
          feq_i ! (List Val) (v ∷ []) (vstruct (vcons (slice_val (b, i + o) (length X)) (vcons (slice_val (b, j + o) (length Y)) vnil)) ∷ []) (λ k. vstruct (vcons (slice_val (b, i + o) (sym l₁ k)) (vcons (slice_val (b, j + o) (sym l₂ k)) vnil)) ∷ []) $ fjoin ! $
          fpack ! (Valss Halves) (within (shape (tuple_type Halves)) (one γs, (two γs, tt)) (v ∷ [])) (slice_val (b, i + o) (length X) ∷ [], (slice_val (b, j + o) (length Y) ∷ [], tt)) $
          move ! (1 ∷ []) $ split ! $
          returns ! (look_at ! 0 refl) $ free_all ! refl $ keep ! (2 ∷ 0 ∷ 1 ∷ []) $
          suffices ! _ (ends_at 𝓛 f.ended stayed clauses bound v (one γs, two γs) (tt, (tt, (tt, (tt, (tt, tt))))) (tt, (tt, (tt, (tt, (tt, tt)))))) $
          nothing ! $ nothing ! $ fjoin ! $ nothing ! $ fjoin ! $ nothing ! $ fjoin ! $ nothing ! $ fjoin ! $ nothing ! $ fjoin ! $ join ! $ nothing ! $ move ! (2 ∷ 0 ∷ []) $ join ! $ join ! $ frame ! $ says ! (refl, refl) $ done !))

pub two_parts_spec : {M : Type 1} → statement M
two_parts_spec 𝓤 𝓛 𝓜 𝓡 wired =
    let c = f.clauses 𝓛 𝓜.mem 𝓡.returns in let 𝓣 = tables 𝓤 𝓛.H 𝓜 𝓡 𝓡.env in
    let number = Goes-dropped 𝓛 1 (plain (λ _. usize)) yes (λ κs x w. refl) in
    proved 𝓛 f.ended stayed c 𝓜 𝓡 (Goes-spent_slice 𝓛 1 (0 ∷ []) tt (plain (λ _. u8)), (number, (number, (number, (number, tt)))))
    f.Key.name code.function (code.unfolded 𝓤 𝓛.H 𝓜 𝓡 wired)
    (λ κs. (mut_slice_vals, (uint_vals w64, (uint_vals w64, (uint_vals w64, (uint_vals w64, tt)))))) (λ κs. (mut_slice_Tells (named 0) κs.0 u8, (uint_Tells w64, (uint_Tells w64, (uint_Tells w64, (uint_Tells w64, tt))))))
    (λ κs qs bounds a _ are.
    let i = a.1.0 in let n = a.1.1.0 in let j = a.1.1.1.0 in let m = a.1.1.1.1.0 in let xs = a.0.now in
    let y = bound 𝓛 𝓜.mem 𝓡.returns κs.0 qs.0 a.0.ref_ptr.0 a.0.ref_ptr.1 a.0.ghost_name xs i n j m in
    qed 𝓛 (raw (on_entry 𝓛 f.signature κs qs y.0.3 y.0.4) ∷ (raw (fact 𝓤 ((i + n ≤ j) ⊎ (j + m ≤ i))) ⊛ raw (fact 𝓤 (i + n ≤ length xs)) ⊛ raw (fact 𝓤 (j + m ≤ length xs))) ∷ []) ∵
    move ! (1 ∷ []) $ split3 ! $ heard ! _ (λ apart. heard ! _ (λ li. heard ! _ (λ lj.
    by ! (walk 𝓛 𝓜.mem 𝓡.returns κs.0 qs.0 a.0.ref_ptr.0 a.0.ref_ptr.1 a.0.ghost_name xs i n j m 𝓣.C 𝓣.Λ are.0.0.1 are.1.0.1 are.1.1.0.1 are.1.1.1.0.1 are.1.1.1.1.0.1 apart li lj)))))
