-- The events that read and repair an area follow the calls of an opening.
use Rattle.std.proofs.Common.{◌≡◌, inl, inr, ℕ, Bool, true, false, List, [], ◌∷◌, ◌++◌, append-nil, drop, refl, sym, ap, subst}
use Rattle.std.specs.List.{AllByRecursion}
use Rattle.ark_media.specs.Journal.{Event, has_succeeded}
use Rattle.ark_media.specs.Calls.{Call, Comes, Makes, Reads, Syncs, Writes}
use Rattle.ark_entry.specs.Found.{Entries, Found, damaged, found}
use Rattle.ark_chain.specs.Repair.{clears}
use Rattle.ark_chain.specs.Survey.{reads}
use Rattle.ark_machine.specs.Row
use Rattle.ark_machine.specs.Follow.{Follows, MakesAt, again, ended, fails, goes_on, is_repeated, passes}
use Rattle.ark_machine.specs.Logs.{opening_calls}
use Rattle.ark_running.specs.Opening.{AreAmong, ReadsArea, RepairsArea}

comes_ended : (c : Call) (ok : Bool) (e : Event) → Comes c ok e → has_succeeded e ≡ ok
comes_ended (Reads n) ok e came = ap has_succeeded came
comes_ended (Writes n content) ok e came = ap has_succeeded came.2
comes_ended Syncs ok e came = ap has_succeeded came

module _ (M : Row.Call → Event → Type 0) (ok : Bool) where
  -- a call of the row is this call
  abbrev pub IsCall : Row.Call → Call → Type 0
  IsCall c d = (well : Bool) (e : Event) → Comes d well e → M c e

  -- one call that is made once, and what follows it
  once_follows : (c : Row.Call) (d : Call) (cs : List Row.Call) (ds : List Call) → is_repeated c ≡ false → IsCall c d → ((es : List Event) → Makes ds ok es → Follows M cs es)
      → (es : List Event) → Makes (d ∷ ds) ok es → Follows M (c ∷ cs) es
  once_follows c d cs ds one is rest [] makes = absurd makes
  once_follows c d cs ds one is rest (e ∷ es) (inl m) = goes_on (is true e m.0) (comes_ended d true e m.0) one (rest es m.1)
  once_follows c d cs ds one is rest (e ∷ es) (inr m) = subst (λ (l : List Event). Follows M (c ∷ cs) (e ∷ l)) (sym m.2) (fails (is false e m.0) (comes_ended d false e m.0))

  -- one that is made any number of times
  often_follows : (c : Row.Call) (front : List Call) (cs : List Row.Call) (ds : List Call) → is_repeated c ≡ true → AllByRecursion (IsCall c) front → ((es : List Event) → Makes ds ok es → Follows M cs es)
      → (es : List Event) → Makes (front ++ ds) ok es → Follows M (c ∷ cs) es
  often_follows c [] cs ds more are rest es makes = passes more (rest es makes)
  often_follows c (d ∷ front) cs ds more are rest [] makes = absurd makes
  often_follows c (d ∷ front) cs ds more are rest (e ∷ es) (inl m) = again (are.0 true e m.0) (comes_ended d true e m.0) more (often_follows c front cs ds more are.1 rest es m.1)
  often_follows c (d ∷ front) cs ds more are rest (e ∷ es) (inr m) = subst (λ (l : List Event). Follows M (c ∷ cs) (e ∷ l)) (sym m.2) (fails (are.0 false e m.0) (comes_ended d false e m.0))

  none_follows : (es : List Event) → Makes [] ok es → Follows M [] es
  none_follows [] makes = ended
  none_follows (e ∷ es) makes = absurd makes

module _ (blocks : List ℕ → List ℕ) (s : List ℕ) where
  sync_is : IsCall (MakesAt blocks) true Row.syncs Syncs
  sync_is ok e came = subst (λ (x : Event). MakesAt blocks Row.syncs x) (sym came) tt

  reads_are : (ns : List ℕ) → AreAmong (blocks s) ns → AllByRecursion (IsCall (MakesAt blocks) true (Row.reads_some s)) (reads ns)
  reads_are [] among = tt
  reads_are (n ∷ ns) among = (λ ok e came. subst (λ (x : Event). MakesAt blocks (Row.reads_some s) x) (sym came) among.0, reads_are ns among.1)

  zeroes_are : (ns : List ℕ) → AreAmong (drop 1 (blocks s)) ns → AllByRecursion (IsCall (MakesAt blocks) true (Row.zeroes_some s)) (clears ns)
  zeroes_are [] among = tt
  zeroes_are (n ∷ ns) among = (λ ok e came. subst (λ (x : Event). MakesAt blocks (Row.zeroes_some s) x) (sym came.2) (among.0, refl, came.1), zeroes_are ns among.1)

  -- a repair
  pub repairs_follow : (l : Entries) (header : List ℕ) (ok : Bool) (es : List Event) → RepairsArea (blocks s) header ok es → Follows (MakesAt blocks) (opening_calls s (found l)) es
  repairs_follow l header ok es has =
      let M = MakesAt blocks in
      often_follows M ok (Row.reads_some s) (reads has.read) _ (Syncs ∷ (clears has.cleared ++ Writes has.first header ∷ Syncs ∷ [])) refl (reads_are has.read has.area)
      (once_follows M ok Row.syncs Syncs _ (clears has.cleared ++ Writes has.first header ∷ Syncs ∷ []) refl sync_is
      (often_follows M ok (Row.zeroes_some s) (clears has.cleared) _ (Writes has.first header ∷ Syncs ∷ []) refl (zeroes_are has.cleared has.ring)
      (once_follows M ok (Row.writes_first s) (Writes has.first header) _ (Syncs ∷ []) refl (λ well e came. subst (λ (x : Event). MakesAt blocks (Row.writes_first s) x) (sym came.2) (has.header_at, came.1))
      (once_follows M ok Row.syncs Syncs _ [] refl sync_is (none_follows M ok)))))
      es has.made

  -- reads, where the list is damaged
  pub reads_follow : (n : ℕ) (ok : Bool) (es : List Event) → ReadsArea (blocks s) ok es → Follows (MakesAt blocks) (opening_calls s (damaged n)) es
  reads_follow n ok es has =
      often_follows (MakesAt blocks) ok (Row.reads_some s) (reads has.read) [] [] refl (reads_are has.read has.area) (none_follows (MakesAt blocks) ok) es
      (subst (λ (cs : List Call). Makes cs ok es) (sym (append-nil (reads has.read))) has.made)

  -- and where one of them failed, whatever the list is
  failed_reads : (cs : List Row.Call) (ns : List ℕ) (es : List Event) → AreAmong (blocks s) ns → Makes (reads ns) false es → Follows (MakesAt blocks) (Row.reads_some s ∷ cs) es
  failed_reads cs [] [] among makes = absurd (cc (makes))
  failed_reads cs [] (e ∷ es) among makes = absurd makes
  failed_reads cs (n ∷ ns) [] among makes = absurd makes
  failed_reads cs (n ∷ ns) (e ∷ es) among (inl m) = again ((reads_are (n ∷ ns) among).0 true e m.0) (comes_ended (Reads n) true e m.0) refl (failed_reads cs ns es among.1 m.1)
  failed_reads cs (n ∷ ns) (e ∷ es) among (inr m) =
      subst (λ (l : List Event). Follows (MakesAt blocks) (Row.reads_some s ∷ cs) (e ∷ l)) (sym m.2) (fails ((reads_are (n ∷ ns) among).0 false e m.0) (comes_ended (Reads n) false e m.0))

  pub failed_follow : (x : Found) (es : List Event) → ReadsArea (blocks s) false es → Follows (MakesAt blocks) (opening_calls s x) es
  failed_follow (found l) es has = failed_reads _ has.read es has.area has.made
  failed_follow (damaged n) es has = failed_reads _ has.read es has.area has.made
