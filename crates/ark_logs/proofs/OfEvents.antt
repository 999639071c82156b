-- What an opening leaves of its application: where it fails, and where it succeeds.
use Rattle.std.proofs.Common.{inl, inr, ℕ, Bool, true, false, List, [], ◌∷◌, ◌++◌, take, drop, sym, subst, Contains}
use Rattle.std.specs.List.{AllByRecursion}
use Rattle.ark_media.specs.Journal.{Event}
use Rattle.ark_media.specs.Calls.{Call, Comes, Makes, Reads, Syncs, Writes}
use Rattle.ark_chain.specs.Repair.{clears}
use Rattle.ark_chain.specs.Survey.{reads}
use Rattle.ark_running.specs.Opening.{AreAmong, ReadsArea, RepairsArea}
use Rattle.ark_held.proofs.LogCalls.{AreOfLog, IsOfLog}
use Rattle.ark_held.proofs.Members.{contains_in, in_contains, in_drop, in_take}

-- The events of an opening are of the log in these blocks.

abbrev IsOfCall : List ℕ → Call → Type 0
IsOfCall blocks (Reads n) = Unit {0}
IsOfCall blocks (Writes n content) = Contains blocks n
IsOfCall blocks Syncs = Unit {0}

of_call : (blocks : List ℕ) (c : Call) (ok : Bool) (e : Event) → IsOfCall blocks c → Comes c ok e → IsOfLog blocks e
of_call blocks (Reads n) ok e is came = subst (λ (x : Event). IsOfLog blocks x) (sym came) tt
of_call blocks (Writes n content) ok e is came = subst (λ (x : Event). IsOfLog blocks x) (sym came.2) is
of_call blocks Syncs ok e is came = subst (λ (x : Event). IsOfLog blocks x) (sym came) tt

of_calls : (blocks : List ℕ) (cs : List Call) (ok : Bool) (es : List Event) → AllByRecursion (IsOfCall blocks) cs → Makes cs ok es → AreOfLog blocks es
of_calls blocks [] ok [] are makes = tt
of_calls blocks [] ok (e ∷ es) are makes = absurd makes
of_calls blocks (c ∷ cs) ok [] are makes = tt
of_calls blocks (c ∷ cs) ok (e ∷ es) are (inl m) = (of_call blocks c true e are.0 m.0, of_calls blocks cs ok es are.1 m.1)
of_calls blocks (c ∷ cs) ok (e ∷ es) are (inr m) = (of_call blocks c false e are.0 m.0, subst (λ (l : List Event). AreOfLog blocks l) (sym m.2) tt)

all_joined : (P : Call → Type 0) (xs ys : List Call) → AllByRecursion P xs → AllByRecursion P ys → AllByRecursion P (xs ++ ys)
all_joined P [] ys a b = b
all_joined P (x ∷ xs) ys a b = (a.0, all_joined P xs ys a.1 b)

of_reads : (blocks ns : List ℕ) → AllByRecursion (IsOfCall blocks) (reads ns)
of_reads blocks [] = tt
of_reads blocks (n ∷ ns) = (tt, of_reads blocks ns)

of_clears : (blocks ns : List ℕ) → AreAmong (drop 1 blocks) ns → AllByRecursion (IsOfCall blocks) (clears ns)
of_clears blocks [] among = tt
of_clears blocks (n ∷ ns) among = (in_contains blocks n (in_drop 1 blocks n (contains_in (drop 1 blocks) n among.0)), of_clears blocks ns among.1)

pub reads_of : (blocks : List ℕ) (ok : Bool) (es : List Event) → ReadsArea blocks ok es → AreOfLog blocks es
reads_of blocks ok es has = of_calls blocks (reads has.read) ok es (of_reads blocks has.read) has.made

pub repairs_of : (blocks header : List ℕ) (ok : Bool) (es : List Event) → RepairsArea blocks header ok es → AreOfLog blocks es
repairs_of blocks header ok es has = of_calls blocks _ ok es
    (all_joined (IsOfCall blocks) (reads has.read) _ (of_reads blocks has.read) (
      tt,
      all_joined (IsOfCall blocks) (clears has.cleared) _ (of_clears blocks has.cleared has.ring)
          (in_contains blocks has.first (in_take 1 blocks has.first (contains_in (take 1 blocks) has.first has.header_at)), (tt, tt)),
    ))
    has.made
