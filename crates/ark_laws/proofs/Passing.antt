-- The blocks of a line's device events are within the rate of the card that it moves.
use Rattle.std.proofs.Common.{◌≡◌, ◌≤◌, ℕ, ◌+◌, false, List, [], ◌∷◌, ◌++◌, ◌&&◌, refl, sym, ◌∙◌, ap, subst, arith, cond}
use Rattle.std.proofs.lemmas.Bool.{false≢true}
use Rattle.std.proofs.lemmas.List.{append-nil, append_assoc}
use Rattle.std.specs.Prelude.{Option, Some, None, option_and_then, nat_le}
use Rattle.std.specs.List.{AllByRecursion}
use Rattle.ark_media.specs.Journal.{Event, Read, Write, Sync, Out}
use Rattle.ark_vic.specs.Pace.{Pass, passed_between, WithinRate}
use Rattle.ark_script.specs.Line.{Line}
use Rattle.ark_machine.specs.Objects.{Paced}
use Rattle.ark_machine.specs.Machine.{Machine, vsic_at}
use Rattle.ark_machine.specs.Row
use Rattle.ark_machine.specs.Row.{Call}
use Rattle.ark_machine.specs.Rates.{passed}
use Rattle.ark_machine.specs.System.{System}
use Rattle.ark_machine.specs.Follow.{Makes, is_repeated, Follow, ended, fails, goes_on, again, passes}
use Rattle.ark_machine.specs.Sending.{blocks_passed, pace_at, KeepsWith}
use Rattle.ark_machine.specs.Paced.{IsPacedAt, MachinePacedAt}
use Rattle.ark_laws.proofs.Paced.{VsicPaced, vsic_at_paced}

-- Lists of passes.

fewer_step : (a b c : ℕ) → b ≤ c → a + b ≤ a + c
fewer_step a b c h = omega arith

fewer_between : (s t : ℕ) (p more : List Pass) → passed_between s t p ≤ passed_between s t (p ++ more)
fewer_between s t [] more = omega arith
fewer_between s t (x ∷ p) more = fewer_step (cond (nat_le s x.0 && nat_le x.0 t) x.1 0) (passed_between s t p) (passed_between s t (p ++ more)) (fewer_between s t p more)

keeps_front : (q b : ℕ) (p more : List Pass) → WithinRate q b (p ++ more) → WithinRate q b p
keeps_front q b p more h s t le = let k = h s t le in let f = fewer_between s t p more in omega (arith, k, f)

-- the first of the passes keep the law too
pub with_front : (p : Option Paced) (few more : List Pass) → KeepsWith p (few ++ more) → KeepsWith p few
with_front None few more h = tt
with_front (Some p) few more h = keeps_front p.q p.burst (p.passes ++ few) more (subst (λ l. WithinRate p.q p.burst l) (sym (append_assoc p.passes few more)) h)

-- a pace with more passes
abbrev pub added : Option Paced → List Pass → Option Paced
added None more = None
added (Some p) more = Some (record p { passes = p.passes ++ more })

pub added_none : (p : Option Paced) → added p [] ≡ p
added_none None = refl
added_none (Some p) = ap (λ (l : List Pass). Some (record p { passes = l })) (append-nil p.passes)

pub passed_added : (now n : ℕ) (p : Option Paced) → passed now n p ≡ added p ((now, n) ∷ [])
passed_added now n None = refl
passed_added now n (Some p) = refl

pub with_added : (p : Option Paced) (few more : List Pass) → KeepsWith (added p few) more → KeepsWith p (few ++ more)
with_added None few more h = tt
with_added (Some p) few more h = subst (λ l. WithinRate p.q p.burst l) (append_assoc p.passes few more) h

-- a queue that is paced keeps its rate with no pass more
pub paced_with : (t : ℕ) (p : Option Paced) → IsPacedAt t p → KeepsWith p []
paced_with t None h = tt
paced_with t (Some p) h = subst (λ l. WithinRate p.q p.burst l) (sym (append-nil p.passes)) h.0

pub pace_at_paced : (t : ℕ) (m : Machine) (v : List ℕ) → MachinePacedAt t m → IsPacedAt t (pace_at m v)
pace_at_paced t m v h = by (vsic_at m v) (vsic_at_paced t m v h)
  where
    by : (o : Option _) → VsicPaced t o → IsPacedAt t (option_and_then (λ x. x.pace) o)
    by None q = tt
    by (Some x) q = q

-- Calls and their passes.

abbrev cost : ℕ → Call → List Pass
cost now Row.syncs = []
cost now _ = (now, 512) ∷ []

abbrev pub costs : ℕ → List Call → List Pass
costs now [] = []
costs now (c ∷ cs) = cost now c ++ costs now cs

pub costs_append : (now : ℕ) (cs ds : List Call) → costs now (cs ++ ds) ≡ costs now cs ++ costs now ds
costs_append now [] ds = refl
costs_append now (c ∷ cs) ds = ap (λ l. cost now c ++ l) (costs_append now cs ds) ∙ sym (append_assoc (cost now c) (costs now cs) (costs now ds))

-- none of the calls is made more than once
abbrev pub OnceEach : List Call → Type 0
OnceEach cs = AllByRecursion (λ c. is_repeated c ≡ false) cs

event_cost : (s : System) (a : List ℕ) (line : Line) (now : ℕ) (c : Call) (e : Event) (es : List Event) → Makes s a line c e → blocks_passed now (e ∷ es) ≡ cost now c ++ blocks_passed now es
event_cost s a line now Row.syncs (Sync ok) es h = refl
event_cost s a line now Row.syncs (Read n ok) es h = absurd h
event_cost s a line now Row.syncs (Write n b took ok) es h = absurd h
event_cost s a line now Row.syncs (Out bytes) es h = absurd h
event_cost s a line now (Row.reads l k) (Read n ok) es h = refl
event_cost s a line now (Row.reads l k) (Sync ok) es h = absurd h
event_cost s a line now (Row.reads l k) (Write n b took ok) es h = absurd h
event_cost s a line now (Row.reads l k) (Out bytes) es h = absurd h
event_cost s a line now (Row.reads_in l) (Read n ok) es h = refl
event_cost s a line now (Row.reads_in l) (Sync ok) es h = absurd h
event_cost s a line now (Row.reads_in l) (Write n b took ok) es h = absurd h
event_cost s a line now (Row.reads_in l) (Out bytes) es h = absurd h
event_cost s a line now (Row.reads_some l) (Read n ok) es h = refl
event_cost s a line now (Row.reads_some l) (Sync ok) es h = absurd h
event_cost s a line now (Row.reads_some l) (Write n b took ok) es h = absurd h
event_cost s a line now (Row.reads_some l) (Out bytes) es h = absurd h
event_cost s a line now _ (Write n b took ok) es h = refl
event_cost s a line now _ (Sync ok) es h = absurd h
event_cost s a line now _ (Read n ok) es h = absurd h
event_cost s a line now _ (Out bytes) es h = absurd h

-- what follows calls that are made once passes no more than they
follow_costs : (s : System) (a : List ℕ) (line : Line) (now : ℕ) {cs : List Call} {es : List Event} → OnceEach cs → Follow s a line cs es → (rest : List Pass) × (costs now cs ≡ blocks_passed now es ++ rest)
follow_costs s a line now once ended = ([], refl)
follow_costs s a line now once (fails {c = c} {cs = cs} {e = e} makes bad) =
    (costs now cs, ap (λ l. l ++ costs now cs) (sym (append-nil (cost now c)) ∙ sym (event_cost s a line now c e [] makes)))
follow_costs s a line now once (goes_on {c = c} {e = e} {es = es} makes good one more) =
    let rest = follow_costs s a line now once.1 more in
    (rest.0, ap (λ l. cost now c ++ l) rest.1 ∙ sym (append_assoc (cost now c) (blocks_passed now es) rest.0) ∙ ap (λ l. l ++ rest.0) (sym (event_cost s a line now c e es makes)))
follow_costs s a line now once (again makes good many more) = absurd (false≢true (sym once.0 ∙ many))
follow_costs s a line now once (passes many more) = absurd (false≢true (sym once.0 ∙ many))

-- calls that are made once, and that the pace lets pass
abbrev pub FitsCalls : ℕ → Option Paced → List Call → Type 0
FitsCalls now p cs = OnceEach cs × KeepsWith p (costs now cs)

pub follow_fits : (s : System) (a : List ℕ) (line : Line) (now : ℕ) (p : Option Paced) {cs : List Call} {es : List Event} → FitsCalls now p cs → Follow s a line cs es → KeepsWith p (blocks_passed now es)
follow_fits s a line now p {es = es} fits follow =
    let rest = follow_costs s a line now fits.0 follow in
    with_front p (blocks_passed now es) rest.0 (subst (λ l. KeepsWith p l) rest.1 fits.1)

blocks_append : (now : ℕ) (es more : List Event) → blocks_passed now (es ++ more) ≡ blocks_passed now es ++ blocks_passed now more
blocks_append now [] more = refl
blocks_append now (Read n ok ∷ es) more = ap (λ l. (now, 512) ∷ l) (blocks_append now es more)
blocks_append now (Write n b took ok ∷ es) more = ap (λ l. (now, 512) ∷ l) (blocks_append now es more)
blocks_append now (Sync ok ∷ es) more = blocks_append now es more
blocks_append now (Out bytes ∷ es) more = blocks_append now es more

pub events_front : (now : ℕ) (p : Option Paced) (es more : List Event) → KeepsWith p (blocks_passed now (es ++ more)) → KeepsWith p (blocks_passed now es)
events_front now p es more h = with_front p (blocks_passed now es) (blocks_passed now more) (subst (λ l. KeepsWith p l) (blocks_append now es more) h)
