-- What a host stood for, as the disk goes on to tell.
use Rattle.std.proofs.Common.{◌≡◌, ℕ, List, [], ◌++◌, sym, ◌∙◌, ap, subst}
use Rattle.std.specs.Prelude.{Some}
use Rattle.ark_media.specs.Journal.{Event, History, onto}
use Rattle.ark_media.specs.Calls.{Told, Rests, Adds}
use Rattle.ark_media.specs.Going.{onto-append}
use Rattle.ark_machine.specs.System.{System}
use Rattle.ark_machine.proofs.Fronts.{onto_same}
use Rattle.ark_held.specs.After.{IsTold}
use Rattle.ark_media.specs.Standing.{after}
use Rattle.ark_host.specs.declared.host.Host.{Host}
use Rattle.ark_host.specs.Stands.{Stands, Stood}

pub after_append : (h : History) (xs ys : List Event) → after h (xs ++ ys) ≡ after (after h xs) ys
after_append h xs ys = ap (λ (j : List Event). record { base = h.base; journal = j }) (onto-append xs ys h.journal)

-- what is told after two lists of events was told after the first of them
told_back : (t0 t1 : Told) (h : History) (xs ys : List Event) → Adds t0.history t1.history ys → IsTold t1 h (xs ++ ys) → IsTold t0 h xs
told_back t0 t1 h xs ys adds is =
    let was = adds.told (after h (xs ++ ys)) is in
    let same : was.0 ≡ onto xs h.journal = onto_same ys was.0 (onto xs h.journal) (sym was.2 ∙ onto-append xs ys h.journal) in
    was.1 ∙ ap (λ (j : List Event). Some (record { base = h.base; journal = j })) same

-- before more events
pub stood_before : (host : Host) (t0 t1 : Told) (xs ys : List Event) (s : System) (h : History) → Adds t0.history t1.history ys → t1.blocks ≡ t0.blocks → Stood host t1 h (xs ++ ys) s → Stood host t0 h xs s
stood_before host t0 t1 xs ys s h adds size stood = record {
  is_told = told_back t0 t1 h xs ys adds stood.is_told;
  stands = subst (λ (n : ℕ). Stands host n h s) size stood.stands;
}

-- where the disk rested
pub stood_rests : (host : Host) (t0 t1 : Told) (es : List Event) (s : System) (h : History) → Rests [] t0 t1 → Stood host t1 h es s → Stood host t0 h es s
stood_rests host t0 t1 es s h rests stood =
    let was = rests.adds.told (after h es) stood.is_told in
    record {
      is_told = was.1 ∙ ap (λ (j : List Event). Some (record { base = h.base; journal = j })) (sym was.2);
      stands = subst (λ (n : ℕ). Stands host n h s) rests.blocks stood.stands;
    }

-- another host stands for what comes after the first of two lists of events
pub stood_then : (first host : Host) (t0 t1 : Told) (xs ys : List Event) (s sm : System) (h : History) → t1.blocks ≡ t0.blocks → Stood first t1 h (xs ++ ys) s → Stands host t0.blocks (after h xs) sm → Stood host t1 (after h xs) ys sm
stood_then first host t0 t1 xs ys s sm h size stood stands = record {
  is_told = stood.is_told ∙ ap (λ (z : History). Some z) (after_append h xs ys);
  stands = subst (λ (n : ℕ). Stands host n (after h xs) sm) (sym size) stands;
}
