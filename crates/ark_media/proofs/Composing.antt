-- Calls of an outside one after another: what it tells then.
use Rattle.std.proofs.Common.{◌≡◌, inl, inr, ℕ, ◌≤◌, List, [], ◌∷◌, ◌++◌, take, refl, sym, ◌∙◌, ap, subst, append_assoc, append-nil, arith}
use Rattle.std.specs.Prelude.{Option, Some}
use Rattle.std.proofs.Math.Nat.{le_refl, le_trans}
use Rattle.ark_media.specs.Journal.{Event, Read, Write, Sync, Out, History, output_of, device_events, HasFailed}
use Rattle.ark_media.specs.Calls.{Script, Told, Beside, Tells, Rests, Adds, StillTold, Takes, Fetches, Goes, KeepsBeside, KeepsAtFetch, KeepsAtPut}
use Rattle.ark_media.specs.Going.{tells_none, tells_then}

pub output_of-append : (xs ys : List Event) → output_of (xs ++ ys) ≡ output_of xs ++ output_of ys
output_of-append [] ys = refl
output_of-append (Out b ∷ xs) ys = ap (λ t. b ++ t) (output_of-append xs ys) ∙ sym (append_assoc b (output_of xs) (output_of ys))
output_of-append (Read n ok ∷ xs) ys = output_of-append xs ys
output_of-append (Write n b t ok ∷ xs) ys = output_of-append xs ys
output_of-append (Sync ok ∷ xs) ys = output_of-append xs ys

pub device_events-append : (xs ys : List Event) → device_events (xs ++ ys) ≡ device_events xs ++ device_events ys
device_events-append [] ys = refl
device_events-append (Out b ∷ xs) ys = device_events-append xs ys
device_events-append (Read n ok ∷ xs) ys = ap (λ t. Read n ok ∷ t) (device_events-append xs ys)
device_events-append (Write n b t ok ∷ xs) ys = ap (λ u. Write n b t ok ∷ u) (device_events-append xs ys)
device_events-append (Sync ok ∷ xs) ys = ap (λ t. Sync ok ∷ t) (device_events-append xs ys)

-- output after other events
pub device_events-put : (es : List Event) (bytes : List ℕ) → device_events (es ++ Out bytes ∷ []) ≡ device_events es
device_events-put es bytes = device_events-append es (Out bytes ∷ []) ∙ append-nil (device_events es)

pub output_of-put : (es : List Event) (bytes : List ℕ) → output_of es ≡ [] → output_of (es ++ Out bytes ∷ []) ≡ bytes
output_of-put es bytes none = output_of-append es (Out bytes ∷ []) ∙ ap (λ t. t ++ (bytes ++ [])) none ∙ append-nil bytes

-- device calls put nothing out
pub devices_silent : (es : List Event) → device_events es ≡ es → output_of es ≡ []
devices_silent es h = subst (λ (x : List Event). output_of x ≡ []) h (none es)
  where
    none : (xs : List Event) → output_of (device_events xs) ≡ []
    none [] = refl
    none (Out bytes ∷ xs) = none xs
    none (Read n ok ∷ xs) = none xs
    none (Write n content took ok ∷ xs) = none xs
    none (Sync ok ∷ xs) = none xs

pub still_none : {A : Type 0} (a : Option A) → StillTold a a
still_none a = record { told = λ x is. is }

pub still_then : {A : Type 0} (a b c : Option A) → StillTold a b → StillTold b c → StillTold a c
still_then a b c p q = record { told = λ x is. p.told x (q.told x is) }

pub takes_none : (a b : Option Script) → StillTold a b → Takes a b []
takes_none a b s = record { told = λ x is. (x, s.told x is, sym (append-nil x.taken), refl) }

pub takes_then : (a b c : Option Script) (xs ys : List ℕ) → Takes a b xs → Takes b c ys → Takes a c (xs ++ ys)
takes_then a b c xs ys p q = record {
  told = λ x is.
      let second = q.told x is in
      let first = p.told second.0 second.1 in (
        first.0,
        first.1,
        second.2 ∙ ap (λ t. t ++ ys) first.2 ∙ append_assoc first.0.taken xs ys,
        first.3 ∙ ap (λ t. xs ++ t) second.3 ∙ sym (append_assoc xs ys x.left),
      );
}

pub takes_fetched : (a b : Option Script) (count : ℕ) (out : List ℕ) → Fetches a b count out → Takes a b (take count out)
takes_fetched a b count out f = record { told = λ x is. let one = f.told x is in (one.0, one.1, one.2, one.3) }

none_failed : (part : List ℕ) → HasFailed (Out part ∷ []) → ⊥
none_failed part (inl h) = cc (h)
none_failed part (inr h) = h

-- a disk that rests goes on by output alone
rests_tells : (es : List Event) (a b : Told) → (HasFailed es → ⊥) → Rests es a b → Tells es a b
rests_tells es a b none r = record {
  adds = r.adds;
  blocks = r.blocks;
  later = omega (arith, r.faults);
  cause = λ bad. absurd (none bad);
}

module _ (t0 t1 : Told) (b0 b1 : Beside) where
  pub goes_none : t1 ≡ t0 → b1 ≡ b0 → Goes [] [] t0 t1 b0 b1
  goes_none t b = rw (t, b) (record {
    tells = tells_none t0;
    takes = takes_none b0.script b0.script (still_none b0.script);
    openings = refl;
    attach = refl;
    source = le_refl b0.source_faults;
    sink = le_refl b0.sink_faults;
  })

  -- the disk alone was called
  pub goes_kept : (es : List Event) → Tells es t0 t1 → KeepsBeside b0 b1 → Goes es [] t0 t1 b0 b1
  goes_kept es t k = record {
    tells = t;
    takes = takes_none b0.script b1.script k.script;
    openings = k.openings;
    attach = k.attach;
    source = omega (arith, k.source);
    sink = omega (arith, k.sink);
  }

  pub goes_fetched : (bytes : List ℕ) → Rests [] t0 t1 → KeepsAtFetch b0 b1 → b0.source_faults ≤ b1.source_faults → Takes b0.script b1.script bytes → Goes [] bytes t0 t1 b0 b1
  goes_fetched bytes r k later takes = record {
    tells = rests_tells [] t0 t1 (λ bad. bad) r;
    takes = takes;
    openings = k.openings;
    attach = k.attach;
    source = later;
    sink = omega (arith, k.sink);
  }

  pub goes_put : (part : List ℕ) → Rests (Out part ∷ []) t0 t1 → KeepsAtPut b0 b1 → b0.sink_faults ≤ b1.sink_faults → Goes (Out part ∷ []) [] t0 t1 b0 b1
  goes_put part r k later = record {
    tells = rests_tells (Out part ∷ []) t0 t1 (none_failed part) r;
    takes = takes_none b0.script b1.script k.script;
    openings = k.openings;
    attach = k.attach;
    source = omega (arith, k.source);
    sink = later;
  }

pub goes_then : (es fs : List Event) (xs ys : List ℕ) (t0 t1 t2 : Told) (b0 b1 b2 : Beside) → Goes es xs t0 t1 b0 b1 → Goes fs ys t1 t2 b1 b2 → Goes (es ++ fs) (xs ++ ys) t0 t2 b0 b2
goes_then es fs xs ys t0 t1 t2 b0 b1 b2 p q = record {
  tells = tells_then es fs t0 t1 t2 p.tells q.tells;
  takes = takes_then b0.script b1.script b2.script xs ys p.takes q.takes;
  openings = q.openings ∙ p.openings;
  attach = q.attach ∙ p.attach;
  source = le_trans p.source q.source;
  sink = le_trans p.sink q.sink;
}

-- where the history is told after, it was told before
pub told_before : (es : List Event) (a b : Option History) → Adds a b es → (h : History) → b ≡ Some h → (j : History) × (a ≡ Some j)
told_before es a b adds h is = let was = adds.told h is in (record { base = h.base; journal = was.0 }, was.1)
